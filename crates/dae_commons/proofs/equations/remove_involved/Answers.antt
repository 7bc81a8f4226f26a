use Rattle.std.proofs.Common.{◌≡◌, ℕ, Bool, true, false, not, cond, if◌then◌else◌, List, [], ◌∷◌, refl, ap, ◌∙◌, rules}
use Rattle.std.proofs.lemmas.Fn.{filter_same}
use Rattle.std.specs.List.{filter}
use Rattle.dae_commons.specs.declared.equations.Equation.{Equation}
use Rattle.dae_commons.specs.Equations.{involves, without_variable}
use Rattle.dae_commons.proofs.equations.remove_involved.Goals as goal

abbrev stays : ℕ → Equation → Bool
stays v e = not (involves v e)

stays_is_without : (v : ℕ) (q : List Equation) → filter (stays v) q ≡ without_variable v q
stays_is_without v [] = refl
stays_is_without v (e ∷ q) = by (involves v e) (stays_is_without v q)
  where
    by : (b : Bool) → filter (stays v) q ≡ without_variable v q → cond (not b) (e ∷ filter (stays v) q) (filter (stays v) q) ≡ (if b then without_variable v q else e ∷ without_variable v q)
    by true rest = rest
    by false rest = ap (λ (es : List Equation). e ∷ es) rest

pub returns : goal.returns
returns c =
    filter_same _ (stays c.args.variable) _ (λ e b f' k. search rules) _ _ c.retain.ensures.filtered ∙ stays_is_without c.args.variable c.args.equations.now.items
