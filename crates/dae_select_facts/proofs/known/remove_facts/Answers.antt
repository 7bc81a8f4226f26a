use Rattle.std.proofs.Common.{◌≡◌, Bool, true, false, not, cond, if◌then◌else◌, List, [], ◌∷◌, refl, ap, ◌∙◌, rules}
use Rattle.std.proofs.lemmas.Fn.{filter_same}
use Rattle.std.specs.List.{filter}
use Rattle.dae_ir.specs.Classes.{VariableSet}
use Rattle.dae_select_walks.specs.declared.Fact.{Fact}
use Rattle.dae_select_walks.specs.Facts.{is_about, just, less}
use Rattle.dae_select_facts.proofs.known.remove_facts.Goals as goal

abbrev stays : VariableSet → Fact → Bool
stays set fact = not (is_about set fact)

stays_is_less : (set : VariableSet) (facts : List Fact) → filter (stays set) facts ≡ less set facts
stays_is_less set [] = refl
stays_is_less set (fact ∷ facts) = by (is_about set fact) (stays_is_less set facts)
  where
    by : (b : Bool) → filter (stays set) facts ≡ less set facts → cond (not b) (fact ∷ filter (stays set) facts) (filter (stays set) facts) ≡ (if b then less set facts else fact ∷ less set facts)
    by true rest = rest
    by false rest = ap (λ (fs : List Fact). fact ∷ fs) rest

pub returns : goal.returns
returns c =
    filter_same _ (stays (just c.args.variable)) _ (λ fact b f' k. search rules) _ _ c.retain.ensures.filtered ∙ stays_is_less (just c.args.variable) c.args.facts.now.items
