-- Functions and programs in whose place others stand.
use Rattle.std.proofs.Common.{◌≡◌, ℕ, ◌+◌, ◌||◌, List, length, ap, ◌∙◌}
use Rattle.std.specs.Prelude.{nat_lt, slice_get}
use Rattle.dae_meaning.specs.Operations.{passed}
use Rattle.dae_meaning.specs.Variables.{Env}
use Rattle.dae_meaning.specs.Worlds.{World}
use Rattle.dae_ir.specs.Form.{Program, fault}
use Rattle.dae_ir.specs.Scope.{TakesArguments}
use Rattle.dae_ir.specs.declared.form.Check.TheVariants.{Room}
use Rattle.dae_ir.specs.declared.form.Function.{Function}

-- functions have as many parameters, and are as many
pub record KeepsArguments (fs gs : List Function) : Type 0 where
  pub count : length gs ≡ length fs
  pub takes : (g count : ℕ) → TakesArguments (slice_get fs g) count → TakesArguments (slice_get gs g) count

-- where frames and the limit on calls are the same, there is room for the same calls
pub same_room : (p q : Program) → ((g : ℕ) → q.frame g ≡ p.frame g) → q.limit ≡ p.limit → (g : ℕ) (e : Env) (w : World) → fault q (Room g) w e ≡ fault p (Room g) w e
same_room p q frames limits g e w =
    ap (λ (limit : ℕ). passed (nat_lt limit (w.depth + 1) || nat_lt (length w.memory) (w.top + q.frame g))) limits
    ∙ ap (λ (frame : ℕ). passed (nat_lt p.limit (w.depth + 1) || nat_lt (length w.memory) (w.top + frame))) (frames g)
