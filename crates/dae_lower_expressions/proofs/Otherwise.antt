-- An expression that none of the arms before took.
use Rattle.std.proofs.Common.{◌≡◌, ℕ, Bool, refl}
use Rattle.std.specs.Prelude.{Box}
use Rattle.std.specs.declared.alloc.Global.{Global}
use Rattle.dae_base.specs.declared.LoadKind.{LoadKind}
use Rattle.dae_base.specs.declared.Place.{Place}
use Rattle.dae_meaning.specs.declared.Comparison.{Comparison}
use Rattle.dae_program.specs.declared.expressions.Expression.{Expression as Held}
use Rattle.dae_program.specs.declared.expressions.Expression.TheVariants as held
use Rattle.dae_program.specs.declared.expressions.Fixity.{Fixity}
use Rattle.dae_program.specs.declared.expressions.Target.{Target as HeldTarget}
use Rattle.dae_program.specs.Views.{view}
use Rattle.dae_lower_expressions.proofs.Nodes.{IsPlain, IsTested}

-- the box of a value
abbrev boxed : Box (Unit {0}) Global → Held → Box Held Global
boxed b e = record { ptr = b.ptr; alloc = b.alloc; value = e }

pub otherwise_plain : (e : Held)
    → ((p : Place) (v : ℕ) → e ≡ held.Variable p v → ⊥)
    → ((p : Place) (kind : LoadKind) (x : Box Held Global) → e ≡ held.Convert p kind x → ⊥)
    → ((p : Place) (x : Box Held Global) → e ≡ held.Not p x → ⊥)
    → ((p : Place) (comparison : Comparison) (turned : Bool) (x y : Box Held Global) → e ≡ held.Compare p comparison turned x y → ⊥)
    → ((p : Place) (x y z : Box Held Global) → e ≡ held.Conditional p x y z → ⊥)
    → ((x y : Box Held Global) → e ≡ held.Comma x y → ⊥)
    → ((p : Place) (kind : LoadKind) (t : HeldTarget) (change : ℕ) (fixity : Fixity) → e ≡ held.Step p kind t change fixity → ⊥)
    → ((p : Place) (x : Box Held Global) → e ≡ held.Putchar p x → ⊥)
    → IsPlain (view e)
otherwise_plain (held.Number k) _ _ _ _ _ _ _ _ = tt
otherwise_plain (held.Address object offset) _ _ _ _ _ _ _ _ = tt
otherwise_plain (held.Frame p offset) _ _ _ _ _ _ _ _ = tt
otherwise_plain (held.Variable p v) not_variable _ _ _ _ _ _ _ = absurd (not_variable p v refl)
otherwise_plain (held.Read' p kind checked b a) _ _ _ _ _ _ _ _ = tt
otherwise_plain (held.Convert' p kind b a) _ not_convert _ _ _ _ _ _ = absurd (not_convert p kind (boxed b a) refl)
otherwise_plain (held.Not' p b a) _ _ not_not _ _ _ _ _ = absurd (not_not p (boxed b a) refl)
otherwise_plain (held.Binary' p operator b a c d) _ _ _ _ _ _ _ _ = tt
otherwise_plain (held.Compare' p comparison turned b a c d) _ _ _ not_compare _ _ _ _ = absurd (not_compare p comparison turned (boxed b a) (boxed c d) refl)
otherwise_plain (held.And' p b a c d) _ _ _ _ _ _ _ _ = tt
otherwise_plain (held.Or' p b a c d) _ _ _ _ _ _ _ _ = tt
otherwise_plain (held.Conditional' p b a c d e f) _ _ _ _ not_conditional _ _ _ = absurd (not_conditional p (boxed b a) (boxed c d) (boxed e f) refl)
otherwise_plain (held.Comma' b a c d) _ _ _ _ _ not_comma _ _ = absurd (not_comma (boxed b a) (boxed c d) refl)
otherwise_plain (held.Assign' p kind t b a) _ _ _ _ _ _ _ _ = tt
otherwise_plain (held.Update' p kind t operator b a) _ _ _ _ _ _ _ _ = tt
otherwise_plain (held.Step p kind t change fixity) _ _ _ _ _ _ not_step _ = absurd (not_step p kind t change fixity refl)
otherwise_plain (held.Call' p f shape row) _ _ _ _ _ _ _ _ = tt
otherwise_plain (held.Putchar' p b a) _ _ _ _ _ _ _ not_putchar = absurd (not_putchar p (boxed b a) refl)
otherwise_plain (held.Exit' p b a) _ _ _ _ _ _ _ _ = tt
otherwise_plain (held.Abort p) _ _ _ _ _ _ _ _ = tt

pub otherwise_tested : (e : Held)
    → ((p : Place) (x : Box Held Global) → e ≡ held.Not p x → ⊥)
    → ((p : Place) (comparison : Comparison) (turned : Bool) (x y : Box Held Global) → e ≡ held.Compare p comparison turned x y → ⊥)
    → ((x y : Box Held Global) → e ≡ held.Comma x y → ⊥)
    → IsTested (view e)
otherwise_tested (held.Number k) _ _ _ = tt
otherwise_tested (held.Address object offset) _ _ _ = tt
otherwise_tested (held.Frame p offset) _ _ _ = tt
otherwise_tested (held.Variable p v) _ _ _ = tt
otherwise_tested (held.Read' p kind checked b a) _ _ _ = tt
otherwise_tested (held.Convert' p kind b a) _ _ _ = tt
otherwise_tested (held.Not' p b a) not_not _ _ = absurd (not_not p (boxed b a) refl)
otherwise_tested (held.Binary' p operator b a c d) _ _ _ = tt
otherwise_tested (held.Compare' p comparison turned b a c d) _ not_compare _ = absurd (not_compare p comparison turned (boxed b a) (boxed c d) refl)
otherwise_tested (held.And' p b a c d) _ _ _ = tt
otherwise_tested (held.Or' p b a c d) _ _ _ = tt
otherwise_tested (held.Conditional' p b a c d e f) _ _ _ = tt
otherwise_tested (held.Comma' b a c d) _ _ not_comma = absurd (not_comma (boxed b a) (boxed c d) refl)
otherwise_tested (held.Assign' p kind t b a) _ _ _ = tt
otherwise_tested (held.Update' p kind t operator b a) _ _ _ = tt
otherwise_tested (held.Step p kind t change fixity) _ _ _ = tt
otherwise_tested (held.Call' p f shape row) _ _ _ = tt
otherwise_tested (held.Putchar' p b a) _ _ _ = tt
otherwise_tested (held.Exit' p b a) _ _ _ = tt
otherwise_tested (held.Abort p) _ _ _ = tt
