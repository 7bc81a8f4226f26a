-- The budget of a linked image is exact.
use Rattle.std.proofs.Common.{◌≡◌, ◌↔◌, ℕ, List, subst}
use Rattle.dae_base.specs.Budgets.{depth}
use Rattle.dae_base.specs.declared.Depths.{Depths}
use Rattle.dae_base.specs.declared.Queue.{Queue}
use Rattle.dae_base.specs.declared.Side.{Side}
use Rattle.dae_base.specs.declared.Side.TheVariants.{A, E}
use Rattle.dae_ir.specs.declared.stream.Pair.{Pair}
use Rattle.dae_ir.specs.declared.stream.Stream.{Stream}
use Rattle.dae_link_faithful.specs.Uses.{IsUnused, AllOfSide, AllUntouched, IsBalanced}
use Rattle.dae_select_values.specs.Sides.{is_a}
use Rattle.dae_link.specs.Sides.{HasUsesOf}

of_side : (stream : Stream) (s : Side) (words : List ℕ) → stream.side ≡ s → HasUsesOf stream words → AllOfSide (is_a s) stream.functions → (q : Queue) → IsUnused s q words ↔ AllUntouched (is_a s) q stream.functions
of_side stream s words same uses = subst (λ (t : Side). AllOfSide (is_a t) stream.functions → (q : Queue) → IsUnused t q words ↔ AllUntouched (is_a t) q stream.functions) same uses

pub exact : (pair : Pair) (budget : Depths) (code_a code_e : List ℕ) → pair.a.side ≡ A → pair.e.side ≡ E → HasUsesOf pair.a code_a → HasUsesOf pair.e code_e → IsBalanced pair budget
    → (q : Queue) → depth q budget ≡ 0 ↔ (IsUnused A q code_a × IsUnused E q code_e)
exact pair budget code_a code_e is_a' is_e uses_a uses_e balanced q =
    let a = of_side pair.a A code_a is_a' uses_a balanced.a q in
    let e = of_side pair.e E code_e is_e uses_e balanced.e q in
    let both = balanced.exact q in
    ((λ zero. let free = both.0 zero in (a.1 free.0, e.1 free.1)), (λ unused. both.1 (a.0 unused.0, e.0 unused.1)))
