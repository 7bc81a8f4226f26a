-- Items of lists by their numbers.
use Rattle.std.proofs.Common.{◌≡◌, ℕ, zero, suc, ◌<◌, List, [], ◌∷◌, length, get_or, Option, Some, None, refl, ap, sym, arith}
use Rattle.std.specs.Prelude.{slice_get}
use Rattle.dae_program.specs.Printing.{argument}

pub argument_some : {X : Type 0} (other : X) (xs : List X) (k : ℕ) (x : X) → slice_get xs k ≡ Some x → x ≡ argument other xs k
argument_some other [] k x e = absurd cc
argument_some {X} other (y ∷ xs) zero x e = ap (λ (o : Option X). elim o [ None ↦ y | Some z ↦ z ]) (sym e)
argument_some other (y ∷ xs) (suc k) x e = argument_some other xs k x e

pub argument_none : {X : Type 0} (other : X) (xs : List X) (k : ℕ) → slice_get xs k ≡ None → other ≡ argument other xs k
argument_none other [] k e = refl
argument_none other (y ∷ xs) zero e = absurd cc
argument_none other (y ∷ xs) (suc k) e = argument_none other xs k e

-- a default is as good as another where there is an item
pub any_default : {X : Type 0} (xs : List X) (i : ℕ) (d : X) → i < length xs → get_or xs i d ≡ get_or xs i (get_or xs i d)
any_default [] i d lt = absurd (omega (arith, lt))
any_default (x ∷ xs) zero d lt = refl
any_default (x ∷ xs) (suc i) d lt = any_default xs i d (omega (arith, lt))
