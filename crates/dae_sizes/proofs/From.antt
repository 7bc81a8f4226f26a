-- Laws of lists that come from one another.
use Rattle.std.proofs.Common.{List, [], ◌∷◌, inl, inr}
use Rattle.std.specs.List.{AllByRecursion}
use Rattle.dae_sizes.specs.From.{AreFrom}

-- two lists of the same length, element by element
abbrev pub AreAlike : {Y Z : Type 0} → (Y → Z → Type 0) → List Y → List Z → Type 0
AreAlike T [] [] = Unit {0}
AreAlike T [] (z ∷ zs) = ⊥
AreAlike T (y ∷ ys) [] = ⊥
AreAlike T (y ∷ ys) (z ∷ zs) = T y z × AreAlike T ys zs

pub from_alike : {X Y Z : Type 0} {R : X → Y → Type 0} {T : Y → Z → Type 0} {S : X → Z → Type 0} → ((x : X) (y : Y) (z : Z) → R x y → T y z → S x z) →
    (xs : List X) (ys : List Y) (zs : List Z) → AreFrom R xs ys → AreAlike T ys zs → AreFrom S xs zs
from_alike h xs [] [] r t = tt
from_alike h xs [] (z ∷ zs) r t = absurd t
from_alike h xs (y ∷ ys) [] r t = tt
from_alike h [] (y ∷ ys) (z ∷ zs) r t = absurd r
from_alike h (x ∷ xs) (y ∷ ys) (z ∷ zs) (inl r) t = inl (h x y z r.0 t.0, from_alike h xs ys zs r.1 t.1)
from_alike h (x ∷ xs) (y ∷ ys) (z ∷ zs) (inr r) t = inr (from_alike h xs (y ∷ ys) (z ∷ zs) r t)

-- with what holds of each of the second
pub alike_all : {Y Z : Type 0} (T : Y → Z → Type 0) (P : Z → Type 0) (ys : List Y) (zs : List Z) → AllByRecursion P zs → AreAlike T ys zs → AreAlike (λ y z. T y z × P z) ys zs
alike_all T P [] [] p t = tt
alike_all T P [] (z ∷ zs) p t = absurd t
alike_all T P (y ∷ ys) [] p t = absurd t
alike_all T P (y ∷ ys) (z ∷ zs) p t = ((t.0, p.0), alike_all T P ys zs p.1 t.1)
