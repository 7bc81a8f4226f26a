-- Tests that agree find the same.
use Rattle.std.proofs.Common.{◌≡◌, Bool, false, List, [], ◌∷◌, None, refl}
use Rattle.std.specs.Prelude.{find}
use Rattle.std.specs.List.{list_any}

pub found_alike : {X : Type 0} (p q : X → Bool) → ((x : X) → p x ≡ q x) → (xs : List X) → find p xs ≡ find q xs
found_alike p q h [] = refl
found_alike p q h (x ∷ xs) = rw (h x, found_alike p q h xs) refl

pub any_alike : {X : Type 0} (p q : X → Bool) → ((x : X) → p x ≡ q x) → (xs : List X) → list_any p xs ≡ list_any q xs
any_alike p q h [] = refl
any_alike p q h (x ∷ xs) = rw (h x, any_alike p q h xs) refl

pub none_found : {X : Type 0} (p : X → Bool) → ((x : X) → p x ≡ false) → (xs : List X) → find p xs ≡ None
none_found p h [] = refl
none_found p h (x ∷ xs) = rw (h x, none_found p h xs) refl
