-- What is among the items of a list.
use Rattle.std.proofs.Common.{◌≡◌, ◌⊎◌, ℕ, zero, suc, Bool, true, inl, inr, List, [], ◌∷◌, ◌++◌, Some, refl, sym, subst}
use Rattle.std.proofs.lemmas.Bool.{false≢true, or_cases, or_left, or_right, and_parts, and_from}
use Rattle.std.specs.Prelude.{slice_get}
use Rattle.std.specs.List.{list_any, list_all, AllByRecursion}

abbrev pub Among : {A : Type 0} → A → List A → Type 0
Among x [] = ⊥
Among x (y ∷ ys) = (x ≡ y) ⊎ Among x ys

pub any_among : {A : Type 0} (p : A → Bool) (xs : List A) → list_any p xs ≡ true → (x : A) × Among x xs × (p x ≡ true)
any_among p [] h = absurd (false≢true h)
any_among p (y ∷ ys) h = elim (or_cases (p y) (list_any p ys) h) [
  | inl e ↦ (y, inl refl, e)
  | inr e ↦ (let more = any_among p ys e in (more.0, inr more.1, more.2))
]

pub among_any : {A : Type 0} (p : A → Bool) (x : A) (xs : List A) → Among x xs → p x ≡ true → list_any p xs ≡ true
among_any p x [] m h = absurd m
among_any p x (y ∷ ys) (inl e) h = or_left (p y) (list_any p ys) (subst (λ z. p z ≡ true) e h)
among_any p x (y ∷ ys) (inr m) h = or_right (p y) (list_any p ys) (among_any p x ys m h)

pub all_among : {A : Type 0} (P : A → Type 0) (x : A) (xs : List A) → AllByRecursion P xs → Among x xs → P x
all_among P x [] all m = absurd m
all_among P x (y ∷ ys) all (inl e) = subst P (sym e) all.0
all_among P x (y ∷ ys) all (inr m) = all_among P x ys all.1 m

pub passes_among : {A : Type 0} (p : A → Bool) (x : A) (xs : List A) → list_all p xs ≡ true → Among x xs → p x ≡ true
passes_among p x [] h m = absurd m
passes_among p x (y ∷ ys) h (inl e) = subst (λ z. p z ≡ true) (sym e) (and_parts (p y) (list_all p ys) h).0
passes_among p x (y ∷ ys) h (inr m) = passes_among p x ys (and_parts (p y) (list_all p ys) h).1 m

pub among_get : {A : Type 0} (xs : List A) (i : ℕ) (x : A) → slice_get xs i ≡ Some x → Among x xs
among_get [] i x h = absurd cc
among_get (y ∷ ys) zero x h = let e : x ≡ y = cc in inl e
among_get (y ∷ ys) (suc i) x h = inr (among_get ys i x h)

pub among_front : {A : Type 0} (x : A) (xs ys : List A) → Among x xs → Among x (xs ++ ys)
among_front x [] ys m = absurd m
among_front x (z ∷ zs) ys (inl e) = inl e
among_front x (z ∷ zs) ys (inr m) = inr (among_front x zs ys m)

pub among_last : {A : Type 0} (x : A) (xs : List A) → Among x (xs ++ x ∷ [])
among_last x [] = inl refl
among_last x (y ∷ ys) = inr (among_last x ys)

pub all_last : {A : Type 0} (P : A → Type 0) (xs : List A) (x : A) → AllByRecursion P xs → P x → AllByRecursion P (xs ++ x ∷ [])
all_last P [] x all h = (h, tt)
all_last P (y ∷ ys) x all h = (all.0, all_last P ys x all.1 h)

pub passes_last : {A : Type 0} (p : A → Bool) (xs : List A) (x : A) → list_all p xs ≡ true → p x ≡ true → list_all p (xs ++ x ∷ []) ≡ true
passes_last p [] x all h = and_from (p x) true h refl
passes_last p (y ∷ ys) x all h =
    let parts = and_parts (p y) (list_all p ys) all in
    and_from (p y) (list_all p (ys ++ x ∷ [])) parts.0 (passes_last p ys x parts.1 h)
