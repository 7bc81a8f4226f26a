-- What is found in a list, and what none of a list passes.
use Rattle.std.proofs.Common.{◌≡◌, ℕ, zero, suc, ◌+◌, ◌<◌, length, drop, get_or, drop-cons, add-one, ap, sym, Bool, true, false, List, [], ◌∷◌, ◌++◌, append_assoc, refl, ◌∙◌, subst, arith}
use Rattle.std.specs.Prelude.{Some, None}
use Rattle.std.specs.List.{find, list_any, list_all, slice_get, AllByRecursion}
use Rattle.std.proofs.lemmas.Option.{same_Some}
use Rattle.std.proofs.lemmas.List.Folds.{list_any-append}
use Rattle.dae_base.proofs.Options.{or_false}
use Rattle.dae_base.proofs.Tests.{and_first, and_second}

pub find_more : {X : Type 0} (p : X → Bool) (xs ys : List X) (x : X) → find p xs ≡ Some x → find p (xs ++ ys) ≡ Some x
find_more p [] ys x h = cc
find_more p (z ∷ xs) ys x h = grind (arith, find_more p xs ys x)

-- what is found passes the test, and no test that fails on all passes on it
pub find_passes : {X : Type 0} (p : X → Bool) (xs : List X) (x : X) → find p xs ≡ Some x → p x ≡ true
find_passes p [] x h = cc
find_passes p (z ∷ xs) x h = grind (arith, find_passes p xs x)

pub find_fails : {X : Type 0} (p r : X → Bool) (xs : List X) (x : X) → find p xs ≡ Some x → list_any r xs ≡ false → r x ≡ false
find_fails p r [] x h k = cc
find_fails p r (z ∷ xs) x h k = let both = or_false (r z) (list_any r xs) k in grind (arith, find_fails p r xs x)

-- where none is found, each fails the test
pub none_passes : {X : Type 0} (f : X → Bool) (xs : List X) → find f xs ≡ None → AllByRecursion (λ (x : X). f x ≡ false) xs
none_passes f [] h = tt
none_passes {X} f (x ∷ xs) h = by (f x) refl (none_passes f xs) where
  by : (b : Bool) → f x ≡ b → (find f xs ≡ None → AllByRecursion (λ (x : X). f x ≡ false) xs) → AllByRecursion (λ (x : X). f x ≡ false) (x ∷ xs)
  by true e later = absurd (let found : find f (x ∷ xs) ≡ Some x = rw e refl in cc)
  by false e later = (e, later (rw e at h))

pub any_more : {X : Type 0} (p : X → Bool) (xs : List X) (x : X) → list_any p xs ≡ false → p x ≡ false → list_any p (xs ++ x ∷ []) ≡ false
any_more p xs x h k = rw (list_any-append p xs (x ∷ []), h, k)

-- from a place on
pub drop_at : {X : Type 0} (list : List X) (i : ℕ) (x : X) → i < length list → x ≡ get_or list i x → drop i list ≡ x ∷ drop (i + 1) list
drop_at {X} list i x lt is = rw add-one (rw (drop-cons list i x) (ap (λ (y : X). y ∷ drop (suc i) list) (sym is)))

-- one item between two lists stands at the end of the first or at the head of the second
pub append_further : {X : Type 0} (xs : List X) (x : X) (ys : List X) → (xs ++ x ∷ []) ++ ys ≡ xs ++ x ∷ ys
append_further xs x ys = append_assoc xs (x ∷ []) ys

-- what holds of each item holds of the item at a place, and what holds at each place holds of each item
pub all_at : {X : Type 0} (P : X → Type 0) (xs : List X) (k : ℕ) (x : X)
    → AllByRecursion P xs → slice_get xs k ≡ Some x → P x
all_at P [] k x h e = absurd (let c : None ≡ Some x = e in cc)
all_at P (y ∷ ys) zero x h e = subst P (same_Some y x e) h.0
all_at P (y ∷ ys) (suc k) x h e = all_at P ys k x h.1 e

pub all_by_place : {X : Type 0} (P : X → Type 0) (xs : List X)
    → ((k : ℕ) (x : X) → slice_get xs k ≡ Some x → P x) → AllByRecursion P xs
all_by_place P [] h = tt
all_by_place P (x ∷ xs) h = (h 0 x refl, all_by_place P xs (λ k. h (suc k)))

pub all_join : {X : Type 0} (P : X → Type 0) (xs ys : List X)
    → AllByRecursion P xs → AllByRecursion P ys → AllByRecursion P (xs ++ ys)
all_join P [] ys h k = k
all_join P (x ∷ xs) ys h k = (h.0, all_join P xs ys h.1 k)

-- the item at a place passes a test that each item passes
pub passes_at : {X : Type 0} (test : X → Bool) (xs : List X) (k : ℕ) (x : X)
    → list_all test xs ≡ true → slice_get xs k ≡ Some x → test x ≡ true
passes_at test [] k x h e = absurd (let c : None ≡ Some x = e in cc)
passes_at test (y ∷ ys) zero x h e =
    subst (λ z. test z ≡ true) (same_Some y x e) (and_first (test y) (list_all test ys) h)
passes_at test (y ∷ ys) (suc k) x h e = passes_at test ys k x (and_second (test y) (list_all test ys) h) e

-- what is made of equal parts is equal
pub ap_two : {A B C : Type 0} (make : A → B → C) {x a : A} {y b : B} → x ≡ a → y ≡ b → make x y ≡ make a b
ap_two make {x} {a} {y} {b} e d = ap (λ (z : _). make z y) e ∙ ap (make a) d

pub ap_three : {A B C D : Type 0} (make : A → B → C → D) {x a : A} {y b : B} {z c : C}
    → x ≡ a → y ≡ b → z ≡ c → make x y z ≡ make a b c
ap_three make {x} {a} {y} {b} {z} {c} e d f = ap_two (λ u v. make u v z) e d ∙ ap (make a b) f
