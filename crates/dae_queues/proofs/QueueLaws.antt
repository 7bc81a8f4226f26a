-- What is put in at the back of a queue leaves its front, and what is taken from the front leaves room.
use Rattle.std.proofs.Common.{◌≡◌, ℕ, true, List, [], ◌∷◌, ◌++◌, length, refl, ap, ◌∙◌, arith}
use Rattle.std.specs.Prelude.{is_some, nat_lt}
use Rattle.std.proofs.lemmas.Bool.Decides.{nat_tests}
use Rattle.dae_queues.specs.declared.Slot.{Slot}
use Rattle.dae_queues.specs.Lists.{first, first_value, rest}

pub first_more : {X : Type 0} (xs ys : List X) → is_some (first xs) ≡ true → first (xs ++ ys) ≡ first xs
first_more [] ys h = cc
first_more (x ∷ xs) ys h = refl

pub first_value_more : (xs ys : List Slot) → is_some (first_value xs) ≡ true → first_value (xs ++ ys) ≡ first_value xs
first_value_more [] ys h = cc
first_value_more (x ∷ xs) ys h = refl

pub rest_more : {X : Type 0} (xs ys : List X) → is_some (first xs) ≡ true → rest (xs ++ ys) ≡ rest xs ++ ys
rest_more [] ys h = cc
rest_more (x ∷ xs) ys h = refl

pub rest_slots_more : (xs ys : List Slot) → is_some (first_value xs) ≡ true → rest (xs ++ ys) ≡ rest xs ++ ys
rest_slots_more [] ys h = cc
rest_slots_more (x ∷ xs) ys h = refl

pub room_more : {X : Type 0} (xs : List X) (d : ℕ) → nat_lt (length xs) d ≡ true → nat_lt (length (rest xs)) d ≡ true
room_more [] d h = h
room_more (x ∷ xs) d h = grind (arith, nat_tests)

pub some_first_more : {X : Type 0} (xs ys : List X) → is_some (first xs) ≡ true → is_some (first (xs ++ ys)) ≡ true
some_first_more xs ys h = ap is_some (first_more xs ys h) ∙ h

pub some_value_more : (xs ys : List Slot) → is_some (first_value xs) ≡ true → is_some (first_value (xs ++ ys)) ≡ true
some_value_more xs ys h = ap is_some (first_value_more xs ys h) ∙ h
