-- What memory does to the queues, beside what a side does.
use Rattle.std.proofs.Common.{◌≡◌, ◌≢◌, ℕ, Bool, true, false, cond, not, ◌&&◌, ◌||◌, List, [], ◌∷◌, ◌++◌, map, refl, ap, sym, ◌∙◌, arith}
use Rattle.std.specs.Prelude.{Option, Some, None, is_some, is_none, nat_eq, option_and_then, option_map}
use Rattle.std.specs.List.{list_any, find}
use Rattle.std.specs.Bool.{then_some}
use Rattle.std.proofs.lemmas.List.Folds.{list_any-append}
use Rattle.std.proofs.lemmas.Bool.Decides.{nat_tests}
use Rattle.dae_base.proofs.Laws.{or_false}
use Rattle.dae_queues.specs.declared.Slot.{Slot}
use Rattle.dae_queues.specs.declared.StoreAt.{StoreAt}
use Rattle.dae_queues.specs.Lists.{first_value, rest, is_waiting, waiting, give, with_value, holds}

-- ---- slots that wait

pub filled_not : (b : Bool) (o : Option ℕ) → is_some o ≡ true → (b && is_none o) ≡ false
filled_not true (Some x) h = refl
filled_not false (Some x) h = refl
filled_not b None h = cc

pub find_rest : (number : ℕ) (ss : List Slot) (s : Slot) → is_some (first_value ss) ≡ true → waiting number ss ≡ Some s → waiting number (rest ss) ≡ Some s
find_rest number [] s f h = h
find_rest number (z ∷ ss) s f h = rw (filled_not (nat_eq z.number number) z.value f) at h

pub map_rest : {X Y : Type 0} (f : X → Y) (xs : List X) → map f (rest xs) ≡ rest (map f xs)
map_rest f [] = refl
map_rest f (x ∷ xs) = refl

pub any_rest : {X : Type 0} (p : X → Bool) (xs : List X) → list_any p xs ≡ false → list_any p (rest xs) ≡ false
any_rest p [] h = h
any_rest p (x ∷ xs) h = (or_false (p x) (list_any p xs) h).1

pub first_value_given : (number w : ℕ) (ss : List Slot) → is_some (first_value ss) ≡ true → first_value (with_value number w ss) ≡ first_value ss
first_value_given number w [] h = refl
first_value_given number w (s ∷ ss) h = rw (filled_not (nat_eq s.number number) s.value h)

-- one slot waits under one number
pub apart : (n m : ℕ) (s : Slot) → n ≢ m → is_waiting n s ≡ true → is_waiting m s ≡ false
apart n m s ne h = grind (arith, nat_tests)

pub give_no : (n w : ℕ) (s : Slot) → is_waiting n s ≡ false → give n w s ≡ s
give_no n w s h = rw h

given_other_by : (n m w : ℕ) (s : Slot) → n ≢ m → (b : Bool) → is_waiting n s ≡ b → is_waiting m (cond b (record s { value = Some w }) s) ≡ is_waiting m s
given_other_by n m w s ne true h = filled_not (nat_eq s.number m) (Some w) refl ∙ sym (apart n m s ne h)
given_other_by n m w s ne false h = refl

pub given_other : (n m w : ℕ) (s : Slot) → n ≢ m → is_waiting m (give n w s) ≡ is_waiting m s
given_other n m w s ne = given_other_by n m w s ne (is_waiting n s) refl

waiting_other_by : (n m w : ℕ) (s : Slot) (o : Option Slot) → n ≢ m → (c : Bool) → is_waiting m s ≡ c → cond c (Some (give n w s)) o ≡ cond c (Some s) o
waiting_other_by n m w s o ne true h = ap Some (give_no n w s (apart m n s (λ e. ne (sym e)) h))
waiting_other_by n m w s o ne false h = refl

pub waiting_other : (n m w : ℕ) (ss : List Slot) → n ≢ m → waiting m (with_value n w ss) ≡ waiting m ss
waiting_other n m w [] ne = refl
waiting_other n m w (s ∷ ss) ne = rw (given_other n m w s ne, waiting_other n m w ss ne) (waiting_other_by n m w s (waiting m ss) ne (is_waiting m s) refl)

give_twice_by : (n m v w : ℕ) (s : Slot) → n ≢ m → (b : Bool) → is_waiting n s ≡ b → give n v (give m w s) ≡ give m w (give n v s)
give_twice_by n m v w s ne true h =
    let no : is_waiting m s ≡ false = apart n m s ne h in
    let no' : is_waiting m (give n v s) ≡ false = given_other n m v s ne ∙ no in
    ap (give n v) (give_no m w s no) ∙ sym (give_no m w (give n v s) no')
give_twice_by n m v w s ne false h =
    let no : is_waiting n (give m w s) ≡ false = given_other m n w s (λ e. ne (sym e)) ∙ h in
    give_no n v (give m w s) no ∙ sym (ap (give m w) (give_no n v s h))

pub give_twice : (n m v w : ℕ) (s : Slot) → n ≢ m → give n v (give m w s) ≡ give m w (give n v s)
give_twice n m v w s ne = give_twice_by n m v w s ne (is_waiting n s) refl

pub with_value_twice : (n m v w : ℕ) (ss : List Slot) → n ≢ m → with_value n v (with_value m w ss) ≡ with_value m w (with_value n v ss)
with_value_twice n m v w [] ne = refl
with_value_twice n m v w (s ∷ ss) ne = rw (give_twice n m v w s ne, with_value_twice n m v w ss ne)

holds_given_by : (a : StoreAt) (w : ℕ) (s : Slot) (b : Bool) → holds a s ≡ false → holds a (cond b (record s { value = Some w }) s) ≡ false
holds_given_by a w s true h = refl
holds_given_by a w s false h = h

pub holds_given : (a : StoreAt) (n w : ℕ) (s : Slot) → holds a s ≡ false → holds a (give n w s) ≡ false
holds_given a n w s h = holds_given_by a w s (is_waiting n s) h

pub any_holds_given : (a : StoreAt) (n w : ℕ) (ss : List Slot) → list_any (holds a) ss ≡ false → list_any (holds a) (with_value n w ss) ≡ false
any_holds_given a n w [] h = refl
any_holds_given a n w (s ∷ ss) h =
    let both = or_false (holds a s) (list_any (holds a) ss) h in rw (holds_given a n w s both.0, any_holds_given a n w ss both.1)
