-- The slots at the front that have their value.
use Rattle.std.proofs.Common.{◌≡◌, ℕ, zero, suc, ◌+◌, ◌-◌, ◌≤◌, Bool, true, false, cond, ◌||◌, filter, List, [], ◌∷◌, ◌++◌, drop, length, refl, ap, ◌∙◌, add-one, arith}
use Rattle.std.proofs.lemmas.Bool.Decides.{nat_tests}
use Rattle.std.specs.Prelude.{Option, Some, None, is_some, is_none, nat_lt, slice_get, slice_set}
use Rattle.std.specs.List.{list_any}
use Rattle.dae_queues.specs.declared.Slot.{Slot}
use Rattle.dae_queues.specs.declared.StoreAt.{StoreAt}
use Rattle.dae_queues.specs.Lists.{can_be_filled, first_unfilled, holds, rest, waits}
use Rattle.dae_queues.specs.Rings.{has_value, is_held, AreFilled}

pub within : (n : ℕ) (ss : List Slot) → AreFilled n ss → n ≤ length ss
within zero ss h = omega arith
within (suc n) [] h = absurd h
within (suc n) (s ∷ ss) h = let w = within n ss h.1 in omega (arith, w)

not_none : (v : Option ℕ) → is_some v ≡ true → is_none v ≡ false
not_none None h = cc
not_none (Some x) h = refl

-- none of them may be filled, and none holds a store
pub skip_fillable : (sa : List StoreAt) (n : ℕ) (ss : List Slot) → AreFilled n ss → filter (can_be_filled sa) (drop n ss) ≡ filter (can_be_filled sa) ss
skip_fillable sa zero ss h = refl
skip_fillable sa (suc n) [] h = refl
skip_fillable sa (suc n) (s ∷ ss) h = rw (not_none s.value h.0) (skip_fillable sa n ss h.1)

pub skip_holds : (a : StoreAt) (n : ℕ) (ss : List Slot) → AreFilled n ss → list_any (holds a) (drop n ss) ≡ list_any (holds a) ss
skip_holds a zero ss h = refl
skip_holds a (suc n) [] h = refl
skip_holds a (suc n) (s ∷ ss) h = rw (not_none s.value h.0) (skip_holds a n ss h.1)

-- they stay so behind a new slot, where the front one is taken, and where a slot gets its value
pub filled_more : (n : ℕ) (ss ts : List Slot) → AreFilled n ss → AreFilled n (ss ++ ts)
filled_more zero ss ts h = tt
filled_more (suc n) [] ts h = absurd h
filled_more (suc n) (s ∷ ss) ts h = (h.0, filled_more n ss ts h.1)

pub filled_set : (n : ℕ) (ss : List Slot) (i : ℕ) (z : Slot) → is_some z.value ≡ true → AreFilled n ss → AreFilled n (slice_set ss i z)
filled_set zero ss i z v h = tt
filled_set (suc n) [] i z v h = absurd h
filled_set (suc n) (s ∷ ss) zero z v h = (v, h.1)
filled_set (suc n) (s ∷ ss) (suc i) z v h = (h.0, filled_set n ss i z v h.1)

pub one_more : (n : ℕ) (ss : List Slot) → AreFilled n ss → has_value (slice_get ss n) ≡ true → AreFilled (n + 1) ss
one_more zero [] h v = cc
one_more zero (z ∷ ss) h v = (v, tt)
one_more (suc n) [] h v = absurd h
one_more (suc n) (z ∷ ss) h v = let e : suc n + 1 ≡ suc (n + 1) = omega arith in rw e (h.0, one_more n ss h.1 v)

-- behind them the first slot without a value is the first one that waits
is_none_of : (v : Option ℕ) → is_some v ≡ false → is_none v ≡ true
is_none_of None h = refl
is_none_of (Some x) h = cc

pub first_here : (n : ℕ) (ss : List Slot) → AreFilled n ss → has_value (slice_get ss n) ≡ false → first_unfilled ss ≡ n
first_here zero [] h v = refl
first_here zero (s ∷ ss) h v = rw (is_none_of s.value v) refl
first_here (suc n) [] h v = absurd h
first_here (suc n) (s ∷ ss) h v = rw (not_none s.value h.0) (ap suc (first_here n ss h.1 v))

pub first_past : (n : ℕ) (ss : List Slot) → AreFilled n ss → length ss ≤ n → first_unfilled ss ≡ length ss
first_past zero [] h l = refl
first_past zero (s ∷ ss) h l = absurd (omega (arith, l))
first_past (suc n) [] h l = absurd h
first_past (suc n) (s ∷ ss) h l = rw (not_none s.value h.0) (ap suc (first_past n ss h.1 (omega (arith, l))))

zero_lt : (n : ℕ) → nat_lt 0 (suc n) ≡ true
zero_lt n = grind (arith, nat_tests)

lt_suc : (a b : ℕ) → nat_lt (suc a) (suc b) ≡ nat_lt a b
lt_suc a b = by (nat_lt a b) refl where
  by : (r : Bool) → nat_lt a b ≡ r → nat_lt (suc a) (suc b) ≡ r
  by true e = grind (arith, nat_tests)
  by false e = grind (arith, nat_tests)

-- the first slot without a value is no place past the last exactly where some slot waits
pub some_waits : (ss : List Slot) → nat_lt (first_unfilled ss) (length ss) ≡ list_any waits ss
some_waits [] = refl
some_waits (s ∷ ss) = go (is_none s.value) (some_waits ss) where
  go : (b : Bool) → nat_lt (first_unfilled ss) (length ss) ≡ list_any waits ss → nat_lt (cond b 0 (suc (first_unfilled ss))) (suc (length ss)) ≡ (b || list_any waits ss)
  go true so = zero_lt (length ss)
  go false so = lt_suc (first_unfilled ss) (length ss) ∙ so

-- where none waits none may be filled
pub none_fillable : (sa : List StoreAt) (ss : List Slot) → list_any waits ss ≡ false → filter (can_be_filled sa) ss ≡ []
none_fillable sa [] h = refl
none_fillable sa (s ∷ ss) h = go (is_none s.value) refl h (none_fillable sa ss) where
  go : (b : Bool) → is_none s.value ≡ b → (b || list_any waits ss) ≡ false → (list_any waits ss ≡ false → filter (can_be_filled sa) ss ≡ []) → filter (can_be_filled sa) (s ∷ ss) ≡ []
  go true e k so = cc
  go false e k so = rw e (so k)

-- whether a slot holds a store, from a place on
held_by : (a : StoreAt) (ss : List Slot) (i : ℕ) → list_any (holds a) (drop i ss) ≡ (is_held a (slice_get ss i) || list_any (holds a) (drop (suc i) ss))
held_by a [] zero = refl
held_by a [] (suc i) = refl
held_by a (s ∷ ss) zero = refl
held_by a (s ∷ ss) (suc i) = held_by a ss i

pub held_from : (a : StoreAt) (ss : List Slot) (i : ℕ) → list_any (holds a) (drop i ss) ≡ (is_held a (slice_get ss i) || list_any (holds a) (drop (i + 1) ss))
held_from a ss i = rw (add-one i) (held_by a ss i)

-- past the last slot there is none
pub held_past : (a : StoreAt) (ss : List Slot) (i : ℕ) → length ss ≤ i → list_any (holds a) (drop i ss) ≡ false
held_past a [] zero h = refl
held_past a [] (suc i) h = refl
held_past a (s ∷ ss) zero h = absurd (omega (arith, h))
held_past a (s ∷ ss) (suc i) h = held_past a ss i (omega (arith, h))
