-- The slots that may be filled, from a place on.
use Rattle.std.proofs.Common.{◌≡◌, ℕ, zero, suc, ◌+◌, Bool, true, false, cond, filter, List, [], ◌∷◌, drop, length, refl, ap, ◌∙◌, add-one, arith}
use Rattle.std.specs.Prelude.{Option, Some, None, is_some, slice_get}
use Rattle.std.specs.Bool.{then_some}
use Rattle.dae_queues.specs.declared.Slot.{Slot}
use Rattle.dae_queues.specs.declared.StoreAt.{StoreAt}
use Rattle.dae_queues.specs.Lists.{can_be_filled}
use Rattle.dae_queues.specs.Rings.{fillable_at}

abbrev pub fronted : Option Slot → List Slot → List Slot
fronted None ss = ss
fronted (Some s) ss = s ∷ ss

here : (b : Bool) (s : Slot) (ss : List Slot) → cond b (s ∷ ss) ss ≡ fronted (then_some b s) ss
here true s ss = refl
here false s ss = refl

by_one : (sa : List StoreAt) (ss : List Slot) (i : ℕ) → filter (can_be_filled sa) (drop i ss) ≡ fronted (fillable_at sa ss i) (filter (can_be_filled sa) (drop (suc i) ss))
by_one sa [] zero = refl
by_one sa [] (suc i) = refl
by_one sa (s ∷ ss) zero = here (can_be_filled sa s) s (filter (can_be_filled sa) ss)
by_one sa (s ∷ ss) (suc i) = by_one sa ss i

pub fills_from : (sa : List StoreAt) (ss : List Slot) (i : ℕ) → filter (can_be_filled sa) (drop i ss) ≡ fronted (fillable_at sa ss i) (filter (can_be_filled sa) (drop (i + 1) ss))
fills_from sa ss i = rw (add-one i) (by_one sa ss i)

length-fronted : (o : Option Slot) (ss : List Slot) → length (fronted o ss) ≡ cond (is_some o) 1 0 + length ss
length-fronted None ss = omega arith
length-fronted (Some s) ss = omega arith

pub count_from : (sa : List StoreAt) (ss : List Slot) (i : ℕ) → length (filter (can_be_filled sa) (drop i ss)) ≡ cond (is_some (fillable_at sa ss i)) 1 0 + length (filter (can_be_filled sa) (drop (i + 1) ss))
count_from sa ss i = ap length (fills_from sa ss i) ∙ length-fronted (fillable_at sa ss i) _

-- the one at a place, counted from here on
pub nth_none : (sa : List StoreAt) (ss : List Slot) (i n : ℕ) → fillable_at sa ss i ≡ None → slice_get (filter (can_be_filled sa) (drop i ss)) n ≡ slice_get (filter (can_be_filled sa) (drop (i + 1) ss)) n
nth_none sa ss i n e = rw (fills_from sa ss i, e)

pub nth_some : (sa : List StoreAt) (ss : List Slot) (i n k : ℕ) (s : Slot) → fillable_at sa ss i ≡ Some s → n ≡ k + 1 → slice_get (filter (can_be_filled sa) (drop i ss)) n ≡ slice_get (filter (can_be_filled sa) (drop (i + 1) ss)) k
nth_some sa ss i n k s e f = rw (fills_from sa ss i, e, f, add-one k) refl

pub nth_here : (sa : List StoreAt) (ss : List Slot) (i : ℕ) (s : Slot) → fillable_at sa ss i ≡ Some s → slice_get (filter (can_be_filled sa) (drop i ss)) 0 ≡ Some s
nth_here sa ss i s e = rw (fills_from sa ss i, e)
