-- Slots, the search for a store that they meet, and fills.
use Rattle.std.proofs.Common.{◌≡◌, ℕ, zero, suc, ◌+◌, ◌-◌, ◌<◌, ◌≤◌, Bool, true, false, not, ◌&&◌, ◌||◌, List, ◌∷◌, ◌++◌, length, map, take, drop, set, get_or, refl, ap, sym, ◌∙◌, subst, arith, []}
use Rattle.std.specs.Prelude.{Some, None, nat_eq, is_none, if◌then◌else◌}
use Rattle.std.specs.List.{All, AllWithin, HoldsAt, list_any, list_all}
use Rattle.std.proofs.lemmas.Bool.Decides.{nat_tests}
use Rattle.std.proofs.lemmas.List.{get_or_default, get_or-take, length-append, length-take, take-append-le, take_all, at_drop_all, append-nil}
use Rattle.std.proofs.lemmas.List.Edits.{map_over_more}
use Rattle.std.proofs.lemmas.List.Folds.{list_any_more, list_any_at}
use Rattle.dae_queues.specs.Lists.{rest}
use Rattle.dae_ranges.specs.Ranges.{loaded_range}
use Rattle.dae_guard.specs.Sets.{Cell}
use Rattle.dae_guard.specs.declared.StoreCell.{StoreCell}
use Rattle.dae_guard.specs.Waiting.{touches, is_fillable, fill_first}
use Rattle.dae_guard.specs.Nodes.{all_filled}
use Rattle.dae_guard.specs.declared.slots.LoadSlot.{LoadSlot}
use Rattle.dae_guard.specs.Kept.{cell_of, cells_of, IsKept, IsClearTold, is_open, aged}

-- ---- the search

pub any_more_at : {X : Type 0} (p : X → Bool) (xs : List X) (i : ℕ) (x : X) → i < length xs → x ≡ get_or xs i x → list_any p (take i xs) ≡ false → p x ≡ false
    → list_any p (take (i + 1) xs) ≡ false
any_more_at p xs i x l e h k = list_any_more p xs i x l ∙ rw h (ap p (sym e) ∙ k)

pub any_at : {X : Type 0} (p : X → Bool) (xs : List X) (n i : ℕ) (x : X) → i < n → n ≤ length xs → x ≡ get_or xs i x → p x ≡ true → list_any p (take n xs) ≡ true
any_at p xs n i x l m e h =
    let small : i < length (take n xs) = omega (arith, length-take n xs) in
    list_any_at p (take n xs) i x small (ap p (get_or-take n xs i x l ∙ sym e) ∙ h)

pub kept_upto : (sa : List StoreCell) (s : LoadSlot) (n : ℕ) → s.older ≤ length sa → n ≤ s.older → list_any (touches (cell_of s)) (take n sa) ≡ false
    → IsKept sa (record s { clear = n })
kept_upto sa s n l m h = record { older = l; clear = m; none = h }

pub told_meets : (sa : List StoreCell) (s : LoadSlot) (n : ℕ) (d : StoreCell) → n < s.older → s.older ≤ length sa → touches (cell_of s) (get_or sa n d) ≡ true
    → not (list_any (touches (cell_of s)) (take s.older sa)) ≡ nat_eq n s.older
told_meets sa s n d l m h =
    let other : nat_eq n s.older ≡ false = grind (arith, nat_tests) in
    let here : n < length sa = omega arith in
    rw (any_at (touches (cell_of s)) sa s.older n (get_or sa n d) l m (get_or_default sa n d (get_or sa n d) here) h, other) refl

-- ---- all slots

-- a change that what is seen of an item doesn't show
pub seen_at : {X Y : Type 0} (f : X → Y) (xs : List X) (i : ℕ) (d a : X) → i < length xs → f a ≡ f (get_or xs i d) → map f (set xs i a) ≡ map f xs
seen_at f [] i d a l h = refl
seen_at f (y ∷ ys) zero d a l h = rw h refl
seen_at f (y ∷ ys) (suc i) d a l h = ap (λ zs. f y ∷ zs) (seen_at f ys i d a (omega arith) h)

-- slots that are changed one after another
pub map_over_at : {X : Type 0} (f : X → X) (xs ys : List X) (i : ℕ) (d : X) → i < length xs → length ys ≡ length xs → ys ≡ map f (take i xs) ++ drop i xs
    → set ys i (f (get_or ys i d)) ≡ map f (take (i + 1) xs) ++ drop (i + 1) xs
map_over_at f xs ys i d l m e = map_over_more f xs ys i (get_or ys i d) l e (get_or_default ys i d (get_or ys i d) (omega arith))

pub opens_any : (ss : List LoadSlot) (i : ℕ) (d e : LoadSlot) → i < length ss → is_open (get_or ss i d) ≡ true → is_open (get_or ss i e) ≡ true
opens_any ss i d e l h = subst (λ (s : LoadSlot). is_open s ≡ true) (get_or_default ss i d e l) h

-- ---- fills

pub fillable_is : (sa : List StoreCell) (s : LoadSlot) → IsClearTold sa s → is_fillable sa (cell_of s) ≡ is_open s
fillable_is sa s t = by s.filled
  where
    by : (b : Bool) → (is_none (if b then Some (loaded_range s.kind) else None) && not (list_any (touches (cell_of s)) (take s.older sa))) ≡ (not b && nat_eq s.clear s.older)
    by true = refl
    by false = t

-- the first open slot is at this place
abbrev OpensAt : List LoadSlot → ℕ → Type 0
OpensAt [] k = ⊥
OpensAt (s ∷ ss) zero = is_open s ≡ true
OpensAt (s ∷ ss) (suc k) = (is_open s ≡ false) × OpensAt ss k

abbrev NoneOpens : List LoadSlot → Type 0
NoneOpens [] = Unit {0}
NoneOpens (s ∷ ss) = (is_open s ≡ false) × NoneOpens ss

abbrev AllTold : List StoreCell → List LoadSlot → Type 0
AllTold sa [] = Unit {0}
AllTold sa (s ∷ ss) = IsClearTold sa s × AllTold sa ss

opens_at : (ss : List LoadSlot) (k : ℕ) → k < length ss → HoldsAt (λ s. is_open s ≡ true) ss k → AllWithin (λ s. is_open s ≡ false) ss 0 k → OpensAt ss k
opens_at [] k l h none = omega arith
opens_at (s ∷ ss) zero l h none = h s
opens_at (s ∷ ss) (suc k) l h none =
    (none 0 s (omega arith) (omega arith), opens_at ss k (omega arith) (λ d. h d) (λ j d a b. none (suc j) d (omega arith) (omega arith)))

none_opens : (ss : List LoadSlot) → All (λ s. is_open s ≡ false) ss → NoneOpens ss
none_opens [] h = tt
none_opens (s ∷ ss) h = (h 0 s (omega arith), none_opens ss (λ k d l. h (suc k) d (omega arith)))

all_told : (sa : List StoreCell) (ss : List LoadSlot) → All (IsClearTold sa) ss → AllTold sa ss
all_told sa [] h = tt
all_told sa (s ∷ ss) h = (h 0 s (omega arith), all_told sa ss (λ k d l. h (suc k) d (omega arith)))

fills_at : (sa : List StoreCell) (ss : List LoadSlot) (k : ℕ) (d : LoadSlot) → AllTold sa ss → OpensAt ss k
    → fill_first sa (cells_of ss) ≡ Some (cells_of (set ss k (record (get_or ss k d) { filled = true })))
fills_at sa [] k d t o = absurd o
fills_at sa (s ∷ ss) zero d t o =
    let e : is_fillable sa (cell_of s) ≡ true = fillable_is sa s t.0 ∙ o in rw e refl
fills_at sa (s ∷ ss) (suc k) d t o =
    let e : is_fillable sa (cell_of s) ≡ false = fillable_is sa s t.0 ∙ o.0 in
    rw (e, fills_at sa ss k d t.1 o.1) refl

fills_none : (sa : List StoreCell) (ss : List LoadSlot) → AllTold sa ss → NoneOpens ss → fill_first sa (cells_of ss) ≡ None
fills_none sa [] t o = refl
fills_none sa (s ∷ ss) t o =
    let e : is_fillable sa (cell_of s) ≡ false = fillable_is sa s t.0 ∙ o.0 in
    rw (e, fills_none sa ss t.1 o.1) refl

pub fill_at : (sa : List StoreCell) (ss : List LoadSlot) (k : ℕ) (d : LoadSlot) → All (IsClearTold sa) ss → k < length ss → HoldsAt (λ s. is_open s ≡ true) ss k
    → AllWithin (λ s. is_open s ≡ false) ss 0 k → fill_first sa (cells_of ss) ≡ Some (cells_of (set ss k (record (get_or ss k d) { filled = true })))
fill_at sa ss k d t l h none = fills_at sa ss k d (all_told sa ss t) (opens_at ss k l h none)

pub fill_none : (sa : List StoreCell) (ss : List LoadSlot) → All (IsClearTold sa) ss → All (λ s. is_open s ≡ false) ss → fill_first sa (cells_of ss) ≡ None
fill_none sa ss t none = fills_none sa ss (all_told sa ss t) (none_opens ss none)

-- ---- stores that drain and come

any_rest : {X : Type 0} (p : X → Bool) (xs : List X) (n : ℕ) → list_any p (take n xs) ≡ false → list_any p (take (n - 1) (rest xs)) ≡ false
any_rest p [] n h = none (n - 1)
  where
    none : (k : ℕ) → list_any p (take k []) ≡ false
    none zero = refl
    none (suc k) = refl
any_rest p (x ∷ xs) zero h = refl
any_rest p (x ∷ xs) (suc n) h = by (p x) h
  where
    by : (b : Bool) → (b || list_any p (take n xs)) ≡ false → list_any p (take (suc n - 1) xs) ≡ false
    by true e = absurd cc
    by false e = let n1 : suc n - 1 ≡ n = omega arith in rw n1 e

pub length_rest : {X : Type 0} (xs : List X) → length (rest xs) ≡ length xs - 1
length_rest [] = omega arith
length_rest (x ∷ xs) = omega arith

pub kept_aged : (sa : List StoreCell) (s : LoadSlot) → IsKept sa s → IsKept (rest sa) (aged s)
kept_aged sa s h =
    let a = h.older in let b = h.clear in let r = length_rest sa in
    record { older = omega arith; clear = omega arith; none = any_rest (touches (cell_of s)) sa s.clear h.none }

-- ---- what is seen of all slots

pub any_cells : (f : Cell → Bool) (ss : List LoadSlot) → list_any (λ s. f (cell_of s)) ss ≡ list_any f (cells_of ss)
any_cells f [] = refl
any_cells f (s ∷ ss) = ap (λ (b : Bool). f (cell_of s) || b) (any_cells f ss)

pub filled_cells : (ss : List LoadSlot) → list_all (λ s. s.filled) ss ≡ all_filled (cells_of ss)
filled_cells [] = refl
filled_cells (s ∷ ss) = by s.filled (filled_cells ss)
  where
    by : (b : Bool) → list_all (λ x. x.filled) ss ≡ all_filled (cells_of ss)
        → (b && list_all (λ x. x.filled) ss) ≡ ((if is_none (if b then Some (loaded_range s.kind) else None) then false else true) && all_filled (cells_of ss))
    by true e = e
    by false e = refl

pub mapped_all : {X : Type 0} (f : X → X) (xs ys : List X) (i : ℕ) → length xs ≤ i → ys ≡ map f (take i xs) ++ drop i xs → ys ≡ map f xs
mapped_all f xs ys i l e =
    let t : take i xs ≡ xs = take_all i xs l in
    let d : drop i xs ≡ [] = at_drop_all (λ zs. zs) xs i l in
    e ∙ rw (t, d) (append-nil (map f xs))
