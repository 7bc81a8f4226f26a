-- Each change of a queue keeps its numbers in order.
use Rattle.std.proofs.Common.{◌≡◌, ℕ, ◌+◌, ◌<◌, ◌≤◌, Bool, true, false, cond, List, [], ◌∷◌, ◌++◌, map, refl, ap, sym, subst, arith}
use Rattle.std.specs.Prelude.{Option, Some, is_some}
use Rattle.std.specs.List.{AllByRecursion, find}
use Rattle.std.proofs.lemmas.List.{map-append}
use Rattle.std.proofs.lemmas.Bool.Decides.{nat_tests}
use Rattle.dae_base.specs.declared.Width.{Width}
use Rattle.dae_base.specs.declared.LoadKind.{LoadKind}
use Rattle.dae_queues.specs.declared.Slot.{Slot}
use Rattle.dae_queues.specs.declared.StoreAt.{StoreAt}
use Rattle.dae_queues.specs.Lists.{Slots, rest, first_value, without_front, with_slot, new_slot, is_waiting, waiting, give, with_value, next_store}
use Rattle.dae_queues.specs.Numbers.{CountsUp, SlotsCount}

pub counts_le : (low : ℕ) (ns : List ℕ) (high : ℕ) → CountsUp low ns high → low ≤ high
counts_le low [] high h = omega arith
counts_le low (n ∷ ns) high h = let k = counts_le (low + 1) ns high h.1 in omega arith

pub counts_more : (low : ℕ) (ns : List ℕ) (high : ℕ) → CountsUp low ns high → CountsUp low (ns ++ high ∷ []) (high + 1)
counts_more low [] high h = (sym h, ap (λ n. n + 1) h)
counts_more low (n ∷ ns) high h = (h.0, counts_more (low + 1) ns high h.1)

-- what waits has a number below the next one
pub counts_find : (low n high : ℕ) (ss : List Slot) (s : Slot) → CountsUp low (map (λ (slot : Slot). slot.number) ss) high → waiting n ss ≡ Some s → n < high
counts_find low n high [] s h f = cc
counts_find low n high (z ∷ ss) s h f =
    let k = counts_le (low + 1) (map (λ (slot : Slot). slot.number) ss) high h.1 in
    grind (arith, nat_tests, counts_find (low + 1) n high ss s h.1, k, h.0)

some_gives : {X : Type 0} (P : X → Type 0) (b : Bool) (z x : X) (o : Option X) → P z → (o ≡ Some x → P x) → cond b (Some z) o ≡ Some x → P x
some_gives P true z x o pz k f = let e : z ≡ x = cc in subst P e pz
some_gives P false z x o pz k f = k f

pub all_find : {X : Type 0} (P : X → Type 0) (p : X → Bool) (xs : List X) (x : X) → AllByRecursion P xs → find p xs ≡ Some x → P x
all_find P p [] x h f = cc
all_find P p (z ∷ xs) x h f = some_gives P (p z) z x (find p xs) h.0 (all_find P p xs x h.1) f

-- the next store is older than the next address
pub counts_next : (low high : ℕ) (as' : List StoreAt) (ws : List ℕ) (s : StoreAt × ℕ) → CountsUp low (map (λ (a : StoreAt). a.number) as') high → next_store as' ws ≡ Some s → s.0.number < high
counts_next low high [] ws s h n = cc
counts_next low high (a ∷ as') [] s h n = cc
counts_next low high (a ∷ as') (w ∷ ws) s h n =
    let k = counts_le (low + 1) (map (λ (a : StoreAt). a.number) as') high h.1 in
    let same : (a, w) ≡ s = cc in
    let e : a.number ≡ s.0.number = ap (λ z. z.0.number) same in
    let f : a.number ≡ low = h.0 in
    omega arith

pub stamps_more : (issued : ℕ) (ss : List Slot) (s : Slot) → AllByRecursion (λ slot. slot.stamp ≤ issued) ss → s.stamp ≤ issued → AllByRecursion (λ slot. slot.stamp ≤ issued) (ss ++ s ∷ [])
stamps_more issued [] s h k = (k, tt)
stamps_more issued (z ∷ ss) s h k = (h.0, stamps_more issued ss s h.1 k)

pub stamps_up : (issued : ℕ) (ss : List Slot) → AllByRecursion (λ slot. slot.stamp ≤ issued) ss → AllByRecursion (λ slot. slot.stamp ≤ issued + 1) ss
stamps_up issued [] h = tt
stamps_up issued (z ∷ ss) h = let k : z.stamp ≤ issued = h.0 in (omega arith, stamps_up issued ss h.1)

give_stamp_by : (w : ℕ) (s : Slot) (b : Bool) → let t = cond b (record s { value = Some w }) s in (t.stamp ≡ s.stamp) × (t.number ≡ s.number)
give_stamp_by w s true = (refl, refl)
give_stamp_by w s false = (refl, refl)

pub give_keeps : (n w : ℕ) (s : Slot) → ((give n w s).stamp ≡ s.stamp) × ((give n w s).number ≡ s.number)
give_keeps n w s = give_stamp_by w s (is_waiting n s)

pub stamps_given : (n w issued : ℕ) (ss : List Slot) → AllByRecursion (λ slot. slot.stamp ≤ issued) ss → AllByRecursion (λ slot. slot.stamp ≤ issued) (with_value n w ss)
stamps_given n w issued [] h = tt
stamps_given n w issued (z ∷ ss) h = (rw (give_keeps n w z).0 h.0, stamps_given n w issued ss h.1)

pub numbers_given : (n w : ℕ) (ss : List Slot) → map (λ (s : Slot). s.number) (with_value n w ss) ≡ map (λ (s : Slot). s.number) ss
numbers_given n w [] = refl
numbers_given n w (z ∷ ss) = rw ((give_keeps n w z).1, numbers_given n w ss)

pub slots_more : (issued addr : ℕ) (kind : LoadKind) (s : Slots) → SlotsCount issued s → SlotsCount issued (with_slot kind addr issued s)
slots_more issued addr kind s c = record {
  numbers = rw (map-append (λ (slot : Slot). slot.number) s.slots (new_slot s.reserved kind addr issued ∷ [])) (counts_more s.taken (map (λ (slot : Slot). slot.number) s.slots) s.reserved c.numbers);
  stamps = stamps_more issued s.slots (new_slot s.reserved kind addr issued) c.stamps (omega arith);
}

pub slots_up : (issued : ℕ) (s : Slots) → SlotsCount issued s → SlotsCount (issued + 1) s
slots_up issued s c = record { numbers = c.numbers; stamps = stamps_up issued s.slots c.stamps }

slots_rest_by : (issued taken reserved : ℕ) (ss : List Slot) → is_some (first_value ss) ≡ true → SlotsCount issued (record { taken = taken; reserved = reserved; slots = ss }) → SlotsCount issued (record { taken = taken + 1; reserved = reserved; slots = rest ss })
slots_rest_by issued taken reserved [] f c = absurd (cc)
slots_rest_by issued taken reserved (z ∷ ss) f c = record { numbers = c.numbers.1; stamps = c.stamps.1 }

pub slots_rest : (issued : ℕ) (s : Slots) → is_some (first_value s.slots) ≡ true → SlotsCount issued s → SlotsCount issued (without_front s)
slots_rest issued s f c = slots_rest_by issued s.taken s.reserved s.slots f c

pub slots_given : (issued n w : ℕ) (s : Slots) → SlotsCount issued s → SlotsCount issued (record s { slots = with_value n w s.slots })
slots_given issued n w s c = record { numbers = rw (numbers_given n w s.slots) c.numbers; stamps = stamps_given n w issued s.slots c.stamps }

pub sa_rest : (drained issued : ℕ) (as' : List StoreAt) (ws : List ℕ) (s : StoreAt × ℕ) → next_store as' ws ≡ Some s → CountsUp drained (map (λ (a : StoreAt). a.number) as') issued → CountsUp (drained + 1) (map (λ (a : StoreAt). a.number) (rest as')) issued
sa_rest drained issued [] ws s n c = absurd (cc)
sa_rest drained issued (a ∷ as') ws s n c = c.1

-- where something waits, fewer were taken than were put in
pub counts_front : (low high v : ℕ) (ss : List Slot) → CountsUp low (map (λ (slot : Slot). slot.number) ss) high → first_value ss ≡ Some v → low + 1 ≤ high
counts_front low high v [] h f = cc
counts_front low high v (s ∷ ss) h f = counts_le (low + 1) (map (λ (slot : Slot). slot.number) ss) high h.1

pub counts_store : (low high : ℕ) (as' : List StoreAt) (ws : List ℕ) (s : StoreAt × ℕ) → CountsUp low (map (λ (a : StoreAt). a.number) as') high → next_store as' ws ≡ Some s → low + 1 ≤ high
counts_store low high [] ws s h f = cc
counts_store low high (a ∷ as') ws s h f = counts_le (low + 1) (map (λ (a : StoreAt). a.number) as') high h.1

pub stores_more : (low high addr : ℕ) (width : Width) (as' : List StoreAt) → CountsUp low (map (λ (a : StoreAt). a.number) as') high → CountsUp low (map (λ (a : StoreAt). a.number) (as' ++ record { number = high; addr = addr; width = width } ∷ [])) (high + 1)
stores_more low high addr width as' c = rw (map-append (λ (a : StoreAt). a.number) as' (record { number = high; addr = addr; width = width } ∷ [])) (counts_more low (map (λ (a : StoreAt). a.number) as') high c)
