-- What a fill and a drain would do stays the same beside each change at the ends of the queues.
use Rattle.std.proofs.Common.{◌≡◌, ◌≢◌, ℕ, ◌+◌, ◌<◌, ◌≤◌, true, false, not, ◌&&◌, List, [], ◌∷◌, ap, sym, ◌∙◌}
use Rattle.std.specs.Prelude.{Some, is_some}
use Rattle.std.specs.List.{list_any}
use Rattle.std.specs.Bool.{then_some}
use Rattle.dae_base.specs.declared.Width.{Width}
use Rattle.dae_base.specs.declared.LoadKind.{LoadKind}
use Rattle.dae_base.specs.Words.{loaded}
use Rattle.dae_queues.specs.declared.Slot.{Slot}
use Rattle.dae_queues.specs.declared.StoreAt.{StoreAt}
use Rattle.dae_queues.specs.Lists.{Slots, Stores, first_value, rest, without_front, with_slot, new_slot, with_address, with_datum, is_waiting, waiting, with_value, bars, holds, filling_of, next_store, without_store, draining_of}
use Rattle.dae_queues.specs.Numbers.{SlotsCount, StoresCount}
use Rattle.dae_base.proofs.Laws.{and_then_some, then_some_is, not_true, and_true, find_more, find_passes, find_fails, any_more}
use Rattle.dae_queues.proofs.QueueLaws.{rest_slots_more}
use Rattle.dae_queues.proofs.MemoryLaws.{find_rest, any_rest, waiting_other, any_holds_given}
use Rattle.dae_queues.proofs.CountLaws.{counts_find, all_find, counts_next}
use Rattle.dae_queues.proofs.FillLaws.{given_more, newer_bars_not}
use Rattle.dae_queues.proofs.DrainLaws.{drained_memory, next_more_sa, rest_more_sa, next_more_sd, rest_more_sd, any_next, newer_held_not, no_byte_shared}
use Rattle.dae_queues.proofs.Bytes.{loaded_other}

-- ---- a fill that is possible, and a drain that is possible

pub record Fills (sa : List StoreAt) (n : ℕ) (ss : List Slot) (m : List ℕ) (w : ℕ) : Type 0 where
  pub slot : Slot
  pub found : waiting n ss ≡ Some slot
  pub free : list_any (bars slot) sa ≡ false
  pub word : loaded slot.kind slot.addr m ≡ w

pub filling_was : (sa : List StoreAt) (n : ℕ) (ss : List Slot) (m : List ℕ) (w : ℕ) → filling_of sa n ss m ≡ Some w → Fills sa n ss m w
filling_was sa n ss m w h =
    let found = and_then_some (λ (s : Slot). then_some (not (list_any (bars s) sa)) (loaded s.kind s.addr m)) (waiting n ss) w h in
    let ok = then_some_is _ _ w found.2 in
    record { slot = found.0; found = found.1; free = not_true _ ok.0; word = ok.1 }

pub filling_is : (sa : List StoreAt) (n : ℕ) (ss : List Slot) (m : List ℕ) (s : Slot) (w : ℕ) → waiting n ss ≡ Some s → list_any (bars s) sa ≡ false → loaded s.kind s.addr m ≡ w → filling_of sa n ss m ≡ Some w
filling_is sa n ss m s w found free word = rw (found, free) (ap Some word)

pub record Drains (stores : Stores) (ld al : List Slot) (n : StoreAt × ℕ) : Type 0 where
  pub is_next : next_store stores.sa stores.sd ≡ Some n
  pub free_ld : list_any (holds n.0) ld ≡ false
  pub free_al : list_any (holds n.0) al ≡ false

pub draining_was : (stores : Stores) (ld al : List Slot) (n : StoreAt × ℕ) → draining_of stores ld al ≡ Some n → Drains stores ld al n
draining_was stores ld al n h =
    let found = and_then_some (λ (n : StoreAt × ℕ). then_some (not (list_any (holds n.0) ld) && not (list_any (holds n.0) al)) n) (next_store stores.sa stores.sd) n h in
    let ok = then_some_is _ _ n found.2 in
    let both = and_true _ _ ok.0 in
    rw (← ok.1) (record { is_next = found.1; free_ld = not_true _ both.0; free_al = not_true _ both.1 })

pub draining_is : (stores : Stores) (ld al : List Slot) (n : StoreAt × ℕ) → next_store stores.sa stores.sd ≡ Some n → list_any (holds n.0) ld ≡ false → list_any (holds n.0) al ≡ false → draining_of stores ld al ≡ Some n
draining_is stores ld al n next l a = rw (next, l, a)

-- ---- a fill beside the ends of the queues

pub fill_after_take : (sa : List StoreAt) (n w : ℕ) (s : Slots) (m : List ℕ) → is_some (first_value s.slots) ≡ true → filling_of sa n s.slots m ≡ Some w → filling_of sa n (without_front s).slots m ≡ Some w
fill_after_take sa n w s m some h =
    let f = filling_was sa n s.slots m w h in
    filling_is sa n (rest s.slots) m f.slot w (find_rest n s.slots f.slot some f.found) f.free f.word

pub fill_after_reservation : (sa : List StoreAt) (n w addr stamp : ℕ) (kind : LoadKind) (s : Slots) (m : List ℕ) → filling_of sa n s.slots m ≡ Some w → filling_of sa n (with_slot kind addr stamp s).slots m ≡ Some w
fill_after_reservation sa n w addr stamp kind s m h =
    let f = filling_was sa n s.slots m w h in
    filling_is sa n _ m f.slot w (find_more (is_waiting n) s.slots (new_slot s.reserved kind addr stamp ∷ []) f.slot f.found) f.free f.word

pub reservation_with_value : (sa : List StoreAt) (n w v addr stamp issued : ℕ) (kind : LoadKind) (s : Slots) (m : List ℕ) → SlotsCount issued s → filling_of sa n s.slots m ≡ Some w → with_value n v (with_slot kind addr stamp s).slots ≡ (with_slot kind addr stamp (record s { slots = with_value n v s.slots })).slots
reservation_with_value sa n w v addr stamp issued kind s m c h =
    let f = filling_was sa n s.slots m w h in
    given_more n v s.slots (new_slot s.reserved kind addr stamp) (counts_find s.taken n s.reserved s.slots f.slot c.numbers f.found)

pub fill_after_address : (n w addr : ℕ) (width : Width) (stores : Stores) (s : Slots) (m : List ℕ) → SlotsCount stores.issued s → filling_of stores.sa n s.slots m ≡ Some w → filling_of (with_address width addr stores).sa n s.slots m ≡ Some w
fill_after_address n w addr width stores s m c h =
    let f = filling_was stores.sa n s.slots m w h in
    let old = all_find (λ (slot : Slot). slot.stamp ≤ stores.issued) (is_waiting n) s.slots f.slot c.stamps f.found in
    filling_is _ n s.slots m f.slot w f.found (any_more (bars f.slot) stores.sa _ f.free (newer_bars_not f.slot _ old)) f.word

pub fill_after_other : (sa : List StoreAt) (n k v w : ℕ) (ss : List Slot) (m : List ℕ) → n ≢ k → filling_of sa n ss m ≡ Some w → filling_of sa n (with_value k v ss) m ≡ Some w
fill_after_other sa n k v w ss m ne h =
    let f = filling_was sa n ss m w h in
    filling_is sa n (with_value k v ss) m f.slot w (waiting_other k n v ss (λ e. ne (sym e)) ∙ f.found) f.free f.word

-- ---- a fill and a drain

fill_beside : (stores : Stores) (n w : ℕ) (ss : List Slot) (m : List ℕ) (d : StoreAt × ℕ) → filling_of stores.sa n ss m ≡ Some w → next_store stores.sa stores.sd ≡ Some d → list_any (holds d.0) ss ≡ false → filling_of (without_store stores).sa n ss (drained_memory d m) ≡ Some w
fill_beside stores n w ss m d h next free =
    let f = filling_was stores.sa n ss m w h in
    let waits = find_passes (is_waiting n) ss f.slot f.found in
    let not_barred = any_next (bars f.slot) stores.sa stores.sd d next f.free in
    let not_held = find_fails (is_waiting n) (holds d.0) ss f.slot f.found free in
    let same = loaded_other f.slot.kind f.slot.addr d.0.addr d.1 d.0.width m (no_byte_shared n f.slot d.0 waits not_barred not_held) in
    filling_is (rest stores.sa) n ss (drained_memory d m) f.slot w f.found (any_rest (bars f.slot) stores.sa f.free) (same ∙ f.word)

pub fill_ld_beside_drain : (stores : Stores) (n w : ℕ) (ld al : List Slot) (m : List ℕ) (d : StoreAt × ℕ) → filling_of stores.sa n ld m ≡ Some w → draining_of stores ld al ≡ Some d → filling_of (without_store stores).sa n ld (drained_memory d m) ≡ Some w
fill_ld_beside_drain stores n w ld al m d h k = let g = draining_was stores ld al d k in fill_beside stores n w ld m d h g.is_next g.free_ld

pub fill_al_beside_drain : (stores : Stores) (n w : ℕ) (ld al : List Slot) (m : List ℕ) (d : StoreAt × ℕ) → filling_of stores.sa n al m ≡ Some w → draining_of stores ld al ≡ Some d → filling_of (without_store stores).sa n al (drained_memory d m) ≡ Some w
fill_al_beside_drain stores n w ld al m d h k = let g = draining_was stores ld al d k in fill_beside stores n w al m d h g.is_next g.free_al

pub drain_beside_fill_ld : (stores : Stores) (n w : ℕ) (ld al : List Slot) (d : StoreAt × ℕ) → draining_of stores ld al ≡ Some d → draining_of stores (with_value n w ld) al ≡ Some d
drain_beside_fill_ld stores n w ld al d k = let g = draining_was stores ld al d k in draining_is stores (with_value n w ld) al d g.is_next (any_holds_given d.0 n w ld g.free_ld) g.free_al

pub drain_beside_fill_al : (stores : Stores) (n w : ℕ) (ld al : List Slot) (d : StoreAt × ℕ) → draining_of stores ld al ≡ Some d → draining_of stores ld (with_value n w al) ≡ Some d
drain_beside_fill_al stores n w ld al d k = let g = draining_was stores ld al d k in draining_is stores ld (with_value n w al) d g.is_next g.free_ld (any_holds_given d.0 n w al g.free_al)

-- ---- a drain beside the ends of the queues

pub drain_after_take_ld : (stores : Stores) (ld al : List Slot) (d : StoreAt × ℕ) → draining_of stores ld al ≡ Some d → draining_of stores (rest ld) al ≡ Some d
drain_after_take_ld stores ld al d k = let g = draining_was stores ld al d k in draining_is stores (rest ld) al d g.is_next (any_rest (holds d.0) ld g.free_ld) g.free_al

pub drain_after_take_al : (stores : Stores) (ld al : List Slot) (d : StoreAt × ℕ) → draining_of stores ld al ≡ Some d → draining_of stores ld (rest al) ≡ Some d
drain_after_take_al stores ld al d k = let g = draining_was stores ld al d k in draining_is stores ld (rest al) d g.is_next g.free_ld (any_rest (holds d.0) al g.free_al)

older : (stores : Stores) (d : StoreAt × ℕ) → StoresCount stores → next_store stores.sa stores.sd ≡ Some d → d.0.number < stores.issued
older stores d c next = counts_next stores.drained stores.issued stores.sa stores.sd d c next

pub drain_after_reservation_ld : (stores : Stores) (addr : ℕ) (kind : LoadKind) (ld : Slots) (al : List Slot) (d : StoreAt × ℕ) → StoresCount stores → draining_of stores ld.slots al ≡ Some d → draining_of stores (with_slot kind addr stores.issued ld).slots al ≡ Some d
drain_after_reservation_ld stores addr kind ld al d c k =
    let g = draining_was stores ld.slots al d k in
    draining_is stores (with_slot kind addr stores.issued ld).slots al d g.is_next (any_more (holds d.0) ld.slots (new_slot ld.reserved kind addr stores.issued) g.free_ld (newer_held_not d.0 ld.reserved stores.issued addr kind (older stores d c g.is_next))) g.free_al

pub drain_after_reservation_al : (stores : Stores) (addr : ℕ) (kind : LoadKind) (ld : List Slot) (al : Slots) (d : StoreAt × ℕ) → StoresCount stores → draining_of stores ld al.slots ≡ Some d → draining_of stores ld (with_slot kind addr stores.issued al).slots ≡ Some d
drain_after_reservation_al stores addr kind ld al d c k =
    let g = draining_was stores ld al.slots d k in
    draining_is stores ld (with_slot kind addr stores.issued al).slots d g.is_next g.free_ld (any_more (holds d.0) al.slots (new_slot al.reserved kind addr stores.issued) g.free_al (newer_held_not d.0 al.reserved stores.issued addr kind (older stores d c g.is_next)))

pub drain_after_address : (stores : Stores) (addr : ℕ) (width : Width) (ld al : List Slot) (d : StoreAt × ℕ) → draining_of stores ld al ≡ Some d → draining_of (with_address width addr stores) ld al ≡ Some d
drain_after_address stores addr width ld al d k =
    let g = draining_was stores ld al d k in
    draining_is (with_address width addr stores) ld al d (next_more_sa stores.sa stores.sd _ d g.is_next) g.free_ld g.free_al

pub drain_after_datum : (stores : Stores) (v : ℕ) (ld al : List Slot) (d : StoreAt × ℕ) → draining_of stores ld al ≡ Some d → draining_of (with_datum v stores) ld al ≡ Some d
drain_after_datum stores v ld al d k =
    let g = draining_was stores ld al d k in
    draining_is (with_datum v stores) ld al d (next_more_sd stores.sa stores.sd v d g.is_next) g.free_ld g.free_al

pub address_and_drain : (stores : Stores) (addr : ℕ) (width : Width) (d : StoreAt × ℕ) → next_store stores.sa stores.sd ≡ Some d → without_store (with_address width addr stores) ≡ with_address width addr (without_store stores)
address_and_drain stores addr width d next = ap (λ as'. record { drained = stores.drained + 1; issued = stores.issued + 1; sa = as'; sd = rest stores.sd }) (rest_more_sa stores.sa stores.sd _ d next)

pub datum_and_drain : (stores : Stores) (v : ℕ) (d : StoreAt × ℕ) → next_store stores.sa stores.sd ≡ Some d → without_store (with_datum v stores) ≡ with_datum v (without_store stores)
datum_and_drain stores v d next = ap (λ ws. record { drained = stores.drained + 1; issued = stores.issued; sa = rest stores.sa; sd = ws }) (rest_more_sd stores.sa stores.sd v d next)

-- ---- the ends of a load queue

pub reservation_and_front : (s : Slots) (addr stamp : ℕ) (kind : LoadKind) → is_some (first_value s.slots) ≡ true → without_front (with_slot kind addr stamp s) ≡ with_slot kind addr stamp (without_front s)
reservation_and_front s addr stamp kind some = ap (λ ss. record { taken = s.taken + 1; reserved = s.reserved + 1; slots = ss }) (rest_slots_more s.slots _ some)
