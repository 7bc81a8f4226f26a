-- A drain beside an access of a side, and beside a fill.
use Rattle.std.proofs.Common.{◌≡◌, ℕ, ◌+◌, ◌<◌, true, false, not, ◌&&◌, List, refl, ap, ◌∙◌}
use Rattle.std.specs.Prelude.{Some}
use Rattle.std.specs.List.{list_any}
use Rattle.std.specs.Bool.{then_some}
use Rattle.dae_base.proofs.Laws.{and_then_some, and_true, any_more, find_fails, find_passes, map_some_is, not_true, then_some_is}
use Rattle.dae_base.specs.declared.Side.{Side}
use Rattle.dae_base.specs.declared.Side.TheVariants.{A, E}
use Rattle.dae_base.specs.declared.Depths.{Depths}
use Rattle.dae_encode.specs.declared.QueueUse.{QueueUse}
use Rattle.dae_queues.specs.declared.StoreAt.{StoreAt}
use Rattle.dae_base.specs.Words.{loaded}
use Rattle.dae_core.specs.Queues.{Queues, possible, peek, commit}
use Rattle.dae_queues.specs.Lists.{rest, is_waiting, with_value, bars, holds, next_store, without_store}
use Rattle.dae_machine.specs.Memory.{loads_of, with_loads_of, fill, draining, drain}
use Rattle.dae_core.proofs.Laws.{UseOfA, UseOfE, a_nothing, a_load_ld, a_load_al, a_take_al, a_address, e_take_ld, e_push_sd}
use Rattle.dae_queues.proofs.LawsOfLists.{room_more, any_rest, any_holds_given, loaded_other, drained_memory, next_more_sa, rest_more_sa, next_more_sd, rest_more_sd, any_next, newer_held_not, no_byte_shared}
use Rattle.dae_machine.proofs.FillLaws.{Filled, after_fill, fill_is}

-- what an enabled drain finds
pub record Drained (q : Queues) : Type 0 where
  pub store : StoreAt × ℕ
  pub is_next : next_store q.stores.sa q.stores.sd ≡ Some store
  pub free_ld : list_any (holds store.0) q.ld.slots ≡ false
  pub free_al : list_any (holds store.0) q.al.slots ≡ false

abbrev pub after_drain : Queues → Queues
after_drain q = record q { stores = without_store q.stores }

pub drain_is : (q : Queues) (m : List ℕ) (s : StoreAt × ℕ) → next_store q.stores.sa q.stores.sd ≡ Some s → list_any (holds s.0) q.ld.slots ≡ false → list_any (holds s.0) q.al.slots ≡ false → drain q m ≡ Some (after_drain q, drained_memory s m)
drain_is q m s n l a = rw (n, l, a)

pub drain_was : (q : Queues) (m : List ℕ) (r : Queues × List ℕ) → drain q m ≡ Some r → (f : Drained q) × ((after_drain q, drained_memory f.store m) ≡ r)
drain_was q m r h =
    let got = map_some_is (λ (n : StoreAt × ℕ). (after_drain q, drained_memory n m)) (draining q) r h in
    let found = and_then_some (λ (n : StoreAt × ℕ). then_some (not (list_any (holds n.0) q.ld.slots) && not (list_any (holds n.0) q.al.slots)) n) (next_store q.stores.sa q.stores.sd) got.0 got.1 in
    let ok = then_some_is _ _ got.0 found.2 in
    let both = and_true _ _ ok.0 in
    (record { store = found.0; is_next = found.1; free_ld = not_true _ both.0; free_al = not_true _ both.1 }, ap (λ (n : StoreAt × ℕ). (after_drain q, drained_memory n m)) ok.1 ∙ got.2)

-- ---- a drain and an access of A

pub drain_after_a : {u : QueueUse} (d : Depths) (x : ℕ) (q : Queues) (m : List ℕ) (s : StoreAt × ℕ) → UseOfA u → next_store q.stores.sa q.stores.sd ≡ Some s → list_any (holds s.0) q.ld.slots ≡ false → list_any (holds s.0) q.al.slots ≡ false → s.0.number < q.stores.issued → drain (commit u x q) m ≡ Some (commit u x (after_drain q), drained_memory s m)
drain_after_a {u} d x q m s (a_load_ld {kind}) n l a lt = drain_is (commit u x q) m s n (any_more (holds s.0) q.ld.slots _ l (newer_held_not s.0 q.ld.reserved q.stores.issued x kind lt)) a
drain_after_a {u} d x q m s (a_load_al {kind}) n l a lt = drain_is (commit u x q) m s n l (any_more (holds s.0) q.al.slots _ a (newer_held_not s.0 q.al.reserved q.stores.issued x kind lt))
drain_after_a {u} d x q m s a_take_al n l a lt = drain_is (commit u x q) m s n l (any_rest (holds s.0) q.al.slots a)
drain_after_a {u} d x q m s (a_address {width}) n l a lt =
    drain_is (commit u x q) m s (next_more_sa q.stores.sa q.stores.sd _ s n) l a
    ∙ ap (λ as'. Some (record q { stores = record { drained = q.stores.drained + 1; issued = q.stores.issued + 1; sa = as'; sd = rest q.stores.sd } }, drained_memory s m)) (rest_more_sa q.stores.sa q.stores.sd _ s n)
drain_after_a {u} d x q m s _ n l a lt = drain_is (commit u x q) m s n l a

pub a_after_drain : {u : QueueUse} (d : Depths) (q : Queues) → UseOfA u → possible d u q ≡ true → possible d u (after_drain q) ≡ true
a_after_drain d q a_address h = room_more q.stores.sa d.sa h
a_after_drain d q a_nothing h = h
a_after_drain d q a_load_ld h = h
a_after_drain d q _ h = h

pub a_peek_after_drain : {u : QueueUse} (q : Queues) → UseOfA u → peek u (after_drain q) ≡ peek u q
a_peek_after_drain q a_take_al = refl
a_peek_after_drain q _ = refl

-- ---- a drain and an access of E

pub drain_after_e : {u : QueueUse} (d : Depths) (x : ℕ) (q : Queues) (m : List ℕ) (s : StoreAt × ℕ) → UseOfE u → next_store q.stores.sa q.stores.sd ≡ Some s → list_any (holds s.0) q.ld.slots ≡ false → list_any (holds s.0) q.al.slots ≡ false → drain (commit u x q) m ≡ Some (commit u x (after_drain q), drained_memory s m)
drain_after_e {u} d x q m s e_take_ld n l a = drain_is (commit u x q) m s n (any_rest (holds s.0) q.ld.slots l) a
drain_after_e {u} d x q m s e_push_sd n l a =
    drain_is (commit u x q) m s (next_more_sd q.stores.sa q.stores.sd x s n) l a
    ∙ ap (λ ws. Some (record q { stores = record { drained = q.stores.drained + 1; issued = q.stores.issued; sa = rest q.stores.sa; sd = ws } }, drained_memory s m)) (rest_more_sd q.stores.sa q.stores.sd x s n)
drain_after_e {u} d x q m s _ n l a = drain_is (commit u x q) m s n l a

pub e_after_drain : {u : QueueUse} (d : Depths) (q : Queues) → UseOfE u → possible d u q ≡ true → possible d u (after_drain q) ≡ true
e_after_drain d q e_push_sd h = room_more q.stores.sd d.sd h
e_after_drain d q _ h = h

pub e_peek_after_drain : {u : QueueUse} (q : Queues) → UseOfE u → peek u (after_drain q) ≡ peek u q
e_peek_after_drain q e_take_ld = refl
e_peek_after_drain q _ = refl

-- ---- a drain and a fill

pub same_value : (side : Side) (n : ℕ) (q : Queues) (m : List ℕ) (f : Filled side n q) (g : Drained q) → loaded f.slot.kind f.slot.addr (drained_memory g.store m) ≡ loaded f.slot.kind f.slot.addr m
same_value side n q m f g =
    let b = any_next (bars f.slot) q.stores.sa q.stores.sd g.store g.is_next f.free in
    let w = find_passes (is_waiting n) (loads_of side q).slots f.slot f.found in
    let held : list_any (holds g.store.0) (loads_of side q).slots ≡ false = elim side as (λ t. list_any (holds g.store.0) (loads_of t q).slots ≡ false) [ A ↦ g.free_al | E ↦ g.free_ld ] in
    let h = find_fails (is_waiting n) (holds g.store.0) (loads_of side q).slots f.slot f.found held in
    loaded_other f.slot.kind f.slot.addr g.store.0.addr g.store.1 g.store.0.width m (no_byte_shared n f.slot g.store.0 w b h)

pub fill_after_drain : (side : Side) (n : ℕ) (q : Queues) (m : List ℕ) (f : Filled side n q) (g : Drained q) → fill side n (after_drain q) (drained_memory g.store m) ≡ Some (after_drain (after_fill side n q m f.slot))
fill_after_drain A n q m f g =
    fill_is A n (after_drain q) (drained_memory g.store m) f.slot f.found (any_rest (bars f.slot) q.stores.sa f.free)
    ∙ ap (λ v. Some (with_loads_of A (with_value n v q.al.slots) (after_drain q))) (same_value A n q m f g)
fill_after_drain E n q m f g =
    fill_is E n (after_drain q) (drained_memory g.store m) f.slot f.found (any_rest (bars f.slot) q.stores.sa f.free)
    ∙ ap (λ v. Some (with_loads_of E (with_value n v q.ld.slots) (after_drain q))) (same_value E n q m f g)

pub drain_after_fill : (side : Side) (n w : ℕ) (q : Queues) (m : List ℕ) (g : Drained q) → let q' = with_loads_of side (with_value n w (loads_of side q).slots) q in drain q' m ≡ Some (after_drain q', drained_memory g.store m)
drain_after_fill A n w q m g = drain_is (with_loads_of A (with_value n w q.al.slots) q) m g.store g.is_next g.free_ld (any_holds_given g.store.0 n w q.al.slots g.free_al)
drain_after_fill E n w q m g = drain_is (with_loads_of E (with_value n w q.ld.slots) q) m g.store g.is_next (any_holds_given g.store.0 n w q.ld.slots g.free_ld) g.free_al
