-- A fill beside an access of a side, and beside another fill.
use Rattle.std.proofs.Common.{◌≡◌, ◌≢◌, ℕ, ◌+◌, ◌<◌, ◌≤◌, true, false, not, List, [], ◌∷◌, refl, ap, sym, ◌∙◌}
use Rattle.std.specs.Prelude.{Some, is_some, unwrap_or}
use Rattle.std.specs.List.{list_any}
use Rattle.std.specs.Bool.{then_some}
use Rattle.std.proofs.lemmas.List.{length-map}
use Rattle.dae_base.proofs.Laws.{and_then_some, any_more, find_more, map_some_is, not_true, then_some_is}
use Rattle.dae_base.specs.declared.Side.{Side}
use Rattle.dae_base.specs.declared.Side.TheVariants.{A, E}
use Rattle.dae_base.specs.declared.Depths.{Depths}
use Rattle.dae_encode.specs.declared.QueueUse.{QueueUse}
use Rattle.dae_queues.specs.declared.Slot.{Slot}
use Rattle.dae_base.specs.Words.{loaded}
use Rattle.dae_core.specs.Queues.{Queues, possible, peek, commit}
use Rattle.dae_machine.specs.Memory.{loads_of, with_loads_of, filling, fill}
use Rattle.dae_queues.specs.Lists.{new_slot, is_waiting, waiting, with_value, bars}
use Rattle.dae_core.proofs.Laws.{UseOfA, UseOfE, a_load_ld, a_load_al, a_take_al, a_address, e_take_ld}
use Rattle.dae_queues.proofs.LawsOfLists.{find_rest, map_rest, first_value_given, waiting_other, with_value_twice, given_more, newer_bars_not}

-- what an enabled fill finds
pub record Filled (side : Side) (n : ℕ) (q : Queues) : Type 0 where
  pub slot : Slot
  pub found : waiting n (loads_of side q).slots ≡ Some slot
  pub free : list_any (bars slot) q.stores.sa ≡ false

abbrev pub after_fill : Side → ℕ → Queues → List ℕ → Slot → Queues
after_fill side n q m slot = with_loads_of side (with_value n (loaded slot.kind slot.addr m) (loads_of side q).slots) q

pub fill_is : (side : Side) (n : ℕ) (q : Queues) (m : List ℕ) (slot : Slot) → waiting n (loads_of side q).slots ≡ Some slot → list_any (bars slot) q.stores.sa ≡ false → fill side n q m ≡ Some (after_fill side n q m slot)
fill_is side n q m slot found free = rw (found, free)

pub fill_was : (side : Side) (n : ℕ) (q q' : Queues) (m : List ℕ) → fill side n q m ≡ Some q' → (f : Filled side n q) × (after_fill side n q m f.slot ≡ q')
fill_was side n q q' m h =
    let got = map_some_is (λ (w : ℕ). with_loads_of side (with_value n w (loads_of side q).slots) q) (filling side n q m) q' h in
    let found = and_then_some (λ (s : Slot). then_some (not (list_any (bars s) q.stores.sa)) (loaded s.kind s.addr m)) (waiting n (loads_of side q).slots) got.0 got.1 in
    let ok = then_some_is _ _ got.0 found.2 in
    (record { slot = found.0; found = found.1; free = not_true _ ok.0 }, ap (λ (w : ℕ). with_loads_of side (with_value n w (loads_of side q).slots) q) ok.1 ∙ got.2)

-- ---- a fill and an access of A

pub fill_after_a : {u : QueueUse} (d : Depths) (x n : ℕ) (q : Queues) (m : List ℕ) (side : Side) (slot : Slot) → UseOfA u → possible d u q ≡ true → waiting n (loads_of side q).slots ≡ Some slot → list_any (bars slot) q.stores.sa ≡ false → n < (loads_of side q).reserved → slot.stamp ≤ q.stores.issued → fill side n (commit u x q) m ≡ Some (commit u x (after_fill side n q m slot))
fill_after_a {u} d x n q m A slot (a_load_al {kind}) h found free lt le =
    fill_is A n (commit u x q) m slot (find_more (is_waiting n) q.al.slots (new_slot q.al.reserved kind x q.stores.issued ∷ []) slot found) free ∙ ap (λ ss. Some (record q { al = record { taken = q.al.taken; reserved = q.al.reserved + 1; slots = ss } })) (given_more n _ q.al.slots _ lt)
fill_after_a {u} d x n q m E slot (a_load_ld {kind}) h found free lt le =
    fill_is E n (commit u x q) m slot (find_more (is_waiting n) q.ld.slots (new_slot q.ld.reserved kind x q.stores.issued ∷ []) slot found) free ∙ ap (λ ss. Some (record q { ld = record { taken = q.ld.taken; reserved = q.ld.reserved + 1; slots = ss } })) (given_more n _ q.ld.slots _ lt)
fill_after_a {u} d x n q m A slot a_take_al h found free lt le =
    fill_is A n (commit u x q) m slot (find_rest n q.al.slots slot h found) free ∙ ap (λ ss. Some (record q { al = record { taken = q.al.taken + 1; reserved = q.al.reserved; slots = ss } })) (map_rest _ q.al.slots)
fill_after_a {u} d x n q m A slot (a_address {width}) h found free lt le = fill_is A n (commit u x q) m slot found (any_more (bars slot) q.stores.sa _ free (newer_bars_not slot _ le))
fill_after_a {u} d x n q m E slot (a_address {width}) h found free lt le = fill_is E n (commit u x q) m slot found (any_more (bars slot) q.stores.sa _ free (newer_bars_not slot _ le))
fill_after_a {u} d x n q m A slot _ h found free lt le = fill_is A n (commit u x q) m slot found free
fill_after_a {u} d x n q m E slot _ h found free lt le = fill_is E n (commit u x q) m slot found free

pub a_after_fill : {u : QueueUse} (d : Depths) (n w : ℕ) (q : Queues) (side : Side) → UseOfA u → possible d u q ≡ true → possible d u (with_loads_of side (with_value n w (loads_of side q).slots) q) ≡ true
a_after_fill d n w q A a_load_al h = rw length-map h
a_after_fill d n w q E a_load_ld h = rw length-map h
a_after_fill d n w q A a_take_al h = ap is_some (first_value_given n w q.al.slots h) ∙ h
a_after_fill d n w q A _ h = h
a_after_fill d n w q E _ h = h

pub a_peek_after_fill : {u : QueueUse} (d : Depths) (n w : ℕ) (q : Queues) (side : Side) → UseOfA u → possible d u q ≡ true → peek u (with_loads_of side (with_value n w (loads_of side q).slots) q) ≡ peek u q
a_peek_after_fill d n w q A a_take_al h = ap (λ o. unwrap_or o 0) (first_value_given n w q.al.slots h)
a_peek_after_fill d n w q E a_take_al h = refl
a_peek_after_fill d n w q A _ h = refl
a_peek_after_fill d n w q E _ h = refl

-- ---- a fill and an access of E

pub fill_after_e : {u : QueueUse} (d : Depths) (x n : ℕ) (q : Queues) (m : List ℕ) (side : Side) (slot : Slot) → UseOfE u → possible d u q ≡ true → waiting n (loads_of side q).slots ≡ Some slot → list_any (bars slot) q.stores.sa ≡ false → fill side n (commit u x q) m ≡ Some (commit u x (after_fill side n q m slot))
fill_after_e {u} d x n q m E slot e_take_ld h found free =
    fill_is E n (commit u x q) m slot (find_rest n q.ld.slots slot h found) free ∙ ap (λ ss. Some (record q { ld = record { taken = q.ld.taken + 1; reserved = q.ld.reserved; slots = ss } })) (map_rest _ q.ld.slots)
fill_after_e {u} d x n q m A slot e_take_ld h found free = fill_is A n (commit u x q) m slot found free
fill_after_e {u} d x n q m A slot _ h found free = fill_is A n (commit u x q) m slot found free
fill_after_e {u} d x n q m E slot _ h found free = fill_is E n (commit u x q) m slot found free

pub e_after_fill : {u : QueueUse} (d : Depths) (n w : ℕ) (q : Queues) (side : Side) → UseOfE u → possible d u q ≡ true → possible d u (with_loads_of side (with_value n w (loads_of side q).slots) q) ≡ true
e_after_fill d n w q E e_take_ld h = ap is_some (first_value_given n w q.ld.slots h) ∙ h
e_after_fill d n w q A e_take_ld h = h
e_after_fill d n w q A _ h = h
e_after_fill d n w q E _ h = h

pub e_peek_after_fill : {u : QueueUse} (d : Depths) (n w : ℕ) (q : Queues) (side : Side) → UseOfE u → possible d u q ≡ true → peek u (with_loads_of side (with_value n w (loads_of side q).slots) q) ≡ peek u q
e_peek_after_fill d n w q E e_take_ld h = ap (λ o. unwrap_or o 0) (first_value_given n w q.ld.slots h)
e_peek_after_fill d n w q A e_take_ld h = refl
e_peek_after_fill d n w q A _ h = refl
e_peek_after_fill d n w q E _ h = refl

-- ---- two fills

pub fill_after_fill : (s t : Side) (n k : ℕ) (q : Queues) (m : List ℕ) (f : Filled s n q) (g : Filled t k q) → (s ≡ t → n ≢ k) → fill t k (after_fill s n q m f.slot) m ≡ Some (after_fill t k (after_fill s n q m f.slot) m g.slot)
fill_after_fill A A n k q m f g ne = fill_is A k (after_fill A n q m f.slot) m g.slot (waiting_other n k _ q.al.slots (ne refl) ∙ g.found) g.free
fill_after_fill E E n k q m f g ne = fill_is E k (after_fill E n q m f.slot) m g.slot (waiting_other n k _ q.ld.slots (ne refl) ∙ g.found) g.free
fill_after_fill A E n k q m f g ne = fill_is E k (after_fill A n q m f.slot) m g.slot g.found g.free
fill_after_fill E A n k q m f g ne = fill_is A k (after_fill E n q m f.slot) m g.slot g.found g.free

pub fills_commute : (s t : Side) (n k : ℕ) (q : Queues) (m : List ℕ) (f g : Slot) → (s ≡ t → n ≢ k) → after_fill t k (after_fill s n q m f) m g ≡ after_fill s n (after_fill t k q m g) m f
fills_commute A A n k q m f g ne = ap (λ ss. record q { al = record q.al { slots = ss } }) (with_value_twice k n _ _ q.al.slots (λ e. ne refl (sym e)))
fills_commute E E n k q m f g ne = ap (λ ss. record q { ld = record q.ld { slots = ss } }) (with_value_twice k n _ _ q.ld.slots (λ e. ne refl (sym e)))
fills_commute A E n k q m f g ne = refl
fills_commute E A n k q m f g ne = refl
