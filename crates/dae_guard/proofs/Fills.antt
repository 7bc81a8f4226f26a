-- A sure fill and a sure drain are enabled in each state, and what waits afterwards is stood for.
use Rattle.std.proofs.Common.{◌≡◌, ℕ, zero, suc, ◌+◌, ◌-◌, ◌<◌, ◌≤◌, Bool, true, false, not, ◌&&◌, List, [], ◌∷◌, map, take, refl, sym, ◌∙◌, subst, arith}
use Rattle.std.specs.Prelude.{Some, None, nat_lt, nat_eq, is_none, if◌then◌else◌, option_map, option_and_then}
use Rattle.std.specs.List.{list_any}
use Rattle.std.proofs.lemmas.Bool.Decides.{nat_tests}
use Rattle.dae_base.proofs.Laws.{and_false, and_true, or_false, not_true, if_some_is, map_some_is}
use Rattle.dae_queues.specs.declared.Slot.{Slot}
use Rattle.dae_queues.specs.declared.StoreAt.{StoreAt}
use Rattle.dae_queues.specs.Lists.{rest, waiting, give, with_value, bars, holds, draining_of}
use Rattle.dae_queues.specs.Numbers.{CountsUp}
use Rattle.dae_queues.proofs.LawsOfLists.{SlotsNumbered}
use Rattle.dae_core.specs.Queues.{Queues}
use Rattle.dae_ranges.specs.declared.Range.{Range}
use Rattle.dae_ranges.specs.Ranges.{Has, loaded_range}
use Rattle.dae_guard.specs.Sets.{Cell}
use Rattle.dae_guard.specs.declared.StoreCell.{StoreCell}
use Rattle.dae_guard.specs.Sets.{Waiting}
use Rattle.dae_guard.specs.Waiting.{touches, is_fillable, filled_cell, fill_first, delays, younger, next_store, without_store, drain_next}
use Rattle.dae_guard.specs.StandsFor.{Pairs, IsSlot, IsStore, Wait}
use Rattle.dae_guard.proofs.Waits.{no_touch, same_none, not_held, none_pass, pairs_rest, pairs_mapped}

-- ---- which stores bar a slot

abbrev pub Numbered : ℕ → List StoreAt → ℕ → Type 0
Numbered low as' high = CountsUp low (map (λ (a : StoreAt). a.number) as') high

not_barred : (d low high : ℕ) (c : Cell) (s : Slot) (ks : List StoreCell) (as' : List StoreAt) → IsSlot d c s → Pairs IsStore ks as' → Numbered low as' high
    → (n : ℕ) → n ≡ s.stamp - low → list_any (touches c) (take n ks) ≡ false → list_any (bars s) as' ≡ false
not_barred d low high c s [] [] h p q n e f = refl
not_barred d low high c s [] (a ∷ as') h p q n e f = absurd p
not_barred d low high c s (k ∷ ks) [] h p q n e f = absurd p
not_barred d low high c s (k ∷ ks) (a ∷ as') h p q zero e f =
    let number : a.number ≡ low = q.0 in
    let late : nat_lt a.number s.stamp ≡ false = grind (arith, nat_tests) in
    rw (late, not_barred d (low + 1) high c s ks as' h p.1 q.1 zero (omega arith) refl) refl
not_barred d low high c s (k ∷ ks) (a ∷ as') h p q (suc n) e f =
    let o = or_false (touches c k) (list_any (touches c) (take n ks)) f in
    rw (no_touch d c s k a h p.0 o.0, and_false (nat_lt a.number s.stamp), not_barred d (low + 1) high c s ks as' h p.1 q.1 n (omega arith) o.1) refl

-- ---- a fill

-- a number below all others gives nothing
give_none : (n w low high : ℕ) (ss : List Slot) → n < low → SlotsNumbered low ss high → map (give n w) ss ≡ ss
give_none n w low high [] l c = refl
give_none n w low high (s ∷ ss) l c =
    let number : s.number ≡ low = c.0 in
    let no : nat_eq s.number n ≡ false = grind (arith, nat_tests) in
    rw (no, give_none n w (low + 1) high ss (omega arith) c.1) refl

-- a slot that may be filled: its number, and the slots once it has its value
pub record Fillable (d : ℕ) (sa : List StoreAt) (ds : List Cell) (ss : List Slot) (low : ℕ) : Type 0 where
  pub number : ℕ
  pub slot : Slot
  pub above : low ≤ number
  pub waits : waiting number ss ≡ Some slot
  pub free : list_any (bars slot) sa ≡ false
  pub after : (w : ℕ) → Has (loaded_range slot.kind) w → Pairs (IsSlot d) ds (with_value number w ss)

pub fillable : (d high : ℕ) (ks : List StoreCell) (sa : List StoreAt) → Pairs IsStore ks sa → Numbered d sa high
    → (cs ds : List Cell) (ss : List Slot) (low top : ℕ) → SlotsNumbered low ss top → Pairs (IsSlot d) cs ss → fill_first ks cs ≡ Some ds → Fillable d sa ds ss low
fillable d high ks sa p q [] ds ss low top c h e = cc
fillable d high ks sa p q (c ∷ cs) ds [] low top n h e = absurd h
fillable d high ks sa p q (c ∷ cs) ds (s ∷ ss) low top n h e = by (is_fillable ks c) refl e (λ es k. fillable d high ks sa p q cs es ss (low + 1) top n.1 h.1 k) where
  number : s.number ≡ low
  number = n.0

  by : (b : Bool) → is_fillable ks c ≡ b → (if b then Some (filled_cell c ∷ cs) else option_map (λ ds. c ∷ ds) (fill_first ks cs)) ≡ Some ds → ((es : List Cell) → fill_first ks cs ≡ Some es → Fillable d sa es ss (low + 1)) → Fillable d sa ds (s ∷ ss) low
  by true f g more =
      let both = and_true (is_none c.value) (not (list_any (touches c) (take c.older ks))) f in
      let empty : is_none s.value ≡ true = sym (same_none c.value s.value h.0.value) ∙ both.0 in
      let same : nat_eq s.number low ≡ true = grind (arith, nat_tests) in
      let is : filled_cell c ∷ cs ≡ ds = cc in
      record {
        number = low;
        slot = s;
        above = omega arith;
        waits = rw (same, empty) refl;
        free = not_barred d d high c s ks sa h.0 p q c.older h.0.older (not_true (list_any (touches c) (take c.older ks)) both.1);
        after = λ w r. (
            let others = give_none low w (low + 1) top ss (omega arith) n.1 in
            let filled : IsSlot d (filled_cell c) (record s { value = Some w }) = record { value = rw h.0.kind r; addr = h.0.addr; kind = h.0.kind; older = h.0.older } in
            subst (λ (x : List Cell). Pairs (IsSlot d) x (with_value low w (s ∷ ss))) is (rw (same, empty, others) (filled, h.1)));
      }
  by false f g more =
      let m = map_some_is (λ (ds : List Cell). c ∷ ds) (fill_first ks cs) ds g in
      let r = more m.0 m.1 in
      let above = r.above in
      let no : nat_eq s.number r.number ≡ false = grind (arith, nat_tests) in
      record {
        number = r.number;
        slot = r.slot;
        above = omega arith;
        waits = rw no r.waits;
        free = r.free;
        after = λ w x. subst (λ (y : List Cell). Pairs (IsSlot d) y (with_value r.number w (s ∷ ss))) m.2 (rw no (h.0, r.after w x));
      }

-- ---- a drain

one_younger : (d : ℕ) (c : Cell) (s : Slot) → IsSlot d c s → IsSlot (d + 1) (younger c) s
one_younger d c s h = let o = h.older in record { value = h.value; addr = h.addr; kind = h.kind; older = omega arith }

-- the store that may be drained, and what waits after it
pub record Drainable (q : Waiting) (qs : Queues) : Type 0 where
  pub store : StoreAt
  pub word : ℕ
  pub next : draining_of qs.stores qs.ld.slots qs.al.slots ≡ Some (store, word)
  pub after : Wait q (record qs { stores = record { drained = qs.stores.drained + 1; issued = qs.stores.issued; sa = rest qs.stores.sa; sd = rest qs.stores.sd } })

pub drainable : (q r : Waiting) (qs : Queues) (high : ℕ) → Wait q qs → Numbered qs.stores.drained qs.stores.sa high → drain_next q ≡ Some r → Drainable r qs
drainable q r qs high h c e = by q.sa q.sd qs.stores.sa qs.stores.sd refl refl refl refl h.sa h.sd c e where
  after : Wait (without_store q) (record qs { stores = record { drained = qs.stores.drained + 1; issued = qs.stores.issued; sa = rest qs.stores.sa; sd = rest qs.stores.sd } })
  after = record {
    ld = pairs_mapped (IsSlot qs.stores.drained) (IsSlot (qs.stores.drained + 1)) younger (one_younger qs.stores.drained) q.ld qs.ld.slots h.ld;
    al = pairs_mapped (IsSlot qs.stores.drained) (IsSlot (qs.stores.drained + 1)) younger (one_younger qs.stores.drained) q.al qs.al.slots h.al;
    sa = pairs_rest IsStore q.sa qs.stores.sa h.sa;
    sd = pairs_rest Has q.sd qs.stores.sd h.sd;
    ab = h.ab;
    eb = h.eb;
    cq = h.cq;
  }

  by : (ks : List StoreCell) (rs : List Range) (as' : List StoreAt) (ws : List ℕ) → q.sa ≡ ks → q.sd ≡ rs → qs.stores.sa ≡ as' → qs.stores.sd ≡ ws → Pairs IsStore ks as' → Pairs Has rs ws → Numbered qs.stores.drained as' high
      → option_and_then (λ s. if not (list_any (delays s) q.ld) && not (list_any (delays s) q.al) then Some (without_store q) else None) (next_store ks rs) ≡ Some r → Drainable r qs
  by [] rs as' ws e0 e1 e2 e3 p x n g = cc
  by (k ∷ ks) [] as' ws e0 e1 e2 e3 p x n g = cc
  by (k ∷ ks) (d ∷ rs) [] ws e0 e1 e2 e3 p x n g = absurd p
  by (k ∷ ks) (d ∷ rs) (a ∷ as') [] e0 e1 e2 e3 p x n g = absurd x
  by (k ∷ ks) (d ∷ rs) (a ∷ as') (w ∷ ws) e0 e1 e2 e3 p x n g =
      let i = if_some_is (not (list_any (delays k) q.ld) && not (list_any (delays k) q.al)) (Some (without_store q)) r g in
      let both = and_true (not (list_any (delays k) q.ld)) (not (list_any (delays k) q.al)) i.0 in
      let ld = none_pass (IsSlot qs.stores.drained) (delays k) (holds a) (not_held qs.stores.drained k a p.0 n.0) q.ld qs.ld.slots h.ld (not_true (list_any (delays k) q.ld) both.0) in
      let al = none_pass (IsSlot qs.stores.drained) (delays k) (holds a) (not_held qs.stores.drained k a p.0 n.0) q.al qs.al.slots h.al (not_true (list_any (delays k) q.al) both.1) in
      let is : without_store q ≡ r = cc in
      record { store = a; word = w; next = rw (e2, e3, ld, al) refl; after = subst (λ (z : Waiting). Wait z (record qs { stores = record { drained = qs.stores.drained + 1; issued = qs.stores.issued; sa = rest qs.stores.sa; sd = rest qs.stores.sd } })) is after }
