-- What holds of the queues of a node, through accesses, fills and drains.
use Rattle.std.proofs.Common.{◌≡◌, zero, suc, ◌+◌, ◌-◌, ◌<◌, ◌≤◌, ◌^◌, Bool, true, false, not, ◌&&◌, ◌||◌, List, ◌∷◌, ◌++◌, length, map, get_or, refl, ap, ◌∙◌, subst, arith, []}
use Rattle.std.specs.Prelude.{Option, Some, None, option_and_then, is_some, if◌then◌else◌}
use Rattle.std.specs.List.{All, list_any}
use Rattle.std.proofs.lemmas.List.Elements.{All-tail}
use Rattle.dae_ranges.specs.declared.Range.{Range}
use Rattle.dae_queues.specs.Lists.{first, rest}
use Rattle.dae_guard.specs.Sets.{Waiting}
use Rattle.dae_guard.specs.declared.StoreCell.{StoreCell}
use Rattle.dae_guard.specs.Waiting.{younger, delays, drain_next, next_store, without_store}
use Rattle.dae_guard.specs.Moves.{or_else}
use Rattle.dae_guard.specs.declared.slots.LoadSlot.{LoadSlot}
use Rattle.dae_guard.specs.declared.queues.RangeQueues.{RangeQueues}
use Rattle.dae_guard.specs.Kept.{AreKept, IsMade, aged, cell_of, cells_of, waiting_of}
use Rattle.dae_guard.specs.Drains.{is_free, may_drain}
use Rattle.dae_guard.proofs.SlotLaws.{any_cells, kept_aged, length_rest}

-- ---- lists

pub all_rest : {X : Type 0} (P : X → Type 0) (xs : List X) → All P xs → All P (rest xs)
all_rest P [] h = h
all_rest P (x ∷ xs) h = All-tail P x xs h

-- ---- cells

-- slots that are one store older
pub cells_aged : (ss : List LoadSlot) → cells_of (map aged ss) ≡ map younger (cells_of ss)
cells_aged [] = refl
cells_aged (s ∷ ss) = ap (λ cs. younger (cell_of s) ∷ cs) (cells_aged ss)

pub all_aged : (sa : List StoreCell) (ss : List LoadSlot) → AreKept sa ss → AreKept (rest sa) (map aged ss)
all_aged sa [] h k e l = absurd (omega arith)
all_aged sa (s ∷ ss) h zero e l = kept_aged sa s (h 0 s (omega arith))
all_aged sa (s ∷ ss) h (suc k) e l = all_aged sa ss (λ j f m. h (suc j) f (omega arith)) k e (omega arith)

-- ---- a drain

pub none_drains_sa : (sa : List StoreCell) (sd : List Range) (ld al : List LoadSlot) → length sa ≡ 0 → false ≡ may_drain sa sd ld al
none_drains_sa [] sd ld al e = refl
none_drains_sa (s ∷ ss) sd ld al e = absurd (omega arith)

pub none_drains_sd : (sa : List StoreCell) (sd : List Range) (ld al : List LoadSlot) → length sd ≡ 0 → false ≡ may_drain sa sd ld al
none_drains_sd [] sd ld al e = refl
none_drains_sd (s ∷ ss) [] ld al e = refl
none_drains_sd (s ∷ ss) (d ∷ ds) ld al e = absurd (omega arith)

pub free_drains : (sa : List StoreCell) (sd : List Range) (ld al : List LoadSlot) (d : StoreCell) → 0 < length sa → 0 < length sd
    → is_free ld al (get_or sa 0 d) ≡ may_drain sa sd ld al
free_drains [] sd ld al d p r = absurd (omega arith)
free_drains (s ∷ ss) [] ld al d p r = absurd (omega arith)
free_drains (s ∷ ss) (x ∷ ds) ld al d p r = refl

may_drain_is : (q : RangeQueues) → may_drain q.sa.items q.sd.items q.ld.items q.al.items ≡ is_some (drain_next (waiting_of q))
may_drain_is q = by q.sa.items q.sd.items
  where
    told : (b : Bool) → b ≡ is_some (if b then Some (without_store (waiting_of q)) else None)
    told true = refl
    told false = refl

    by : (ss : List StoreCell) (ds : List Range) → may_drain ss ds q.ld.items q.al.items ≡ is_some (option_and_then (λ s.
        if not (list_any (delays s) (cells_of q.ld.items)) && not (list_any (delays s) (cells_of q.al.items))
        then Some (without_store (waiting_of q)) else None) (next_store ss ds))
    by [] ds = refl
    by (s ∷ ss) [] = refl
    by (s ∷ ss) (x ∷ ds) =
        rw (any_cells (delays s) q.ld.items, any_cells (delays s) q.al.items)
        (told (not (list_any (delays s) (cells_of q.ld.items)) && not (list_any (delays s) (cells_of q.al.items))))

pub may_drain_so : (q : RangeQueues) (sa : List StoreCell) (sd : List Range) (ld al : List LoadSlot) (r : Bool) → sa ≡ q.sa.items → sd ≡ q.sd.items → ld ≡ q.ld.items → al ≡ q.al.items
    → r ≡ may_drain sa sd ld al → r ≡ is_some (drain_next (waiting_of q))
may_drain_so q sa sd ld al r e f g h k =
    k ∙ (ap (λ (x : List StoreCell). may_drain x sd ld al) e ∙ (ap (λ (x : List Range). may_drain q.sa.items x ld al) f
    ∙ (ap (λ (x : List LoadSlot). may_drain q.sa.items q.sd.items x al) g ∙ (ap (λ (x : List LoadSlot). may_drain q.sa.items q.sd.items q.ld.items x) h ∙ may_drain_is q))))

pub drains : (q : RangeQueues) → is_some (drain_next (waiting_of q)) ≡ true → drain_next (waiting_of q) ≡ Some (without_store (waiting_of q))
drains q e = by q.sa.items q.sd.items e
  where
    inside : (b : Bool) → is_some (if b then Some (without_store (waiting_of q)) else None) ≡ true → (if b then Some (without_store (waiting_of q)) else None) ≡ Some (without_store (waiting_of q))
    inside true e = refl
    inside false e = absurd cc

    by : (ss : List StoreCell) (ds : List Range) → is_some (option_and_then (λ s.
        if not (list_any (delays s) (cells_of q.ld.items)) && not (list_any (delays s) (cells_of q.al.items))
        then Some (without_store (waiting_of q)) else None) (next_store ss ds)) ≡ true → option_and_then (λ s.
        if not (list_any (delays s) (cells_of q.ld.items)) && not (list_any (delays s) (cells_of q.al.items))
        then Some (without_store (waiting_of q)) else None) (next_store ss ds) ≡ Some (without_store (waiting_of q))
    by [] ds e = absurd cc
    by (s ∷ ss) [] e = absurd cc
    by (s ∷ ss) (d ∷ ds) e = inside (not (list_any (delays s) (cells_of q.ld.items)) && not (list_any (delays s) (cells_of q.al.items))) e

-- ---- one change after another

-- where the first change can't be made, the others are tried
pub made_else : (f g : Waiting → Option Waiting) (b : Bool) (w x y : Waiting) → IsMade false (f w) w x → IsMade b (g x) x y → IsMade b (or_else (f w) (g w)) w y
made_else f g true w x y h k = rw h.0 (subst (λ (z : Waiting). g z ≡ Some y) h.1 k)
made_else f g false w x y h k = (rw h.0 (subst (λ (z : Waiting). g z ≡ None) h.1 k.0), k.1 ∙ h.1)

pub made_first : (f g : Waiting → Option Waiting) (w x : Waiting) → IsMade true (f w) w x → IsMade true (or_else (f w) (g w)) w x
made_first f g w x h = rw h refl

-- ---- after a drain

pub after_drain : (q : RangeQueues) (ld al : List LoadSlot) (sa : List StoreCell) (sd : List Range) → sa ≡ rest q.sa.items → sd ≡ rest q.sd.items
    → ld ≡ map aged q.ld.items → al ≡ map aged q.al.items
    → without_store (waiting_of q) ≡ record { ld = cells_of ld; al = cells_of al; sa = sa; sd = sd; ab = q.ab.items; eb = q.eb.items; cq = q.cq.items }
after_drain q ld al sa sd h g e f = rw (h, g, e, f, cells_aged q.ld.items, cells_aged q.al.items) refl

-- what holds of slots and stores after a drain
pub kept_drained : (sa ta : List StoreCell) (ss ts : List LoadSlot) → ta ≡ rest sa → ts ≡ map aged ss → AreKept sa ss → AreKept ta ts
kept_drained sa ta ss ts e f h = rw (e, f) (all_aged sa ss h)

pub few_drained : (sa ta : List StoreCell) → ta ≡ rest sa → length sa < 2 ^ 16 → length ta < 2 ^ 16
few_drained sa ta e l = let n = length_rest sa in let m : length ta ≡ length (rest sa) = ap length e in omega arith
