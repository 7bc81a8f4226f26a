-- The slots of a load queue with the ticks of their issue, from a place on.
use Rattle.std.proofs.Common.{◌≡◌, ℕ, zero, suc, ◌+◌, ◌<◌, ◌≤◌, Bool, true, false, List, [], ◌∷◌, map, drop, refl, sym, ap, ◌∙◌, subst, arith}
use Rattle.std.specs.Prelude.{Some, None, is_none, is_some, nat_le, ◌&&◌, slice_get, if◌then◌else◌}
use Rattle.std.specs.List.{AllByRecursion}
use Rattle.std.proofs.lemmas.Bool.Decides.{nat_tests}
use Rattle.std.proofs.lemmas.Option.{slice_get-map}
use Rattle.dae_base.proofs.Laws.{map_some_is}
use Rattle.dae_base.specs.declared.Side.{Side}
use Rattle.dae_base.specs.declared.Side.TheVariants.{A, E}
use Rattle.dae_core.specs.Queues.{Queues}
use Rattle.dae_queues.specs.declared.Slot.{Slot}
use Rattle.dae_queues.specs.Lists.{first_unfilled, is_waiting, waiting}
use Rattle.dae_queues.proofs.LawsOfLists.{SlotsNumbered}
use Rattle.dae_machine.specs.declared.Entry.{Entry}
use Rattle.dae_machine.specs.declared.Pick.{Pick}
use Rattle.dae_machine.specs.declared.Pick.TheVariants.{Fill}
use Rattle.dae_machine.specs.Entries.{entries, slot_entry}
use Rattle.dae_machine.specs.Machine.{IsCounted, Setup, State, step}
use Rattle.dae_machine.specs.Memory.{fill, filling, loads_of}
use Rattle.dae_machine.specs.Turns.{is_enabled}
use Rattle.dae_machine.proofs.LawsOfRuns.{number_skips}
use Rattle.dae_timing.specs.Clocks.{load_queue}
use Rattle.dae_timing.specs.Held.{RiseTo}
use Rattle.dae_timing.specs.Ticks.{first_ripe}
use Rattle.dae_timing.proofs.Rising.{all_young, rise_drop}

pub at_place : {X : Type 0} (xs : List X) (i : ℕ) (x : X) → slice_get xs i ≡ Some x → drop i xs ≡ x ∷ drop (i + 1) xs
at_place [] i x h = cc
at_place (y ∷ ys) zero x h = let e : y ≡ x = cc in rw e refl
at_place (y ∷ ys) (suc i) x h = let e : suc i + 1 ≡ suc (i + 1) = omega arith in rw e (at_place ys i x h)

entries_are : (side : Side) (q : Queues) → entries (load_queue side) q ≡ map slot_entry (loads_of side q).slots
entries_are A q = refl
entries_are E q = refl

pub entry_slot : (side : Side) (q : Queues) (i : ℕ) (e : Entry) → slice_get (entries (load_queue side) q) i ≡ Some e → (slot : Slot) × (slice_get (loads_of side q).slots i ≡ Some slot) × (slot_entry slot ≡ e)
entry_slot side q i e h =
    let g : slice_get (map slot_entry (loads_of side q).slots) i ≡ Some e = rw (← entries_are side q) h in
    map_some_is slot_entry (slice_get (loads_of side q).slots i) e (sym (slice_get-map slot_entry (loads_of side q).slots i) ∙ g)

module _ (setup : Setup) (s : State) (side : Side) (load now : ℕ) (slots : List Slot) (times : List ℕ) (i : ℕ) (slot : Slot) (tick : ℕ) (at_slot : slice_get slots i ≡ Some slot) (at_tick : slice_get times i ≡ Some tick) where
  pub ripe_next : (nat_le (tick + load) now && is_enabled setup s (Fill side slot.number)) ≡ false → first_ripe setup s side load now (drop (i + 1) slots) (drop (i + 1) times) ≡ first_ripe setup s side load now (drop i slots) (drop i times)
  ripe_next h = rw (at_place slots i slot at_slot, at_place times i tick at_tick, h) refl

  pub ripe_here : (nat_le (tick + load) now && is_enabled setup s (Fill side slot.number)) ≡ true → Some (Fill side slot.number) ≡ first_ripe setup s side load now (drop i slots) (drop i times)
  ripe_here h = rw (at_place slots i slot at_slot, at_place times i tick at_tick, h) refl

-- what is ripe is a fill
pub ripe_fills : (setup : Setup) (s : State) (side : Side) (load now : ℕ) (slots : List Slot) (times : List ℕ) (p : Pick) → first_ripe setup s side load now slots times ≡ Some p → (number : ℕ) × (p ≡ Fill side number)
ripe_fills setup s side load now [] times p h = cc
ripe_fills setup s side load now (slot ∷ slots) [] p h = cc
ripe_fills setup s side load now (slot ∷ slots) (tick ∷ times) p h = by_test (nat_le (tick + load) now && is_enabled setup s (Fill side slot.number)) h (ripe_fills setup s side load now slots times p) where
  by_test : (b : Bool) → (if b then Some (Fill side slot.number) else first_ripe setup s side load now slots times) ≡ Some p → (first_ripe setup s side load now slots times ≡ Some p → (number : ℕ) × (p ≡ Fill side number)) → (number : ℕ) × (p ≡ Fill side number)
  by_test true g later = (slot.number, cc)
  by_test false g later = later g

-- ---- slots before the first unfilled one

below_not : (n low : ℕ) (z : Slot) → z.number ≡ low → n < low → is_waiting n z ≡ false
below_not n low z e h = grind (arith, nat_tests)

none_below : (n low high : ℕ) (ss : List Slot) → SlotsNumbered low ss high → n < low → waiting n ss ≡ None
none_below n low high [] c h = refl
none_below n low high (z ∷ ss) c h = rw (below_not n low z c.0 h) (none_below n (low + 1) high ss c.1 (omega (arith, h)))

filled_not : (n : ℕ) (z : Slot) → is_none z.value ≡ false → is_waiting n z ≡ false
filled_not n z h = grind (arith, nat_tests)

ripe_no_issues : (setup : Setup) (s : State) (side : Side) (load now : ℕ) (ss : List Slot) → first_ripe setup s side load now ss [] ≡ None
ripe_no_issues setup s side load now [] = refl
ripe_no_issues setup s side load now (z ∷ ss) = refl

module _ (setup : Setup) (s : State) (side : Side) (load now : ℕ) where
  none_enabled : (n : ℕ) → waiting n (loads_of side s.queues).slots ≡ None → is_enabled setup s (Fill side n) ≡ false
  none_enabled n h =
      let no_word : filling side n s.queues s.memory ≡ None = rw h refl in
      let no_fill : fill side n s.queues s.memory ≡ None = rw no_word refl in
      let no_step : step setup s (Fill side n) ≡ None = rw no_fill refl in
      ap is_some no_step

  skip_no_issues : (z : Slot) (ss : List Slot) → first_ripe setup s side load now (drop (first_unfilled (z ∷ ss)) (z ∷ ss)) (drop (first_unfilled (z ∷ ss)) []) ≡ first_ripe setup s side load now (z ∷ ss) []
  skip_no_issues z ss = by_value (is_none z.value) refl where
    by_value : (b : Bool) → is_none z.value ≡ b → first_ripe setup s side load now (drop (first_unfilled (z ∷ ss)) (z ∷ ss)) (drop (first_unfilled (z ∷ ss)) []) ≡ first_ripe setup s side load now (z ∷ ss) []
    by_value true e = rw e refl
    by_value false e = rw e (ripe_no_issues setup s side load now (drop (first_unfilled ss) ss))

  -- where these slots are the last of the queue's, numbered from low on
  skip_filled : (low high : ℕ) (ss : List Slot) (issues : List ℕ) → SlotsNumbered low ss high → ((n : ℕ) → low ≤ n → waiting n (loads_of side s.queues).slots ≡ waiting n ss)
      → first_ripe setup s side load now (drop (first_unfilled ss) ss) (drop (first_unfilled ss) issues) ≡ first_ripe setup s side load now ss issues
  skip_filled low high [] issues c same = refl
  skip_filled low high (z ∷ ss) [] c same = skip_no_issues z ss
  skip_filled low high (z ∷ ss) (t ∷ ts) c same =
      by_value (is_none z.value) refl (skip_filled (low + 1) high ss ts c.1 (λ n h. same n (omega (arith, h)) ∙ rw (number_skips n low z c.0 h) refl)) where
        not_here : is_none z.value ≡ false → is_enabled setup s (Fill side z.number) ≡ false
        not_here e =
            none_enabled z.number (same z.number (let h = c.0 in omega (arith, h))
            ∙ rw (filled_not z.number z e) (none_below z.number (low + 1) high ss c.1 (let h = c.0 in omega (arith, h))))

        by_age : (b : Bool) → first_ripe setup s side load now ss ts ≡ (if b && false then Some (Fill side z.number) else first_ripe setup s side load now ss ts)
        by_age true = refl
        by_age false = refl

        by_value : (b : Bool) → is_none z.value ≡ b → first_ripe setup s side load now (drop (first_unfilled ss) ss) (drop (first_unfilled ss) ts) ≡ first_ripe setup s side load now ss ts
            → first_ripe setup s side load now (drop (first_unfilled (z ∷ ss)) (z ∷ ss)) (drop (first_unfilled (z ∷ ss)) (t ∷ ts)) ≡ first_ripe setup s side load now (z ∷ ss) (t ∷ ts)
        by_value true e later = rw e refl
        by_value false e later = rw (e, not_here e) (later ∙ by_age (nat_le (t + load) now))

  -- no slot is ripe where each is too young
  none_ripe : (ss : List Slot) (issues : List ℕ) → AllByRecursion (λ (t : ℕ). nat_le (t + load) now ≡ false) issues → first_ripe setup s side load now ss issues ≡ None
  none_ripe [] issues a = refl
  none_ripe (z ∷ ss) [] a = refl
  none_ripe (z ∷ ss) (t ∷ ts) a = rw a.0 (none_ripe ss ts a.1)

  -- nor from a place on whose slot is too young
  pub none_from : (ss : List Slot) (issues : List ℕ) (i tick : ℕ) → RiseTo now issues → slice_get issues i ≡ Some tick → nat_le (tick + load) now ≡ false → first_ripe setup s side load now (drop i ss) (drop i issues) ≡ None
  none_from ss issues i tick rise found young =
      let e = at_place issues i tick found in
      let r : RiseTo now (tick ∷ drop (i + 1) issues) = subst (RiseTo now) e (rise_drop now i issues rise) in
      subst (λ (ts : List ℕ). first_ripe setup s side load now (drop i ss) ts ≡ None) (sym e) (none_ripe (drop i ss) (tick ∷ drop (i + 1) issues) (young, all_young tick load now (drop (i + 1) issues) young r.1))

pub skip_all : (setup : Setup) (s : State) (side : Side) (load now : ℕ) (issues : List ℕ) → IsCounted s
    → first_ripe setup s side load now (drop (first_unfilled (loads_of side s.queues).slots) (loads_of side s.queues).slots) (drop (first_unfilled (loads_of side s.queues).slots) issues)
    ≡ first_ripe setup s side load now (loads_of side s.queues).slots issues
skip_all setup s A load now issues c = skip_filled setup s A load now s.queues.al.taken s.queues.al.reserved s.queues.al.slots issues c.al.numbers (λ n h. refl)
skip_all setup s E load now issues c = skip_filled setup s E load now s.queues.ld.taken s.queues.ld.reserved s.queues.ld.slots issues c.ld.numbers (λ n h. refl)
