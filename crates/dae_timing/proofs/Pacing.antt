-- From the last tick that had a pick on, fewer ticks than the largest cost pass without one.
use Rattle.std.proofs.Common.{◌≡◌, ◌⊎◌, inl, inr, ℕ, suc, ◌+◌, ◌*◌, ◌<◌, ◌≤◌, Bool, true, false, List, [], ◌∷◌, ◌++◌, length, refl, sym, ap, ◌∙◌, arith}
use Rattle.std.proofs.lemmas.Bool.Decides.{nat_tests}
use Rattle.std.specs.Prelude.{Option, Some, None, is_some, nat_lt, nat_le, ◌&&◌, if◌then◌else◌}
use Rattle.std.specs.List.{AllByRecursion}
use Rattle.std.specs.Option.{option_to_list}
use Rattle.std.proofs.Math.Nat.{mul-le-mul_left, mul-suc}
use Rattle.dae_base.proofs.Laws.{and_then_some, map_some_is}
use Rattle.dae_base.specs.declared.Side.{Side}
use Rattle.dae_base.specs.declared.Side.TheVariants.{A, E}
use Rattle.dae_core.specs.declared.CoreAnswer.{CoreAnswer}
use Rattle.dae_core.specs.declared.CoreAnswer.TheVariants.{Did, Waits, Halted, Faulted}
use Rattle.dae_image.specs.declared.Image.{Image}
use Rattle.dae_queues.specs.declared.Slot.{Slot}
use Rattle.dae_queues.specs.Lists.{is_waiting, rest, waiting as waiting_slot}
use Rattle.dae_machine.specs.declared.Pick.{Pick}
use Rattle.dae_machine.specs.declared.Pick.TheVariants.{A as MoveA, E as MoveE, Fill, Drain}
use Rattle.dae_machine.specs.Answers.{answer}
use Rattle.dae_machine.specs.Machine.{Setup, State, filled, step}
use Rattle.dae_machine.specs.Memory.{fill, filling, loads_of}
use Rattle.dae_machine.specs.Opened.{opened}
use Rattle.dae_machine.specs.Turns.{is_enabled}
use Rattle.dae_machine.proofs.LawsOfRuns.{step_counts}
use Rattle.dae_cli_options.specs.declared.options.Costs.{Costs}
use Rattle.dae_timing.specs.declared.prices.Price.{Price}
use Rattle.dae_timing.specs.declared.prices.Price.TheVariants.{One, Product, Quotient}
use Rattle.dae_timing.specs.Clocks.{Clock, free_from, issues_after, first_clock}
use Rattle.dae_timing.specs.Costs.{cost_of, largest}
use Rattle.dae_timing.specs.Ticks.{after_drain, after_fill, drain_of, fill_of, after_side, move_of, after_move, first_ripe, step_of, after_step, after_pick, after_tick, after_wait}
use Rattle.dae_timing.specs.Runs.{HasPick, Ticks, no_tick, one_tick}
use Rattle.dae_timing.proofs.Counting.{SameCounts, drain_same, fill_same, noted_length, steps_shift}

-- each slot may be filled before this tick
abbrev pub Ripen : (load bound : ℕ) → List ℕ → Type 0
Ripen load bound times = AllByRecursion (λ (t : ℕ). suc (t + load) ≤ bound) times

-- neither a processor nor a slot is held back to this tick; and each slot has the tick of its issue
pub record Within (load bound : ℕ) (c : Clock) : Type 0 where
  pub free_a : suc c.free_a ≤ bound
  pub free_e : suc c.free_e ≤ bound
  pub ld : Ripen load bound c.ld
  pub al : Ripen load bound c.al
  pub each_ld : length c.ld ≡ length c.state.queues.ld.slots
  pub each_al : length c.al ≡ length c.state.queues.al.slots

ripen_more : (load b d : ℕ) (times : List ℕ) → b ≤ d → Ripen load b times → Ripen load d times
ripen_more load b d [] h r = tt
ripen_more load b d (t ∷ ts) h r = ((let x = r.0 in omega (arith, x, h)), ripen_more load b d ts h r.1)

within_more : (load b d : ℕ) (c : Clock) → b ≤ d → Within load b c → Within load d c
within_more load b d c h w = record {
  free_a = (let x = w.free_a in omega (arith, x, h));
  free_e = (let x = w.free_e in omega (arith, x, h));
  ld = ripen_more load b d c.ld h w.ld;
  al = ripen_more load b d c.al h w.al;
  each_ld = w.each_ld;
  each_al = w.each_al;
}

ripen_rest : (load b : ℕ) (times : List ℕ) → Ripen load b times → Ripen load b (rest times)
ripen_rest load b [] r = tt
ripen_rest load b (t ∷ ts) r = r.1

ripen_last : (load b now : ℕ) (times : List ℕ) → suc (now + load) ≤ b → Ripen load b times → Ripen load b (times ++ now ∷ [])
ripen_last load b now [] h r = (h, tt)
ripen_last load b now (t ∷ ts) h r = (r.0, ripen_last load b now ts h r.1)

ripen_noted : (load b now m n : ℕ) (times : List ℕ) → suc (now + load) ≤ b → Ripen load b times → Ripen load b (issues_after now m n times)
ripen_noted load b now m n times h r = by_tests (nat_lt m n) (nat_lt n m) where
  by_tests : (x y : Bool) → Ripen load b (if x then times ++ now ∷ [] else (if y then rest times else times))
  by_tests true y = ripen_last load b now times h r
  by_tests false true = ripen_rest load b times r
  by_tests false false = r

-- ---- what a part of a tick does

-- all but the waits is the same
pub record Same (c d : Clock) : Type 0 where
  pub state : d.state ≡ c.state
  pub ld : d.ld ≡ c.ld
  pub al : d.al ≡ c.al
  pub free_a : d.free_a ≡ c.free_a
  pub free_e : d.free_e ≡ c.free_e

-- the part made this pick, where it made one
pub record Does (load bound : ℕ) (c : Clock) (o : Option Pick) (d : Clock) : Type 0 where
  pub ticks : d.ticks ≡ c.ticks
  pub steps : d.state.steps ≡ c.state.steps + length (option_to_list o)
  pub within : Within load bound c → Within load bound d
  pub none : o ≡ None → Same c d

same_as : (c : Clock) → Same c c
same_as c = record { state = refl; ld = refl; al = refl; free_a = refl; free_e = refl }

does_none : (load bound : ℕ) (c : Clock) → Does load bound c None c
does_none load bound c = record { ticks = refl; steps = omega arith; within = λ w. w; none = λ e. same_as c }

counted : (load bound : ℕ) (c : Clock) (t : State) → SameCounts c.state.queues t.queues → Within load bound c → Within load bound (record c { state = t })
counted load bound c t same w = record { free_a = w.free_a; free_e = w.free_e; ld = w.ld; al = w.al; each_ld = w.each_ld ∙ sym same.ld; each_al = w.each_al ∙ sym same.al }

-- a pick of the memory
taken_does : (setup : Setup) (load bound : ℕ) (c : Clock) (o : Option Pick) → ((p : Pick) → o ≡ Some p → (t : State) × (step setup c.state p ≡ Some t) × SameCounts c.state.queues t.queues) → Does load bound c o (after_pick setup o c)
taken_does setup load bound c None h = does_none load bound c
taken_does setup load bound c (Some p) h =
    let x = h p refl in
    let same : after_step c (step setup c.state p) ≡ record c { state = x.0 } = ap (after_step c) x.1 in
    rw same (record {
      ticks = refl;
      steps = step_counts setup c.state x.0 p x.1;
      within = counted load bound c x.0 x.2;
      none = λ e. absurd (let f : Some p ≡ None = e in cc);
    })

drain_made : (setup : Setup) (c : Clock) (p : Pick) → drain_of setup c ≡ Some p → (t : State) × (step setup c.state p ≡ Some t) × SameCounts c.state.queues t.queues
drain_made setup c p h = by_step (step setup c.state Drain) refl h where
  by_step : (o : Option State) → step setup c.state Drain ≡ o → (if is_some o then Some Drain else None) ≡ Some p → (t : State) × (step setup c.state p ≡ Some t) × SameCounts c.state.queues t.queues
  by_step None e g = cc
  by_step (Some t) e g = let same : Drain ≡ p = cc in rw (← same) (t, e, drain_same setup c.state t e)

ripe_made : (setup : Setup) (s : State) (side : Side) (load now : ℕ) (slots : List Slot) (times : List ℕ) (p : Pick) → first_ripe setup s side load now slots times ≡ Some p → (t : State) × (step setup s p ≡ Some t) × SameCounts s.queues t.queues
ripe_made setup s side load now [] times p h = cc
ripe_made setup s side load now (slot ∷ slots) [] p h = cc
ripe_made setup s side load now (slot ∷ slots) (tick ∷ times) p h = by_tests (nat_le (tick + load) now) (step setup s (Fill side slot.number)) refl h (ripe_made setup s side load now slots times p) where
  by_tests : (a : Bool) (o : Option State) → step setup s (Fill side slot.number) ≡ o → (if a && is_some o then Some (Fill side slot.number) else first_ripe setup s side load now slots times) ≡ Some p → (first_ripe setup s side load now slots times ≡ Some p → (t : State) × (step setup s p ≡ Some t) × SameCounts s.queues t.queues) → (t : State) × (step setup s p ≡ Some t) × SameCounts s.queues t.queues
  by_tests true (Some t) e g later = let same : Fill side slot.number ≡ p = cc in rw (← same) (t, e, fill_same setup s t side slot.number e)
  by_tests true None e g later = later g
  by_tests false o e g later = later g

-- a part of a processor

module _ (k : Costs) (bound : ℕ) (c : Clock) (later : suc (c.ticks + largest k) ≤ bound) where
  cost_within : (price : Price) → (1 ≤ largest k) → suc (c.ticks + cost_of k price) ≤ bound
  cost_within One some = omega (arith, later, some)
  cost_within Product some = (let m : k.mul ≤ largest k = grind (arith, nat_tests) in omega (arith, later, m))
  cost_within Quotient some = (let m : k.div ≤ largest k = grind (arith, nat_tests) in omega (arith, later, m))

  load_within : suc (c.ticks + k.load) ≤ bound
  load_within = let m : k.load ≤ largest k = grind (arith, nat_tests) in omega (arith, later, m)

waiting_same : (a : CoreAnswer) (side : Side) (c : Clock) → Same c (after_wait a side c)
waiting_same (Did piece) side c = same_as c
waiting_same (Waits queue) A c = record { state = refl; ld = refl; al = refl; free_a = refl; free_e = refl }
waiting_same (Waits queue) E c = record { state = refl; ld = refl; al = refl; free_a = refl; free_e = refl }
waiting_same Halted side c = same_as c
waiting_same (Faulted fault) side c = same_as c

waiting_ticks : (a : CoreAnswer) (side : Side) (c : Clock) → (after_wait a side c).ticks ≡ c.ticks
waiting_ticks (Did piece) side c = refl
waiting_ticks (Waits queue) A c = refl
waiting_ticks (Waits queue) E c = refl
waiting_ticks Halted side c = refl
waiting_ticks (Faulted fault) side c = refl

same_within : (load bound : ℕ) (c d : Clock) → Same c d → Within load bound c → Within load bound d
same_within load bound c d s w = record {
  free_a = rw s.free_a w.free_a;
  free_e = rw s.free_e w.free_e;
  ld = rw s.ld w.ld;
  al = rw s.al w.al;
  each_ld = rw (s.ld, s.state) w.each_ld;
  each_al = rw (s.al, s.state) w.each_al;
}

waits_does : (load bound : ℕ) (a : CoreAnswer) (side : Side) (c : Clock) → Does load bound c None (after_wait a side c)
waits_does load bound a side c = record {
  ticks = waiting_ticks a side c;
  steps = (let e = (waiting_same a side c).state in rw e (omega arith));
  within = same_within load bound c (after_wait a side c) (waiting_same a side c);
  none = λ e. waiting_same a side c;
}

moved_does : (setup : Setup) (k : Costs) (bound : ℕ) (side : Side) (cost : ℕ) (c : Clock) (t : State) → step setup c.state (move_of side) ≡ Some t → suc (c.ticks + cost) ≤ bound → suc (c.ticks + k.load) ≤ bound → Does k.load bound c (Some (move_of side)) (after_move side cost c t)
moved_does setup k bound A cost c t h costs loads =
    let shift = steps_shift setup c.state t A (λ e. h) (λ e. cc) in
    record {
      ticks = refl;
      steps = step_counts setup c.state t MoveA h;
      within = λ w. record {
        free_a = costs;
        free_e = w.free_e;
        ld = ripen_noted k.load bound c.ticks (length c.state.queues.ld.slots) (length t.queues.ld.slots) c.ld loads w.ld;
        al = ripen_noted k.load bound c.ticks (length c.state.queues.al.slots) (length t.queues.al.slots) c.al loads w.al;
        each_ld = noted_length c.ticks _ _ _ c.ld shift.ld w.each_ld;
        each_al = noted_length c.ticks _ _ _ c.al shift.al w.each_al;
      };
      none = λ e. absurd (let f : Some MoveA ≡ None = e in cc);
    }
moved_does setup k bound E cost c t h costs loads =
    let shift = steps_shift setup c.state t E (λ e. cc) (λ e. h) in
    record {
      ticks = refl;
      steps = step_counts setup c.state t MoveE h;
      within = λ w. record {
        free_a = w.free_a;
        free_e = costs;
        ld = ripen_noted k.load bound c.ticks (length c.state.queues.ld.slots) (length t.queues.ld.slots) c.ld loads w.ld;
        al = ripen_noted k.load bound c.ticks (length c.state.queues.al.slots) (length t.queues.al.slots) c.al loads w.al;
        each_ld = noted_length c.ticks _ _ _ c.ld shift.ld w.each_ld;
        each_al = noted_length c.ticks _ _ _ c.al shift.al w.each_al;
      };
      none = λ e. absurd (let f : Some MoveE ≡ None = e in cc);
    }

gone_does : (setup : Setup) (k : Costs) (bound : ℕ) (side : Side) (c : Clock) → 1 ≤ largest k → suc (c.ticks + largest k) ≤ bound → Does k.load bound c (step_of setup side c) (after_side setup k side c)
gone_does setup k bound side c some later = by_free (nat_lt c.ticks (free_from side c)) refl where
  by_step : (o : Option State) → step setup c.state (move_of side) ≡ o → nat_lt c.ticks (free_from side c) ≡ false → Does k.load bound c (step_of setup side c) (after_side setup k side c)
  by_step None e f = rw (f, e) (waits_does k.load bound (answer setup c.state side) side c)
  by_step (Some t) e f = rw (f, e) (moved_does setup k bound side _ c t e (cost_within k bound c later _ some) (load_within k bound c later))

  by_free : (b : Bool) → nat_lt c.ticks (free_from side c) ≡ b → Does k.load bound c (step_of setup side c) (after_side setup k side c)
  by_free true e = rw e (does_none k.load bound c)
  by_free false e = by_step (step setup c.state (move_of side)) refl e

-- ---- a tick without a pick

held_back : (setup : Setup) (side : Side) (c : Clock) → is_enabled setup c.state (move_of side) ≡ true → step_of setup side c ≡ None → suc c.ticks ≤ free_from side c
held_back setup side c on h = by_free (nat_lt c.ticks (free_from side c)) refl where
  by_free : (b : Bool) → nat_lt c.ticks (free_from side c) ≡ b → suc c.ticks ≤ free_from side c
  by_free true e = grind (arith, nat_tests)
  by_free false e = let f : Some (move_of side) ≡ None = rw (e, on) at h in cc

unripe : (setup : Setup) (s : State) (side : Side) (load now bound number : ℕ) (slots : List Slot) (times : List ℕ) (slot : Slot) → is_enabled setup s (Fill side number) ≡ true → waiting_slot number slots ≡ Some slot → length times ≡ length slots → Ripen load bound times → first_ripe setup s side load now slots times ≡ None → suc (suc now) ≤ bound
unripe setup s side load now bound number [] times slot on found each ripen h = cc
unripe setup s side load now bound number (x ∷ xs) [] slot on found each ripen h = absurd (omega (arith, each))
unripe setup s side load now bound number (x ∷ xs) (t ∷ ts) slot on found each ripen h =
    by_tests (nat_le (t + load) now) refl (is_enabled setup s (Fill side x.number)) refl (is_waiting number x) refl found h
    (λ i j. unripe setup s side load now bound number xs ts slot on i (omega (arith, each)) ripen.1 j) where
      by_tests : (a : Bool) → nat_le (t + load) now ≡ a → (b : Bool) → is_enabled setup s (Fill side x.number) ≡ b → (w : Bool) → is_waiting number x ≡ w → (if w then Some x else waiting_slot number xs) ≡ Some slot → (if a && b then Some (Fill side x.number) else first_ripe setup s side load now xs ts) ≡ None
          → (waiting_slot number xs ≡ Some slot → first_ripe setup s side load now xs ts ≡ None → suc (suc now) ≤ bound) → suc (suc now) ≤ bound
      by_tests true e true f w g i j later = cc
      by_tests true e false f true g i j later = let same : x.number ≡ number = grind (arith, nat_tests) in let bad : true ≡ false = sym on ∙ rw (← same) f in cc
      by_tests false e b f true g i j later = let late : now < t + load = grind (arith, nat_tests) in (let r = ripen.0 in omega (arith, late, r))
      by_tests true e false f false g i j later = later i j
      by_tests false e b f false g i j later = later i j

-- the slot of a fill that is enabled
fill_slot : (setup : Setup) (s : State) (side : Side) (number : ℕ) (t : State) → step setup s (Fill side number) ≡ Some t → (slot : Slot) × (waiting_slot number (loads_of side s.queues).slots ≡ Some slot)
fill_slot setup s side number t h =
    let x = map_some_is (filled s) (fill side number s.queues s.memory) t h in
    let y = map_some_is _ (filling side number s.queues s.memory) x.0 x.1 in
    let z = and_then_some _ (waiting_slot number (loads_of side s.queues).slots) y.0 y.1 in
    (z.0, z.1)

on_is : (setup : Setup) (s t : State) (p : Pick) → step setup s p ≡ Some t → is_enabled setup s p ≡ true
on_is setup s t p h = ap is_some h

same_then : (c d e : Clock) → Same c d → Same d e → Same c e
same_then c d e x y = record { state = y.state ∙ x.state; ld = y.ld ∙ x.ld; al = y.al ∙ x.al; free_a = y.free_a ∙ x.free_a; free_e = y.free_e ∙ x.free_e }

-- where the pick of a part was not made, though it is enabled, its time comes before the bound
module _ (setup : Setup) (k : Costs) (bound : ℕ) (c : Clock) (w : Within k.load bound c) where
  waits_fill : (side : Side) (number : ℕ) (t : State) → step setup c.state (Fill side number) ≡ Some t → fill_of setup k side c ≡ None → suc (suc c.ticks) ≤ bound
  waits_fill A number t h none = let x = fill_slot setup c.state A number t h in unripe setup c.state A k.load c.ticks bound number c.state.queues.al.slots c.al x.0 (on_is setup c.state t (Fill A number) h) x.1 w.each_al w.al none
  waits_fill E number t h none = let x = fill_slot setup c.state E number t h in unripe setup c.state E k.load c.ticks bound number c.state.queues.ld.slots c.ld x.0 (on_is setup c.state t (Fill E number) h) x.1 w.each_ld w.ld none

  waits_move : (side : Side) (t : State) → step setup c.state (move_of side) ≡ Some t → step_of setup side c ≡ None → suc (suc c.ticks) ≤ bound
  waits_move A t h none = let x = held_back setup A c (on_is setup c.state t MoveA h) none in let f = w.free_a in omega (arith, x, f)
  waits_move E t h none = let x = held_back setup E c (on_is setup c.state t MoveE h) none in let f = w.free_e in omega (arith, x, f)

any : (o : Option Pick) → (o ≡ None) ⊎ (1 ≤ length (option_to_list o))
any None = inl refl
any (Some p) = inr (omega arith)

-- ---- the pace

pub record Paced (k : Costs) (c : Clock) : Type 0 where
  pub last : ℕ
  pub before : last ≤ c.ticks
  pub few : last ≤ largest k * c.state.steps
  pub near : suc c.ticks ≤ last + largest k
  pub within : Within k.load (last + largest k) c

module _ (setup : Setup) (k : Costs) (c : Clock) (some : 1 ≤ largest k) (goes : HasPick setup c.state) (paced : Paced k c) where
  abbrev c1 : Clock
  c1 = after_drain setup c

  abbrev c2 : Clock
  c2 = after_fill setup k A c1

  abbrev c3 : Clock
  c3 = after_fill setup k E c2

  abbrev c4 : Clock
  c4 = after_side setup k E c3

  abbrev c5 : Clock
  c5 = after_side setup k A c4

  abbrev o1 : Option Pick
  o1 = drain_of setup c

  abbrev o2 : Option Pick
  o2 = fill_of setup k A c1

  abbrev o3 : Option Pick
  o3 = fill_of setup k E c2

  abbrev o4 : Option Pick
  o4 = step_of setup E c3

  abbrev o5 : Option Pick
  o5 = step_of setup A c4

  abbrev bound : ℕ
  bound = suc c.ticks + largest k

  d1 : Does k.load bound c o1 c1
  d1 = taken_does setup k.load bound c o1 (drain_made setup c)

  d2 : Does k.load bound c1 o2 c2
  d2 = taken_does setup k.load bound c1 o2 (ripe_made setup c1.state A k.load c1.ticks _ _)

  d3 : Does k.load bound c2 o3 c3
  d3 = taken_does setup k.load bound c2 o3 (ripe_made setup c2.state E k.load c2.ticks _ _)

  ticks3 : c3.ticks ≡ c.ticks
  ticks3 = d3.ticks ∙ d2.ticks ∙ d1.ticks

  d4 : Does k.load bound c3 o4 c4
  d4 = gone_does setup k bound E c3 some (let e = ticks3 in omega (arith, e))

  d5 : Does k.load bound c4 o5 c5
  d5 = gone_does setup k bound A c4 some (let e = ticks3 in let f = d4.ticks in omega (arith, e, f))

  ticks5 : c5.ticks ≡ c.ticks
  ticks5 = d5.ticks ∙ d4.ticks ∙ ticks3

  -- a tick with a pick
  active : 1 ≤ length (option_to_list o1) + length (option_to_list o2) + length (option_to_list o3) + length (option_to_list o4) + length (option_to_list o5) → Paced k (after_tick setup k c)
  active more =
      let s1 = d1.steps in let s2 = d2.steps in let s3 = d3.steps in let s4 = d4.steps in let s5 = d5.steps in
      let t5 = ticks5 in
      let one : suc c.state.steps ≤ c5.state.steps = omega (arith, s1, s2, s3, s4, s5, more) in
      let product : largest k * suc c.state.steps ≤ largest k * c5.state.steps = mul-le-mul_left (largest k) one in
      let unfolded : largest k * suc c.state.steps ≡ largest k * c.state.steps + largest k = mul-suc (largest k) c.state.steps in
      let near = paced.near in let few = paced.few in let before = paced.before in
      let begin = within_more k.load (paced.last + largest k) bound c (omega (arith, before)) paced.within in
      let w = d5.within (d4.within (d3.within (d2.within (d1.within begin)))) in
      record {
        last = suc c.ticks;
        before = omega (arith, t5);
        few = omega (arith, product, unfolded, near, few);
        near = omega (arith, t5, some);
        within = record { free_a = w.free_a; free_e = w.free_e; ld = w.ld; al = w.al; each_ld = w.each_ld; each_al = w.each_al };
      }

  -- a tick without one
  idle : o1 ≡ None → o2 ≡ None → o3 ≡ None → o4 ≡ None → o5 ≡ None → Paced k (after_tick setup k c)
  idle n1 n2 n3 n4 n5 =
      let r1 = d1.none n1 in
      let r2 = same_then c c1 c2 r1 (d2.none n2) in
      let r3 = same_then c c2 c3 r2 (d3.none n3) in
      let r4 = same_then c c3 c4 r3 (d4.none n4) in
      let r5 = same_then c c4 c5 r4 (d5.none n5) in
      let b = paced.last + largest k in
      let w1 = same_within k.load b c c1 r1 paced.within in
      let w2 = same_within k.load b c c2 r2 paced.within in
      let w3 = same_within k.load b c c3 r3 paced.within in
      let w4 = same_within k.load b c c4 r4 paced.within in
      let w5 = same_within k.load b c c5 r5 paced.within in
      let next : suc (suc c.ticks) ≤ b = by_pick goes.0 goes.1 goes.2 r1 r2 r3 r4 w1 w2 w3 w4 in
      let t5 = ticks5 in
      let before = paced.before in
      record {
        last = paced.last;
        before = omega (arith, t5, before);
        few = (let few = paced.few in rw r5.state few);
        near = omega (arith, t5, next);
        within = record { free_a = w5.free_a; free_e = w5.free_e; ld = w5.ld; al = w5.al; each_ld = w5.each_ld; each_al = w5.each_al };
      } where
        by_pick : (p : Pick) (t : State) → step setup c.state p ≡ Some t → Same c c1 → Same c c2 → Same c c3 → Same c c4
            → Within k.load (paced.last + largest k) c1 → Within k.load (paced.last + largest k) c2 → Within k.load (paced.last + largest k) c3 → Within k.load (paced.last + largest k) c4 → suc (suc c.ticks) ≤ paced.last + largest k
        by_pick MoveA t h r1 r2 r3 r4 w1 w2 w3 w4 = let x = waits_move setup k (paced.last + largest k) c4 w4 A t (rw r4.state h) n5 in let e = d4.ticks ∙ ticks3 in omega (arith, x, e)
        by_pick MoveE t h r1 r2 r3 r4 w1 w2 w3 w4 = let x = waits_move setup k (paced.last + largest k) c3 w3 E t (rw r3.state h) n4 in let e = ticks3 in omega (arith, x, e)
        by_pick (Fill A number) t h r1 r2 r3 r4 w1 w2 w3 w4 = let x = waits_fill setup k (paced.last + largest k) c1 w1 A number t (rw r1.state h) n2 in let e = d1.ticks in omega (arith, x, e)
        by_pick (Fill E number) t h r1 r2 r3 r4 w1 w2 w3 w4 = let x = waits_fill setup k (paced.last + largest k) c2 w2 E number t (rw r2.state h) n3 in let e = d2.ticks ∙ d1.ticks in omega (arith, x, e)
        by_pick Drain t h r1 r2 r3 r4 w1 w2 w3 w4 = let on = on_is setup c.state t Drain h in let f : Some Drain ≡ None = rw on at n1 in cc

  pub tick_paced : Paced k (after_tick setup k c)
  tick_paced = elim (any o1) [
    | inr h ↦ active (omega (arith, h))
    | inl n1 ↦ elim (any o2) [
      | inr h ↦ active (omega (arith, h))
      | inl n2 ↦ elim (any o3) [
        | inr h ↦ active (omega (arith, h))
        | inl n3 ↦ elim (any o4) [
          | inr h ↦ active (omega (arith, h))
          | inl n4 ↦ elim (any o5) [
            | inr h ↦ active (omega (arith, h))
            | inl n5 ↦ idle n1 n2 n3 n4 n5
          ]
        ]
      ]
    ]
  ]

pub ticks_paced : (setup : Setup) (k : Costs) (n : ℕ) (c d : Clock) (ps : List Pick) → 1 ≤ largest k → Paced k c → Ticks setup k n c ps d → Paced k d
ticks_paced setup k n c d ps some paced no_tick = paced
ticks_paced setup k n c d ps some paced (one_tick {n = m} {ps = qs} goes later) =
    ticks_paced setup k m (after_tick setup k c) d qs some (tick_paced setup k c some goes paced) later

pub ticks_few : (setup : Setup) (k : Costs) (image : Image) (n : ℕ) (d : Clock) (ps : List Pick) → 1 ≤ largest k → Ticks setup k n (first_clock (opened image)) ps d → d.ticks ≤ largest k * (d.state.steps + 1)
ticks_few setup k image n d ps some ticks =
    let begin : Paced k (first_clock (opened image)) = record {
      last = 0;
      before = omega arith;
      few = omega arith;
      near = omega (arith, some);
      within = record { free_a = omega (arith, some); free_e = omega (arith, some); ld = tt; al = tt; each_ld = refl; each_al = refl };
    } in
    let p = ticks_paced setup k n (first_clock (opened image)) d ps some begin ticks in
    let near = p.near in let few = p.few in
    let unfolded : largest k * suc d.state.steps ≡ largest k * d.state.steps + largest k = mul-suc (largest k) d.state.steps in
    let sum : largest k * (d.state.steps + 1) ≡ largest k * suc d.state.steps = ap (λ n. largest k * n) (omega arith) in
    omega (arith, near, few, unfolded, sum)

-- the largest cost is at least 1
pub costs_some : (k : Costs) → 1 ≤ largest k
costs_some k = let r = k.ranges in let l = r.load_least in grind (arith, nat_tests)

pub ticks_at_most : (setup : Setup) (k : Costs) (image : Image) (n : ℕ) (d : Clock) (ps : List Pick) → Ticks setup k n (first_clock (opened image)) ps d → d.ticks ≤ largest k * (d.state.steps + 1)
ticks_at_most setup k image n d ps ticks = ticks_few setup k image n d ps (costs_some k) ticks
