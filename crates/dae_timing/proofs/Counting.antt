-- How many slots the load queues hold once a pick is made, and how many steps there were.
use Rattle.std.proofs.Common.{◌≡◌, ℕ, ◌+◌, ◌<◌, ◌≤◌, true, false, List, [], ◌∷◌, ◌++◌, length, refl, sym, ap, ◌∙◌, arith}
use Rattle.std.proofs.lemmas.Bool.Decides.{nat_tests}
use Rattle.std.specs.Prelude.{Some, nat_lt, option_map}
use Rattle.std.proofs.lemmas.List.{length-append, length-map}
use Rattle.dae_base.proofs.Laws.{and_true, if_some_is, map_some_is}
use Rattle.dae_base.specs.declared.Side.{Side}
use Rattle.dae_base.specs.declared.Side.TheVariants.{A, E}
use Rattle.dae_base.specs.declared.Depths.{Depths}
use Rattle.dae_base.specs.declared.Queue.TheVariants.{Ld, Al, Sa, Sd, Ab, Eb, Cq}
use Rattle.dae_base.specs.Budgets.{depth}
use Rattle.dae_encode.specs.declared.QueueUse.{QueueUse}
use Rattle.dae_encode.specs.declared.QueueUse.TheVariants.{Nothing, Take, Push, Load, StoreAddress}
use Rattle.dae_encode.specs.declared.Request.{Request}
use Rattle.dae_encode.specs.declared.Request.TheVariants.{Halted, Faulty, Asks}
use Rattle.dae_encode.specs.Instructions.{form}
use Rattle.dae_encode.specs.Processor.{Processor, After, finish, request}
use Rattle.dae_queues.specs.declared.Slot.{Slot}
use Rattle.dae_queues.specs.Lists.{rest}
use Rattle.dae_core.specs.Queues.{Queues, commit, front, possible, ready}
use Rattle.dae_core.specs.Moves.{offered_by}
use Rattle.dae_machine.specs.declared.Pick.TheVariants.{A as MoveA, E as MoveE, Fill, Drain}
use Rattle.dae_machine.specs.Machine.{Setup, State, code, granted, move, moved_a, moved_e, filled, drained, step}
use Rattle.dae_machine.specs.Memory.{fill, filling, drain, draining}
use Rattle.dae_timing.specs.Clocks.{issues_after}
use Rattle.dae_timing.specs.Ticks.{move_of}

-- a queue of this depth held m slots and holds n: as many, one more than it held below its depth, or one fewer
pub data Shifts (deep m n : ℕ) : Type 0 where
  stays : n ≡ m → Shifts deep m n
  grows : n ≡ m + 1 → m < deep → Shifts deep m n
  shrinks : n + 1 ≡ m → Shifts deep m n

rest_shifts : (deep : ℕ) (slots : List Slot) → Shifts deep (length slots) (length (rest slots))
rest_shifts deep [] = stays refl
rest_shifts deep (s ∷ ss) = shrinks (omega arith)

more_shifts : (deep : ℕ) (slots : List Slot) (s : Slot) → nat_lt (length slots) deep ≡ true → Shifts deep (length slots) (length (slots ++ s ∷ []))
more_shifts deep slots s room = grows (length-append slots (s ∷ [])) (grind (arith, nat_tests))

possible_of : (d : Depths) (u : QueueUse) (q : Queues) → ready d u q ≡ true → possible d u q ≡ true
possible_of d u q h = (and_true _ (possible d u q) h).1

shifts_ld : (d : Depths) (u : QueueUse) (w : ℕ) (q : Queues) → possible d u q ≡ true → Shifts (depth Ld d) (length q.ld.slots) (length (let r = commit u w q in r.ld.slots))
shifts_ld d Nothing w q h = stays refl
shifts_ld d (Take Ld) w q h = rest_shifts _ q.ld.slots
shifts_ld d (Take Al) w q h = stays refl
shifts_ld d (Take Sa) w q h = stays refl
shifts_ld d (Take Sd) w q h = stays refl
shifts_ld d (Take Ab) w q h = stays refl
shifts_ld d (Take Eb) w q h = stays refl
shifts_ld d (Take Cq) w q h = stays refl
shifts_ld d (Push Ld) w q h = stays refl
shifts_ld d (Push Al) w q h = stays refl
shifts_ld d (Push Sa) w q h = stays refl
shifts_ld d (Push Sd) w q h = stays refl
shifts_ld d (Push Ab) w q h = stays refl
shifts_ld d (Push Eb) w q h = stays refl
shifts_ld d (Push Cq) w q h = stays refl
shifts_ld d (Load Ld kind) w q h = more_shifts _ q.ld.slots _ h
shifts_ld d (Load Al kind) w q h = stays refl
shifts_ld d (Load Sa kind) w q h = stays refl
shifts_ld d (Load Sd kind) w q h = stays refl
shifts_ld d (Load Ab kind) w q h = stays refl
shifts_ld d (Load Eb kind) w q h = stays refl
shifts_ld d (Load Cq kind) w q h = stays refl
shifts_ld d (StoreAddress width) w q h = stays refl

shifts_al : (d : Depths) (u : QueueUse) (w : ℕ) (q : Queues) → possible d u q ≡ true → Shifts (depth Al d) (length q.al.slots) (length (let r = commit u w q in r.al.slots))
shifts_al d Nothing w q h = stays refl
shifts_al d (Take Ld) w q h = stays refl
shifts_al d (Take Al) w q h = rest_shifts _ q.al.slots
shifts_al d (Take Sa) w q h = stays refl
shifts_al d (Take Sd) w q h = stays refl
shifts_al d (Take Ab) w q h = stays refl
shifts_al d (Take Eb) w q h = stays refl
shifts_al d (Take Cq) w q h = stays refl
shifts_al d (Push Ld) w q h = stays refl
shifts_al d (Push Al) w q h = stays refl
shifts_al d (Push Sa) w q h = stays refl
shifts_al d (Push Sd) w q h = stays refl
shifts_al d (Push Ab) w q h = stays refl
shifts_al d (Push Eb) w q h = stays refl
shifts_al d (Push Cq) w q h = stays refl
shifts_al d (Load Ld kind) w q h = stays refl
shifts_al d (Load Al kind) w q h = more_shifts _ q.al.slots _ h
shifts_al d (Load Sa kind) w q h = stays refl
shifts_al d (Load Sd kind) w q h = stays refl
shifts_al d (Load Ab kind) w q h = stays refl
shifts_al d (Load Eb kind) w q h = stays refl
shifts_al d (Load Cq kind) w q h = stays refl
shifts_al d (StoreAddress width) w q h = stays refl

-- both load queues
pub record BothShift (d : Depths) (q r : Queues) : Type 0 where
  pub ld : Shifts (depth Ld d) (length q.ld.slots) (length r.ld.slots)
  pub al : Shifts (depth Al d) (length q.al.slots) (length r.al.slots)

move_shifts : (d : Depths) (side : Side) (p : Processor) (q : Queues) (asked : Request) (r : After × Queues) → granted d side p q asked ≡ Some r → BothShift d q r.1
move_shifts d side p q Halted r h = cc
move_shifts d side p q (Faulty fault) r h = cc
move_shifts d side p q (Asks u w i) r h =
    let x = if_some_is (ready d u q) (option_map (λ (a : After). (a, commit u w q)) (finish side p u i (form i) (offered_by (λ (q : Queues) k. front k q) q u))) r h in
    let y = map_some_is (λ (a : After). (a, commit u w q)) _ r x.1 in
    let may = possible_of d u q x.0 in
    let same : r.1 ≡ commit u w q = sym (ap (λ (z : After × Queues). z.1) y.2) in
    rw same (record { ld = shifts_ld d u w q may; al = shifts_al d u w q may })

-- a step of a processor moves each load queue by at most one slot
pub steps_shift : (setup : Setup) (s t : State) (side : Side) → (side ≡ A → step setup s MoveA ≡ Some t) → (side ≡ E → step setup s MoveE ≡ Some t) → BothShift setup.depths s.queues t.queues
steps_shift setup s t A a e =
    let x = map_some_is (moved_a s) (move setup A s.a s.queues) t (a refl) in
    let same : t.queues ≡ x.0.1 = sym (ap (λ (z : State). z.queues) x.2) in
    rw same (move_shifts setup.depths A s.a s.queues (request setup.copies A (code setup A) setup.memory s.a) x.0 x.1)
steps_shift setup s t E a e =
    let x = map_some_is (moved_e s) (move setup E s.e s.queues) t (e refl) in
    let same : t.queues ≡ x.0.1 = sym (ap (λ (z : State). z.queues) x.2) in
    rw same (move_shifts setup.depths E s.e s.queues (request setup.copies E (code setup E) setup.memory s.e) x.0 x.1)

-- what memory does leaves as many slots
pub record SameCounts (q r : Queues) : Type 0 where
  pub ld : length r.ld.slots ≡ length q.ld.slots
  pub al : length r.al.slots ≡ length q.al.slots

pub fill_same : (setup : Setup) (s t : State) (side : Side) (number : ℕ) → step setup s (Fill side number) ≡ Some t → SameCounts s.queues t.queues
fill_same setup s t A number h =
    let x = map_some_is (filled s) (fill A number s.queues s.memory) t h in
    let y = map_some_is _ (filling A number s.queues s.memory) x.0 x.1 in
    let same : t.queues ≡ x.0 = sym (ap (λ (z : State). z.queues) x.2) in
    rw (same, ← y.2) (record { ld = refl; al = length-map s.queues.al.slots _ })
fill_same setup s t E number h =
    let x = map_some_is (filled s) (fill E number s.queues s.memory) t h in
    let y = map_some_is _ (filling E number s.queues s.memory) x.0 x.1 in
    let same : t.queues ≡ x.0 = sym (ap (λ (z : State). z.queues) x.2) in
    rw (same, ← y.2) (record { ld = length-map s.queues.ld.slots _; al = refl })

pub drain_same : (setup : Setup) (s t : State) → step setup s Drain ≡ Some t → SameCounts s.queues t.queues
drain_same setup s t h =
    let x = map_some_is (drained s) (drain s.queues s.memory) t h in
    let y = map_some_is _ (draining s.queues) x.0 x.1 in
    let same : t.queues ≡ x.0.0 = sym (ap (λ (z : State). z.queues) x.2) in
    let queues : x.0.0 ≡ _ = sym (ap (λ (z : Queues × List ℕ). z.0) y.2) in
    rw (same, queues) (record { ld = refl; al = refl })

-- ---- the ticks of issue

less : (m n : ℕ) → m < n → nat_lt m n ≡ true
less m n h = grind (arith, nat_tests)

no_less : (m n : ℕ) → n ≤ m → nat_lt m n ≡ false
no_less m n h = grind (arith, nat_tests)

pub noted_length : (now deep m n : ℕ) (times : List ℕ) → Shifts deep m n → length times ≡ m → length (issues_after now m n times) ≡ n
noted_length now deep m n times (stays h) e = rw (no_less m n (omega (arith, h)), no_less n m (omega (arith, h))) (e ∙ sym h)
noted_length now deep m n times (grows h room) e = rw (less m n (omega (arith, h))) (length-append times (now ∷ []) ∙ omega (arith, e, h))
noted_length now deep m n [] (shrinks h) e = absurd (omega (arith, e, h))
noted_length now deep m n (t ∷ ts) (shrinks h) e = rw (no_less m n (omega (arith, h)), less n m (omega (arith, h))) (omega (arith, e, h))

pub room_where_grown : (deep m n : ℕ) → Shifts deep m n → m < n → m < deep
room_where_grown deep m n (stays h) more = absurd (omega (arith, h, more))
room_where_grown deep m n (grows h room) more = room
room_where_grown deep m n (shrinks h) more = absurd (omega (arith, h, more))

pub move_shift : (setup : Setup) (s t : State) (side : Side) → step setup s (move_of side) ≡ Some t → BothShift setup.depths s.queues t.queues
move_shift setup s t A h = steps_shift setup s t A (λ e. h) (λ e. cc)
move_shift setup s t E h = steps_shift setup s t E (λ e. cc) (λ e. h)
