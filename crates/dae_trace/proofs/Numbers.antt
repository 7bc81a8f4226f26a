-- The numbers of slots along a run are below the number of steps, and so the line of each step names its pick.
use Rattle.std.proofs.Common.{◌≡◌, ℕ, ◌+◌, ◌<◌, ◌≤◌, ◌^◌, Bool, true, false, List, refl, ap, subst, arith}
use Rattle.std.specs.Prelude.{Option, Some, None, option_map, if◌then◌else◌, not, unwrap_or}
use Rattle.std.specs.Bool.{then_some}
use Rattle.std.specs.List.{list_any}
use Rattle.dae_base.specs.declared.Depths.{Depths}
use Rattle.dae_base.specs.declared.Side.{Side}
use Rattle.dae_base.specs.declared.Side.TheVariants.{A, E}
use Rattle.dae_base.specs.declared.Queue.{Queue}
use Rattle.dae_base.specs.declared.Queue.TheVariants.{Ld, Al, Sa, Sd, Ab, Eb, Cq}
use Rattle.dae_base.specs.declared.LoadKind.{LoadKind}
use Rattle.dae_base.specs.Words.{loaded, stored}
use Rattle.dae_base.proofs.Laws.{and_then_some, map_some_is}
use Rattle.dae_encode.specs.declared.QueueUse.{QueueUse}
use Rattle.dae_encode.specs.declared.QueueUse.TheVariants.{Nothing, Take, Push, Load, StoreAddress}
use Rattle.dae_encode.specs.declared.Request.{Request}
use Rattle.dae_encode.specs.declared.Request.TheVariants.{Halted, Faulty, Asks}
use Rattle.dae_encode.specs.Instructions.{form}
use Rattle.dae_encode.specs.Processor.{Processor, After, finish, request}
use Rattle.dae_image.specs.declared.Image.{Image}
use Rattle.dae_queues.specs.declared.Slot.{Slot}
use Rattle.dae_queues.specs.declared.StoreAt.{StoreAt}
use Rattle.dae_queues.specs.Lists.{bars, waiting, with_value, without_store}
use Rattle.dae_queues.proofs.LawsOfLists.{counts_find}
use Rattle.dae_core.specs.Queues.{Queues, commit, loads_of, peek, pushed_to, ready, reserved_in, taken_from, with_loads_of}
use Rattle.dae_machine.specs.declared.Pick.{Pick}
use Rattle.dae_machine.specs.declared.Pick.TheVariants.{A as MoveA, E as MoveE, Fill, Drain}
use Rattle.dae_machine.specs.Machine.{Setup, State, code, drained, filled, granted, move, moved_a, moved_e, step}
use Rattle.dae_machine.specs.Memory.{drain, draining, fill, filling}
use Rattle.dae_machine.specs.Opened.{opened}
use Rattle.dae_machine.proofs.LawsOfRuns.{counted_step}
use Rattle.dae_trace.specs.Lines.{Names, line, line_of_drain}
use Rattle.dae_trace.specs.Traces.{Numbered}

-- ---- what a step reserves

-- at most one slot more in each load queue
record AtMostOneMore (q next : Queues) : Type 0 where
  ld : next.ld.reserved ≤ q.ld.reserved + 1
  al : next.al.reserved ≤ q.al.reserved + 1

by_take : (k : Queue) (q : Queues) → AtMostOneMore q (taken_from k q)
by_take Ld q = record { ld = omega arith; al = omega arith }
by_take Al q = record { ld = omega arith; al = omega arith }
by_take Sa q = record { ld = omega arith; al = omega arith }
by_take Sd q = record { ld = omega arith; al = omega arith }
by_take Ab q = record { ld = omega arith; al = omega arith }
by_take Eb q = record { ld = omega arith; al = omega arith }
by_take Cq q = record { ld = omega arith; al = omega arith }

by_push : (k : Queue) (w : ℕ) (q : Queues) → AtMostOneMore q (pushed_to k w q)
by_push Ld w q = record { ld = omega arith; al = omega arith }
by_push Al w q = record { ld = omega arith; al = omega arith }
by_push Sa w q = record { ld = omega arith; al = omega arith }
by_push Sd w q = record { ld = omega arith; al = omega arith }
by_push Ab w q = record { ld = omega arith; al = omega arith }
by_push Eb w q = record { ld = omega arith; al = omega arith }
by_push Cq w q = record { ld = omega arith; al = omega arith }

by_load : (k : Queue) (kind : LoadKind) (w : ℕ) (q : Queues) → AtMostOneMore q (reserved_in k kind w q)
by_load Ld kind w q = record { ld = omega arith; al = omega arith }
by_load Al kind w q = record { ld = omega arith; al = omega arith }
by_load Sa kind w q = record { ld = omega arith; al = omega arith }
by_load Sd kind w q = record { ld = omega arith; al = omega arith }
by_load Ab kind w q = record { ld = omega arith; al = omega arith }
by_load Eb kind w q = record { ld = omega arith; al = omega arith }
by_load Cq kind w q = record { ld = omega arith; al = omega arith }

by_use : (u : QueueUse) (w : ℕ) (q : Queues) → AtMostOneMore q (commit u w q)
by_use Nothing w q = record { ld = omega arith; al = omega arith }
by_use (Take k) w q = by_take k q
by_use (Push k) w q = by_push k w q
by_use (Load k kind) w q = by_load k kind w q
by_use (StoreAddress width) w q = record { ld = omega arith; al = omega arith }

by_grant : (d : Depths) (side : Side) (p : Processor) (q : Queues) (asked : Request) (r : After × Queues) → granted d side p q asked ≡ Some r → AtMostOneMore q r.1
by_grant d side p q Halted r h = absurd (cc)
by_grant d side p q (Faulty fault) r h = absurd (cc)
by_grant d side p q (Asks u w i) r h = by (ready d u q) (finish side p u i (form i) (peek u q)) h where
  by : (b : Bool) (o : Option After) → (if b then option_map (λ (x : After). (x, commit u w q)) o else None) ≡ Some r → AtMostOneMore q r.1
  by true o e =
      let x = map_some_is (λ (x : After). (x, commit u w q)) o r e in
      subst (λ (z : After × Queues). AtMostOneMore q z.1) x.2 (by_use u w q)
  by false o e = absurd (cc)

-- the queues and the memory after a drain
abbrev after_drain : State → StoreAt × ℕ → Queues × List ℕ
after_drain s n = ((record s.queues { stores = without_store s.queues.stores }), stored n.0.width n.0.addr n.1 s.memory)

by_step : (setup : Setup) (s t : State) (p : Pick) → step setup s p ≡ Some t → AtMostOneMore s.queues t.queues × (t.steps ≡ s.steps + 1)
by_step setup s t MoveA h =
    let x = map_some_is (moved_a s) (move setup A s.a s.queues) t h in
    subst (λ (z : State). AtMostOneMore s.queues z.queues × (z.steps ≡ s.steps + 1)) x.2
    (by_grant setup.depths A s.a s.queues (request setup.copies A (code setup A) setup.memory s.a) x.0 x.1, refl)
by_step setup s t MoveE h =
    let x = map_some_is (moved_e s) (move setup E s.e s.queues) t h in
    subst (λ (z : State). AtMostOneMore s.queues z.queues × (z.steps ≡ s.steps + 1)) x.2
    (by_grant setup.depths E s.e s.queues (request setup.copies E (code setup E) setup.memory s.e) x.0 x.1, refl)
by_step setup s t (Fill side n) h =
    let x = map_some_is (filled s) (fill side n s.queues s.memory) t h in
    let y = map_some_is (λ (w : ℕ). with_loads_of side (with_value n w (loads_of side s.queues).slots) s.queues) (filling side n s.queues s.memory) x.0 x.1 in
    subst (λ (z : State). AtMostOneMore s.queues z.queues × (z.steps ≡ s.steps + 1)) x.2
    (subst (AtMostOneMore s.queues) y.2 (given side y.0), refl)
  where
    given : (side : Side) (w : ℕ) → AtMostOneMore s.queues (with_loads_of side (with_value n w (loads_of side s.queues).slots) s.queues)
    given A w = record { ld = omega arith; al = omega arith }
    given E w = record { ld = omega arith; al = omega arith }
by_step setup s t Drain h =
    let x = map_some_is (drained s) (drain s.queues s.memory) t h in
    let y = map_some_is (after_drain s) (draining s.queues) x.0 x.1 in
    subst (λ (z : State). AtMostOneMore s.queues z.queues × (z.steps ≡ s.steps + 1)) x.2
    (subst (λ (z : Queues × List ℕ). AtMostOneMore s.queues z.0) y.2 (record { ld = omega arith; al = omega arith }), refl)

pub step_counts : (setup : Setup) (s t : State) (p : Pick) → step setup s p ≡ Some t → t.steps ≡ s.steps + 1
step_counts setup s t p h = (by_step setup s t p h).1

pub numbered_step : (setup : Setup) (s t : State) (p : Pick) → Numbered s → step setup s p ≡ Some t → Numbered t
numbered_step setup s t p n h =
    let x = by_step setup s t p h in
    record { counts = counted_step setup s t p n.counts h; ld = omega (arith, x.0.ld, x.1, n.ld); al = omega (arith, x.0.al, x.1, n.al) }

pub numbered_first : (image : Image) → Numbered (opened image)
numbered_first image = record {
  counts = record { ld = record { numbers = refl; stamps = tt }; al = record { numbers = refl; stamps = tt }; sa = refl };
  ld = omega arith;
  al = omega arith;
}

-- ---- the line of a step

slot_below : (setup : Setup) (s t : State) (side : Side) (n : ℕ) → Numbered s → step setup s (Fill side n) ≡ Some t → n < s.steps
slot_below setup s t side n h e =
    let x = map_some_is (filled s) (fill side n s.queues s.memory) t e in
    let y = map_some_is (λ (w : ℕ). with_loads_of side (with_value n w (loads_of side s.queues).slots) s.queues) (filling side n s.queues s.memory) x.0 x.1 in
    let z = and_then_some (λ (slot : Slot). then_some (not (list_any (bars slot) s.queues.stores.sa)) (loaded slot.kind slot.addr s.memory)) (waiting n (loads_of side s.queues).slots) y.0 y.1 in
    by side z.0 z.1 where
      by : (side : Side) (slot : Slot) → waiting n (loads_of side s.queues).slots ≡ Some slot → n < s.steps
      by A slot f = let c = counts_find s.queues.al.taken n s.queues.al.reserved s.queues.al.slots slot h.counts.al.numbers f in omega (arith, c, h.al)
      by E slot f = let c = counts_find s.queues.ld.taken n s.queues.ld.reserved s.queues.ld.slots slot h.counts.ld.numbers f in omega (arith, c, h.ld)

pub line_is_named : (setup : Setup) (s t : State) (p : Pick) → Numbered s → s.steps < 2 ^ 40 → step setup s p ≡ Some t → Names (line s p) p
line_is_named setup s t MoveA n few h = (s.a.counter, refl)
line_is_named setup s t MoveE n few h = (s.e.counter, refl)
line_is_named setup s t (Fill side number) n few h =
    (unwrap_or (filling side number s.queues s.memory) 0, (let l = slot_below setup s t side number n h in omega arith), refl)
line_is_named setup s t Drain n few h =
    let x = map_some_is (drained s) (drain s.queues s.memory) t h in
    let y = map_some_is (after_drain s) (draining s.queues) x.0 x.1 in
    (y.0.0.addr, y.0.0.width, y.0.1, ap line_of_drain y.1)
