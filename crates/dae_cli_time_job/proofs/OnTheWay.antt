-- A timed run on its way, with all that it printed put out.
use Rattle.std.proofs.Common.{◌≡◌, ℕ, suc, ◌+◌, ◌≤◌, List, [], ◌∷◌, ◌++◌, map, refl, ap, sym, ◌∙◌, subst, append-nil, arith}
use Rattle.std.specs.Prelude.{◌≢◌, Some}
use Rattle.std.proofs.lemmas.List.{map-append}
use Rattle.std.specs.List.{concat}
use Rattle.dae_io.specs.Sinks.{SinkState, IsPutFailed}
use Rattle.dae_machine.specs.declared.End.{End}
use Rattle.dae_machine.specs.declared.Pick.{Pick}
use Rattle.dae_machine.specs.Machine.{Setup, State, Runs, IsFinal, IsStuck}
use Rattle.dae_machine.specs.Opened.{opened}
use Rattle.dae_machine.specs.Printing.{behind}
use Rattle.dae_machine.specs.Rests.{end_of}
use Rattle.dae_machine.proofs.LawsOfRuns.{final_behind, step_behind, stuck_behind}
use Rattle.dae_cli_drive.specs.declared.driving.Driven.{Driven}
use Rattle.dae_cli_drive.specs.declared.driving.Driven.TheVariants.{Final, Stuck, Spent, SinkFailed}
use Rattle.dae_cli_drive.specs.Pieces.{pieces, then_later}
use Rattle.dae_cli_drive.specs.Puts.{Put, Out, AreMade, sinks}
use Rattle.dae_cli_drive.specs.Turns.{AreOut, Rested}
use Rattle.dae_cli_drive.proofs.Laws.{made_then, pieces_after, pieces_are_printed}
use Rattle.dae_timing.specs.Clocks.{Clock}
use Rattle.dae_timing.specs.Held.{HeldClock}
use Rattle.dae_timing.specs.Ticks.{after_tick, in_order, picks_of}
use Rattle.dae_timing.specs.Runs.{HasPick, MakesTick, Ticks, clock_behind, no_tick, one_tick, with_print}
use Rattle.dae_timing.specs.declared.timed.Tick.{Tick}
use Rattle.dae_timing.proofs.LawsOfTicks.{tick_behind, tick_counts, ticks_are_a_run, ticks_join}
use Rattle.dae_cli_time_job.specs.Driving.{DrivesTicks, IsOpened, RestsTimed, TicksOn, StopsInTick, Timing, puts_of_ticks}
use Rattle.dae_cli_time_job.proofs.Printing.{rest_printed, tick_pieces}

-- the ticks so far were made, and all that they printed was put out
pub record IsOnWay (start : HeldClock) (ticks : ℕ) (now : HeldClock) (out out_now : SinkState) : Type 0 where
  pub setup : now.setup ≡ start.setup
  pub costs : now.costs ≡ start.costs
  pub counted : (let c = now.clock in c.ticks ≡ ticks)
  pub done : List ℕ
  pub picks : List Pick
  pub made : Ticks start.setup start.costs ticks start.clock picks (clock_behind done now.clock)
  pub put : AreOut (puts_of_ticks start.setup start.clock picks) out out_now

same_behind : (c : Clock) (done : List ℕ) → (let s = c.state in s.printed ≡ []) → c ≡ with_print [] (clock_behind done c)
same_behind c done silent = ap (λ (text : List ℕ). with_print text c) silent

pub begins : (start : HeldClock) (out : SinkState) → IsOpened start.clock → IsOnWay start 0 start out out
begins start out opening = record {
  setup = refl;
  costs = refl;
  counted = ap (λ (c : Clock). c.ticks) opening.1;
  done = [];
  picks = [];
  made = no_tick;
  put = λ note. refl;
}

-- the tick that a machine on its way makes
module _ (start : HeldClock) (opening : IsOpened start.clock) (n : ℕ) (now : HeldClock) (out out_now : SinkState) (way : IsOnWay start n now out out_now) (t : Tick) (next : HeldClock) (makes : MakesTick t now next) where
  abbrev setup : Setup
  setup = start.setup

  abbrev here : Clock
  here = clock_behind way.done now.clock

  abbrev more : List Pick
  more = in_order (picks_of setup start.costs here)

  abbrev begun : State
  begun = let c = start.clock in c.state

  -- what stands printed is what the pieces are together
  printed_is : (c : Clock) (ps : List Pick) → Runs setup begun ps c.state → (let s = c.state in s.printed) ≡ concat (pieces setup begun ps)
  printed_is c ps run =
      let e : begun ≡ opened opening.0 = ap (λ (c : Clock). c.state) opening.1 in
      let r : Runs setup (opened opening.0) ps c.state = subst (λ (s : State). Runs setup s ps c.state) e run in
      pieces_are_printed setup opening.0 c.state ps r ∙ ap (λ (s : State). concat (pieces setup s ps)) (sym e)

  goes : HasPick setup here.state
  goes =
      let g : HasPick now.setup (let c = now.clock in c.state) = makes.goes in
      let g' : HasPick setup (let c = now.clock in c.state) = subst (λ (s : Setup). HasPick s (let c = now.clock in c.state)) way.setup g in
      (g'.0, behind way.done g'.1, step_behind setup (let c = now.clock in c.state) g'.1 g'.0 way.done g'.2)

  after : after_tick setup start.costs now.clock ≡ with_print t.piece next.clock
  after = rw (← way.setup, ← way.costs) makes.clock

  after_here : after_tick setup start.costs here ≡ clock_behind (way.done ++ t.piece) next.clock
  after_here =
      tick_behind setup start.costs way.done now.clock
      ∙ ap (clock_behind way.done) after
      ∙ ap (λ (text : List ℕ). with_print text next.clock) (sym (append-nil (way.done ++ t.piece)) ∙ ap (λ (text : List ℕ). (way.done ++ t.piece) ++ text) (sym next.silent))

  pub made_more : Ticks setup start.costs (suc n) start.clock (way.picks ++ more) (clock_behind (way.done ++ t.piece) next.clock)
  made_more =
      let one : Ticks setup start.costs 1 here (more ++ []) (after_tick setup start.costs here) = one_tick goes no_tick in
      let all = ticks_join setup start.costs n 1 start.clock here (after_tick setup start.costs here) way.picks (more ++ []) way.made one in
      let count : n + 1 ≡ suc n = omega arith in
      let a = subst (λ (j : ℕ). Ticks setup start.costs j start.clock (way.picks ++ (more ++ [])) (after_tick setup start.costs here)) count all in
      let b = subst (λ (ps : List Pick). Ticks setup start.costs (suc n) start.clock (way.picks ++ ps) (after_tick setup start.costs here)) (append-nil more) a in
      subst (λ (c : Clock). Ticks setup start.costs (suc n) start.clock (way.picks ++ more) c) after_here b

  -- what it prints
  pub puts_more : puts_of_ticks setup start.clock (way.picks ++ more) ≡ puts_of_ticks setup start.clock way.picks ++ map Out (then_later t.piece [])
  puts_more =
      let run = ticks_are_a_run setup start.costs n start.clock here way.picks way.made in
      let joined = pieces_after setup begun here.state way.picks more run in
      let first : way.done ++ [] ≡ concat (pieces setup begun way.picks) = ap (λ (text : List ℕ). way.done ++ text) (sym now.silent) ∙ printed_is here way.picks run in
      let all : (way.done ++ t.piece) ++ [] ≡ concat (pieces setup begun (way.picks ++ more)) =
      ap (λ (text : List ℕ). (way.done ++ t.piece) ++ text) (sym next.silent)
      ∙ printed_is (clock_behind (way.done ++ t.piece) next.clock) (way.picks ++ more) (ticks_are_a_run setup start.costs (suc n) start.clock (clock_behind (way.done ++ t.piece) next.clock) (way.picks ++ more) made_more) in
      let text : concat (pieces setup here.state more) ≡ t.piece =
      rest_printed way.done t.piece (pieces setup begun way.picks) (pieces setup here.state more) (sym (append-nil way.done) ∙ first) (sym (append-nil (way.done ++ t.piece)) ∙ all ∙ ap concat joined) in
      ap (map Out) (joined ∙ ap (λ (l : List (List ℕ)). pieces setup begun way.picks ++ l) (tick_pieces setup start.costs here here.state t.piece text))
      ∙ map-append Out (pieces setup begun way.picks) (then_later t.piece [])

  pub goes_on : (out_next : SinkState) → next.setup ≡ now.setup → next.costs ≡ now.costs → AreOut (map Out (then_later t.piece [])) out_now out_next → IsOnWay start (suc n) next out out_next
  goes_on out_next same_setup same_costs put = record {
    setup = same_setup ∙ way.setup;
    costs = same_costs ∙ way.costs;
    counted = (
        let e = ap (λ (c : Clock). c.ticks) after in
        let f = tick_counts setup start.costs now.clock in
        let g = way.counted in
        omega (arith, e, f, g)
        );
    done = way.done ++ t.piece;
    picks = way.picks ++ more;
    made = made_more;
    put = λ note. subst (λ (l : List Put). AreMade l (sinks out note) (sinks out_next note)) (sym puts_more)
        (made_then (puts_of_ticks setup start.clock way.picks) (map Out (then_later t.piece [])) (sinks out note) (sinks out_now note) (sinks out_next note) (way.put note) (put note));
  }

  -- the put of its piece failed
  pub stops : (most : ℕ) (out_next : SinkState) → suc n ≤ most → then_later t.piece [] ≡ t.piece ∷ [] → IsPutFailed t.piece out_now out_next → StopsInTick most start out out_next
  stops most out_next few one failed = record {
    timing = record { ticks = suc n; picks = way.picks ++ more; clock = clock_behind (way.done ++ t.piece) next.clock };
    made = made_more;
    at_most = few;
    earlier = puts_of_ticks setup start.clock way.picks;
    piece = t.piece;
    prints = puts_more ∙ ap (λ (l : List (List ℕ)). puts_of_ticks setup start.clock way.picks ++ map Out l) one;
    between = out_now;
    put = way.put;
    put_part = failed;
  }

-- where a timed run rests or its ticks are spent
module _ (start : HeldClock) (n : ℕ) (now : HeldClock) (out out_now : SinkState) (way : IsOnWay start n now out out_now) where
  abbrev timing : Timing
  timing = record { ticks = n; picks = way.picks; clock = clock_behind way.done now.clock }

  ends : (most : ℕ) (how : Driven) (next : HeldClock) → n ≤ most → next ≡ now → RestsTimed how most start.setup timing → TicksOn how most start next out out_now
  ends most how next few same rests = record {
    timing = timing;
    runs = record { made = way.made; at_most = few; rests = rests };
    kept = ap (λ (h : HeldClock). h.clock) same ∙ same_behind now.clock way.done now.silent;
    put = way.put;
  }

  pub ends_final : (most : ℕ) (end : End) (next : HeldClock) → n ≤ most → next ≡ now → IsFinal now.setup (let c = now.clock in c.state) → (let c = now.clock in end_of (let s = c.state in let e = s.e in e.halt) ≡ Some end) → TicksOn (Final end) most start next out out_now
  ends_final most end next few same final halt =
      let f : IsFinal start.setup (let c = now.clock in c.state) = subst (λ (s : Setup). IsFinal s (let c = now.clock in c.state)) way.setup final in
      ends most (Final end) next few same (final_behind start.setup (let c = now.clock in c.state) way.done f, halt)

  pub ends_stuck : (most : ℕ) (next : HeldClock) → n ≤ most → next ≡ now → IsStuck now.setup (let c = now.clock in c.state) → TicksOn Stuck most start next out out_now
  ends_stuck most next few same stuck =
      let f : IsStuck start.setup (let c = now.clock in c.state) = subst (λ (s : Setup). IsStuck s (let c = now.clock in c.state)) way.setup stuck in
      ends most Stuck next few same (stuck_behind start.setup (let c = now.clock in c.state) way.done f)

  -- all ticks were made, and the machine was asked how it rests
  pub arrives : (most : ℕ) (how : Driven) → n ≡ most → Rested how (let c = now.clock in let s = c.state in s.steps) now.setup (let c = now.clock in c.state) → DrivesTicks how most start now out out_now
  arrives most (Final end) all rested = ends_final most end now (omega arith) refl rested.0 rested.1
  arrives most Stuck all rested = ends_stuck most now (omega arith) refl rested
  arrives most Spent all rested =
      let g : HasPick now.setup (let c = now.clock in c.state) = rested.1 in
      let g' : HasPick start.setup (let c = now.clock in c.state) = subst (λ (s : Setup). HasPick s (let c = now.clock in c.state)) way.setup g in
      ends most Spent now (omega arith) refl (all, (g'.0, behind way.done g'.1, step_behind start.setup (let c = now.clock in c.state) g'.1 g'.0 way.done g'.2))
  arrives most SinkFailed all rested = absurd rested

-- where no put failed, the ticks ran out
pub drives_so : (how : Driven) (most : ℕ) (start now : HeldClock) (out out_now : SinkState) → how ≢ SinkFailed → DrivesTicks how most start now out out_now → TicksOn how most start now out out_now
drives_so (Final end) most start now out out_now never d = d
drives_so Stuck most start now out out_now never d = d
drives_so Spent most start now out out_now never d = d
drives_so SinkFailed most start now out out_now never d = absurd (never refl)
