-- What a timed run came to is due.
use Rattle.std.proofs.Common.{◌≡◌, ℕ, ◌+◌, ◌-◌, List, [], ◌∷◌, ◌++◌, map, refl, ap, sym, ◌∙◌, subst, arith}
use Rattle.std.specs.Prelude.{Option}
use Rattle.std.proofs.lemmas.List.{map-append}
use Rattle.dae_io.specs.Sinks.{SinkState}
use Rattle.dae_machine.specs.Machine.{Setup}
use Rattle.dae_machine.proofs.LawsOfRuns.{opened_counted}
use Rattle.dae_cli_options.specs.declared.options.Shown.{Shown}
use Rattle.dae_cli_drive.specs.declared.driving.Driven.{Driven}
use Rattle.dae_cli_drive.specs.Images.{status_of}
use Rattle.dae_cli_drive.specs.Notes.{end_puts}
use Rattle.dae_cli_drive.specs.Pieces.{pieces}
use Rattle.dae_cli_drive.specs.Puts.{answer, Put, Out, sinks, AreCut, Gives, gives_part, GivesDue}
use Rattle.dae_cli_drive.proofs.Laws.{Good, cut_after, cut_here, cut_more, gives_same, gives_then, pieces_after, same_lines}
use Rattle.dae_timing.specs.Clocks.{Clock}
use Rattle.dae_timing.specs.Held.{HeldClock}
use Rattle.dae_timing.specs.Runs.{with_print}
use Rattle.dae_timing.proofs.LawsOfTicks.{ticks_are_a_run}
use Rattle.dae_cli_time_job.specs.Driving.{IsOpened, TicksOn, StopsInTick, puts_of_ticks}
use Rattle.dae_cli_time_job.specs.Due.{DueOfTicks, due_ticks}
use Rattle.dae_cli_time_job.specs.Lines.{time_puts}
use Rattle.dae_cli_time_job.proofs.Outcome.{go_on}

-- what is noted of a clock that came out so
abbrev pub notes_of : Driven → Setup → Clock → Option Shown → List Put
notes_of how setup c show = end_puts how setup c.state show ++ time_puts c

-- it doesn't depend on what was printed
same_notes : (how : Driven) (setup : Setup) (c : Clock) (show : Option Shown) → notes_of how setup (with_print [] c) show ≡ notes_of how setup c show
same_notes how setup c show = ap (λ (ps : List Put). ps ++ time_puts c) (same_lines how setup c.state show)

module _ (start now : HeldClock) (most : ℕ) (show : Option Shown) (out out_now : SinkState) where
  abbrev setup : Setup
  setup = start.setup

  -- the ticks ran out, and the notes follow
  pub driven_due : (how : Driven) (status : ℕ) (n n' : SinkState) → TicksOn how most start now out out_now →
      Gives (answer (status_of how) (notes_of how setup now.clock show)) status (sinks out_now n) (sinks out_now n') → GivesDue (DueOfTicks setup start.costs start.clock most show) status (sinks out n) (sinks out_now n')
  driven_due how status n n' d given =
      let t = d.timing in
      let lines : notes_of how setup now.clock show ≡ notes_of how setup t.clock show = ap (λ (c : Clock). notes_of how setup c show) d.kept ∙ same_notes how setup t.clock show in (
        answer (status_of how) (puts_of_ticks setup start.clock t.picks ++ notes_of how setup t.clock show),
        due_ticks how t d.runs,
        gives_then (puts_of_ticks setup start.clock t.picks) (notes_of how setup t.clock show) (status_of how) status (sinks out n) (sinks out_now n) (sinks out_now n') (d.put n)
            (gives_same (ap (answer (status_of how)) lines) given),
      )

  -- the put of a piece failed
  pub stopped_due : (n : SinkState) → IsOpened start.clock → StopsInTick most start out out_now → GivesDue (DueOfTicks setup start.costs start.clock most show) 6 (sinks out n) (sinks out_now n)
  stopped_due n opening stop =
      let good : (let c = start.clock in Good c.state) = subst (λ (c : Clock). Good c.state) (sym opening.1) (record { counted = opened_counted opening.0; halts = refl }) in
      let t = stop.timing in
      let few = stop.at_most in
      let left : t.ticks + (most - t.ticks) ≡ most = omega (arith, few) in
      let way = go_on setup start.costs t.ticks (most - t.ticks) start.clock t.clock t.picks stop.made good in
      let out_way = way.0 in
      let u = out_way.timing in
      let more : List Put = map Out (pieces setup (let c = t.clock in c.state) way.1) in
      let run = ticks_are_a_run setup start.costs t.ticks start.clock t.clock t.picks stop.made in
      let split : puts_of_ticks setup start.clock u.picks ≡ puts_of_ticks setup start.clock t.picks ++ more =
      ap (puts_of_ticks setup start.clock) way.2
      ∙ ap (map Out) (pieces_after setup (let c = start.clock in c.state) (let c = t.clock in c.state) t.picks way.1 run)
      ∙ map-append Out (pieces setup (let c = start.clock in c.state) t.picks) (pieces setup (let c = t.clock in c.state) way.1) in
      let cut : AreCut (puts_of_ticks setup start.clock t.picks) (sinks out n) (sinks out_now n) =
      rw stop.prints (cut_after stop.earlier (Out stop.piece ∷ []) (sinks out n) (sinks stop.between n) (sinks out_now n) (stop.put n) (cut_here (Out stop.piece) [] (sinks stop.between n) (sinks out_now n) (stop.put_part, refl))) in
      let all : AreCut (puts_of_ticks setup start.clock u.picks) (sinks out n) (sinks out_now n) =
      rw split (cut_more (puts_of_ticks setup start.clock t.picks) more (sinks out n) (sinks out_now n) cut) in (
        answer (status_of out_way.how) (puts_of_ticks setup start.clock u.picks ++ notes_of out_way.how setup u.clock show),
        due_ticks out_way.how u (rw left at out_way.runs),
        gives_part refl (cut_more (puts_of_ticks setup start.clock u.picks) (notes_of out_way.how setup u.clock show) (sinks out n) (sinks out_now n) all),
      )
