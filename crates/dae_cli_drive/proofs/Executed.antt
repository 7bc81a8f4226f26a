-- What a drive came to is due.
use Rattle.std.proofs.Common.{◌≡◌, ℕ, suc, ◌+◌, ◌-◌, List, [], ◌∷◌, ◌++◌, map, refl, ap, sym, ◌∙◌, subst, arith}
use Rattle.std.specs.Prelude.{Option, None}
use Rattle.std.proofs.lemmas.List.{map-append}
use Rattle.dae_io.specs.Sinks.{SinkState}
use Rattle.dae_machine.specs.declared.Pick.{Pick}
use Rattle.dae_machine.specs.Machine.{Setup, State, IsCounted}
use Rattle.dae_machine.specs.Schedules.{Standing, coming, scheduled, word_of}
use Rattle.dae_cli_drive.specs.declared.driving.Driven.{Driven}
use Rattle.dae_cli_drive.specs.declared.driving.Driven.TheVariants.{Final, Stuck, Spent, SinkFailed}
use Rattle.dae_cli_options.specs.declared.options.RunOptions.{RunOptions}
use Rattle.dae_cli_options.specs.declared.options.Shown.{Shown}
use Rattle.dae_machine.specs.declared.End.TheVariants.{Ended, Trapped}
use Rattle.dae_cli_drive.specs.Notes.{end_puts}
use Rattle.dae_cli_drive.specs.Turns.{DrivesOn, StopsAt, RunsTurns, puts_of_turns}
use Rattle.dae_cli_drive.specs.Pieces.{pieces, unprinted}
use Rattle.dae_cli_drive.specs.Puts.{answer, Put, Out, sinks, AreMade, AreCut, Gives, gives_part, GivesDue}
use Rattle.dae_cli_drive.specs.Images.{DueOfRun, due_end, status_of}
use Rattle.dae_cli_drive.proofs.LawsOfTurns.{Made, picks_later, same_turns}
use Rattle.dae_cli_drive.proofs.Outcome.{Good, comes_out}
use Rattle.dae_cli_drive.proofs.Printed.{pieces_after}
use Rattle.dae_cli_drive.proofs.Puts.{cut_after, cut_here, cut_more, gives_same, gives_then}

-- the notes after a run don't depend on what was printed
pub same_lines : (how : Driven) (setup : Setup) (s : State) (show : Option Shown) → end_puts how setup (unprinted s) show ≡ end_puts how setup s show
same_lines (Final (Ended status)) setup s show = refl
same_lines (Final (Trapped code)) setup s show = refl
same_lines Stuck setup s show = refl
same_lines Spent setup s show = refl
same_lines SinkFailed setup s show = refl

module _ (setup : Setup) (s now : State) (o : RunOptions) (words words_now : Standing) (out out_now : SinkState) (begun : s.steps ≡ 0) (coming_is : (i : ℕ) → coming words i ≡ word_of o.schedule i) where
  turns_is : (turns k : ℕ) (t : State) → k ≡ turns → RunsTurns setup s (coming words) k t → RunsTurns setup s (word_of o.schedule) turns t
  turns_is turns k t e run = rw (← e, ← same_turns setup s (coming words) (word_of o.schedule) k coming_is) run

  puts_are : (turns k : ℕ) → k ≡ turns → puts_of_turns setup s (coming words) k ≡ puts_of_turns setup s (word_of o.schedule) turns
  puts_are turns k e = ap (λ (ps : List Pick). map Out (pieces setup s ps)) (ap (scheduled setup s (coming words)) e ∙ same_turns setup s (coming words) (word_of o.schedule) turns coming_is)

  all_turns : o.steps - s.steps ≡ o.steps
  all_turns = omega (arith, begun)

  abbrev all_puts : List Put
  all_puts = puts_of_turns setup s (word_of o.schedule) o.steps

  -- all turns were made, and the notes follow
  pub driven_due : (result : Driven) (status : ℕ) (n n' : SinkState) → DrivesOn result o.steps setup s now words words_now out out_now →
      Gives (answer (status_of result) (end_puts result setup now o.show)) status (sinks out_now n) (sinks out_now n') → GivesDue (DueOfRun setup s o) status (sinks out n) (sinks out_now n')
  driven_due result status n n' d given =
      let lines : end_puts result setup now o.show ≡ end_puts result setup d.last o.show = ap (λ (t : State). end_puts result setup t o.show) d.kept ∙ same_lines result setup d.last o.show in
      let put : AreMade all_puts (sinks out n) (sinks out_now n) = subst (λ (l : List Put). AreMade l (sinks out n) (sinks out_now n)) (puts_are o.steps (o.steps - s.steps) all_turns) (d.put n) in (
        answer (status_of result) (all_puts ++ end_puts result setup d.last o.show),
        due_end d.last result (turns_is o.steps (o.steps - s.steps) d.last all_turns d.made) d.rested,
        gives_then all_puts (end_puts result setup d.last o.show) (status_of result) status (sinks out n) (sinks out_now n) (sinks out_now n') put
            (gives_same (ap (answer (status_of result)) lines) given),
      )

  -- the put of a piece failed
  pub stopped_due : (n : SinkState) → IsCounted s → s.e.halt ≡ None → StopsAt o.steps setup s now words words_now out out_now → GivesDue (DueOfRun setup s o) 6 (sinks out n) (sinks out_now n)
  stopped_due n counted unhalted stop =
      let good : Good s = record { counted = counted; halts = rw unhalted refl } in
      let way = comes_out setup s (word_of o.schedule) o.steps good in
      let here : Made setup s (coming words) (suc stop.turns) stop.last = record { run = stop.made; all = stop.all } in
      let few = stop.few in
      let sum : suc stop.turns + (o.steps - suc stop.turns) ≡ o.steps = omega (arith, few, begun) in
      let later = picks_later setup s stop.last (coming words) (suc stop.turns) (o.steps - suc stop.turns) here in
      let list : scheduled setup s (coming words) o.steps ≡ scheduled setup s (coming words) (suc stop.turns) ++ later.0 = ap (scheduled setup s (coming words)) (sym sum) ∙ later.1 in
      let more : List Put = map Out (pieces setup stop.last later.0) in
      let split : puts_of_turns setup s (coming words) o.steps ≡ puts_of_turns setup s (coming words) (suc stop.turns) ++ more =
      ap (λ (ps : List Pick). map Out (pieces setup s ps)) list
      ∙ ap (map Out) (pieces_after setup s stop.last (scheduled setup s (coming words) (suc stop.turns)) later.0 stop.made)
      ∙ map-append Out (pieces setup s (scheduled setup s (coming words) (suc stop.turns))) (pieces setup stop.last later.0) in
      let cut : AreCut (puts_of_turns setup s (coming words) (suc stop.turns)) (sinks out n) (sinks out_now n) =
      rw stop.prints (cut_after (puts_of_turns setup s (coming words) stop.turns) (Out stop.piece ∷ []) (sinks out n) (sinks stop.between n) (sinks out_now n) (stop.put n) (cut_here (Out stop.piece) [] (sinks stop.between n) (sinks out_now n) (stop.put_part, refl))) in
      let all : AreCut all_puts (sinks out n) (sinks out_now n) =
      subst (λ (l : List Put). AreCut l (sinks out n) (sinks out_now n)) (sym split ∙ puts_are o.steps o.steps refl) (cut_more (puts_of_turns setup s (coming words) (suc stop.turns)) more (sinks out n) (sinks out_now n) cut) in
      let steps : s.steps + o.steps ≡ o.steps = omega (arith, begun) in (
        answer (status_of way.how) (all_puts ++ end_puts way.how setup way.last o.show),
        due_end way.last way.how way.made (rw steps at way.rested),
        gives_part refl (cut_more all_puts (end_puts way.how setup way.last o.show) (sinks out n) (sinks out_now n) all),
      )
