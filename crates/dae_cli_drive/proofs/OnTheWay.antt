-- A machine on its way through the turns of a schedule, with all that it printed put out.
use Rattle.std.proofs.Common.{◌≡◌, ℕ, suc, ◌+◌, ◌-◌, ◌≤◌, List, [], ◌∷◌, ◌++◌, map, refl, ap, sym, ◌∙◌, subst, append-nil, arith}
use Rattle.std.specs.Prelude.{◌≢◌, Option, Some}
use Rattle.std.proofs.lemmas.List.{map-append}
use Rattle.dae_io.specs.Sinks.{SinkState, IsPutFailed}
use Rattle.dae_machine.specs.declared.Pick.{Pick}
use Rattle.dae_machine.specs.Machine.{Setup, State, step, IsQuiet, IsFinal, IsStuck}
use Rattle.dae_machine.specs.Printing.{behind}
use Rattle.dae_machine.specs.Schedules.{Standing, coming, scheduled}
use Rattle.dae_machine.specs.Turns.{pick_of}
use Rattle.dae_machine.specs.Rests.{TurnedTo}
use Rattle.dae_machine.specs.declared.End.{End}
use Rattle.dae_machine.specs.declared.Turn.TheVariants as turn
use Rattle.dae_machine.proofs.LawsOfRuns.{quiet_behind, step_counts}
use Rattle.dae_cli_drive.specs.declared.driving.Driven.{Driven}
use Rattle.dae_cli_drive.specs.declared.driving.Driven.TheVariants.{Final, Stuck, Spent, SinkFailed}
use Rattle.dae_cli_drive.specs.Turns.{AreOut, DrivesOn, Drives, Rested, StandsLater, StopsAt, puts_of_turns, words_taken}
use Rattle.dae_cli_drive.specs.Pieces.{pieces, pieces_on, then_later, unprinted}
use Rattle.dae_cli_drive.specs.Puts.{Put, Out, AreMade, sinks}
use Rattle.dae_cli_drive.proofs.LawsOfTurns.{Made, kept, kept_text, no_more, one_more, picks_more, printing, rested_behind, turn_is}
use Rattle.dae_cli_drive.proofs.Printed.{pieces_after}
use Rattle.dae_cli_drive.proofs.Puts.{made_then}

-- ---- on the way: the turns so far were made, and all that they printed was put out

pub record OnTheWay (setup : Setup) (s : State) (words : Standing) (turns : ℕ) (setup_now : Setup) (now : State) (words_now : Standing) (out out_now : SinkState) : Type 0 where
  pub same : setup_now ≡ setup
  pub silent : now.printed ≡ []
  pub done : List ℕ
  pub made : Made setup s (coming words) turns (behind done now)
  pub steps : now.steps ≡ s.steps + turns
  pub stands : StandsLater turns words words_now
  pub put : AreOut (puts_of_turns setup s (coming words) turns) out out_now

-- where no put failed, all turns were made
pub drives_on : (result : Driven) (steps : ℕ) (setup : Setup) (s now : State) (words words_now : Standing) (out out_now : SinkState) → DrivesOn result steps setup s now words words_now out out_now → Drives result steps setup s now words words_now out out_now
drives_on (Final end) steps setup s now words words_now out out_now d = d
drives_on Stuck steps setup s now words words_now out out_now d = d
drives_on Spent steps setup s now words words_now out out_now d = d
drives_on SinkFailed steps setup s now words words_now out out_now d = absurd d.rested

pub drives_so : (result : Driven) (steps : ℕ) (setup : Setup) (s now : State) (words words_now : Standing) (out out_now : SinkState) → result ≢ SinkFailed → Drives result steps setup s now words words_now out out_now → DrivesOn result steps setup s now words words_now out out_now
drives_so (Final end) steps setup s now words words_now out out_now never d = d
drives_so Stuck steps setup s now words words_now out out_now never d = d
drives_so Spent steps setup s now words words_now out out_now never d = d
drives_so SinkFailed steps setup s now words words_now out out_now never d = absurd (never refl)

module _ (setup : Setup) (s : State) (words : Standing) (turns : ℕ) (setup_now : Setup) (now : State) (words_now : Standing) (out out_now : SinkState) (way : OnTheWay setup s words turns setup_now now words_now out out_now) where
  word_is : (word : ℕ) → word ≡ coming words_now 0 → word ≡ coming words turns
  word_is word e = e ∙ way.stands 0 ∙ ap (coming words) (omega arith)

  stands_next : (words_next : Standing) → ((t : ℕ) → coming words_next t ≡ coming words_now (t + 1)) → StandsLater (suc turns) words words_next
  stands_next words_next rest i = rest i ∙ way.stands (i + 1) ∙ ap (coming words) (omega arith)

  made_one_more : (next : State) (p : Pick) (piece : List ℕ) (word : ℕ) → word ≡ coming words_now 0 → pick_of setup_now now word ≡ Some p → step setup_now now p ≡ Some (printing piece next) → Made setup s (coming words) (suc turns) (behind way.done (printing piece next))
  made_one_more next p piece word e picks steps =
      let picks' : pick_of setup now (coming words turns) ≡ Some p = rw (← way.same, ← word_is word e) picks in
      let steps' : step setup now p ≡ Some (printing piece next) = rw (← way.same) steps in
      one_more setup s (behind way.done now) (coming words) turns (p, behind way.done (printing piece next)) way.made (turn_is setup now next way.done piece (coming words turns) p picks' steps')

  -- the puts of one turn more
  puts_more : (next : State) (p : Pick) (piece : List ℕ) (word : ℕ) → word ≡ coming words_now 0 → pick_of setup_now now word ≡ Some p → step setup_now now p ≡ Some (printing piece next) → puts_of_turns setup s (coming words) (suc turns) ≡ puts_of_turns setup s (coming words) turns ++ map Out (then_later piece [])
  puts_more next p piece word e picks steps =
      let picks' : pick_of setup now (coming words turns) ≡ Some p = rw (← way.same, ← word_is word e) picks in
      let steps' : step setup now p ≡ Some (printing piece next) = rw (← way.same) steps in
      let alone : step setup (unprinted (behind way.done now)) p ≡ Some (printing piece next) = subst (λ (t : State). step setup t p ≡ Some (printing piece next)) (kept now way.done way.silent) steps' in
      let last : pieces setup (behind way.done now) (p ∷ []) ≡ then_later piece [] = ap (λ (o : Option State). pieces_on o (λ t. [])) alone in
      let list = picks_more setup s (behind way.done now) (coming words) turns (p, behind way.done (printing piece next)) way.made (turn_is setup now next way.done piece (coming words turns) p picks' steps') in
      let all = ap (pieces setup s) list ∙ pieces_after setup s (behind way.done now) (scheduled setup s (coming words) turns) (p ∷ []) way.made.run ∙ ap (λ (l : List (List ℕ)). pieces setup s (scheduled setup s (coming words) turns) ++ l) last in
      ap (map Out) all ∙ map-append Out (pieces setup s (scheduled setup s (coming words) turns)) (then_later piece [])

  pub goes_on : (setup_next : Setup) (next : State) (words_next : Standing) (p : Pick) (piece : List ℕ) (word : ℕ) (out_next : SinkState) → word ≡ coming words_now 0 → ((t : ℕ) → coming words_next t ≡ coming words_now (t + 1)) → setup_next ≡ setup_now → TurnedTo (turn.Stepped p piece) word setup_now now next → next.printed ≡ [] → AreOut (map Out (then_later piece [])) out_now out_next → OnTheWay setup s words (suc turns) setup_next next words_next out out_next
  goes_on setup_next next words_next p piece word out_next e rest same_setup turned_to silent put =
      let same : behind way.done (printing piece next) ≡ behind (way.done ++ piece) next = rw (silent, append-nil (way.done ++ piece)) refl in
      record {
        same = same_setup ∙ way.same;
        silent = silent;
        done = way.done ++ piece;
        made = subst (λ (t : State). Made setup s (coming words) (suc turns) t) same (made_one_more next p piece word e turned_to.0 turned_to.1);
        steps = (let h = way.steps in let k = step_counts setup_now now (printing piece next) p turned_to.1 in omega arith);
        stands = stands_next words_next rest;
        put = λ note. subst (λ (l : List Put). AreMade l (sinks out note) (sinks out_next note)) (sym (puts_more next p piece word e turned_to.0 turned_to.1)) (made_then (puts_of_turns setup s (coming words) turns) (map Out (then_later piece [])) (sinks out note) (sinks out_now note) (sinks out_next note) (way.put note) (put note));
      }

  -- the put of a piece failed
  pub stops : (steps : ℕ) (setup_next : Setup) (next : State) (words_next : Standing) (p : Pick) (piece : List ℕ) (word : ℕ) (out_next : SinkState) → suc turns ≤ steps - s.steps → word ≡ coming words_now 0 → ((t : ℕ) → coming words_next t ≡ coming words_now (t + 1)) → TurnedTo (turn.Stepped p piece) word setup_now now next → next.printed ≡ [] → then_later piece [] ≡ piece ∷ [] → IsPutFailed piece out_now out_next → StopsAt steps setup s next words words_next out out_next
  stops steps setup_next next words_next p piece word out_next few e rest turned_to silent one failed =
      let made = made_one_more next p piece word e turned_to.0 turned_to.1 in
      record {
        last = behind way.done (printing piece next);
        turns = turns;
        few = few;
        made = made.run;
        all = made.all;
        kept = kept_text next (way.done ++ piece) silent;
        piece = piece;
        prints = puts_more next p piece word e turned_to.0 turned_to.1 ∙ ap (λ (l : List (List ℕ)). puts_of_turns setup s (coming words) turns ++ map Out l) one;
        between = out_now;
        put = way.put;
        put_part = failed;
        stands = stands_next words_next rest;
      }

  -- how many words are taken, where that many turns were steps
  taken_early : (k : ℕ) → suc turns ≤ k → scheduled setup s (coming words) k ≡ scheduled setup s (coming words) turns → words_taken (scheduled setup s (coming words) k) k ≡ suc turns
  taken_early k few all = let size = way.made.all in rw (all, size) (grind arith)

  taken_late : (k : ℕ) → turns ≡ k → words_taken (scheduled setup s (coming words) k) k ≡ turns
  taken_late k all = let size = way.made.all in rw (← all, size) (grind arith)

  -- no pick is enabled
  pub ends : (steps : ℕ) (result : Driven) (words_next : Standing) → suc turns ≤ steps - s.steps → ((t : ℕ) → coming words_next t ≡ coming words_now (t + 1)) → IsQuiet setup now → Rested result steps setup (behind way.done now) → DrivesOn result steps setup s now words words_next out out_now
  ends steps result words_next few rest quiet rested =
      let all : scheduled setup s (coming words) (steps - s.steps) ≡ scheduled setup s (coming words) turns =
      ap (scheduled setup s (coming words)) (omega arith) ∙ no_more setup s (behind way.done now) (coming words) turns ((steps - s.steps) - turns) way.made (quiet_behind setup now way.done quiet) in
      record {
        last = behind way.done now;
        made = rw all way.made.run;
        kept = kept now way.done way.silent;
        rested = rested;
        put = rw all way.put;
        stands = subst (λ (n : ℕ). StandsLater n words words_next) (sym (taken_early (steps - s.steps) few all)) (stands_next words_next rest);
      }

  -- all turns were made
  pub arrives : (steps : ℕ) (result : Driven) → turns ≡ steps - s.steps → Rested result steps setup (behind way.done now) → DrivesOn result steps setup s now words words_now out out_now
  arrives steps result all rested = record {
    last = behind way.done now;
    made = rw (← all) way.made.run;
    kept = kept now way.done way.silent;
    rested = rested;
    put = rw (← all) way.put;
    stands = subst (λ (n : ℕ). StandsLater n words words_now) (sym (taken_late (steps - s.steps) all)) way.stands;
  }

  -- a turn found no pick enabled
  pub ends_final : (steps : ℕ) (setup_next : Setup) (next : State) (words_next : Standing) (end : End) (word : ℕ) → suc turns ≤ steps - s.steps → ((t : ℕ) → coming words_next t ≡ coming words_now (t + 1)) → TurnedTo (turn.Final end) word setup_now now next → DrivesOn (Final end) steps setup s next words words_next out out_now
  ends_final steps setup_next next words_next end word few rest turned_to =
      let final : IsFinal setup now = rw (← way.same) turned_to.0 in
      let ended = rested_behind (Final end) steps setup now way.done (final, turned_to.1) in
      subst (λ (t : State). DrivesOn (Final end) steps setup s t words words_next out out_now) (sym turned_to.2) (ends steps (Final end) words_next few rest final.quiet ended)

  pub ends_stuck : (steps : ℕ) (setup_next : Setup) (next : State) (words_next : Standing) (word : ℕ) → suc turns ≤ steps - s.steps → ((t : ℕ) → coming words_next t ≡ coming words_now (t + 1)) → TurnedTo turn.Stuck word setup_now now next → DrivesOn Stuck steps setup s next words words_next out out_now
  ends_stuck steps setup_next next words_next word few rest turned_to =
      let stuck : IsStuck setup now = rw (← way.same) turned_to.0 in
      let ended = rested_behind Stuck steps setup now way.done stuck in
      subst (λ (t : State). DrivesOn Stuck steps setup s t words words_next out out_now) (sym turned_to.1) (ends steps Stuck words_next few rest stuck.quiet ended)

  -- all turns were made, and the machine was asked how it rests
  pub arrives_so : (steps : ℕ) (result : Driven) → turns ≡ steps - s.steps → now.steps ≡ steps → Rested result now.steps setup_now now → Drives result steps setup s now words words_now out out_now
  arrives_so steps result all is rested =
      let here : Rested result steps setup now = rw (← way.same, ← is) rested in
      drives_on result steps setup s now words words_now out out_now (arrives steps result all (rested_behind result steps setup now way.done here))
