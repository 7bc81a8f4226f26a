-- Runs of an image that keeps the meaning of a program.
use Rattle.std.proofs.Common.{◌≡◌, ◌⊎◌, inl, inr, ℕ, ◌+◌, ◌*◌, ◌≤◌, List, ◌∷◌, ◌++◌, length, map, refl, ap, sym, ◌∙◌, subst, arith}
use Rattle.std.specs.Prelude.{◌≢◌, ◌/◌, Option, Some}
use Rattle.std.specs.List.{concat}
use Rattle.dae_base.specs.Budgets.{Reaches}
use Rattle.dae_base.proofs.Laws.{none_below}
use Rattle.dae_encode.specs.declared.Halt.{Halt}
use Rattle.dae_encode.specs.declared.Halt.TheVariants.{Status, Trap}
use Rattle.dae_image.specs.declared.Image.{Image}
use Rattle.dae_machine.specs.declared.End.{End}
use Rattle.dae_machine.specs.declared.End.TheVariants.{Ended, Trapped as EndTrapped}
use Rattle.dae_machine.specs.declared.Pick.{Pick}
use Rattle.dae_machine.specs.Machine.{Setup, State, IsFinal}
use Rattle.dae_machine.specs.Opened.{opened, setup_of}
use Rattle.dae_machine.specs.Ends.{IsPrefixOf, GoesOn as RunsGoOn}
use Rattle.dae_machine.specs.Rests.{end_of}
use Rattle.dae_machine.specs.Schedules.{scheduled, word_of}
use Rattle.dae_meaning.specs.Worlds.{World}
use Rattle.dae_program.specs.Outcomes.{last_world}
use Rattle.dae_program.specs.Programs.{meaning_of, program_end}
use Rattle.dae_program.specs.declared.program.Program.{Program}
use Rattle.dae_compile_promise.specs.Promises.{IsAtEnd, KeepsMeaning, OnlyEnds}
use Rattle.dae_cli_drive.specs.declared.driving.Driven.{Driven}
use Rattle.dae_cli_drive.specs.declared.driving.Driven.TheVariants.{Final, Stuck, Spent, SinkFailed}
use Rattle.dae_cli_options.specs.declared.options.RunOptions.{RunOptions}
use Rattle.dae_cli_drive.specs.Notes.{budget_line, ended_line, end_puts, running_line, show_puts, steps_line, trapped_line}
use Rattle.dae_cli_drive.specs.Pieces.{pieces}
use Rattle.dae_cli_drive.specs.Puts.{Answer, answer, Out, Note, Put}
use Rattle.dae_cli_drive.specs.Turns.{Rested, RunsTurns, puts_of_turns}
use Rattle.dae_cli_drive.specs.Images.{status_of, due_end, DueOfImage, due_opened, due_not_opened, due_depth, due_memory_for_machine, due_budget, due_memory_for_lines}
use Rattle.dae_cli_drive.proofs.Laws.{none_or_some, pieces_are_printed, steps_counted}
use Rattle.dae_cli_answers.specs.Promises.{IsRunOf, IsRunToEnd, TellsEnd, TellsSoFar}

-- the answer of a run that came out so
abbrev run_answer : Image → RunOptions → State → Driven → Answer
run_answer image o end how = answer (status_of how) (Note (budget_line image.budget) ∷ (puts_of_turns (setup_of image o.depths) (opened image) (word_of o.schedule) o.steps ++ end_puts how (setup_of image o.depths) end o.show))

-- how the machine ends by the halt of the execute processor
abbrev halt_end : Halt → Option End
halt_end h = end_of (Some h)

-- no depth is below the budget where a machine ran
pub never_four : (how : Driven) → status_of how ≢ 4
never_four (Final (Ended n)) h = absurd (omega arith)
never_four (Final (EndTrapped n)) h = absurd (omega arith)
never_four Stuck h = absurd (omega arith)
never_four Spent h = absurd (omega arith)
never_four SinkFailed h = absurd (omega arith)

-- a status that is neither 0 nor 1
pub neither : {status : ℕ} → status ≢ 0 → status ≢ 1 → (status ≡ 0) ⊎ (status ≡ 1) → ⊥
neither zero one (inl h) = zero h
neither zero one (inr h) = one h

module _ (image : Image) (o : RunOptions) (reach : Reaches o.depths image.budget) (end : State) (turns : RunsTurns (setup_of image o.depths) (opened image) (word_of o.schedule) o.steps end) where
  abbrev setup : Setup
  setup = setup_of image o.depths

  abbrev picks : List Pick
  picks = scheduled setup (opened image) (word_of o.schedule) o.steps

  abbrev told_pieces : List (List ℕ)
  told_pieces = pieces setup (opened image) picks

  -- a run that ended, of a program that ends
  module _ (halt : Halt) (w : World) (only : OnlyEnds image halt w) where
    last_is : IsFinal setup end → end ≡ only.end
    last_is final = (only.only o.depths reach).same picks end turns final

    output_is : IsFinal setup end → concat told_pieces ≡ w.printed
    output_is final = sym (pieces_are_printed setup image end picks turns) ∙ ap (λ (t : State). t.printed) (last_is final) ∙ only.printed

    memory_is : IsFinal setup end → end.memory ≡ w.memory
    memory_is final = ap (λ (t : State). t.memory) (last_is final) ∙ only.memory

    end_is : IsFinal setup end → end_of end.e.halt ≡ halt_end halt
    end_is final = ap end_of (ap (λ (t : State). t.e.halt) (last_is final) ∙ only.halts)

    -- a run that took all its steps isn't at its end
    not_spent : 4096 * (w.items / 4 + 1) ≤ o.steps → Rested Spent o.steps setup end → ⊥
    not_spent enough rested =
        let can = only.only o.depths reach in
        let most = can.at_most picks end turns in
        let short = only.short in
        let counted = steps_counted setup image end picks turns in
        let taken = rested.0 in
        let all : length picks ≡ length only.picks = omega (arith, enough, most, short, counted, taken) in
        let final : IsFinal setup end = (can.ends picks end turns).1 all in
        none_or_some (final.quiet rested.1.0) rested.1.2

  tells_end : (w : World) (line : List ℕ) (how : Driven) (status : ℕ) → status_of how ≡ status → concat told_pieces ≡ w.printed → end.memory ≡ w.memory → end_puts how setup end o.show ≡ Note line ∷ (Note (steps_line end.steps) ∷ show_puts o.show end.memory) → (status_of how ≡ status) × TellsEnd image o w line (run_answer image o end how)
  tells_end w line how status s out memory puts = (
    s,
    record {
      pieces = told_pieces;
      output = out;
      steps = end.steps;
      puts = ap (λ (ps : List Put). Note (budget_line image.budget) ∷ (map Out told_pieces ++ ps)) (puts ∙ ap (λ (m : List ℕ). Note line ∷ (Note (steps_line end.steps) ∷ show_puts o.show m)) memory);
    },
  )

  halted : (how : Driven) (status : ℕ) (w : World) → OnlyEnds image (Status status) w → Rested how o.steps setup end → (status_of how ≡ 0) ⊎ (status_of how ≡ 1) → (status_of how ≡ 0) × TellsEnd image o w (ended_line status) (run_answer image o end how)
  halted (Final (Ended n)) status w only rested h =
      let same : n ≡ status = (let e = sym rested.1 ∙ end_is (Status status) w only rested.0 in cc) in
      tells_end w (ended_line status) (Final (Ended n)) 0 refl (output_is (Status status) w only rested.0) (memory_is (Status status) w only rested.0) (ap (λ (k : ℕ). Note (ended_line k) ∷ (Note (steps_line end.steps) ∷ show_puts o.show end.memory)) same)
  halted (Final (EndTrapped n)) status w only rested h = absurd (let e = sym rested.1 ∙ end_is (Status status) w only rested.0 in cc)
  halted Stuck status w only rested (inl h) = absurd (omega arith)
  halted Stuck status w only rested (inr h) = absurd (omega arith)
  halted Spent status w only rested (inl h) = absurd (omega arith)
  halted Spent status w only rested (inr h) = absurd (omega arith)
  halted SinkFailed status w only rested h = absurd rested

  trapped : (how : Driven) (code : ℕ) (w : World) → OnlyEnds image (Trap code) w → Rested how o.steps setup end → (status_of how ≡ 0) ⊎ (status_of how ≡ 1) → (status_of how ≡ 1) × TellsEnd image o w (trapped_line code) (run_answer image o end how)
  trapped (Final (EndTrapped n)) code w only rested h =
      let same : n ≡ code = (let e = sym rested.1 ∙ end_is (Trap code) w only rested.0 in cc) in
      tells_end w (trapped_line code) (Final (EndTrapped n)) 1 refl (output_is (Trap code) w only rested.0) (memory_is (Trap code) w only rested.0) (ap (λ (k : ℕ). Note (trapped_line k) ∷ (Note (steps_line end.steps) ∷ show_puts o.show end.memory)) same)
  trapped (Final (Ended n)) code w only rested h = absurd (let e = sym rested.1 ∙ end_is (Trap code) w only rested.0 in cc)
  trapped Stuck code w only rested (inl h) = absurd (omega arith)
  trapped Stuck code w only rested (inr h) = absurd (omega arith)
  trapped Spent code w only rested (inl h) = absurd (omega arith)
  trapped Spent code w only rested (inr h) = absurd (omega arith)
  trapped SinkFailed code w only rested h = absurd rested

  enough_for : (how : Driven) (halt : Halt) (w : World) → OnlyEnds image halt w → Rested how o.steps setup end → 4096 * (w.items / 4 + 1) ≤ o.steps → status_of how ≢ 3
  enough_for (Final (Ended n)) halt w only rested enough h = absurd (omega arith)
  enough_for (Final (EndTrapped n)) halt w only rested enough h = absurd (omega arith)
  enough_for Stuck halt w only rested enough h = absurd (omega arith)
  enough_for Spent halt w only rested enough h = not_spent halt w only enough rested
  enough_for SinkFailed halt w only rested enough h = absurd rested

  -- a run that took all its steps
  so_far : (how : Driven) (printed : List ℕ) → IsPrefixOf end.printed printed → Rested how o.steps setup end → status_of how ≡ 3 → TellsSoFar image o printed (run_answer image o end how)
  so_far (Final (Ended n)) printed front rested h = absurd (omega arith)
  so_far (Final (EndTrapped n)) printed front rested h = absurd (omega arith)
  so_far Stuck printed front rested h = absurd (omega arith)
  so_far Spent printed front rested h = record {
    pieces = told_pieces;
    front = subst (λ (xs : List ℕ). IsPrefixOf xs printed) (pieces_are_printed setup image end picks turns) front;
    memory = end.memory;
    puts = ap (λ (k : ℕ). Note (budget_line image.budget) ∷ (map Out told_pieces ++ (Note running_line ∷ (Note (steps_line k) ∷ show_puts o.show end.memory)))) rested.0;
  }
  so_far SinkFailed printed front rested h = absurd rested

  front_is : (halt : Halt) (w : World) → OnlyEnds image halt w → IsPrefixOf end.printed w.printed
  front_is halt w only = subst (λ (xs : List ℕ). IsPrefixOf end.printed xs) only.printed ((only.only o.depths reach).prints picks end turns)

  -- a run that ended
  at_end : (how : Driven) (p : Program) (limit : ℕ) → KeepsMeaning p limit image → Rested how o.steps setup end → (status_of how ≡ 0) ⊎ (status_of how ≡ 1) → (n : ℕ) × IsAtEnd (program_end (meaning_of p limit n))
  at_end (Final e) p limit keeps rested h = keeps.ends_only o.depths reach picks end turns rested.0
  at_end Stuck p limit keeps rested (inl h) = absurd (omega arith)
  at_end Stuck p limit keeps rested (inr h) = absurd (omega arith)
  at_end Spent p limit keeps rested (inl h) = absurd (omega arith)
  at_end Spent p limit keeps rested (inr h) = absurd (omega arith)
  at_end SinkFailed p limit keeps rested h = absurd rested

  not_final : (outputs : ℕ → List ℕ) → RunsGoOn setup (opened image) outputs → IsFinal setup end → ⊥
  not_final outputs goes final = let next = goes.enabled picks end turns in none_or_some (final.quiet next.0) next.2

  never_ends : (how : Driven) (outputs : ℕ → List ℕ) → RunsGoOn setup (opened image) outputs → Rested how o.steps setup end → (status_of how ≢ 0) × (status_of how ≢ 1)
  never_ends (Final e) outputs goes rested = absurd (not_final outputs goes rested.0)
  never_ends Stuck outputs goes rested = (λ h. absurd (omega arith), λ h. absurd (omega arith))
  never_ends Spent outputs goes rested = (λ h. absurd (omega arith), λ h. absurd (omega arith))
  never_ends SinkFailed outputs goes rested = absurd rested

  never_nine : (how : Driven) (p : Program) (limit : ℕ) → KeepsMeaning p limit image → Rested how o.steps setup end → status_of how ≢ 9
  never_nine (Final (Ended n)) p limit keeps rested h = absurd (omega arith)
  never_nine (Final (EndTrapped n)) p limit keeps rested h = absurd (omega arith)
  never_nine Stuck p limit keeps rested h = keeps.never_stuck o.depths reach picks end turns rested
  never_nine Spent p limit keeps rested h = absurd (omega arith)
  never_nine SinkFailed p limit keeps rested h = absurd rested

  pub turned : (how : Driven) (p : Program) (limit : ℕ) → KeepsMeaning p limit image → Rested how o.steps setup end → IsRunOf p limit image o (run_answer image o end how)
  turned how p limit keeps rested = record {
    never_stuck = never_nine how p limit keeps rested;
    below = λ h. absurd (never_four how h);
    told = λ low. absurd (low reach);
    ends_only = at_end how p limit keeps rested;
    ends = λ n status e. record {
      tells = halted how status _ (keeps.ends n status e) rested;
      running = so_far how _ (front_is (Status status) _ (keeps.ends n status e)) rested;
      enough = enough_for how (Status status) _ (keeps.ends n status e) rested;
    };
    traps = λ n code e. record {
      tells = trapped how code _ (keeps.traps n code e) rested;
      running = so_far how _ (front_is (Trap code) _ (keeps.traps n code e)) rested;
      enough = enough_for how (Trap code) _ (keeps.traps n code e) rested;
    };
    goes_on = λ g. (
        let goes = keeps.goes_on g o.depths reach in
        let never = never_ends how _ goes rested in
        let x = goes.prints picks end turns in
        (never.0, never.1, λ h. (x.0, so_far how (last_world (meaning_of p limit x.0)).printed x.1 rested h)));
  }

-- an answer without a run
module _ (p : Program) (limit : ℕ) (image : Image) (o : RunOptions) (a : Answer) (zero : a.status ≢ 0) (one : a.status ≢ 1) (three : a.status ≢ 3) where
  never_run : (status : ℕ) (w : World) (line : List ℕ) → IsRunToEnd image o status w line a
  never_run status w line = record { tells = λ h. absurd (neither zero one h); running = λ h. absurd (three h); enough = λ e. three }

  pub unrun : a.status ≢ 9 → (a.status ≡ 4 → ¬ (Reaches o.depths image.budget)) → (¬ (Reaches o.depths image.budget) → (a.status ≡ 4) ⊎ (a.status ≡ 7)) → IsRunOf p limit image o a
  unrun nine below told = record {
    never_stuck = nine;
    below = below;
    told = told;
    ends_only = λ h. absurd (neither zero one h);
    ends = λ n status e. never_run 0 _ _;
    traps = λ n code e. never_run 1 _ _;
    goes_on = λ g. (zero, one, λ h. absurd (three h));
  }

pub run_of_image : (p : Program) (limit : ℕ) (image : Image) (o : RunOptions) (a : Answer) → KeepsMeaning p limit image → DueOfImage image o a → IsRunOf p limit image o a
run_of_image p limit image o a keeps (due_budget (due_opened reach (due_end end how turns rested))) = turned image o reach end turns how p limit keeps rested
run_of_image p limit image o a keeps (due_budget (due_not_opened (due_depth queue found))) =
    unrun p limit image o a (λ h. absurd (omega arith)) (λ h. absurd (omega arith)) (λ h. absurd (omega arith)) (λ h. absurd (omega arith))
    (λ h reach. none_or_some ((none_below o.depths image.budget).1 reach) found) (λ low. inl refl)
run_of_image p limit image o a keeps (due_budget (due_not_opened (due_memory_for_machine reach))) =
    unrun p limit image o a (λ h. absurd (omega arith)) (λ h. absurd (omega arith)) (λ h. absurd (omega arith)) (λ h. absurd (omega arith))
    (λ h. absurd (omega arith)) (λ low. inr refl)
run_of_image p limit image o a keeps due_memory_for_lines =
    unrun p limit image o a (λ h. absurd (omega arith)) (λ h. absurd (omega arith)) (λ h. absurd (omega arith)) (λ h. absurd (omega arith))
    (λ h. absurd (omega arith)) (λ low. inr refl)
