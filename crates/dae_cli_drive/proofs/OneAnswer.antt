-- For an image and its options at most one answer is due, but for want of memory.
use Rattle.std.proofs.Common.{◌≡◌, ℕ, ◌++◌, refl, ap, ◌∙◌, subst}
use Rattle.std.specs.Prelude.{◌≢◌}
use Rattle.dae_image.specs.declared.Image.{Image}
use Rattle.dae_machine.specs.Machine.{Setup, State}
use Rattle.dae_machine.specs.Opened.{opened, setup_of}
use Rattle.dae_machine.specs.Schedules.{word_of}
use Rattle.dae_cli_drive.specs.declared.driving.Driven.{Driven}
use Rattle.dae_cli_drive.specs.declared.driving.Driven.TheVariants.{Final, Stuck, Spent, SinkFailed}
use Rattle.dae_cli_options.specs.declared.options.RunOptions.{RunOptions}
use Rattle.dae_cli_drive.specs.Notes.{end_puts}
use Rattle.dae_cli_drive.specs.Turns.{Rested, puts_of_turns}
use Rattle.dae_cli_drive.specs.Puts.{Answer, answer}
use Rattle.dae_cli_drive.specs.Images.{status_of, DueOfRun, due_end, DueOfImage, WhenOpened}
use Rattle.dae_cli_drive.proofs.Budgeted.{none_or_some, single_budgeted, single_opened, some_same}

-- a state rests in one way
pub one_rest : (how other : Driven) (steps : ℕ) (setup : Setup) (t : State) → Rested how steps setup t → Rested other steps setup t → how ≡ other
one_rest (Final end) (Final end') steps setup t r s = ap Final (some_same r.1 s.1)
one_rest (Final end) Stuck steps setup t r s = absurd (s.not_final r.0)
one_rest (Final end) Spent steps setup t r s = absurd (none_or_some (r.0.quiet s.1.0) s.1.2)
one_rest (Final end) SinkFailed steps setup t r s = absurd s
one_rest Stuck (Final end) steps setup t r s = absurd (r.not_final s.0)
one_rest Stuck Stuck steps setup t r s = refl
one_rest Stuck Spent steps setup t r s = absurd (none_or_some (r.quiet s.1.0) s.1.2)
one_rest Stuck SinkFailed steps setup t r s = absurd s
one_rest Spent (Final end) steps setup t r s = absurd (none_or_some (s.0.quiet r.1.0) r.1.2)
one_rest Spent Stuck steps setup t r s = absurd (none_or_some (s.quiet r.1.0) r.1.2)
one_rest Spent Spent steps setup t r s = refl
one_rest Spent SinkFailed steps setup t r s = absurd s
one_rest SinkFailed other steps setup t r s = absurd r

abbrev run_answer : Setup → State → RunOptions → State → Driven → Answer
run_answer setup start o end how = answer (status_of how) (puts_of_turns setup start (word_of o.schedule) o.steps ++ end_puts how setup end o.show)

one_run : {setup : Setup} {start : State} {o : RunOptions} (a b : Answer) → DueOfRun setup start o a → DueOfRun setup start o b → a ≡ b
one_run {setup} {start} {o} a b (due_end end how turns rested) (due_end end' how' turns' rested') =
    let e : end ≡ end' = some_same turns turns' in
    let h : how ≡ how' = one_rest how how' o.steps setup end' (subst (λ (t : State). Rested how o.steps setup t) e rested) rested' in
    ap (λ (t : State). run_answer setup start o t how) e ∙ ap (run_answer setup start o end') h

pub one_of_image : {image : Image} {o : RunOptions} (a b : Answer) → DueOfImage image o a → DueOfImage image o b → a.status ≢ 7 → b.status ≢ 7 → a ≡ b
one_of_image {image} {o} =
    single_budgeted image (WhenOpened image o.depths (DueOfRun (setup_of image o.depths) (opened image) o))
    (single_opened image o.depths (DueOfRun (setup_of image o.depths) (opened image) o) (λ a b d e n n'. one_run a b d e))
