-- What other crates may use of runs from an image's opened state, of what is due for an image, and of puts.
use Rattle.std.proofs.Common.{◌≡◌, List, length, refl, arith}
use Rattle.std.specs.List.{concat}
use Rattle.dae_image.specs.declared.Image.{Image}
use Rattle.dae_machine.specs.declared.Pick.{Pick}
use Rattle.dae_machine.specs.Machine.{Setup, State, Runs}
use Rattle.dae_machine.specs.Opened.{opened}
use Rattle.dae_machine.proofs.LawsOfRuns.{opened_counted}
use Rattle.dae_cli_drive.specs.Pieces.{pieces}
pub use Rattle.dae_cli_drive.proofs.OneAnswer.{one_of_image, one_rest}
pub use Rattle.dae_cli_drive.proofs.Budgeted.{gives_budgeted, gives_unbudgeted, none_or_some, single_budgeted, single_opened, single_unopened, some_opened, some_same}
pub use Rattle.dae_cli_drive.proofs.Outcome.{Good, Outcome, comes_out, run_keeps}
pub use Rattle.dae_cli_drive.proofs.Printed.{pieces_after}
pub use Rattle.dae_cli_drive.proofs.Puts.{cut_after, cut_here, cut_more, cut_next, gives_failed, gives_next, gives_same, gives_then, made_then, on_err}
pub use Rattle.dae_cli_drive.proofs.Executed.{same_lines}
use Rattle.dae_cli_drive.proofs.Printed.{pieces_printed}

-- the steps count themselves
pub steps_counted : (setup : Setup) (image : Image) (t : State) (ps : List Pick) → Runs setup (opened image) ps t → t.steps ≡ length ps
steps_counted setup image t ps run = let h = (run_keeps setup (opened image) t ps (record { counted = opened_counted image; halts = refl }) run).1 in omega arith

-- together the pieces are what is printed
pub pieces_are_printed : (setup : Setup) (image : Image) (t : State) (ps : List Pick) → Runs setup (opened image) ps t → t.printed ≡ concat (pieces setup (opened image) ps)
pieces_are_printed setup image t ps run = pieces_printed setup (opened image) t ps run
