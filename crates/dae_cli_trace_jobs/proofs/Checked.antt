-- Something is always due for bytes as a trace.
use Rattle.std.proofs.Common.{◌≡◌, ℕ, List, refl}
use Rattle.std.specs.Prelude.{Option, Some, None}
use Rattle.dae_base.specs.declared.Depths.{Depths}
use Rattle.dae_base.specs.declared.Queue.{Queue}
use Rattle.dae_base.specs.Budgets.{depth, first_below}
use Rattle.dae_base.proofs.Laws.{none_below}
use Rattle.dae_image.specs.declared.Image.{Image}
use Rattle.dae_trace.specs.declared.TraceAnswer.TheVariants.{Depth, Memory}
use Rattle.dae_cli_drive.specs.Puts.{Answer}
use Rattle.dae_cli_trace_jobs.specs.Checking.{DueOfTrace, due_checked}

pub some_checked : (image : Image) (d : Depths) (bytes : List ℕ) → (due : Answer) × DueOfTrace image d bytes due
some_checked image d bytes = by_queue (first_below d image.budget) refl where
  by_queue : (q : Option Queue) → first_below d image.budget ≡ q → (due : Answer) × DueOfTrace image d bytes due
  by_queue None e = (_, due_checked Memory ((none_below d image.budget).0 e))
  by_queue (Some queue) e = (_, due_checked (Depth queue (depth queue image.budget) (depth queue d)) (e, refl, refl))
