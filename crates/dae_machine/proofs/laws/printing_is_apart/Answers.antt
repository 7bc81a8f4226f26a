use Rattle.dae_machine.proofs.Printing.{final_behind, pick_behind, run_behind, step_behind, stuck_behind}
use Rattle.dae_machine.proofs.laws.printing_is_apart.Goals as goal

pub returns : goal.returns
returns c = record { step = step_behind; run = run_behind; pick = pick_behind; ends = final_behind; stuck = stuck_behind }
