use Rattle.dae_machine.proofs.Scheduled.{is_turned}
use Rattle.dae_machine.proofs.laws.schedules_run.Goals as goal

pub returns : goal.returns
returns c = is_turned
