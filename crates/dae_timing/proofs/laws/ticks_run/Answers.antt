use Rattle.dae_timing.proofs.Rows.{timed_run}
use Rattle.dae_timing.proofs.Running.{ticks_are_a_run}
use Rattle.dae_timing.proofs.laws.ticks_run.Goals as goal

pub returns-clause-run : goal.returns-clause-run
returns-clause-run c = ticks_are_a_run

pub returns-clause-opened : goal.returns-clause-opened
returns-clause-opened c = timed_run
