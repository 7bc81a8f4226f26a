use Rattle.dae_cli_answers.proofs.TimedRuns.{timed_run_of_image}
use Rattle.dae_cli_answers.proofs.laws.timed_runs_keep_meaning.Goals as goal

pub returns : goal.returns
returns c = timed_run_of_image
