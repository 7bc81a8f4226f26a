use Rattle.dae_cli_answers.proofs.Runs.{run_of_image}
use Rattle.dae_cli_answers.proofs.laws.runs_keep_meaning.Goals as goal

pub returns : goal.returns
returns c = run_of_image
