use Rattle.dae_cli_drive.proofs.OneAnswer.{one_of_image}
use Rattle.dae_cli_drive.proofs.answers.one_answer.Goals as goal

pub returns : goal.returns
returns c = λ image o a b d e n m. one_of_image a b d e n m
