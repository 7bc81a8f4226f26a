use Rattle.dae_cli_answers.proofs.RunsOfWords.{never_stuck_for_words}
use Rattle.dae_cli_answers.proofs.laws.never_stuck.Goals as goal

pub returns : goal.returns
returns c = never_stuck_for_words
