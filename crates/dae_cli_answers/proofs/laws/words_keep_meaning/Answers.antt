use Rattle.dae_cli_answers.proofs.RunsOfWords.{runs_of_files, runs_of_numbers}
use Rattle.dae_cli_answers.proofs.laws.words_keep_meaning.Goals as goal

pub returns-clause-files : goal.returns-clause-files
returns-clause-files c = runs_of_files

pub returns-clause-numbers : goal.returns-clause-numbers
returns-clause-numbers c = runs_of_numbers
