use Rattle.dae_parse_grammar.specs.Machine.{begun}
use Rattle.dae_parse_grammar.proofs.Runs.{run_next}
use Rattle.dae_parse_grammar.proofs.runs_go_on.Goals as goal

pub returns : goal.returns
returns c = λ tokens turns t e. run_next turns (begun tokens) t e
