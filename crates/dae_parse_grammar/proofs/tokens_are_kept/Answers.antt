use Rattle.dae_parse_grammar.specs.Machine.{begun}
use Rattle.dae_parse_grammar.proofs.Runs.{run_keeps}
use Rattle.dae_parse_grammar.proofs.tokens_are_kept.Goals as goal

pub returns : goal.returns
returns c = λ tokens turns. run_keeps turns (begun tokens)
