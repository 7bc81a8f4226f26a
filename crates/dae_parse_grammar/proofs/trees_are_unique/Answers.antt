use Rattle.dae_parse_grammar.proofs.Runs.{unique}
use Rattle.dae_parse_grammar.proofs.trees_are_unique.Goals as goal

pub returns : goal.returns
returns c = λ tokens a b i j. unique tokens a b i j
