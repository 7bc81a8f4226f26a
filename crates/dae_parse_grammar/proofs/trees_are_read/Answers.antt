use Rattle.dae_parse_grammar.proofs.Runs.{complete}
use Rattle.dae_parse_grammar.proofs.trees_are_read.Goals as goal

pub returns : goal.returns
returns c = λ tokens file i. complete tokens file i
