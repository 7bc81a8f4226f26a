use Rattle.dae_parse_grammar.proofs.Runs.{stopped}
use Rattle.dae_parse_grammar.proofs.stops_behind_a_tree.Goals as goal

pub returns : goal.returns
returns c = λ tokens turns s e h file i. stopped tokens turns s e h file i
