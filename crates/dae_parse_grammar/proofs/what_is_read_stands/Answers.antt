use Rattle.dae_parse_grammar.proofs.Runs.{stands}
use Rattle.dae_parse_grammar.proofs.what_is_read_stands.Goals as goal

pub returns : goal.returns
returns c = λ tokens turns. stands tokens turns
