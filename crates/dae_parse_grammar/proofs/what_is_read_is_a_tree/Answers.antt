use Rattle.dae_parse_grammar.proofs.Runs.{sound}
use Rattle.dae_parse_grammar.proofs.what_is_read_is_a_tree.Goals as goal

pub returns : goal.returns
returns c = λ tokens turns before names e. sound tokens turns before names e
