use Rattle.dae_parse_grammar.proofs.Lengths.{adds_external}
use Rattle.dae_parse_grammar.proofs.lengths_add.Goals as goal

pub returns : goal.returns
returns c = λ x rest. (adds_external x).law rest
