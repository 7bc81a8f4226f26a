use Rattle.dae_parse_grammar.proofs.Adding.{puts_parameters}
use Rattle.dae_parse_grammar.proofs.parameters_add_names.Goals as goal

pub returns : goal.returns
returns c = λ parameters names. (puts_parameters parameters).law names
