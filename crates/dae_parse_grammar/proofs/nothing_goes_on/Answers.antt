use Rattle.dae_parse_grammar.proofs.Local as local
use Rattle.dae_parse_grammar.proofs.nothing_goes_on.Goals as goal

pub returns : goal.returns
returns c = local.nothing_goes_on
