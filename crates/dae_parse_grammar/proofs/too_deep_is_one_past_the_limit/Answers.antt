use Rattle.dae_parse_grammar.proofs.FirstPlaces.{says_file}
use Rattle.dae_parse_grammar.proofs.too_deep_is_one_past_the_limit.Goals as goal

pub returns : goal.returns
returns c = λ file limit. says_file file limit
