use Rattle.dae_parse_grammar.specs.FirstPlaces.{firsts_initialiser}
use Rattle.dae_parse_nodes.proofs.Listing.{shows_longer}
use Rattle.dae_tree.specs.FileViews.{view_initialiser}
use Rattle.dae_parse_nodes.proofs.declarations.with_initialiser.Goals as goal

pub returns : goal.returns
returns c = λ xs x h k.
    shows_longer view_initialiser firsts_initialiser c.args.before c.args.initialiser xs x c.longer.result h k c.longer.ensures
