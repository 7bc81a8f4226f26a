use Rattle.dae_parse_grammar.specs.FirstPlaces.{firsts_external}
use Rattle.dae_parse_nodes.proofs.Listing.{shows_longer}
use Rattle.dae_tree.specs.FileViews.{view_external}
use Rattle.dae_parse_nodes.proofs.declarations.with_external.Goals as goal

pub returns : goal.returns
returns c = λ xs x h k.
    shows_longer view_external firsts_external c.args.before c.args.external xs x c.longer.result h k c.longer.ensures
