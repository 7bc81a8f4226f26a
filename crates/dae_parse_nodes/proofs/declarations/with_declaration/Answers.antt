use Rattle.dae_parse_grammar.specs.FirstPlaces.{firsts_declaration}
use Rattle.dae_parse_nodes.proofs.Listing.{shows_longer}
use Rattle.dae_tree.specs.FileViews.{view_declaration}
use Rattle.dae_parse_nodes.proofs.declarations.with_declaration.Goals as goal

pub returns : goal.returns
returns c = λ xs x h k.
    shows_longer view_declaration firsts_declaration c.args.before c.args.declaration xs x c.longer.result h k c.longer.ensures
