use Rattle.dae_parse_grammar.specs.FirstPlaces.{firsts_declarator}
use Rattle.dae_parse_parts.proofs.Laws.{shows_unboxed}
use Rattle.dae_parse_nodes.proofs.Listing.{shows_longer}
use Rattle.dae_tree.specs.Views.{view_declarator}
use Rattle.dae_parse_nodes.proofs.specifiers.with_declarator.Goals as goal

pub returns : goal.returns
returns c = λ xs x h k.
    shows_longer view_declarator firsts_declarator c.args.before c.unbox.result xs x c.longer.result h (shows_unboxed view_declarator firsts_declarator c.args.declared.read c.unbox.result x k.read c.unbox.ensures.tree c.unbox.ensures.depths) c.longer.ensures
