use Rattle.dae_parse_grammar.specs.FirstPlaces.{firsts}
use Rattle.dae_parse_parts.proofs.Laws.{shows_unboxed}
use Rattle.dae_parse_nodes.proofs.Listing.{shows_longer}
use Rattle.dae_tree.specs.Views.{view}
use Rattle.dae_parse_nodes.proofs.expressions.with_argument.Goals as goal

pub returns : goal.returns
returns c = λ xs x h k.
    shows_longer view firsts c.args.before c.unbox.result xs x c.longer.result h (shows_unboxed view firsts c.args.argument.read c.unbox.result x k.read c.unbox.ensures.tree c.unbox.ensures.depths) c.longer.ensures
