use Rattle.dae_parse_grammar.specs.FirstPlaces.{firsts_statement}
use Rattle.dae_parse_parts.proofs.Laws.{shows_unboxed}
use Rattle.dae_parse_nodes.proofs.Laws.{shows_longer}
use Rattle.dae_tree.specs.FileViews.{view_statement}
use Rattle.dae_parse_statements.proofs.nodes.with_statement.Goals as goal

pub returns : goal.returns
returns c = λ xs x h k.
    shows_longer view_statement firsts_statement c.args.before c.unbox.result xs x c.longer.result h (shows_unboxed view_statement firsts_statement c.args.statement c.unbox.result x k c.unbox.ensures.tree c.unbox.ensures.depths) c.longer.ensures
