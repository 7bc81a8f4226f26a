use Rattle.std.proofs.Common.{rules, refl}
use Rattle.dae_tree.specs.Trees as tree
use Rattle.dae_tree.specs.FileViews.{view_statement}
use Rattle.dae_parse_grammar.specs.FirstPlaces.{firsts_statement}
use Rattle.dae_parse_parts.proofs.Laws.{node_shown}
use Rattle.dae_parse_statements.proofs.nodes.return_statement.Goals as goal

pub returns : goal.returns
returns c = λ a h.
    node_shown _ _ view_statement firsts_statement _ c.args.place c.optional.result c.node.result a (tree.Return c.args.place a c.args.end) (c.optional.ensures a h) c.node.ensures refl
    (λ t n made e. search rules)
