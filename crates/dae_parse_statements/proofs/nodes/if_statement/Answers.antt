use Rattle.std.proofs.Common.{rules, refl}
use Rattle.dae_tree.specs.Trees as tree
use Rattle.dae_tree.specs.FileViews.{view_statement}
use Rattle.dae_parse_grammar.specs.FirstPlaces.{firsts_statement}
use Rattle.dae_parse_parts.proofs.Laws.{shows_pair, node_shown}
use Rattle.dae_parse_statements.proofs.nodes.if_statement.Goals as goal

pub returns : goal.returns
returns c = λ a s h k.
    let parts = shows_pair _ _ _ _ c.args.test.read c.args.body c.in_ok-parts.parts a s h.read k c.in_ok-parts.ensures in
    node_shown _ _ view_statement firsts_statement _ c.args.place c.in_ok-parts.parts c.node.result (a, s) (tree.If c.args.place c.args.paren a s) parts c.node.ensures refl
    (λ t n made e. search rules)
