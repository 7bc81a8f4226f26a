use Rattle.std.proofs.Common.{rules, refl}
use Rattle.dae_tree.specs.Trees as tree
use Rattle.dae_tree.specs.FileViews.{view_statement}
use Rattle.dae_parse_grammar.specs.FirstPlaces.{firsts_statement}
use Rattle.dae_parse_parts.proofs.Laws.{shows_pair, node_shown}
use Rattle.dae_parse_statements.proofs.nodes.if_else_statement.Goals as goal

pub returns : goal.returns
returns c = λ a s u h k l.
    let rest = shows_pair _ _ _ _ c.args.then c.args.other c.in_ok-rest.rest s u k l c.in_ok-rest.ensures in
    let parts = shows_pair _ _ _ _ c.args.test.read c.in_ok-rest.rest c.in_ok-parts.parts a (s, u) h.read rest c.in_ok-parts.ensures in
    node_shown _ _ view_statement firsts_statement _ c.args.place c.in_ok-parts.parts c.node.result (a, (s, u)) (tree.IfElse c.args.place c.args.paren a s u) parts c.node.ensures refl
    (λ t n made e. search rules)
