use Rattle.std.proofs.Common.{rules, refl}
use Rattle.dae_tree.specs.Trees as tree
use Rattle.dae_tree.specs.FileViews.{view_statement}
use Rattle.dae_parse_grammar.specs.FirstPlaces.{firsts_statement}
use Rattle.dae_parse_parts.proofs.Laws.{shows_pair, node_shown}
use Rattle.dae_parse_statements.proofs.nodes.do_statement.Goals as goal

pub returns : goal.returns
returns c = λ s a h k.
    let all = c.args.parts in
    let parts = shows_pair _ _ _ _ all.body all.test.read c.in_ok-parts.parts s a h k.read c.in_ok-parts.ensures in
    node_shown _ _ view_statement firsts_statement _ all.place c.in_ok-parts.parts c.node.result (s, a) (tree.Do all.place s all.word all.paren a c.args.end) parts c.node.ensures refl
    (λ t n made e. search rules)
