use Rattle.std.proofs.Common.{rules, refl}
use Rattle.dae_tree.specs.Trees as tree
use Rattle.dae_tree.specs.FileViews.{view_statement}
use Rattle.dae_parse_grammar.specs.FirstPlaces.{firsts_statement}
use Rattle.dae_parse_parts.proofs.Laws.{node_shown}
use Rattle.dae_parse_statements.proofs.nodes.default_statement.Goals as goal

pub returns : goal.returns
returns c = λ s h.
    node_shown _ _ view_statement firsts_statement _ c.args.place c.args.body c.node.result s (tree.Default c.args.place s) h c.node.ensures refl
    (λ t n made e. search rules)
