use Rattle.std.proofs.Common.{rules, ap}
use Rattle.dae_base.specs.declared.Place.{Place}
use Rattle.dae_tree.specs.Trees as tree
use Rattle.dae_tree.specs.FileViews.{view_statement}
use Rattle.dae_parse_grammar.specs.FirstPlaces.{firsts_statement, over, firsts}
use Rattle.dae_parse_parts.proofs.Laws.{node_shown}
use Rattle.dae_parse_statements.proofs.nodes.evaluation.Goals as goal

pub returns : goal.returns
returns c = λ a h.
    node_shown _ _ view_statement firsts_statement _ c.args.operand.place c.args.operand.read c.node.result a (tree.Evaluate a c.args.end) h.read c.node.ensures (ap (λ (p : Place). over p (firsts a)) h.place)
    (λ t n made e. search rules)
