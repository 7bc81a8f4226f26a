use Rattle.std.proofs.Common.{rules, refl}
use Rattle.dae_tree.specs.Trees as tree
use Rattle.dae_parse_nodes.proofs.Operands.{operand_shown}
use Rattle.dae_parse_nodes.proofs.expressions.sizeof_expression.Goals as goal

pub returns : goal.returns
returns c = λ a h.
    operand_shown _ _ _ c.args.place _ c.args.operand.read c.operand_over.result a (tree.SizeofExpression c.args.place a) h.read c.operand_over.ensures.read c.operand_over.ensures.beside refl refl refl
    (λ t n made e. search rules)
