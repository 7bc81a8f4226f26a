use Rattle.std.proofs.Common.{rules, refl, ap}
use Rattle.dae_base.specs.declared.Place.{Place}
use Rattle.dae_tree.specs.Trees as tree
use Rattle.dae_parse_grammar.specs.FirstPlaces.{firsts, over}
use Rattle.dae_parse_nodes.proofs.Operands.{operand_shown}
use Rattle.dae_parse_nodes.proofs.expressions.member.Goals as goal

pub returns : goal.returns
returns c = λ a h.
    operand_shown _ _ _ c.args.base.place _ c.args.base.read c.operand_over.result a (tree.Member a c.args.place c.args.operator c.args.name) h.read c.operand_over.ensures.read c.operand_over.ensures.beside (ap (λ (p : Place). over p (firsts a)) h.place) refl h.place
    (λ t n made e. search rules)
