use Rattle.std.proofs.Common.{rules, refl, ap}
use Rattle.dae_base.specs.declared.Place.{Place}
use Rattle.dae_tree.specs.Trees as tree
use Rattle.dae_parse_grammar.specs.FirstPlaces.{firsts, both, over}
use Rattle.dae_parse_parts.proofs.Laws.{shows_pair}
use Rattle.dae_parse_nodes.proofs.Operands.{operand_shown}
use Rattle.dae_parse_nodes.proofs.expressions.index.Goals as goal

pub returns : goal.returns
returns c = λ a b h k.
    let parts = shows_pair _ _ _ _ c.args.base.read c.args.subscript.read c.in_ok-parts.parts a b h.read k.read c.in_ok-parts.ensures in
    operand_shown _ _ _ c.args.base.place _ c.in_ok-parts.parts c.operand_over.result (a, b) (tree.Index a c.args.place b) parts c.operand_over.ensures.read c.operand_over.ensures.beside (ap (λ (p : Place). over p (both (firsts a) (firsts b))) h.place) refl h.place
    (λ t n made e. search rules)
