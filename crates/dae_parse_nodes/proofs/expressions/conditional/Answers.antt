use Rattle.std.proofs.Common.{rules, refl, ap}
use Rattle.dae_base.specs.declared.Place.{Place}
use Rattle.dae_tree.specs.Trees as tree
use Rattle.dae_parse_grammar.specs.FirstPlaces.{firsts, both, over}
use Rattle.dae_parse_parts.proofs.Laws.{shows_pair}
use Rattle.dae_parse_nodes.proofs.Operands.{operand_shown}
use Rattle.dae_parse_nodes.proofs.expressions.conditional.Goals as goal

pub returns : goal.returns
returns c = λ a b d h k l.
    let rest = shows_pair _ _ _ _ c.args.then.read c.args.other.read c.in_ok-rest.rest b d k.read l.read c.in_ok-rest.ensures in
    let parts = shows_pair _ _ _ _ c.args.test.read c.in_ok-rest.rest c.in_ok-parts.parts a (b, d) h.read rest c.in_ok-parts.ensures in
    operand_shown _ _ _ c.args.test.place _ c.in_ok-parts.parts c.operand_over.result (a, (b, d)) (tree.Conditional a c.args.place b d) parts c.operand_over.ensures.read c.operand_over.ensures.beside (ap (λ (p : Place). over p (both (firsts a) (both (firsts b) (firsts d)))) h.place) refl h.place
    (λ t n made e. search rules)
