use Rattle.std.proofs.Common.{◌≡◌, rules, refl, ap, ◌∙◌}
use Rattle.dae_base.specs.declared.Place.{Place}
use Rattle.dae_base.proofs.Laws.{ap_two}
use Rattle.dae_tree.specs.declared.expressions.Expression.TheVariants as expression
use Rattle.dae_tree.specs.Trees as tree
use Rattle.dae_parse_grammar.specs.Machine.{arguments_onto}
use Rattle.dae_tree.specs.Views.{view}
use Rattle.dae_parse_grammar.specs.FirstPlaces.{firsts, both, over, firsts_all}
use Rattle.dae_parse_nodes.proofs.Listing.{shows_arguments}
use Rattle.dae_tree.proofs.Laws.{view_call}
use Rattle.dae_parse_parts.proofs.Laws.{shows_pair}
use Rattle.dae_parse_nodes.proofs.Operands.{operand_shown}
use Rattle.dae_parse_nodes.proofs.expressions.call.Goals as goal

pub returns : goal.returns
returns c = λ a es h k.
    let parts = shows_pair _ _ _ _ c.args.callee.read c.args.arguments c.in_ok-parts.parts a (arguments_onto es tree.no_expressions) h.read (shows_arguments c.args.arguments es k) c.in_ok-parts.ensures in
    operand_shown _ _ _ c.args.callee.place _ c.in_ok-parts.parts c.operand_over.result (a, (arguments_onto es tree.no_expressions)) (tree.Call a c.args.place (arguments_onto es tree.no_expressions)) parts c.operand_over.ensures.read c.operand_over.ensures.beside (ap (λ (p : Place). over p (both (firsts a) (firsts_all (arguments_onto es tree.no_expressions)))) h.place) refl h.place
    (λ t n made e.
    let m : n ≡ expression.Call t.0 c.args.place t.1 = search rules in
    ap view m ∙ view_call t.0 c.args.place t.1 ∙ ap_two (λ x y. tree.Call x c.args.place y) (ap (λ (p : _). p.0) e) (ap (λ (p : _). p.1) e))
