use Rattle.std.proofs.Common.{refl, ap, ◌∙◌}
use Rattle.dae_base.proofs.Laws.{ap_three}
use Rattle.dae_tree.specs.Trees as tree
use Rattle.dae_tree.specs.declared.expressions.TypeName.{TypeName}
use Rattle.dae_tree.specs.Views.{view, views_specifiers, view_declarator}
use Rattle.dae_parse_grammar.specs.FirstPlaces.{firsts}
use Rattle.dae_tree.proofs.Laws.{view_cast}
use Rattle.dae_parse_parts.specs.Shown.{in_box}
use Rattle.dae_parse_parts.proofs.Laws.{shows_over, shows_made, shows_absent, shows_pair}
use Rattle.dae_parse_nodes.proofs.expressions.cast.Goals as goal
use Rattle.dae_parse_nodes.proofs.expressions.cast.Goals.{in-Some+in_ok-name-in-Some+in_ok-new-in-Some, in-None}

pub returns : goal.returns
returns c = λ ws d a h k l.
    let rest = shows_pair _ _ _ _ c.args.declared.read c.args.operand.read c.in_ok-rest.rest d a k.read l.read c.in_ok-rest.ensures in
    let parts = shows_pair _ _ _ _ c.args.specified.read c.in_ok-rest.rest c.in_ok-parts.parts ws (d, a) h.read rest c.in_ok-parts.ensures in
    let whole = shows_over _ _ c.args.place c.in_ok-parts.parts c.in_ok-tree.field-0 (ws, (d, a)) parts c.in_ok-tree.ensures in
    record {
      read = elim c.match-tree.branch [
        | in-Some+in_ok-name-in-Some+in_ok-new-in-Some w ↦ shows_made _ _ (in_box view) firsts _ c.match-tree.tree (ws, (d, a)) (tree.Cast c.args.place ws d a) _ _ whole (refl) w.in-Some.is w.tree-is (λ e. ap view w.in_ok-new-in-Some.ensures.ok ∙ view_cast c.args.place w.in_ok-name-in-Some.name w.in-Some.rest.1 ∙ ap_three (tree.Cast c.args.place) (ap (λ (t : TypeName). views_specifiers t.specifiers.items) w.in_ok-name-in-Some.ensures.ok ∙ ap (λ (p : _). p.0) e) (ap (λ (t : TypeName). view_declarator t.declarator) w.in_ok-name-in-Some.ensures.ok ∙ ap view_declarator w.into_inner.ensures ∙ ap (λ (p : _). p.1.0) e) (ap (λ (p : _). p.1.1) e))
        | in-None w ↦ shows_absent _ _ (in_box view) firsts _ c.match-tree.tree (ws, (d, a)) (tree.Cast c.args.place ws d a) whole (refl) w.in-None.is w.tree-is
      ];
      level = refl;
      place = refl;
    }
