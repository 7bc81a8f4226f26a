use Rattle.std.proofs.Common.{refl, ap, ◌∙◌}
use Rattle.dae_tree.specs.Trees as tree
use Rattle.dae_tree.specs.Views.{view_declarator}
use Rattle.dae_parse_grammar.specs.FirstPlaces.{firsts_declarator}
use Rattle.dae_parse_parts.specs.Shown.{in_box}
use Rattle.dae_parse_parts.proofs.Laws.{shows_over, shows_made, shows_absent}
use Rattle.dae_parse_nodes.proofs.declarators.pointer.Goals as goal
use Rattle.dae_parse_nodes.proofs.declarators.pointer.Goals.{in-Some+in_ok-new-in-Some, in-None}

pub returns : goal.returns
returns c = λ d h.
    let whole = shows_over _ _ c.args.place c.args.declared.read c.in_ok-tree.field-0 d h.read c.in_ok-tree.ensures in
    record {
      read = elim c.match-tree.branch [
        | in-Some+in_ok-new-in-Some w ↦ shows_made _ _ (in_box view_declarator) firsts_declarator _ c.match-tree.tree d (tree.Pointer c.args.place c.args.qualifiers.items d) _ _ whole (refl) w.in-Some.is w.tree-is (λ e. ap view_declarator w.in_ok-new-in-Some.ensures.ok ∙ ap (tree.Pointer c.args.place c.args.qualifiers.items) e)
        | in-None w ↦ shows_absent _ _ (in_box view_declarator) firsts_declarator _ c.match-tree.tree d (tree.Pointer c.args.place c.args.qualifiers.items d) whole (refl) w.in-None.is w.tree-is
      ];
      name = h.name;
      present = refl;
      bare = refl;
      parameters = h.parameters;
    }
