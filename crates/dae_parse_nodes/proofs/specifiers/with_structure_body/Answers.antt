use Rattle.std.proofs.Common.{refl, ap, ◌∙◌}
use Rattle.dae_tree.specs.Trees as tree
use Rattle.dae_parse_grammar.specs.FirstPlaces.{firsts_specifier}
use Rattle.dae_parse_grammar.specs.Machine.{members_onto}
use Rattle.dae_parse_nodes.proofs.Listing.{shows_members}
use Rattle.dae_tree.proofs.Laws.{view_structure_body}
use Rattle.dae_parse_parts.proofs.Laws.{shows_absent, shows_made, shows_over}
use Rattle.dae_tree.specs.Views.{view_specifier}
use Rattle.dae_parse_nodes.proofs.specifiers.with_structure_body.Goals as goal
use Rattle.dae_parse_nodes.proofs.specifiers.with_structure_body.Goals.{in-Some, in-None}

pub returns : goal.returns
returns c = λ ws ms h k.
    let b = c.args.body in
    let target : tree.Specifier = tree.StructureBody b.place b.tag b.brace (members_onto ms tree.no_members) in
    let whole = shows_over _ _ b.place c.args.members c.in_ok-tree.field-0 _ (shows_members c.args.members ms k) c.in_ok-tree.ensures in
    c.with_specifier.ensures ws target h
    (elim c.match-tree.branch [
      | in-Some w ↦ shows_made _ _ view_specifier firsts_specifier c.in_ok-tree.field-0 c.match-tree.tree (members_onto ms tree.no_members) target _ _ whole refl w.in-Some.is w.tree-is (λ e. view_structure_body b.place b.tag b.brace w.in-Some.members ∙ ap (tree.StructureBody b.place b.tag b.brace) e)
      | in-None w ↦ shows_absent _ _ view_specifier firsts_specifier c.in_ok-tree.field-0 c.match-tree.tree (members_onto ms tree.no_members) target whole refl w.in-None.is w.tree-is
    ]) refl refl
