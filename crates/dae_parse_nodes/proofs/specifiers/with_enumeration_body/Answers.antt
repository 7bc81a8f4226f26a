use Rattle.std.proofs.Common.{refl, ap, ◌∙◌}
use Rattle.dae_tree.specs.Trees as tree
use Rattle.dae_parse_grammar.specs.FirstPlaces.{firsts_specifier}
use Rattle.dae_parse_grammar.specs.Machine.{enumerators_onto}
use Rattle.dae_parse_nodes.proofs.Listing.{shows_enumerators}
use Rattle.dae_tree.proofs.Laws.{view_enumeration_body}
use Rattle.dae_parse_parts.proofs.Laws.{shows_absent, shows_made, shows_over}
use Rattle.dae_tree.specs.Views.{has_comma, view_specifier}
use Rattle.dae_parse_nodes.proofs.specifiers.with_enumeration_body.Goals as goal
use Rattle.dae_parse_nodes.proofs.specifiers.with_enumeration_body.Goals.{in-Some, in-None}

pub returns : goal.returns
returns c = λ ws ms h k.
    let b = c.args.body in
    let target : tree.Specifier = tree.EnumerationBody b.place b.tag b.brace (enumerators_onto ms tree.no_enumerators) (has_comma c.args.comma) in
    let whole = shows_over _ _ b.place c.args.enumerators c.in_ok-tree.field-0 _ (shows_enumerators c.args.enumerators ms k) c.in_ok-tree.ensures in
    c.with_specifier.ensures ws target h
    (elim c.match-tree.branch [
      | in-Some w ↦ shows_made _ _ view_specifier firsts_specifier c.in_ok-tree.field-0 c.match-tree.tree (enumerators_onto ms tree.no_enumerators) target _ _ whole refl w.in-Some.is w.tree-is (λ e. view_enumeration_body b.place b.tag b.brace w.in-Some.enumerators c.args.comma ∙ ap (λ x. tree.EnumerationBody b.place b.tag b.brace x (has_comma c.args.comma)) e)
      | in-None w ↦ shows_absent _ _ view_specifier firsts_specifier c.in_ok-tree.field-0 c.match-tree.tree (enumerators_onto ms tree.no_enumerators) target whole refl w.in-None.is w.tree-is
    ]) refl refl
