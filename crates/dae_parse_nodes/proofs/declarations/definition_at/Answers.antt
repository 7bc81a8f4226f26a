use Rattle.std.proofs.Common.{sym, ap, ◌∙◌}
use Rattle.dae_base.specs.declared.Place.{Place}
use Rattle.dae_tree.specs.Trees as tree
use Rattle.dae_tree.specs.FileViews.{view_statement, view_external}
use Rattle.dae_parse_grammar.specs.FirstPlaces.{both, over, firsts_specifiers, firsts_declarator, firsts_statement, firsts_external}
use Rattle.dae_parse_nodes.proofs.Making.{defined_same}
use Rattle.dae_tree.proofs.Laws.{view_block}
use Rattle.dae_parse_parts.proofs.Laws.{seen_at, shows_over, shows_made, shows_absent, shows_pair}
use Rattle.dae_parse_nodes.proofs.declarations.definition_at.Goals as goal
use Rattle.dae_parse_nodes.proofs.declarations.definition_at.Goals.{in-Some+in-Some-block_of, in-Some+in-None-block_of, in-None}

pub returns : goal.returns
returns c = λ ws d p ds ss h k b e.
    let rest = shows_pair _ _ _ _ c.args.declared.read c.args.body c.in_ok-rest.rest d (tree.Block p ds ss) k.read b c.in_ok-rest.ensures in
    let parts = shows_pair _ _ _ _ c.args.specified.read c.in_ok-rest.rest c.in_ok-parts.parts ws (d, tree.Block p ds ss) h.read rest c.in_ok-parts.ensures in
    let whole = shows_over _ _ c.args.place c.in_ok-parts.parts c.in_ok-tree.field-0 (ws, (d, tree.Block p ds ss)) parts c.in_ok-tree.ensures in
    let same = ap (λ (q : Place). over q (both (firsts_specifiers ws) (both (firsts_declarator d) (firsts_statement (tree.Block p ds ss))))) e in
    elim c.match-tree.branch [
      | in-Some+in-Some-block_of w ↦ shows_made _ _ view_external firsts_external _ c.match-tree.tree (ws, (d, tree.Block p ds ss)) (tree.Defined ws d p ds ss) _ _ whole same w.in-Some.is w.tree-is (λ x. defined_same (ap (λ (y : _). y.0) x) (ap (λ (y : _). y.1.0) x) (sym (view_block w.in-Some-block_of.block) ∙ ap view_statement (sym (w.block_of.ensures.some _ w.in-Some-block_of.is) ∙ w.into_inner.ensures) ∙ ap (λ (y : _). y.1.1) x))
      | in-Some+in-None-block_of w ↦ absurd (w.block_of.ensures.none p ds ss (ap view_statement w.into_inner.ensures ∙ ap (λ (y : _). y.1.1) (seen_at _ _ _ _ whole.seen w.in-Some.is)) w.in-None-block_of.is)
      | in-None w ↦ shows_absent _ _ view_external firsts_external _ c.match-tree.tree (ws, (d, tree.Block p ds ss)) (tree.Defined ws d p ds ss) whole same w.in-None.is w.tree-is
    ]
