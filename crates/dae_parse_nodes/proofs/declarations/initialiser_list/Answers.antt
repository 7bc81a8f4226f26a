use Rattle.std.proofs.Common.{refl, ap, ◌∙◌}
use Rattle.dae_tree.specs.Trees as tree
use Rattle.dae_parse_grammar.specs.Machine.{initialisers_onto}
use Rattle.dae_tree.specs.Views.{has_comma}
use Rattle.dae_tree.specs.FileViews.{view_initialiser}
use Rattle.dae_parse_grammar.specs.FirstPlaces.{firsts_initialiser}
use Rattle.dae_parse_nodes.proofs.Listing.{shows_initialisers}
use Rattle.dae_tree.proofs.Laws.{view_initialiser_list}
use Rattle.dae_parse_parts.proofs.Laws.{shows_over, shows_made, shows_absent}
use Rattle.dae_parse_nodes.proofs.declarations.initialiser_list.Goals as goal
use Rattle.dae_parse_nodes.proofs.declarations.initialiser_list.Goals.{in-Some, in-None}

pub returns : goal.returns
returns c = λ xs h.
    let whole = shows_over _ _ c.args.place c.args.list c.in_ok-tree.field-0 (initialisers_onto xs tree.no_initialisers) (shows_initialisers c.args.list xs h) c.in_ok-tree.ensures in
    elim c.match-tree.branch [
      | in-Some w ↦ shows_made _ _ view_initialiser firsts_initialiser _ c.match-tree.tree (initialisers_onto xs tree.no_initialisers) (tree.Listed c.args.place (initialisers_onto xs tree.no_initialisers) (has_comma c.args.comma)) _ _ whole (refl) w.in-Some.is w.tree-is (λ e. view_initialiser_list c.args.place w.in-Some.list c.args.comma ∙ ap (λ x. tree.Listed c.args.place x (has_comma c.args.comma)) e)
      | in-None w ↦ shows_absent _ _ view_initialiser firsts_initialiser _ c.match-tree.tree (initialisers_onto xs tree.no_initialisers) (tree.Listed c.args.place (initialisers_onto xs tree.no_initialisers) (has_comma c.args.comma)) whole (refl) w.in-None.is w.tree-is
    ]
