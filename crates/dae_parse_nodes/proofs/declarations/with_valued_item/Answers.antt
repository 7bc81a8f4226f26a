use Rattle.std.proofs.Common.{Some, refl, ap}
use Rattle.dae_base.proofs.Laws.{ap_two}
use Rattle.dae_tree.specs.Trees as tree
use Rattle.dae_parse_nodes.proofs.Listing.{shows_longer}
use Rattle.dae_parse_nodes.proofs.Making.{valued_item}
use Rattle.dae_parse_parts.proofs.Laws.{shows_absent, shows_made, shows_pair}
use Rattle.dae_parse_nodes.specs.Parts.{firsts_item}
use Rattle.dae_tree.specs.FileViews.{view_item}
use Rattle.dae_parse_nodes.proofs.declarations.with_valued_item.Goals as goal
use Rattle.dae_parse_nodes.proofs.declarations.with_valued_item.Goals.{in-Some, in-None}

pub returns : goal.returns
returns c = λ items d x h k l.
    let target : tree.InitDeclarator = record { declarator = d; initialiser = Some (c.args.place, x) } in
    let pair = shows_pair _ _ _ _ c.args.declared.read c.args.value c.in_ok-tree.field-0 d x k.read l c.in_ok-tree.ensures in
    shows_longer view_item firsts_item c.args.before (record { tree = c.match-tree.tree; depths = c.in_ok-tree.field-0.depths }) items target c.longer.result h
    (elim c.match-tree.branch [
      | in-Some w ↦ shows_made _ _ view_item firsts_item c.in_ok-tree.field-0 c.match-tree.tree (d, x) target _ _ pair refl w.in-Some.is w.tree-is (λ e. ap_two (valued_item c.args.place) (ap (λ (p : _). p.0) e) (ap (λ (p : _). p.1) e))
      | in-None w ↦ shows_absent _ _ view_item firsts_item c.in_ok-tree.field-0 c.match-tree.tree (d, x) target pair refl w.in-None.is w.tree-is
    ])
    c.longer.ensures
