use Rattle.std.proofs.Common.{None, refl, ap}
use Rattle.dae_tree.specs.Trees as tree
use Rattle.dae_parse_nodes.proofs.Listing.{shows_longer}
use Rattle.dae_parse_nodes.proofs.Making.{plain_item}
use Rattle.dae_parse_parts.proofs.Laws.{shows_absent, shows_alone, shows_made}
use Rattle.dae_parse_nodes.specs.Parts.{firsts_item}
use Rattle.dae_tree.specs.FileViews.{view_item}
use Rattle.dae_parse_nodes.proofs.declarations.with_plain_item.Goals as goal
use Rattle.dae_parse_nodes.proofs.declarations.with_plain_item.Goals.{in-Some, in-None}

pub returns : goal.returns
returns c = λ items d h k.
    let target : tree.InitDeclarator = record { declarator = d; initialiser = None } in
    shows_longer view_item firsts_item c.args.before (record { tree = c.match-tree.tree; depths = c.args.declared.read.depths }) items target c.longer.result h
    (elim c.match-tree.branch [
      | in-Some w ↦ shows_made _ _ view_item firsts_item c.args.declared.read c.match-tree.tree d target _ _ (shows_alone _ _ _ _ k.read) refl w.in-Some.is w.tree-is (λ e. ap plain_item e)
      | in-None w ↦ shows_absent _ _ view_item firsts_item c.args.declared.read c.match-tree.tree d target (shows_alone _ _ _ _ k.read) refl w.in-None.is w.tree-is
    ])
    c.longer.ensures
