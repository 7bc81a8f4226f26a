use Rattle.std.proofs.Common.{Some, refl, ap, ◌∙◌}
use Rattle.dae_tree.specs.Views.{view}
use Rattle.dae_tree.specs.Lists as lists
use Rattle.dae_parse_grammar.specs.Frames as frames
use Rattle.dae_parse_nodes.proofs.Listing.{shows_longer}
use Rattle.dae_parse_nodes.proofs.Making.{valued_entry}
use Rattle.dae_parse_parts.proofs.Laws.{shows_absent, shows_made}
use Rattle.dae_parse_nodes.specs.Parts.{firsts_entry, view_entry}
use Rattle.dae_parse_nodes.proofs.specifiers.with_valued_enumerator.Goals as goal
use Rattle.dae_parse_nodes.proofs.specifiers.with_valued_enumerator.Goals.{in-Some, in-None}

pub returns : goal.returns
returns c = λ es a h k.
    let target : lists.EnumEntry = record { name = c.args.name; value = Some (c.args.place, a) } in
    shows_longer view_entry firsts_entry c.args.before (record { tree = c.match-tree.tree; depths = c.args.value.read.depths }) es target c.longer.result h
    (elim c.match-tree.branch [
      | in-Some w ↦ shows_made _ _ view_entry firsts_entry c.args.value.read c.match-tree.tree a target _ _ k.read refl w.in-Some.is w.tree-is (λ e. ap (valued_entry c.args.name c.args.place) (ap view w.into_inner.ensures ∙ e))
      | in-None w ↦ shows_absent _ _ view_entry firsts_entry c.args.value.read c.match-tree.tree a target k.read refl w.in-None.is w.tree-is
    ])
    c.longer.ensures
