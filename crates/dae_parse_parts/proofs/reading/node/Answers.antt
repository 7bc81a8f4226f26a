use Rattle.dae_parse_grammar.specs.FirstPlaces.{over}
use Rattle.dae_parse_parts.proofs.Holding.{holds_some, holds_none}
use Rattle.dae_parse_parts.proofs.Laws.{made_kept, made_absent}
use Rattle.dae_parse_parts.proofs.reading.node.Goals as goal
use Rattle.dae_parse_parts.proofs.reading.node.Goals.{in-Some+in_ok-new-in-Some, in-None}

pub returns : goal.returns
returns g c = λ f h.
    let whole = c.in_ok-tree.ensures f h in
    elim c.match-tree.branch [
      | in-Some+in_ok-new-in-Some w ↦ (holds_some c.in_ok-tree.field-0 (over c.args.place f) c.match-tree.tree w.in-Some.part _ whole.0 w.in-Some.is w.tree-is, made_kept _ c.args.part.tree c.in_ok-tree.field-0.tree c.match-tree.tree w.in-Some.part _ _ whole.1 w.in-Some.is w.tree-is w.in_ok-new-in-Some.ensures.ok w.make.ensures)
      | in-None w ↦ (holds_none c.in_ok-tree.field-0 (over c.args.place f) c.match-tree.tree whole.0 w.in-None.is w.tree-is, made_absent _ c.args.part.tree c.match-tree.tree w.tree-is)
    ]
