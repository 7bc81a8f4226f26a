use Rattle.std.proofs.Common.{sym, ◌∙◌}
use Rattle.dae_types_tables.specs.Seen.{tables}
use Rattle.dae_types_fills.specs.Slots.{view_slot}
use Rattle.dae_types_fills.proofs.Descending.{one_lower}
use Rattle.dae_types_fills.proofs.slots.descend.Goals as goal

pub loop-left-preserved : goal.loop-left-preserved
loop-left-preserved c =
    one_lower c.loop-left.left (tables c.args.checker.now) c.args.item.literal c.args.item.structure c.shape_of-shape.result (view_slot c.loop-left.slot) (view_slot c.in_ok-slot.slot) _ c.loop-left-test.true c.shape_of-shape.ensures (sym c.is_for.ensures ∙ c.if-is_for.false) c.in_ok-slot.ensures c.loop-left.invariant
