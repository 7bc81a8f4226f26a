use Rattle.std.proofs.Common.{◌≡◌, drop}
use Rattle.dae_program.specs.Views.{view_settings}
use Rattle.dae_types_ready.specs.Reads.{reading_items}
use Rattle.dae_types_ready.proofs.reads.read_items.Given as goal

abbrev pub invariant-loop-item : goal.invariant-loop-item
invariant-loop-item l =
    reading_items (view_settings (drop l.item-index l.items)) l.set.items ≡ reading_items (view_settings l.items) l.fn.set.items
