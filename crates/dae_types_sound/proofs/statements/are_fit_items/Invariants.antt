use Rattle.std.proofs.Common.{◌≡◌, drop}
use Rattle.std.specs.List.{list_all}
use Rattle.dae_program.specs.Views.{view_settings}
use Rattle.dae_types_sound.specs.Fit.{is_fit_item}
use Rattle.dae_types_sound.proofs.statements.are_fit_items.Given as goal

abbrev pub invariant-loop-item : goal.invariant-loop-item
invariant-loop-item l =
    list_all (is_fit_item l.names l.extent) (view_settings (drop l.item-index l.items)) ≡ list_all (is_fit_item l.names l.extent) (view_settings l.items)
