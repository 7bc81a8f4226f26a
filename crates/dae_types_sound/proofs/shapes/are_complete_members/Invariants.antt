use Rattle.std.proofs.Common.{◌≡◌, drop}
use Rattle.std.specs.List.{list_all}
use Rattle.dae_types_typed.specs.Sound.{has_complete_type, tables_of}
use Rattle.dae_types_sound.proofs.shapes.are_complete_members.Given as goal

abbrev pub invariant-loop-component : goal.invariant-loop-component
invariant-loop-component l =
    list_all (has_complete_type (tables_of l.parts)) (drop l.component-index l.parts.components) ≡ list_all (has_complete_type (tables_of l.parts)) l.parts.components
