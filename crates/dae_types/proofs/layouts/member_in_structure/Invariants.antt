use Rattle.std.proofs.Common.{◌≡◌, drop}
use Rattle.std.specs.Prelude.{filter}
use Rattle.dae_types_kinds.specs.Types.{layout}
use Rattle.dae_types_typed.specs.Sound.{is_member_of, members_of, tables_of}
use Rattle.dae_types.specs.Layouts.{member_behind}
use Rattle.dae_types.proofs.layouts.member_in_structure.Given as goal

abbrev pub invariant-loop-component : goal.invariant-loop-component
invariant-loop-component l =
    member_behind (tables_of l.parts) l.before (filter (is_member_of l.structure) (drop l.component-index l.parts.components)) l.name ≡ member_behind (tables_of l.parts) (layout 0 1) (members_of (tables_of l.parts) l.structure) l.name
