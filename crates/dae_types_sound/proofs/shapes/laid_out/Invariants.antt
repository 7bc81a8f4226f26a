use Rattle.std.proofs.Common.{◌≡◌, drop}
use Rattle.std.specs.Prelude.{filter}
use Rattle.dae_types_kinds.specs.Types.{layout}
use Rattle.dae_types_typed.specs.Sound.{is_member_of, laid_out, members_of, tables_of}
use Rattle.dae_types_sound.proofs.shapes.laid_out.Given as goal

abbrev pub invariant-loop-component : goal.invariant-loop-component
invariant-loop-component l =
    laid_out (tables_of l.parts) l.l (filter (is_member_of l.structure) (drop l.component-index l.parts.components)) ≡ laid_out (tables_of l.parts) (layout 0 1) (members_of (tables_of l.parts) l.structure)
