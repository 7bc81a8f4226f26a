use Rattle.std.proofs.Common.{◌≡◌, ◌+◌, ◌-◌, length}
use Rattle.dae_types_plans.specs.Steps.{parameters_from}
use Rattle.dae_types_typed.specs.Sound.{tables_of}
use Rattle.dae_types_sound.proofs.tables.count_from.Given as goal

abbrev pub invariant-loop-count : goal.invariant-loop-count
invariant-loop-count l =
    l.count + length (parameters_from (length l.parts.shapes - l.count) (tables_of l.parts) l.rest) ≡ length (parameters_from (length l.parts.shapes) (tables_of l.parts) l.fn.list)
