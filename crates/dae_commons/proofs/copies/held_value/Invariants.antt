use Rattle.std.specs.Prelude.{◌≡◌, drop}
use Rattle.dae_ir.specs.Classes.{classes_in}
use Rattle.dae_commons.specs.Copies.{held_value}
use Rattle.dae_commons.proofs.copies.held_value.Given as goal

abbrev pub invariant-loop-equation : goal.invariant-loop-equation
invariant-loop-equation l =
    held_value (classes_in l.row) (drop l.equation-index l.known) l.variable l.value ≡ held_value (classes_in l.row) l.known l.variable l.value
