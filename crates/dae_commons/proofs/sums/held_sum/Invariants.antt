use Rattle.std.specs.Prelude.{◌≡◌, drop}
use Rattle.dae_ir.specs.Classes.{classes_in}
use Rattle.dae_commons.specs.Sums.{held_sum}
use Rattle.dae_commons.proofs.sums.held_sum.Given as goal

abbrev pub invariant-loop-equation : goal.invariant-loop-equation
invariant-loop-equation l =
    held_sum (classes_in l.row) (drop l.equation-index l.known) l.variable ≡ held_sum (classes_in l.row) l.known l.variable
