use Rattle.std.specs.Prelude.{◌≡◌, drop}
use Rattle.dae_ir.specs.Classes.{classes_in}
use Rattle.dae_commons.specs.Copies.{copy_source}
use Rattle.dae_commons.proofs.copies.copy_source.Given as goal

abbrev pub invariant-loop-equation : goal.invariant-loop-equation
invariant-loop-equation l =
    copy_source (classes_in l.row) (drop l.equation-index l.known) l.variable ≡ copy_source (classes_in l.row) l.known l.variable
