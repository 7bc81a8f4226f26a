use Rattle.std.specs.Prelude.{◌≡◌, ◌++◌, drop}
use Rattle.dae_ir.specs.Classes.{classes_in}
use Rattle.dae_commons.specs.Copies.{propagated_operands}
use Rattle.dae_commons.proofs.copies.propagate_operands.Given as goal

abbrev pub invariant-loop-x : goal.invariant-loop-x
invariant-loop-x l =
    l.ys.items ++ propagated_operands (classes_in l.row) l.known (drop l.x-index l.xs) ≡ propagated_operands (classes_in l.row) l.known l.xs
