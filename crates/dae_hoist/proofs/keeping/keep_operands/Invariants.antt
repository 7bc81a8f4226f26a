use Rattle.std.specs.Prelude.{take}
use Rattle.dae_ir.specs.SetFirst.{AllRead}
use Rattle.dae_hoist.specs.Kept.{is_kept}
use Rattle.dae_hoist.specs.Planned.{hoisting_of}
use Rattle.dae_hoist.proofs.keeping.keep_operands.Given as goal

abbrev pub invariant-loop-x : goal.invariant-loop-x
invariant-loop-x l = AllRead (is_kept (hoisting_of l.plan)) (take l.x-index l.xs)
