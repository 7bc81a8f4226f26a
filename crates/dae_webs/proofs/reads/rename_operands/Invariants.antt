use Rattle.dae_webs.proofs.Arguments.{OperandsTo}
use Rattle.dae_webs.proofs.reads.rename_operands.Given as goal

abbrev pub invariant-loop-x : goal.invariant-loop-x
invariant-loop-x l = OperandsTo l.webs l.xs l.x-index l.ys.items
