use Rattle.std.specs.Prelude.{[], take}
use Rattle.dae_threads.specs.Walked.{AreCopiedBehind}
use Rattle.dae_threads.proofs.copying.copy_first.Given as goal

abbrev pub invariant-loop-index : goal.invariant-loop-index
invariant-loop-index l = AreCopiedBehind [] (take l.index l.statements) l.new.items
