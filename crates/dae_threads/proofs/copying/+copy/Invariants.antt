use Rattle.std.specs.Prelude.{take}
use Rattle.dae_threads.specs.Walked.{AreCopiedBehind}
use Rattle.dae_threads.proofs.copying.+copy.Given as goal

abbrev pub invariant-copy_behind-loop-statement : goal.invariant-copy_behind-loop-statement
invariant-copy_behind-loop-statement l = AreCopiedBehind l.fn.out.items (take l.statement-index l.statements) l.out.items
