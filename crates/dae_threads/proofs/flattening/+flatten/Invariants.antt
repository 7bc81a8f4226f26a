use Rattle.dae_threads.proofs.Walked.{ThreadedUpTo}
use Rattle.dae_threads.proofs.flattening.+flatten.Given as goal

abbrev pub invariant-flatten_list-loop-statement : goal.invariant-flatten_list-loop-statement
invariant-flatten_list-loop-statement l = ThreadedUpTo l.statements l.statement-index l.out.items
