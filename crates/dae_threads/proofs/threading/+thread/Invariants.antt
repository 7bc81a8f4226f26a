use Rattle.dae_threads.proofs.Walked.{ThreadedUpTo}
use Rattle.dae_threads.proofs.threading.+thread.Given as goal

abbrev pub invariant-thread_list-loop-statement : goal.invariant-thread_list-loop-statement
invariant-thread_list-loop-statement l = ThreadedUpTo l.statements l.statement-index l.out.items
