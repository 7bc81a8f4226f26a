use Rattle.dae_threads.specs.Forms.{AreThreadedFunctions}
use Rattle.dae_threads.proofs.whole.thread_conditions.Given as goal

abbrev pub invariant-loop-function : goal.invariant-loop-function
invariant-loop-function l = AreThreadedFunctions l.yielded l.functions.items
