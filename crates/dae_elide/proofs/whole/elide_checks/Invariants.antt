use Rattle.dae_elide.specs.Forms.{AreElidedFunctions}
use Rattle.dae_elide.proofs.whole.elide_checks.Given as goal

abbrev pub invariant-loop-function : goal.invariant-loop-function
invariant-loop-function l = AreElidedFunctions l.ir.memory l.yielded l.functions.items
