use Rattle.dae_webs.specs.Forms.{AreRenamedFunctions}
use Rattle.dae_webs.proofs.whole.rename_webs.Given as goal

abbrev pub invariant-loop-function : goal.invariant-loop-function
invariant-loop-function l = AreRenamedFunctions l.yielded l.functions.items
