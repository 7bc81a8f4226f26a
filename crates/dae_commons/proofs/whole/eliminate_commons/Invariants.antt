use Rattle.dae_commons.specs.Forms.{AreCommonedFunctions}
use Rattle.dae_commons.proofs.whole.eliminate_commons.Given as goal

abbrev pub invariant-loop-function : goal.invariant-loop-function
invariant-loop-function l = AreCommonedFunctions l.tables l.yielded l.functions
