use Rattle.dae_hoist.specs.Forms.{AreHoistedFunctions}
use Rattle.dae_hoist.proofs.whole.hoist_invariants.Given as goal

abbrev pub invariant-loop-function : goal.invariant-loop-function
invariant-loop-function l = AreHoistedFunctions l.tables l.rows l.yielded l.functions
