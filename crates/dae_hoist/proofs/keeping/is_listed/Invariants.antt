use Rattle.std.specs.Prelude.{◌≡◌, drop}
use Rattle.dae_hoist.specs.Kept.{is_listed}
use Rattle.dae_hoist.proofs.keeping.is_listed.Given as goal

abbrev pub invariant-loop-other : goal.invariant-loop-other
invariant-loop-other l = is_listed (drop l.other-index l.variables) l.variable ≡ is_listed l.variables l.variable
