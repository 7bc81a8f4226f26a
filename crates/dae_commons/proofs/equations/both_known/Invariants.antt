use Rattle.std.specs.Prelude.{◌≡◌, ◌++◌, drop}
use Rattle.dae_commons.specs.Equations.{both_known}
use Rattle.dae_commons.proofs.equations.both_known.Given as goal

abbrev pub invariant-loop-equation : goal.invariant-loop-equation
invariant-loop-equation l = l.kept.items ++ both_known (drop l.equation-index l.one) l.other ≡ both_known l.one l.other
