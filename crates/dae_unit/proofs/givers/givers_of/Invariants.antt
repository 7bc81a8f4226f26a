use Rattle.std.proofs.Common.{drop}
use Rattle.dae_unit.specs.Identities.{AreGivers}
use Rattle.dae_unit.proofs.givers.givers_of.Given as goal

abbrev pub invariant-loop-number : goal.invariant-loop-number
invariant-loop-number l = AreGivers l.files (drop l.number l.rows) l.givers.keys
