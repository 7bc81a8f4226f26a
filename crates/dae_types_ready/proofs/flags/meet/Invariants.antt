use Rattle.std.proofs.Common.{◌≡◌, ◌++◌, drop}
use Rattle.dae_types_ready.specs.Reads.{meet}
use Rattle.dae_types_ready.proofs.flags.meet.Given as goal

abbrev pub invariant-loop-index : goal.invariant-loop-index
invariant-loop-index l = l.both.items ++ meet (drop l.index l.one) (drop l.index l.other) ≡ meet l.one l.other
