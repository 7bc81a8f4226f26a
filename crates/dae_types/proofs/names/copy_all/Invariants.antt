use Rattle.std.proofs.Common.{◌≡◌, ◌++◌, drop}
use Rattle.dae_types.proofs.names.copy_all.Given as goal

abbrev pub invariant-loop-bytes : goal.invariant-loop-bytes
invariant-loop-bytes l = l.copy ++ drop l.bytes-index l.list ≡ l.list
