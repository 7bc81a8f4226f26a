use Rattle.std.proofs.Common.{◌≡◌, drop}
use Rattle.dae_types.specs.Names.{number_behind}
use Rattle.dae_types.proofs.names.number_among.Given as goal

abbrev pub invariant-loop-other : goal.invariant-loop-other
invariant-loop-other l = number_behind l.number (drop l.other-index l.names) l.name ≡ number_behind 0 l.names l.name
