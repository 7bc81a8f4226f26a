use Rattle.std.proofs.Common.{◌≡◌, drop, max}
use Rattle.dae_split_pair.specs.Tallies.{most_of_all}
use Rattle.dae_split_pair.proofs.tally.most_of_all.Given as goal

abbrev pub invariant-loop-function : goal.invariant-loop-function
invariant-loop-function l = max l.largest (most_of_all l.kind (drop l.function-index l.functions)) ≡ most_of_all l.kind l.functions
