use Rattle.dae_regalloc.proofs.PlaceCounts.{CountedFrom}
use Rattle.dae_regalloc.proofs.counting.+counting.Given as goal

abbrev pub invariant-places_in_list-loop-index : goal.invariant-places_in_list-loop-index
invariant-places_in_list-loop-index l = CountedFrom l.steps l.index l.places
