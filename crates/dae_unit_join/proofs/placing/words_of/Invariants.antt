use Rattle.std.proofs.Common.{◌≡◌, take}
use Rattle.dae_unit_join.proofs.placing.words_of.Given as goal

abbrev pub invariant-loop-place : goal.invariant-loop-place
invariant-loop-place l =
    l.words.items ≡ take l.place-index l.places
