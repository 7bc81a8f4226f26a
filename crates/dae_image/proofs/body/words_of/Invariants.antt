use Rattle.std.proofs.Common.{◌≡◌, ◌++◌, length}
use Rattle.dae_image.specs.Reading.{words_of}
use Rattle.dae_image.proofs.body.words_of.Given as goal

abbrev pub invariant-loop-rest : goal.invariant-loop-rest
invariant-loop-rest l = l.words.items ++ words_of l.rest ≡ words_of l.bytes

abbrev pub decreases-loop-rest : goal.decreases-loop-rest
decreases-loop-rest l = length l.rest
