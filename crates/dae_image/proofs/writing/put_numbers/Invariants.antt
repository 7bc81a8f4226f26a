use Rattle.std.proofs.Common.{◌≡◌, ◌++◌, take}
use Rattle.dae_image.specs.Spelling.{numbers}
use Rattle.dae_image.proofs.writing.put_numbers.Given as goal

abbrev pub invariant-loop-word : goal.invariant-loop-word
invariant-loop-word l = l.out.items ≡ l.initial.out.items ++ numbers (take l.word-index l.words)
