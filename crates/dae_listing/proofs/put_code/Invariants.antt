use Rattle.std.proofs.Common.{◌≡◌, ◌++◌, take}
use Rattle.std.specs.List.{flat_map}
use Rattle.dae_listing.specs.Canon.{ended, word_text}
use Rattle.dae_listing.proofs.put_code.Given as goal

abbrev pub invariant-loop-word : goal.invariant-loop-word
invariant-loop-word l = l.out.items ≡ l.initial.out.items ++ flat_map (λ w. ended (word_text w)) (take l.word-index l.code)
