use Rattle.std.proofs.Common.{◌≡◌, drop, map, ◌++◌}
use Rattle.dae_core.specs.Codes.{legal_word}
use Rattle.dae_core.proofs.code.legal_words.Given as goal

abbrev pub invariant-loop-word : goal.invariant-loop-word
invariant-loop-word l = l.all.items ++ map (legal_word l.copies l.side) (drop l.word-index l.words) ≡ map (legal_word l.copies l.side) l.words
