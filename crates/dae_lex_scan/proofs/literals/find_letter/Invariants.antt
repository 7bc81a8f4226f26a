use Rattle.std.proofs.Common.{◌≡◌, drop}
use Rattle.dae_tree.specs.Literals.{letter_in}
use Rattle.dae_lex_scan.proofs.literals.find_letter.Given as goal

abbrev pub invariant-loop-letter : goal.invariant-loop-letter
invariant-loop-letter l = letter_in (drop l.letter-index l.rows) l.b ≡ letter_in l.rows l.b
