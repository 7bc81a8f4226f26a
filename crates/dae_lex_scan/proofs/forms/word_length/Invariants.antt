use Rattle.std.proofs.Common.{◌≡◌, ◌+◌, drop}
use Rattle.std.specs.List.{prefix_len}
use Rattle.dae_tree.specs.Forms.{is_word}
use Rattle.dae_lex_scan.proofs.forms.word_length.Given as goal

abbrev pub invariant-loop-i : goal.invariant-loop-i
invariant-loop-i l = l.i + prefix_len is_word (drop l.i l.bytes) ≡ prefix_len is_word l.bytes
