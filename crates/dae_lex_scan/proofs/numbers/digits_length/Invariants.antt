use Rattle.std.proofs.Common.{◌≡◌, ◌+◌, drop}
use Rattle.std.specs.List.{prefix_len}
use Rattle.dae_tree.specs.Constants.{is_digit_in}
use Rattle.dae_lex_scan.proofs.numbers.digits_length.Given as goal

abbrev pub invariant-loop-i : goal.invariant-loop-i
invariant-loop-i l = l.i + prefix_len (is_digit_in l.base) (drop l.i l.bytes) ≡ prefix_len (is_digit_in l.base) l.bytes
