use Rattle.std.proofs.Common.{◌≡◌, ◌+◌, ◌-◌, ◌≤◌, length}
use Rattle.std.specs.List.{prefix_len}
use Rattle.dae_asm_lines.specs.Scanning.{is_word_byte}
use Rattle.dae_asm_lines.proofs.tokens.word_length.Given as goal

abbrev pub invariant-loop-rest : goal.invariant-loop-rest
invariant-loop-rest l = record {
  within : length l.rest ≤ length l.line;
  counted : (length l.line - length l.rest) + prefix_len is_word_byte l.rest ≡ prefix_len is_word_byte l.line;
}

abbrev pub decreases-loop-rest : goal.decreases-loop-rest
decreases-loop-rest l = length l.rest
