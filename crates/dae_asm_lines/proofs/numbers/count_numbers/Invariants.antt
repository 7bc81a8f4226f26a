use Rattle.std.proofs.Common.{◌≡◌, ◌≤◌, length}
use Rattle.dae_asm_lines.specs.Tokens.{tokens_of}
use Rattle.dae_asm_lines.specs.Reading.{all_numbers}
use Rattle.dae_asm_lines.proofs.Counted.{counted, clipped}
use Rattle.dae_asm_lines.proofs.numbers.count_numbers.Given as goal

abbrev pub invariant-loop-after : goal.invariant-loop-after
invariant-loop-after l = record {
  few : l.count ≤ 17;
  same : counted l.count (all_numbers (tokens_of l.rest)) ≡ clipped (all_numbers (tokens_of l.line));
}

abbrev pub decreases-loop-after : goal.decreases-loop-after
decreases-loop-after l = length (tokens_of l.rest)
