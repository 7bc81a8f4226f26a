use Rattle.std.proofs.Common.{◌≡◌, ◌+◌, ◌-◌, ◌≤◌, length}
use Rattle.std.specs.List.{prefix_len}
use Rattle.dae_asm_order.specs.Walking.{is_inner}
use Rattle.dae_asm_order.proofs.lines.line_length.Given as goal

abbrev pub invariant-loop-rest : goal.invariant-loop-rest
invariant-loop-rest l = record {
  within : length l.rest ≤ length l.text;
  counted : (length l.text - length l.rest) + prefix_len is_inner l.rest ≡ prefix_len is_inner l.text;
}

abbrev pub decreases-loop-rest : goal.decreases-loop-rest
decreases-loop-rest l = length l.rest
