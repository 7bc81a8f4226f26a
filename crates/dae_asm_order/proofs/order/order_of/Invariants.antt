use Rattle.std.proofs.Common.{◌+◌, ◌≤◌, length}
use Rattle.dae_asm_order.proofs.Walked.{IsAt}
use Rattle.dae_asm_order.proofs.order.order_of.Given as goal

abbrev pub invariant-loop-item : goal.invariant-loop-item
invariant-loop-item l = record {
  walked : IsAt l.text l.lines l.place;
  fits : l.lines.before + length l.lines.text.now ≤ 134217728;
}

abbrev pub decreases-loop-item : goal.decreases-loop-item
decreases-loop-item l = length l.lines.text.now
