use Rattle.std.proofs.Common.{length}
use Rattle.dae_asm_order.proofs.Walked.{HasSkipped}
use Rattle.dae_asm_order.proofs.lines.Lines.next.Given as goal

abbrev pub invariant-loop-text : goal.invariant-loop-text
invariant-loop-text l = HasSkipped l.self l.text l.line

abbrev pub decreases-loop-text : goal.decreases-loop-text
decreases-loop-text l = length l.text
