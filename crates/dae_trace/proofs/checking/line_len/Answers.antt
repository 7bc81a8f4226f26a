-- Up to the first line feed, or all.
use Rattle.std.proofs.Common.{arith}
use Rattle.dae_trace.proofs.Texts.{first_at, first_whole}
use Rattle.dae_trace.proofs.checking.line_len.Goals as goal

pub returns-then-byte-eq10-clause-first : goal.returns-then-byte-eq10-clause-first
returns-then-byte-eq10-clause-first c = first_at c.args.bytes.now c.loop-at.at (omega arith) c.loop-at.invariant c.if-byte-eq10.true

pub returns-clause-first : goal.returns-clause-first
returns-clause-first c = first_whole c.args.bytes.now (omega arith) (λ k lt. c.loop-at.invariant k (omega arith))
