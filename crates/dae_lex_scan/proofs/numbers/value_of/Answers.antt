use Rattle.std.proofs.Common.{arith}
use Rattle.dae_lex_scan.proofs.Values.{too_much}
use Rattle.dae_lex_scan.proofs.numbers.value_of.Goals as goal

pub returns-then-value-from : goal.returns-then-value-from
returns-then-value-from c =
    let l = c.loop-d in
    let base = c.from.ensures in
    let next = rw (c.from-in-loop-d-2.ensures, c.from-in-loop-d.ensures, c.digit_of.ensures.value, base) at c.if-value-from.true in
    too_much c.args.base l.value c.args.limit c.args.digits.now l.d-index _ c.requires (omega arith) l.invariant.so_far next
