use Rattle.std.proofs.Common.{None}
use Rattle.std.proofs.lemmas.Result.{err_from_is_err_and}
use Rattle.dae_image.specs.Reading.{lines_at}
use Rattle.dae_image.proofs.Loops.{line_goes_on, line_ends, lines_are_done}
use Rattle.dae_image.proofs.body.lines.Goals as goal

pub returns-in_err-mark : goal.returns-in_err-mark
returns-in_err-mark c =
    let p = err_from_is_err_and c.from_residual.result c.from_residual.ensures.1 in
    rw (p.1, p.2) (line_ends c.in_err-mark.field-0.0 c.args.whole c.args.header.now c.loop.last c.loop.lines.items c.args.header.now.lines c.loop.counter c.loop.rest.now (lines_at c.args.whole c.args.header.now None c.args.header.now.lines c.args.bytes.now) c.loop-test.true c.in_err-mark.ensures c.loop.invariant)

pub loop-preserved : goal.loop-preserved
loop-preserved c =
    let m = c.in_ok-mark.mark in
    rw c.in_ok-push.ensures.items (line_goes_on c.args.whole c.args.header.now c.loop.last c.loop.lines.items c.args.header.now.lines c.loop.counter c.loop.rest.now m c.in_ok-mark.after.now (lines_at c.args.whole c.args.header.now None c.args.header.now.lines c.args.bytes.now) c.loop-test.true c.in_ok-mark.ensures c.loop.invariant)

pub returns : goal.returns
returns c = rw c.from_vec.ensures (lines_are_done c.args.whole c.args.header.now c.loop.last c.loop.lines.items c.args.header.now.lines c.loop.counter c.loop.rest.now (lines_at c.args.whole c.args.header.now None c.args.header.now.lines c.args.bytes.now) c.loop-test.false c.loop.invariant)
