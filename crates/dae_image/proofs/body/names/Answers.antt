use Rattle.std.proofs.lemmas.Result.{err_from_is_err_and}
use Rattle.dae_image.specs.Reading.{names_at}
use Rattle.dae_image.proofs.Loops.{name_goes_on, name_ends, names_are_done}
use Rattle.dae_image.proofs.body.names.Goals as goal

pub returns-in_err-name : goal.returns-in_err-name
returns-in_err-name c =
    let p = err_from_is_err_and c.from_residual.result c.from_residual.ensures.1 in
    rw (p.1, p.2) (name_ends c.in_err-name.field-0.0 c.args.whole c.loop.names.items c.args.count c.loop.counter c.loop.rest.now (names_at c.args.whole c.args.count c.args.bytes.now) c.loop-test.true c.in_err-name.ensures c.loop.invariant)

pub loop-preserved : goal.loop-preserved
loop-preserved c =
    rw c.in_ok-push.ensures.items (name_goes_on c.args.whole c.loop.names.items c.args.count c.loop.counter c.loop.rest.now c.in_ok-name.name c.in_ok-name.after.now (names_at c.args.whole c.args.count c.args.bytes.now) c.loop-test.true c.in_ok-name.ensures c.loop.invariant)

pub returns : goal.returns
returns c = rw c.from_vec.ensures (names_are_done c.args.whole c.loop.names.items c.args.count c.loop.counter c.loop.rest.now (names_at c.args.whole c.args.count c.args.bytes.now) c.loop-test.false c.loop.invariant)
