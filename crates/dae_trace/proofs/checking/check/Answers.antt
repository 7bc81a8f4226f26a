-- What follows of the opened machine.
use Rattle.dae_trace.proofs.Following.{checks_is}
use Rattle.dae_trace.proofs.checking.check.Goals as goal

pub returns-in-Ok : goal.returns-in-Ok
returns-in-Ok c =
    checks_is c.follow.result c.args.image.now c.args.depths c.in-Ok.machine.setup c.in-Ok.machine.state c.args.trace.now
    c.in-Ok.ensures.reaches c.in-Ok.ensures.setup c.in-Ok.ensures.state c.follow.ensures
