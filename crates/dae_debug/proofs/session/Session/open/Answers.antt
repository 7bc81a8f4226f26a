-- The machine and the breakpoints are those of an opened session.
use Rattle.dae_debug.proofs.Held.{opened_so}
use Rattle.dae_debug.proofs.session.Session.open.Goals as goal

pub returns-in-Ok-clause-session : goal.returns-in-Ok-clause-session
returns-in-Ok-clause-session c = opened_so c.args.image c.args.depths c.in_ok-machine.machine c.in-Ok.breaks c.in_ok-machine.ensures.setup c.in_ok-machine.ensures.state c.in-Ok.ensures
