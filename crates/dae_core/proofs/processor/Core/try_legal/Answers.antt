-- An instruction that only computes makes no access, and no access is always ready.
use Rattle.dae_core.proofs.Answers.{plain_granted}
use Rattle.dae_core.proofs.processor.Core.try_legal.Goals as goal

pub returns-in-Nothing-Computes-clause-came : goal.returns-in-Nothing-Computes-clause-came
returns-in-Nothing-Computes-clause-came g c =
    rw c.empty.ensures (plain_granted g.P.Ports.is_ready g.P.Ports.front g.P.Ports.after c.args.self.now.side c.args.self.now.processor c.args.ports.now
    c.args.memory c.args.legal.now c.in-Nothing-Computes.rd c.in-Nothing-Computes.x c.in-Nothing-Computes.y c.compute.new.self.processor
    (g.P.Ports.nothing_is_ready c.args.ports.now) (g.P.Ports.nothing_changes c.args.ports.now)
    c.in-Nothing-Computes.is-0 c.in-Nothing-Computes.is-1 c.requires.form c.compute.ensures.came)
