-- Where a try did no step, a look tells what keeps it.
use Rattle.std.proofs.Common.{sym}
use Rattle.dae_core.proofs.Answers.{answered_done, came_some, came_none, looked}
use Rattle.dae_core.proofs.processor.Core.step.Goals as goal

pub returns-in-Some-clause-answer : goal.returns-in-Some-clause-answer
returns-in-Some-clause-answer g c =
    sym (answered_done g.P.Ports.is_ready g.P.Ports.front g.P.Ports.after c.args.self.now.side c.args.self.now.processor c.args.ports.now _ _
    (came_some c.try_step.result c.in-Some.piece _ c.args.self.now.processor c.try_step.new.self.processor c.args.ports.now c.try_step.new.ports c.in-Some.is c.try_step.ensures.came))

pub returns-in-Some-clause-told : goal.returns-in-Some-clause-told
returns-in-Some-clause-told g c =
    came_some c.try_step.result c.in-Some.piece _ c.args.self.now.processor c.try_step.new.self.processor c.args.ports.now c.try_step.new.ports c.in-Some.is c.try_step.ensures.came

pub returns-in-None-clause-answer : goal.returns-in-None-clause-answer
returns-in-None-clause-answer g c =
    (looked g.P.Ports.is_ready g.P.Ports.front g.P.Ports.after c.args.memory c.args.self.now c.try_step.new.self c.args.ports.now c.try_step.new.ports c.look.result
    (g.P.Ports.nothing_is_ready c.args.ports.now) c.try_step.ensures.held
    (came_none c.try_step.result _ c.args.self.now.processor c.try_step.new.self.processor c.args.ports.now c.try_step.new.ports c.in-None.is c.try_step.ensures.came)
    c.look.ensures).0

pub returns-in-None-clause-told : goal.returns-in-None-clause-told
returns-in-None-clause-told g c =
    (looked g.P.Ports.is_ready g.P.Ports.front g.P.Ports.after c.args.memory c.args.self.now c.try_step.new.self c.args.ports.now c.try_step.new.ports c.look.result
    (g.P.Ports.nothing_is_ready c.args.ports.now) c.try_step.ensures.held
    (came_none c.try_step.result _ c.args.self.now.processor c.try_step.new.self.processor c.args.ports.now c.try_step.new.ports c.in-None.is c.try_step.ensures.came)
    c.look.ensures).1
