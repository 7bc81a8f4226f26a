-- The core's try tells whether E has a step, and what came of it.
use Rattle.std.proofs.Common.{◌≡◌, rules, ◌+◌, ap, ◌∙◌}
use Rattle.std.specs.Prelude.{is_some}
use Rattle.dae_machine.specs.declared.Pick.TheVariants.{E}
use Rattle.dae_machine.proofs.Steps.{Moved, answer_of, done_by, e_stay, e_step, told_by}
use Rattle.dae_machine.proofs.machine.Machine.try_e.Goals as goal

moved : (c : goal.After-self-1) → Moved c.args.self.now E c.in-Some.piece c.self.inside.a c.try_step.new.self c.try_step.new.ports c.self.inside.memory.items (c.self.inside.taken + 1)
moved c =
    e_step c.self.inside.a c.self.inside.e c.self.inside.queues c.self.inside.memory.items c.self.inside.taken c.self.invariant c.args.self.now c.self.view_is
    c.len-memory.result (answer_of c.try_step.result) c.in-Some.piece c.try_step.new.self c.try_step.new.ports
    (search rules)
    c.try_step.ensures.held
    (told_by c.len-memory.result c.self.inside.e c.try_step.new.self c.self.inside.queues c.try_step.new.ports c.try_step.result c.try_step.ensures.came)
    (ap answer_of c.in-Some.is)

pub invariant_of-self : goal.invariant_of-self
invariant_of-self c = (moved c).sound

pub returns-in-Some : goal.returns-in-Some
returns-in-Some c = record { done = record { setup = (moved c).setup; state = (moved c).state }; none = λ h. cc }

pub returns-in-None : goal.returns-in-None
returns-in-None c = record {
  done = tt;
  none = λ _.
      e_stay c.self.inside.a c.self.inside.e c.self.inside.queues c.self.inside.memory.items c.self.inside.taken c.self.invariant c.args.self.now c.self.view_is
      c.len-memory.result (answer_of c.try_step.result) c.try_step.new.self c.try_step.new.ports
      (search rules)
      c.try_step.ensures.held
      (told_by c.len-memory.result c.self.inside.e c.try_step.new.self c.self.inside.queues c.try_step.new.ports c.try_step.result c.try_step.ensures.came)
      (done_by c.try_step.result ∙ ap is_some c.in-None.is);
}
