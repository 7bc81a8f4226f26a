use Rattle.std.proofs.Common.{rules, ◌∙◌}
use Rattle.dae_machine.proofs.Steps.{a_look}
use Rattle.dae_machine.proofs.machine.Machine.look_a.Goals as goal

pub returns : goal.returns
returns c =
    c.look.ensures
    ∙ a_look c.self.inside.a c.self.inside.e c.self.inside.queues c.self.inside.memory.items c.self.inside.taken c.self.invariant c.args.self.now c.self.view_is c.len-memory.result (search rules)
