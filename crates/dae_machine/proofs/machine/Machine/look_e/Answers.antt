use Rattle.std.proofs.Common.{rules, ◌∙◌}
use Rattle.dae_machine.proofs.Steps.{e_look}
use Rattle.dae_machine.proofs.machine.Machine.look_e.Goals as goal

pub returns : goal.returns
returns c =
    c.look.ensures
    ∙ e_look c.self.inside.a c.self.inside.e c.self.inside.queues c.self.inside.memory.items c.self.inside.taken c.self.invariant c.args.self.now c.self.view_is c.len-memory.result (search rules)
