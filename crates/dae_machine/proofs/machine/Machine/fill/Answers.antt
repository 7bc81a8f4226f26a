use Rattle.std.proofs.Common.{◌+◌, subst, sym}
use Rattle.dae_core.specs.Held.{HeldQueues}
use Rattle.dae_machine.specs.Held.{IsSound}
use Rattle.dae_machine.proofs.Steps.{fill_sound}
use Rattle.dae_machine.proofs.machine.Machine.fill.Goals as goal

pub invariant_of-self : goal.invariant_of-self
invariant_of-self c =
    subst (λ (q : HeldQueues). IsSound c.self.inside.a c.self.inside.e q c.self.inside.memory.items (c.self.inside.taken + 1)) (sym c.fill.ensures)
    (fill_sound c.self.inside.a c.self.inside.e c.self.inside.queues c.self.inside.memory.items c.self.inside.taken c.args.side c.args.number c.in-Some.word c.self.invariant)
