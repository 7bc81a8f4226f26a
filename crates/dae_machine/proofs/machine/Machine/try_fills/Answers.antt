-- Where no load waits no fill is chosen.
use Rattle.std.proofs.Common.{◌≡◌, ◌++◌, None, refl, subst}
use Rattle.dae_base.specs.declared.Side.TheVariants.{A, E}
use Rattle.dae_machine.specs.Held.{HeldMachine, seen}
use Rattle.dae_machine.specs.Turns.{chosen, fills_of}
use Rattle.dae_machine.proofs.Turns.{chosen_of_none}
use Rattle.dae_machine.proofs.machine.Machine.try_fills.Goals as goal

pub returns-else-has_waiting : goal.returns-else-has_waiting
returns-else-has_waiting c =
    let none = chosen_of_none c.args.choice (seen c.self.inside.a c.self.inside.e c.self.inside.queues c.self.inside.memory.items c.self.inside.taken).state (c.has_waiting.ensures.none A c.if-has_waiting.false) (c.has_waiting.ensures.none E c.if-has_waiting.false) in (
      subst (λ (m : HeldMachine). chosen c.args.choice (fills_of A m.state ++ fills_of E m.state) ≡ None) c.self.view_is none,
      refl,
    )
