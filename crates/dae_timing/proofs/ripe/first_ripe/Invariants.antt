use Rattle.std.proofs.Common.{◌≡◌, drop}
use Rattle.dae_machine.specs.Memory.{loads_of}
use Rattle.dae_timing.specs.Ticks.{first_ripe}
use Rattle.dae_timing.proofs.ripe.first_ripe.Given as goal

-- what is ripe among the slots that are left is what is ripe among all
abbrev pub invariant-loop-at : goal.invariant-loop-at
invariant-loop-at l =
    let slots = loads_of l.side l.machine.state.queues in
    first_ripe l.machine.setup l.machine.state l.side l.load l.now (drop l.at slots.slots) (drop l.at l.issues.held)
    ≡ first_ripe l.machine.setup l.machine.state l.side l.load l.now slots.slots l.issues.held
