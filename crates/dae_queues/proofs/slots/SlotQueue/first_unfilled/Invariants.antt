use Rattle.dae_queues.specs.Rings.{AreFilled}
use Rattle.dae_queues.proofs.slots.SlotQueue.first_unfilled.Given as goal

abbrev pub invariant-loop-place : goal.invariant-loop-place
invariant-loop-place l = AreFilled l.place l.self.held.slots
