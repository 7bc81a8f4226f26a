use Rattle.std.proofs.Common.{◌≡◌, ◌++◌, map, take, drop}
use Rattle.dae_guard.specs.Kept.{aged}
use Rattle.dae_guard.proofs.slots.age.Given as goal

abbrev pub invariant-loop-slot : goal.invariant-loop-slot
invariant-loop-slot l = l.slots ≡ map aged (take l.slot-index l.initial.slots) ++ drop l.slot-index l.initial.slots
