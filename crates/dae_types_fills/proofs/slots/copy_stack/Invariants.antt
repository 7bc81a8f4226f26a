use Rattle.std.proofs.Common.{◌≡◌, ◌++◌, drop}
use Rattle.dae_types_fills.proofs.slots.copy_stack.Given as goal

abbrev pub invariant-loop-part : goal.invariant-loop-part
invariant-loop-part l = l.stack.items ++ drop l.part-index l.rest ≡ l.fn.rest
