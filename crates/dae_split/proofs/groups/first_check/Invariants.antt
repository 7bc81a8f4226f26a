use Rattle.std.specs.Prelude.{◌≡◌, ℕ, drop}
use Rattle.dae_ir.specs.Streams.{Actions, message}
use Rattle.dae_ir.specs.declared.stream.Action.{Action}
use Rattle.dae_split.proofs.groups.first_check.Given as goal

abbrev pub invariant-loop-part : goal.invariant-loop-part
invariant-loop-part l = (number : ℕ) (x : Action) (k : Actions) → message number x (drop l.part-index l.group) k ≡ message number x l.group k
