use Rattle.std.proofs.Common.{◌+◌, drop}
use Rattle.dae_ir.specs.Classes.{ArgumentsKept}
use Rattle.dae_slice.proofs.Arguments.{Reaches}
use Rattle.dae_slice.proofs.items.link_arguments.Given as goal

abbrev pub invariant-loop-index : goal.invariant-loop-index
invariant-loop-index l =
    Reaches (λ c. ArgumentsKept (c l.callee) (c l.function) 1 l.arguments) (λ c. ArgumentsKept (c l.callee) (c l.function) (l.index + 1) (drop l.index l.arguments)) l.initial.graph l.graph
