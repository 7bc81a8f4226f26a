use Rattle.std.specs.Prelude.{◌≡◌, drop}
use Rattle.dae_select_walks.specs.Live.{with_all, in_arguments}
use Rattle.dae_select_live.specs.Members.{member}
use Rattle.dae_select_live.proofs.reads.add_arguments.Given as goal

abbrev pub invariant-loop-index : goal.invariant-loop-index
invariant-loop-index l = member l.set ≡ with_all (in_arguments (drop l.index l.arguments)) (member l.fn.set)
