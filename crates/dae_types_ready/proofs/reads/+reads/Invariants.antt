use Rattle.std.proofs.Common.{◌≡◌, drop}
use Rattle.dae_program.specs.Views.{view_expressions}
use Rattle.dae_types_ready.specs.Reads.{reading_all}
use Rattle.dae_types_ready.proofs.reads.+reads.Given as goal

abbrev pub invariant-read_all-loop-e : goal.invariant-read_all-loop-e
invariant-read_all-loop-e l =
    reading_all (view_expressions (drop l.e-index l.xs)) l.set.items ≡ reading_all (view_expressions l.xs) l.fn.set.items
