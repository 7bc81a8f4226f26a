use Rattle.std.proofs.Common.{◌≡◌, drop}
use Rattle.dae_program.specs.Views.{view_statements, arms_of}
use Rattle.dae_types_ready.specs.Reads.{reading_arms, reading_statements}
use Rattle.dae_types_ready.proofs.ready.+ready.Given as goal

abbrev pub invariant-read_statements-loop-s : goal.invariant-read_statements-loop-s
invariant-read_statements-loop-s l =
    reading_statements (view_statements (drop l.s-index l.statements)) l.set.items ≡ reading_statements (view_statements l.statements) l.fn.set.items

abbrev pub invariant-read_arms-loop-arm : goal.invariant-read_arms-loop-arm
invariant-read_arms-loop-arm l =
    reading_arms (arms_of (drop l.arm-index l.arms)) l.set.items ≡ reading_arms (arms_of l.arms) l.set.items
