use Rattle.dae_hoist.specs.Planned.{hoisting_of, set_in}
use Rattle.dae_hoist.proofs.Steps.{HoistedUpTo}
use Rattle.dae_hoist.proofs.hoisting.+hoist.Given as goal

abbrev pub invariant-hoist_list-loop-statement : goal.invariant-hoist_list-loop-statement
invariant-hoist_list-loop-statement l =
    HoistedUpTo (hoisting_of l.plan) l.statements l.statement-index (set_in l.fn.before) (set_in l.before) l.out.items
