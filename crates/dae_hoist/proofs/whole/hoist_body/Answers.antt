use Rattle.dae_hoist.specs.Planned.{hoisting_of, set_in}
use Rattle.dae_hoist.proofs.Steps.{same_list}
use Rattle.dae_hoist.proofs.Wholes.{body_hoisted}
use Rattle.dae_hoist.proofs.whole.hoist_body.Goals as goal

pub returns : goal.returns
returns c =
    let f = c.args.function.now in
    let plan = c.in_ok-plan.plan in
    body_hoisted f plan c.in_ok-statements.statements.items c.from_vec.result c.args.row.now c.from_vec-2.result c.new-variables.result.items (set_in c.hoist_list.new.before)
    c.in_ok-plan.ensures.parameters c.in_ok-plan.ensures.variables c.in_ok-plan.ensures.row c.in_ok-keep_parameters.ensures c.new-variables.ensures.items
    (same_list (hoisting_of plan) _ f.body c.new-variables.result.items (set_in c.hoist_list.new.before) c.in_ok-statements.statements.items c.in_ok-statements.ensures c.as_slice.ensures)
    c.from_vec.ensures c.from_vec-2.ensures
