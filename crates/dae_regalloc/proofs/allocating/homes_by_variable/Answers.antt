use Rattle.std.proofs.Common.{◌≤◌, length, arith}
use Rattle.dae_regalloc.proofs.Giving.{whole_table}
use Rattle.dae_regalloc.proofs.allocating.homes_by_variable.Goals as goal

pub returns-clause-homes : goal.returns-clause-homes
returns-clause-homes c =
    let table = c.loop-variable.table.items in
    let full : length c.args.numbers.now ≤ length table =
    (let long = c.loop-variable.invariant.long in let all = c.bound-variable-end.ensures in let end = c.loop-variable-test.false in let last = c.loop-variable.auto.variable-end in omega arith) in
    whole_table table c.args.homes.now c.args.numbers.now full c.loop-variable.invariant.homes
