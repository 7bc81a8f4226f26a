use Rattle.std.proofs.Common.{◌≡◌, length, arith}
use Rattle.std.proofs.lemmas.Bool.Decides.{nat_tests}
use Rattle.dae_threads.proofs.Tried.{spread_empty}
use Rattle.dae_threads.proofs.deciding.empty_cost.Goals as goal

pub returns-then-is_empty : goal.returns-then-is_empty
returns-then-is_empty c =
    let empty = c.is_empty.ensures in
    let is = c.if-is_empty.true in
    let none : length c.args.statements.now ≡ 0 = grind (arith, nat_tests) in
    spread_empty c.args.count c.args.statements.now none
