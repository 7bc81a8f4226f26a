use Rattle.dae_threads.specs.declared.checking.ByteChecked.{ByteChecked}
use Rattle.dae_threads.specs.declared.checking.SumGiven.{SumGiven}
use Rattle.dae_threads.proofs.Walked.{sum_moved}
use Rattle.dae_threads.proofs.checking.check_of_sum.Goals as goal

pub returns : goal.returns
returns c =
    let sum : SumGiven = c.in_ok-sum.sum in
    let byte : ByteChecked = c.in_ok-byte.byte in
    let near = c.in_ok-expect_sum.ensures in
    sum_moved c.args.statement.now c.args.next.now sum.place byte.place sum.target byte.variable sum.variable sum.offset
    c.in_ok-sum.ensures c.in_ok-byte.ensures near.0 near.1
