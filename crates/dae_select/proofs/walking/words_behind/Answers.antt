use Rattle.std.proofs.Common.{length, true, ap, arith}
use Rattle.dae_select_values.specs.Tables.{home_by}
use Rattle.dae_select_blocks.proofs.LawsOfBlocks.{back_branch_short}
use Rattle.dae_select.proofs.walking.words_behind.Goals as goal

pub returns-in_ok-block-in-Some-clause-few : goal.returns-in_ok-block-in-Some-clause-few
returns-in_ok-block-in-Some-clause-few c =
    let l = back_branch_short (home_by c.args.making.now.homes) c.in-Some.test.branch true 0 in
    let e = c.len.ensures in let long = ap length c.in_ok-block-in-Some.ensures in omega arith
