use Rattle.std.proofs.Common.{◌≡◌, ◌∙◌, ◌<◌, length, arith}
use Rattle.std.proofs.lemmas.Bool.Decides.{nat_tests}
use Rattle.dae_guard.proofs.QueueLaws.{free_drains, none_drains_sa, none_drains_sd}
use Rattle.dae_guard.proofs.queues.may_drain.Goals as goal

pub returns-then-is_empty : goal.returns-then-is_empty
returns-then-is_empty c =
    let none : length c.args.sa.now ≡ 0 = grind (arith, nat_tests) in
    none_drains_sa c.args.sa.now c.args.sd.now c.args.ld.now c.args.al.now none

pub returns-then-is_empty-2 : goal.returns-then-is_empty-2
returns-then-is_empty-2 c =
    let none : length c.args.sd.now ≡ 0 = grind (arith, nat_tests) in
    none_drains_sd c.args.sa.now c.args.sd.now c.args.ld.now c.args.al.now none

pub returns : goal.returns
returns c =
    let some : 0 < length c.args.sa.now = grind (arith, nat_tests) in
    let datum : 0 < length c.args.sd.now = grind (arith, nat_tests) in
    c.is_free.ensures ∙ free_drains c.args.sa.now c.args.sd.now c.args.ld.now c.args.al.now _ some datum
