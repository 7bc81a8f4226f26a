use Rattle.std.proofs.lemmas.Result.{on_ok_weaker}
use Rattle.dae_threads.proofs.Walked.{moved_pair, apart_pair}
use Rattle.dae_threads.proofs.threading.push_apart.Goals as goal

pub returns-in-Ok : goal.returns-in-Ok
returns-in-Ok c =
    on_ok_weaker c.push_two.result
    (λ h. moved_pair c.args.out.now.items c.args.statement c.args.next c.in-Ok.first.check c.in-Ok.first.sum c.push_two.new.out.items c.in-Ok.ensures h) c.push_two.ensures

pub returns-in-Err : goal.returns-in-Err
returns-in-Err c =
    on_ok_weaker c.push_two-in-Err.result
    (λ h. apart_pair c.args.out.now.items c.args.statement c.args.next c.push_two-in-Err.new.out.items h) c.push_two-in-Err.ensures
