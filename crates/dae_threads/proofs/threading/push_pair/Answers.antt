use Rattle.std.proofs.lemmas.Result.{on_ok_weaker}
use Rattle.dae_threads.proofs.Walked.{joined_pair}
use Rattle.dae_threads.proofs.threading.push_pair.Goals as goal

pub returns-in-Ok : goal.returns-in-Ok
returns-in-Ok c =
    on_ok_weaker c.push_one.result
    (λ h. joined_pair c.args.out.now.items c.args.statement c.args.next c.in-Ok.joined c.push_one.new.out.items c.in-Ok.ensures h) c.push_one.ensures

pub returns-in-Err-Kept : goal.returns-in-Err-Kept
returns-in-Err-Kept c = c.push_apart.ensures
