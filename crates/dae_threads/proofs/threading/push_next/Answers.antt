use Rattle.std.proofs.lemmas.Result.{on_ok_weaker}
use Rattle.dae_threads.proofs.Walked.{next_with_last, next_alone}
use Rattle.dae_threads.proofs.threading.push_next.Goals as goal

pub returns-in-Some : goal.returns-in-Some
returns-in-Some c =
    on_ok_weaker c.push_pair.result
    (λ h. next_with_last c.args.out.now.items c.pop.new.self.items c.in-Some.statement c.args.next c.push_pair.new.out.items c.in-Some.ensures.items h) c.push_pair.ensures

pub returns-in-None : goal.returns-in-None
returns-in-None c =
    on_ok_weaker c.push_one.result
    (λ h. next_alone c.args.out.now.items c.pop.new.self.items c.args.next c.push_one.new.out.items c.in-None.ensures.items h) c.push_one.ensures
