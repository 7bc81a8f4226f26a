use Rattle.dae_threads.proofs.Walked.{next_as_is}
use Rattle.dae_threads.proofs.flattening.push_statement.Goals as goal

pub returns : goal.returns
returns c = next_as_is c.args.out.now.items c.args.statement c.push.new.self.items c.in_ok-push.ensures.items
