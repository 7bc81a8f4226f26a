use Rattle.std.proofs.Common.{arith}
use Rattle.dae_lower_maker.proofs.Counts.{none_counted}
use Rattle.dae_lower_maker.proofs.later.Later.position.Goals as goal

pub returns-clause-none : goal.returns-clause-none
returns-clause-none c = λ none. none_counted c.args.self.now.assigned.items c.args.v (λ k lt. c.loop-index.invariant k (omega arith))
