use Rattle.dae_base.proofs.Budgets.{none_below}
use Rattle.dae_base.proofs.Depths.first_below.Goals as goal

pub returns-clause-none : goal.returns-clause-none
returns-clause-none c = rw c.below.ensures (none_below c.args.self.now c.args.budget.now)
