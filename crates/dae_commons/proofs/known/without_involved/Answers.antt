use Rattle.dae_commons.proofs.Uninvolved.{none_taken}
use Rattle.dae_commons.proofs.known.without_involved.Goals as goal

pub returns-then-highest-variable : goal.returns-then-highest-variable
returns-then-highest-variable c =
    none_taken c.args.highest c.args.variable c.args.equations.items c.requires c.if-highest-variable.true
