use Rattle.dae_commons.proofs.Uninvolved.{without_above}
use Rattle.dae_commons.proofs.known.without_variable.Goals as goal

pub invariant_of-result : goal.invariant_of-result
invariant_of-result c =
    rw c.without_involved.ensures (without_above c.known.inside.highest c.args.variable c.known.inside.equations.items c.known.invariant)
