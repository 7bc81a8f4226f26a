use Rattle.dae_commons.proofs.Uninvolved.{both_above}
use Rattle.dae_commons.proofs.known.KnownEquations.keep_known_in.Goals as goal

pub invariant_of-result : goal.invariant_of-result
invariant_of-result c =
    rw (c.in_ok-equations.ensures, c.as_slice.ensures.value) (both_above c.self.inside.highest c.self.inside.equations.items c.as_slice-2.result.now c.self.invariant)
