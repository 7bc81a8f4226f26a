use Rattle.dae_select_live.proofs.Rising.{searched}
use Rattle.dae_select_live.proofs.set.LiveSet.search.Goals as goal

pub returns : goal.returns
returns c =
    rw (← c.self.view_is, ← c.deref.ensures.value) (searched _ c.args.variable _ (rw c.deref.ensures.value c.self.invariant) c.binary_search.ensures.position)
