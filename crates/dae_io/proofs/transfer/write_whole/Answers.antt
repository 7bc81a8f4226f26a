use Rattle.dae_io.proofs.Growth.{Appends-keeps, Appends-more}
use Rattle.dae_io.proofs.transfer.write_whole.Goals as goal
use Rattle.dae_io.proofs.transfer.write_whole.Goals.{in-Ok, in-Err}

pub loop-preserved : goal.loop-preserved
loop-preserved g c = elim c.match-write.branch [
  | in-Ok w ↦ rw w.done-is (Appends-more _ _ _ _ _ _ w.in-Ok.ensures.bound c.loop.invariant.1 w.in-Ok.ensures.bytes c.loop.invariant.0)
  | in-Err w ↦ rw w.done-is (c.loop.invariant.0, Appends-keeps _ _ _ _ c.loop.invariant.1 w.in-Err.ensures.bytes)
]
