use Rattle.dae_select_walks.specs.Live.{ways}
use Rattle.dae_select_live.specs.Members.{member}
use Rattle.dae_select_live.proofs.Laws.{LiveFrom}
use Rattle.dae_select_live.proofs.live.+live.Given as goal

abbrev pub invariant-live_before-loop-index : goal.invariant-live_before-loop-index
invariant-live_before-loop-index l = LiveFrom l.steps l.index (ways (member l.fn.next) (member l.leaves) (member l.skips)) (member l.set)
