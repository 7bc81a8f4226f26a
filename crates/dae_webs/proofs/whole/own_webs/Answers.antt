use Rattle.dae_webs.proofs.Tables.{own_next}
use Rattle.dae_webs.proofs.whole.own_webs.Goals as goal

pub loop-variable-preserved : goal.loop-variable-preserved
loop-variable-preserved c = own_next c.loop-variable.webs.items c.push.new.self.items c.loop-variable.variable c.loop-variable.invariant c.in_ok-push.ensures.items
