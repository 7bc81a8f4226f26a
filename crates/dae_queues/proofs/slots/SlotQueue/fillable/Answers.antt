-- No slot that has its value may be filled.
use Rattle.std.proofs.Common.{ap, arith, length, subst}
use Rattle.dae_queues.specs.Rings.{SlotRing, AreFilled}
use Rattle.dae_queues.proofs.Filled.{skip_fillable}
use Rattle.dae_queues.proofs.slots.SlotQueue.fillable.Goals as goal

pub loop-at-init : goal.loop-at-init
loop-at-init c = record {
  counted = let same = ap length (skip_fillable c.args.stores.now.held.sa c.self.inside.filled c.args.self.now.held.slots (subst (λ (v : SlotRing). AreFilled c.self.inside.filled v.held.slots) c.self.view_is c.self.invariant.2)) in omega (arith, same);
  within = omega arith;
}
