use Rattle.std.proofs.Common.{◌∙◌, sym, arith}
use Rattle.dae_guard.proofs.SlotLaws.{kept_upto, told_meets}
use Rattle.dae_guard.proofs.slots.LoadSlot.count_clear.Goals as goal

pub returns-then-touches-clause-kept : goal.returns-then-touches-clause-kept
returns-then-touches-clause-kept c =
    kept_upto c.args.stores.now c.args.self.now c.loop-place.place c.requires.older (omega arith) c.loop-place.invariant

pub returns-then-touches-clause-told : goal.returns-then-touches-clause-told
returns-then-touches-clause-told c =
    told_meets c.args.stores.now c.args.self.now c.loop-place.place _ c.loop-place-test.true c.requires.older (sym c.touches.ensures ∙ c.if-touches.true)
