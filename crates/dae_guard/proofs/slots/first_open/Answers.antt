use Rattle.std.proofs.Common.{◌≡◌, ◌∙◌, sym}
use Rattle.dae_guard.proofs.SlotLaws.{opens_any}
use Rattle.dae_guard.proofs.slots.first_open.Goals as goal

pub returns-then-is_open-clause-some : goal.returns-then-is_open-clause-some
returns-then-is_open-clause-some c =
    (c.loop-place-test.true, λ d. opens_any c.args.slots.now c.loop-place.place _ d c.loop-place-test.true (sym c.is_open.ensures ∙ c.if-is_open.true), c.loop-place.invariant)
