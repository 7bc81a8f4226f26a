-- At the end of the places the next one is the last number of its type.
use Rattle.std.proofs.Common.{◌≡◌, ℕ, subst, arith}
use Rattle.dae_queues.specs.Rings.{AreFilled}
use Rattle.dae_queues.proofs.slots.filled_from.Goals as goal

pub returns : goal.returns
returns c =
    let end : c.loop-place.place ≡ 65535 = grind (arith, c.loop-place.auto.place, c.loop-place-test.false) in
    subst (λ (n : ℕ). AreFilled n c.args.slots.now.items) end c.loop-place.invariant
