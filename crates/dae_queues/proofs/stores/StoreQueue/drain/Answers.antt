-- Where a store is there, fewer were drained than issued.
use Rattle.std.proofs.Common.{ap, sym, ◌∙◌, arith}
use Rattle.dae_queues.specs.Lists.{next_store}
use Rattle.dae_queues.specs.Rings.{StoreRing}
use Rattle.dae_queues.proofs.CountLaws.{counts_store}
use Rattle.dae_queues.proofs.stores.StoreQueue.drain.Goals as goal

pub overflow_add-self : goal.overflow_add-self
overflow_add-self c =
    let k = counts_store c.self.inside.drained c.self.inside.issued c.self.inside.addresses.items c.self.inside.words.items c.in_ok-store.store c.self.invariant.0 (ap (λ (v : StoreRing). next_store v.held.sa v.held.sd) c.self.view_is ∙ sym c.front.ensures ∙ c.in_ok-store.was) in
    grind (arith, k)
