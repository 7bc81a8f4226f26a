-- The new store address has the next number.
use Rattle.dae_queues.proofs.CountLaws.{stores_more}
use Rattle.dae_queues.proofs.stores.StoreQueue.push_address.Goals as goal

pub invariant_of-self : goal.invariant_of-self
invariant_of-self c = rw c.in-Ok.ensures.ok (stores_more c.self.inside.drained c.self.inside.issued c.args.addr c.args.width c.self.inside.addresses.items c.self.invariant.0, c.self.invariant.1, c.self.invariant.2)
