use Rattle.dae_queues.proofs.CountLaws.{slots_more, slots_rest, slots_given, slots_up, stores_more, sa_rest}
use Rattle.dae_queues.proofs.ListLaws.{draining_was}
use Rattle.dae_queues.proofs.laws.numbers_stay.Goals as goal

pub returns-clause-reservation : goal.returns-clause-reservation
returns-clause-reservation c = λ addr issued kind s h. slots_more issued addr kind s h

pub returns-clause-take : goal.returns-clause-take
returns-clause-take c = slots_rest

pub returns-clause-fill : goal.returns-clause-fill
returns-clause-fill c = slots_given

pub returns-clause-address_slots : goal.returns-clause-address_slots
returns-clause-address_slots c = λ addr width stores s h. slots_up stores.issued s h

pub returns-clause-address_stores : goal.returns-clause-address_stores
returns-clause-address_stores c = λ addr width stores h. stores_more stores.drained stores.issued addr width stores.sa h

pub returns-clause-drain : goal.returns-clause-drain
returns-clause-drain c = λ stores ld al d h c. let g = draining_was stores ld al d h in sa_rest stores.drained stores.issued stores.sa stores.sd d g.is_next c
