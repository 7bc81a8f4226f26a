use Rattle.dae_queues.proofs.QueueLaws.{room_more}
use Rattle.dae_queues.proofs.ListLaws.{draining_was, drain_after_datum, datum_and_drain}
use Rattle.dae_queues.proofs.laws.drain_and_datum.Goals as goal

pub returns-clause-room : goal.returns-clause-room
returns-clause-room c = λ depth stores lt. room_more stores.sd depth lt

pub returns-clause-draining : goal.returns-clause-draining
returns-clause-draining c = drain_after_datum

pub returns-clause-one_state : goal.returns-clause-one_state
returns-clause-one_state c = λ stores w ld al d h. let g = draining_was stores ld al d h in datum_and_drain stores w d g.is_next
