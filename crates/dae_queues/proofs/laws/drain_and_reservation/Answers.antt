use Rattle.dae_queues.proofs.ListLaws.{drain_after_reservation_ld, drain_after_reservation_al}
use Rattle.dae_queues.proofs.laws.drain_and_reservation.Goals as goal

pub returns-clause-draining_ld : goal.returns-clause-draining_ld
returns-clause-draining_ld c = drain_after_reservation_ld

pub returns-clause-draining_al : goal.returns-clause-draining_al
returns-clause-draining_al c = drain_after_reservation_al
