use Rattle.std.proofs.lemmas.List.{length-map}
use Rattle.dae_queues.specs.Lists.{give}
use Rattle.dae_queues.proofs.ListLaws.{fill_after_reservation, reservation_with_value}
use Rattle.dae_queues.proofs.laws.fill_and_reservation.Goals as goal

pub returns-clause-room : goal.returns-clause-room
returns-clause-room c = λ n w ss. length-map ss (give n w)

pub returns-clause-filling : goal.returns-clause-filling
returns-clause-filling c = fill_after_reservation

pub returns-clause-one_state : goal.returns-clause-one_state
returns-clause-one_state c = reservation_with_value
