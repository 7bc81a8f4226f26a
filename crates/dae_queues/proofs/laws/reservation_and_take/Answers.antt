use Rattle.dae_queues.proofs.QueueLaws.{first_value_more, room_more}
use Rattle.dae_queues.proofs.ListLaws.{reservation_and_front}
use Rattle.dae_queues.proofs.laws.reservation_and_take.Goals as goal

pub returns-clause-word : goal.returns-clause-word
returns-clause-word c = λ kind addr stamp s some. first_value_more s.slots _ some

pub returns-clause-room : goal.returns-clause-room
returns-clause-room c = λ depth s lt. room_more s.slots depth lt

pub returns-clause-one_state : goal.returns-clause-one_state
returns-clause-one_state c = λ kind addr stamp s some. reservation_and_front s addr stamp kind some
