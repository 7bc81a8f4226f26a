use Rattle.std.proofs.Common.{[], ◌∷◌}
use Rattle.dae_queues.proofs.QueueLaws.{first_more, rest_more, room_more}
use Rattle.dae_queues.proofs.laws.push_and_take.Goals as goal

pub returns-clause-word : goal.returns-clause-word
returns-clause-word c = λ w ws some. first_more ws (w ∷ []) some

pub returns-clause-room : goal.returns-clause-room
returns-clause-room c = λ depth ws lt. room_more ws depth lt

pub returns-clause-one_state : goal.returns-clause-one_state
returns-clause-one_state c = λ w ws some. rest_more ws (w ∷ []) some
