use Rattle.std.proofs.Common.{◌∷◌, [], ap, ◌∙◌}
use Rattle.dae_queues.specs.Lists.{first}
use Rattle.dae_queues.proofs.QueueLaws.{first_more, room_more}
use Rattle.dae_queues.proofs.laws.item_push_and_take.Goals as goal

pub returns-clause-item : goal.returns-clause-item
returns-clause-item g c = λ x q some. ap first (g.met.F.Fifo.push_appends x q).0 ∙ first_more (g.F.Fifo.held q) (x ∷ []) some

pub returns-clause-room : goal.returns-clause-room
returns-clause-room g c = λ q lt. let e = g.met.F.Fifo.take_removes q in rw (e.0, e.1) (room_more (g.F.Fifo.held q) (g.F.Fifo.depth q) lt)

pub returns-clause-one_state : goal.returns-clause-one_state
returns-clause-one_state g c = g.met.F.Fifo.ends_commute
