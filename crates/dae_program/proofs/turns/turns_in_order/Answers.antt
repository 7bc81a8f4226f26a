use Rattle.dae_program.proofs.Order.{turns_in_order}
use Rattle.dae_program.proofs.turns.turns_in_order.Goals as goal

pub returns : goal.returns
returns c = turns_in_order
