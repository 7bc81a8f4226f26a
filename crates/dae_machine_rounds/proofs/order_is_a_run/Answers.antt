use Rattle.dae_machine_rounds.proofs.Landing.{order_run}
use Rattle.dae_machine_rounds.proofs.order_is_a_run.Goals as goal

pub returns : goal.returns
returns c = λ setup s t ps o. order_run o
