use Rattle.dae_queues.proofs.ListLaws.{fill_after_address}
use Rattle.dae_queues.proofs.laws.fill_and_address.Goals as goal

pub returns : goal.returns
returns c = record { filling = fill_after_address }
