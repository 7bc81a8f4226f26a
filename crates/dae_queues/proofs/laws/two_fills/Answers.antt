use Rattle.dae_queues.proofs.MemoryLaws.{with_value_twice}
use Rattle.dae_queues.proofs.ListLaws.{fill_after_other}
use Rattle.dae_queues.proofs.laws.two_fills.Goals as goal

pub returns-clause-filling : goal.returns-clause-filling
returns-clause-filling c = fill_after_other

pub returns-clause-one_state : goal.returns-clause-one_state
returns-clause-one_state c = with_value_twice
