use Rattle.dae_queues.specs.Lists.{give}
use Rattle.dae_queues.proofs.MemoryLaws.{first_value_given, map_rest}
use Rattle.dae_queues.proofs.ListLaws.{fill_after_take}
use Rattle.dae_queues.proofs.laws.fill_and_take.Goals as goal

pub returns-clause-word : goal.returns-clause-word
returns-clause-word c = first_value_given

pub returns-clause-filling : goal.returns-clause-filling
returns-clause-filling c = fill_after_take

pub returns-clause-one_state : goal.returns-clause-one_state
returns-clause-one_state c = λ n w ss. map_rest (give n w) ss
