use Rattle.dae_queues.proofs.ListLaws.{fill_ld_beside_drain, fill_al_beside_drain, drain_beside_fill_ld, drain_beside_fill_al}
use Rattle.dae_queues.proofs.laws.fill_and_drain.Goals as goal

pub returns-clause-filling_ld : goal.returns-clause-filling_ld
returns-clause-filling_ld c = fill_ld_beside_drain

pub returns-clause-filling_al : goal.returns-clause-filling_al
returns-clause-filling_al c = fill_al_beside_drain

pub returns-clause-draining_ld : goal.returns-clause-draining_ld
returns-clause-draining_ld c = drain_beside_fill_ld

pub returns-clause-draining_al : goal.returns-clause-draining_al
returns-clause-draining_al c = drain_beside_fill_al
