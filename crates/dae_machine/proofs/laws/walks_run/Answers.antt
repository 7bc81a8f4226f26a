use Rattle.dae_machine.proofs.Walks.{ran_a, ran_e}
use Rattle.dae_machine.proofs.Pushed.{words_wait}
use Rattle.dae_machine.proofs.laws.walks_run.Goals as goal

pub returns : goal.returns
returns c = record {
  access = λ setup s steps fills uses p q walks granted. ran_a setup s walks granted;
  execute = λ setup s steps fills uses p q walks granted. ran_e setup s walks granted;
  words = λ d on memory fills q last uses granted pushed wait. words_wait granted pushed wait;
}
