use Rattle.std.proofs.Common.{refl}
use Rattle.dae_cli_command.proofs.Calm.{status_calm}
use Rattle.dae_cli_command.proofs.top.answer_calmly.Goals as goal

pub returns : goal.returns
returns c =
    let given = c.dae_main.ensures.gives in
    (given.0, given.1, status_calm _ _ refl refl given.2)
