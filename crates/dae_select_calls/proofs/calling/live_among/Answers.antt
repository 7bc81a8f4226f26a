use Rattle.std.proofs.Common.{ap, ◌∙◌}
use Rattle.std.proofs.lemmas.Result.{IfOk-weaker}
use Rattle.dae_ir.specs.Classes.{VariableSet}
use Rattle.dae_select_blocks.specs.Code.{filtered}
use Rattle.dae_select_calls.proofs.calling.live_among.Goals as goal

pub returns : goal.returns
returns c =
    IfOk-weaker c.registers_among.result _ _ (λ found e. e ∙ ap (λ (f : VariableSet). filtered f c.args.registers.now) c.in_ok-held.ensures) c.registers_among.ensures
