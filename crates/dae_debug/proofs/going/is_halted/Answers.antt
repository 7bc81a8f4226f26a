-- It answers so just where it has halted.
use Rattle.std.proofs.Common.{ap, ◌∙◌}
use Rattle.dae_debug.specs.Sessions.{is_halt}
use Rattle.dae_debug.proofs.Halts.{halts_so}
use Rattle.dae_debug.proofs.going.is_halted.Goals as goal

pub returns : goal.returns
returns c = c.is_halt.ensures ∙ ap is_halt c.answer.ensures ∙ halts_so c.args.machine.now.setup c.args.machine.now.state c.args.side
