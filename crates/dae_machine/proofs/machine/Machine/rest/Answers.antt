use Rattle.std.proofs.Common.{sym, ◌∙◌}
use Rattle.dae_machine.proofs.Turns.{quiet_where_none}
use Rattle.dae_machine.proofs.machine.Machine.rest.Goals as goal

pub ending-requires : goal.ending-requires
ending-requires c = quiet_where_none c.args.self.now.setup c.args.self.now.state 0 (sym c.pick.ensures.pick ∙ c.in-None.is)
