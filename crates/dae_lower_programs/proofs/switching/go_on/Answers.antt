use Rattle.dae_lower_expressions.specs.Lowered.{state_of}
use Rattle.dae_lower_programs.proofs.Rows.{nothing_whole}
use Rattle.dae_lower_programs.proofs.switching.go_on.Goals as goal

pub returns-else-switch : goal.returns-else-switch
returns-else-switch c = rw (c.if-switch.false) (nothing_whole (state_of c.args.lowerer.now) tt)
