use Rattle.dae_lower_expressions.specs.Lowered.{state_of}
use Rattle.dae_lower_programs.proofs.Rows.{nothing_whole}
use Rattle.dae_lower_programs.proofs.statements.leave_unless_some.Goals as goal

pub returns-in_ok-leave_unless-in-Some : goal.returns-in_ok-leave_unless-in-Some
returns-in_ok-leave_unless-in-Some c = rw (c.in-Some.is) (rw (c.deref.ensures) at (c.in_ok-leave_unless-in-Some.ensures))

pub returns-in-None : goal.returns-in-None
returns-in-None c = rw (c.in-None.is) (nothing_whole (state_of c.args.lowerer.now) tt)
