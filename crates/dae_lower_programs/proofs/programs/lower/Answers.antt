use Rattle.dae_lower_programs.proofs.Room.{has_room}
use Rattle.dae_lower_programs.proofs.programs.lower.Goals as goal

pub returns-clause-scoped : goal.returns-clause-scoped
returns-clause-scoped c = c.forms_scoped.ensures c.args.program.now c.in_ok-ir.ir c.in_ok-ir.ensures.lowered

pub returns-clause-first : goal.returns-clause-first
returns-clause-first c = c.forms_set_first.ensures c.args.program.now c.in_ok-ir.ir c.in_ok-ir.ensures.lowered

pub returns-clause-room : goal.returns-clause-room
returns-clause-room c = has_room c.args.program.now c.in_ok-ir.ir c.in_ok-ir.ensures.lowered
