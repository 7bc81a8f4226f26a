use Rattle.dae_select_live.proofs.Rising.{member_at, member_in_gap}
use Rattle.dae_select_live.proofs.set.LiveSet.contains.Goals as goal

pub returns-in-Ok : goal.returns-in-Ok
returns-in-Ok c = member_at c.args.self.now c.args.variable c.in-Ok.field-0 c.in-Ok.ensures.found

pub returns-in-Err : goal.returns-in-Err
returns-in-Err c = member_in_gap c.args.self.now c.args.variable c.in-Err.field-0 c.in-Err.ensures.absent
