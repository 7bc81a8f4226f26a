use Rattle.dae_ir.specs.Form.{form_of}
use Rattle.dae_lower.specs.Lowering.{is_closed}
use Rattle.dae_lower_programs.proofs.Closing.{first_closed, last_closed, next_closed}
use Rattle.dae_lower_programs.proofs.functions.is_closed.Goals as goal

pub loop-s-init : goal.loop-s-init
loop-s-init c = first_closed c.args.block.now

pub loop-s-preserved : goal.loop-s-preserved
loop-s-preserved c = rw (c.is_end-closed.ensures) (next_closed c.loop-s.closed c.args.block.now c.loop-s.s-index c.s-item.result (is_closed (form_of c.args.block.now)) c.loop-s-test.true c.s-item.is c.loop-s.invariant)

pub returns : goal.returns
returns c = last_closed c.loop-s.closed c.args.block.now c.loop-s.s-index (is_closed (form_of c.args.block.now)) c.loop-s-test.false c.loop-s.invariant
