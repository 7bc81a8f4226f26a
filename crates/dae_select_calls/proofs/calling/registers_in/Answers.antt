use Rattle.dae_select_blocks.specs.Code.{registers_in}
use Rattle.dae_select_calls.proofs.calling.registers_in.Goals as goal

pub returns : goal.returns
unfolding registers_in
returns c = c.live_among.ensures
