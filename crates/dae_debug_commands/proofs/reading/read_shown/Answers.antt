use Rattle.std.specs.Prelude.{None, Some}
use Rattle.dae_debug_commands.proofs.Parts.{shown_read}
use Rattle.dae_debug_commands.proofs.reading.read_shown.Goals as goal

pub returns-in_err-address : goal.returns-in_err-address
returns-in_err-address c = rw c.from_residual.ensures (shown_read c.args.text.now None c.in_err-address.ensures)

pub returns : goal.returns
returns c = rw c.new.ensures (shown_read c.args.text.now (Some (c.in_ok-address.address, c.in_ok-address.count)) c.in_ok-address.ensures)
