use Rattle.dae_debug_commands.proofs.Parts.{break_on_read}
use Rattle.dae_debug_commands.proofs.reading.break_on.Goals as goal
use Rattle.std.specs.Prelude.{None, Some}

pub returns-in_err-file : goal.returns-in_err-file
returns-in_err-file c = rw c.from_residual.ensures (break_on_read c.args.side c.args.numbers.now None c.in_err-file.ensures)

pub returns : goal.returns
returns c = break_on_read c.args.side c.args.numbers.now (Some (c.in_ok-file.file, c.in_ok-file.line)) c.in_ok-file.ensures
