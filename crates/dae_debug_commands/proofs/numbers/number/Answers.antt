use Rattle.std.proofs.Common.{arith}
use Rattle.dae_debug_commands.proofs.Spelled.{no_text}
use Rattle.dae_debug_commands.proofs.numbers.number.Goals as goal

pub returns-in-Err : goal.returns-in-Err
returns-in-Err c = no_text c.args.bytes.now c.args.least c.args.most (omega arith) c.in-Err.ensures.cases.0
