use Rattle.std.proofs.Common.{arith}
use Rattle.dae_debug_commands.proofs.Spelled.{no_texts}
use Rattle.dae_debug_commands.proofs.numbers.pair.Goals as goal

pub returns-in-Err : goal.returns-in-Err
returns-in-Err c = no_texts c.args.bytes.now c.args.most_first c.args.least c.args.most (omega arith) (omega arith) c.in-Err.ensures.cases.0
