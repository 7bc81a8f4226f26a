use Rattle.std.proofs.Common.{Err}
use Rattle.dae_parse.proofs.Files.{found}
use Rattle.dae_parse.proofs.reading.parse.Goals as goal

pub returns-in-Ok-Whole-clause-found : goal.returns-in-Ok-Whole-clause-found
returns-in-Ok-Whole-clause-found c = λ file w. found c.args.tokens.now c.whole.result file c.whole.ensures w

pub returns-in-Ok-Stopped-clause-found : goal.returns-in-Ok-Stopped-clause-found
returns-in-Ok-Stopped-clause-found c = λ file w. found c.args.tokens.now (Err c.refusal_at.result) file c.refusal_at.ensures w
