use Rattle.std.proofs.Common.{rules}
use Rattle.dae_certificate.proofs.Spellings.{halted_word}
use Rattle.dae_certificate.proofs.words.counter.Goals as goal

pub returns-then-eq : goal.returns-then-eq
returns-then-eq c = halted_word c.args.word.now (search rules)
