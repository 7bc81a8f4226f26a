use Rattle.dae_certificate.proofs.Spellings.{no_text}
use Rattle.dae_certificate.proofs.words.number.Goals as goal

pub returns-in-Err : goal.returns-in-Err
returns-in-Err c = no_text c.args.digits.now c.in-Err.ensures.cases.0
