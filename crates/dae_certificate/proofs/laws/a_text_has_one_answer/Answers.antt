use Rattle.dae_certificate.proofs.Once.{one_certificate, one_bad_line, not_both}
use Rattle.dae_certificate.proofs.laws.a_text_has_one_answer.Goals as goal

pub returns : goal.returns
returns c = record { nodes = one_certificate; line = one_bad_line; either = not_both }
