-- Each width has one digit.
use Rattle.std.proofs.Common.{sym, ap, ◌∙◌, arith}
use Rattle.std.specs.Prelude.{decimal}
use Rattle.std.proofs.lemmas.Fmt.{decimal_digit}
use Rattle.dae_base.specs.declared.Width.{Width}
use Rattle.dae_base.specs.Words.{size}
use Rattle.dae_debug.proofs.texts.width_text.Goals as goal

pub returns-in-B1-clause-text : goal.returns-in-B1-clause-text
returns-in-B1-clause-text c = sym (ap (λ (width : Width). decimal (size width)) c.in-B1.is ∙ decimal_digit 1 (omega arith))

pub returns-in-B2-clause-text : goal.returns-in-B2-clause-text
returns-in-B2-clause-text c = sym (ap (λ (width : Width). decimal (size width)) c.in-B2.is ∙ decimal_digit 2 (omega arith))

pub returns-in-B4-clause-text : goal.returns-in-B4-clause-text
returns-in-B4-clause-text c = sym (ap (λ (width : Width). decimal (size width)) c.in-B4.is ∙ decimal_digit 4 (omega arith))
