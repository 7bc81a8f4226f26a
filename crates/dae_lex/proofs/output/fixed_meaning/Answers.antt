use Rattle.std.proofs.Common.{refl, subst, sym}
use Rattle.dae_lex.specs.declared.output.Meaning.TheVariants as meanings
use Rattle.dae_lex.specs.Settling.{IsFixed}
use Rattle.dae_lex.proofs.output.fixed_meaning.Goals as goal

pub returns-in-Constant-clause-meaning : goal.returns-in-Constant-clause-meaning
returns-in-Constant-clause-meaning c = subst (λ k. IsFixed k (meanings.Constant c.in-Constant.value)) (sym c.in-Constant.is) refl

pub returns-in-Mark-clause-meaning : goal.returns-in-Mark-clause-meaning
returns-in-Mark-clause-meaning c = subst (λ k. IsFixed k (meanings.Sign c.in-Mark.sign)) (sym c.in-Mark.is) refl
