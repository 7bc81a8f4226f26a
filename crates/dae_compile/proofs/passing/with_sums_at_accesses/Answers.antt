use Rattle.std.proofs.Common.{inl, inr, refl, sym, ◌∙◌}
use Rattle.std.proofs.lemmas.Result.{IfOk-weaker}
use Rattle.dae_compile.proofs.passing.with_sums_at_accesses.Goals as goal

pub returns-then-form_has_no_self_set : goal.returns-then-form_has_no_self_set
returns-then-form_has_no_self_set c = inr (sym c.form_has_no_self_set.ensures ∙ c.if-form_has_no_self_set.true, refl)

pub returns : goal.returns
returns c =
    IfOk-weaker c.common_again.result _ _ (λ new again. inl (sym c.form_has_no_self_set.ensures ∙ c.if-form_has_no_self_set.false, again)) c.common_again.ensures
