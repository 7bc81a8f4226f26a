use Rattle.std.proofs.Common.{[], ◌∷◌, ◌++◌, List, sym, subst, ◌∙◌}
use Rattle.std.proofs.lemmas.Result.{err_from_is_err_and}
use Rattle.dae_ir.specs.declared.form.Function.{Function}
use Rattle.dae_alias.specs.Forms.{AreReused}
use Rattle.dae_alias.proofs.Whole.{many_first, many_later, next_of, reused_push}
use Rattle.dae_alias.proofs.reusing.reuse.Goals as goal

pub loop-function-preserved : goal.loop-function-preserved
loop-function-preserved c = record {
  reused = subst (λ (gs : List Function). AreReused (c.loop-function.yielded ++ c.in-Some.function ∷ []) gs) (sym c.in_ok-push.ensures.items)
      (reused_push c.loop-function.yielded c.loop-function.functions.items c.in-Some.function c.in_ok-reuse_in_function.field-0 c.loop-function.invariant.reused c.in_ok-reuse_in_function.ensures.reused);
  many = λ h. c.loop-function.invariant.many (many_later _ _ _ (next_of c.loop-function.function-iterator c.next.new.self c.next.result c.in-Some.function c.in-Some.is c.next.ensures.steps) h);
}

pub returns-in_err-reuse_in_function-clause-many : goal.returns-in_err-reuse_in_function-clause-many
returns-in_err-reuse_in_function-clause-many c =
    let p = err_from_is_err_and c.from_residual.result c.from_residual.ensures.1 in
    rw p.1 (λ same. c.loop-function.invariant.many (many_first _ _ _ (next_of c.loop-function.function-iterator c.next.new.self c.next.result c.in-Some.function c.in-Some.is c.next.ensures.steps) (c.in_err-reuse_in_function.ensures.many (sym p.2 ∙ same))))
