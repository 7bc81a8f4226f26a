use Rattle.std.proofs.Common.{◌≡◌, List, inl, inr, ap, sym, ◌∙◌, subst}
use Rattle.std.proofs.lemmas.Result.{IfOk-weaker}
use Rattle.dae_ir.specs.Form.{form_of}
use Rattle.dae_ir.specs.declared.form.Statement.{Statement}
use Rattle.dae_commons.specs.declared.equations.Equation.{Equation}
use Rattle.dae_commons.specs.Equations.{IsWithoutStatement, without_set}
use Rattle.dae_commons.proofs.Steps.{simple_without, if_without, loop_without, without_next, without_end}
use Rattle.dae_commons.proofs.setting.+without.Goals as goal

pub without_list-loop-statement-preserved : goal.without_list-loop-statement-preserved
without_list-loop-statement-preserved t c =
    without_next c.args.statements.now c.loop-statement.statement-index c.statement-item.result c.args.known c.loop-statement.current c.in_ok-current.current
    c.loop-statement-test.true c.statement-item.is c.loop-statement.invariant c.in_ok-current.ensures

pub without_list-returns : goal.without_list-returns
without_list-returns t c =
    without_end c.args.statements.now c.loop-statement.statement-index c.args.known c.loop-statement.current c.loop-statement-test.false c.loop-statement.invariant

pub without_statement-returns-in-Simple : goal.without_statement-returns-in-Simple
without_statement-returns-in-Simple t c =
    let w = c.in-Simple in
    IfOk-weaker c.without_item.result _ _ (λ new h. subst (λ (s : Statement). IsWithoutStatement s c.args.known new) (sym w.is) (simple_without w.field-0 w.item c.args.known new h)) c.without_item.ensures

pub without_statement-returns-in_ok-middle-in-If : goal.without_statement-returns-in_ok-middle-in-If
without_statement-returns-in_ok-middle-in-If t c =
    let w = c.in-If in
    let old : List Equation = c.args.known in
    let middle : List Equation = c.in_ok-middle-in-If.middle in
    let first : middle ≡ without_set old (form_of w.first.items) = c.in_ok-middle-in-If.ensures ∙ ap (λ (ss : List Statement). without_set old (form_of ss)) c.deref.ensures.value in
    IfOk-weaker c.without_list-in-If.result _ _
    (λ new h. (let second : new ≡ without_set middle (form_of w.second.items) = h ∙ ap (λ (ss : List Statement). without_set middle (form_of ss)) c.deref-in-If.ensures.value in
    elim w.is [
      | inl is ↦ subst (λ (s : Statement). IsWithoutStatement s old new) (sym is.2) (if_without w.first w.second old middle new first second is.0 is.1)
      | inr is ↦ subst (λ (s : Statement). IsWithoutStatement s old new) (sym is.1) (loop_without w.first w.second old middle new first second is.0)
    ])) c.without_list-in-If.ensures
