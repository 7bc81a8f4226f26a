use Rattle.std.proofs.Common.{sym, subst}
use Rattle.dae_ir.specs.declared.form.Statement.{Statement}
use Rattle.dae_threads.specs.Walked.{IsJoined}
use Rattle.dae_threads.proofs.Tried.{tested_is}
use Rattle.dae_threads.proofs.Walked.{condition_joined}
use Rattle.dae_threads.proofs.leading.join_condition.Goals as goal

pub returns-in_ok-joined-in-If : goal.returns-in_ok-joined-in-If
returns-in_ok-joined-in-If c =
    let w = c.in-If in
    let s : Statement = c.args.statement.now in
    let joined : Statement = c.in_ok-joined-in-If.joined in
    let v = c.in_ok-variable-in-If.variable in
    subst (λ (next : Statement). IsJoined s next joined) (sym w.is)
    (condition_joined s v w.field-0 w.test w.yes w.no c.deref.result.now c.deref-in-If.result.now joined c.deref.ensures.value c.deref-in-If.ensures.value
    (tested_is w.test v c.in_ok-variable-in-If.ensures) c.in_ok-joined-in-If.ensures)
