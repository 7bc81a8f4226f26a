use Rattle.std.proofs.Common.{ℕ, List, sym, subst}
use Rattle.dae_ir.specs.Form.{Form, form_of}
use Rattle.dae_ir.specs.declared.form.Statement.{Statement}
use Rattle.dae_ir.specs.declared.form.Statement.TheVariants as statement
use Rattle.dae_threads.specs.declared.leading.LedList.{LedList}
use Rattle.dae_threads.specs.Walked.{AreLed, IsJoinedWith}
use Rattle.dae_threads.proofs.Walked.{if_joined}
use Rattle.dae_threads.proofs.leading.join_if.Goals as goal

pub returns-in_ok-keep_small-in-If : goal.returns-in_ok-keep_small-in-If
returns-in_ok-keep_small-in-If c =
    let w = c.in-If in
    let v : ℕ = c.args.variable in
    let x : Form = form_of c.args.yes.now in
    let y : Form = form_of c.args.no.now in
    let p : LedList = c.in_ok-one-in-If.one in
    let q : LedList = c.in_ok-other-in-If.other in
    let first : AreLed v x y (form_of w.p.items) p = subst (λ (xs : List Statement). AreLed v x y (form_of xs) p) c.deref-in-If-2.ensures.value c.in_ok-one-in-If.ensures in
    let second : AreLed v x y (form_of w.q.items) q = subst (λ (xs : List Statement). AreLed v x y (form_of xs) q) c.deref-in-If-3.ensures.value c.in_ok-other-in-If.ensures in
    subst (λ (s : Statement). IsJoinedWith s v x y (statement.If w.place w.test p.statements q.statements)) (sym w.is)
    (if_joined v x y w.place w.test w.p w.q p.statements q.statements p.firsts p.seconds q.firsts q.seconds c.in_ok-firsts-in-If.firsts c.in_ok-seconds-in-If.seconds c.in_ok-more-in-If.more c.in_ok-further-in-If.further
    first second c.in_ok-firsts-in-If.ensures c.in_ok-seconds-in-If.ensures c.in_ok-more-in-If.ensures c.in_ok-further-in-If.ensures c.in_ok-keep_small-in-If.ensures)
