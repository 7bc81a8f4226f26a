use Rattle.std.proofs.Common.{List, refl, sym, subst}
use Rattle.dae_ir.specs.declared.form.Statement.{Statement}
use Rattle.dae_ir.specs.declared.form.Statement.TheVariants as statement
use Rattle.dae_threads.specs.Walked.{AreCopiedBehind, IsCopy}
use Rattle.dae_threads.proofs.Walked.{simple_copied, if_copied, loop_copied, copied_none, copied_next, copied_all}
use Rattle.dae_threads.proofs.copying.+copy.Goals as goal

pub copy_behind-loop-statement-init : goal.copy_behind-loop-statement-init
copy_behind-loop-statement-init t c = copied_none c.args.out.now.items c.args.statements.now c.args.out.now.items refl

pub copy_behind-loop-statement-preserved : goal.copy_behind-loop-statement-preserved
copy_behind-loop-statement-preserved t c =
    copied_next c.args.out.now.items c.args.statements.now c.loop-statement.statement-index c.statement-item.result c.in_ok-copy.copy c.loop-statement.out.items c.push.new.self.items
    c.loop-statement-test.true c.statement-item.is c.in_ok-copy.ensures c.in_ok-push.ensures.items c.loop-statement.invariant

pub copy_behind-returns : goal.copy_behind-returns
copy_behind-returns t c =
    copied_all c.args.out.now.items c.args.statements.now c.loop-statement.statement-index c.loop-statement.out.items c.loop-statement-test.false c.loop-statement.invariant

pub copy_statement-returns-in_ok-copy-in-Simple : goal.copy_statement-returns-in_ok-copy-in-Simple
copy_statement-returns-in_ok-copy-in-Simple t c =
    let w = c.in-Simple in
    let new = c.in_ok-copy-in-Simple.copy in
    subst (λ (s : Statement). IsCopy s (statement.Simple w.place new)) (sym w.is) (simple_copied w.place w.item new c.in_ok-copy-in-Simple.ensures)

pub copy_statement-returns-in_ok-copy_behind-in-If-2 :
    goal.copy_statement-returns-in_ok-copy_behind-in-If-2
copy_statement-returns-in_ok-copy_behind-in-If-2 t c =
    let w = c.in-If in
    let p = c.copy_behind.new.out in
    let q = c.copy_behind-in-If.new.out in
    let none = c.new-first.result.items in
    let nothing = c.new-second.result.items in
    let one : AreCopiedBehind none w.yes.items p.items = subst (λ (xs : List Statement). AreCopiedBehind none xs p.items) c.deref.ensures.value c.in_ok-copy_behind-in-If.ensures in
    let other : AreCopiedBehind nothing w.no.items q.items = subst (λ (xs : List Statement). AreCopiedBehind nothing xs q.items) c.deref-in-If.ensures.value c.in_ok-copy_behind-in-If-2.ensures in
    subst (λ (s : Statement). IsCopy s (statement.If w.place w.test p q)) (sym w.is)
    (if_copied w.yes w.no p q none nothing c.new-first.ensures.items c.new-second.ensures.items one other w.place w.test)

pub copy_statement-returns-in_ok-copy_behind-in-Loop-2 :
    goal.copy_statement-returns-in_ok-copy_behind-in-Loop-2
copy_statement-returns-in_ok-copy_behind-in-Loop-2 t c =
    let w = c.in-Loop in
    let p = c.copy_behind-in-Loop.new.out in
    let q = c.copy_behind-in-Loop-2.new.out in
    let none = c.new-first-in-Loop.result.items in
    let nothing = c.new-second-in-Loop.result.items in
    let one : AreCopiedBehind none w.body.items p.items = subst (λ (xs : List Statement). AreCopiedBehind none xs p.items) c.deref-in-Loop.ensures.value c.in_ok-copy_behind-in-Loop.ensures in
    let other : AreCopiedBehind nothing w.step.items q.items = subst (λ (xs : List Statement). AreCopiedBehind nothing xs q.items) c.deref-in-Loop-2.ensures.value c.in_ok-copy_behind-in-Loop-2.ensures in
    subst (λ (s : Statement). IsCopy s (statement.Loop w.place p q)) (sym w.is)
    (loop_copied w.body w.step p q none nothing c.new-first-in-Loop.ensures.items c.new-second-in-Loop.ensures.items one other w.place)
