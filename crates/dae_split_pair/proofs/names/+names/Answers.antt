use Rattle.std.proofs.Common.{ℕ, List}
use Rattle.std.specs.Prelude.{drop}
use Rattle.dae_ir.specs.Code.{Each}
use Rattle.dae_ir.specs.Form.{form_of}
use Rattle.dae_ir.specs.Scope.{ItemIn, TestIn}
use Rattle.dae_ir.specs.declared.form.Function.{Function}
use Rattle.dae_ir.specs.declared.form.Statement.{Statement}
use Rattle.dae_split_pair.proofs.Nested.{each_in_if, each_in_loop, both_tested, first_fails, then_both}
use Rattle.dae_split_pair.proofs.Rest.{goes_on, gives_up, each_next}
use Rattle.dae_split_pair.proofs.names.+names.Goals as goal

-- what the names of statements are in
abbrev In : List Function → ℕ → List Statement → Type 0
In functions n ss = Each (ItemIn functions n) (TestIn n) (form_of ss)

pub statement_in-returns-then-names_in : goal.statement_in-returns-then-names_in
statement_in-returns-then-names_in t c =
    let a = c.args in
    let i = c.in-If in
    let fs = a.functions.now in
    let n = a.variables in
    let yes = rw c.deref.ensures.value at c.names_in.ensures in
    let no = rw c.deref-then-names_in.ensures.value at c.names_in-then-names_in.ensures in
    let parts = each_in_if (ItemIn fs n) (TestIn n) i.field-0 i.test i.yes i.no a.statement.now i.is in
    let inside = then_both _ (TestIn n i.test) (In fs n i.yes.items) (In fs n i.no.items) parts (c.are_in.ensures.0 c.if-are_in.true) in
    both_tested _ (In fs n i.yes.items) (In fs n i.no.items) inside c.names_in.result _ yes c.if-names_in.true no

pub statement_in-returns-else-names_in : goal.statement_in-returns-else-names_in
statement_in-returns-else-names_in t c =
    let a = c.args in
    let i = c.in-If in
    let fs = a.functions.now in
    let n = a.variables in
    let yes = rw c.deref.ensures.value at c.names_in.ensures in
    let parts = each_in_if (ItemIn fs n) (TestIn n) i.field-0 i.test i.yes i.no a.statement.now i.is in
    let inside = then_both _ (TestIn n i.test) (In fs n i.yes.items) (In fs n i.no.items) parts (c.are_in.ensures.0 c.if-are_in.true) in
    first_fails _ (In fs n i.yes.items) (In fs n i.no.items) inside c.names_in.result yes c.if-names_in.false

pub statement_in-returns-then-names_in-2 : goal.statement_in-returns-then-names_in-2
statement_in-returns-then-names_in-2 t c =
    let a = c.args in
    let i = c.in-Loop in
    let fs = a.functions.now in
    let n = a.variables in
    let body = rw c.deref-in-Loop.ensures.value at c.names_in-in-Loop.ensures in
    let step = rw c.deref-then-names_in-2.ensures.value at c.names_in-then-names_in-2.ensures in
    let parts = each_in_loop (ItemIn fs n) (TestIn n) i.field-0 i.body i.step a.statement.now i.is in
    both_tested _ (In fs n i.body.items) (In fs n i.step.items) parts c.names_in-in-Loop.result _ body c.if-names_in-2.true step

pub statement_in-returns-else-names_in-2 : goal.statement_in-returns-else-names_in-2
statement_in-returns-else-names_in-2 t c =
    let a = c.args in
    let i = c.in-Loop in
    let fs = a.functions.now in
    let n = a.variables in
    let body = rw c.deref-in-Loop.ensures.value at c.names_in-in-Loop.ensures in
    let parts = each_in_loop (ItemIn fs n) (TestIn n) i.field-0 i.body i.step a.statement.now i.is in
    first_fails _ (In fs n i.body.items) (In fs n i.step.items) parts c.names_in-in-Loop.result body c.if-names_in-2.false

pub names_in-returns-then-not-statement_in : goal.names_in-returns-then-not-statement_in
names_in-returns-then-not-statement_in t c =
    let a = c.args in
    let fs = a.functions.now in
    let n = a.variables in
    let i = c.loop-statement.statement-index in
    let s = c.statement-item.result in
    gives_up (In fs n a.statements.now) (In fs n (drop i a.statements.now)) _ _
    (each_next (ItemIn fs n) (TestIn n) a.statements.now i s c.loop-statement-test.true c.statement-item.is)
    c.loop-statement.invariant c.statement_in.result c.statement_in.ensures c.if-not-statement_in.true

pub names_in-loop-statement-preserved : goal.names_in-loop-statement-preserved
names_in-loop-statement-preserved t c =
    let a = c.args in
    let fs = a.functions.now in
    let n = a.variables in
    let i = c.loop-statement.statement-index in
    let s = c.statement-item.result in
    goes_on (In fs n a.statements.now) (In fs n (drop i a.statements.now)) _ _
    (each_next (ItemIn fs n) (TestIn n) a.statements.now i s c.loop-statement-test.true c.statement-item.is)
    c.loop-statement.invariant c.statement_in.result c.statement_in.ensures c.if-not-statement_in.false
