use Rattle.std.proofs.Common.{Bool, not, List, refl, ap, sym, ◌∙◌}
use Rattle.dae_ir.specs.Form.{form_of}
use Rattle.dae_alias.specs.Reuse.{is_load, has_no_load}
use Rattle.dae_ir.specs.declared.form.Item.{Item}
use Rattle.dae_ir.specs.declared.form.Statement.{Statement}
use Rattle.dae_ir.proofs.Laws.{items_of_if, items_of_loop}
use Rattle.dae_alias.proofs.loads.+loads.Goals as goal

abbrev no_load : Item → Bool
no_load item = not (is_load item)

abbrev loads_none : List Statement → Bool
loads_none xs = has_no_load (form_of xs)

pub statement_has_no_load-returns-then-has_no_load : goal.statement_has_no_load-returns-then-has_no_load
statement_has_no_load-returns-then-has_no_load t c k =
    let i = c.in-If in
    let first = c.has_no_load.ensures ∙ ap loads_none c.deref.ensures.value in
    let second = c.has_no_load-then-has_no_load.ensures ∙ ap loads_none c.deref-then-has_no_load.ensures.value in
    items_of_if no_load i.field-0 i.field-1 i.yes i.no c.args.statement.now k i.is ∙ rw (sym first, c.if-has_no_load.true, sym second) refl

pub statement_has_no_load-returns-else-has_no_load : goal.statement_has_no_load-returns-else-has_no_load
statement_has_no_load-returns-else-has_no_load t c k =
    let i = c.in-If in
    let first = c.has_no_load.ensures ∙ ap loads_none c.deref.ensures.value in
    items_of_if no_load i.field-0 i.field-1 i.yes i.no c.args.statement.now k i.is ∙ rw (sym first, c.if-has_no_load.false) refl

pub statement_has_no_load-returns-then-has_no_load-2 : goal.statement_has_no_load-returns-then-has_no_load-2
statement_has_no_load-returns-then-has_no_load-2 t c k =
    let i = c.in-Loop in
    let first = c.has_no_load-in-Loop.ensures ∙ ap loads_none c.deref-in-Loop.ensures.value in
    let second = c.has_no_load-then-has_no_load-2.ensures ∙ ap loads_none c.deref-then-has_no_load-2.ensures.value in
    items_of_loop no_load i.field-0 i.body i.step c.args.statement.now k i.is ∙ rw (sym first, c.if-has_no_load-2.true, sym second) refl

pub statement_has_no_load-returns-else-has_no_load-2 : goal.statement_has_no_load-returns-else-has_no_load-2
statement_has_no_load-returns-else-has_no_load-2 t c k =
    let i = c.in-Loop in
    let first = c.has_no_load-in-Loop.ensures ∙ ap loads_none c.deref-in-Loop.ensures.value in
    items_of_loop no_load i.field-0 i.body i.step c.args.statement.now k i.is ∙ rw (sym first, c.if-has_no_load-2.false) refl
