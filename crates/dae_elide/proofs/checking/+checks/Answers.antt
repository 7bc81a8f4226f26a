use Rattle.std.proofs.Common.{Bool, not, List, refl, ap, sym, ◌∙◌}
use Rattle.dae_ir.specs.Form.{form_of}
use Rattle.dae_elide.specs.Checking.{checks_place, checks_no_place}
use Rattle.dae_ir.specs.declared.form.Item.{Item}
use Rattle.dae_ir.specs.declared.form.Statement.{Statement}
use Rattle.dae_ir.proofs.Laws.{items_of_if, items_of_loop}
use Rattle.dae_elide.proofs.checking.+checks.Goals as goal

abbrev no_place_check : Item → Bool
no_place_check item = not (checks_place item)

abbrev checks_none : List Statement → Bool
checks_none xs = checks_no_place (form_of xs)

pub statement_checks_no_place-returns-then-checks_no_place : goal.statement_checks_no_place-returns-then-checks_no_place
statement_checks_no_place-returns-then-checks_no_place t c k =
    let i = c.in-If in
    let first = c.checks_no_place.ensures ∙ ap checks_none c.deref.ensures.value in
    let second = c.checks_no_place-then-checks_no_place.ensures ∙ ap checks_none c.deref-then-checks_no_place.ensures.value in
    items_of_if no_place_check i.field-0 i.field-1 i.yes i.no c.args.statement.now k i.is ∙ rw (sym first, c.if-checks_no_place.true, sym second) refl

pub statement_checks_no_place-returns-else-checks_no_place : goal.statement_checks_no_place-returns-else-checks_no_place
statement_checks_no_place-returns-else-checks_no_place t c k =
    let i = c.in-If in
    let first = c.checks_no_place.ensures ∙ ap checks_none c.deref.ensures.value in
    items_of_if no_place_check i.field-0 i.field-1 i.yes i.no c.args.statement.now k i.is ∙ rw (sym first, c.if-checks_no_place.false) refl

pub statement_checks_no_place-returns-then-checks_no_place-2 : goal.statement_checks_no_place-returns-then-checks_no_place-2
statement_checks_no_place-returns-then-checks_no_place-2 t c k =
    let i = c.in-Loop in
    let first = c.checks_no_place-in-Loop.ensures ∙ ap checks_none c.deref-in-Loop.ensures.value in
    let second = c.checks_no_place-then-checks_no_place-2.ensures ∙ ap checks_none c.deref-then-checks_no_place-2.ensures.value in
    items_of_loop no_place_check i.field-0 i.body i.step c.args.statement.now k i.is ∙ rw (sym first, c.if-checks_no_place-2.true, sym second) refl

pub statement_checks_no_place-returns-else-checks_no_place-2 : goal.statement_checks_no_place-returns-else-checks_no_place-2
statement_checks_no_place-returns-else-checks_no_place-2 t c k =
    let i = c.in-Loop in
    let first = c.checks_no_place-in-Loop.ensures ∙ ap checks_none c.deref-in-Loop.ensures.value in
    items_of_loop no_place_check i.field-0 i.body i.step c.args.statement.now k i.is ∙ rw (sym first, c.if-checks_no_place-2.false) refl
