use Rattle.std.proofs.Common.{Bool, not, List, refl, ap, sym, ◌∙◌}
use Rattle.dae_ir.specs.Form.{form_of}
use Rattle.dae_commons.specs.SelfSets.{is_self_set, has_no_self_set}
use Rattle.dae_ir.specs.declared.form.Item.{Item}
use Rattle.dae_ir.specs.declared.form.Statement.{Statement}
use Rattle.dae_ir.proofs.Laws.{items_of_if, items_of_loop}
use Rattle.dae_commons.proofs.self_sets.+sets.Goals as goal

abbrev no_self_set : Item → Bool
no_self_set item = not (is_self_set item)

abbrev sets_none : List Statement → Bool
sets_none xs = has_no_self_set (form_of xs)

pub statement_has_no_self_set-returns-then-has_no_self_set : goal.statement_has_no_self_set-returns-then-has_no_self_set
statement_has_no_self_set-returns-then-has_no_self_set t c k =
    let i = c.in-If in
    let first = c.has_no_self_set.ensures ∙ ap sets_none c.deref.ensures.value in
    let second = c.has_no_self_set-then-has_no_self_set.ensures ∙ ap sets_none c.deref-then-has_no_self_set.ensures.value in
    items_of_if no_self_set i.field-0 i.field-1 i.yes i.no c.args.statement.now k i.is ∙ rw (sym first, c.if-has_no_self_set.true, sym second) refl

pub statement_has_no_self_set-returns-else-has_no_self_set : goal.statement_has_no_self_set-returns-else-has_no_self_set
statement_has_no_self_set-returns-else-has_no_self_set t c k =
    let i = c.in-If in
    let first = c.has_no_self_set.ensures ∙ ap sets_none c.deref.ensures.value in
    items_of_if no_self_set i.field-0 i.field-1 i.yes i.no c.args.statement.now k i.is ∙ rw (sym first, c.if-has_no_self_set.false) refl

pub statement_has_no_self_set-returns-then-has_no_self_set-2 : goal.statement_has_no_self_set-returns-then-has_no_self_set-2
statement_has_no_self_set-returns-then-has_no_self_set-2 t c k =
    let i = c.in-Loop in
    let first = c.has_no_self_set-in-Loop.ensures ∙ ap sets_none c.deref-in-Loop.ensures.value in
    let second = c.has_no_self_set-then-has_no_self_set-2.ensures ∙ ap sets_none c.deref-then-has_no_self_set-2.ensures.value in
    items_of_loop no_self_set i.field-0 i.body i.step c.args.statement.now k i.is ∙ rw (sym first, c.if-has_no_self_set-2.true, sym second) refl

pub statement_has_no_self_set-returns-else-has_no_self_set-2 : goal.statement_has_no_self_set-returns-else-has_no_self_set-2
statement_has_no_self_set-returns-else-has_no_self_set-2 t c k =
    let i = c.in-Loop in
    let first = c.has_no_self_set-in-Loop.ensures ∙ ap sets_none c.deref-in-Loop.ensures.value in
    items_of_loop no_self_set i.field-0 i.body i.step c.args.statement.now k i.is ∙ rw (sym first, c.if-has_no_self_set-2.false) refl
