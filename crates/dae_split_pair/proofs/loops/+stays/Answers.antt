use Rattle.std.proofs.Common.{Bool, true, List, refl, ap, sym, ◌∙◌}
use Rattle.dae_ir.specs.Form.{form_of}
use Rattle.dae_ir.specs.Rounds.{stays}
use Rattle.dae_ir.specs.declared.form.Statement.{Statement}
use Rattle.dae_split_pair.proofs.Nested.{stays_in_if, stays_in_loop}
use Rattle.dae_split_pair.proofs.loops.+stays.Goals as goal

abbrev all_stay : Bool → List Statement → Bool
all_stay inside xs = stays inside (form_of xs)

pub statement_stays-returns-then-stays : goal.statement_stays-returns-then-stays
statement_stays-returns-then-stays t c k =
    let a = c.args in
    let i = c.in-If in
    let first = c.stays.ensures ∙ ap (all_stay a.inside) c.deref.ensures.value in
    let second = c.stays-then-stays.ensures ∙ ap (all_stay a.inside) c.deref-then-stays.ensures.value in
    stays_in_if a.inside i.field-0 i.field-1 i.yes i.no a.statement.now k i.is ∙ rw (sym first, c.if-stays.true, sym second) refl

pub statement_stays-returns-else-stays : goal.statement_stays-returns-else-stays
statement_stays-returns-else-stays t c k =
    let a = c.args in
    let i = c.in-If in
    let first = c.stays.ensures ∙ ap (all_stay a.inside) c.deref.ensures.value in
    stays_in_if a.inside i.field-0 i.field-1 i.yes i.no a.statement.now k i.is ∙ rw (sym first, c.if-stays.false) refl

pub statement_stays-returns-then-stays-2 : goal.statement_stays-returns-then-stays-2
statement_stays-returns-then-stays-2 t c k =
    let a = c.args in
    let i = c.in-Loop in
    let first = c.stays-in-Loop.ensures ∙ ap (all_stay true) c.deref-in-Loop.ensures.value in
    let second = c.stays-then-stays-2.ensures ∙ ap (all_stay true) c.deref-then-stays-2.ensures.value in
    stays_in_loop a.inside i.field-0 i.body i.step a.statement.now k i.is ∙ rw (sym first, c.if-stays-2.true, sym second) refl

pub statement_stays-returns-else-stays-2 : goal.statement_stays-returns-else-stays-2
statement_stays-returns-else-stays-2 t c k =
    let a = c.args in
    let i = c.in-Loop in
    let first = c.stays-in-Loop.ensures ∙ ap (all_stay true) c.deref-in-Loop.ensures.value in
    stays_in_loop a.inside i.field-0 i.body i.step a.statement.now k i.is ∙ rw (sym first, c.if-stays-2.false) refl
