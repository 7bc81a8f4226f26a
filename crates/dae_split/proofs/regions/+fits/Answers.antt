use Rattle.std.proofs.Common.{Bool, true, List, refl, ap, sym, ◌∙◌}
use Rattle.dae_ir.specs.Form.{form_of}
use Rattle.dae_ir.specs.Classes.{Classes, classes_of}
use Rattle.dae_ir.specs.declared.form.Statement.{Statement}
use Rattle.dae_split.specs.Making.{is_a, fits}
use Rattle.dae_split.proofs.Nested.{fits_in_if, fits_in_loop}
use Rattle.dae_split.proofs.regions.+fits.Goals as goal

abbrev all_fit : Bool → Classes → Bool → List Statement → Bool
all_fit by_a c inside xs = fits by_a c inside (form_of xs)

pub statement_fits-returns-then-list_fits : goal.statement_fits-returns-then-list_fits
statement_fits-returns-then-list_fits t c k =
    let a = c.args in
    let i = c.in-If in
    let s = is_a a.side in
    let of = classes_of a.tables.now a.function in
    let first = c.list_fits.ensures ∙ ap (all_fit s of a.inside) c.deref.ensures.value in
    let second = c.list_fits-then-list_fits.ensures ∙ ap (all_fit s of a.inside) c.deref-then-list_fits.ensures.value in
    fits_in_if s of a.inside i.field-0 i.test i.p i.q a.statement.now k i.is
    ∙ rw (sym c.test_fits.ensures, c.if-test_fits.true, sym first, c.if-list_fits.true, sym second) refl

pub statement_fits-returns-else-list_fits : goal.statement_fits-returns-else-list_fits
statement_fits-returns-else-list_fits t c k =
    let a = c.args in
    let i = c.in-If in
    let s = is_a a.side in
    let of = classes_of a.tables.now a.function in
    let first = c.list_fits.ensures ∙ ap (all_fit s of a.inside) c.deref.ensures.value in
    fits_in_if s of a.inside i.field-0 i.test i.p i.q a.statement.now k i.is
    ∙ rw (sym c.test_fits.ensures, c.if-test_fits.true, sym first, c.if-list_fits.false) refl

pub statement_fits-returns-then-list_fits-2 : goal.statement_fits-returns-then-list_fits-2
statement_fits-returns-then-list_fits-2 t c k =
    let a = c.args in
    let i = c.in-Loop in
    let s = is_a a.side in
    let of = classes_of a.tables.now a.function in
    let first = c.list_fits-in-Loop.ensures ∙ ap (all_fit s of true) c.deref-in-Loop.ensures.value in
    let second = c.list_fits-then-list_fits-2.ensures ∙ ap (all_fit s of true) c.deref-then-list_fits-2.ensures.value in
    fits_in_loop s of a.inside i.field-0 i.body i.step a.statement.now k i.is
    ∙ rw (sym first, c.if-list_fits-2.true, sym second) refl

pub statement_fits-returns-else-list_fits-2 : goal.statement_fits-returns-else-list_fits-2
statement_fits-returns-else-list_fits-2 t c k =
    let a = c.args in
    let i = c.in-Loop in
    let s = is_a a.side in
    let of = classes_of a.tables.now a.function in
    let first = c.list_fits-in-Loop.ensures ∙ ap (all_fit s of true) c.deref-in-Loop.ensures.value in
    fits_in_loop s of a.inside i.field-0 i.body i.step a.statement.now k i.is
    ∙ rw (sym first, c.if-list_fits-2.false) refl
