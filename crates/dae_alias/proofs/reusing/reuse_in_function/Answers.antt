use Rattle.std.proofs.Common.{◌≡◌, List, Option, ℕ, Bool, false, ap, sym, subst, ◌∙◌, arith}
use Rattle.std.proofs.lemmas.Bool.Decides.{nat_tests}
use Rattle.std.specs.List.{list_any}
use Rattle.dae_ir.specs.Form.{form_of}
use Rattle.dae_ir.specs.declared.form.Statement.{Statement}
use Rattle.dae_alias.specs.Reuse.{has_no_load}
use Rattle.dae_alias.specs.Turning.{holders_of, IsTurned}
use Rattle.dae_alias.specs.Marking.{AreRepeated}
use Rattle.dae_alias.specs.Tables.{IsTable}
use Rattle.dae_alias.proofs.Unrepeated.{unrepeated_function, unloaded_function}
use Rattle.dae_alias.proofs.Whole.{reused_function}
use Rattle.dae_alias.proofs.reusing.reuse_in_function.Goals as goal

pub returns-then-has_no_load-clause-reused : goal.returns-then-has_no_load-clause-reused
returns-then-has_no_load-clause-reused c =
    unloaded_function c.args.function (ap (λ (xs : List Statement). has_no_load (form_of xs)) (sym c.as_slice.ensures) ∙ sym c.has_no_load.ensures ∙ c.if-has_no_load.true)

pub returns-then-len-function-clause-many : goal.returns-then-len-function-clause-many
returns-then-len-function-clause-many c = λ same.
    let marked = subst (λ (xs : List Statement). AreRepeated xs c.in_ok-marks.marks.items) c.as_slice-2.ensures c.in_ok-marks.ensures in
    let loads = marked.loads in let l = c.len.ensures in let o = c.in_ok-marks.marks.ok in let many = c.if-len-function.true in
    grind (arith, nat_tests)

pub returns-then-not-any_marked-clause-reused : goal.returns-then-not-any_marked-clause-reused
returns-then-not-any_marked-clause-reused c =
    let marks : List Bool = c.in_ok-marks.marks.items in
    let none : list_any (λ (mark : Bool). mark) marks ≡ false = ap (list_any (λ (mark : Bool). mark)) (sym c.deref.ensures.value) ∙ sym c.any_marked.ensures ∙ c.if-not-any_marked.true in
    unrepeated_function c.args.function marks (subst (λ (xs : List Statement). AreRepeated xs marks) c.as_slice-2.ensures c.in_ok-marks.ensures) none

pub number_marked-requires : goal.number_marked-requires
number_marked-requires c =
    let l = c.len.ensures in let o = c.in_ok-marks.marks.ok in let few = c.if-len-function.false in
    rw c.deref-2.ensures.value (omega arith)

pub turn_statements-requires : goal.turn_statements-requires
turn_statements-requires c =
    let marked = subst (λ (xs : List Statement). AreRepeated xs c.in_ok-marks.marks.items) c.as_slice-2.ensures c.in_ok-marks.ensures in
    let loads = marked.loads in let o = c.in_ok-marks.marks.ok in
    rw c.as_slice-3.ensures (omega arith)

pub returns-clause-reused : goal.returns-clause-reused
returns-clause-reused c =
    let f = c.args.function in
    let marks : List Bool = c.in_ok-marks.marks.items in
    let table = c.in_ok-table.table in
    let part = c.in_ok-part.part in
    reused_function f marks table part c.from_vec.result
    (subst (λ (xs : List Statement). AreRepeated xs marks) c.as_slice-2.ensures c.in_ok-marks.ensures)
    (subst (λ (xs : List Bool). IsTable xs f.variables table) c.deref-2.ensures.value c.in_ok-table.ensures)
    (subst (λ (xs : List Statement). IsTurned (holders_of table.holders.items) xs 0 part) c.as_slice-3.ensures
    (subst (λ (xs : List (Option ℕ)). IsTurned (holders_of xs) c.as_slice-3.result.now 0 part) c.deref-3.ensures.value c.in_ok-part.ensures))
    c.from_vec.ensures
