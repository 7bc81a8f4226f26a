use Rattle.std.proofs.Common.{◌≡◌, ◌-◌, ◌^◌, [], List, length, drop, ap, sym, subst, arith, ℕ}
use Rattle.std.proofs.lemmas.List.{drop_all}
use Rattle.std.specs.Prelude.{min}
use Rattle.dae_ir.specs.Streams.{actions_of}
use Rattle.dae_ir.specs.declared.stream.Step.{Step}
use Rattle.dae_regalloc.specs.Seen.{count_places}
use Rattle.dae_regalloc.proofs.PlaceCounts.{CountedFrom, counted_if, counted_loop, one_counted}
use Rattle.dae_regalloc.proofs.counting.+counting.Goals as goal

pub places_in_step-returns-in-If : goal.places_in_step-returns-in-If
places_in_step-returns-in-If t c =
    let i = c.in-If in
    rw i.is
    (counted_if i.field-0 i.field-1 i.p i.q c.places_in_list.result c.places_in_list-in-If.result c.saturating_add-branches.result c.saturating_add.result
    (rw c.deref.ensures.value at c.places_in_list.ensures) (rw c.deref-in-If.ensures.value at c.places_in_list-in-If.ensures)
    c.saturating_add-branches.ensures c.saturating_add.ensures)

pub places_in_step-returns-in-Loop : goal.places_in_step-returns-in-Loop
places_in_step-returns-in-Loop t c =
    let i = c.in-Loop in
    rw i.is
    (counted_loop i.field-0 i.body i.step c.places_in_list-in-Loop.result c.places_in_list-in-Loop-2.result c.saturating_add-inside.result c.saturating_add-in-Loop.result
    (rw c.deref-in-Loop.ensures.value at c.places_in_list-in-Loop.ensures) (rw c.deref-in-Loop-2.ensures.value at c.places_in_list-in-Loop-2.ensures)
    c.saturating_add-inside.ensures c.saturating_add-in-Loop.ensures)

pub places_in_list-loop-index-init : goal.places_in_list-loop-index-init
places_in_list-loop-index-init t c =
    let steps = c.args.steps.now in
    let none : drop (length steps) steps ≡ [] = drop_all (length steps) steps (omega arith) in
    ap (λ (l : List Step). min (count_places (actions_of l)) (2 ^ 64 - 1)) (sym none)

pub places_in_list-loop-index-preserved : goal.places_in_list-loop-index-preserved
places_in_list-loop-index-preserved t c =
    let some = c.loop-index-test.true in
    let le = c.loop-index.auto.index in
    one_counted c.args.steps.now c.loop-index.index c.index-steps-index.result c.loop-index.places c.places_in_step.result c.saturating_add-places.result
    (omega arith) (omega arith) c.index-steps-index.is c.loop-index.invariant c.places_in_step.ensures c.saturating_add-places.ensures

pub places_in_list-returns : goal.places_in_list-returns
places_in_list-returns t c =
    let first : c.loop-index.index ≡ 0 = (let end = c.loop-index-test.false in omega arith) in
    subst (λ (j : ℕ). CountedFrom c.args.steps.now j c.loop-index.places) first c.loop-index.invariant
