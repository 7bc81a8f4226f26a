use Rattle.dae_split_pair.specs.Kinds.{is_wanted, is_wanted_branch}
use Rattle.dae_split_pair.proofs.Totals.{if_uses, loop_uses, left_found, left_next}
use Rattle.dae_split_pair.proofs.uses.+uses.Goals as goal

pub step_uses-returns-in-If : goal.step_uses-returns-in-If
step_uses-returns-in-If t c =
    let w = c.in-If in
    let p = rw c.deref.ensures.value at c.uses.ensures in
    let q = rw c.deref-in-If.ensures.value at c.uses-in-If.ensures in
    rw (if_uses (is_wanted c.args.kind) (is_wanted_branch c.args.kind) c.args.step.now w.field-0 w.branch w.yes w.no w.is, ← p, ← q, ← c.is_wanted_branch.ensures, ← c.either-inside.ensures) c.either.ensures

pub step_uses-returns-in-Loop : goal.step_uses-returns-in-Loop
step_uses-returns-in-Loop t c =
    let w = c.in-Loop in
    let p = rw c.deref-in-Loop.ensures.value at c.uses-in-Loop.ensures in
    let q = rw c.deref-in-Loop-2.ensures.value at c.uses-in-Loop-2.ensures in
    rw (loop_uses (is_wanted c.args.kind) (is_wanted_branch c.args.kind) c.args.step.now w.field-0 w.body w.step w.is, ← p, ← q) c.either-in-Loop.ensures

pub uses-returns-then-step_uses : goal.uses-returns-then-step_uses
uses-returns-then-step_uses t c =
    left_found (is_wanted c.args.kind) (is_wanted_branch c.args.kind) c.args.steps.now c.loop-step.step-index c.step-item.result c.loop-step-test.true c.step-item.is c.if-step_uses.ensures c.loop-step.invariant

pub uses-loop-step-preserved : goal.uses-loop-step-preserved
uses-loop-step-preserved t c =
    left_next (is_wanted c.args.kind) (is_wanted_branch c.args.kind) c.args.steps.now c.loop-step.step-index c.step-item.result c.loop-step-test.true c.step-item.is c.if-step_uses.ensures c.loop-step.invariant
