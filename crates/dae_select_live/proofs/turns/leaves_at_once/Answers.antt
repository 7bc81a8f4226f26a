use Rattle.std.proofs.Common.{◌≡◌, ◌<◌, List, length, ap, ◌∙◌, arith}
use Rattle.std.proofs.lemmas.Bool.Decides.{nat_tests}
use Rattle.dae_ir.specs.Streams.{actions_of}
use Rattle.dae_ir.specs.declared.stream.Step.{Step}
use Rattle.dae_select_walks.specs.Facts.{only_leaves}
use Rattle.dae_select_live.proofs.Telling.{stays_by_none, leaves_by_if, stays_by_act, stays_by_loop}
use Rattle.dae_select_live.proofs.turns.leaves_at_once.Goals as goal

pub returns-then-is_empty : goal.returns-then-is_empty
returns-then-is_empty c =
    let body = c.args.body.now in
    let empty = c.is_empty.ensures in let is = c.if-is_empty.true in
    let none : length body ≡ 0 = grind (arith, nat_tests) in
    stays_by_none body none

pub returns-in-If : goal.returns-in-If
returns-in-If c =
    let body = c.args.body.now in let i = c.in-If in
    let empty = c.is_empty.ensures in let not_empty = c.if-is_empty.false in
    let some : 0 < length body = grind (arith, nat_tests) in
    c.only_leaves.ensures ∙ ap (λ (l : List Step). only_leaves (actions_of l)) c.deref.ensures.value
    ∙ leaves_by_if body c.index-body-0.result i.field-0 i.field-1 i.field-2 i.q some c.index-body-0.is i.is

pub returns-in-Act : goal.returns-in-Act
returns-in-Act c =
    let body = c.args.body.now in let i = c.in-Act in
    let empty = c.is_empty.ensures in let not_empty = c.if-is_empty.false in
    let some : 0 < length body = grind (arith, nat_tests) in
    stays_by_act body c.index-body-0.result i.field-0 i.field-1 some c.index-body-0.is i.is

pub returns-in-Loop : goal.returns-in-Loop
returns-in-Loop c =
    let body = c.args.body.now in let i = c.in-Loop in
    let empty = c.is_empty.ensures in let not_empty = c.if-is_empty.false in
    let some : 0 < length body = grind (arith, nat_tests) in
    stays_by_loop body c.index-body-0.result i.field-0 i.field-1 i.field-2 some c.index-body-0.is i.is
