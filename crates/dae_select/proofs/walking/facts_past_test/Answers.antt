use Rattle.std.proofs.Common.{◌≡◌, ◌<◌, List, length, ap, sym, ◌∙◌, arith}
use Rattle.std.proofs.lemmas.Bool.Decides.{nat_tests}
use Rattle.std.proofs.lemmas.Result.{IfOk-weaker}
use Rattle.dae_ir.specs.Streams.{actions_of}
use Rattle.dae_ir.specs.declared.stream.Step.{Step}
use Rattle.dae_select_walks.specs.Facts.{facts_past_if}
use Rattle.dae_select_facts.specs.Knowns.{facts_by}
use Rattle.dae_select.proofs.Counted.{tail_done, tail_if, tail_act, tail_loop}
use Rattle.dae_select.proofs.walking.facts_past_test.Goals as goal

pub returns-then-is_empty : goal.returns-then-is_empty
returns-then-is_empty c = λ t.
    let empty = c.is_empty.ensures in let is = c.if-is_empty.true in
    let none : length c.args.body.now ≡ 0 = grind (arith, nat_tests) in
    sym (tail_done t c.args.body.now (facts_by c.args.turn) none)

pub returns-in-If : goal.returns-in-If
returns-in-If c =
    let body = c.args.body.now in let turn = facts_by c.args.turn in let i = c.in-If in
    let empty = c.is_empty.ensures in let not_empty = c.if-is_empty.false in
    let some : 0 < length body = grind (arith, nat_tests) in
    IfOk-weaker c.facts_past_if.result _ _ (λ new h t.
    h ∙ ap (λ (l : List Step). facts_past_if i.branch (actions_of l) (actions_of c.deref-in-If.result.now) turn) c.deref.ensures.value
    ∙ ap (λ (l : List Step). facts_past_if i.branch (actions_of i.p.items) (actions_of l) turn) c.deref-in-If.ensures.value
    ∙ sym (tail_if t body turn c.index-body-0.result i.field-0 i.branch i.p i.q some c.index-body-0.is i.is)) c.facts_past_if.ensures

pub returns-in-Act : goal.returns-in-Act
returns-in-Act c = λ t.
    let body = c.args.body.now in let i = c.in-Act in
    let empty = c.is_empty.ensures in let not_empty = c.if-is_empty.false in
    let some : 0 < length body = grind (arith, nat_tests) in
    sym (tail_act t body (facts_by c.args.turn) c.index-body-0.result i.field-0 i.field-1 some c.index-body-0.is i.is)

pub returns-in-Loop : goal.returns-in-Loop
returns-in-Loop c = λ t.
    let body = c.args.body.now in let i = c.in-Loop in
    let empty = c.is_empty.ensures in let not_empty = c.if-is_empty.false in
    let some : 0 < length body = grind (arith, nat_tests) in
    sym (tail_loop t body (facts_by c.args.turn) c.index-body-0.result i.field-0 i.field-1 i.field-2 some c.index-body-0.is i.is)
