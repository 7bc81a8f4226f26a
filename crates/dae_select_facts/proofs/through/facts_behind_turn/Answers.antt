use Rattle.std.proofs.Common.{◌≡◌, ◌<◌, true, false, List, length, drop, sym, ap, ◌∙◌, arith}
use Rattle.std.proofs.lemmas.Bool.Decides.{nat_tests}
use Rattle.std.proofs.lemmas.Result.{IfOk-weaker}
use Rattle.dae_ir.specs.Streams.{actions_of}
use Rattle.dae_ir.specs.declared.stream.Step.{Step}
use Rattle.dae_select_walks.specs.declared.Fact.{Fact}
use Rattle.dae_select_walks.specs.Facts.{Facts, is_set, less, at_begin, only_leaves, facts_past_if}
use Rattle.dae_select_facts.specs.Knowns.{facts_by}
use Rattle.dae_select_facts.proofs.Turning.{rest_is, begins_if, turn_leaves, turn_stays}
use Rattle.dae_select_facts.proofs.through.facts_behind_turn.Goals as goal

pub returns-in_ok-past-in-If : goal.returns-in_ok-past-in-If
returns-in_ok-past-in-If c =
    let body = c.args.body.now in let turn = facts_by c.args.turn.now in let i = c.in-If in
    let empty = c.is_empty.ensures in let not_empty = c.if-is_empty.false in
    let some : 0 < length body = grind (arith, nat_tests) in
    let whole = begins_if body c.index-body-0.result i.field-0 i.branch i.p i.q some c.index-body-0.is i.is in
    let P = actions_of i.p.items in let Q = actions_of i.q.items in let rest = actions_of (drop 1 body) in
    let only : only_leaves Q ≡ true = sym (c.only_leaves.ensures ∙ ap (λ (l : List Step). only_leaves (actions_of l)) c.deref.ensures.value) ∙ c.if-only_leaves.true in
    let past : facts_by c.in_ok-past-in-If.past ≡ facts_past_if i.branch P Q turn =
    c.in_ok-past-in-If.ensures ∙ ap (λ (l : List Step). facts_past_if i.branch (actions_of l) (actions_of c.deref-then-only_leaves-2.result.now) turn) c.deref-then-only_leaves.ensures.value
    ∙ ap (λ (l : List Step). facts_past_if i.branch P (actions_of l) turn) c.deref-then-only_leaves-2.ensures.value in
    let outer = c.as_slice-then-only_leaves.ensures.value ∙ ap (λ (f : Facts). f.outer) past in
    IfOk-weaker c.begin_unset-then-only_leaves.result _ _ (λ new h. h ∙ ap (λ (z : List Step). at_begin (less (is_set (actions_of z)) c.as_slice-then-only_leaves.result.now)) (rest_is 1 body) ∙ ap (λ (l : List Fact). at_begin (less (is_set rest) l)) outer ∙ sym (turn_leaves turn (actions_of body) i.field-0 i.branch P Q rest whole only)) c.begin_unset-then-only_leaves.ensures

pub returns-else-only_leaves : goal.returns-else-only_leaves
returns-else-only_leaves c =
    let body = c.args.body.now in let turn = facts_by c.args.turn.now in let i = c.in-If in
    let empty = c.is_empty.ensures in let not_empty = c.if-is_empty.false in
    let some : 0 < length body = grind (arith, nat_tests) in
    let whole = begins_if body c.index-body-0.result i.field-0 i.branch i.p i.q some c.index-body-0.is i.is in
    let P = actions_of i.p.items in let Q = actions_of i.q.items in let rest = actions_of (drop 1 body) in
    let only : only_leaves Q ≡ false = sym (c.only_leaves.ensures ∙ ap (λ (l : List Step). only_leaves (actions_of l)) c.deref.ensures.value) ∙ c.if-only_leaves.false in
    IfOk-weaker c.begin_unset-else-only_leaves.result _ _ (λ new h. h ∙ ap (λ (l : List Fact). at_begin (less (is_set (actions_of body)) l)) c.as_slice-else-only_leaves.ensures.value ∙ sym (turn_stays turn (actions_of body) i.field-0 i.branch P Q rest whole only)) c.begin_unset-else-only_leaves.ensures
