use Rattle.std.proofs.Common.{◌≡◌, ℕ, Bool, ◌||◌, List, ap, ◌∙◌, arith}
use Rattle.std.specs.Prelude.{nat_eq}
use Rattle.std.proofs.lemmas.Result.{on_ok_weaker}
use Rattle.dae_ir.specs.Classes.{VariableSet}
use Rattle.dae_ir.specs.Streams.{Actions, actions_of}
use Rattle.dae_ir.specs.declared.stream.Step.{Step}
use Rattle.dae_select_walks.specs.Live.{with_all, only}
use Rattle.dae_select_walks.specs.Facts.{is_set}
use Rattle.dae_select_live.specs.Members.{member}
use Rattle.dae_select_facts.proofs.Setting.{sets_if, sets_loop, adds_none, adds_one, adds_two, one_added, all_added}
use Rattle.dae_select_facts.proofs.sets.+adds.Goals as goal

pub add_sets_of_step-returns-in-None : goal.add_sets_of_step-returns-in-None
add_sets_of_step-returns-in-None t c = λ v k.
    let i = c.in-Act in
    adds_none c.args.step.now i.field-0 i.action v k (member c.args.set.now v) i.is (ap (λ (s : VariableSet). s v) c.in-None.ensures)

pub add_sets_of_step-returns-in-Some : goal.add_sets_of_step-returns-in-Some
add_sets_of_step-returns-in-Some t c =
    let i = c.in-Act in
    on_ok_weaker c.insert.result (λ (h : member c.insert.new.self ≡ with_all (only c.in-Some.variable) (member c.args.set.now)) (v : ℕ) (k : Actions). adds_one c.args.step.now i.field-0 i.action v k (nat_eq v c.in-Some.variable) (member c.args.set.now v) (member c.insert.new.self v) i.is
    (ap (λ (s : VariableSet). s v) c.in-Some.ensures) (ap (λ (s : VariableSet). s v) h)) c.insert.ensures

pub add_sets_of_step-returns-in_ok-add_sets-in-If : goal.add_sets_of_step-returns-in_ok-add_sets-in-If
add_sets_of_step-returns-in_ok-add_sets-in-If t c =
    let i = c.in-If in let old = member c.args.set.now in let mid = member c.add_sets.new.set in let new = member c.add_sets-in-If.new.set in
    on_ok_weaker c.add_sets-in-If.result (λ h v k.
    ap (λ (b : Bool). b || old v) (sets_if c.args.step.now i.field-0 i.field-1 i.p i.q k v i.is)
    ∙ adds_two (is_set (actions_of i.p.items) v) (is_set (actions_of i.q.items) v) (is_set k v) (old v) (mid v) (new v)
    (c.in_ok-add_sets-in-If.ensures v ∙ ap (λ (l : List Step). is_set (actions_of l) v || old v) c.deref.ensures.value)
    (h v ∙ ap (λ (l : List Step). is_set (actions_of l) v || mid v) c.deref-in-If.ensures.value)) c.add_sets-in-If.ensures

pub add_sets_of_step-returns-in_ok-add_sets-in-Loop : goal.add_sets_of_step-returns-in_ok-add_sets-in-Loop
add_sets_of_step-returns-in_ok-add_sets-in-Loop t c =
    let i = c.in-Loop in let old = member c.args.set.now in let mid = member c.add_sets-in-Loop.new.set in let new = member c.add_sets-in-Loop-2.new.set in
    on_ok_weaker c.add_sets-in-Loop-2.result (λ h v k.
    ap (λ (b : Bool). b || old v) (sets_loop c.args.step.now i.field-0 i.body i.step k v i.is)
    ∙ adds_two (is_set (actions_of i.body.items) v) (is_set (actions_of i.step.items) v) (is_set k v) (old v) (mid v) (new v)
    (c.in_ok-add_sets-in-Loop.ensures v ∙ ap (λ (l : List Step). is_set (actions_of l) v || old v) c.deref-in-Loop.ensures.value)
    (h v ∙ ap (λ (l : List Step). is_set (actions_of l) v || mid v) c.deref-in-Loop-2.ensures.value)) c.add_sets-in-Loop-2.ensures

pub add_sets-loop-index-preserved : goal.add_sets-loop-index-preserved
add_sets-loop-index-preserved t c =
    let lt = c.loop-index-test.true in
    one_added c.args.steps.now c.loop-index.index c.index-steps-index.result (member c.args.set.now) (member c.loop-index.set) (member c.add_sets_of_step.new.set) (omega arith) c.index-steps-index.is c.in_ok-add_sets_of_step.ensures c.loop-index.invariant

pub add_sets-returns : goal.add_sets-returns
add_sets-returns t c =
    let le = c.loop-index-test.false in
    all_added c.args.steps.now c.loop-index.index (member c.args.set.now) (member c.loop-index.set) (omega arith) c.loop-index.invariant
