use Rattle.std.proofs.Common.{List, ap, ◌∙◌}
use Rattle.dae_ir.specs.Streams.{actions_of}
use Rattle.dae_ir.specs.declared.stream.Step.{Step}
use Rattle.dae_select_walks.specs.Facts.{is_set}
use Rattle.dae_select_facts.proofs.Setting.{sets_if, sets_loop, first_sets, second_sets}
use Rattle.dae_select_facts.proofs.sets.+sets.Goals as goal

pub step_sets-returns-then-list_sets : goal.step_sets-returns-then-list_sets
step_sets-returns-then-list_sets t c k =
    let v = c.args.variable in let i = c.in-If in
    let e = c.list_sets.ensures ∙ ap (λ (l : List Step). is_set (actions_of l) v) c.deref.ensures.value in
    sets_if c.args.step.now i.field-0 i.field-1 i.p i.q k v i.is
    ∙ first_sets (is_set (actions_of i.p.items) v) (is_set (actions_of i.q.items) v) (is_set k v) c.list_sets.result e c.if-list_sets.true

pub step_sets-returns-else-list_sets : goal.step_sets-returns-else-list_sets
step_sets-returns-else-list_sets t c k =
    let v = c.args.variable in let i = c.in-If in
    let e = c.list_sets.ensures ∙ ap (λ (l : List Step). is_set (actions_of l) v) c.deref.ensures.value in
    let h = c.list_sets-else-list_sets.ensures ∙ ap (λ (l : List Step). is_set (actions_of l) v) c.deref-else-list_sets.ensures.value in
    sets_if c.args.step.now i.field-0 i.field-1 i.p i.q k v i.is
    ∙ second_sets (is_set (actions_of i.p.items) v) (is_set (actions_of i.q.items) v) (is_set k v) c.list_sets.result c.list_sets-else-list_sets.result e c.if-list_sets.false h

pub step_sets-returns-then-list_sets-2 : goal.step_sets-returns-then-list_sets-2
step_sets-returns-then-list_sets-2 t c k =
    let v = c.args.variable in let i = c.in-Loop in
    let e = c.list_sets-in-Loop.ensures ∙ ap (λ (l : List Step). is_set (actions_of l) v) c.deref-in-Loop.ensures.value in
    sets_loop c.args.step.now i.field-0 i.body i.step k v i.is
    ∙ first_sets (is_set (actions_of i.body.items) v) (is_set (actions_of i.step.items) v) (is_set k v) c.list_sets-in-Loop.result e c.if-list_sets-2.true

pub step_sets-returns-else-list_sets-2 : goal.step_sets-returns-else-list_sets-2
step_sets-returns-else-list_sets-2 t c k =
    let v = c.args.variable in let i = c.in-Loop in
    let e = c.list_sets-in-Loop.ensures ∙ ap (λ (l : List Step). is_set (actions_of l) v) c.deref-in-Loop.ensures.value in
    let h = c.list_sets-else-list_sets-2.ensures ∙ ap (λ (l : List Step). is_set (actions_of l) v) c.deref-else-list_sets-2.ensures.value in
    sets_loop c.args.step.now i.field-0 i.body i.step k v i.is
    ∙ second_sets (is_set (actions_of i.body.items) v) (is_set (actions_of i.step.items) v) (is_set k v) c.list_sets-in-Loop.result c.list_sets-else-list_sets-2.result e c.if-list_sets-2.false h
