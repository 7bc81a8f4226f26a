use Rattle.std.proofs.Common.{List, sym, ap, ◌∙◌}
use Rattle.std.proofs.lemmas.Result.{IfOk-weaker}
use Rattle.dae_ir.specs.Streams.{actions_of}
use Rattle.dae_ir.specs.declared.stream.Step.{Step}
use Rattle.dae_select_walks.specs.Facts.{facts_past_if, facts_past_loop}
use Rattle.dae_select_facts.specs.Knowns.{facts_by}
use Rattle.dae_select_facts.proofs.Lists.{past_if, past_loop}
use Rattle.dae_select_facts.proofs.along.facts_after.Goals as goal

pub returns-in-If : goal.returns-in-If
returns-in-If c =
    let a = c.args in let i = c.in-If in let facts = facts_by a.known in
    IfOk-weaker c.facts_past_if.result _ _ (λ new h. h ∙ ap (λ (l : List Step). facts_past_if i.branch (actions_of l) (actions_of c.deref-in-If.result.now) facts) c.deref.ensures.value
    ∙ ap (λ (l : List Step). facts_past_if i.branch (actions_of i.p.items) (actions_of l) facts) c.deref-in-If.ensures.value
    ∙ sym (past_if a.memory facts a.step.now i.field-0 i.branch i.p i.q i.is)) c.facts_past_if.ensures

pub returns-in-Loop : goal.returns-in-Loop
returns-in-Loop c =
    let a = c.args in let i = c.in-Loop in let facts = facts_by a.known in
    IfOk-weaker c.facts_past_loop.result _ _ (λ new h. h ∙ ap (λ (l : List Step). facts_past_loop (actions_of l) (actions_of c.deref-in-Loop-2.result.now) facts) c.deref-in-Loop.ensures.value
    ∙ ap (λ (l : List Step). facts_past_loop (actions_of i.body.items) (actions_of l) facts) c.deref-in-Loop-2.ensures.value
    ∙ sym (past_loop a.memory facts a.step.now i.field-0 i.body i.step i.is)) c.facts_past_loop.ensures
