use Rattle.std.proofs.Common.{ap, sym, ◌∙◌, Option}
use Rattle.std.proofs.lemmas.Result.{IfOk-weaker}
use Rattle.dae_ir.specs.Streams.{actions_of}
use Rattle.dae_select_facts.specs.Knowns.{facts_by}
use Rattle.dae_select.specs.declared.making.PlacedBranch.{PlacedBranch}
use Rattle.dae_select.specs.Growing.{facts_in_tail}
use Rattle.dae_select.proofs.walking.facts_of_turn.Goals as goal

pub returns-in-None : goal.returns-in-None
returns-in-None c = sym (ap (λ (o : Option PlacedBranch). facts_in_tail o (actions_of c.args.body.now) (facts_by c.args.turn)) c.in-None.is)

pub returns-in-Some : goal.returns-in-Some
returns-in-Some c =
    IfOk-weaker c.facts_past_test.result _ _ (λ new h. h c.in-Some.field-0 ∙ sym (ap (λ (o : Option PlacedBranch). facts_in_tail o (actions_of c.args.body.now) (facts_by c.args.turn)) c.in-Some.is)) c.facts_past_test.ensures
