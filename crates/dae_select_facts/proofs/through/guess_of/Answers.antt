use Rattle.std.proofs.Common.{ℕ, [], List, sym, ap, ◌∙◌}
use Rattle.std.proofs.lemmas.List.{append-nil}
use Rattle.dae_ir.specs.Streams.{actions_of}
use Rattle.dae_select_walks.specs.Facts.{counter_in, counters}
use Rattle.dae_select_facts.specs.Knowns.{facts_by}
use Rattle.dae_select_facts.proofs.through.guess_of.Goals as goal

pub returns-in-None-counter_in : goal.returns-in-None-counter_in
returns-in-None-counter_in c =
    let a = c.args in let facts = facts_by a.known.now in
    sym (c.in-None.ensures (counter_in a.test.right) facts
    ∙ (ap (λ (l : List ℕ). counters l (actions_of a.body.now) (actions_of a.step.now) facts) (sym (append-nil (counter_in a.test.right))) ∙ c.in-None-counter_in.ensures [] facts))
