use Rattle.dae_select_facts.specs.Knowns.{facts_by}
use Rattle.dae_elide.specs.Walked.{chosen_by}
use Rattle.dae_elide.proofs.Walked.{AreElided}
use Rattle.dae_elide.proofs.eliding.+elide.Given as goal

abbrev pub invariant-elide_list-loop-index : goal.invariant-elide_list-loop-index
invariant-elide_list-loop-index l =
    AreElided l.memory (chosen_by l.classes) (facts_by l.fn.known) l.statements l.index (facts_by l.known) l.new.items
