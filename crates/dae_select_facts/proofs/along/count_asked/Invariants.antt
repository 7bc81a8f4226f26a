use Rattle.dae_select_facts.proofs.Asked.{AreAsked}
use Rattle.dae_select_facts.proofs.along.count_asked.Given as goal

abbrev pub invariant-loop-index : goal.invariant-loop-index
invariant-loop-index l = AreAsked l.steps l.asked l.index
