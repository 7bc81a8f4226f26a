use Rattle.dae_select_facts.proofs.Setting.{SetsFrom}
use Rattle.dae_select_facts.proofs.sets.+sets.Given as goal

abbrev pub invariant-list_sets-loop-index : goal.invariant-list_sets-loop-index
invariant-list_sets-loop-index l = SetsFrom l.steps l.index l.variable
