use Rattle.dae_select_live.specs.Members.{member}
use Rattle.dae_select_facts.proofs.Setting.{AddsFrom}
use Rattle.dae_select_facts.proofs.sets.+adds.Given as goal

abbrev pub invariant-add_sets-loop-index : goal.invariant-add_sets-loop-index
invariant-add_sets-loop-index l = AddsFrom l.steps l.index (member l.fn.set) (member l.set)
