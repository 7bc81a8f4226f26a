use Rattle.std.specs.Prelude.{◌≡◌, ◌<◌}
use Rattle.dae_select_facts.specs.Knowns.{facts_by}
use Rattle.dae_select_facts.specs.Along.{facts_at}
use Rattle.dae_select_facts.proofs.Lists.{BeforeFirst}
use Rattle.dae_select_facts.proofs.along.all_before.Given as goal

abbrev pub invariant-loop-index : goal.invariant-loop-index
invariant-loop-index l = record {
  all : BeforeFirst l.memory (facts_by l.fn.known) l.steps l.all.items l.index;
  known : l.index < l.asked → facts_by l.known ≡ facts_at l.memory (facts_by l.fn.known) l.steps l.index;
}

abbrev pub invariant-loop-place : goal.invariant-loop-place
invariant-loop-place l = BeforeFirst l.memory (facts_by l.fn.known) l.steps l.all.items l.place
