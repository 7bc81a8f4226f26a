use Rattle.std.specs.Prelude.{◌≡◌, drop}
use Rattle.dae_ir.specs.Streams.{actions_of}
use Rattle.dae_select_walks.specs.Facts.{behind_straight}
use Rattle.dae_select_facts.specs.Knowns.{facts_by}
use Rattle.dae_select_facts.proofs.through.behind_straight.Given as goal

abbrev pub invariant-loop-index : goal.invariant-loop-index
invariant-loop-index l = behind_straight l.memory (actions_of (drop l.index l.steps)) (facts_by l.known) ≡ behind_straight l.memory (actions_of l.steps) (facts_by l.fn.known)
