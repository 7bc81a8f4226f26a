use Rattle.std.specs.Prelude.{◌≡◌, drop}
use Rattle.dae_select_walks.specs.Facts.{bounds_among}
use Rattle.dae_select_facts.proofs.known.bounds_among.Given as goal

abbrev pub invariant-loop-fact : goal.invariant-loop-fact
invariant-loop-fact l = bounds_among (drop l.fact-index l.facts) l.variable l.otherwise ≡ bounds_among l.facts l.variable l.otherwise
