use Rattle.std.specs.Prelude.{◌≡◌, drop}
use Rattle.dae_select_walks.specs.Facts.{affine_among}
use Rattle.dae_select_facts.proofs.affine.affine_among.Given as goal

abbrev pub invariant-loop-fact : goal.invariant-loop-fact
invariant-loop-fact l = affine_among (drop l.fact-index l.facts) l.variable l.otherwise ≡ affine_among l.facts l.variable l.otherwise
