use Rattle.std.specs.Prelude.{◌≡◌, drop}
use Rattle.dae_select_walks.specs.Facts.{equal_among}
use Rattle.dae_select_facts.proofs.affine.equal_among.Given as goal

abbrev pub invariant-loop-fact : goal.invariant-loop-fact
invariant-loop-fact l = equal_among (drop l.fact-index l.facts) l.affine l.otherwise ≡ equal_among l.facts l.affine l.otherwise
