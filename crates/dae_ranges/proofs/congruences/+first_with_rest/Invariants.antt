use Rattle.dae_ranges.proofs.congruences.+first_with_rest.Given as goal

abbrev pub decreases-first_with_rest : goal.decreases-first_with_rest
decreases-first_with_rest l = l.factor
