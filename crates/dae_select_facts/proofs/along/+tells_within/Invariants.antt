use Rattle.dae_select_facts.proofs.along.+tells_within.Given as goal

abbrev pub decreases-tells_within : goal.decreases-tells_within
decreases-tells_within l = l.count
