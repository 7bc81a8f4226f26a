use Rattle.dae_types_tables.proofs.checker.Checker.+layout_within.Given as goal

abbrev pub decreases-layout_within : goal.decreases-layout_within
decreases-layout_within l = l.depth
