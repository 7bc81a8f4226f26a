use Rattle.dae_types_typed.proofs.files.FileParts.+layout_within.Given as goal

abbrev pub decreases-layout_within : goal.decreases-layout_within
decreases-layout_within l = l.depth
