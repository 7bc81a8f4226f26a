use Rattle.dae_types_products.proofs.functions.+count_parameters_from.Given as goal

abbrev pub decreases-count_parameters_from : goal.decreases-count_parameters_from
decreases-count_parameters_from l = l.depth
