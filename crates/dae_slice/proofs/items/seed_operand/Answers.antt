use Rattle.dae_slice.proofs.items.seed_operand.Goals as goal

pub returns-in_ok-seed : goal.returns-in_ok-seed
returns-in_ok-seed c = rw c.in-Variable.is c.in_ok-seed.ensures
