use Rattle.dae_slice.proofs.items.seed_address.Goals as goal

pub returns-in-Place : goal.returns-in-Place
returns-in-Place c = rw c.in-Place.is c.seed_operand.ensures

pub returns-in-InBounds : goal.returns-in-InBounds
returns-in-InBounds c = rw c.in-InBounds.is c.seed_operand-in-InBounds.ensures
