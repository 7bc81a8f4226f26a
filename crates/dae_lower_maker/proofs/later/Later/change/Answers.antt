use Rattle.dae_lower_maker.proofs.later.Later.change.Goals as goal

pub returns-in_ok-add-in-Add : goal.returns-in_ok-add-in-Add
returns-in_ok-add-in-Add c = rw (c.in-Add.is) (c.in_ok-add-in-Add.ensures)
