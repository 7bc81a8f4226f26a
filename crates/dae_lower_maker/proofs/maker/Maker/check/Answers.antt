use Rattle.dae_lower_maker.proofs.maker.Maker.check.Goals as goal

pub returns : goal.returns
returns c = rw (c.width.ensures) at (c.in_ok-item_if.ensures)
