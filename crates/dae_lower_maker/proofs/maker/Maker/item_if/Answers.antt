use Rattle.dae_lower_maker.specs.Making.{so_far}
use Rattle.dae_lower_maker.proofs.Rows.{nothing_written}
use Rattle.dae_lower_maker.proofs.maker.Maker.item_if.Goals as goal

pub returns-else-flag : goal.returns-else-flag
returns-else-flag c = rw (c.if-flag.false) (nothing_written (so_far c.args.self.now) tt)
