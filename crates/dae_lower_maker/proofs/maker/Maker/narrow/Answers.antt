use Rattle.dae_lower_maker.specs.Making.{so_far}
use Rattle.dae_lower_maker.proofs.Rows.{nothing_written}
use Rattle.dae_lower_maker.proofs.maker.Maker.narrow.Goals as goal

pub returns-in-I32 : goal.returns-in-I32
returns-in-I32 c = rw (c.in-I32.is) (nothing_written (so_far c.args.self.now) c.args.x)
