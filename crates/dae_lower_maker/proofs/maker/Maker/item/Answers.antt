use Rattle.std.proofs.Common.{refl}
use Rattle.dae_lower.specs.Lowering.{one, only}
use Rattle.dae_lower_maker.specs.Making.{so_far}
use Rattle.dae_lower_maker.proofs.Rows.{exact_written}
use Rattle.dae_lower_maker.proofs.maker.Maker.item.Goals as goal

pub returns : goal.returns
returns c = exact_written (only (one c.args.place c.args.item) (tt {0}) c.args.self.now.next) (so_far c.args.self.now) (so_far c.put.new.self) tt c.in_ok-put.ensures refl
