use Rattle.dae_lower.specs.Lowering.{operated, narrowed, put_in, ◌≫◌}
use Rattle.dae_lower_maker.specs.Making.{so_far, spot_of}
use Rattle.dae_lower_maker.proofs.Rows.{written_on}
use Rattle.dae_lower_maker.proofs.maker.Maker.update.Goals as goal

pub returns : goal.returns
returns c =
    written_on (operated c.args.lvalue.place c.args.operator c.args.x c.args.y c.args.self.now.next) (λ z n. narrowed c.args.lvalue.place c.args.lvalue.kind z n ≫ put_in c.args.lvalue.place c.args.lvalue.kind (spot_of c.args.lvalue.spot)) (so_far c.args.self.now) (so_far c.operate.new.self) (so_far c.put_in.new.self) _ _ c.in_ok-z.ensures
    (written_on (narrowed c.args.lvalue.place c.args.lvalue.kind c.in_ok-z.z c.operate.new.self.next) (put_in c.args.lvalue.place c.args.lvalue.kind (spot_of c.args.lvalue.spot)) (so_far c.operate.new.self) (so_far c.narrow.new.self) (so_far c.put_in.new.self) _ _ c.in_ok-w.ensures c.in_ok-result.ensures)
