use Rattle.dae_meaning.specs.declared.Operator.TheVariants.{Add}
use Rattle.dae_ir.specs.declared.form.Operand.TheVariants.{Number}
use Rattle.dae_ir.specs.declared.form.Value.TheVariants.{Binary}
use Rattle.dae_lower.specs.Lowering.{set, narrowed, put_in, ◌≫◌}
use Rattle.dae_lower_maker.specs.Making.{so_far, spot_of}
use Rattle.dae_lower_maker.proofs.Rows.{written_on}
use Rattle.dae_lower_maker.proofs.maker.Maker.advance.Goals as goal

pub returns : goal.returns
returns c =
    written_on (set c.args.lvalue.place (Binary Add c.args.x (Number c.args.change)) c.args.self.now.next) (λ z n. narrowed c.args.lvalue.place c.args.lvalue.kind z n ≫ put_in c.args.lvalue.place c.args.lvalue.kind (spot_of c.args.lvalue.spot)) (so_far c.args.self.now) (so_far c.set.new.self) (so_far c.put_in.new.self) _ _ c.in_ok-z.ensures
    (written_on (narrowed c.args.lvalue.place c.args.lvalue.kind c.in_ok-z.z c.set.new.self.next) (put_in c.args.lvalue.place c.args.lvalue.kind (spot_of c.args.lvalue.spot)) (so_far c.set.new.self) (so_far c.narrow.new.self) (so_far c.put_in.new.self) _ _ c.in_ok-w.ensures c.in_ok-y.ensures)
