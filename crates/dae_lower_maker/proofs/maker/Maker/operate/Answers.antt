use Rattle.std.proofs.Common.{refl}
use Rattle.dae_ir.specs.declared.form.Check.TheVariants.{Zero}
use Rattle.dae_ir.specs.declared.form.Item.TheVariants.{Assign, Expect}
use Rattle.dae_ir.specs.declared.form.Value.TheVariants.{Binary}
use Rattle.dae_lower_maker.specs.Making.{so_far}
use Rattle.dae_lower_maker.proofs.Rows.{checked_written}
use Rattle.dae_lower_maker.proofs.maker.Maker.operate.Goals as goal

pub returns : goal.returns
returns c = checked_written _ c.args.place (Expect (Zero c.args.y)) (λ n. Assign n (Binary c.args.operator c.args.x c.args.y)) c.args.self.now.next (so_far c.args.self.now) (so_far c.item_if.new.self) (so_far c.set.new.self) _ _ refl (rw (c.is_checked-flag.ensures) at (c.in_ok-item_if.ensures)) c.in_ok-z.ensures
