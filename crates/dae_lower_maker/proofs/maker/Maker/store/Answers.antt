use Rattle.dae_base.specs.Words.{width_of}
use Rattle.dae_ir.specs.declared.form.Check.TheVariants.{Place}
use Rattle.dae_ir.specs.declared.form.Item.TheVariants.{Expect, Store}
use Rattle.dae_lower_maker.specs.Making.{so_far}
use Rattle.dae_lower_maker.proofs.Rows.{checked_item}
use Rattle.dae_lower_maker.proofs.maker.Maker.store.Goals as goal

pub returns : goal.returns
returns c = checked_item c.args.location.checked c.args.place (Expect (Place (width_of c.args.kind) c.args.location.address)) (Store (width_of c.args.kind) c.args.location.address c.args.y) (so_far c.args.self.now) (so_far c.check.new.self) (so_far c.item.new.self) _ _ c.args.y c.in_ok-check.ensures (rw (c.width.ensures) at (c.in_ok-item.ensures))
