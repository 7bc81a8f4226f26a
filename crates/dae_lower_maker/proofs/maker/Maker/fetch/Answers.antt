use Rattle.std.proofs.Common.{refl}
use Rattle.dae_base.specs.Words.{width_of}
use Rattle.dae_ir.specs.declared.form.Check.TheVariants.{Place}
use Rattle.dae_ir.specs.declared.form.Item.TheVariants.{Expect, Load}
use Rattle.dae_lower_maker.specs.Making.{so_far}
use Rattle.dae_lower_maker.proofs.Rows.{checked_written}
use Rattle.dae_lower_maker.proofs.maker.Maker.fetch.Goals as goal

pub returns : goal.returns
returns c = checked_written c.args.location.checked c.args.place (Expect (Place (width_of c.args.kind) c.args.location.address)) (λ n. Load n c.args.kind c.args.location.address) c.args.self.now.next (so_far c.args.self.now) (so_far c.check.new.self) (so_far c.load.new.self) _ _ refl c.in_ok-check.ensures c.in_ok-z.ensures
