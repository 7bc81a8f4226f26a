use Rattle.dae_ir.specs.declared.form.Item.TheVariants.{Assign}
use Rattle.dae_ir.specs.declared.form.Value.TheVariants.{Same}
use Rattle.dae_lower_maker.specs.Making.{so_far}
use Rattle.dae_lower_maker.proofs.Rows.{item_given}
use Rattle.dae_lower_maker.proofs.maker.Maker.put_in.Goals as goal

pub returns-in_ok-item-in-Variable : goal.returns-in_ok-item-in-Variable
returns-in_ok-item-in-Variable c = rw (c.in-Variable.is) (item_given c.args.lvalue.place (Assign c.in-Variable.v (Same c.args.y)) (so_far c.args.self.now) (so_far c.item.new.self) _ c.args.y c.in_ok-item-in-Variable.ensures)
