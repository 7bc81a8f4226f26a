use Rattle.std.proofs.Common.{sym, ◌∙◌}
use Rattle.dae_ir.specs.declared.form.Operand.TheVariants.{Variable}
use Rattle.dae_lower_maker.specs.Making.{so_far}
use Rattle.dae_lower_maker.proofs.Rows.{nothing_written}
use Rattle.dae_lower_maker.proofs.maker.Maker.variable.Goals as goal

pub returns-in_ok-x : goal.returns-in_ok-x
returns-in_ok-x c = rw (sym c.has.ensures ∙ c.if-has.true) (c.in_ok-x.ensures)

pub returns-else-has : goal.returns-else-has
returns-else-has c = rw (sym c.has.ensures ∙ c.if-has.false) (nothing_written (so_far c.args.self.now) (Variable c.args.v))
