use Rattle.dae_ir.specs.Code.{Done, If}
use Rattle.dae_ir.specs.Form.{form_of}
use Rattle.dae_ir.specs.declared.form.Statement.TheVariants as statement
use Rattle.dae_ir.proofs.Laws.{before_if}
use Rattle.dae_lower_maker.proofs.Rows.{statement_written}
use Rattle.dae_lower_maker.proofs.maker.Maker.choice.Goals as goal

pub returns : goal.returns
returns c = rw (c.in_ok-push.ensures.items) (statement_written c.args.self.now.statements.items c.args.self.now.next (statement.If c.args.place c.args.test c.args.yes c.args.no) (If c.args.place c.args.test (form_of c.args.yes.items) (form_of c.args.no.items) Done) (before_if c.args.place c.args.test c.args.yes c.args.no Done))
