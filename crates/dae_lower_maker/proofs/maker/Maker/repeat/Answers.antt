use Rattle.dae_ir.specs.Code.{Done, Loop}
use Rattle.dae_ir.specs.Form.{form_of}
use Rattle.dae_ir.specs.declared.form.Statement.TheVariants as statement
use Rattle.dae_ir.proofs.Laws.{before_loop}
use Rattle.dae_lower_maker.proofs.Rows.{statement_written}
use Rattle.dae_lower_maker.proofs.maker.Maker.repeat.Goals as goal

pub returns : goal.returns
returns c = rw (c.in_ok-push.ensures.items) (statement_written c.args.self.now.statements.items c.args.self.now.next (statement.Loop c.args.place c.args.body c.args.step) (Loop c.args.place (form_of c.args.body.items) (form_of c.args.step.items) Done) (before_loop c.args.place c.args.body c.args.step Done))
