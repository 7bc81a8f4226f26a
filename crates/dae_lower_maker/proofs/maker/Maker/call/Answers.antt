use Rattle.std.proofs.Common.{ℕ, refl, ap, arith}
use Rattle.dae_ir.specs.Form.{form_of}
use Rattle.dae_ir.specs.declared.form.Check.TheVariants.{Room}
use Rattle.dae_ir.specs.declared.form.Item.TheVariants.{Expect, Call}
use Rattle.dae_ir.specs.declared.form.Operand.TheVariants.{Variable}
use Rattle.dae_lower_maker.specs.Making.{called_with, so_far}
use Rattle.dae_lower_maker.proofs.Rows.{items_wrote, set_written}
use Rattle.dae_lower_maker.proofs.maker.Maker.call.Goals as goal

pub returns : goal.returns
returns c =
    let old = c.args.self.now in
    let made = called_with c.args.place c.args.function c.args.arguments old.next in
    let code = form_of c.put-2.new.self.statements.items in
    set_written made (so_far old) (so_far c.put-2.new.self) (record { code = code; next = c.after-self.result }) (Variable old.next)
    (items_wrote c.args.place (Expect (Room c.args.function)) (Call old.next c.args.function c.args.arguments) (so_far old) (so_far c.put.new.self) (so_far c.put-2.new.self) c.in_ok-put.ensures c.in_ok-put-2.ensures)
    (ap (λ (n : ℕ). record { code = code; next = n }) c.after-self.ensures) refl refl (omega arith)
