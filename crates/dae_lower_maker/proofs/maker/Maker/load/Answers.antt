use Rattle.std.proofs.Common.{ℕ, refl, ap, arith}
use Rattle.dae_ir.specs.Form.{form_of}
use Rattle.dae_ir.specs.declared.form.Operand.TheVariants.{Variable}
use Rattle.dae_lower_maker.specs.Making.{loaded_next, so_far}
use Rattle.dae_lower_maker.proofs.Rows.{set_written}
use Rattle.dae_lower_maker.proofs.maker.Maker.load.Goals as goal

pub returns : goal.returns
returns c =
    let made = loaded_next c.args.place c.args.kind c.args.x c.args.self.now.next in
    let code = form_of c.put.new.self.statements.items in
    set_written made (so_far c.args.self.now) (so_far c.put.new.self) (record { code = code; next = c.after-self.result }) (Variable c.args.self.now.next)
    c.in_ok-put.ensures (ap (λ (n : ℕ). record { code = code; next = n }) c.after-self.ensures) refl refl (omega arith)
