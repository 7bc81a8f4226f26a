use Rattle.std.proofs.Common.{ap, sym, ◌∙◌}
use Rattle.dae_ir.specs.Form.{form_of}
use Rattle.dae_lower.specs.Lowering.{is_closed}
use Rattle.dae_lower_programs.proofs.Closing.{closed_behind, closed_there}
use Rattle.dae_lower_programs.proofs.functions.close.Goals as goal

pub returns-then-is_closed : goal.returns-then-is_closed
returns-then-is_closed c = closed_there c.args.place c.args.last (form_of c.args.block.items) (ap (λ xs. is_closed (form_of xs)) (sym c.deref.ensures.value) ∙ sym c.is_closed.ensures ∙ c.if-is_closed.true)

pub returns : goal.returns
returns c = closed_behind c.args.place c.args.last c.args.block.items c.push.new.self.items (ap (λ xs. is_closed (form_of xs)) (sym c.deref.ensures.value) ∙ sym c.is_closed.ensures ∙ c.if-is_closed.false) c.in_ok-push.ensures.items
