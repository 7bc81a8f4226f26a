use Rattle.std.proofs.Common.{◌∙◌, ap}
use Rattle.dae_ir.specs.Code.{Done, If}
use Rattle.dae_ir.specs.Form.{Form, form_of}
use Rattle.dae_ir.proofs.Laws.{before_if}
use Rattle.dae_lower_programs.proofs.blocks.leave_if_not.Goals as goal

pub returns : goal.returns
returns c k =
    before_if c.args.place c.args.test c.new-stay.result c.in_ok-leave.leave k
    ∙ ap (λ (f : Form). If c.args.place c.args.test f (form_of c.in_ok-leave.leave.items) k) (ap form_of c.new-stay.ensures.items)
    ∙ ap (λ (f : Form). If c.args.place c.args.test Done f k) c.in_ok-leave.ensures
