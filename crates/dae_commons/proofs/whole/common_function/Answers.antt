use Rattle.std.proofs.Common.{[], refl, ap, ◌∙◌}
use Rattle.dae_ir.specs.Classes.{classes_in}
use Rattle.dae_ir.specs.Form.{form_of}
use Rattle.dae_commons.specs.Commoned.{IsCommonedList}
use Rattle.dae_commons.proofs.Steps.{listed}
use Rattle.dae_commons.proofs.whole.common_function.Goals as goal

pub returns : goal.returns
returns c =
    let f = c.args.function in
    let list = c.in_ok-list.list in
    let whole : IsCommonedList (classes_in c.args.row.now) f.body [] list.statements.items list.known = listed (classes_in c.args.row.now) _ _ _ _ _ _ _ c.in_ok-list.ensures c.as_slice.ensures refl c.new-nothing.ensures in
    record { name = refl; parameters = refl; variables = refl; frame = refl; body = ap form_of c.from_vec.ensures ∙ whole.code }
