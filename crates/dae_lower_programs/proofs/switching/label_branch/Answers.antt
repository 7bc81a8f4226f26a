use Rattle.std.proofs.Common.{◌∙◌, ap, List, [], ◌∷◌, ◌++◌}
use Rattle.dae_ir.specs.Code.{If}
use Rattle.dae_ir.specs.Form.{Form, form_of}
use Rattle.dae_ir.specs.declared.form.Item.TheVariants.{Assign, Break}
use Rattle.dae_ir.specs.declared.form.Operand.TheVariants.{Number}
use Rattle.dae_ir.specs.declared.form.Statement.{Statement, Simple}
use Rattle.dae_ir.specs.declared.form.Value.TheVariants.{Same}
use Rattle.dae_ir.proofs.Laws.{before_if}
use Rattle.dae_lower.specs.Lowering.{test_of}
use Rattle.dae_meaning.specs.declared.Comparison.TheVariants.{Equal}
use Rattle.dae_lower_programs.proofs.switching.label_branch.Goals as goal

pub returns : goal.returns
returns c k =
    let p = c.args.dispatch.place in
    let test = test_of Equal c.args.dispatch.value (Number c.args.label) in
    let assign = Simple p (Assign c.args.dispatch.arm (Same (Number c.args.number))) in
    before_if p test c.push-2.new.self c.new.result k
    ∙ ap (λ (f : Form). If p test f (form_of c.new.result.items) k) (ap form_of (c.in_ok-push-2.ensures.items ∙ ap (λ (xs : List Statement). xs ++ Simple p Break ∷ []) (c.in_ok-push.ensures.items ∙ ap (λ (xs : List Statement). xs ++ assign ∷ []) c.new-found.ensures.items)))
    ∙ ap (λ (xs : List Statement). If p test (form_of (([] ++ assign ∷ []) ++ Simple p Break ∷ [])) (form_of xs) k) c.new.ensures.items
