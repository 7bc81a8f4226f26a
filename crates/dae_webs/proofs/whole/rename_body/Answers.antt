use Rattle.std.proofs.Common.{List, subst}
use Rattle.dae_ir.specs.declared.form.Statement.{Statement}
use Rattle.dae_webs.specs.declared.plan.Renaming.{Renaming}
use Rattle.dae_webs.specs.Planned.{ListRenamed}
use Rattle.dae_webs.proofs.Wholes.{body_renamed}
use Rattle.dae_webs.proofs.whole.rename_body.Goals as goal

pub returns : goal.returns
returns c =
    let f = c.args.function.now in
    let plan = c.in_ok-plan.plan in
    let webs = c.in_ok-own_webs.field-0 in
    let start : Renaming = record { webs = webs; definitions = 0 } in
    let now : Renaming = c.rename_list.new.renaming in
    let body : List Statement = c.in_ok-statements.statements.items in
    let renamed : ListRenamed plan f.body start now body = subst (λ (xs : List Statement). ListRenamed plan xs start now body) c.as_slice.ensures c.in_ok-statements.ensures in
    body_renamed f plan webs now c.in_ok-variables.variables body c.in_ok-plan.ensures c.in_ok-own_webs.ensures renamed c.in_ok-variables.ensures.count c.in_ok-variables.ensures.few
