use Rattle.std.proofs.Common.{◌≡◌, true, List, sym, ◌∙◌, subst}
use Rattle.std.proofs.lemmas.Result.{on_ok_weaker}
use Rattle.dae_ir.specs.Form.{form_of}
use Rattle.dae_ir.specs.declared.form.Statement.{Statement}
use Rattle.dae_threads.specs.Threaded.{ends_early}
use Rattle.dae_threads.proofs.Walked.{list_behind}
use Rattle.dae_threads.proofs.flattening.push_condition.Goals as goal

pub returns-then-ends_early : goal.returns-then-ends_early
returns-then-ends_early c =
    let no = c.args.no in
    let early : ends_early (form_of no.items) ≡ true = subst (λ (xs : List Statement). ends_early (form_of xs) ≡ true) c.deref.ensures.value (sym c.ends_early.ensures ∙ c.if-ends_early.true) in
    on_ok_weaker c.push_before_list.result
    (λ h. list_behind c.args.out.now.items c.args.place c.args.test c.new-nothing.result c.args.yes no c.push_before_list.new.out.items c.new-nothing.ensures.items early h) c.push_before_list.ensures

pub returns-else-ends_early : goal.returns-else-ends_early
returns-else-ends_early c = c.push_statement.ensures
