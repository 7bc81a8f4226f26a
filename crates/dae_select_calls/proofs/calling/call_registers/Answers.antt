use Rattle.std.proofs.Common.{ℕ, List, ap, ◌∙◌}
use Rattle.std.specs.Prelude.{not}
use Rattle.std.proofs.lemmas.Result.{IfOk-weaker}
use Rattle.dae_select_walks.specs.declared.Home.{Home}
use Rattle.dae_select_live.specs.Members.{member}
use Rattle.dae_select_blocks.specs.Code.{filtered, registers_in}
use Rattle.dae_select_values.specs.Tables.{home_by}
use Rattle.dae_select_calls.specs.Makings.{plan_by, variables_by}
use Rattle.dae_select_calls.proofs.Spared.{registers_unspared}
use Rattle.dae_select_calls.proofs.calling.call_registers.Goals as goal

pub returns : goal.returns
returns c =
    let m = c.args.making.now in let plan = plan_by m in let f = m.function in let g = c.args.callee in
    let live = member c.args.live.now in
    let own = c.as_slice.ensures.value ∙ c.in_ok-registers.ensures ∙ ap (λ (n : ℕ). registers_in (home_by m.homes) n live) c.variables-variables.ensures
    ∙ ap (λ (home : ℕ → Home). registers_in home (variables_by m f) live) c.requires.homes in
    IfOk-weaker c.changed_among.result _ _ (λ found e. e ∙ ap (λ (rs : List ℕ). filtered (λ r. not (plan.spares g r)) rs) own ∙ registers_unspared plan f g (variables_by m f) live) c.changed_among.ensures
