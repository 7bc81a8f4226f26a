use Rattle.std.proofs.Common.{ℕ, List, not, ◌&&◌, ◌++◌, ap, ◌∙◌}
use Rattle.std.proofs.lemmas.Result.{on_ok_weaker}
use Rattle.dae_ir.specs.Classes.{VariableSet}
use Rattle.dae_select_walks.specs.Live.{is}
use Rattle.dae_select_live.specs.Members.{member}
use Rattle.dae_select_blocks.specs.Code.{call_code}
use Rattle.dae_select_calls.specs.Makings.{plan_by, variables_by}
use Rattle.dae_select.proofs.walking.called_code.Goals as goal

pub returns : goal.returns
returns c =
    let a = c.args in
    let kept = c.remove_known.ensures ∙ ap {B = VariableSet} (λ (l : List ℕ) (u : ℕ). member l u && not (is a.callee.result u)) c.in_ok-kept.ensures in
    on_ok_weaker c.call_code.result (λ e. e ∙ ap (λ (s : VariableSet). a.code.now.items ++ call_code (plan_by a.making.now) (variables_by a.making.now) a.making.now.function a.callee.result a.callee.function a.arguments.now s) kept) c.call_code.ensures
