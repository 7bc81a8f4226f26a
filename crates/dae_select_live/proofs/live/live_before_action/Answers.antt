use Rattle.std.proofs.Common.{ℕ, not, ◌&&◌, ap, ◌∙◌}
use Rattle.dae_ir.specs.Classes.{VariableSet}
use Rattle.dae_select_walks.specs.Live.{ways, after, with_all, reads, is}
use Rattle.dae_select_live.specs.Members.{member}
use Rattle.dae_select_live.proofs.live.live_before_action.Goals as goal

pub returns : goal.returns
returns c = λ n.
    let a = c.args.action.now in
    let kept : VariableSet = after a (member c.args.next) (ways n (member c.args.leaves.now) (member c.args.skips.now)) in
    c.in_ok-add_action.ensures ∙ ap (with_all (reads a)) (c.remove_known.ensures
    ∙ ap {B = VariableSet} (λ (s : VariableSet) (u : ℕ). s u && not (is c.set_anew.result u)) (c.in_ok-set.ensures n)) ∙ c.set_anew.ensures kept
