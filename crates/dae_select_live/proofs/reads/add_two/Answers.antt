use Rattle.std.proofs.Common.{ap, ◌∙◌}
use Rattle.std.proofs.lemmas.Result.{on_ok_weaker}
use Rattle.dae_select_walks.specs.Live.{with_all, in_operand}
use Rattle.dae_select_live.specs.Members.{member}
use Rattle.dae_select_live.proofs.Several.{all_of_two}
use Rattle.dae_select_live.proofs.reads.add_two.Goals as goal

pub returns : goal.returns
returns c =
    on_ok_weaker c.add_operand-2.result (λ e. e ∙ ap (with_all (in_operand c.args.left)) c.in_ok-add_operand.ensures ∙ all_of_two (in_operand c.args.left) (in_operand c.args.right) (member c.args.set.now)) c.add_operand-2.ensures
