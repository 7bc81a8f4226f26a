use Rattle.std.proofs.Common.{ap, ◌∙◌}
use Rattle.dae_alias.proofs.Lists.{kept_next, left_next}
use Rattle.dae_alias.proofs.held.keep_apart.Goals as goal
use Rattle.dae_alias.proofs.held.keep_apart.Goals.{then-are_apart+in_ok-push, else-are_apart}

pub loop-x-preserved : goal.loop-x-preserved
loop-x-preserved c =
    elim c.if-are_apart.branch [ then-are_apart+in_ok-push w ↦ ap (λ v. v.items) w.kept-is ∙ w.in_ok-push.ensures.items ∙ kept_next c.args.at c.args.width c.args.held.now c.loop-x.x-index _ c.loop-x-test.true c.are_apart.result c.width_of.result c.width_of.ensures c.are_apart.ensures c.loop-x.kept.items c.loop-x.invariant w.if-are_apart.true | else-are_apart w ↦ ap (λ v. v.items) w.kept-is ∙ left_next c.args.at c.args.width c.args.held.now c.loop-x.x-index _ c.loop-x-test.true c.are_apart.result c.width_of.result c.width_of.ensures c.are_apart.ensures c.loop-x.kept.items c.loop-x.invariant w.if-are_apart.false ]
