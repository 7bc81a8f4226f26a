use Rattle.std.proofs.Common.{sym, ◌∙◌}
use Rattle.dae_alias.proofs.Lists.{found_at, none_next}
use Rattle.dae_alias.proofs.held.find.Goals as goal

pub returns-then-is_for : goal.returns-then-is_for
returns-then-is_for c = found_at c.args.kind c.args.at c.args.held.now c.loop-x.x-index _ c.loop-x-test.true c.loop-x.invariant (sym c.is_for.ensures ∙ c.if-is_for.true)

pub loop-x-preserved : goal.loop-x-preserved
loop-x-preserved c = none_next c.args.kind c.args.at c.args.held.now c.loop-x.x-index _ c.loop-x-test.true c.loop-x.invariant (sym c.is_for.ensures ∙ c.if-is_for.false)
