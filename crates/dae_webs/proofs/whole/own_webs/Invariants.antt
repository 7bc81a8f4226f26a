use Rattle.std.proofs.Common.{◌≡◌}
use Rattle.dae_webs.specs.Current.{own_webs}
use Rattle.dae_webs.proofs.whole.own_webs.Given as goal

abbrev pub invariant-loop-variable : goal.invariant-loop-variable
invariant-loop-variable l = l.webs.items ≡ own_webs 0 l.variable
