use Rattle.std.specs.Prelude.{◌≡◌, drop}
use Rattle.dae_select_walks.specs.Live.{with_all}
use Rattle.dae_select_live.specs.Members.{member}
use Rattle.dae_select_live.proofs.set.LiveSet.add_all.Given as goal

abbrev pub invariant-loop-variable : goal.invariant-loop-variable
invariant-loop-variable l = with_all (member l.self) (member (drop l.variable-index l.other)) ≡ with_all (member l.fn.self) (member l.other)
