use Rattle.std.specs.Prelude.{◌≡◌, ◌++◌, drop}
use Rattle.dae_select_walks.specs.Facts.{less}
use Rattle.dae_select_live.specs.Members.{member}
use Rattle.dae_select_facts.proofs.sets.push_others.Given as goal

abbrev pub invariant-loop-fact : goal.invariant-loop-fact
invariant-loop-fact l = l.kept.items ++ less (member l.set) (drop l.fact-index l.facts) ≡ l.fn.kept.items ++ less (member l.set) l.facts
