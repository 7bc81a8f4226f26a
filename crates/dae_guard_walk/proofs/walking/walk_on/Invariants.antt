use Rattle.std.proofs.Common.{◌≡◌, ◌-◌}
use Rattle.std.specs.List.{All}
use Rattle.dae_guard.specs.Walk.{terms_of, walk}
use Rattle.dae_guard_walk.specs.Spots.{Holds, nodes_of}
use Rattle.dae_guard_walk.proofs.walking.walk_on.Given as goal

-- the walk of what is ahead is the whole one
abbrev pub invariant-loop-walked : goal.invariant-loop-walked
invariant-loop-walked l = record {
  holds : All Holds l.ahead.items;
  rest : walk (terms_of l.terms.image.now l.terms.depths) l.certificate (9999 - l.walked) (nodes_of l.ahead.items)
      ≡ walk (terms_of l.terms.image.now l.terms.depths) l.certificate 9999 (nodes_of l.initial.ahead.items);
}
