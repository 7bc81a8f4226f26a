use Rattle.std.specs.Prelude.{◌≡◌, ◌++◌, drop, map}
use Rattle.dae_select.specs.Grown.{advance}
use Rattle.dae_select.proofs.growing.add_places.Given as goal

abbrev pub invariant-loop-placed : goal.invariant-loop-placed
invariant-loop-placed l = l.places.items ++ map (advance l.words) (drop l.placed-index l.more) ≡ l.fn.places.items ++ map (advance l.words) l.more
