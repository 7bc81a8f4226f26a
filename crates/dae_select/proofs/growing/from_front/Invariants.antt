use Rattle.std.specs.Prelude.{◌≡◌, ◌++◌, drop}
use Rattle.dae_select.specs.Grown.{from_front}
use Rattle.dae_select.proofs.growing.from_front.Given as goal

abbrev pub invariant-loop-placed : goal.invariant-loop-placed
invariant-loop-placed l = l.all.items ++ from_front l.end (drop l.placed-index l.places) ≡ from_front l.end l.places
