use Rattle.std.specs.Prelude.{◌≡◌, drop}
use Rattle.dae_select_calls.specs.Layouts.{has_home}
use Rattle.dae_select_calls.proofs.layouts.has_home.Given as goal

abbrev pub invariant-loop-home : goal.invariant-loop-home
invariant-loop-home l = has_home l.register (drop l.home-index l.homes) ≡ has_home l.register l.homes
