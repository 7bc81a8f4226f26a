use Rattle.std.specs.Prelude.{◌≡◌, drop}
use Rattle.dae_link.specs.Residents.{all_low}
use Rattle.dae_link.proofs.residents.all_low.Given as goal

abbrev pub invariant-loop-home : goal.invariant-loop-home
invariant-loop-home l = all_low (drop l.home-index l.homes) ≡ all_low l.homes
