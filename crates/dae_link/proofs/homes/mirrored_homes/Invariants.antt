use Rattle.std.proofs.Common.{◌≡◌, ◌++◌, drop, map}
use Rattle.dae_link.specs.Settled.{mirrored_home}
use Rattle.dae_link.proofs.homes.mirrored_homes.Given as goal

-- the homes so far, and those of the variables that are left
abbrev pub invariant-loop-home : goal.invariant-loop-home
invariant-loop-home l = l.all.items ++ map mirrored_home (drop l.home-index l.homes) ≡ map mirrored_home l.homes
