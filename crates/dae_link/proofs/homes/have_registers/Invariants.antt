use Rattle.std.specs.Prelude.{◌≡◌, drop}
use Rattle.dae_link.specs.Settled.{have_registers}
use Rattle.dae_link.proofs.homes.have_registers.Given as goal

abbrev pub invariant-loop-home : goal.invariant-loop-home
invariant-loop-home l = have_registers (drop l.home-index l.homes) ≡ have_registers l.homes
