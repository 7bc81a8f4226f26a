-- The laws.
use Rattle.std.proofs.Common.{ℕ, ◌+◌, ◌≤◌, refl, arith}
use Rattle.std.proofs.lemmas.Result.{IfOk-at_ok}
use Rattle.dae_sizes.specs.Worth.{worth, declares}
use Rattle.dae_sizes.specs.Paid.{price, ValuesPaid}
use Rattle.dae_sizes.proofs.Within.{Got}
use Rattle.dae_sizes.proofs.Weighing.{cost}
use Rattle.dae_sizes.proofs.Expressions.{value_of_within}

pub values_paid : ValuesPaid
values_paid c e s t x low h =
    let paid = (IfOk-at_ok (Got (cost c 2) (declares e) (worth (price c s.literals) e) s) h ((value_of_within c low s.literals e).comes s refl)).small in
    omega (arith, paid)
