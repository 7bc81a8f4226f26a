-- What other crates may use of counts of faults.
use Rattle.std.proofs.Common.{ℕ, arith}
use Rattle.dae_io.specs.Faults.{Rose}

-- no count rises to 0, which the count of an object that never fails is
pub never_rises : (old : ℕ) → Rose old 0 → ⊥
never_rises old rose = grind arith
