-- The numbers of the generator.
use Rattle.std.proofs.Common.{◌≡◌, ℕ, zero, suc, refl, ap}
use Rattle.dae_machine.specs.Schedules.{next_number, number_after}

-- a step first or last
pub step_first : (seed t : ℕ) → number_after (next_number seed) t ≡ next_number (number_after seed t)
step_first seed zero = refl
step_first seed (suc t) = ap next_number (step_first seed t)
