-- Sums that stop at the last word of 64 bits.
use Rattle.std.proofs.Common.{◌≡◌, ℕ, ◌+◌, ◌-◌, ◌^◌, ◌≤◌, ap, ◌∙◌, arith}
use Rattle.std.specs.Prelude.{min}

least_sum : (m a b : ℕ) → min (min a m + min b m) m ≡ min (a + b) m
least_sum m a b = omega arith

pub least_more : (m a : ℕ) → 1 ≤ m → min (min a m + 1) m ≡ min (a + 1) m
least_more m a some = omega arith

-- the number, or 2^64 - 1
abbrev pub stopped : ℕ → ℕ
stopped n = min n (2 ^ 64 - 1)

pub stopped_sum : (x y a b r : ℕ) → a ≡ stopped x → b ≡ stopped y → r ≡ stopped (a + b) → r ≡ stopped (x + y)
stopped_sum x y a b r e d s = s ∙ ap (λ (n : ℕ). stopped (n + b)) e ∙ ap (λ (n : ℕ). stopped (stopped x + n)) d ∙ least_sum (2 ^ 64 - 1) x y
