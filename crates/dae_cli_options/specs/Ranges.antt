-- Ranges of numbers, and bytes of a memory.
use Rattle.std.specs.Prelude.{ℕ, ◌≤◌}

pub record IsFromTo (least most n : ℕ) : Type 0 where
  pub least_is : least ≤ n
  pub most_is : n ≤ most

-- so many bytes from an address on
pub record ShownBytes : Type 0 where
  pub address : ℕ
  pub count : ℕ
