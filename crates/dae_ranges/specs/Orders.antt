-- The least and the greatest that a function makes of the words of a range, and the order of signed words.
use Rattle.std.specs.Prelude.{◌≡◌, ℕ, ◌+◌, ◌*◌, ◌^◌, ◌≤◌, true, nat_le}
use Rattle.dae_base.specs.Words.{plus}
use Rattle.dae_ranges.specs.declared.Range.{Range}
use Rattle.dae_ranges.specs.Ranges.{each}

-- the number is what the function makes of one of the words, and it makes no less of any of them
pub record IsLeast (f : ℕ → ℕ) (r : Range) (n : ℕ) : Type 0 where
  pub at : ℕ
  pub fits : at ≤ r.count
  pub is : n ≡ f (r.lo + at * r.step)
  pub least : each (λ w. nat_le n (f w)) r ≡ true

-- and no more
pub record IsGreatest (f : ℕ → ℕ) (r : Range) (n : ℕ) : Type 0 where
  pub at : ℕ
  pub fits : at ≤ r.count
  pub is : n ≡ f (r.lo + at * r.step)
  pub greatest : each (λ w. nat_le (f w) n) r ≡ true

-- a word moved by half of the words: signed words are in the order of these numbers
abbrev pub lifted : ℕ → ℕ
lifted w = plus w (2 ^ 31)
