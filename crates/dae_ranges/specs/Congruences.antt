-- Multiples of a number that leave a given rest.
use Rattle.std.specs.Prelude.{◌≡◌, ◌≢◌, ℕ, ◌*◌, ◌%◌, ◌<◌}

-- the first number whose product with the factor leaves the rest
pub record IsFirstWith (factor rest modulus i : ℕ) : Type 0 where
  pub is : (i * factor) % modulus ≡ rest
  pub first : (j : ℕ) → j < i → (j * factor) % modulus ≢ rest
  pub small : i < modulus

-- there is none
abbrev pub NoneWith : ℕ → ℕ → ℕ → Type 0
NoneWith factor rest modulus = (j : ℕ) → (j * factor) % modulus ≢ rest
