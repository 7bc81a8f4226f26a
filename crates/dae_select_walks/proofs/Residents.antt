-- What homes tell of variables and of numbers that stay in registers.
use Rattle.std.proofs.Common.{◌≡◌, ℕ, ◌^◌, ◌+◌, ◌-◌, ◌<◌, Bool, true, false, List, refl, ap, arith}
use Rattle.std.specs.Prelude.{nat_lt, if◌then◌else◌}
use Rattle.std.proofs.lemmas.Bool.Decides.{nat_tests}
use Rattle.dae_select_walks.specs.declared.Home.{Home}
use Rattle.dae_select_walks.specs.Homes.{home_in, home_among, number_key, resident_home}

pub variable_home : (homes : List Home) (numbers : List ℕ) (v : ℕ) → v < 2 ^ 32 → home_among homes numbers v ≡ home_in homes v
unfolding home_among
variable_home homes numbers v l = by (nat_lt v (2 ^ 32)) refl
  where
    by : (b : Bool) → nat_lt v (2 ^ 32) ≡ b → (if b then home_in homes v else resident_home 27 numbers (v - 2 ^ 32)) ≡ home_in homes v
    by true e = refl
    by false e = absurd (let le : (v < 2 ^ 32) → ⊥ = grind (arith, nat_tests) in le l)

pub number_home : (homes : List Home) (numbers : List ℕ) (n : ℕ) → home_among homes numbers (number_key n) ≡ resident_home 27 numbers n
unfolding home_among number_key
number_home homes numbers n = by (nat_lt (2 ^ 32 + n) (2 ^ 32)) refl
  where
    by : (b : Bool) → nat_lt (2 ^ 32 + n) (2 ^ 32) ≡ b → (if b then home_in homes (2 ^ 32 + n) else resident_home 27 numbers (2 ^ 32 + n - 2 ^ 32)) ≡ resident_home 27 numbers n
    by true e = absurd (let lt : 2 ^ 32 + n < 2 ^ 32 = grind (arith, nat_tests) in omega arith)
    by false e = let same : 2 ^ 32 + n - 2 ^ 32 ≡ n = omega arith in ap (resident_home 27 numbers) same
