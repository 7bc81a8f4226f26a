-- Which numbers may stay in registers.
use Rattle.std.specs.Prelude.{◌≡◌, ◌⊎◌, ℕ, ◌^◌, ◌≤◌, ◌<◌, Bool, true, ◌&&◌, nat_lt, List, [], ◌∷◌, length}
use Rattle.std.specs.List.{AllByRecursion}
use Rattle.dae_select_walks.specs.declared.Home.{Home}
use Rattle.dae_select_walks.specs.declared.Home.TheVariants.{Register, Slot}
use Rattle.dae_select_blocks.specs.Blocks.{residents_code}
use Rattle.dae_select_calls.specs.declared.layouts.FunctionLayout.{FunctionLayout}

-- the home is no register in which a number may stay
abbrev pub is_low : Home → Bool
is_low (Register r) = nat_lt r 25
is_low (Slot i) = true

abbrev pub all_low : List Home → Bool
all_low [] = true
all_low (home ∷ homes) = is_low home && all_low homes

-- of all functions
abbrev pub each_low : List FunctionLayout → Bool
each_low [] = true
each_low (l ∷ ls) = all_low l.homes && each_low ls

abbrev pub IsWord : ℕ → Type 0
IsWord n = n < 2 ^ 32

-- three words get them there; and there are none, or no variable is in such a register and there is a function
pub record AreResidents (layouts : List FunctionLayout) (numbers : List ℕ) : Type 0 where
  pub brief : length (residents_code 27 numbers) ≤ 3
  pub small : AllByRecursion IsWord numbers
  pub free : (numbers ≡ []) ⊎ ((each_low layouts ≡ true) × (1 ≤ length layouts))
