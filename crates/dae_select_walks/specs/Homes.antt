-- Where variables are kept. A private frame has the address to return to, then a word for each of the 18 registers that
-- variables may have, kept across a call, and then the slots.
use Rattle.std.specs.Prelude.{◌≡◌, ◌≢◌, ℕ, ◌+◌, ◌-◌, ◌^◌, ◌<◌, Bool, true, false, nat_lt, nat_eq, ◌||◌, ◌&&◌, if◌then◌else◌, List, [], ◌∷◌, nat_le, slice_get, Option, Some, None}
use Rattle.std.specs.List.{AllByRecursion}
use Rattle.dae_ir.specs.Classes.{VariableSet}
use Rattle.dae_select_walks.specs.declared.Home.{Home}
use Rattle.dae_select_walks.specs.declared.Home.TheVariants.{Register, Slot}

-- ---- which homes are right

-- the registers that variables may have on either side: x8, x9, x11 to x16, x18 to x27
abbrev pub is_home_register : ℕ → Bool
is_home_register r = (nat_le 8 r && nat_lt r 10) || ((nat_le 11 r && nat_lt r 17) || (nat_le 18 r && nat_lt r 28))

-- in a function with so many variables
abbrev pub IsHome : ℕ → Home → Type 0
IsHome variables (Register r) = is_home_register r ≡ true
IsHome variables (Slot i) = i < variables

-- what has no home is nowhere live, and any register is right
abbrev pub home_or : Option Home → Home
home_or None = Register 8
home_or (Some home) = home

-- the homes of a table
abbrev pub home_in : List Home → ℕ → Home
home_in homes v = home_or (slice_get homes v)

-- ---- numbers that stay in registers

-- a number's place among the homes, behind those of all variables
unfoldable pub number_key : ℕ → ℕ
number_key n = 2 ^ 32 + n

-- the first number stays in this register, the next one in the one below. What is told of a number that stays in none is x8
abbrev pub resident_home : ℕ → List ℕ → ℕ → Home
resident_home r [] n = Register 8
resident_home r (x ∷ xs) n = if nat_eq n x then Register r else resident_home (r - 1) xs n

-- the register that has the number: x25, x26 or x27
abbrev pub resident_register : Home → Option ℕ
resident_register (Register r) = if nat_lt 24 r && nat_lt r 28 then Some r else None
resident_register (Slot i) = None

-- the homes of a table, and behind them the registers of such numbers, from x27 on
unfoldable pub home_among : List Home → List ℕ → ℕ → Home
home_among homes numbers v = if nat_lt v (2 ^ 32) then home_in homes v else resident_home 27 numbers (v - 2 ^ 32)

-- ---- homes apart

-- two variables that are live at one place have different homes
abbrev pub AreApart : (ℕ → Home) → VariableSet → Type 0
AreApart home lives = (u v : ℕ) → lives u ≡ true → lives v ≡ true → u ≢ v → home u ≢ home v

pub record AreHomes (variables : ℕ) (places : List VariableSet) (home : ℕ → Home) : Type 0 where
  pub each : (v : ℕ) → v < variables → IsHome variables (home v)
  pub apart : AllByRecursion (AreApart home) places

-- ---- private frames

-- the word of a frame in which a register is kept across a call: 1 to 18
abbrev pub kept_at : ℕ → ℕ
kept_at r = if nat_lt r 10 then r - 7 else (if nat_lt r 17 then r - 8 else r - 9)

abbrev pub slot_at : ℕ → ℕ
slot_at i = 19 + i

-- the words of a frame
abbrev pub frame_words : ℕ → ℕ
frame_words variables = 19 + variables

-- ---- what a processor holds

-- its registers, and the words of its private memory
pub record Contents : Type 0 where
  pub register : ℕ → ℕ
  pub word : ℕ → ℕ

-- what is in a home, where the frame begins at a word
abbrev pub held : Contents → ℕ → Home → ℕ
held c base (Register r) = c.register r
held c base (Slot i) = c.word (base + slot_at i)

-- a function that makes calls may change any register
abbrev pub none_spared : ℕ → Bool
none_spared r = false

-- what is kept there across a call of a function that leaves these registers as they are
abbrev pub kept : (ℕ → Bool) → Contents → ℕ → Home → ℕ
kept spared c base (Register r) = if spared r then c.register r else c.word (base + kept_at r)
kept spared c base (Slot i) = c.word (base + slot_at i)
