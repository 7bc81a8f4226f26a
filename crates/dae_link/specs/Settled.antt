-- What is settled of a side before its functions have places: homes, frames, private memory, and numbers that stay in registers.
use Rattle.std.specs.Prelude.{◌≡◌, ◌⊎◌, ℕ, ◌-◌, ◌*◌, ◌^◌, ◌≤◌, ◌<◌, Bool, true, false, ◌&&◌, ◌||◌, nat_lt, nat_eq, if◌then◌else◌, List, [], ◌∷◌, length, map}
use Rattle.std.specs.List.{AllByRecursion, AllZip}
use Rattle.dae_ir.specs.Streams.{actions_of}
use Rattle.dae_ir.specs.declared.stream.Stream.{Stream}
use Rattle.dae_ir.specs.declared.stream.StreamFunction.{StreamFunction}
use Rattle.dae_select_walks.specs.declared.Home.{Home}
use Rattle.dae_select_walks.specs.declared.Home.TheVariants.{Register, Slot}
use Rattle.dae_select_walks.specs.Homes.{AreHomes, frame_words, home_in}
use Rattle.dae_select_walks.specs.Live.{function_lives}
use Rattle.dae_select_blocks.specs.Sizes.{is_leaf}
use Rattle.dae_regalloc.specs.Given.{AreFew, IsRegister}
use Rattle.dae_regalloc.specs.Seen.{AreBelow, can_number}
use Rattle.dae_select_calls.specs.declared.layouts.FunctionLayout.{FunctionLayout}
use Rattle.dae_select_calls.specs.declared.layouts.Layouts.{Layouts}
use Rattle.dae_link.specs.Residents.{AreResidents}

-- 32 bits number the places of a function
abbrev pub is_numberable : StreamFunction → Bool
is_numberable f = can_number (actions_of f.body)

abbrev pub has_register : Home → Bool
has_register (Register r) = true
has_register (Slot i) = false

abbrev pub have_registers : List Home → Bool
have_registers [] = true
have_registers (home ∷ homes) = has_register home && have_registers homes

-- a leaf whose variables all have registers needs no private frame
abbrev pub is_frameless : StreamFunction → List Home → Bool
is_frameless f homes = is_leaf (actions_of f.body) && have_registers homes

-- ---- leaves take registers from the other end, so that what is live at their calls is seldom in these

-- as far from x24 as the register is from x8. What would be x10 or x17 stays itself, and so do x25 to x27, where numbers may stay
abbrev pub mirrored_register : ℕ → ℕ
mirrored_register r = if (nat_eq r 15 || nat_eq r 22) || nat_lt 24 r then r else 32 - r

abbrev pub mirrored_home : Home → Home
mirrored_home (Register r) = Register (mirrored_register r)
mirrored_home (Slot i) = Slot i

-- the homes of a function's variables, from those that they are given by their places
abbrev pub own_homes : StreamFunction → List Home → List Home
own_homes f homes = if is_leaf (actions_of f.body) then map mirrored_home homes else homes

-- the homes are right, a variable that is live anywhere in the function has one of them, and each has a register where around no place
-- more than 18 are live
pub record AreHomesOf (f : StreamFunction) (all : List Home) : Type 0 where
  pub homes : (variables : ℕ) → AreHomes variables (function_lives f.parameters (actions_of f.body)) (home_in all)
  pub inside : AllByRecursion (AreBelow (length all)) (function_lives f.parameters (actions_of f.body))
  pub least : (n : ℕ) → AllByRecursion (AreBelow n) (function_lives f.parameters (actions_of f.body)) → length all ≤ n
  pub registers : AreFew 18 (function_lives f.parameters (actions_of f.body)) → (v : ℕ) → IsRegister (home_in all v)

-- ---- layouts

-- where around no place of the function more than 18 variables are live, each has a register
abbrev pub KeepsInRegisters : StreamFunction → FunctionLayout → Type 0
KeepsInRegisters f l =
    AreFew 18 (function_lives f.parameters (actions_of f.body)) → (v : ℕ) → IsRegister (home_in l.homes v)

-- the homes are right, a variable that is live anywhere has one of them, and each has a register where these are enough. It is
-- said whether the function is a leaf, and whether it is frameless. The function is at word 0
pub record IsLayoutOf (f : StreamFunction) (l : FunctionLayout) : Type 0 where
  pub count : l.variables ≡ length l.homes
  pub few : l.variables < 2 ^ 26 - 19
  pub homes : AreHomes l.variables (function_lives f.parameters (actions_of f.body)) (home_in l.homes)
  pub inside : AllByRecursion (AreBelow l.variables) (function_lives f.parameters (actions_of f.body))
  pub least : (n : ℕ) → AllByRecursion (AreBelow n) (function_lives f.parameters (actions_of f.body)) → l.variables ≤ n
  pub registers : KeepsInRegisters f l
  pub frame : l.frame ≡ f.frame
  pub leaf : l.leaf ≡ is_leaf (actions_of f.body)
  pub frameless : l.frameless ≡ is_frameless f l.homes
  pub entry : l.entry ≡ 0

abbrev pub IsFrameWithin : ℕ → FunctionLayout → Type 0
IsFrameWithin largest l = frame_words l.variables ≤ largest

-- what is live anywhere in the function is one of its variables, of which there are at most n
pub record HasAtMost (n : ℕ) (f : StreamFunction) : Type 0 where
  pub own : AllByRecursion (AreBelow f.variables) (function_lives f.parameters (actions_of f.body))
  pub few : f.variables ≤ n

-- by so many variables a frame would have too many words
abbrev pub AreTooMany : List StreamFunction → Type 0
AreTooMany functions = (n : ℕ) → AllByRecursion (HasAtMost n) functions → 2 ^ 26 ≤ frame_words n

-- with frames for so many variables the deepest calls would need too much private memory, or one frame has too many words
abbrev pub IsTooDeep : Stream → Type 0
IsTooDeep stream =
    (n : ℕ) → AllByRecursion (HasAtMost n) stream.functions → (2 ^ 26 ≤ frame_words n) ⊎ (2 ^ 28 < stream.calls * frame_words n)

-- so many words are no more than those of frames for all variables, in the deepest calls
abbrev pub IsPrivateWithin : Stream → ℕ → Type 0
IsPrivateWithin stream words = (n : ℕ) → AllByRecursion (HasAtMost n) stream.functions → words ≤ stream.calls * frame_words n

-- the layouts of a stream's functions, with private memory for the deepest calls of the largest frames
pub record AreUnplaced (stream : Stream) (all : Layouts) : Type 0 where
  pub side : all.side ≡ stream.side
  pub limit : all.limit ≡ stream.calls
  pub memory : all.memory ≡ stream.memory
  pub functions : AllZip IsLayoutOf stream.functions all.functions
  pub frames : AllByRecursion (IsFrameWithin all.largest) all.functions
  pub least : 19 ≤ all.largest
  pub most : all.largest < 2 ^ 26
  pub few : (n : ℕ) → 19 ≤ n → AllByRecursion (IsFrameWithin n) all.functions → all.largest ≤ n
  pub private : all.private ≡ all.limit * all.largest
  pub low : all.private ≤ 2 ^ 28
  pub residents : AreResidents all.functions all.residents
