-- What an image is that is compiled of a form, and what linking asks of a pair.
use Rattle.std.specs.Prelude.{◌≡◌, ◌↔◌, ◌⊎◌, ℕ, ◌-◌, ◌*◌, ◌%◌, ◌^◌, ◌≤◌, ◌<◌, List, length, IsTrue}
use Rattle.std.specs.List.{All, AllByRecursion, list_all}
use Rattle.dae_base.specs.declared.Side.TheVariants.{A, E}
use Rattle.dae_base.specs.declared.Depths.{Depths}
use Rattle.dae_base.specs.declared.Queue.{Queue}
use Rattle.dae_base.specs.Budgets.{depth}
use Rattle.dae_image.specs.declared.Image.{Image}
use Rattle.dae_image.specs.Contents.{is_name}
use Rattle.dae_ir.specs.declared.form.Ir.{Ir}
use Rattle.dae_ir.specs.declared.stream.Class.{Class}
use Rattle.dae_ir.specs.declared.stream.Pair.{Pair}
use Rattle.dae_ir.specs.Programs.{AreClassesOf, IsPairOf}
use Rattle.dae_ir.specs.Budgets.{IsBudgetOf}
use Rattle.dae_link_faithful.specs.Uses.{IsUnused}
use Rattle.dae_link_faithful.specs.Made.{IsMade, IsReady}
use Rattle.dae_machine_rounds.specs.Promises.{DoesForm}
use Rattle.dae_select.specs.declared.growing.PlacedWord.{PlacedWord}
use Rattle.dae_link.specs.Sides.{HasLimits, HasPlaces, HasRegisters}
use Rattle.dae_link.specs.Settled.{IsTooDeep, IsPrivateWithin}
use Rattle.dae_link.specs.Sizes.{most_words}
use Rattle.dae_link.specs.Marked.{IsMarkOf, line_marks}
use Rattle.dae_link.specs.declared.marks.MarkRoom.{MarkRoom}

-- the two streams of one program, within what an image can hold, with data and names that it can hold
pub record CanLink (pair : Pair) (budget : Depths) (content : List ℕ) (names : List (List ℕ)) : Type 0 where
  pub side_a : pair.a.side ≡ A
  pub side_e : pair.e.side ≡ E
  pub a : HasLimits pair.a
  pub e : HasLimits pair.e
  pub memory : pair.e.memory ≡ pair.a.memory
  pub calls : pair.e.calls ≡ pair.a.calls
  pub aligned : pair.a.memory % 16 ≡ 0
  pub depths : (queue : Queue) → depth queue budget ≤ 4096
  pub room : length content ≤ pair.a.memory - 16
  pub bytes : All (λ b. b < 256) content
  pub few : length names ≤ 1024
  pub named : IsTrue (list_all is_name names)

-- the image has what is the pair's and what was given
pub record HasGiven (pair : Pair) (budget : Depths) (content : List ℕ) (names : List (List ℕ)) (image : Image) : Type 0 where
  pub depths : image.budget ≡ budget
  pub memory : image.memory ≡ pair.a.memory
  pub calls : image.calls ≡ pair.a.calls
  pub bytes : image.content ≡ content
  pub files : image.names ≡ names

-- ---- marks of lines

abbrev pub room_of : Image → MarkRoom
room_of image = record { words_a = length image.code_a; words_e = length image.code_e; files = length image.names }

-- the words of an image's two codes at which the actions of the two streams begin: each mark is of one of them and names the
-- line on which its action stands, and those are marked that are of another line than the mark before
pub record HasMarks (pair : Pair) (image : Image) : Type 0 where
  pub places_a : List PlacedWord
  pub places_e : List PlacedWord
  pub a : HasPlaces pair.a image.code_a places_a
  pub e : HasPlaces pair.e image.code_e places_e
  pub each : AllByRecursion (IsMarkOf places_a places_e) image.lines
  pub lines : image.lines ≡ line_marks (room_of image) places_a places_e

-- ---- what is compiled

-- a number of the budget is 0 exactly where no word of either code uses its queue
abbrev pub IsExact : Image → Type 0
IsExact image =
    (queue : Queue)
    → depth queue image.budget ≡ 0 ↔ (IsUnused A queue image.code_a × IsUnused E queue image.code_e)

-- no variable is in the frame of a function of either stream that has registers for all of them
pub record KeepsRegisters (pair : Pair) (image : Image) : Type 0 where
  pub a : HasRegisters pair.a image.code_a
  pub e : HasRegisters pair.e image.code_e

-- An image is compiled of a form, where a group has at most cap loads for E and as many copies: there are the least classes of
-- the form's variables, the pair that they make and its budget, and the image's two codes do the pair, action by action, by
-- homes in which variables that are live at one place are apart, and none is in a frame where registers are enough. A number of
-- the budget is 0 exactly where no word uses the queue. Its marks name the lines of the actions.
pub record IsCompiledOf (ir : Ir) (cap : ℕ) (image : Image) : Type 0 where
  pub tables : List (List Class)
  pub pair : Pair
  pub classes : AreClassesOf ir tables
  pub is_pair : IsPairOf ir tables cap pair
  pub budget : IsBudgetOf pair image.budget
  pub calls : image.calls ≡ ir.calls
  pub made : IsMade ir tables cap image
  pub exact : IsExact image
  pub registers : KeepsRegisters pair image
  pub marks : HasMarks pair image

-- of each form whose pair and budget these are
abbrev pub IsCompiled : Pair → Depths → Image → Type 0
IsCompiled pair budget image =
    (ir : Ir) (tables : List (List Class)) (cap : ℕ) → AreClassesOf ir tables → IsPairOf ir tables cap pair
    → IsBudgetOf pair budget → IsCompiledOf ir cap image

-- and of each that is ready every run of the image does what the form does
abbrev pub IsFaithful : Pair → Depths → Image → Type 0
IsFaithful pair budget image =
    (ir : Ir) (tables : List (List Class)) (cap : ℕ) → IsReady ir → AreClassesOf ir tables → IsPairOf ir tables cap pair
    → IsBudgetOf pair budget → DoesForm ir image 14

-- private memories are no larger than by frames of 19 words and one for each variable, in the deepest calls
pub record HasPrivateWithin (pair : Pair) (image : Image) : Type 0 where
  pub a : (words : ℕ) × (image.private_a ≡ 4 * words) × IsPrivateWithin pair.a words
  pub e : (words : ℕ) × (image.private_e ≡ 4 * words) × IsPrivateWithin pair.e words

-- the frames of one of the sides are too large
abbrev pub HasTooDeep : Pair → Type 0
HasTooDeep pair = IsTooDeep pair.a ⊎ IsTooDeep pair.e

-- neither code is longer than what bounds it
pub record HasShortCode (pair : Pair) (image : Image) : Type 0 where
  pub a : length image.code_a ≤ most_words pair.a
  pub e : length image.code_e ≤ most_words pair.e

-- what bounds one of the codes is more than a code may have
abbrev pub IsTooLong : Pair → Type 0
IsTooLong pair = (2 ^ 25 < most_words pair.a) ⊎ (2 ^ 25 < most_words pair.e)
