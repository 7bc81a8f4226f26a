-- What a machine must be able to hold, so that a form has an image, and how large the image is.
use Rattle.std.specs.Prelude.{◌≡◌, ◌⊎◌, ℕ, ◌+◌, ◌-◌, ◌*◌, ◌%◌, ◌^◌, ◌≤◌, ◌<◌, Bool, true, false, List, [], ◌∷◌, length, IsTrue}
use Rattle.std.specs.List.{All, AllByRecursion, list_all}
use Rattle.dae_image.specs.Contents.{is_name}
use Rattle.dae_image.specs.declared.Image.{Image}
use Rattle.dae_ir.specs.Form.{Form, form_of}
use Rattle.dae_ir.specs.Sizes.{tally, bit, form_size}
use Rattle.dae_ir.specs.declared.form.Ir.{Ir}
use Rattle.dae_ir.specs.declared.form.Function.{Function}
use Rattle.dae_ir.specs.declared.form.Item.{Item}
use Rattle.dae_ir.specs.declared.form.Item.TheVariants.{Call}
use Rattle.dae_select_walks.specs.Homes.{frame_words}

-- a machine has such a memory, with the frames, the data and so deep calls, and an image can name the files
pub record FitsMachine (ir : Ir) (content : List ℕ) (names : List (List ℕ)) : Type 0 where
  pub least : 64 ≤ ir.memory
  pub most : ir.memory ≤ 2 ^ 26
  pub aligned : ir.memory % 16 ≡ 0
  pub frames : ir.frames ≤ ir.memory
  pub some : 1 ≤ ir.calls
  pub few : ir.calls ≤ 4096
  pub room : length content ≤ ir.memory - 16
  pub bytes : All (λ b. b < 256) content
  pub files : length names ≤ 1024
  pub named : IsTrue (list_all is_name names)

-- ---- words of code

abbrev pub is_call : Item → Bool
is_call (Call v f xs) = true
is_call item = false

abbrev pub calls_of_form : Form → ℕ
calls_of_form code = tally (λ item. bit (is_call item)) (λ t. 0) code

-- twice 14 words a unit of size, 42 more a call, and 25 for what a function begins and ends with
abbrev pub words_of_functions : List Function → ℕ
words_of_functions [] = 0
words_of_functions (f ∷ fs) = 28 * form_size (form_of f.body) + 42 * calls_of_form (form_of f.body) + 25 + words_of_functions fs

abbrev pub words_of_form : Ir → ℕ
words_of_form ir = 8 + words_of_functions ir.functions

-- neither code is longer
pub record IsShort (ir : Ir) (image : Image) : Type 0 where
  pub a : length image.code_a ≤ words_of_form ir
  pub e : length image.code_e ≤ words_of_form ir

-- ---- private memory

-- no function of the form has more variables
abbrev pub HaveAtMost : ℕ → Ir → Type 0
HaveAtMost n ir = AllByRecursion (λ (f : Function). f.variables ≤ n) ir.functions

-- private memories, in bytes, are no larger than those of frames of 19 words and one for each variable, in the deepest calls
pub record HasFramesWithin (ir : Ir) (image : Image) : Type 0 where
  pub a : (n : ℕ) → HaveAtMost n ir → image.private_a ≤ 4 * (ir.calls * frame_words n)
  pub e : (n : ℕ) → HaveAtMost n ir → image.private_e ≤ 4 * (ir.calls * frame_words n)

-- with such frames the deepest calls would need too much private memory, or one frame has too many words
abbrev pub NeedsTooMuch : Ir → Type 0
NeedsTooMuch ir = (n : ℕ) → HaveAtMost n ir → (2 ^ 26 ≤ frame_words n) ⊎ (2 ^ 28 < ir.calls * frame_words n)
