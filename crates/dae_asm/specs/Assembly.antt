-- What image a text says, and why a text says none.
use Rattle.std.specs.Prelude.{◌≡◌, ℕ, pos, List, [], ◌∷◌, ◌++◌, map, length, Some, None}
use Rattle.dae_image.specs.declared.Image.{Image}
use Rattle.dae_image.specs.Ranges.{memory_range, calls_range, private_range}
use Rattle.dae_image.specs.Contents.{ImageContents}
use Rattle.dae_image.specs.Images.{contents}
use Rattle.dae_asm_order.specs.Sheets.{Row, Sheet, IsSheet}
use Rattle.dae_asm_order.specs.Order.{IsBadLine}
use Rattle.dae_asm_labels.specs.Labels.{Look, words, labels_a, labels_e, all_label_tests, first_false}
use Rattle.dae_asm_values.specs.Values.{depths, IsAddress}
use Rattle.dae_asm_values.specs.Claims.{code_claims, AreMet}
use Rattle.dae_asm_data.specs.declared.marks.TextCounts.{TextCounts}
use Rattle.dae_asm_data.specs.Data.{numbers}
use Rattle.dae_asm_data.specs.Parts.{places, spelled}
use Rattle.dae_asm_data.specs.Bounds.{Bound, Budget, Number, Entry, HasCode, Code, data_bounds, mark_bounds, name_bounds, IsFirstBroken}
use Rattle.dae_asm.specs.declared.errors.AsmError.{AsmError}
use Rattle.dae_asm.specs.declared.errors.AsmError.TheVariants as errors

-- ---- the image

-- each field of an image as its lines say
pub record Says (s : Sheet) (c : ImageContents) : Type 0 where
  pub budget : s.budget.1 ≡ map (λ n. pos n) (depths c.budget)
  pub memory : s.memory.1 ≡ pos c.memory
  pub calls : s.calls.1 ≡ pos c.calls
  pub private_a : s.private.1 ≡ pos c.private_a
  pub private_e : s.private.2 ≡ pos c.private_e
  pub entry_a : IsAddress (labels_a s) s.entry.1 c.entry_a
  pub entry_e : IsAddress (labels_e s) s.entry.2 c.entry_e
  pub code_a : AreMet (code_claims (labels_a s) 0 s.code_a) c.code_a
  pub code_e : AreMet (code_claims (labels_e s) 0 s.code_e) c.code_e
  pub content : numbers s.bytes ≡ map (λ b. pos b) c.content
  pub marks : places s.marks ≡ spelled c.lines
  pub names : map (λ r. r.1) s.names ≡ map (λ name. map (λ b. pos b) name) c.names

-- no label is defined twice, and each that is used is defined on its side
abbrev pub HasLabels : Sheet → Type 0
HasLabels s = first_false (all_label_tests s) ≡ None

-- the image that a text says, whose fields are in their ranges as those of any image
pub record Asm (text : List ℕ) (image : Image) : Type 0 where
  pub sheet : Sheet
  pub ordered : IsSheet text sheet
  pub labelled : HasLabels sheet
  pub says : Says sheet (contents image)

-- ---- the bounds of a text in order, line by line

abbrev pub head_bounds : Sheet → List (ℕ × Bound)
head_bounds s =
    (s.budget.0, Budget s.budget.1) ∷ (s.memory.0, Number memory_range s.memory.1)
    ∷ (s.calls.0, Number calls_range s.calls.1)
    ∷ (s.private.0, Number private_range s.private.1)
    ∷ (s.private.0, Number private_range s.private.2)
    ∷ (s.entry.0, Entry (labels_a s) (words s.code_a) s.entry.1)
    ∷ (s.entry.0, Entry (labels_e s) (words s.code_e) s.entry.2) ∷ []

-- a code that begins on this line
abbrev pub code_bounds : ℕ → Look → List Row → List (ℕ × Bound)
code_bounds line labels rows =
    (line, HasCode (words rows)) ∷ map (λ c. (c.0, Code c.1)) (code_claims labels 0 rows)

abbrev pub counts_of : Sheet → TextCounts
counts_of s = record {
  words_a = words s.code_a;
  words_e = words s.code_e;
  names = length s.names;
}

abbrev pub bounds : Sheet → List (ℕ × Bound)
bounds s =
    head_bounds s ++ (code_bounds s.begin_a (labels_a s) s.code_a
    ++ (code_bounds s.begin_e (labels_e s) s.code_e ++ (data_bounds s.memory.1 0 s.bytes
    ++ (mark_bounds (counts_of s) 0 None s.marks ++ name_bounds 0 s.names))))

-- ---- the causes

-- the first line of a text in order that defines a label again, or uses one that its side does not define
pub record IsLabelFault (text : List ℕ) (n : ℕ) : Type 0 where
  pub sheet : Sheet
  pub ordered : IsSheet text sheet
  pub first : first_false (all_label_tests sheet) ≡ Some n

-- the first line of a text in order, whose labels are as they should be, with a number out of its bounds
pub record IsBadValue (text : List ℕ) (n : ℕ) : Type 0 where
  pub sheet : Sheet
  pub ordered : IsSheet text sheet
  pub labelled : HasLabels sheet
  pub first : IsFirstBroken (bounds sheet) n

-- why a text says no image; want of memory needs no reason
abbrev pub IsCauseOf : List ℕ → AsmError → Type 0
IsCauseOf text (errors.BadLine n) = IsBadLine text n
IsCauseOf text (errors.Label n) = IsLabelFault text n
IsCauseOf text (errors.BadValue n) = IsBadValue text n
IsCauseOf text errors.Memory = Unit {0}
