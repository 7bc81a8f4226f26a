-- Labels, where they are defined, and the lines whose labels are as they should be.
use Rattle.std.specs.Prelude.{◌≡◌, ℕ, suc, ◌+◌, ℤ, Bool, true, false, ◌&&◌, ◌==◌, if◌then◌else◌, List, [], ◌∷◌, ◌++◌, map, Option, Some, None}
use Rattle.std.specs.Option.{is_some, option_map}
use Rattle.std.specs.Str.{bytes_eq}
use denote.Ref.{Bor}
use Rattle.indexmap.specs.IndexMap.{IndexMap, get_by}
use Rattle.dae_asm_lines.specs.declared.Operands.{Operands}
use Rattle.dae_asm_lines.specs.declared.Operands.TheVariants.{Branch, Jump}
use Rattle.dae_asm_lines.specs.Targets.{JumpTarget, Given, Named}
use Rattle.dae_asm_lines.specs.Items as items
use Rattle.dae_asm_order.specs.Sheets.{Row, Sheet}
use Rattle.dae_asm_labels.specs.declared.definitions.LabelDefinition.{LabelDefinition}

-- how many words the rows of a code make
abbrev pub words : List Row → ℕ
words [] = 0
words ((n, items.Instruction i operands) ∷ rows) = suc (words rows)
words ((n, items.Plain z) ∷ rows) = suc (words rows)
words (row ∷ rows) = words rows

-- ---- definitions

-- labels in the order of their lines, each with its address and its line
abbrev pub Labels : Type 0
Labels = List (List ℕ × LabelDefinition)

-- the labels of a code from an address on; each word has four bytes
abbrev pub labels_from : ℕ → List Row → Labels
labels_from address [] = []
labels_from address ((n, items.Label name) ∷ rows) =
    (name, record { address = address; line = n }) ∷ labels_from address rows
labels_from address ((n, items.Instruction i operands) ∷ rows) = labels_from (address + 4) rows
labels_from address ((n, items.Plain z) ∷ rows) = labels_from (address + 4) rows
labels_from address (row ∷ rows) = labels_from address rows

-- the first definition of a label
abbrev pub found : List ℕ → Labels → Option LabelDefinition
found name [] = None
found name (l ∷ ls) = if bytes_eq name l.0 then Some l.1 else found name ls

-- where each label of a code is defined
abbrev pub Look : Type 0
Look = List ℕ → Option LabelDefinition

abbrev pub looks_in : List Row → Look
looks_in rows = λ name. found name (labels_from 0 rows)

abbrev pub labels_a : Sheet → Look
labels_a s = looks_in s.code_a

abbrev pub labels_e : Sheet → Look
labels_e s = looks_in s.code_e

-- what a table has of each label
abbrev pub looks : {S : Type 0} → IndexMap (Bor (List ℕ)) LabelDefinition S → Look
looks table = λ name. get_by (λ k. bytes_eq name k.now) table

-- ---- tests

abbrev pub is_known : Look → JumpTarget → Bool
is_known labels (Given z) = true
is_known labels (Named name) = is_some (labels name)

abbrev pub operands_known : Look → Operands JumpTarget → Bool
operands_known labels (Branch a b t) = is_known labels t
operands_known labels (Jump a t) = is_known labels t
operands_known labels operands = true

-- a label that is defined first on this line
abbrev pub is_on : ℕ → Option LabelDefinition → Bool
is_on n None = false
is_on n (Some d) = d.line == n

-- a row whose labels are as they should be: a label that no line before defines, and targets that
-- some line defines
abbrev pub row_test : Look → Row → Bool
row_test labels (n, items.Label name) = is_on n (labels name)
row_test labels (n, items.Instruction i operands) = operands_known labels operands
row_test labels row = true

abbrev pub label_tests : Look → List Row → List (ℕ × Bool)
label_tests labels rows = map (λ r. (r.0, row_test labels r)) rows

-- the lines that define or use labels, in order, and how each fares
abbrev pub all_label_tests : Sheet → List (ℕ × Bool)
all_label_tests s =
    (s.entry.0, is_known (labels_a s) s.entry.1 && is_known (labels_e s) s.entry.2)
    ∷ (label_tests (labels_a s) s.code_a ++ label_tests (labels_e s) s.code_e)

-- the first line that fails
abbrev pub first_false : List (ℕ × Bool) → Option ℕ
first_false [] = None
first_false (t ∷ ts) = if t.1 then first_false ts else Some t.0
