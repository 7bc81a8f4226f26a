-- What code holds of the items of a text, and how they are taken apart by their places. A text in
-- order is defined by `IsSheet`; only the functions that take it apart speak of `cut`.
use Rattle.std.specs.Prelude.{ℕ, ℤ, Bool, true, false, List, [], ◌∷◌, map, take, drop, Option, Some, None}
use Rattle.std.specs.List.{prefix_len}
use Rattle.std.specs.Option.{option_map}
use Rattle.dae_base.specs.declared.Side.{Side}
use Rattle.dae_base.specs.declared.Side.TheVariants.{A, E}
use Rattle.dae_asm_lines.specs.Targets.{JumpTarget, target_seen}
use Rattle.dae_asm_lines.specs.Items as items
use Rattle.dae_asm_lines.specs.Items.{LineItem}
use Rattle.dae_asm_lines.specs.Lines.{seen}
use Rattle.dae_asm_lines.specs.Reading.{◌>>=◌}
use Rattle.dae_asm_order.specs.Sheets as sheets
use Rattle.dae_asm_order.specs.Sheets.{Row, is_code}
use Rattle.dae_asm_sheet.specs.declared.rows.Row as code
use Rattle.dae_asm_sheet.specs.declared.sheet.Sheet as code_sheet
use Rattle.dae_asm_sheet.specs.declared.sheet.SheetPart.{SheetPart}
use Rattle.dae_asm_sheet.specs.declared.sheet.SheetPart.TheVariants as parts

abbrev pub row_seen : code.Row → Row
row_seen r = (r.line, seen r.item)

abbrev pub rows_seen : List code.Row → List Row
rows_seen rows = map row_seen rows

-- ---- the rows of data, marks and names

abbrev pub bytes_at : Row → List (ℕ × List ℤ) → List (ℕ × List ℤ)
bytes_at (n, items.Bytes zs) rows = (n, zs) ∷ rows
bytes_at _ rows = rows

abbrev pub bytes_in : List Row → List (ℕ × List ℤ)
bytes_in [] = []
bytes_in (row ∷ rows) = bytes_at row (bytes_in rows)

abbrev pub mark_at : Row → List (ℕ × Side × ℤ × ℤ × ℤ) → List (ℕ × Side × ℤ × ℤ × ℤ)
mark_at (n, items.Mark side w f l) rows = (n, side, w, f, l) ∷ rows
mark_at _ rows = rows

abbrev pub marks_in : List Row → List (ℕ × Side × ℤ × ℤ × ℤ)
marks_in [] = []
marks_in (row ∷ rows) = mark_at row (marks_in rows)

abbrev pub name_at : Row → List (ℕ × List ℤ) → List (ℕ × List ℤ)
name_at (n, items.Name zs) rows = (n, zs) ∷ rows
name_at _ rows = rows

abbrev pub names_in : List Row → List (ℕ × List ℤ)
names_in [] = []
names_in (row ∷ rows) = name_at row (names_in rows)

-- what code holds of a text in order
abbrev pub sheet_seen : code_sheet.Sheet → sheets.Sheet
sheet_seen s = record {
  budget = (s.budget.0, s.budget.1);
  memory = s.memory;
  calls = s.calls;
  private = s.private;
  entry = (s.entry.0, target_seen s.entry.1, target_seen s.entry.2);
  begin_a = s.begin_a;
  code_a = rows_seen s.code_a.now;
  begin_e = s.begin_e;
  code_e = rows_seen s.code_e.now;
  begin_data = s.begin_data;
  bytes = bytes_in (rows_seen s.bytes.now);
  marks = marks_in (rows_seen s.marks.now);
  names = names_in (rows_seen s.names.now);
}

-- ---- the places

abbrev pub belongs : SheetPart → LineItem → Bool
belongs parts.Code item = is_code item
belongs parts.Bytes (items.Bytes zs) = true
belongs parts.Bytes _ = false
belongs parts.Marks (items.Mark side w f l) = true
belongs parts.Marks _ = false

-- how many rows from the first on belong to a part
abbrev pub part_length : SheetPart → List Row → ℕ
part_length part rows = prefix_len (λ r. belongs part r.1) rows

abbrev pub front : SheetPart → List Row → List Row
front part rows = take (part_length part rows) rows

abbrev pub back : SheetPart → List Row → List Row
back part rows = drop (part_length part rows) rows

-- the first row, if it is of a kind, and those behind it
abbrev pub first_row : List Row → Option (Row × List Row)
first_row [] = None
first_row (row ∷ rows) = Some (row, rows)

unfoldable pub first : {X : Type 0} → (Row → Option X) → List Row → Option (X × List Row)
first kind rows = first_row rows >>= λ f. option_map (λ x. (x, f.1)) (kind f.0)

abbrev pub budget_of : Row → Option (ℕ × List ℤ)
budget_of (n, items.Budget ns) = Some (n, ns)
budget_of _ = None

abbrev pub memory_of : Row → Option (ℕ × ℤ)
memory_of (n, items.Memory z) = Some (n, z)
memory_of _ = None

abbrev pub calls_of : Row → Option (ℕ × ℤ)
calls_of (n, items.Calls z) = Some (n, z)
calls_of _ = None

abbrev pub private_of : Row → Option (ℕ × ℤ × ℤ)
private_of (n, items.Private a e) = Some (n, a, e)
private_of _ = None

abbrev pub entry_of : Row → Option (ℕ × JumpTarget × JumpTarget)
entry_of (n, items.Entry a e) = Some (n, a, e)
entry_of _ = None

abbrev pub a_of : Row → Option ℕ
a_of (n, items.Code A) = Some n
a_of _ = None

abbrev pub e_of : Row → Option ℕ
e_of (n, items.Code E) = Some n
e_of _ = None

abbrev pub data_of : Row → Option ℕ
data_of (n, items.Data) = Some n
data_of _ = None

unfoldable pub cut : List Row → Option sheets.Sheet
cut rows = do
  budget ← first budget_of rows
  memory ← first memory_of budget.1
  calls ← first calls_of memory.1
  private ← first private_of calls.1
  entry ← first entry_of private.1
  begin_a ← first a_of entry.1
  begin_e ← first e_of (back parts.Code begin_a.1)
  begin_data ← first data_of (back parts.Code begin_e.1)
  Some (record {
    budget = budget.0;
    memory = memory.0;
    calls = calls.0;
    private = private.0;
    entry = entry.0;
    begin_a = begin_a.0;
    code_a = front parts.Code begin_a.1;
    begin_e = begin_e.0;
    code_e = front parts.Code begin_e.1;
    begin_data = begin_data.0;
    bytes = bytes_in (front parts.Bytes begin_data.1);
    marks = marks_in (front parts.Marks (back parts.Bytes begin_data.1));
    names = names_in (back parts.Marks (back parts.Bytes begin_data.1));
  })
