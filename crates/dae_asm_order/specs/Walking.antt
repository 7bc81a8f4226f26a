-- How a text is read item by item, and how the order of its items is found. What is in order is
-- defined by `IsSheet`; only the functions that find it speak of this.
use Rattle.std.specs.Prelude.{◌≡◌, ℕ, suc, ◌+◌, ◌<◌, ◌≤◌, Bool, true, false, not, ◌==◌, length, List, [], ◌∷◌, Option, Some, None}
use Rattle.dae_base.specs.declared.Side.{Side}
use Rattle.dae_base.specs.declared.Side.TheVariants.{A, E}
use Rattle.dae_asm_lines.specs.Items as items
use Rattle.dae_asm_lines.specs.Items.{LineItem}
use Rattle.dae_asm_lines.specs.Lines.{IsLine, seen}
use Rattle.dae_asm_order.specs.declared.lines.Lines.{Lines}
use Rattle.dae_asm_order.specs.declared.lines.Next.{Next}
use Rattle.dae_asm_order.specs.declared.lines.Next.TheVariants as nexts
use Rattle.dae_asm_order.specs.declared.order.NextItem.{NextItem}
use Rattle.dae_asm_order.specs.declared.order.NextItem.TheVariants as places
use Rattle.dae_asm_order.specs.Sheets.{Row, lines_of, Skips}

-- a byte of a line
abbrev pub is_inner : ℕ → Bool
is_inner b = not (b == 10)

-- an item of the line n, behind lines that say nothing, and the lines behind it
pub record IsItem (from : Lines) (item : LineItem) (n : ℕ) (after : Lines) : Type 0 where
  pub count : ℕ
  pub line : List ℕ
  pub skipped : Skips (lines_of from.text.now) count (line ∷ lines_of after.text.now)
  pub says : IsLine line (Some item)
  pub number : n ≡ from.before + suc count
  pub goes_on : after.before ≡ n
  pub shorter : length after.text.now < length from.text.now
  pub fits : after.before + length after.text.now ≤ from.before + length from.text.now

-- a line that says nothing that a line may say
pub record IsBadNext (from : Lines) (n : ℕ) : Type 0 where
  pub count : ℕ
  pub line : List ℕ
  pub behind : List (List ℕ)
  pub skipped : Skips (lines_of from.text.now) count (line ∷ behind)
  pub bad : (o : Option LineItem) → IsLine line o → ⊥
  pub number : n ≡ from.before + suc count

-- no item
pub record IsEnd (from : Lines) (n : ℕ) : Type 0 where
  pub count : ℕ
  pub skipped : Skips (lines_of from.text.now) count []
  pub number : n ≡ from.before + count
  pub fits : n ≤ from.before + length from.text.now

abbrev pub IsNext : Lines → Next → Type 0
IsNext from (nexts.Item item n after) = IsItem from (seen item) n after
IsNext from (nexts.Bad n) = IsBadNext from n
IsNext from (nexts.End n) = IsEnd from n

-- ---- the order

abbrev pub in_code : Side → LineItem → Option NextItem
in_code side (items.Label name) = Some (places.Code side)
in_code side (items.Instruction i operands) = Some (places.Code side)
in_code side (items.Plain n) = Some (places.Code side)
in_code A (items.Code E) = Some (places.Code E)
in_code E items.Data = Some places.Bytes
in_code _ _ = None

-- the place behind an item, if the item may stand there
abbrev pub place_behind : NextItem → LineItem → Option NextItem
place_behind places.Budget (items.Budget ns) = Some places.Memory
place_behind places.Memory (items.Memory n) = Some places.Calls
place_behind places.Calls (items.Calls n) = Some places.Private
place_behind places.Private (items.Private a e) = Some places.Entry
place_behind places.Entry (items.Entry a e) = Some places.Codes
place_behind places.Codes (items.Code A) = Some (places.Code A)
place_behind (places.Code side) item = in_code side item
place_behind places.Bytes (items.Bytes ns) = Some places.Bytes
place_behind places.Bytes (items.Mark side w f l) = Some places.Marks
place_behind places.Bytes (items.Name ns) = Some places.Names
place_behind places.Marks (items.Mark side w f l) = Some places.Marks
place_behind places.Marks (items.Name ns) = Some places.Names
place_behind places.Names (items.Name ns) = Some places.Names
place_behind _ _ = None

abbrev pub or_none : Option NextItem → (NextItem → Option NextItem) → Option NextItem
or_none None f = None
or_none (Some p) f = f p

-- the place behind rows, each of which may stand where it stands
abbrev pub place_after : NextItem → List Row → Option NextItem
place_after place [] = Some place
place_after place (row ∷ rows) = or_none (place_behind place row.1) (λ p. place_after p rows)

abbrev pub is_last : NextItem → Bool
is_last places.Bytes = true
is_last places.Marks = true
is_last places.Names = true
is_last _ = false
