-- Reading the item of a line from left to right. What a line says is defined by `Says`; this is how
-- it is found, and only the functions that find it so speak of it.
use Rattle.std.specs.Prelude.{ℕ, nat_le, ℤ, pos, ◌&&◌, List, [], ◌∷◌, length, codes, Option, Some, None, if◌then◌else◌, ◌==◌}
use Rattle.std.specs.Option.{option_map}
use Rattle.std.specs.Str.{bytes_eq}
use Rattle.dae_base.specs.declared.Side.{Side}
use Rattle.dae_base.specs.declared.Side.TheVariants.{A, E}
use Rattle.dae_asm_lines.specs.declared.Operands.{Operands}
use Rattle.dae_asm_lines.specs.declared.Operands.TheVariants.{Registers, Immediate, Based, Branch, Upper, Jump, Alone}
use Rattle.dae_asm_lines.specs.Targets.{JumpTarget, Given, Named}
use Rattle.dae_asm_lines.specs.Names.{operands_of, named}
use Rattle.dae_asm_lines.specs.Tokens.{LineToken, Word, Number, Sign, Other, is_label, size_of}
use Rattle.dae_asm_lines.specs.Scanning.{first_token}
use Rattle.dae_asm_lines.specs.Items as items

infixl 10 ◌>>=◌
abbrev pub ◌>>=◌ : {A B : Type 0} → Option A → (A → Option B) → Option B
(Some x) >>= f = f x
None >>= f = None

-- ---- tokens of one kind

abbrev pub number : LineToken → Option ℤ
number (Word w) = None
number (Number z) = Some z
number (Sign b) = None
number Other = None

abbrev pub name : LineToken → Option (List ℕ)
name (Word w) = Some w
name (Number z) = None
name (Sign b) = None
name Other = None

abbrev pub is_same : ℕ → ℕ → Option (Unit {0})
is_same wanted b = if b == wanted then Some tt else None

abbrev pub sign : ℕ → LineToken → Option (Unit {0})
sign wanted (Word w) = None
sign wanted (Number z) = None
sign wanted (Sign b) = is_same wanted b
sign wanted Other = None

abbrev pub register_of : List ℕ → Option ℤ
register_of [] = None
register_of (b ∷ bs) = if b == 120 then option_map (λ n. pos n) (size_of bs) else None

abbrev pub register : LineToken → Option ℤ
register t = name t >>= register_of

abbrev pub named_target : List ℕ → Option JumpTarget
named_target w = if is_label w then Some (Named w) else None

abbrev pub target : LineToken → Option JumpTarget
target (Word w) = named_target w
target (Number z) = Some (Given z)
target (Sign b) = None
target Other = None

-- the first token, if it is of a kind, and those behind it
abbrev pub kind_of : {X : Type 0} → (LineToken → Option X) → Option (LineToken × List LineToken)
    → Option (X × List LineToken)
kind_of kind found = found >>= λ f. option_map (λ x. (x, f.1)) (kind f.0)

unfoldable pub first : {X : Type 0} → (LineToken → Option X) → List LineToken
    → Option (X × List LineToken)
first kind ts = kind_of kind (first_token ts)

unfoldable pub end : List LineToken → Option (Unit {0})
end [] = Some tt
end (t ∷ ts) = None

-- all tokens are numbers
abbrev pub all_numbers : List LineToken → Option (List ℤ)
all_numbers [] = Some []
all_numbers (t ∷ ts) = number t >>= λ z. option_map (λ zs. z ∷ zs) (all_numbers ts)

-- ---- operands

unfoldable pub two_registers_at : List LineToken → Option (ℤ × ℤ × List LineToken)
two_registers_at ts = do
  a ← first register ts
  c ← first (sign 44) a.1
  b ← first register c.1
  d ← first (sign 44) b.1
  Some (a.0, b.0, d.1)

unfoldable pub registers_at : List LineToken → Option (Operands JumpTarget)
registers_at ts = do
  two ← two_registers_at ts
  c ← first register two.2
  over ← end c.1
  Some (Registers two.0 two.1 c.0)

unfoldable pub immediate_at : List LineToken → Option (Operands JumpTarget)
immediate_at ts = do
  two ← two_registers_at ts
  n ← first number two.2
  over ← end n.1
  Some (Immediate two.0 two.1 n.0)

unfoldable pub based_at : List LineToken → Option (Operands JumpTarget)
based_at ts = do
  a ← first register ts
  c ← first (sign 44) a.1
  n ← first number c.1
  o ← first (sign 40) n.1
  b ← first register o.1
  p ← first (sign 41) b.1
  over ← end p.1
  Some (Based a.0 n.0 b.0)

unfoldable pub branch_at : List LineToken → Option (Operands JumpTarget)
branch_at ts = do
  two ← two_registers_at ts
  t ← first target two.2
  over ← end t.1
  Some (Branch two.0 two.1 t.0)

unfoldable pub upper_at : List LineToken → Option (Operands JumpTarget)
upper_at ts = do
  a ← first register ts
  c ← first (sign 44) a.1
  n ← first number c.1
  over ← end n.1
  Some (Upper a.0 n.0)

unfoldable pub jump_at : List LineToken → Option (Operands JumpTarget)
jump_at ts = do
  a ← first register ts
  c ← first (sign 44) a.1
  t ← first target c.1
  over ← end t.1
  Some (Jump a.0 t.0)

unfoldable pub alone_at : List LineToken → Option (Operands JumpTarget)
alone_at ts = do
  over ← end ts
  Some Alone

-- operands of the form of these
unfoldable pub operands_at : Operands ℤ → List LineToken → Option (Operands JumpTarget)
operands_at (Registers _ _ _) ts = registers_at ts
operands_at (Immediate _ _ _) ts = immediate_at ts
operands_at (Based _ _ _) ts = based_at ts
operands_at (Branch _ _ _) ts = branch_at ts
operands_at (Upper _ _) ts = upper_at ts
operands_at (Jump _ _) ts = jump_at ts
operands_at Alone ts = alone_at ts

-- ---- items behind their names

unfoldable pub seven_at : List LineToken → Option items.LineItem
seven_at ts = do
  a ← first number ts
  b ← first number a.1
  c ← first number b.1
  d ← first number c.1
  e ← first number d.1
  f ← first number e.1
  g ← first number f.1
  over ← end g.1
  Some (items.Budget (a.0 ∷ b.0 ∷ c.0 ∷ d.0 ∷ e.0 ∷ f.0 ∷ g.0 ∷ []))

-- one number
unfoldable pub one_at : (ℤ → items.LineItem) → List LineToken → Option items.LineItem
one_at item ts = do
  n ← first number ts
  over ← end n.1
  Some (item n.0)

unfoldable pub private_at : List LineToken → Option items.LineItem
private_at ts = do
  a ← first number ts
  e ← first number a.1
  over ← end e.1
  Some (items.Private a.0 e.0)

unfoldable pub entry_at : List LineToken → Option items.LineItem
entry_at ts = do
  a ← first target ts
  e ← first target a.1
  over ← end e.1
  Some (items.Entry a.0 e.0)

-- nothing
unfoldable pub nothing_at : items.LineItem → List LineToken → Option items.LineItem
nothing_at item ts = do
  over ← end ts
  Some item

abbrev pub side_of : List ℕ → Option Side
side_of w =
    if bytes_eq w (codes "a") then Some A
    else (if bytes_eq w (codes "e") then Some E else None)

unfoldable pub mark_at : List LineToken → Option items.LineItem
mark_at ts = do
  s ← first name ts
  side ← side_of s.0
  w ← first number s.1
  f ← first number w.1
  l ← first number f.1
  over ← end l.1
  Some (items.Mark side w.0 f.0 l.0)

abbrev pub if_few : List ℤ → Option items.LineItem
if_few zs = if nat_le 1 (length zs) && nat_le (length zs) 16 then Some (items.Bytes zs) else None

unfoldable pub bytes_at : List LineToken → Option items.LineItem
bytes_at ts = all_numbers ts >>= if_few

unfoldable pub name_at : List LineToken → Option items.LineItem
name_at ts = option_map (λ zs. items.Name zs) (all_numbers ts)

unfoldable pub instruction_at : List ℕ → List LineToken → Option items.LineItem
instruction_at w ts = do
  i ← named w
  operands ← operands_at (operands_of i) ts
  Some (items.Instruction i operands)

unfoldable pub behind_name : List ℕ → List LineToken → Option items.LineItem
behind_name w ts =
    if bytes_eq w (codes ".budget") then seven_at ts
    else (if bytes_eq w (codes ".memory") then one_at (λ n. items.Memory n) ts
    else (if bytes_eq w (codes ".calls") then one_at (λ n. items.Calls n) ts
    else (if bytes_eq w (codes ".private") then private_at ts
    else (if bytes_eq w (codes ".entry") then entry_at ts
    else (if bytes_eq w (codes ".a") then nothing_at (items.Code A) ts
    else (if bytes_eq w (codes ".e") then nothing_at (items.Code E) ts
    else (if bytes_eq w (codes ".data") then nothing_at items.Data ts
    else (if bytes_eq w (codes ".word") then one_at (λ n. items.Plain n) ts
    else (if bytes_eq w (codes ".byte") then bytes_at ts
    else (if bytes_eq w (codes ".line") then mark_at ts
    else (if bytes_eq w (codes ".name") then name_at ts
    else instruction_at w ts)))))))))))

unfoldable pub colon_at : List LineToken → Option (Unit {0})
colon_at ts = do
  c ← first (sign 58) ts
  end c.1

abbrev pub label_or : Option (Unit {0}) → List ℕ → Option items.LineItem → Option items.LineItem
label_or None w other = other
label_or (Some u) w other = if is_label w then Some (items.Label w) else other

-- the item that tokens say
unfoldable pub item_of : List LineToken → Option items.LineItem
item_of ts = do
  w ← first name ts
  label_or (colon_at w.1) w.0 (behind_name w.0 w.1)
