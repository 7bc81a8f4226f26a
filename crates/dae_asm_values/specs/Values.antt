-- What the lines of a text say of an image.
use Rattle.std.specs.Prelude.{◌≡◌, ℕ, ◌+◌, ◌*◌, ◌<◌, ◌≤◌, ◌^◌, ◌%◌, ℤ, pos, ◌-ℤ◌, List, [], ◌∷◌, map, Option, Some, None, ◌⊎◌}
use Rattle.std.specs.Option.{option_map}
use Rattle.dae_base.specs.declared.Depths.{Depths}
use Rattle.dae_encode.specs.declared.Inst.{Inst}
use Rattle.dae_image.specs.declared.fields.FieldRange.{FieldRange}
use Rattle.dae_image.specs.Ranges.{IsIn, depth_range, entry_range}
use Rattle.dae_asm_lines.specs.declared.Operands.{Operands}
use Rattle.dae_asm_lines.specs.declared.Operands.TheVariants.{Registers, Immediate, Based, Branch, Upper, Jump, Alone}
use Rattle.dae_asm_lines.specs.Targets.{JumpTarget, Given, Named}
use Rattle.dae_asm_lines.specs.Names.{IsFilled, operands_of, AreAlike}
use Rattle.dae_asm_lines.specs.Items as items
use Rattle.dae_asm_order.specs.Sheets.{Row}
use Rattle.dae_asm_labels.specs.declared.definitions.LabelDefinition.{LabelDefinition}
use Rattle.dae_asm_labels.specs.Labels.{Look}

-- a number of a field
abbrev pub IsFor : FieldRange → ℤ → ℕ → Type 0
IsFor range z n = (z ≡ pos n) × IsIn range n

-- one that is a number of 32 bits
abbrev pub IsWithin : FieldRange → ℤ → ℕ → Type 0
IsWithin range z n = (z ≡ pos n) × (n < 2 ^ 32) × IsIn range n

-- the seven numbers of queues
abbrev pub depths : Depths → List ℕ
depths d = d.ld ∷ d.al ∷ d.sa ∷ d.sd ∷ d.ab ∷ d.eb ∷ d.cq ∷ []

pub record IsBudget (ns : List ℤ) (d : Depths) : Type 0 where
  pub said : ns ≡ map (λ n. pos n) (depths d)
  pub ld : IsIn depth_range d.ld
  pub al : IsIn depth_range d.al
  pub sa : IsIn depth_range d.sa
  pub sd : IsIn depth_range d.sd
  pub ab : IsIn depth_range d.ab
  pub eb : IsIn depth_range d.eb
  pub cq : IsIn depth_range d.cq

-- ---- addresses

abbrev pub address_in : Option LabelDefinition → Option ℕ
address_in found = option_map (λ d. d.address) found

-- a number, or the address of a label
abbrev pub IsAddress : Look → JumpTarget → ℕ → Type 0
IsAddress labels (Given z) n = z ≡ pos n
IsAddress labels (Named name) n = address_in (labels name) ≡ Some n

-- where a code of so many words is entered: below its end, if it has words
pub record IsEntry (labels : Look) (count : ℕ) (t : JumpTarget) (n : ℕ) : Type 0 where
  pub said : IsAddress labels t n
  pub range : IsIn entry_range n
  pub inside : (count ≡ 0) ⊎ (n < 4 * count)

-- ---- code

abbrev pub IsWord : ℤ → ℕ → Type 0
IsWord z w = (z ≡ pos w) × (w < 2 ^ 32)

-- an offset from an address: a label stands for the difference of addresses
abbrev pub IsOffset : Look → ℕ → JumpTarget → ℤ → Type 0
IsOffset labels here (Given z) offset = z ≡ offset
IsOffset labels here (Named name) offset =
    (there : ℕ) × ((address_in (labels name) ≡ Some there) × (offset ≡ pos there -ℤ pos here))

-- operands as those of an instruction at an address
abbrev pub AreOperands : Look → ℕ → Operands JumpTarget → Operands ℤ → Type 0
AreOperands labels here (Registers a b c) o = o ≡ Registers a b c
AreOperands labels here (Immediate a b n) o = o ≡ Immediate a b n
AreOperands labels here (Based a n b) o = o ≡ Based a n b
AreOperands labels here (Branch a b t) o =
    (offset : ℤ) × ((o ≡ Branch a b offset) × IsOffset labels here t offset)
AreOperands labels here (Upper a n) o = o ≡ Upper a n
AreOperands labels here (Jump a t) o =
    (offset : ℤ) × ((o ≡ Jump a offset) × IsOffset labels here t offset)
AreOperands labels here Alone o = o ≡ Alone

-- the instruction that a line says
pub record IsInstruction (labels : Look) (here : ℕ) (like : Inst) (operands : Operands JumpTarget)
    (i : Inst) : Type 0 where
  pub its : Operands ℤ
  pub are : AreOperands labels here operands its
  pub filled : IsFilled like its i

-- instructions whose operands have the form of their own
abbrev pub AreFormed : List Row → Type 0
AreFormed [] = Unit {0}
AreFormed ((n, items.Instruction i operands) ∷ rows) =
    AreAlike (operands_of i) operands × AreFormed rows
AreFormed (row ∷ rows) = AreFormed rows
