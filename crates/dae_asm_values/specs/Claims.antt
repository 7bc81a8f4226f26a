-- What each line of a code claims, the words that meet the claims, and the first line whose claim no
-- word meets.
use Rattle.std.specs.Prelude.{◌≡◌, ℕ, suc, ◌+◌, ℤ, List, [], ◌∷◌, Option, Some, None, ◌⊎◌}
use Rattle.dae_encode.specs.declared.Inst.{Inst}
use Rattle.dae_encode.specs.Spelling.{encoded}
use Rattle.dae_asm_lines.specs.declared.Operands.{Operands}
use Rattle.dae_asm_lines.specs.Targets.{JumpTarget}
use Rattle.dae_asm_lines.specs.Items as items
use Rattle.dae_asm_order.specs.Sheets.{Row}
use Rattle.dae_asm_labels.specs.Labels.{Look, words}
use Rattle.dae_asm_values.specs.Values.{IsWord, IsInstruction}
use Rattle.dae_asm_values.specs.declared.code.Said.{Said}
use Rattle.dae_asm_values.specs.declared.code.Said.TheVariants as says
use Rattle.dae_asm_values.specs.declared.code.CodeFault.{CodeFault}
use Rattle.dae_asm_values.specs.declared.code.CodeFault.TheVariants as faults

-- a line that says a word, or an instruction: with where its labels are, and its address
pub data Claim : Type 0 where
  Spells : ℤ → Claim
  Does : Look → ℕ → Inst → Operands JumpTarget → Claim

-- the word that a line says
abbrev pub Meets : Claim → ℕ → Type 0
Meets (Spells z) w = IsWord z w
Meets (Does labels here like operands) w =
    (i : Inst) × ((w ≡ encoded i) × IsInstruction labels here like operands i)

-- a label says no word
abbrev pub claim_at : Look → ℕ → Row → Option Claim
claim_at labels here (n, items.Plain z) = Some (Spells z)
claim_at labels here (n, items.Instruction like operands) = Some (Does labels here like operands)
claim_at labels here row = None

abbrev pub claims_then : ℕ → Option Claim → List (ℕ × Claim) → List (ℕ × Claim) → List (ℕ × Claim)
claims_then n None here behind = here
claims_then n (Some c) here behind = (n, c) ∷ behind

-- the claims of a code from an address on, each with the number of its line
abbrev pub code_claims : Look → ℕ → List Row → List (ℕ × Claim)
code_claims labels here [] = []
code_claims labels here (row ∷ rows) =
    claims_then row.0 (claim_at labels here row)
    (code_claims labels here rows) (code_claims labels (here + 4) rows)

-- words, one for each claim
abbrev pub AreMet : List (ℕ × Claim) → List ℕ → Type 0
AreMet [] ws = ws ≡ []
AreMet (c ∷ cs) ws =
    (w : ℕ) × ((rest : List ℕ) × ((ws ≡ w ∷ rest) × Meets c.1 w × AreMet cs rest))

-- the first line whose claim no word meets
abbrev pub IsFirstUnmet : List (ℕ × Claim) → ℕ → Type 0
IsFirstUnmet [] n = ⊥
IsFirstUnmet (c ∷ cs) n =
    ((c.0 ≡ n) × ((w : ℕ) → Meets c.1 w → ⊥)) ⊎ (((w : ℕ) × Meets c.1 w) × IsFirstUnmet cs n)

-- ---- what code finds of a row

pub record SaysNothing (labels : Look) (here : ℕ) (row : Row) : Type 0 where
  pub claim : claim_at labels here row ≡ None
  pub few : (rows : List Row) → words (row ∷ rows) ≡ words rows

pub record SaysWord (labels : Look) (here : ℕ) (row : Row) (w : ℕ) : Type 0 where
  pub its : Claim
  pub claim : claim_at labels here row ≡ Some its
  pub meets : Meets its w
  pub one : (rows : List Row) → words (row ∷ rows) ≡ suc (words rows)

pub record SaysUnmet (labels : Look) (here : ℕ) (row : Row) : Type 0 where
  pub its : Claim
  pub claim : claim_at labels here row ≡ Some its
  pub unmet : (w : ℕ) → Meets its w → ⊥

abbrev pub IsSaid : Look → ℕ → Row → Said → Type 0
IsSaid labels here row says.Nothing = SaysNothing labels here row
IsSaid labels here row (says.Word w) = SaysWord labels here row w
IsSaid labels here row says.Unmet = SaysUnmet labels here row

abbrev pub said_of : Option ℕ → Said
said_of None = says.Unmet
said_of (Some w) = says.Word w

abbrev pub IsCodeFault : Look → List Row → CodeFault → Type 0
IsCodeFault labels rows (faults.Unmet n) = IsFirstUnmet (code_claims labels 0 rows) n
IsCodeFault labels rows faults.Memory = Unit {0}
