-- What stands of an image while it is made. What image a text says is defined by `Asm`; only the
-- functions that make it speak of this.
use Rattle.std.specs.Prelude.{◌≡◌, ℕ, ◌<◌, ◌≤◌, ◌^◌, List, length, All}
use Rattle.dae_image.specs.Ranges.{memory_range, calls_range, private_range}
use Rattle.dae_asm_order.specs.Sheets.{Row, Sheet}
use Rattle.dae_asm_labels.specs.declared.definitions.Labels.{Labels}
use Rattle.dae_asm_labels.specs.Labels.{Look, words, looks, labels_a, labels_e}
use Rattle.dae_asm_values.specs.Values.{IsFor, IsBudget, IsEntry, AreFormed}
use Rattle.dae_asm_values.specs.Claims.{code_claims, AreMet}
use Rattle.dae_asm_data.specs.Bounds.{AreKept}
use Rattle.dae_asm.specs.declared.head.Head.{Head}
use Rattle.dae_asm.specs.Assembly.{code_bounds}

-- tables of the labels of both sides
pub record HasTables (labels : Labels) (s : Sheet) : Type 0 where
  pub a : looks labels.a ≡ labels_a s
  pub e : looks labels.e ≡ labels_e s

-- as many words and names as a text of 2 ^ 27 bytes may have
pub record AreFew (s : Sheet) : Type 0 where
  pub a : words s.code_a ≤ 33554432
  pub e : words s.code_e ≤ 33554432
  pub names : length s.names ≤ 134217728

pub record AreCodesFormed (s : Sheet) : Type 0 where
  pub a : AreFormed s.code_a
  pub e : AreFormed s.code_e

-- the numbers at the head of a text
pub record IsHead (s : Sheet) (h : Head) : Type 0 where
  pub budget : IsBudget s.budget.1 h.budget
  pub memory : IsFor memory_range s.memory.1 h.memory
  pub calls : IsFor calls_range s.calls.1 h.calls
  pub private_a : IsFor private_range s.private.1 h.private_a
  pub private_e : IsFor private_range s.private.2 h.private_e
  pub entry_a : IsEntry (labels_a s) (words s.code_a) s.entry.1 h.entry_a
  pub entry_e : IsEntry (labels_e s) (words s.code_e) s.entry.2 h.entry_e

-- the words of a code that begins on this line
pub record IsCode (line : ℕ) (labels : Look) (rows : List Row) (code : List ℕ) : Type 0 where
  pub met : AreMet (code_claims labels 0 rows) code
  pub kept : AreKept (code_bounds line labels rows)
  pub count : length code ≡ words rows
  pub some : 1 ≤ length code
  pub small : All (λ w. w < 2 ^ 32) code
