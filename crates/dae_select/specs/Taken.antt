-- A number beside a word that is taken from a queue, where one instruction has both.
use Rattle.std.specs.Prelude.{ℕ, if◌then◌else◌, Option, Some, None}
use Rattle.dae_encode.specs.declared.Inst.{Inst}
use Rattle.dae_ir.specs.declared.form.Operand.{Operand}
use Rattle.dae_ir.specs.declared.form.Operand.TheVariants.{Variable, Number}
use Rattle.dae_meaning.specs.declared.Comparison.{Comparison}
use Rattle.dae_meaning.specs.declared.Operator.{Operator}
use Rattle.dae_select_walks.specs.declared.Home.{Home}
use Rattle.dae_select_blocks.specs.Blocks.{as_immediate, exchanged_code, immediate_code}

-- the number that a comparison has for its right operand as an immediate
abbrev pub number_beside : (ℕ → Home) → Comparison → Operand → Option ℕ
number_beside home c (Variable v) = None
number_beside home c (Number n) = if as_immediate home c n then Some n else None

-- the operation on a register and an operand to its right in one instruction
abbrev pub beside_right : Operator → ℕ → ℕ → Operand → Option Inst
beside_right o t r (Variable v) = None
beside_right o t r (Number n) = immediate_code o t r n

-- to its left
abbrev pub beside_left : Operator → ℕ → ℕ → Operand → Option Inst
beside_left o t r (Variable v) = None
beside_left o t r (Number n) = exchanged_code o t r n
