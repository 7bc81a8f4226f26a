-- Variables above every one that equations involve: what sets one of them takes none of the equations away.
use Rattle.std.specs.Prelude.{◌≡◌, ℕ, ◌<◌, false, List, max}
use Rattle.std.specs.List.{AllByRecursion}
use Rattle.dae_ir.specs.declared.form.Operand.{Operand}
use Rattle.dae_ir.specs.declared.form.Operand.TheVariants.{Variable, Number}
use Rattle.dae_ir.specs.declared.form.Value.{Value}
use Rattle.dae_ir.specs.declared.form.Value.TheVariants.{Same, Extended, Binary, Holds, FrameAddress}
use Rattle.dae_commons.specs.declared.equations.Equation.{Equation}
use Rattle.dae_commons.specs.Equations.{involves}

-- no equation involves a variable above the highest
abbrev pub InvolveNoneAbove : (highest : ℕ) → List Equation → Type 0
InvolveNoneAbove highest q =
    AllByRecursion (λ (e : Equation). (v : ℕ) → highest < v → involves v e ≡ false) q

-- the operand's variable, or 0
abbrev pub highest_in_operand : Operand → ℕ
highest_in_operand (Variable v) = v
highest_in_operand (Number k) = 0

-- the highest variable that a value involves, or 0
abbrev pub highest_in_value : Value → ℕ
highest_in_value (Same x) = highest_in_operand x
highest_in_value (Extended kind x) = highest_in_operand x
highest_in_value (Binary operator x y) = max (highest_in_operand x) (highest_in_operand y)
highest_in_value (Holds t) = max (highest_in_operand t.left) (highest_in_operand t.right)
highest_in_value (FrameAddress offset) = 0

-- the highest of a variable, of v, and of those that its value x involves
abbrev pub highest_with : (highest v : ℕ) → Value → ℕ
highest_with highest v x = max (max highest v) (highest_in_value x)
