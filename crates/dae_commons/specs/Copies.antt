-- What is read and what is computed, by the equations that are known. A variable is read as what it is a copy of, and a value that
-- another variable holds already is copied from there; both only where just those processors need the one that need the other.
use Rattle.std.specs.Prelude.{ℕ, Bool, true, false, not, ◌&&◌, nat_eq, if◌then◌else◌, List, [], ◌∷◌}
use Rattle.std.specs.Bool.{beq}
use Rattle.dae_ir.specs.Classes.{Classes}
use Rattle.dae_ir.specs.contracts.form.ValuePartialEq.TheImpl.{ghosts as of_values}
use Rattle.dae_ir.specs.declared.form.Operand.{Operand}
use Rattle.dae_ir.specs.declared.form.Operand.TheVariants.{Variable, Number}
use Rattle.dae_ir.specs.declared.form.Value.{Value}
use Rattle.dae_ir.specs.declared.form.Value.TheVariants.{Same, Extended, Binary, Holds, FrameAddress}
use Rattle.dae_ir.specs.declared.form.Test.{Test}
use Rattle.dae_ir.specs.declared.form.Check.{Check}
use Rattle.dae_ir.specs.declared.form.Check.TheVariants.{Place, InBounds, Zero, Room, Frame, Abort}
use Rattle.dae_commons.specs.declared.equations.Equation.{Equation}

-- just those processors need the one variable that need the other
abbrev pub are_alike : Classes → ℕ → ℕ → Bool
are_alike c u v = beq (c.s u) (c.s v) && beq (c.needs u) (c.needs v)

-- ---- what is read

-- the variable that a value copies, or v
abbrev pub source_in : ℕ → Value → ℕ
source_in v (Same (Variable u)) = u
source_in v (Same (Number k)) = v
source_in v (Extended kind x) = v
source_in v (Binary operator x y) = v
source_in v (Holds t) = v
source_in v (FrameAddress offset) = v

abbrev pub is_copy : Classes → ℕ → Equation → Bool
is_copy c v e = nat_eq e.variable v && are_alike c (source_in v e.value) v

abbrev pub copy_source : Classes → List Equation → ℕ → ℕ
copy_source c [] v = v
copy_source c (e ∷ q) v = if is_copy c v e then source_in v e.value else copy_source c q v

abbrev pub propagated_operand : Classes → List Equation → Operand → Operand
propagated_operand c q (Variable v) = Variable (copy_source c q v)
propagated_operand c q (Number k) = Number k

abbrev pub propagated_operands : Classes → List Equation → List Operand → List Operand
propagated_operands c q [] = []
propagated_operands c q (x ∷ xs) = propagated_operand c q x ∷ propagated_operands c q xs

abbrev pub propagated_test : Classes → List Equation → Test → Test
propagated_test c q t = record {
  comparison = t.comparison;
  left = propagated_operand c q t.left;
  right = propagated_operand c q t.right;
}

abbrev pub propagated_value : Classes → List Equation → Value → Value
propagated_value c q (Same x) = Same (propagated_operand c q x)
propagated_value c q (Extended kind x) = Extended kind (propagated_operand c q x)
propagated_value c q (Binary operator x y) =
    Binary operator (propagated_operand c q x) (propagated_operand c q y)
propagated_value c q (Holds t) = Holds (propagated_test c q t)
propagated_value c q (FrameAddress offset) = FrameAddress offset

abbrev pub propagated_check : Classes → List Equation → Check → Check
propagated_check c q (Place width x) = Place width (propagated_operand c q x)
propagated_check c q (InBounds x offset) = InBounds (propagated_operand c q x) offset
propagated_check c q (Zero x) = Zero (propagated_operand c q x)
propagated_check c q (Room f) = Room f
propagated_check c q Frame = Frame
propagated_check c q Abort = Abort

-- ---- what is computed

-- the number of a variable, or the number that stands there
abbrev pub operand_word : Operand → ℕ
operand_word (Variable v) = v
operand_word (Number k) = k

-- the word that stands last in a value
abbrev pub last_word : Value → ℕ
last_word (Same x) = operand_word x
last_word (Extended kind x) = operand_word x
last_word (Binary operator x y) = operand_word y
last_word (Holds t) = operand_word t.right
last_word (FrameAddress offset) = offset

abbrev pub are_same : Value → Value → Bool
are_same x y = of_values.eq x y

-- another variable than v holds the value, which v is to get
abbrev pub holds_already : Classes → ℕ → Value → Equation → Bool
holds_already c v x e =
    of_values.eq e.value x && (not (nat_eq e.variable v) && are_alike c e.variable v)

abbrev pub held_value : Classes → List Equation → ℕ → Value → Value
held_value c [] v x = x
held_value c (e ∷ q) v x =
    if holds_already c v x e then Same (Variable e.variable) else held_value c q v x

abbrev pub is_operand : Value → Bool
is_operand (Same x) = true
is_operand (Extended kind x) = false
is_operand (Binary operator x y) = false
is_operand (Holds t) = false
is_operand (FrameAddress offset) = false

-- what is assigned to v; an operand stays
abbrev pub computed_once : Classes → List Equation → ℕ → Value → Value
computed_once c q v x = if is_operand x then x else held_value c q v x
