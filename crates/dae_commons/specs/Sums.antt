-- What is assigned to a variable. One that is set to itself is computed again, where it's known to hold the sum of another variable and
-- a number that an access can add: so an access behind it can stand for the sum. Only one that A alone needs, so that nothing more is sent.
use Rattle.std.specs.Prelude.{ℕ, ◌^◌, Bool, false, not, ◌&&◌, nat_eq, nat_lt, if◌then◌else◌, List, [], ◌∷◌}
use Rattle.dae_ir.specs.Classes.{Classes}
use Rattle.dae_ir.specs.declared.form.Operand.TheVariants.{Variable, Number}
use Rattle.dae_ir.specs.declared.form.Value.{Value}
use Rattle.dae_ir.specs.declared.form.Value.TheVariants.{Same, Binary}
use Rattle.dae_meaning.specs.declared.Operator.TheVariants.{Add}
use Rattle.dae_commons.specs.declared.equations.Equation.{Equation}
use Rattle.dae_commons.specs.Copies.{propagated_value, computed_once}

-- the variable is set to itself
abbrev pub is_itself : ℕ → Value → Bool
is_itself v (Same (Variable u)) = nat_eq u v
is_itself v x = false

-- a number that an access can add to a register
abbrev pub fits_offset : ℕ → Bool
fits_offset n = nat_lt n (2 ^ 11)

-- the sum of a variable and such a number, where A needs the variable
abbrev pub base_sum_or : Classes → ℕ → ℕ → Value → Value
base_sum_or c w n other = if fits_offset n && c.s w then Binary Add (Variable w) (Number n) else other

-- a value as such a sum, where it is one
abbrev pub as_sum_or : Classes → Value → Value → Value
as_sum_or c (Binary Add (Variable w) (Number n)) other = base_sum_or c w n other
as_sum_or c (Binary Add (Number n) (Variable w)) other = base_sum_or c w n other
as_sum_or c x other = other

-- the sum that the variable holds, or else itself
abbrev pub held_sum : Classes → List Equation → ℕ → Value
held_sum c [] v = Same (Variable v)
held_sum c (e ∷ q) v =
    if nat_eq e.variable v then as_sum_or c e.value (Same (Variable v)) else held_sum c q v

abbrev pub computed_again : Classes → List Equation → ℕ → Value
computed_again c q v = if c.s v && not (c.needs v) then held_sum c q v else Same (Variable v)

-- what is written where x is assigned to v
abbrev pub assigned_value : Classes → List Equation → ℕ → Value → Value
assigned_value c q v x =
    if is_itself v x then computed_again c q v else computed_once c q v (propagated_value c q x)
