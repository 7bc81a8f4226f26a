-- Equations that are known at a place of code: a variable holds what a value computes from others. One that sets a variable takes
-- away those that involve it.
use Rattle.std.specs.Prelude.{◌≡◌, ℕ, Bool, false, ◌&&◌, ◌||◌, nat_eq, if◌then◌else◌, List, [], ◌∷◌, ◌++◌, take, Option, Some, None}
use Rattle.std.specs.List.{AllByRecursion}
use Rattle.dae_meaning.specs.Variables.{Env}
use Rattle.dae_ir.specs.Code.{Done, Do, If, Loop}
use Rattle.dae_ir.specs.Form.{Form, before, computed}
use Rattle.dae_ir.specs.contracts.form.ValuePartialEq.TheImpl.{ghosts as of_values}
use Rattle.dae_ir.specs.declared.form.Operand.{Operand}
use Rattle.dae_ir.specs.declared.form.Operand.TheVariants.{Variable, Number}
use Rattle.dae_ir.specs.declared.form.Value.{Value}
use Rattle.dae_ir.specs.declared.form.Value.TheVariants.{Same, Extended, Binary, Holds, FrameAddress}
use Rattle.dae_ir.specs.declared.form.Item.{Item}
use Rattle.dae_ir.specs.declared.form.Item.TheVariants.{Assign, Load, Store, Print, Expect, Break, Continue, Call, Return, Halt}
use Rattle.dae_ir.specs.declared.form.Statement.{Statement}
use Rattle.dae_commons.specs.declared.equations.Equation.{Equation}

-- with these variables, in a frame that begins there
abbrev pub AreTrue : List Equation → (frame : ℕ) → Env → Type 0
AreTrue q frame env = AllByRecursion (λ (e : Equation). env e.variable ≡ computed e.value frame env) q

-- ---- what a variable stands in

abbrev pub operand_involves : ℕ → Operand → Bool
operand_involves v (Variable u) = nat_eq u v
operand_involves v (Number k) = false

abbrev pub value_involves : ℕ → Value → Bool
value_involves v (Same x) = operand_involves v x
value_involves v (Extended kind x) = operand_involves v x
value_involves v (Binary operator x y) = operand_involves v x || operand_involves v y
value_involves v (Holds t) = operand_involves v t.left || operand_involves v t.right
value_involves v (FrameAddress offset) = false

abbrev pub involves : ℕ → Equation → Bool
involves v e = nat_eq e.variable v || value_involves v e.value

-- ---- behind what sets a variable

abbrev pub without_variable : ℕ → List Equation → List Equation
without_variable v [] = []
without_variable v (e ∷ q) =
    if involves v e then without_variable v q else e ∷ without_variable v q

abbrev pub equation : ℕ → Value → Equation
equation v x = record { variable = v; value = x }

-- a variable holds what was assigned to it, if it didn't stand there itself
abbrev pub equation_of : ℕ → Value → List Equation
equation_of v x = if value_involves v x then [] else equation v x ∷ []

-- the latest 32
abbrev pub with_equation : ℕ → Value → List Equation → List Equation
with_equation v x q = take 32 (equation_of v x ++ without_variable v q)

-- ---- what is known at a place: equations, or all that may be said, where the code doesn't go on

abbrev pub equations_in : Option (List Equation) → List Equation
equations_in None = []
equations_in (Some q) = q

-- ---- where two ways meet

abbrev pub same_equation : Equation → Equation → Bool
same_equation d e = nat_eq d.variable e.variable && of_values.eq d.value e.value

abbrev pub is_among : Equation → List Equation → Bool
is_among d [] = false
is_among d (e ∷ q) = same_equation d e || is_among d q

abbrev pub both_known : List Equation → List Equation → List Equation
both_known [] r = []
both_known (e ∷ q) r = if is_among e r then e ∷ both_known q r else both_known q r

abbrev pub met : Option (List Equation) → Option (List Equation) → Option (List Equation)
met None k = k
met (Some q) None = Some q
met (Some q) (Some r) = Some (both_known q r)

-- ---- through code that sets variables

-- behind an item nothing is known that involves what it sets, and behind a call nothing, so that no value is kept over one for its sake
abbrev pub without_item : List Equation → Item → List Equation
without_item q (Assign v x) = without_variable v q
without_item q (Load v kind x) = without_variable v q
without_item q (Store width x y) = q
without_item q (Print spelling x) = q
without_item q (Expect check) = q
without_item q Break = q
without_item q Continue = q
without_item q (Call v f xs) = []
without_item q (Return x) = q
without_item q (Halt x) = q

abbrev pub without_set : List Equation → Form → List Equation
without_set q Done = q
without_set q (Do place item k) = without_set (without_item q item) k
without_set q (If place t x y k) = without_set (without_set (without_set q x) y) k
without_set q (Loop place x y k) = without_set (without_set (without_set q x) y) k

-- what is known in a loop with this body and this step, and behind it
abbrev pub known_in_loop : List Equation → Form → Form → List Equation
known_in_loop q x y = without_set (without_set q x) y

-- behind a statement
pub record IsWithoutStatement (s : Statement) (old new : List Equation) : Type 0 where
  pub known : (k : Form) → without_set old (before s k) ≡ without_set new k
