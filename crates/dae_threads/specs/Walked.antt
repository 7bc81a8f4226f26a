-- What the walk over statements gives.
use Rattle.std.specs.Prelude.{◌≡◌, ℕ, nat_eq, if◌then◌else◌, List, [], ◌∷◌, Option, Some, None}
use Rattle.dae_base.specs.declared.Place.{Place}
use Rattle.dae_meaning.specs.declared.Comparison.{Comparison}
use Rattle.dae_meaning.specs.declared.Comparison.TheVariants.{NotEqual}
use Rattle.dae_meaning.specs.declared.Operator.TheVariants.{Add}
use Rattle.dae_ir.specs.Code.{If}
use Rattle.dae_ir.specs.Form.{Form, before, form_of}
use Rattle.dae_ir.specs.declared.form.Operand.{Operand}
use Rattle.dae_ir.specs.declared.form.Operand.TheVariants.{Variable, Number}
use Rattle.dae_ir.specs.declared.form.Value.{Value}
use Rattle.dae_ir.specs.declared.form.Value.TheVariants.{Same, Binary}
use Rattle.dae_ir.specs.declared.form.Item.{Item}
use Rattle.dae_ir.specs.declared.form.Item.TheVariants.{Assign}
use Rattle.dae_ir.specs.declared.form.Statement.{Statement, Simple}
use Rattle.dae_threads.specs.Threaded.{is_nonzero, IsLed, IsThreaded}
use Rattle.dae_threads.specs.declared.leading.LedList.{LedList}

-- ---- what items and conditions are

-- the number that an item gives the variable v, where it sets u
abbrev pub number_assigned : (v u : ℕ) → Value → Option ℕ
number_assigned v u (Same (Number n)) = if nat_eq u v then Some n else None
number_assigned v u x = None

abbrev pub number_given : ℕ → Item → Option ℕ
number_given v (Assign u x) = number_assigned v u x
number_given v item = None

-- the variable, where it is compared with 0
abbrev pub beside_zero : Operand → Operand → Option ℕ
beside_zero (Variable v) (Number n) = if nat_eq n 0 then Some v else None
beside_zero x y = None

-- the variable of which a condition asks whether it isn't 0
abbrev pub nonzero_tested : Comparison → Operand → Operand → Option ℕ
nonzero_tested NotEqual x y = beside_zero x y
nonzero_tested comparison x y = None

-- ---- sums

-- a sum, with a number behind
abbrev pub sum_in_order : Operand → Operand → Value
sum_in_order (Number n) y = Binary Add y (Number n)
sum_in_order (Variable v) y = Binary Add (Variable v) y

abbrev pub value_in_order : Value → Value
value_in_order (Binary Add x y) = sum_in_order x y
value_in_order x = x

abbrev pub item_in_order : Item → Item
item_in_order (Assign v x) = Assign v (value_in_order x)
item_in_order item = item

abbrev pub statement_in_order : Statement → Statement
statement_in_order (Simple place item) = Simple place (item_in_order item)
statement_in_order s = s

-- ---- statements

-- the form of statements, and then k
abbrev pub list_before : List Statement → Form → Form
list_before [] k = k
list_before (s ∷ ss) k = before s (list_before ss k)

-- a statement of the same form
abbrev pub IsCopy : Statement → Statement → Type 0
IsCopy s s' = (k : Form) → before s' k ≡ before s k

-- ys are xs, behind which the others were copied
abbrev pub AreCopiedBehind : (xs ss ys : List Statement) → Type 0
AreCopiedBehind xs ss ys = (k : Form) → list_before ys k ≡ list_before xs (list_before ss k)

-- statements at whose ends the lists of a condition stand
abbrev pub AreLed : (v : ℕ) → (x y code : Form) → LedList → Type 0
AreLed v x y code new = IsLed v x y new.firsts new.seconds code (form_of (let xs = new.statements in xs.items))

-- a statement whose conditions are threaded
abbrev pub IsThreadedTo : Statement → Statement → Type 0
IsThreadedTo s s' = (k : Form) → IsThreaded (before s k) (before s' k)

-- one statement that stands for two, the second of which is a condition with these lists
abbrev pub IsJoinedWith : (s : Statement) → (v : ℕ) → (x y : Form) → Statement → Type 0
IsJoinedWith s v x y s' = (place : Place) (k : Form) → IsThreaded (before s (If place (is_nonzero v) x y k)) (before s' k)

-- and one for any two
abbrev pub IsJoined : (s t : Statement) → Statement → Type 0
IsJoined s t s' = (k : Form) → IsThreaded (before s (before t k)) (before s' k)

-- a statement that may come first in place of t behind s, and what comes behind it in place of s
abbrev pub AreExchanged : (s t t' s' : Statement) → Type 0
AreExchanged s t t' s' = (k : Form) → IsThreaded (before s (before t k)) (before t' (before s' k))

-- ys are xs, behind which a statement came
abbrev pub AreWithNext : (xs : List Statement) → Statement → List Statement → Type 0
AreWithNext xs s ys = (k : Form) → IsThreaded (list_before xs (before s k)) (list_before ys k)

-- two statements came behind xs
abbrev pub AreWithBoth : (xs : List Statement) → (s t : Statement) → List Statement → Type 0
AreWithBoth xs s t ys = (k : Form) → IsThreaded (list_before xs (before s (before t k))) (list_before ys k)
