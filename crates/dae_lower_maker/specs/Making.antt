-- What a maker has written so far, and how it goes on.
use Rattle.std.specs.Prelude.{◌≡◌, ℕ, ◌+◌, ◌-◌, ◌^◌, ◌<◌, ◌≤◌, true, List, if◌then◌else◌}
use Rattle.dae_ir.specs.Classes.{VariableSet}
use Rattle.dae_ir.specs.Code.{Done, Do, If}
use Rattle.dae_ir.specs.Form.{Form, form_of}
use Rattle.dae_lower_maker.specs.declared.maker.Maker.{Maker}
use Rattle.dae_lower_maker.specs.declared.maker.Assignee.{Assignee}
use Rattle.dae_lower_maker.specs.declared.maker.Lvalue.{Lvalue}
use Rattle.dae_lower_maker.specs.declared.maker.Increment.{Increment}
use Rattle.dae_lower_maker.specs.declared.maker.Condition.{Condition}
use Rattle.dae_lower_maker.specs.declared.maker.Assignee.TheVariants as spot
use Rattle.dae_base.specs.declared.LoadKind.{LoadKind}
use Rattle.dae_base.specs.declared.Place.{Place}
use Rattle.dae_ir.specs.declared.form.Item.{Item}
use Rattle.dae_ir.specs.declared.form.Item.TheVariants.{Load, Expect, Call}
use Rattle.dae_ir.specs.declared.form.Check.TheVariants.{Room}
use Rattle.dae_ir.specs.declared.form.Operand.{Operand}
use Rattle.dae_ir.specs.declared.form.Operand.TheVariants.{Variable}
use Rattle.dae_lower.specs.Lowering.{Made, only, one, nothing, operated, narrowed, ◌⨾◌, ◌≫◌}
use Rattle.dae_lower_maker.specs.Numbers.{late_in}
use Rattle.dae_meaning.specs.declared.Operator.{Operator}
use Rattle.dae_lower.specs.Lowering as form
use Rattle.dae_program.specs.Views.{is_prefix}
use Rattle.dae_program.specs.declared.expressions.Fixity.{Fixity}

-- the form so far, and the next variable
pub record CodeSoFar : Type 0 where
  pub code : Form
  pub next : ℕ

abbrev pub so_far : Maker → CodeSoFar
so_far maker = record { code = form_of maker.statements.items; next = maker.next }

-- what is made stands behind what was written
pub record Wrote {Y : Type 0} (what : Made Y) (old new : CodeSoFar) (y : Y) : Type 0 where
  pub code : new.code ≡ old.code ⨾ what.code
  pub given : y ≡ what.given
  pub next : new.next ≡ what.next

-- It does where the next variable has a number below the last. The number comes to the last only where it was that before, or
-- where what is made sets a variable with one of the last numbers.
pub record Writes {Y : Type 0} (what : Made Y) (old new : CodeSoFar) (y : Y) : Type 0 where
  pub grows : old.next ≤ new.next
  pub fits : new.next < 2 ^ 32 - 1 → Wrote what old new y
  pub full : old.next < 2 ^ 32 - 1 → 2 ^ 32 - 1 ≤ new.next → 0 < late_in what.code

-- a maker appends what is made from its next variable on
abbrev pub Appends : {Y : Type 0} → (ℕ → Made Y) → Maker → Maker → Y → Type 0
Appends made old new y = Writes (made old.next) (so_far old) (so_far new) y

-- a maker appends an item, and its next variable stays
abbrev pub AppendsItem : Place → Item → Maker → Maker → Unit {0} → Type 0
AppendsItem place item old new y = Wrote (only (one place item) (tt {0}) old.next) (so_far old) (so_far new) y

abbrev pub spot_of : Assignee → form.Assignee
spot_of (spot.Variable v) = form.Local v
spot_of (spot.Object location) = form.Placed location.checked location.address

-- a load into the next variable
abbrev pub loaded_next : Place → LoadKind → Operand → ℕ → Made Operand
loaded_next place kind x n = only (one place (Load n kind x)) (Variable n) (n + 1)

-- what an assigned place holds, where these variables are copied
abbrev pub held_in : VariableSet → Lvalue → ℕ → Made Operand
held_in copied l = form.held l.place l.kind copied (spot_of l.spot)

-- an assigned place gets an operand and a number
abbrev pub advanced_in : Lvalue → (change : ℕ) → Operand → ℕ → Made Operand
advanced_in l change x = form.advanced l.place l.kind change (spot_of l.spot) x

abbrev pub condition_of : Condition → form.Condition
condition_of c = record { test = c.test; turned = c.turned }

-- the branches of a condition, as the form has them
abbrev pub forked : Place → form.Condition → (p q : Form) → Form
forked place c p q = if c.turned then If place c.test q p Done else If place c.test p q Done

-- a call into the next variable, behind its check
abbrev pub called_with : Place → (function : ℕ) → List Operand → ℕ → Made Operand
called_with place f xs n = only (Do place (Expect (Room f)) (one place (Call n f xs))) (Variable n) (n + 1)

-- an assigned place gets the result of an operation on what it held and an operand, narrowed to its type
abbrev pub updated_in : Lvalue → Operator → (x y : Operand) → ℕ → Made Operand
updated_in l operator x y n =
    operated l.place operator x y n ≫ λ z n. narrowed l.place l.kind z n ≫ form.put_in l.place l.kind (spot_of l.spot)

-- what `++` or `--` assigns
abbrev pub lvalue_of : Increment → Assignee → Lvalue
lvalue_of i spot = record { place = i.place; kind = i.kind; spot = spot }

-- the variables that `++` or `--` copies, where what is still to come assigns these: all, where the old value is given
abbrev pub copied_by : Fixity → VariableSet → VariableSet
copied_by fixity later = if is_prefix fixity then later else (λ v. true)

-- one more or less, where what is still to come assigns these variables
abbrev pub stepped_in : VariableSet → Increment → Assignee → ℕ → Made Operand
stepped_in later i spot n =
    held_in (copied_by i.fixity later) (lvalue_of i spot) n ≫ λ x n. advanced_in (lvalue_of i spot) i.change x n ≫ λ y.
    nothing (if is_prefix i.fixity then y else x)
