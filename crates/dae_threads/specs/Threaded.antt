-- Code in which conditions are threaded. Where an If gives a variable a number at each of its ends, and the If behind it tests
-- whether that variable isn't 0, this one goes: at each end the list stands that it would choose there. The code is no larger. And
-- where a variable gets a sum, and the byte there is checked next, the byte so many bytes behind what is added to is checked before;
-- a sum may be written with its number behind for that. And where the second list of an If leads elsewhere, the first one may come
-- behind the If.
use Rattle.std.specs.Prelude.{◌≡◌, ℕ, ◌+◌, ◌≤◌, ◌<◌, Bool, true, false, ◌||◌, nat_eq, if◌then◌else◌}
use Rattle.dae_base.specs.declared.Place.{Place}
use Rattle.dae_base.specs.declared.Width.TheVariants.{B1}
use Rattle.dae_meaning.specs.declared.Comparison.TheVariants.{NotEqual}
use Rattle.dae_meaning.specs.declared.Operator.TheVariants.{Add}
use Rattle.dae_ir.specs.Code.{Done, Do, If, Loop}
use Rattle.dae_ir.specs.Form.{Form}
use Rattle.dae_ir.specs.declared.form.Operand.{Operand}
use Rattle.dae_ir.specs.declared.form.Operand.TheVariants.{Variable, Number}
use Rattle.dae_ir.specs.declared.form.Value.TheVariants.{Same, Binary}
use Rattle.dae_ir.specs.declared.form.Test.{Test}
use Rattle.dae_ir.specs.declared.form.Check.TheVariants.{Place as Good, InBounds}
use Rattle.dae_ir.specs.declared.form.Item.{Item}
use Rattle.dae_ir.specs.declared.form.Item.TheVariants.{Assign, Load, Expect, Break, Continue, Call, Return, Halt}

-- ---- one If behind another

-- the variable gets a number
abbrev pub gives_number : ℕ → ℕ → Item
gives_number v n = Assign v (Same (Number n))

-- the variable isn't 0
abbrev pub is_nonzero : ℕ → Test
is_nonzero v = record { comparison = NotEqual; left = Variable v; right = Number 0 }

-- which of the two lists of such a condition is for the number, and how often it is the first one, and the second
abbrev pub list_for : ℕ → Form → Form → Form
list_for n x y = if nat_eq n 0 then y else x

abbrev pub firsts : ℕ → ℕ
firsts n = if nat_eq n 0 then 0 else 1

abbrev pub seconds : ℕ → ℕ
seconds n = if nat_eq n 0 then 1 else 0

-- At each end of the code the variable v gets a number, and the list stands behind it that is for that number: x so many times, and
-- y so many.
pub data IsLed (v : ℕ) (x y : Form) : ℕ → ℕ → Form → Form → Type 0 where
  LedTo : (place : Place) (n : ℕ)
      → IsLed v x y (firsts n) (seconds n) (Do place (gives_number v n) Done) (Do place (gives_number v n) (list_for n x y))
  LedInBoth : (place : Place) (t : Test) (i j i' j' : ℕ) (p p' q q' : Form)
      → IsLed v x y i j p p' → IsLed v x y i' j' q q'
      → IsLed v x y (i + i') (j + j') (If place t p q Done) (If place t p' q' Done)
  BehindItem : (place : Place) (item : Item) (i j : ℕ) (k k' : Form)
      → IsLed v x y i j k k' → IsLed v x y i j (Do place item k) (Do place item k')
  BehindIf : (place : Place) (t : Test) (p q : Form) (i j : ℕ) (k k' : Form)
      → IsLed v x y i j k k' → IsLed v x y i j (If place t p q k) (If place t p q k')
  BehindLoop : (place : Place) (body step : Form) (i j : ℕ) (k k' : Form)
      → IsLed v x y i j k k' → IsLed v x y i j (Loop place body step k) (Loop place body step k')

-- neither a load nor a call
abbrev pub is_light : Item → Bool
is_light (Load v kind x) = false
is_light (Call v f xs) = false
is_light item = true

-- A list that stands so many times has so many items more than if it stood once. Only an item that is neither a load nor a call is
-- doubled.
pub data IsSpread : ℕ → Form → ℕ → Type 0 where
  AtMostOnce : (count : ℕ) (code : Form) → count ≤ 1 → IsSpread count code 0
  OfNothing : (count : ℕ) → IsSpread count Done 0
  Doubled : (place : Place) (item : Item) → is_light item ≡ true → IsSpread 2 (Do place item Done) 1

-- ---- a check behind a sum

-- the variable gets the sum of an operand and a number
abbrev pub gives_sum : ℕ → Operand → ℕ → Item
gives_sum v x n = Assign v (Binary Add x (Number n))

-- ---- a list behind its If

-- what stands behind the item isn't reached
abbrev pub leads_away : Item → Bool
leads_away Break = true
leads_away Continue = true
leads_away (Return x) = true
leads_away (Halt x) = true
leads_away item = false

-- such an item stands in the code's own list, so that its end isn't reached
abbrev pub ends_early : Form → Bool
ends_early Done = false
ends_early (Do place item k) = leads_away item || ends_early k
ends_early (If place t p q k) = ends_early k
ends_early (Loop place body step k) = ends_early k

-- the code c, and d behind it
abbrev pub code_then : Form → Form → Form
code_then Done d = d
code_then (Do place item k) d = Do place item (code_then k d)
code_then (If place t p q k) d = If place t p q (code_then k d)
code_then (Loop place body step k) d = Loop place body step (code_then k d)

-- ---- code

-- The code, or what it becomes step by step, in its parts, by one If that goes, by a list that comes behind its If, by a sum of a
-- number with that number behind, or by a check that comes before a sum.
pub data IsThreaded : Form → Form → Type 0 where
  Unchanged : (c : Form) → IsThreaded c c
  InTurn : (c d e : Form) → IsThreaded c d → IsThreaded d e → IsThreaded c e
  InRest : (place : Place) (item : Item) (k k' : Form) → IsThreaded k k' → IsThreaded (Do place item k) (Do place item k')
  InLists : (place : Place) (t : Test) (p p' q q' k k' : Form) → IsThreaded p p' → IsThreaded q q' → IsThreaded k k'
      → IsThreaded (If place t p q k) (If place t p' q' k')
  InLoop : (place : Place) (p p' q q' k k' : Form) → IsThreaded p p' → IsThreaded q q' → IsThreaded k k'
      → IsThreaded (Loop place p q k) (Loop place p' q' k')
  Threads : (place place' : Place) (t : Test) (v i j i' j' more more' : ℕ) (x y p p' q q' k : Form)
      → IsLed v x y i j p p' → IsLed v x y i' j' q q' → IsSpread (i + i') x more → IsSpread (j + j') y more' → more + more' ≤ 1
      → IsThreaded (If place t p q (If place' (is_nonzero v) x y k)) (If place t p' q' k)
  ListBehind : (place : Place) (t : Test) (x y k : Form) → ends_early y ≡ true
      → IsThreaded (If place t x y k) (If place t Done y (code_then x k))
  NumberLast : (place : Place) (v n : ℕ) (x : Operand) (k : Form)
      → IsThreaded (Do place (Assign v (Binary Add (Number n) x)) k) (Do place (gives_sum v x n) k)
  ChecksFirst : (place place' : Place) (v : ℕ) (x : Operand) (n : ℕ) (k : Form) → n < 2048
      → IsThreaded (Do place (gives_sum v x n) (Do place' (Expect (Good B1 (Variable v))) k)) (Do place' (Expect (InBounds x n)) (Do place (gives_sum v x n) k))
