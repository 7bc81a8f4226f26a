-- Code without its common subexpressions. What is known at the start of a list is known in both branches of an If, and what is known at
-- the ends of both behind it. In a loop, and behind it, what was known before is known, if it doesn't involve what the loop sets. A
-- variable that is set to itself is computed again from the sum that it holds.
use Rattle.std.specs.Prelude.{◌≡◌, ℕ, if◌then◌else◌, List, [], Option, Some, None}
use Rattle.dae_ir.specs.Code.{Done, Do, If, Loop}
use Rattle.dae_ir.specs.Form.{Form, before, form_of}
use Rattle.dae_ir.specs.Classes.{Classes}
use Rattle.dae_ir.specs.declared.form.Item.{Item}
use Rattle.dae_ir.specs.declared.form.Item.TheVariants.{Assign, Load, Store, Print, Expect, Break, Continue, Call, Return, Halt}
use Rattle.dae_ir.specs.declared.form.Statement.{Statement}
use Rattle.dae_ir.specs.declared.form.Value.{Value}
use Rattle.dae_commons.specs.declared.equations.Equation.{Equation}
use Rattle.dae_commons.specs.Equations.{equations_in, known_in_loop, met, with_equation, without_variable}
use Rattle.dae_commons.specs.Copies.{propagated_operand, propagated_operands, propagated_test, propagated_check, is_operand}
use Rattle.dae_commons.specs.Sums.{is_itself, assigned_value}

-- by the equations that are known before it
abbrev pub commoned_item : Classes → List Equation → Item → Item
commoned_item c q (Assign v x) = Assign v (assigned_value c q v x)
commoned_item c q (Load v kind x) = Load v kind (propagated_operand c q x)
commoned_item c q (Store width x y) =
    Store width (propagated_operand c q x) (propagated_operand c q y)
commoned_item c q (Print spelling x) = Print spelling (propagated_operand c q x)
commoned_item c q (Expect check) = Expect (propagated_check c q check)
commoned_item c q Break = Break
commoned_item c q Continue = Continue
commoned_item c q (Call v f xs) = Call v f (propagated_operands c q xs)
commoned_item c q (Return x) = Return (propagated_operand c q x)
commoned_item c q (Halt x) = Halt (propagated_operand c q x)

-- what is known behind an assignment of x to v that is written as y. What was an operand before isn't known: else it would be read in
-- place of v, and both be kept. Where v is set to itself nothing changes
abbrev pub known_after_set : List Equation → ℕ → (x y : Value) → List Equation
known_after_set q v x y =
    if is_itself v x then q
    else (if is_operand x then without_variable v q else with_equation v y q)

-- what is known behind an item: nothing behind a call, so that no value is kept over one for its sake, and all that may be said where
-- the code doesn't go on
abbrev pub known_after : Classes → List Equation → Item → Option (List Equation)
known_after c q (Assign v x) =
    Some (known_after_set q v x (assigned_value c q v x))
known_after c q (Load v kind x) = Some (without_variable v q)
known_after c q (Store width x y) = Some q
known_after c q (Print spelling x) = Some q
known_after c q (Expect check) = Some q
known_after c q Break = None
known_after c q Continue = None
known_after c q (Call v f xs) = Some []
known_after c q (Return x) = None
known_after c q (Halt x) = None

-- what is known behind code, where k is known before it
abbrev pub known_behind : Classes → Option (List Equation) → Form → Option (List Equation)
known_behind c k Done = k
known_behind c k (Do place item rest) =
    known_behind c (known_after c (equations_in k) item) rest
known_behind c k (If place t x y rest) =
    known_behind c
    (met (known_behind c (Some (equations_in k)) x) (known_behind c (Some (equations_in k)) y)) rest
known_behind c k (Loop place x y rest) =
    known_behind c (Some (known_in_loop (equations_in k) x y)) rest

-- behind an If with these branches
abbrev pub known_behind_both : Classes → List Equation → Form → Form → Option (List Equation)
known_behind_both c q x y = met (known_behind c (Some q) x) (known_behind c (Some q) y)

abbrev pub commoned_code : Classes → List Equation → Form → Form
commoned_code c q Done = Done
commoned_code c q (Do place item k) =
    Do place (commoned_item c q item)
    (commoned_code c (equations_in (known_after c q item)) k)
commoned_code c q (If place t x y k) =
    If place (propagated_test c q t) (commoned_code c q x) (commoned_code c q y)
    (commoned_code c (equations_in (known_behind_both c q x y)) k)
commoned_code c q (Loop place x y k) =
    Loop place (commoned_code c (known_in_loop q x y) x) (commoned_code c (known_in_loop q x y) y)
    (commoned_code c (known_in_loop q x y) k)

-- a statement becomes s', where this is known before it, and this behind it
pub record IsCommonedTo (c : Classes) (s : Statement) (old new : Option (List Equation))
    (s' : Statement) : Type 0 where
  pub code : (k : Form) → commoned_code c (equations_in old) (before s k)
      ≡ before s' (commoned_code c (equations_in new) k)
  pub known : (k : Form) → known_behind c old (before s k) ≡ known_behind c new k

-- a list becomes ss', where these equations are known at its start, and this at its end
pub record IsCommonedList (c : Classes) (ss : List Statement) (old : List Equation)
    (ss' : List Statement) (new : Option (List Equation)) : Type 0 where
  pub code : form_of ss' ≡ commoned_code c old (form_of ss)
  pub known : new ≡ known_behind c (Some old) (form_of ss)
