-- A function that stays as it is, as one in which no variable holds a value for a loop.
use Rattle.std.proofs.Common.{◌≡◌, ℕ, Bool, true, false, ◌&&◌, List, [], ◌∷◌, None, inl, inr, refl, sym, subst}
use Rattle.std.proofs.lemmas.Bool.{and_from}
use Rattle.std.specs.Bool.{beq}
use Rattle.dae_meaning.specs.Variables.{VariableSet}
use Rattle.dae_ir.specs.Code.{Done, Do, If, Loop}
use Rattle.dae_ir.specs.Form.{Form, form_of}
use Rattle.dae_ir.specs.Classes.{has, has_check, has_value}
use Rattle.dae_ir.specs.SetFirst.{AllRead}
use Rattle.dae_ir.specs.declared.form.Operand.{Operand}
use Rattle.dae_ir.specs.declared.form.Operand.TheVariants.{Variable, Number}
use Rattle.dae_ir.specs.declared.form.Value.{Value}
use Rattle.dae_ir.specs.declared.form.Value.TheVariants as val
use Rattle.dae_ir.specs.declared.form.Check.{Check}
use Rattle.dae_ir.specs.declared.form.Check.TheVariants.{Place as Good, InBounds, Zero, Room, Frame, Abort}
use Rattle.dae_ir.specs.declared.form.Function.{Function}
use Rattle.dae_ir.specs.declared.form.Item.{Item}
use Rattle.dae_ir.specs.declared.form.Item.TheVariants.{Assign, Load, Store, Print, Expect, Break, Continue, Call, Return, Halt}
use Rattle.dae_hoist.specs.Hoisted.{Holding, hoisted_item, hoisted_code}
use Rattle.dae_hoist.specs.Kept.{Hoisting, ItemKept, IsKept, is_kept, set_behind}
use Rattle.dae_hoist.specs.Forms.{IsHoistedFunction, IsHoistedOrSame}

abbrev nothing : Holding
nothing v = None

item_stays : (item : Item) → hoisted_item nothing item ≡ item
item_stays (Assign v x) = refl
item_stays (Load v kind x) = refl
item_stays (Store width x y) = refl
item_stays (Print spelling x) = refl
item_stays (Expect check) = refl
item_stays Break = refl
item_stays Continue = refl
item_stays (Call v g xs) = refl
item_stays (Return x) = refl
item_stays (Halt x) = refl

code_stays : (code : Form) → hoisted_code nothing code ≡ code
code_stays Done = refl
code_stays (Do place item k) = rw (item_stays item, code_stays k) refl
code_stays (If place test x y k) = rw (code_stays x, code_stays y, code_stays k) refl
code_stays (Loop place x y k) = rw (code_stays x, code_stays y, code_stays k) refl

beq_itself : (b : Bool) → beq b b ≡ true
beq_itself true = refl
beq_itself false = refl

module _ (c : VariableSet) (f : Function) where
  abbrev t : Hoisting
  t = record { parameters = f.parameters; variables = f.variables; holding = nothing; sets = c; new_sets = c }

  all_kept : (v : ℕ) → is_kept t v ≡ true
  all_kept v = beq_itself (c v)

  operand_kept : (x : Operand) → has (is_kept t) x ≡ true
  operand_kept (Variable v) = all_kept v
  operand_kept (Number k) = refl

  two_kept : (x y : Operand) → (has (is_kept t) x && has (is_kept t) y) ≡ true
  two_kept x y = and_from (has (is_kept t) x) (has (is_kept t) y) (operand_kept x) (operand_kept y)

  value_kept : (x : Value) → has_value (is_kept t) x ≡ true
  value_kept (val.Same x) = operand_kept x
  value_kept (val.Extended kind x) = operand_kept x
  value_kept (val.Binary operator x y) = two_kept x y
  value_kept (val.Holds x) = two_kept x.left x.right
  value_kept (val.FrameAddress offset) = refl

  check_kept : (x : Check) → has_check (is_kept t) x ≡ true
  check_kept (Good width x) = operand_kept x
  check_kept (InBounds x offset) = operand_kept x
  check_kept (Zero x) = operand_kept x
  check_kept (Room g) = refl
  check_kept Frame = refl
  check_kept Abort = refl

  operands_kept : (xs : List Operand) → AllRead (is_kept t) xs
  operands_kept [] = tt
  operands_kept (x ∷ xs) = (operand_kept x, operands_kept xs)

  item_kept : (us : List ℕ) (item : Item) → ItemKept t us item
  item_kept us (Assign v x) = (value_kept x, refl)
  item_kept us (Load v kind x) = (all_kept v, operand_kept x)
  item_kept us (Store width x y) = (operand_kept x, operand_kept y)
  item_kept us (Print spelling x) = operand_kept x
  item_kept us (Expect check) = check_kept check
  item_kept us Break = tt
  item_kept us Continue = tt
  item_kept us (Call v g xs) = (all_kept v, operands_kept xs)
  item_kept us (Return x) = operand_kept x
  item_kept us (Halt x) = operand_kept x

  code_kept : (us : List ℕ) (code : Form) → IsKept t us code
  code_kept us Done = tt
  code_kept us (Do place item k) = (item_kept us item, code_kept (set_behind us item) k)
  code_kept us (If place test x y k) = (two_kept test.left test.right, code_kept us x, code_kept us y, code_kept us k)
  code_kept us (Loop place x y k) = (code_kept us x, code_kept us y, code_kept us k)

  staying : IsHoistedFunction c c f f
  staying = record {
    hoisting = t;
    of_parameters = refl;
    of_variables = refl;
    of_sets = refl;
    of_new_sets = refl;
    name = refl;
    parameters = refl;
    variables = refl;
    frame = refl;
    first = λ v l. all_kept v;
    kept = code_kept [] (form_of f.body);
    body = sym (code_stays (form_of f.body));
  }

pub as_hoisted : (c d : VariableSet) (f g : Function) → IsHoistedOrSame c d f g → IsHoistedFunction c d f g
as_hoisted c d f g (inl same) =
    subst (λ (h : Function). IsHoistedFunction c d f h) (sym same.0) (subst (λ (e : VariableSet). IsHoistedFunction c e f f) (sym same.1) (staying c f))
as_hoisted c d f g (inr h) = h
