-- Where more variables are set, what is read is set too, and more is set behind code.
use Rattle.std.proofs.Common.{◌≡◌, ℕ, Bool, true, false, ◌&&◌, ◌||◌, nat_eq, List, [], ◌∷◌, refl}
use Rattle.std.proofs.lemmas.Bool.{and_from, and_parts}
use Rattle.dae_meaning.specs.Variables.{VariableSet, with_set}
use Rattle.dae_ir.specs.Code.{Done, Do, If, Loop}
use Rattle.dae_ir.specs.Form.{Form}
use Rattle.dae_ir.specs.Classes.{IsWithin, has, has_test, has_value, has_check}
use Rattle.dae_ir.specs.SetFirst.{form_flow, IsSetFirst, assured, AllRead, ItemReads, after_item}
use Rattle.dae_ir.specs.declared.form.Operand.{Operand}
use Rattle.dae_ir.specs.declared.form.Operand.TheVariants.{Variable, Number}
use Rattle.dae_ir.specs.declared.form.Value.{Value}
use Rattle.dae_ir.specs.declared.form.Value.TheVariants as val
use Rattle.dae_ir.specs.declared.form.Test.{Test}
use Rattle.dae_ir.specs.declared.form.Check.{Check}
use Rattle.dae_ir.specs.declared.form.Check.TheVariants.{Place as Good, InBounds, Zero, Room, Frame, Abort}
use Rattle.dae_ir.specs.declared.form.Item.{Item}
use Rattle.dae_ir.specs.declared.form.Item.TheVariants.{Assign, Load, Store, Print, Expect, Break, Continue, Call, Return, Halt}

or_more : (b c d : Bool) → (c ≡ true → d ≡ true) → (b || c) ≡ true → (b || d) ≡ true
or_more true c d h k = refl
or_more false c d h k = h k

pub and_more : (b c b' c' : Bool) → (b ≡ true → b' ≡ true) → (c ≡ true → c' ≡ true) → (b && c) ≡ true → (b' && c') ≡ true
and_more b c b' c' h k both = let p = and_parts b c both in and_from b' c' (h p.0) (k p.1)

pub set_more : (v : ℕ) (d e : VariableSet) → IsWithin d e → IsWithin (with_set v d) (with_set v e)
set_more v d e more u = or_more (nat_eq u v) (d u) (e u) (more u)

-- what is set behind two lists
abbrev pub meet : VariableSet → VariableSet → VariableSet
meet a b v = a v && b v

-- ---- what is read

module _ (d e : VariableSet) (more : IsWithin d e) where
  pub has_more : (x : Operand) → has d x ≡ true → has e x ≡ true
  has_more (Variable v) h = more v h
  has_more (Number k) h = refl

  pub test_more : (t : Test) → has_test d t ≡ true → has_test e t ≡ true
  test_more t h = and_more (has d t.left) (has d t.right) (has e t.left) (has e t.right) (has_more t.left) (has_more t.right) h

  pub value_more : (x : Value) → has_value d x ≡ true → has_value e x ≡ true
  value_more (val.Same x) h = has_more x h
  value_more (val.Extended kind x) h = has_more x h
  value_more (val.Binary operator x y) h = and_more (has d x) (has d y) (has e x) (has e y) (has_more x) (has_more y) h
  value_more (val.Holds t) h = test_more t h
  value_more (val.FrameAddress offset) h = refl

  pub check_more : (check : Check) → has_check d check ≡ true → has_check e check ≡ true
  check_more (Good width x) h = has_more x h
  check_more (InBounds x offset) h = has_more x h
  check_more (Zero x) h = has_more x h
  check_more (Room g) h = refl
  check_more Frame h = refl
  check_more Abort h = refl

  pub operands_more : (xs : List Operand) → AllRead d xs → AllRead e xs
  operands_more [] h = tt
  operands_more (x ∷ xs) h = (has_more x h.0, operands_more xs h.1)

  reads_more : (item : Item) → ItemReads d item → ItemReads e item
  reads_more (Assign v x) h = value_more x h
  reads_more (Load v kind x) h = has_more x h
  reads_more (Store width x y) h = (has_more x h.0, has_more y h.1)
  reads_more (Print spelling x) h = has_more x h
  reads_more (Expect check) h = check_more check h
  reads_more Break h = tt
  reads_more Continue h = tt
  reads_more (Call v g xs) h = operands_more xs h
  reads_more (Return x) h = has_more x h
  reads_more (Halt x) h = has_more x h

  after_more : (item : Item) → IsWithin (after_item d item) (after_item e item)
  after_more (Assign v x) = set_more v d e more
  after_more (Load v kind x) = set_more v d e more
  after_more (Store width x y) = more
  after_more (Print spelling x) = more
  after_more (Expect check) = more
  after_more Break = λ u h. refl
  after_more Continue = λ u h. refl
  after_more (Call v g xs) = set_more v d e more
  after_more (Return x) = λ u h. refl
  after_more (Halt x) = λ u h. refl

-- ---- code

pub assured_more : (code : Form) (d e : VariableSet) → IsWithin d e → IsWithin (assured form_flow d code) (assured form_flow e code)
assured_more Done d e more = more
assured_more (Do place item k) d e more = assured_more k (after_item d item) (after_item e item) (after_more d e more item)
assured_more (If place t p q k) d e more =
    assured_more k (meet (assured form_flow d p) (assured form_flow d q)) (meet (assured form_flow e p) (assured form_flow e q))
    (λ v. and_more (assured form_flow d p v) (assured form_flow d q v) (assured form_flow e p v) (assured form_flow e q v) (assured_more p d e more v) (assured_more q d e more v))
assured_more (Loop place p q k) d e more = assured_more k d e more

pub first_more : (code : Form) (d e : VariableSet) → IsWithin d e → IsSetFirst form_flow d code → IsSetFirst form_flow e code
first_more Done d e more h = tt
first_more (Do place item k) d e more h = (reads_more d e more item h.0, first_more k (after_item d item) (after_item e item) (after_more d e more item) h.1)
first_more (If place t p q k) d e more h = (
  test_more d e more t h.0,
  first_more p d e more h.1,
  first_more q d e more h.2,
  first_more k (meet (assured form_flow d p) (assured form_flow d q)) (meet (assured form_flow e p) (assured form_flow e q))
      (λ v. and_more (assured form_flow d p v) (assured form_flow d q v) (assured form_flow e p v) (assured form_flow e q v) (assured_more p d e more v) (assured_more q d e more v)) h.3,
)
first_more (Loop place p q k) d e more h = (first_more p d e more h.0, first_more q d e more h.1, first_more k d e more h.2)
