-- A function that stays as it is, as one in which no web starts.
use Rattle.std.proofs.Common.{◌≡◌, ℕ, ◌<◌, true, false, ◌&&◌, List, [], ◌∷◌, Option, Some, None, refl, ap, sym, ◌∙◌, subst, arith}
use Rattle.std.specs.List.{AllByRecursion}
use Rattle.dae_ir.specs.Code.{Done, Do, If, Loop, Each}
use Rattle.dae_ir.specs.Form.{Form}
use Rattle.dae_ir.specs.Classes.{has, has_value}
use Rattle.dae_ir.specs.Scope.{IsIn, TestIn, ValueIn, ItemIn}
use Rattle.dae_ir.specs.SetFirst.{AllRead, ItemReads}
use Rattle.dae_ir.specs.declared.form.Operand.{Operand}
use Rattle.dae_ir.specs.declared.form.Operand.TheVariants.{Variable, Number}
use Rattle.dae_ir.specs.declared.form.Value.{Value}
use Rattle.dae_ir.specs.declared.form.Value.TheVariants as val
use Rattle.dae_ir.specs.declared.form.Test.{Test}
use Rattle.dae_ir.specs.declared.form.Check.{Check}
use Rattle.dae_ir.specs.declared.form.Check.TheVariants.{Place as Good, InBounds, Zero, Room, Frame, Abort}
use Rattle.dae_ir.specs.declared.form.Function.{Function}
use Rattle.dae_ir.specs.declared.form.Item.{Item}
use Rattle.dae_ir.specs.declared.form.Item.TheVariants.{Assign, Load, Store, Print, Expect, Break, Continue, Call, Return, Halt}
use Rattle.dae_webs.specs.Current.{Current, is_web, has_web, own_webs}
use Rattle.dae_webs.specs.Renamed.{Starts, variable_set, number_after, number_behind, webs_next, without_next, without_started, without_both, webs_behind, renamed_operand, renamed_operands, renamed_test, renamed_value, renamed_check, renamed_item, renamed_code}
use Rattle.dae_webs.specs.Known.{Owns, IsDefinedNext, IsKnown}
use Rattle.dae_webs.proofs.Tables.{own_there, written_own}
use Rattle.dae_webs.proofs.Inside.{in_second, in_rest}
use Rattle.dae_webs.proofs.Simulation.{Renamer}

abbrev pub nowhere : Starts
nowhere n = None

abbrev pub no_owner : Owns
no_owner u v = false

without_none : (d : Option ℕ) (m : Current) → without_next None m d ≡ m
without_none None m = refl
without_none (Some v) m = refl

next_none : (d : Option ℕ) (m : Current) → webs_next None m d ≡ m
next_none None m = refl
next_none (Some v) m = refl

without_same : (code : Form) (n : ℕ) (m : Current) → without_started nowhere n m code ≡ m
without_same Done n m = refl
without_same (Do place item k) n m = without_same k (number_after n item) _ ∙ without_none (variable_set item) m
without_same (If place t x y k) n m = without_same k (number_behind (number_behind n x) y) _ ∙ without_same y (number_behind n x) _ ∙ without_same x n m
without_same (Loop place x y k) n m = without_same k (number_behind (number_behind n x) y) _ ∙ without_same y (number_behind n x) _ ∙ without_same x n m

both_same : (x y : Form) (n : ℕ) (m : Current) → without_both nowhere n x y m ≡ m
both_same x y n m = without_same y (number_behind n x) _ ∙ without_same x n m

behind_same : (code : Form) (n : ℕ) (m : Current) → webs_behind nowhere n m code ≡ m
behind_same Done n m = refl
behind_same (Do place item k) n m = behind_same k (number_after n item) _ ∙ next_none (variable_set item) m
behind_same (If place t x y k) n m =
    behind_same k (number_behind (number_behind n x) y) _ ∙ both_same x y n _ ∙ behind_same y (number_behind n x) _ ∙ both_same x y n _ ∙ behind_same x n _ ∙ both_same x y n m
behind_same (Loop place x y k) n m =
    behind_same k (number_behind (number_behind n x) y) _ ∙ both_same x y n _ ∙ behind_same y (number_behind n x) _ ∙ both_same x y n _ ∙ behind_same x n _ ∙ both_same x y n m

second_same : (x y : Form) (n : ℕ) (m : Current) → in_second nowhere n x y m ≡ m
second_same x y n m = both_same x y n _ ∙ behind_same x n _ ∙ both_same x y n m

rest_same : (x y : Form) (n : ℕ) (m : Current) → in_rest nowhere n x y m ≡ m
rest_same x y n m = both_same x y n _ ∙ behind_same y (number_behind n x) _ ∙ second_same x y n m

-- ---- each variable is written as itself

module _ (own : ℕ) where
  abbrev webs : Current
  webs = own_webs 0 own

  operand_same : (x : Operand) → renamed_operand webs x ≡ x
  operand_same (Variable v) = ap Variable (written_own own v)
  operand_same (Number k) = refl

  operands_same : (xs : List Operand) → renamed_operands webs xs ≡ xs
  operands_same [] = refl
  operands_same (x ∷ xs) = rw (operand_same x, operands_same xs) refl

  test_same : (t : Test) → renamed_test webs t ≡ t
  test_same t = rw (operand_same t.left, operand_same t.right) refl

  value_same : (x : Value) → renamed_value webs x ≡ x
  value_same (val.Same x) = rw (operand_same x) refl
  value_same (val.Extended kind x) = rw (operand_same x) refl
  value_same (val.Binary operator x y) = rw (operand_same x, operand_same y) refl
  value_same (val.Holds t) = rw (test_same t) refl
  value_same (val.FrameAddress offset) = refl

  check_same : (check : Check) → renamed_check webs check ≡ check
  check_same (Good width x) = rw (operand_same x) refl
  check_same (InBounds x offset) = rw (operand_same x) refl
  check_same (Zero x) = rw (operand_same x) refl
  check_same (Room g) = refl
  check_same Frame = refl
  check_same Abort = refl

  item_same : (item : Item) → renamed_item None webs item ≡ item
  item_same (Assign v x) = rw (written_own own v, value_same x) refl
  item_same (Load v kind x) = rw (written_own own v, operand_same x) refl
  item_same (Store width x y) = rw (operand_same x, operand_same y) refl
  item_same (Print spelling x) = rw (operand_same x) refl
  item_same (Expect check) = rw (check_same check) refl
  item_same Break = refl
  item_same Continue = refl
  item_same (Call v g xs) = rw (written_own own v, operands_same xs) refl
  item_same (Return x) = rw (operand_same x) refl
  item_same (Halt x) = rw (operand_same x) refl

  code_same : (code : Form) (n : ℕ) → renamed_code nowhere n webs code ≡ code
  code_same Done n = refl
  code_same (Do place item k) n = rw (item_same item, next_none (variable_set item) webs, code_same k (number_after n item)) refl
  code_same (If place t x y k) n =
      rw (test_same t, rest_same x y n webs, second_same x y n webs, both_same x y n webs, code_same x n, code_same y (number_behind n x), code_same k (number_behind (number_behind n x) y)) refl
  code_same (Loop place x y k) n =
      rw (rest_same x y n webs, second_same x y n webs, both_same x y n webs, code_same x n, code_same y (number_behind n x), code_same k (number_behind (number_behind n x) y)) refl

  -- ---- and has a web

  own_has : (v : ℕ) → v < own → has_web webs v ≡ true
  own_has v lt = ap is_web (own_there 0 own v lt)

  operand_has : (x : Operand) → IsIn own x → has (has_web webs) x ≡ true
  operand_has (Variable v) i = own_has v i
  operand_has (Number k) i = refl

  two_have : (x y : Operand) → IsIn own x → IsIn own y → (has (has_web webs) x && has (has_web webs) y) ≡ true
  two_have x y i j = rw (operand_has x i, operand_has y j) refl

  value_has : (x : Value) → ValueIn own x → has_value (has_web webs) x ≡ true
  value_has (val.Same x) i = operand_has x i
  value_has (val.Extended kind x) i = operand_has x i
  value_has (val.Binary operator x y) i = two_have x y i.0 i.1
  value_has (val.Holds t) i = two_have t.left t.right i.0 i.1
  value_has (val.FrameAddress offset) i = refl

  all_have : (xs : List Operand) → AllByRecursion (IsIn own) xs → AllRead (has_web webs) xs
  all_have [] i = tt
  all_have (x ∷ xs) i = (operand_has x i.0, all_have xs i.1)

  module _ (fs : List Function) where
    item_has : (item : Item) → ItemIn fs own item → ItemReads (has_web webs) item × IsDefinedNext no_owner None webs (variable_set item)
    item_has (Assign v x) i = (value_has x i.1, own_has v (i.0).1)
    item_has (Load v kind x) i = (operand_has x i.1, own_has v (i.0).1)
    item_has (Store width x y) i = ((operand_has x i.0, operand_has y i.1), tt)
    item_has (Print spelling x) i = (operand_has x i, tt)
    item_has (Expect (Good width x)) i = (operand_has x i, tt)
    item_has (Expect (InBounds x offset)) i = (operand_has x i.0, tt)
    item_has (Expect (Zero x)) i = (operand_has x i, tt)
    item_has (Expect (Room g)) i = (refl, tt)
    item_has (Expect Frame) i = (refl, tt)
    item_has (Expect Abort) i = (refl, tt)
    item_has Break i = (tt, tt)
    item_has Continue i = (tt, tt)
    item_has (Call v g xs) i = (all_have xs i.2, own_has v (i.0).1)
    item_has (Return x) i = (operand_has x i, tt)
    item_has (Halt x) i = (operand_has x i, tt)

    abbrev Known : ℕ → Current → Form → Type 0
    Known n m code = IsKnown no_owner nowhere n m code

    code_known : (code : Form) (n : ℕ) → Each (ItemIn fs own) (TestIn own) code → Known n webs code
    code_known Done n names = tt
    code_known (Do place item k) n names =
        let h = item_has item names.0 in
        (h.0, h.1, subst (λ (m : Current). Known (number_after n item) m k) (sym (next_none (variable_set item) webs)) (code_known k (number_after n item) names.1))
    code_known (If place t x y k) n names =
        let i = names.0 in (
          two_have t.left t.right i.0 i.1,
          subst (λ (m : Current). Known n m x) (sym (both_same x y n webs)) (code_known x n names.1),
          subst (λ (m : Current). Known (number_behind n x) m y) (sym (second_same x y n webs)) (code_known y (number_behind n x) names.2),
          subst (λ (m : Current). Known (number_behind (number_behind n x) y) m k) (sym (rest_same x y n webs)) (code_known k (number_behind (number_behind n x) y) names.3),
        )
    code_known (Loop place x y k) n names = (
      subst (λ (m : Current). Known n m x) (sym (both_same x y n webs)) (code_known x n names.0),
      subst (λ (m : Current). Known (number_behind n x) m y) (sym (second_same x y n webs)) (code_known y (number_behind n x) names.1),
      subst (λ (m : Current). Known (number_behind (number_behind n x) y) m k) (sym (rest_same x y n webs)) (code_known k (number_behind (number_behind n x) y) names.2),
    )

    pub staying : 0 < own → (code : Form) → Each (ItemIn fs own) (TestIn own) code → Renamer fs own own code code
    staying some code names = record {
      starts = nowhere;
      owns = no_owner;
      owner = λ v. v;
      some = some;
      few = omega arith;
      kept = λ v lt. refl;
      owned = λ u v h. absurd cc;
      names = names;
      body = sym (code_same code 0);
      known = code_known code 0 names;
    }
