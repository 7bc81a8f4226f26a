-- In code without its common subexpressions each variable is set before it is read.
use Rattle.std.proofs.Common.{◌≡◌, ℕ, Bool, true, false, ◌&&◌, if◌then◌else◌, nat_eq, List, [], ◌∷◌, Option, Some, None, refl, ap, sym, ◌∙◌, subst}
use Rattle.std.proofs.lemmas.Bool.{eq-eqb, and_from, and_parts, or_left, or_right}
use Rattle.dae_meaning.specs.Variables.{VariableSet, with_set}
use Rattle.dae_ir.specs.Code.{Done, Do, If, Loop}
use Rattle.dae_ir.specs.Form.{Form}
use Rattle.dae_ir.specs.Classes.{Classes, has, has_test, has_value, has_check}
use Rattle.dae_ir.specs.SetFirst.{form_flow, IsSetFirst, assured, AllRead, ItemReads, after_item}
use Rattle.dae_ir.specs.declared.form.Operand.{Operand}
use Rattle.dae_ir.specs.declared.form.Operand.TheVariants.{Variable, Number}
use Rattle.dae_ir.specs.declared.form.Value.{Value}
use Rattle.dae_ir.specs.declared.form.Value.TheVariants as val
use Rattle.dae_ir.specs.declared.form.Test.{Test}
use Rattle.dae_meaning.specs.declared.Operator.TheVariants.{Add}
use Rattle.dae_ir.specs.declared.form.Check.{Check}
use Rattle.dae_ir.specs.declared.form.Check.TheVariants.{Place as Good, InBounds, Zero, Room, Frame, Abort}
use Rattle.dae_ir.specs.declared.form.Item.{Item}
use Rattle.dae_ir.specs.declared.form.Item.TheVariants.{Assign, Load, Store, Print, Expect, Break, Continue, Call, Return, Halt}
use Rattle.dae_ir.proofs.Laws.{meet as both}
use Rattle.dae_commons.specs.declared.equations.Equation.{Equation}
use Rattle.dae_commons.specs.Equations.{equations_in, both_known, met, with_equation, without_variable, known_in_loop}
use Rattle.dae_commons.specs.Copies.{source_in, propagated_operand, propagated_operands, propagated_test, propagated_value, propagated_check, is_operand}
use Rattle.dae_commons.specs.Sums.{is_itself, assigned_value}
use Rattle.dae_commons.specs.Commoned.{commoned_item, known_behind, known_behind_both, commoned_code, known_after_set, known_after}
use Rattle.dae_commons.proofs.Lists.{first_all, second_all, all_of_both}
use Rattle.dae_commons.proofs.Names.{base_in, IsNamed, AreNamed, source_named, assigned_value_named, without_named, with_named, named_more}
use Rattle.dae_commons.proofs.Sparing.{loop_all}

abbrev IsSet : VariableSet → ℕ → Type 0
IsSet d v = d v ≡ true

-- the equations name variables that are set; where the code doesn't go on, all are
abbrev AreSet : VariableSet → Option (List Equation) → Type 0
AreSet d None = (v : ℕ) → d v ≡ true
AreSet d (Some q) = AreNamed (IsSet d) q

set_in : (d : VariableSet) (k : Option (List Equation)) → AreSet d k → AreNamed (IsSet d) (equations_in k)
set_in d None all = tt
set_in d (Some q) all = all

met_set : (a b : VariableSet) (j k : Option (List Equation)) → AreSet a j → AreSet b k → AreSet (both a b) (met j k)
met_set a b None None h g = λ v. and_from (a v) (b v) (h v) (g v)
met_set a b None (Some r) h g = named_more (IsSet b) (IsSet (both a b)) (λ u is. and_from (a u) (b u) (h u) is) r g
met_set a b (Some q) None h g = named_more (IsSet a) (IsSet (both a b)) (λ u is. and_from (a u) (b u) is (g u)) q h
met_set a b (Some q) (Some r) h g =
    all_of_both (IsNamed (IsSet a)) (IsNamed (IsSet b)) (IsNamed (IsSet (both a b)))
    (λ e x y. (
      and_from (a e.variable) (b e.variable) x.0 y.0,
      and_from (a (source_in e.variable e.value)) (b (source_in e.variable e.value)) x.1 y.1,
      and_from (a (base_in e.variable e.value)) (b (base_in e.variable e.value)) x.2 y.2,
    )) (both_known q r)
    (first_all (IsNamed (IsSet a)) q r h) (second_all (IsNamed (IsSet b)) q r g)

set_here : (v : ℕ) (d : VariableSet) → with_set v d v ≡ true
set_here v d = or_left (nat_eq v v) (d v) (eq-eqb v v refl)

set_more : (v : ℕ) (d : VariableSet) (u : ℕ) → d u ≡ true → with_set v d u ≡ true
set_more v d u h = or_right (nat_eq u v) (d u) h

module _ (c : Classes) where
  module _ (d : VariableSet) (q : List Equation) (all : AreNamed (IsSet d) q) where
    operand_has : (x : Operand) → has d x ≡ true → has d (propagated_operand c q x) ≡ true
    operand_has (Variable v) h = source_named (IsSet d) c q v all h
    operand_has (Number k) h = refl

    two_have : (x y : Operand) → (has d x && has d y) ≡ true → (has d (propagated_operand c q x) && has d (propagated_operand c q y)) ≡ true
    two_have x y h =
        let p = and_parts (has d x) (has d y) h in
        rw (operand_has x p.0, operand_has y p.1) refl

    test_has : (t : Test) → has_test d t ≡ true → has_test d (propagated_test c q t) ≡ true
    test_has t h = two_have t.left t.right h

    value_has : (x : Value) → has_value d x ≡ true → has_value d (propagated_value c q x) ≡ true
    value_has (val.Same x) h = operand_has x h
    value_has (val.Extended kind x) h = operand_has x h
    value_has (val.Binary operator x y) h = two_have x y h
    value_has (val.Holds t) h = test_has t h
    value_has (val.FrameAddress offset) h = refl

    assigned_has : (v : ℕ) (x : Value) → has_value d x ≡ true → has_value d (assigned_value c q v x) ≡ true
    assigned_has v x h =
        assigned_value_named (IsSet d) (λ (z : Value). has_value d z ≡ true) (λ u is. is) (λ w n is low. and_from (d w) true is refl) c q v x all h (value_has x h)

    check_has : (check : Check) → has_check d check ≡ true → has_check d (propagated_check c q check) ≡ true
    check_has (Good width x) h = operand_has x h
    check_has (InBounds x offset) h = operand_has x h
    check_has (Zero x) h = operand_has x h
    check_has (Room g) h = refl
    check_has Frame h = refl
    check_has Abort h = refl

    all_have : (xs : List Operand) → AllRead d xs → AllRead d (propagated_operands c q xs)
    all_have [] h = tt
    all_have (x ∷ xs) h = (operand_has x h.0, all_have xs h.1)

    item_has : (item : Item) → ItemReads d item → ItemReads d (commoned_item c q item)
    item_has (Assign v x) h = assigned_has v x h
    item_has (Load v kind x) h = operand_has x h
    item_has (Store width x y) h = (operand_has x h.0, operand_has y h.1)
    item_has (Print spelling x) h = operand_has x h
    item_has (Expect check) h = check_has check h
    item_has Break h = tt
    item_has Continue h = tt
    item_has (Call v g xs) h = all_have xs h
    item_has (Return x) h = operand_has x h
    item_has (Halt x) h = operand_has x h

    -- ---- what the equations name behind an item

    source_set : (v : ℕ) (x : Value) → has_value d x ≡ true → with_set v d (source_in v x) ≡ true
    source_set v (val.Same (Variable u)) h = set_more v d u h
    source_set v (val.Same (Number k)) h = set_here v d
    source_set v (val.Extended kind x) h = set_here v d
    source_set v (val.Binary operator x y) h = set_here v d
    source_set v (val.Holds t) h = set_here v d
    source_set v (val.FrameAddress offset) h = set_here v d

    base_set : (v : ℕ) (x : Value) → has_value d x ≡ true → with_set v d (base_in v x) ≡ true
    base_set v (val.Binary Add (Variable w) (Number k)) h = set_more v d w (and_parts (d w) true h).0
    base_set v (val.Binary Add (Number k) (Variable w)) h = set_more v d w h
    base_set v _ h = set_here v d

    still_named : (v : ℕ) → AreNamed (IsSet (with_set v d)) q
    still_named v = named_more (IsSet d) (IsSet (with_set v d)) (λ u h. set_more v d u h) q all

    assigned_named : (v : ℕ) (x : Value) → has_value d x ≡ true → AreNamed (IsSet (with_set v d)) (known_after_set q v x (assigned_value c q v x))
    assigned_named v x h = by (is_itself v x) (is_operand x) where
      by : (b o : Bool) → AreNamed (IsSet (with_set v d)) (if b then q else (if o then without_variable v q else with_equation v (assigned_value c q v x) q))
      by true o = still_named v
      by false true = without_named (IsSet (with_set v d)) v q (still_named v)
      by false false =
          with_named (IsSet (with_set v d)) v (assigned_value c q v x) q (set_here v d) (source_set v (assigned_value c q v x) (assigned_has v x h))
          (base_set v (assigned_value c q v x) (assigned_has v x h)) (still_named v)

    item_named : (item : Item) → ItemReads d item → AreSet (after_item d item) (known_after c q item)
    item_named (Assign v x) h = assigned_named v x h
    item_named (Load v kind x) h = without_named (IsSet (with_set v d)) v q (still_named v)
    item_named (Store width x y) h = all
    item_named (Print spelling x) h = all
    item_named (Expect check) h = all
    item_named Break h = λ v. refl
    item_named Continue h = λ v. refl
    item_named (Call v g xs) h = tt
    item_named (Return x) h = λ v. refl
    item_named (Halt x) h = λ v. refl

  -- ---- the same is set behind

  after_same : (q : List Equation) (d : VariableSet) (item : Item) → after_item d (commoned_item c q item) ≡ after_item d item
  after_same q d (Assign v x) = refl
  after_same q d (Load v kind x) = refl
  after_same q d (Store width x y) = refl
  after_same q d (Print spelling x) = refl
  after_same q d (Expect check) = refl
  after_same q d Break = refl
  after_same q d Continue = refl
  after_same q d (Call v g xs) = refl
  after_same q d (Return x) = refl
  after_same q d (Halt x) = refl

  assured_same : (code : Form) (q : List Equation) (d : VariableSet) → assured form_flow d (commoned_code c q code) ≡ assured form_flow d code
  assured_same Done q d = refl
  assured_same (Do place item k) q d =
      ap (λ (e : VariableSet). assured form_flow e (commoned_code c (equations_in (known_after c q item)) k)) (after_same q d item)
      ∙ assured_same k (equations_in (known_after c q item)) (after_item d item)
  assured_same (If place t x y k) q d =
      ap (λ (e : VariableSet). assured form_flow (λ v. e v && assured form_flow d (commoned_code c q y) v) (commoned_code c (equations_in (known_behind_both c q x y)) k)) (assured_same x q d)
      ∙ ap (λ (e : VariableSet). assured form_flow (λ v. assured form_flow d x v && e v) (commoned_code c (equations_in (known_behind_both c q x y)) k)) (assured_same y q d)
      ∙ assured_same k (equations_in (known_behind_both c q x y)) (λ v. assured form_flow d x v && assured form_flow d y v)
  assured_same (Loop place x y k) q d = assured_same k (known_in_loop q x y) d

  code_set : (code : Form) (k : Option (List Equation)) (d : VariableSet) → AreSet d k → IsSetFirst form_flow d code → AreSet (assured form_flow d code) (known_behind c k code)
  code_set Done k d all h = all
  code_set (Do place item rest) k d all h =
      code_set rest (known_after c (equations_in k) item) (after_item d item) (item_named d (equations_in k) (set_in d k all) item h.0) h.1
  code_set (If place t x y rest) k d all h =
      let q = equations_in k in
      code_set rest (known_behind_both c q x y) (λ v. assured form_flow d x v && assured form_flow d y v)
      (met_set (assured form_flow d x) (assured form_flow d y) (known_behind c (Some q) x) (known_behind c (Some q) y) (code_set x (Some q) d (set_in d k all) h.1) (code_set y (Some q) d (set_in d k all) h.2)) h.3
  code_set (Loop place x y rest) k d all h = code_set rest (Some (known_in_loop (equations_in k) x y)) d (loop_all (IsNamed (IsSet d)) (equations_in k) x y (set_in d k all)) h.2

  pub first_kept : (code : Form) (q : List Equation) (d : VariableSet) → AreNamed (IsSet d) q → IsSetFirst form_flow d code → IsSetFirst form_flow d (commoned_code c q code)
  first_kept Done q d all h = tt
  first_kept (Do place item k) q d all h = (
    item_has d q all item h.0,
    subst (λ (e : VariableSet). IsSetFirst form_flow e (commoned_code c (equations_in (known_after c q item)) k)) (sym (after_same q d item))
        (first_kept k (equations_in (known_after c q item)) (after_item d item) (set_in (after_item d item) (known_after c q item) (item_named d q all item h.0)) h.1),
  )
  first_kept (If place t x y k) q d all h =
      let behind = known_behind_both c q x y in
      let named = met_set (assured form_flow d x) (assured form_flow d y) (known_behind c (Some q) x) (known_behind c (Some q) y) (code_set x (Some q) d all h.1) (code_set y (Some q) d all h.2) in (
        test_has d q all t h.0,
        first_kept x q d all h.1,
        first_kept y q d all h.2,
        subst (λ (e : VariableSet). IsSetFirst form_flow (λ v. e v && assured form_flow d (commoned_code c q y) v) (commoned_code c (equations_in behind) k)) (sym (assured_same x q d))
            (subst (λ (e : VariableSet). IsSetFirst form_flow (λ v. assured form_flow d x v && e v) (commoned_code c (equations_in behind) k)) (sym (assured_same y q d))
            (first_kept k (equations_in behind) (λ v. assured form_flow d x v && assured form_flow d y v) (set_in (λ v. assured form_flow d x v && assured form_flow d y v) behind named) h.3)),
      )
  first_kept (Loop place x y k) q d all h =
      let r = known_in_loop q x y in
      let still = loop_all (IsNamed (IsSet d)) q x y all in
      (first_kept x r d still h.0, first_kept y r d still h.1, first_kept k r d still h.2)
