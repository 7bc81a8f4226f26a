-- In code in which variables hold values for loops each variable is set before it is read.
use Rattle.std.proofs.Common.{◌≡◌, ◌⊎◌, ℕ, true, false, ◌&&◌, ◌||◌, nat_eq, List, [], ◌∷◌, ◌++◌, Option, Some, None, inl, inr, refl, ap, sym, ◌∙◌, subst}
use Rattle.std.proofs.lemmas.Bool.{and_from, or_left, or_right, or_cases, eqb-true, eq-eqb}
use Rattle.dae_meaning.specs.Variables.{VariableSet, with_set, parameters_set}
use Rattle.dae_ir.specs.Code.{Done, Do, If, Loop}
use Rattle.dae_ir.specs.Form.{Form}
use Rattle.dae_ir.specs.Classes.{IsWithin, has_value}
use Rattle.dae_ir.specs.SetFirst.{form_flow, IsSetFirst, assured, ItemReads, after_item}
use Rattle.dae_ir.specs.declared.form.Item.{Item}
use Rattle.dae_ir.specs.declared.form.Item.TheVariants.{Assign, Load, Store, Print, Expect, Break, Continue, Call, Return, Halt}
use Rattle.dae_ir.specs.declared.form.Value.{Value}
use Rattle.dae_ir.proofs.Laws.{value_more}
use Rattle.dae_hoist.specs.Hoisted.{Holding, found_or, hoisted_item, hoisted_code}
use Rattle.dae_hoist.specs.Kept.{Hoisting, Fits, ItemKept, IsKept, is_listed, is_set, set_behind}

-- ---- what is set stays so

item_grows : (item : Item) (d : VariableSet) (u : ℕ) → d u ≡ true → after_item d item u ≡ true
item_grows (Assign v x) d u h = or_right (nat_eq u v) (d u) h
item_grows (Load v kind x) d u h = or_right (nat_eq u v) (d u) h
item_grows (Store width x y) d u h = h
item_grows (Print spelling x) d u h = h
item_grows (Expect check) d u h = h
item_grows Break d u h = refl
item_grows Continue d u h = refl
item_grows (Call v g xs) d u h = or_right (nat_eq u v) (d u) h
item_grows (Return x) d u h = refl
item_grows (Halt x) d u h = refl

assured_grows : (code : Form) (d : VariableSet) (u : ℕ) → d u ≡ true → assured form_flow d code u ≡ true
assured_grows Done d u h = h
assured_grows (Do place item k) d u h = assured_grows k (after_item d item) u (item_grows item d u h)
assured_grows (If place test x y k) d u h =
    assured_grows k (λ v. assured form_flow d x v && assured form_flow d y v) u
    (and_from (assured form_flow d x u) (assured form_flow d y u) (assured_grows x d u h) (assured_grows y d u h))
assured_grows (Loop place x y k) d u h = assured_grows k d u h

-- ---- the same is set behind

module _ (h : Holding) where
  after_same : (d : VariableSet) (item : Item) → after_item d (hoisted_item h item) ≡ after_item d item
  after_same d (Assign v x) = refl
  after_same d (Load v kind x) = refl
  after_same d (Store width x y) = refl
  after_same d (Print spelling x) = refl
  after_same d (Expect check) = refl
  after_same d Break = refl
  after_same d Continue = refl
  after_same d (Call v g xs) = refl
  after_same d (Return x) = refl
  after_same d (Halt x) = refl

  assured_same : (code : Form) (d : VariableSet) → assured form_flow d (hoisted_code h code) ≡ assured form_flow d code
  assured_same Done d = refl
  assured_same (Do place item k) d =
      ap (λ (e : VariableSet). assured form_flow e (hoisted_code h k)) (after_same d item) ∙ assured_same k (after_item d item)
  assured_same (If place test x y k) d =
      ap (λ (e : VariableSet). assured form_flow (λ v. e v && assured form_flow d (hoisted_code h y) v) (hoisted_code h k)) (assured_same x d)
      ∙ ap (λ (e : VariableSet). assured form_flow (λ v. assured form_flow d x v && e v) (hoisted_code h k)) (assured_same y d)
      ∙ assured_same k (λ v. assured form_flow d x v && assured form_flow d y v)
  assured_same (Loop place x y k) d = assured_same k d

-- ---- the variables of which is known that they are set

eq_sym : (v u : ℕ) → nat_eq v u ≡ true → nat_eq u v ≡ true
eq_sym v u h = eq-eqb u v (sym (eqb-true v u h))

-- one more at the end
listed_more : (us : List ℕ) (v u : ℕ) → is_listed (us ++ v ∷ []) u ≡ true → (nat_eq v u ≡ true) ⊎ (is_listed us u ≡ true)
listed_more [] v u h = or_cases (nat_eq v u) false h
listed_more (w ∷ us) v u h = by (listed_more us v u) (or_cases (nat_eq w u) (is_listed (us ++ v ∷ []) u) h) where
  later : (nat_eq v u ≡ true) ⊎ (is_listed us u ≡ true) → (nat_eq v u ≡ true) ⊎ ((nat_eq w u || is_listed us u) ≡ true)
  later (inl k) = inl k
  later (inr k) = inr (or_right (nat_eq w u) (is_listed us u) k)

  by : (is_listed (us ++ v ∷ []) u ≡ true → (nat_eq v u ≡ true) ⊎ (is_listed us u ≡ true)) → (nat_eq w u ≡ true) ⊎ (is_listed (us ++ v ∷ []) u ≡ true)
      → (nat_eq v u ≡ true) ⊎ ((nat_eq w u || is_listed us u) ≡ true)
  by rest (inl k) = inr (or_left (nat_eq w u) (is_listed us u) k)
  by rest (inr k) = later (rest k)

module _ (t : Hoisting) where
  target_set : (us : List ℕ) (d : VariableSet) (v : ℕ) → IsWithin (is_set t us) d → IsWithin (is_set t (us ++ v ∷ [])) (with_set v d)
  target_set us d v all u h = by (or_cases (parameters_set t.parameters u) (is_listed (us ++ v ∷ []) u) h) where
    behind : (nat_eq v u ≡ true) ⊎ (is_listed us u ≡ true) → with_set v d u ≡ true
    behind (inl k) = or_left (nat_eq u v) (d u) (eq_sym v u k)
    behind (inr k) = or_right (nat_eq u v) (d u) (all u (or_right (parameters_set t.parameters u) (is_listed us u) k))

    by : (parameters_set t.parameters u ≡ true) ⊎ (is_listed (us ++ v ∷ []) u ≡ true) → with_set v d u ≡ true
    by (inl k) = or_right (nat_eq u v) (d u) (all u (or_left (parameters_set t.parameters u) (is_listed us u) k))
    by (inr k) = behind (listed_more us v u k)

  item_set : (us : List ℕ) (d : VariableSet) (item : Item) → IsWithin (is_set t us) d → IsWithin (is_set t (set_behind us item)) (after_item d item)
  item_set us d (Assign v x) all = target_set us d v all
  item_set us d (Load v kind x) all = target_set us d v all
  item_set us d (Store width x y) all = all
  item_set us d (Print spelling x) all = all
  item_set us d (Expect check) all = all
  item_set us d Break all = λ u h. refl
  item_set us d Continue all = λ u h. refl
  item_set us d (Call v g xs) all = target_set us d v all
  item_set us d (Return x) all = λ u h. refl
  item_set us d (Halt x) all = λ u h. refl

  assigned_reads : (us : List ℕ) (d : VariableSet) (v : ℕ) (x : Value) (o : Option Value) → IsWithin (is_set t us) d → Fits t us v o → has_value d x ≡ true → has_value d (found_or o x) ≡ true
  assigned_reads us d v x None all fits h = h
  assigned_reads us d v x (Some y) all fits h = value_more (is_set t us) d all y fits.0

  item_reads : (us : List ℕ) (d : VariableSet) (item : Item) → IsWithin (is_set t us) d → ItemKept t us item → ItemReads d item → ItemReads d (hoisted_item t.holding item)
  item_reads us d (Assign v x) all kept h = assigned_reads us d v x (t.holding v) all kept.1 h
  item_reads us d (Load v kind x) all kept h = h
  item_reads us d (Store width x y) all kept h = h
  item_reads us d (Print spelling x) all kept h = h
  item_reads us d (Expect check) all kept h = h
  item_reads us d Break all kept h = h
  item_reads us d Continue all kept h = h
  item_reads us d (Call v g xs) all kept h = h
  item_reads us d (Return x) all kept h = h
  item_reads us d (Halt x) all kept h = h

  -- what is set before an If is set behind it
  both_set : (us : List ℕ) (d : VariableSet) (x y : Form) → IsWithin (is_set t us) d → IsWithin (is_set t us) (λ v. assured form_flow d x v && assured form_flow d y v)
  both_set us d x y all u h = and_from (assured form_flow d x u) (assured form_flow d y u) (assured_grows x d u (all u h)) (assured_grows y d u (all u h))

  pub first_kept : (us : List ℕ) (d : VariableSet) (code : Form) → IsWithin (is_set t us) d → IsKept t us code → IsSetFirst form_flow d code → IsSetFirst form_flow d (hoisted_code t.holding code)
  first_kept us d Done all kept h = tt
  first_kept us d (Do place item k) all kept h = (
    item_reads us d item all kept.0 h.0,
    subst (λ (e : VariableSet). IsSetFirst form_flow e (hoisted_code t.holding k)) (sym (after_same t.holding d item)) (first_kept (set_behind us item) (after_item d item) k (item_set us d item all) kept.1 h.1),
  )
  first_kept us d (If place test x y k) all kept h = (
    h.0,
    first_kept us d x all kept.1 h.1,
    first_kept us d y all kept.2 h.2,
    subst (λ (e : VariableSet). IsSetFirst form_flow (λ v. e v && assured form_flow d (hoisted_code t.holding y) v) (hoisted_code t.holding k)) (sym (assured_same t.holding x d))
        (subst (λ (e : VariableSet). IsSetFirst form_flow (λ v. assured form_flow d x v && e v) (hoisted_code t.holding k)) (sym (assured_same t.holding y d))
        (first_kept us (λ v. assured form_flow d x v && assured form_flow d y v) k (both_set us d x y all) kept.3 h.3)),
  )
  first_kept us d (Loop place x y k) all kept h = (first_kept us d x all kept.0 h.0, first_kept us d y all kept.1 h.1, first_kept us d k all kept.2 h.2)
