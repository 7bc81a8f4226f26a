-- In a form whose variables are renamed by webs each variable is set before it is read.
use Rattle.std.proofs.Common.{◌≡◌, ◌⊎◌, ℕ, Bool, true, false, ◌&&◌, ◌||◌, nat_eq, List, [], ◌∷◌, Option, Some, None, inl, inr, refl, ap, sym, ◌∙◌, subst, arith}
use Rattle.std.proofs.lemmas.Bool.{eqb-true, eq-eqb, and_parts, and_from, or_right}
use Rattle.dae_meaning.specs.Variables.{VariableSet, with_set}
use Rattle.dae_ir.specs.Code.{Done, Do, If, Loop}
use Rattle.dae_ir.specs.Form.{Form}
use Rattle.dae_ir.specs.Classes.{has, has_test, has_value, has_check}
use Rattle.dae_ir.specs.SetFirst.{form_flow, IsSetFirst, assured, AllRead, ItemReads, after_item}
use Rattle.dae_ir.specs.declared.form.Operand.{Operand}
use Rattle.dae_ir.specs.declared.form.Operand.TheVariants.{Variable, Number}
use Rattle.dae_ir.specs.declared.form.Value.{Value}
use Rattle.dae_ir.specs.declared.form.Value.TheVariants as val
use Rattle.dae_ir.specs.declared.form.Test.{Test}
use Rattle.dae_ir.specs.declared.form.Check.{Check}
use Rattle.dae_ir.specs.declared.form.Check.TheVariants.{Place as Good, InBounds, Zero, Room, Frame, Abort}
use Rattle.dae_ir.specs.declared.form.Item.{Item}
use Rattle.dae_ir.specs.declared.form.Item.TheVariants.{Assign, Load, Store, Print, Expect, Break, Continue, Call, Return, Halt}
use Rattle.dae_webs.specs.Current.{Current, web_of, is_web, has_web, or_own, written_as, own_webs}
use Rattle.dae_webs.specs.Renamed.{Starts, number_after, number_behind, web_set, with_web, webs_after, webs_behind, renamed_operand, renamed_operands, renamed_test, renamed_value, renamed_check, renamed_item, renamed_code}
use Rattle.dae_webs.specs.Known.{Owns, IsKnown}
use Rattle.dae_webs.proofs.Tables.{set_some, own_at}
use Rattle.dae_webs.proofs.Inside.{Within, in_first, in_second, in_rest, first_within, second_within, rest_within, rest_first, rest_second}

-- the web of what is set is set
abbrev Carries : Current → VariableSet → VariableSet → Type 0
Carries m d e = (v u : ℕ) → web_of m v ≡ Some u → d v ≡ true → e u ≡ true

carries_less : (l m : Current) (d e : VariableSet) → Within l m → Carries m d e → Carries l d e
carries_less l m d e sub c v u is h = c v u (sub v u is) h

module _ (m : Current) (d e : VariableSet) (c : Carries m d e) where
  read_has : (v : ℕ) → has_web m v ≡ true → d v ≡ true → e (written_as m v) ≡ true
  read_has v there h = by (web_of m v) refl there where
    by : (o : Option ℕ) → web_of m v ≡ o → is_web o ≡ true → e (or_own v o) ≡ true
    by None is there = absurd cc
    by (Some u) is there = c v u is h

  operand_has : (x : Operand) → has (has_web m) x ≡ true → has d x ≡ true → has e (renamed_operand m x) ≡ true
  operand_has (Variable v) there h = read_has v there h
  operand_has (Number k) there h = refl

  two_have : (x y : Operand) → (has (has_web m) x && has (has_web m) y) ≡ true → (has d x && has d y) ≡ true → (has e (renamed_operand m x) && has e (renamed_operand m y)) ≡ true
  two_have x y there h =
      let t = and_parts (has (has_web m) x) (has (has_web m) y) there in
      let r = and_parts (has d x) (has d y) h in
      rw (operand_has x t.0 r.0, operand_has y t.1 r.1) refl

  test_has : (t : Test) → has_test (has_web m) t ≡ true → has_test d t ≡ true → has_test e (renamed_test m t) ≡ true
  test_has t there h = two_have t.left t.right there h

  value_has : (x : Value) → has_value (has_web m) x ≡ true → has_value d x ≡ true → has_value e (renamed_value m x) ≡ true
  value_has (val.Same x) there h = operand_has x there h
  value_has (val.Extended kind x) there h = operand_has x there h
  value_has (val.Binary operator x y) there h = two_have x y there h
  value_has (val.Holds t) there h = test_has t there h
  value_has (val.FrameAddress offset) there h = refl

  check_has : (check : Check) → has_check (has_web m) check ≡ true → has_check d check ≡ true → has_check e (renamed_check m check) ≡ true
  check_has (Good width x) there h = operand_has x there h
  check_has (InBounds x offset) there h = operand_has x there h
  check_has (Zero x) there h = operand_has x there h
  check_has (Room g) there h = refl
  check_has Frame there h = refl
  check_has Abort there h = refl

  all_have : (xs : List Operand) → AllRead (has_web m) xs → AllRead d xs → AllRead e (renamed_operands m xs)
  all_have [] there h = tt
  all_have (x ∷ xs) there h = (operand_has x there.0 h.0, all_have xs there.1 h.1)

  item_has : (item : Item) (o : Option ℕ) → ItemReads (has_web m) item → ItemReads d item → ItemReads e (renamed_item o m item)
  item_has (Assign v x) o there h = value_has x there h
  item_has (Load v kind x) o there h = operand_has x there h
  item_has (Store width x y) o there h = (operand_has x there.0 h.0, operand_has y there.1 h.1)
  item_has (Print spelling x) o there h = operand_has x there h
  item_has (Expect check) o there h = check_has check there h
  item_has Break o there h = tt
  item_has Continue o there h = tt
  item_has (Call v g xs) o there h = all_have xs there h
  item_has (Return x) o there h = operand_has x there h
  item_has (Halt x) o there h = operand_has x there h

  -- ---- behind a definition

  set_here : (v : ℕ) → with_set v e v ≡ true
  set_here v = by (nat_eq v v) (eq-eqb v v refl) where
    by : (b : Bool) → b ≡ true → (b || e v) ≡ true
    by true h = refl
    by false h = absurd cc

  -- where the web of v is x, and others have theirs
  set_carries : (v x w u : ℕ) → (nat_eq w v ≡ true → x ≡ u) → (nat_eq w v ≡ false → web_of m w ≡ Some u) → with_set v d w ≡ true → with_set x e u ≡ true
  set_carries v x w u here other = by (nat_eq w v) refl where
    by : (b : Bool) → nat_eq w v ≡ b → (b || d w) ≡ true → with_set x e u ≡ true
    by true is h = subst (λ (z : ℕ). with_set x e z ≡ true) (here is) (set_here x)
    by false is h = or_right (nat_eq u x) (e u) (c w u (other is) h)

  defined_carries : (o : Option ℕ) (v : ℕ) → Carries (with_web o m v) (with_set v d) (with_set (web_set o m v) e)
  defined_carries None v w u is h =
      set_carries v (written_as m v) w u
      (λ same. ap (λ (z : Option ℕ). or_own v z) (ap (λ (z : ℕ). web_of m z) (sym (eqb-true w v same)) ∙ is)) (λ other. is) h
  defined_carries (Some x) v w u is h = set_carries v x w u (λ same. by_same (set_some m v x w u is) same) (λ other. by_other (set_some m v x w u is) other) h where
    by_same : ((nat_eq w v ≡ true) × (x ≡ u)) ⊎ ((nat_eq w v ≡ false) × (web_of m w ≡ Some u)) → nat_eq w v ≡ true → x ≡ u
    by_same (inl k) same = k.1
    by_same (inr k) same = absurd (let e : true ≡ false = sym same ∙ k.0 in cc)

    by_other : ((nat_eq w v ≡ true) × (x ≡ u)) ⊎ ((nat_eq w v ≡ false) × (web_of m w ≡ Some u)) → nat_eq w v ≡ false → web_of m w ≡ Some u
    by_other (inl k) other = absurd (let e : true ≡ false = sym k.0 ∙ other in cc)
    by_other (inr k) other = k.1

  item_carries : (item : Item) (o : Option ℕ) → Carries (webs_after o m item) (after_item d item) (after_item e (renamed_item o m item))
  item_carries (Assign v x) o = defined_carries o v
  item_carries (Load v kind x) o = defined_carries o v
  item_carries (Store width x y) o = c
  item_carries (Print spelling x) o = c
  item_carries (Expect check) o = c
  item_carries Break o = λ v u is h. refl
  item_carries Continue o = λ v u is h. refl
  item_carries (Call v g xs) o = defined_carries o v
  item_carries (Return x) o = λ v u is h. refl
  item_carries (Halt x) o = λ v u is h. refl

module _ (b : Starts) where
  module _ (n : ℕ) (x y : Form) (m : Current) (d e : VariableSet) (c : Carries m d e) where
    carries_first : Carries (in_first b n x y m) d e
    carries_first = carries_less _ _ d e (first_within b n x y m) c

    carries_second : Carries (in_second b n x y m) d e
    carries_second = carries_less _ _ d e (second_within b n x y m) carries_first

    carries_rest : Carries (in_rest b n x y m) d e
    carries_rest = carries_less _ _ d e (rest_within b n x y m) carries_first

    -- behind an If
    carries_both : Carries (webs_behind b n (in_first b n x y m) x) (assured form_flow d x) (assured form_flow e (renamed_code b n (in_first b n x y m) x))
        → Carries (webs_behind b (number_behind n x) (in_second b n x y m) y) (assured form_flow d y) (assured form_flow e (renamed_code b (number_behind n x) (in_second b n x y m) y))
        → Carries (in_rest b n x y m) (λ v. assured form_flow d x v && assured form_flow d y v)
        (λ u. assured form_flow e (renamed_code b n (in_first b n x y m) x) u && assured form_flow e (renamed_code b (number_behind n x) (in_second b n x y m) y) u)
    carries_both hx hy v u is h =
        let p = and_parts (assured form_flow d x v) (assured form_flow d y v) h in
        and_from _ _ (hx v u (rest_first b n x y m v u is) p.0) (hy v u (rest_second b n x y m v u is) p.1)

  code_carries : (code : Form) (n : ℕ) (m : Current) (d e : VariableSet) → Carries m d e
      → Carries (webs_behind b n m code) (assured form_flow d code) (assured form_flow e (renamed_code b n m code))
  code_carries Done n m d e c = c
  code_carries (Do place item k) n m d e c =
      code_carries k (number_after n item) (webs_after (b n) m item) (after_item d item) (after_item e (renamed_item (b n) m item)) (item_carries m d e c item (b n))
  code_carries (If place t x y k) n m d e c =
      code_carries k (number_behind (number_behind n x) y) (in_rest b n x y m) _ _
      (carries_both n x y m d e c (code_carries x n (in_first b n x y m) d e (carries_first n x y m d e c))
      (code_carries y (number_behind n x) (in_second b n x y m) d e (carries_second n x y m d e c)))
  code_carries (Loop place x y k) n m d e c = code_carries k (number_behind (number_behind n x) y) (in_rest b n x y m) d e (carries_rest n x y m d e c)

  module _ (owns : Owns) where
    code_first : (code : Form) (n : ℕ) (m : Current) (d e : VariableSet) → Carries m d e → IsKnown owns b n m code → IsSetFirst form_flow d code
        → IsSetFirst form_flow e (renamed_code b n m code)
    code_first Done n m d e c known h = tt
    code_first (Do place item k) n m d e c known h = (
      item_has m d e c item (b n) known.0 h.0,
      code_first k (number_after n item) (webs_after (b n) m item) (after_item d item) (after_item e (renamed_item (b n) m item)) (item_carries m d e c item (b n)) known.2 h.1,
    )
    code_first (If place t x y k) n m d e c known h = (
      test_has m d e c t known.0 h.0,
      code_first x n (in_first b n x y m) d e (carries_first n x y m d e c) known.1 h.1,
      code_first y (number_behind n x) (in_second b n x y m) d e (carries_second n x y m d e c) known.2 h.2,
      code_first k (number_behind (number_behind n x) y) (in_rest b n x y m) _ _
          (carries_both n x y m d e c (code_carries x n (in_first b n x y m) d e (carries_first n x y m d e c))
          (code_carries y (number_behind n x) (in_second b n x y m) d e (carries_second n x y m d e c))) known.3 h.3,
    )
    code_first (Loop place x y k) n m d e c known h = (
      code_first x n (in_first b n x y m) d e (carries_first n x y m d e c) known.0 h.0,
      code_first y (number_behind n x) (in_second b n x y m) d e (carries_second n x y m d e c) known.1 h.1,
      code_first k (number_behind (number_behind n x) y) (in_rest b n x y m) d e (carries_rest n x y m d e c) known.2 h.2,
    )

-- from a function's entry
pub first_kept : (owns : Owns) (b : Starts) (own : ℕ) (d : VariableSet) (code : Form) → IsKnown owns b 0 (own_webs 0 own) code → IsSetFirst form_flow d code
    → IsSetFirst form_flow d (renamed_code b 0 (own_webs 0 own) code)
first_kept owns b own d code known h =
    code_first b owns code 0 (own_webs 0 own) d d (λ v u is set. (let at = (own_at 0 own v u is).0 in let same : v ≡ u = omega (arith, at) in subst (λ (z : ℕ). d z ≡ true) same set)) known h
