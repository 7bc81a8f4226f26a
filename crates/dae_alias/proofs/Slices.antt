-- What leads to addresses in a form whose loads are reused.
use Rattle.std.proofs.Common.{◌≡◌, ℕ, zero, suc, ◌+◌, ◌<◌, ◌≤◌, Bool, true, false, ◌&&◌, ◌||◌, nat_eq, if◌then◌else◌, List, [], ◌∷◌, length, Option, Some, None, refl, ap, sym, ◌∙◌, subst, arith}
use Rattle.std.specs.Prelude.{nat_lt}
use Rattle.std.specs.List.{AllByRecursion}
use Rattle.std.proofs.lemmas.Bool.{eqb-true, and_parts, or_left, or_right}
use Rattle.dae_base.specs.declared.Place.{Place}
use Rattle.dae_base.specs.declared.LoadKind.{LoadKind}
use Rattle.dae_alias.proofs.Facts.{eq_refl, own_number}
use Rattle.dae_ir.specs.Code.{Done, Do, If, Loop, Each}
use Rattle.dae_ir.specs.Form.{Form, Program}
use Rattle.dae_ir.specs.Scope.{IsIn, ValueIn, TestIn, ItemIn}
use Rattle.dae_ir.specs.Sizes.{tally, bit, is_load_into, own_loads, conditions_a}
use Rattle.dae_ir.specs.Classes.{VariableSet, Classes, has, has_test, has_value, is_by_a, ArgumentsKept, AddressesKept, AreAddressesClosed, AreLeast, IsWithin}
use Rattle.dae_ir.specs.declared.form.Operand.{Operand}
use Rattle.dae_ir.specs.declared.form.Operand.TheVariants.{Variable, Number}
use Rattle.dae_ir.specs.declared.form.Value.{Value}
use Rattle.dae_ir.specs.declared.form.Value.TheVariants as val
use Rattle.dae_ir.specs.declared.form.Test.{Test}
use Rattle.dae_ir.specs.declared.form.Check.TheVariants.{Place as Good, InBounds, Zero, Room, Frame, Abort}
use Rattle.dae_ir.specs.declared.form.Function.{Function}
use Rattle.dae_ir.specs.declared.form.Item.{Item}
use Rattle.dae_ir.specs.declared.form.Item.TheVariants.{Assign, Load, Store, Print, Expect, Break, Continue, Call, Return, Halt}
use Rattle.dae_alias.specs.Stretches.{KnownInStretch, nothing, symbol, after}
use Rattle.dae_alias.specs.declared.held.Held.{Held}
use Rattle.dae_alias.specs.Reuse.{Holders, held_in, still_held, copy, loads_in, reused, turned, known_behind, held_behind}
use Rattle.dae_alias.specs.Laws.{IsReused, TakesFewer, ReuseAddsNothing, sum_from}

-- ---- the copies of a variable into a set

abbrev is_copy : VariableSet → ℕ → Item → Bool
is_copy s u (Assign v (val.Same (Variable w))) = nat_eq w u && s v
is_copy s u item = false

abbrev copied : VariableSet → ℕ → Form → Bool
copied s u Done = false
copied s u (Do place item k) = is_copy s u item || copied s u k
copied s u (If place t p q k) = copied s u p || (copied s u q || copied s u k)
copied s u (Loop place p q k) = copied s u p || (copied s u q || copied s u k)

-- the old variables of the set, and those further ones of which copies go into it
abbrev leading : ℕ → VariableSet → Form → VariableSet
leading n s code v = if nat_lt v n then s v else copied s v code

below_is : (v n : ℕ) → v < n → nat_lt v n ≡ true
below_is v n h = grind (arith, h)

above_is : (v n : ℕ) → n ≤ v → nat_lt v n ≡ false
above_is v n h = grind (arith, h)

leading_below : (n : ℕ) (s : VariableSet) (code : Form) (v : ℕ) → v < n → leading n s code v ≡ s v
leading_below n s code v h = rw (below_is v n h) refl

and_both : (b c : Bool) → b ≡ true → c ≡ true → (b && c) ≡ true
and_both true c h k = k
and_both false c h k = cc

is_below : (v n : ℕ) → nat_lt v n ≡ true → v < n
is_below v n h = grind (arith, h)

-- ---- sums over the numbers from l on

pub range_one : (t : ℕ → ℕ) (l c : ℕ) → sum_from t l (1 + c) ≡ t l + sum_from t (suc l) c
range_one t l c = let e : suc c ≡ 1 + c = omega arith in subst (λ (z : ℕ). sum_from t l z ≡ t l + sum_from t (suc l) c) e refl

pub no_more : (b : ℕ) → 0 + b ≡ b
no_more b = omega arith

none_more : (b : ℕ) → b + 0 ≡ b
none_more b = omega arith

one_out : (a b : ℕ) → suc a + b ≡ suc (a + b)
one_out a b = omega arith

one_over : (l a : ℕ) → l + suc a ≡ suc l + a
one_over l a = omega arith

pub range_both : (t : ℕ → ℕ) (l a b : ℕ) → sum_from t l (a + b) ≡ sum_from t l a + sum_from t (l + a) b
range_both t l zero b = rw (no_more b, none_more l) (omega arith)
range_both t l (suc a) b = rw (one_out a b, one_over l a) (let r = range_both t (suc l) a b in omega (arith, r))

pub range_none : (t : ℕ → ℕ) (l c : ℕ) → ((i : ℕ) → l ≤ i → t i ≡ 0) → sum_from t l c ≡ 0
range_none t l zero h = refl
range_none t l (suc c) h = let a = h l (omega arith) in let b = range_none t (suc l) c (λ i k. h i (omega (arith, k))) in omega (arith, a, b)

-- at most one of them isn't 0
pub range_single : (t : ℕ → ℕ) (b : ℕ) → ((i : ℕ) → t i ≤ b) → ((i j : ℕ) → 0 < t i → 0 < t j → i ≡ j) → (l c : ℕ) → sum_from t l c ≤ b
range_single t b most one l zero = omega arith
range_single t b most one l (suc c) = by (t l) refl (range_single t b most one (suc l) c) where
  rest : (y : ℕ) → t l ≡ suc y → (i : ℕ) → suc l ≤ i → (z : ℕ) → t i ≡ z → z ≡ 0
  rest y e i k zero is = refl
  rest y e i k (suc z) is = absurd (let q = one l i (omega (arith, e)) (omega (arith, is)) in omega (arith, q, k))

  by : (x : ℕ) → t l ≡ x → sum_from t (suc l) c ≤ b → t l + sum_from t (suc l) c ≤ b
  by zero e h = omega (arith, e, h)
  by (suc y) e h = let m = most l in let r = range_none t (suc l) c (λ i k. rest y e i k (t i) refl) in omega (arith, m, r)

pub range_plus : (s t : ℕ → ℕ) (l c : ℕ) → sum_from (λ i. s i + t i) l c ≡ sum_from s l c + sum_from t l c
range_plus s t l zero = refl
range_plus s t l (suc c) = let r = range_plus s t (suc l) c in omega (arith, r)

pub range_within : (s t : ℕ → ℕ) → ((i : ℕ) → s i ≤ t i) → (l c : ℕ) → sum_from s l c ≤ sum_from t l c
range_within s t h l zero = omega arith
range_within s t h l (suc c) = let a = h l in let r = range_within s t h (suc l) c in omega (arith, a, r)

pub range_zero : (c : ℕ) → sum_from (λ i. 0) 0 c ≤ 0
range_zero c = let e = range_none (λ i. 0) 0 c (λ i k. refl) in omega (arith, e)

pub sum_two : (s t : ℕ → ℕ) (c a b : ℕ) → sum_from s 0 c ≤ a → sum_from t 0 c ≤ b → sum_from (λ i. s i + t i) 0 c ≤ a + b
sum_two s t c a b h k = let e = range_plus s t 0 c in omega (arith, e, h, k)

-- a variable that is copied has a copy
bit_or : (b c : Bool) (m : ℕ) → bit c ≤ m → bit (b || c) ≤ bit b + m
bit_or true c m h = omega (arith, h)
bit_or false c m h = omega (arith, h)

bit_or_both : (b c : Bool) (k m : ℕ) → bit b ≤ k → bit c ≤ m → bit (b || c) ≤ k + m
bit_or_both true c k m h j = omega (arith, h, j)
bit_or_both false c k m h j = omega (arith, h, j)

copied_count : (s : VariableSet) (u : ℕ) (code : Form) → bit (copied s u code) ≤ tally (λ item. bit (is_copy s u item)) (λ t. 0) code
copied_count s u Done = omega arith
copied_count s u (Do place item k) = bit_or (is_copy s u item) _ _ (copied_count s u k)
copied_count s u (If place t p q k) =
    let c = bit_or_both _ _ _ _ (copied_count s u p) (bit_or_both _ _ _ _ (copied_count s u q) (copied_count s u k)) in omega (arith, c)
copied_count s u (Loop place p q k) = bit_or_both _ _ _ _ (copied_count s u p) (bit_or_both _ _ _ _ (copied_count s u q) (copied_count s u k))

tests : VariableSet → Form → ℕ
tests s code = tally (λ item. 0) (λ t. bit (is_by_a s t)) code

-- ---- a closed set of the old form gives a closed set of the new one

module _ (functions : List Function) (old new : ℕ → VariableSet) (own : ℕ → ℕ) (some : (g : ℕ) → 0 < own g) (takes : TakesFewer functions own) (f : ℕ)
    (same : (g v : ℕ) → v < own g → new g v ≡ old g v) where
  abbrev n : ℕ
  n = own f

  has_same : (x : Operand) → IsIn n x → has (new f) x ≡ has (old f) x
  has_same (Variable v) i = same f v i
  has_same (Number k) i = refl

  test_same : (t : Test) → TestIn n t → has_test (new f) t ≡ has_test (old f) t
  test_same t i = rw (has_same t.left i.0, has_same t.right i.1) refl

  value_same : (x : Value) → ValueIn n x → has_value (new f) x ≡ has_value (old f) x
  value_same (val.Same x) i = has_same x i
  value_same (val.Extended kind x) i = has_same x i
  value_same (val.Binary operator x y) i = rw (has_same x i.0, has_same y i.1) refl
  value_same (val.Holds t) i = test_same t i
  value_same (val.FrameAddress offset) i = refl

  arguments_same : (g k : ℕ) (xs : List Operand) → k + length xs ≤ own g → AllByRecursion (IsIn n) xs → ArgumentsKept (old g) (old f) k xs → ArgumentsKept (new g) (new f) k xs
  arguments_same g k [] few i a = tt
  arguments_same g k (x ∷ xs) few i a =
      (λ e. has_same x i.0 ∙ a.0 (sym (same g k (omega (arith, few))) ∙ e), arguments_same g (k + 1) xs (omega (arith, few)) i.1 a.1)

  item_kept : (item : Item) → ItemIn functions n item → AddressesKept old (old f) item → AddressesKept new (new f) item
  item_kept (Assign v x) i a = let t = i.0 in λ e. value_same x i.1 ∙ a (sym (same f v t.1) ∙ e)
  item_kept (Load v kind x) i a = has_same x i.1 ∙ a
  item_kept (Store width x y) i a = has_same x i.0 ∙ a
  item_kept (Print spelling x) i a = tt
  item_kept (Expect (Good width x)) i a = has_same x i ∙ a
  item_kept (Expect (InBounds x offset)) i a = has_same x i.0 ∙ a
  item_kept (Expect (Zero x)) i a = tt
  item_kept (Expect (Room g)) i a = tt
  item_kept (Expect Frame) i a = tt
  item_kept (Expect Abort) i a = tt
  item_kept Break i a = tt
  item_kept Continue i a = tt
  item_kept (Call v g xs) i a =
      let t = i.0 in
      record {
        arguments = arguments_same g 1 xs (let few = takes g (length xs) i.1 in omega (arith, few)) i.2 a.arguments;
        result = λ e. same g 0 (some g) ∙ a.result (sym (same f v t.1) ∙ e);
      }
  item_kept (Return x) i a = λ e. has_same x i ∙ a (sym (same f 0 (some f)) ∙ e)
  item_kept (Halt x) i a = tt

  -- a copy goes into the set only from it
  abbrev Holds : Form → Type 0
  Holds code = (u : ℕ) → copied (old f) u code ≡ true → n ≤ u → new f u ≡ true

  abbrev IsKept : Form → Type 0
  IsKept code = Each (AddressesKept new (new f)) (λ t. Unit {0}) code

  module _ (h : Holders) (mine : (i u : ℕ) → h i ≡ Some u → n ≤ u) where
    copy_kept : (v u : ℕ) (k : Form) (place : Place) → v < n → n ≤ u → Holds (Do place (copy v u) k) → AddressesKept new (new f) (copy v u)
    copy_kept v u k place small far holds e =
        holds u (or_left _ _ (and_both (nat_eq u u) (old f v) (eq_refl u) (sym (same f v small) ∙ e))) far

    further : (place : Place) (item : Item) (k : Form) → Holds (Do place item k) → Holds k
    further place item k holds u c far = holds u (or_right _ _ c) far

    -- it is so, whatever is known and held
    abbrev Keeps : Form → Type 0
    Keeps code = (s : KnownInStretch) (held : List Held) (l : ℕ) → Holds (reused h s held l code) → IsKept (reused h s held l code)

    load_kept : (place : Place) (v : ℕ) (kind : LoadKind) (x : Operand) (k : Form) → v < n → has (new f) x ≡ true → (i : ℕ) (given : Option Held) (holder : Option ℕ) → h i ≡ holder
        → (Holds k → IsKept k) → Holds (turned place v kind x given holder k) → IsKept (turned place v kind x given holder k)
    load_kept place v kind x k small a i None None it rest holds = (a, rest (further place (Load v kind x) k holds))
    load_kept place v kind x k small a i (Some g) None it rest holds = (a, rest (further place (Load v kind x) k holds))
    load_kept place v kind x k small a i (Some g) (Some u) it rest holds = (copy_kept v u k place small (mine i u it) holds, rest (further place (copy v u) k holds))
    load_kept place v kind x k small a i None (Some u) it rest holds =
        let behind : Holds (Do place (copy v u) k) = further place (Load u kind x) (Do place (copy v u) k) holds in
        (a, (copy_kept v u k place small (mine i u it) behind, rest (further place (copy v u) k behind)))

    code_kept : (code : Form) → Each (ItemIn functions n) (TestIn n) code → Each (AddressesKept old (old f)) (λ t. Unit {0}) code → Keeps code
    code_kept Done i a s held l holds = tt
    code_kept (Do place (Assign v x) k) i a s held l holds = (item_kept (Assign v x) i.0 a.0, code_kept k i.1 a.1 _ held l (further place (Assign v x) (reused h (after s (Assign v x)) held l k) holds))
    code_kept (Do place (Load v kind x) k) i a s held l holds =
        let t = i.0 in
        load_kept place v kind x _ ((t.0).1) (item_kept (Load v kind x) i.0 a.0) _ (held_in held kind (symbol s x)) _ refl
        (code_kept k i.1 a.1 (known_behind s v (held_in held kind (symbol s x))) (held_behind s held l v kind x (held_in held kind (symbol s x))) (suc l)) holds
    code_kept (Do place (Store width x y) k) i a s held l holds =
        (item_kept (Store width x y) i.0 a.0, code_kept k i.1 a.1 s (still_held held (symbol s x) width) l (further place (Store width x y) (reused h s (still_held held (symbol s x) width) l k) holds))
    code_kept (Do place (Expect check) k) i a s held l holds = (item_kept (Expect check) i.0 a.0, code_kept k i.1 a.1 s held l (further place (Expect check) (reused h s held l k) holds))
    code_kept (Do place (Print spelling x) k) i a s held l holds = (tt, code_kept k i.1 a.1 nothing [] l (further place (Print spelling x) (reused h nothing [] l k) holds))
    code_kept (Do place Break k) i a s held l holds = (tt, code_kept k i.1 a.1 nothing [] l (further place Break (reused h nothing [] l k) holds))
    code_kept (Do place Continue k) i a s held l holds = (tt, code_kept k i.1 a.1 nothing [] l (further place Continue (reused h nothing [] l k) holds))
    code_kept (Do place (Call v g xs) k) i a s held l holds = (item_kept (Call v g xs) i.0 a.0, code_kept k i.1 a.1 nothing [] l (further place (Call v g xs) (reused h nothing [] l k) holds))
    code_kept (Do place (Return x) k) i a s held l holds = (item_kept (Return x) i.0 a.0, code_kept k i.1 a.1 nothing [] l (further place (Return x) (reused h nothing [] l k) holds))
    code_kept (Do place (Halt x) k) i a s held l holds = (tt, code_kept k i.1 a.1 nothing [] l (further place (Halt x) (reused h nothing [] l k) holds))
    code_kept (If place t p q k) i a s held l holds = (
      tt,
      code_kept p i.1 a.1 nothing [] l (λ u c far. holds u (or_left _ _ c) far),
      code_kept q i.2 a.2 nothing [] _ (λ u c far. holds u (or_right _ _ (or_left _ _ c)) far),
      code_kept k i.3 a.3 nothing [] _ (λ u c far. holds u (or_right _ _ (or_right _ _ c)) far),
    )
    code_kept (Loop place p q k) i a s held l holds = (
      code_kept p i.0 a.0 nothing [] l (λ u c far. holds u (or_left _ _ c) far),
      code_kept q i.1 a.1 nothing [] _ (λ u c far. holds u (or_right _ _ (or_left _ _ c)) far),
      code_kept k i.2 a.2 nothing [] _ (λ u c far. holds u (or_right _ _ (or_right _ _ c)) far),
    )

    -- ---- loads

    -- copies of further variables into the set
    abbrev far_copy : Item → ℕ
    far_copy (Assign v (val.Same (Variable w))) = if nat_lt w n then 0 else bit (old f v)
    far_copy item = 0

    abbrev copies : Form → ℕ
    copies code = tally far_copy (λ t. 0) code

    abbrev new_loads : Form → ℕ
    new_loads code = tally (λ item. bit (is_load_into (new f) item)) (λ t. 0) code

    abbrev old_loads : Form → ℕ
    old_loads code = tally (λ item. bit (is_load_into (old f) item)) (λ t. 0) code

    abbrev counts : Option ℕ → ℕ
    counts None = 0
    counts (Some u) = bit (new f u)

    abbrev own_counts : ℕ → ℕ
    own_counts i = counts (h i)

    abbrev Fewer : Form → Type 0
    Fewer code = (s : KnownInStretch) (held : List Held) (l : ℕ) → new_loads (reused h s held l code) + copies (reused h s held l code) ≤ old_loads code + sum_from own_counts l (loads_in code)

    far_counts : (v u : ℕ) → n ≤ u → far_copy (copy v u) ≡ bit (old f v)
    far_counts v u far = rw (above_is u n far) refl

    if_copied : (x a c b o t r : ℕ) → x ≡ b → a + c ≤ o + r → (0 + a) + (x + c) ≤ (b + o) + (t + r)
    if_copied x a c b o t r e h = omega (arith, e, h)

    if_plain : (x a c b o t r : ℕ) → x ≡ b → a + c ≤ o + r → (x + a) + (0 + c) ≤ (b + o) + (t + r)
    if_plain x a c b o t r e h = omega (arith, e, h)

    if_split : (y x a c b o t r : ℕ) → x ≡ b → t ≡ y → a + c ≤ o + r → (y + (0 + a)) + (0 + (x + c)) ≤ (b + o) + (t + r)
    if_split y x a c b o t r e d h = omega (arith, e, d, h)

    load_fewer : (place : Place) (v : ℕ) (kind : LoadKind) (x : Operand) (k : Form) (o : ℕ) (r : ℕ) → v < n → (l i : ℕ) (given : Option Held) (holder : Option ℕ) → h i ≡ holder → (given ≡ None → i ≡ l)
        → new_loads k + copies k ≤ o + r → new_loads (turned place v kind x given holder k) + copies (turned place v kind x given holder k) ≤ (bit (old f v) + o) + (own_counts l + r)
    load_fewer place v kind x k o r small l i None None it first h' = if_plain _ _ _ _ _ _ _ (ap (λ (b : Bool). bit b) (same f v small)) h'
    load_fewer place v kind x k o r small l i (Some g) None it first h' = if_plain _ _ _ _ _ _ _ (ap (λ (b : Bool). bit b) (same f v small)) h'
    load_fewer place v kind x k o r small l i (Some g) (Some u) it first h' = if_copied _ _ _ _ _ _ _ (far_counts v u (mine i u it)) h'
    load_fewer place v kind x k o r small l i None (Some u) it first h' =
        if_split _ _ _ _ _ _ _ _ (far_counts v u (mine i u it)) (ap counts (subst (λ (z : ℕ). h z ≡ Some u) (first refl) it)) h'

    -- an assignment of the old form copies no further variable
    near_copy : (v : ℕ) (x : Value) → ValueIn n x → far_copy (Assign v x) ≡ 0
    near_copy v (val.Same (Variable w)) i = rw (below_is w n i) refl
    near_copy v (val.Same (Number k)) i = refl
    near_copy v (val.Extended kind x) i = refl
    near_copy v (val.Binary operator x y) i = refl
    near_copy v (val.Holds t) i = refl
    near_copy v (val.FrameAddress offset) i = refl

    if_near : (x a c o r : ℕ) → x ≡ 0 → a + c ≤ o + r → (0 + a) + (x + c) ≤ (0 + o) + r
    if_near x a c o r e h = omega (arith, e, h)

    skips : (a c o l m : ℕ) → a + c ≤ o + sum_from own_counts l m → (0 + a) + (0 + c) ≤ (0 + o) + sum_from own_counts l (0 + m)
    skips a c o l m h = rw (no_more m) (omega (arith, h))

    joins : (a a' a'' c c' c'' o o' o'' l m m' m'' : ℕ) → a + c ≤ o + sum_from own_counts l m → a' + c' ≤ o' + sum_from own_counts (l + m) m' → a'' + c'' ≤ o'' + sum_from own_counts (l + m + m') m''
        → (a + (a' + a'')) + (c + (c' + c'')) ≤ (o + (o' + o'')) + sum_from own_counts l (m + (m' + m''))
    joins a a' a'' c c' c'' o o' o'' l m m' m'' h h' h'' = rw (range_both own_counts l m (m' + m''), range_both own_counts (l + m) m' m'') (omega (arith, h, h', h''))

    code_fewer : (code : Form) → Each (ItemIn functions n) (TestIn n) code → Fewer code
    code_fewer Done i s held l = omega arith
    code_fewer (Do place (Assign v x) k) i s held l =
        let t = i.0 in rw (no_more (loads_in k)) (if_near _ _ _ _ _ (near_copy v x t.1) (code_fewer k i.1 _ held l))
    code_fewer (Do place (Load v kind x) k) i s held l =
        let t = i.0 in
        rw (range_one own_counts l (loads_in k))
        (load_fewer place v kind x _ (old_loads k) (sum_from own_counts (suc l) (loads_in k)) ((t.0).1) l _ (held_in held kind (symbol s x)) _ refl (own_number (held_in held kind (symbol s x)) l)
        (code_fewer k i.1 (known_behind s v (held_in held kind (symbol s x))) (held_behind s held l v kind x (held_in held kind (symbol s x))) (suc l)))
    code_fewer (Do place (Store width x y) k) i s held l = skips _ _ _ l (loads_in k) (code_fewer k i.1 s (still_held held (symbol s x) width) l)
    code_fewer (Do place (Expect check) k) i s held l = skips _ _ _ l (loads_in k) (code_fewer k i.1 s held l)
    code_fewer (Do place (Print spelling x) k) i s held l = skips _ _ _ l (loads_in k) (code_fewer k i.1 nothing [] l)
    code_fewer (Do place Break k) i s held l = skips _ _ _ l (loads_in k) (code_fewer k i.1 nothing [] l)
    code_fewer (Do place Continue k) i s held l = skips _ _ _ l (loads_in k) (code_fewer k i.1 nothing [] l)
    code_fewer (Do place (Call v g xs) k) i s held l = skips _ _ _ l (loads_in k) (code_fewer k i.1 nothing [] l)
    code_fewer (Do place (Return x) k) i s held l = skips _ _ _ l (loads_in k) (code_fewer k i.1 nothing [] l)
    code_fewer (Do place (Halt x) k) i s held l = skips _ _ _ l (loads_in k) (code_fewer k i.1 nothing [] l)
    code_fewer (If place t p q k) i s held l =
        skips _ _ _ l (loads_in p + (loads_in q + loads_in k))
        (joins _ _ _ _ _ _ _ _ _ l (loads_in p) (loads_in q) (loads_in k) (code_fewer p i.1 nothing [] l) (code_fewer q i.2 nothing [] (l + loads_in p)) (code_fewer k i.3 nothing [] (l + loads_in p + loads_in q)))
    code_fewer (Loop place p q k) i s held l =
        joins _ _ _ _ _ _ _ _ _ l (loads_in p) (loads_in q) (loads_in k) (code_fewer p i.0 nothing [] l) (code_fewer q i.1 nothing [] (l + loads_in p)) (code_fewer k i.2 nothing [] (l + loads_in p + loads_in q))

    -- ---- the copies of one variable

    own_copies : Option ℕ → Item → ℕ
    own_copies None item = 0
    own_copies (Some u) item = bit (is_copy (old f) u item)

    copies_of : Option ℕ → Form → ℕ
    copies_of o code = tally (own_copies o) (λ t. 0) code

    module _ (apart : (i j u : ℕ) → h i ≡ Some u → h j ≡ Some u → i ≡ j) (c : ℕ) where
      none_of : (v w : ℕ) → w < n → (o : Option ℕ) → ((u : ℕ) → o ≡ Some u → n ≤ u) → own_copies o (copy v w) ≡ 0
      unfolding own_copies
      none_of v w small None far = refl
      none_of v w small (Some u) far = by (nat_eq w u) refl where
        by : (b : Bool) → nat_eq w u ≡ b → bit (b && old f v) ≡ 0
        by true e = absurd (let k = far u refl in let q = eqb-true w u e in omega (arith, k, q, small))
        by false e = refl

      most_of : (v w : ℕ) (o : Option ℕ) → own_copies o (copy v w) ≤ bit (old f v)
      unfolding own_copies
      most_of v w None = omega arith
      most_of v w (Some u) = by (nat_eq w u) where
        by : (b : Bool) → bit (b && old f v) ≤ bit (old f v)
        by true = omega arith
        by false = omega arith

      some_of : (v w : ℕ) (o : Option ℕ) → 0 < own_copies o (copy v w) → o ≡ Some w
      unfolding own_copies
      some_of v w None l = absurd (omega (arith, l))
      some_of v w (Some u) l = by (nat_eq w u) refl l where
        by : (b : Bool) → nat_eq w u ≡ b → 0 < bit (b && old f v) → Some u ≡ Some w
        by true e l = ap (λ (x : ℕ). Some x) (sym (eqb-true w u e))
        by false e l = absurd (omega (arith, l))

      no_copies : (item : Item) → ((u : ℕ) → is_copy (old f) u item ≡ false) → sum_from (λ i. own_copies (h i) item) 0 c ≤ 0
      unfolding own_copies
      no_copies item none = let e = range_none (λ i. own_copies (h i) item) 0 c (λ i k. by (h i)) in omega (arith, e) where
        by : (o : Option ℕ) → own_copies o item ≡ 0
        by None = refl
        by (Some u) = ap (λ (b : Bool). bit b) (none u)

      item_copies : (item : Item) → sum_from (λ i. own_copies (h i) item) 0 c ≤ far_copy item
      item_copies (Assign v (val.Same (Variable w))) = by (nat_lt w n) refl where
        by : (b : Bool) → nat_lt w n ≡ b → sum_from (λ i. own_copies (h i) (copy v w)) 0 c ≤ (if b then 0 else bit (old f v))
        by true e =
            let z = range_none (λ i. own_copies (h i) (copy v w)) 0 c (λ i k. none_of v w (is_below w n e) (h i) (mine i)) in omega (arith, z)
        by false e =
            range_single (λ i. own_copies (h i) (copy v w)) (bit (old f v)) (λ i. most_of v w (h i))
            (λ i j a b. apart i j w (some_of v w (h i) a) (some_of v w (h j) b)) 0 c
      item_copies (Assign v (val.Same (Number k))) = no_copies (Assign v (val.Same (Number k))) (λ u. refl)
      item_copies (Assign v (val.Extended kind x)) = no_copies (Assign v (val.Extended kind x)) (λ u. refl)
      item_copies (Assign v (val.Binary operator x y)) = no_copies (Assign v (val.Binary operator x y)) (λ u. refl)
      item_copies (Assign v (val.Holds t)) = no_copies (Assign v (val.Holds t)) (λ u. refl)
      item_copies (Assign v (val.FrameAddress offset)) = no_copies (Assign v (val.FrameAddress offset)) (λ u. refl)
      item_copies (Load v kind x) = no_copies (Load v kind x) (λ u. refl)
      item_copies (Store width x y) = no_copies (Store width x y) (λ u. refl)
      item_copies (Print spelling x) = no_copies (Print spelling x) (λ u. refl)
      item_copies (Expect check) = no_copies (Expect check) (λ u. refl)
      item_copies Break = no_copies Break (λ u. refl)
      item_copies Continue = no_copies Continue (λ u. refl)
      item_copies (Call v g xs) = no_copies (Call v g xs) (λ u. refl)
      item_copies (Return x) = no_copies (Return x) (λ u. refl)
      item_copies (Halt x) = no_copies (Halt x) (λ u. refl)

      all_copies : (code : Form) → sum_from (λ i. copies_of (h i) code) 0 c ≤ copies code
      unfolding copies_of
      all_copies Done = range_zero c
      all_copies (Do place item k) = sum_two _ _ c _ _ (item_copies item) (all_copies k)
      all_copies (If place t p q k) = sum_two (λ i. 0) _ c _ _ (range_zero c) (sum_two _ _ c _ _ (all_copies p) (sum_two _ _ c _ _ (all_copies q) (all_copies k)))
      all_copies (Loop place p q k) = sum_two _ _ c _ _ (all_copies p) (sum_two _ _ c _ _ (all_copies q) (all_copies k))

      -- where the further variables of the new set are those that are copied into it
      module _ (code : Form) (is : (u : ℕ) → n ≤ u → new f u ≡ copied (old f) u code) where
        counts_within : (o : Option ℕ) → ((u : ℕ) → o ≡ Some u → n ≤ u) → counts o ≤ copies_of o code
        unfolding copies_of own_copies
        counts_within None far = omega arith
        counts_within (Some u) far = subst (λ (b : Bool). bit b ≤ tally (λ item. bit (is_copy (old f) u item)) (λ t. 0) code) (sym (is u (far u refl))) (copied_count (old f) u code)

        counts_few : sum_from own_counts 0 c ≤ copies code
        counts_few = let a = range_within own_counts (λ i. copies_of (h i) code) (λ i. counts_within (h i) (mine i)) 0 c in let b = all_copies code in omega (arith, a, b)

    -- ---- conditions

    abbrev SameTests : Form → Type 0
    SameTests code = (s : KnownInStretch) (held : List Held) (l : ℕ) → tests (new f) (reused h s held l code) ≡ tests (old f) code

    load_tests : (place : Place) (v : ℕ) (kind : LoadKind) (x : Operand) (k : Form) (m : ℕ) (given : Option Held) (holder : Option ℕ) → tests (new f) k ≡ m → tests (new f) (turned place v kind x given holder k) ≡ 0 + m
    unfolding tests
    load_tests place v kind x k m None None e = ap (λ (a : ℕ). 0 + a) e
    load_tests place v kind x k m (Some g) None e = ap (λ (a : ℕ). 0 + a) e
    load_tests place v kind x k m (Some g) (Some u) e = ap (λ (a : ℕ). 0 + a) e
    load_tests place v kind x k m None (Some u) e = omega (arith, e)

    same_tests : (code : Form) → Each (ItemIn functions n) (TestIn n) code → SameTests code
    unfolding tests
    same_tests Done i s held l = refl
    same_tests (Do place (Assign v x) k) i s held l = ap (λ (a : ℕ). 0 + a) (same_tests k i.1 _ held l)
    same_tests (Do place (Load v kind x) k) i s held l = load_tests place v kind x _ _ (held_in held kind (symbol s x)) _ (same_tests k i.1 _ _ (suc l))
    same_tests (Do place (Store width x y) k) i s held l = ap (λ (a : ℕ). 0 + a) (same_tests k i.1 s _ l)
    same_tests (Do place (Expect check) k) i s held l = ap (λ (a : ℕ). 0 + a) (same_tests k i.1 s held l)
    same_tests (Do place (Print spelling x) k) i s held l = ap (λ (a : ℕ). 0 + a) (same_tests k i.1 nothing [] l)
    same_tests (Do place Break k) i s held l = ap (λ (a : ℕ). 0 + a) (same_tests k i.1 nothing [] l)
    same_tests (Do place Continue k) i s held l = ap (λ (a : ℕ). 0 + a) (same_tests k i.1 nothing [] l)
    same_tests (Do place (Call v g xs) k) i s held l = ap (λ (a : ℕ). 0 + a) (same_tests k i.1 nothing [] l)
    same_tests (Do place (Return x) k) i s held l = ap (λ (a : ℕ). 0 + a) (same_tests k i.1 nothing [] l)
    same_tests (Do place (Halt x) k) i s held l = ap (λ (a : ℕ). 0 + a) (same_tests k i.1 nothing [] l)
    same_tests (If place t p q k) i s held l =
        rw (test_same t i.0, same_tests p i.1 nothing [] l, same_tests q i.2 nothing [] (l + loads_in p), same_tests k i.3 nothing [] (l + loads_in p + loads_in q)) refl
    same_tests (Loop place p q k) i s held l =
        rw (same_tests p i.0 nothing [] l, same_tests q i.1 nothing [] (l + loads_in p), same_tests k i.2 nothing [] (l + loads_in p + loads_in q)) refl

-- ---- smaller sets

pub bit_within : (b c : Bool) → (b ≡ true → c ≡ true) → bit b ≤ bit c
bit_within true c h = rw (h refl) (omega arith)
bit_within false c h = omega arith

module _ (c d : VariableSet) (inside : IsWithin c d) where
  has_within : (x : Operand) → has c x ≡ true → has d x ≡ true
  has_within (Variable v) h = inside v h
  has_within (Number k) h = refl

  pub test_within : (t : Test) → is_by_a c t ≡ true → is_by_a d t ≡ true
  test_within t h = let p = and_parts (has c t.left) (has c t.right) h in and_both _ _ (has_within t.left p.0) (has_within t.right p.1)

  pub load_within : (item : Item) → is_load_into c item ≡ true → is_load_into d item ≡ true
  load_within (Assign v x) h = h
  load_within (Load v kind x) h = inside v h
  load_within (Store width x y) h = h
  load_within (Print spelling x) h = h
  load_within (Expect check) h = h
  load_within Break h = h
  load_within Continue h = h
  load_within (Call v g xs) h = h
  load_within (Return x) h = h
  load_within (Halt x) h = h

pub tally_within : (a b : Item → ℕ) (c d : Test → ℕ) → ((item : Item) → a item ≤ b item) → ((t : Test) → c t ≤ d t) → (code : Form) → tally a c code ≤ tally b d code
tally_within a b c d h k Done = omega arith
tally_within a b c d h k (Do place item code) = let x = h item in let y = tally_within a b c d h k code in omega (arith, x, y)
tally_within a b c d h k (If place t p q code) =
    let x = k t in let y = tally_within a b c d h k p in let z = tally_within a b c d h k q in let w = tally_within a b c d h k code in omega (arith, x, y, z, w)
tally_within a b c d h k (Loop place p q code) =
    let y = tally_within a b c d h k p in let z = tally_within a b c d h k q in let w = tally_within a b c d h k code in omega (arith, y, z, w)

-- ---- whole programs

module _ (functions : List Function) (h : ℕ → Holders) (own : ℕ → ℕ) (p q : Program) (is : IsReused functions h own p q) (takes : TakesFewer functions own) (of of' : ℕ → Classes) (kept : AreAddressesClosed p (λ g. (of g).s)) (least' : AreLeast q of') where
  old_set : ℕ → VariableSet
  old_set f = let c = of f in c.s

  new_set : ℕ → VariableSet
  new_set f = leading (own f) (old_set f) (q.body f)

  set_same : (g v : ℕ) → v < own g → new_set g v ≡ old_set g v
  unfolding new_set
  set_same g v small = leading_below (own g) (old_set g) (q.body g) v small

  set_far : (f u : ℕ) → own f ≤ u → new_set f u ≡ copied (old_set f) u (q.body f)
  unfolding new_set
  set_far f u far = rw (above_is u (own f) far) refl

  closed : AreAddressesClosed q new_set
  unfolding old_set
  closed f =
      subst (λ (code : Form). Each (AddressesKept new_set (new_set f)) (λ t. Unit {0}) code) (sym (is.body f))
      (code_kept functions old_set new_set own is.some takes f set_same (h f) (is.own f) (p.body f) (is.names f) (kept f) nothing [] 0
      (λ u c far. set_far f u far ∙ subst (λ (code : Form). copied (old_set f) u code ≡ true) (sym (is.body f)) c))

  module _ (f : ℕ) where
    smaller : IsWithin (let c = of' f in c.s) (new_set f)
    smaller = least'.addresses new_set closed f

    total : ℕ
    total = loads_in (p.body f)

    sums : new_loads functions old_set new_set own is.some takes f set_same (h f) (is.own f) (q.body f) + copies functions old_set new_set own is.some takes f set_same (h f) (is.own f) (q.body f)
        ≤ old_loads functions old_set new_set own is.some takes f set_same (h f) (is.own f) (p.body f) + sum_from (own_counts functions old_set new_set own is.some takes f set_same (h f) (is.own f)) 0 total
    unfolding total
    sums =
        rw (is.body f)
        (code_fewer functions old_set new_set own is.some takes f set_same (h f) (is.own f) (p.body f) (is.names f) nothing [] 0)

    paid : sum_from (own_counts functions old_set new_set own is.some takes f set_same (h f) (is.own f)) 0 total ≤ copies functions old_set new_set own is.some takes f set_same (h f) (is.own f) (q.body f)
    paid = counts_few functions old_set new_set own is.some takes f set_same (h f) (is.own f) (is.apart f) total (q.body f) (set_far f)

    fewer_loads : own_loads (of' f) (q.body f) ≤ own_loads (of f) (p.body f)
    unfolding old_set
    fewer_loads =
        let a = tally_within _ (λ item. bit (is_load_into (new_set f) item)) _ _ (λ item. bit_within _ _ (load_within (let c = of' f in c.s) (new_set f) smaller item)) (λ t. (let z : 0 ≤ 0 = omega arith in z)) (q.body f) in
        let b = sums in
        let c = paid in
        omega (arith, a, b, c)

    fewer_conditions : conditions_a (of' f) (q.body f) ≤ conditions_a (of f) (p.body f)
    unfolding old_set tests
    fewer_conditions =
        let a = tally_within _ _ _ (λ t. bit (is_by_a (new_set f) t)) (λ item. (let z : 0 ≤ 0 = omega arith in z)) (λ t. bit_within _ _ (test_within (let c = of' f in c.s) (new_set f) smaller t)) (q.body f) in
        let b = same_tests functions old_set new_set own is.some takes f set_same (h f) (is.own f) (p.body f) (is.names f) nothing [] 0 in
        let c : tests (new_set f) (q.body f) ≡ tests (old_set f) (p.body f) = ap (λ (code : Form). tests (new_set f) code) (is.body f) ∙ b in
        omega (arith, a, c)

pub reuse_adds_nothing : ReuseAddsNothing
reuse_adds_nothing functions h own p q is takes of of' kept least' f =
    (fewer_loads functions h own p q is takes of of' kept least' f, fewer_conditions functions h own p q is takes of of' kept least' f)
