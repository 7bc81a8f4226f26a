-- Code that is well made where a set of variables is set: what it names is there, what it reads was set before, a break or a
-- continue stands in a loop, and a return where one may be.
use Rattle.std.proofs.Common.{◌≡◌, ℕ, ◌≤◌, Bool, true, false, not, ◌&&◌, ◌||◌, nat_eq, List, [], ◌∷◌, length, refl, arith}
use Rattle.std.proofs.lemmas.Bool.{or_right, or_left, and_from}
use Rattle.std.specs.List.{AllByRecursion}
use Rattle.dae_base.proofs.Laws.{same_number}
use Rattle.dae_ir.specs.Code.{Done, Do, If, Loop, Each}
use Rattle.dae_ir.specs.Form.{Form}
use Rattle.dae_ir.specs.Classes.{VariableSet, IsWithin, has_test}
use Rattle.dae_ir.specs.Rounds.{stays, is_jump}
use Rattle.dae_ir.specs.Scope.{IsIn, IsTarget, TestIn, ValueIn, CheckIn, ItemIn, is_return, never_returns}
use Rattle.dae_ir.specs.SetFirst.{form_flow, assured, IsSetFirst, ItemReads, after_item, with_set}
use Rattle.dae_ir.specs.declared.form.Function.{Function}
use Rattle.dae_ir.specs.declared.form.Item.{Item}
use Rattle.dae_ir.specs.declared.form.Item.TheVariants.{Assign, Load, Store, Print, Expect, Break, Continue, Call, Return, Halt}
use Rattle.dae_ir.specs.declared.form.Check.{Check}
use Rattle.dae_ir.specs.declared.form.Check.TheVariants.{Place, InBounds, Zero, Room, Frame, Abort}
use Rattle.dae_ir.specs.declared.form.Operand.{Operand}
use Rattle.dae_ir.specs.declared.form.Operand.TheVariants.{Variable, Number}
use Rattle.dae_ir.specs.declared.form.Test.{Test}
use Rattle.dae_ir.specs.declared.form.Value.{Value}
use Rattle.dae_ir.specs.declared.form.Value.TheVariants.{Same, Extended, Binary, Holds, FrameAddress}
use Rattle.dae_lower.specs.Lowering.{◌⨾◌}
use Rattle.dae_program.specs.SetFirst.{both}

-- ---- sets

pub set_here : (v : ℕ) (d : VariableSet) → with_set v d v ≡ true
set_here v d = or_left (nat_eq v v) (d v) (same_number v)

pub set_on : (v : ℕ) (d : VariableSet) → IsWithin d (with_set v d)
set_on v d u h = or_right (nat_eq u v) (d u) h

pub within_set : (v : ℕ) (c d : VariableSet) → IsWithin c d → IsWithin (with_set v c) (with_set v d)
within_set v c d h u i = by (nat_eq u v) i where
  by : (b : Bool) → (b || c u) ≡ true → (b || d u) ≡ true
  by true i = refl
  by false i = h u i

pub within_both : (c d e : VariableSet) → IsWithin c d → IsWithin c e → IsWithin c (both d e)
within_both c d e h i v g = and_from (d v) (e v) (h v g) (i v g)

pub after_grows : (d : VariableSet) (item : Item) → IsWithin d (after_item d item)
after_grows d (Assign v x) = set_on v d
after_grows d (Load v kind x) = set_on v d
after_grows d (Store width x y) = λ u h. h
after_grows d (Print spelling x) = λ u h. h
after_grows d (Expect check) = λ u h. h
after_grows d Break = λ u h. refl
after_grows d Continue = λ u h. refl
after_grows d (Call v f xs) = set_on v d
after_grows d (Return x) = λ u h. refl
after_grows d (Halt x) = λ u h. refl

pub assured_grows : (c : Form) (d : VariableSet) → IsWithin d (assured form_flow d c)
assured_grows Done d v h = h
assured_grows (Do place item k) d v h = assured_grows k (after_item d item) v (after_grows d item v h)
assured_grows (If place t p q k) d v h = assured_grows k (both (assured form_flow d p) (assured form_flow d q)) v (and_from (assured form_flow d p v) (assured form_flow d q v) (assured_grows p d v h) (assured_grows q d v h))
assured_grows (Loop place body step k) d v h = assured_grows k d v h

pub assured_then : (a b : Form) (d : VariableSet) → assured form_flow d (a ⨾ b) ≡ assured form_flow (assured form_flow d a) b
assured_then Done b d = refl
assured_then (Do place item k) b d = assured_then k b (after_item d item)
assured_then (If place t p q k) b d = assured_then k b (both (assured form_flow d p) (assured form_flow d q))
assured_then (Loop place body step k) b d = assured_then k b d

-- ---- code

-- whether an item may stand where a jump may or not, and a return may or not
abbrev pub may_stand : (jumps returns : Bool) → Item → Bool
may_stand jumps returns (Assign v x) = true
may_stand jumps returns (Load v kind x) = true
may_stand jumps returns (Store width x y) = true
may_stand jumps returns (Print spelling x) = true
may_stand jumps returns (Expect check) = true
may_stand jumps returns Break = jumps
may_stand jumps returns Continue = jumps
may_stand jumps returns (Call v f xs) = true
may_stand jumps returns (Return x) = returns
may_stand jumps returns (Halt x) = true

jump : (i r : Bool) (item : Item) → may_stand i r item ≡ true → (i || not (is_jump item)) ≡ true
jump i r (Assign v x) h = or_right i true refl
jump i r (Load v kind x) h = or_right i true refl
jump i r (Store width x y) h = or_right i true refl
jump i r (Print spelling x) h = or_right i true refl
jump i r (Expect check) h = or_right i true refl
jump i r Break h = or_left i false h
jump i r Continue h = or_left i false h
jump i r (Call v f xs) h = or_right i true refl
jump i r (Return x) h = or_right i true refl
jump i r (Halt x) h = or_right i true refl

no_return : (i : Bool) (item : Item) → may_stand i false item ≡ true → not (is_return item) ≡ true
no_return i (Assign v x) h = refl
no_return i (Load v kind x) h = refl
no_return i (Store width x y) h = refl
no_return i (Print spelling x) h = refl
no_return i (Expect check) h = refl
no_return i Break h = refl
no_return i Continue h = refl
no_return i (Call v f xs) h = refl
no_return i (Return x) h = cc
no_return i (Halt x) h = refl

module _ (functions : List Function) where
  abbrev pub IsGoodItem : (jumps returns : Bool) → ℕ → VariableSet → Item → Type 0
  IsGoodItem jumps returns n d item = (may_stand jumps returns item ≡ true) × ItemIn functions n item × ItemReads d item

  abbrev pub IsGood : (jumps returns : Bool) → ℕ → VariableSet → Form → Type 0
  IsGood jumps returns n d Done = Unit {0}
  IsGood jumps returns n d (Do place item k) = IsGoodItem jumps returns n d item × IsGood jumps returns n (after_item d item) k
  IsGood jumps returns n d (If place t p q k) =
      (TestIn n t × (has_test d t ≡ true)) × IsGood jumps returns n d p × IsGood jumps returns n d q
      × IsGood jumps returns n (both (assured form_flow d p) (assured form_flow d q)) k
  IsGood jumps returns n d (Loop place body step k) =
      IsGood true returns n d body × IsGood true returns n d step × IsGood jumps returns n d k

  pub good_then : (i r : Bool) (n : ℕ) (a b : Form) (d : VariableSet) → IsGood i r n d a → IsGood i r n (assured form_flow d a) b → IsGood i r n d (a ⨾ b)
  good_then i r n Done b d h g = g
  good_then i r n (Do place item k) b d h g = (h.0, good_then i r n k b (after_item d item) h.1 g)
  good_then i r n (If place t p q k) b d h g = (h.0, h.1, h.2, good_then i r n k b (both (assured form_flow d p) (assured form_flow d q)) h.3 g)
  good_then i r n (Loop place body step k) b d h g = (h.0, h.1, good_then i r n k b d h.2 g)

  -- among more variables
  pub operand_wider : (n q : ℕ) → n ≤ q → (x : Operand) → IsIn n x → IsIn q x
  operand_wider n q l (Variable v) h = omega (arith, l, h)
  operand_wider n q l (Number k) h = h

  test_wider : (n q : ℕ) → n ≤ q → (t : Test) → TestIn n t → TestIn q t
  test_wider n q l t h = (operand_wider n q l t.left h.0, operand_wider n q l t.right h.1)

  pub value_wider : (n q : ℕ) → n ≤ q → (x : Value) → ValueIn n x → ValueIn q x
  value_wider n q l (Same x) h = operand_wider n q l x h
  value_wider n q l (Extended kind x) h = operand_wider n q l x h
  value_wider n q l (Binary operator x y) h = (operand_wider n q l x h.0, operand_wider n q l y h.1)
  value_wider n q l (Holds t) h = test_wider n q l t h
  value_wider n q l (FrameAddress offset) h = h

  check_wider : (n q : ℕ) → n ≤ q → (c : Check) → CheckIn (length functions) n c → CheckIn (length functions) q c
  check_wider n q l (Place width x) h = operand_wider n q l x h
  check_wider n q l (InBounds x offset) h = (operand_wider n q l x h.0, h.1)
  check_wider n q l (Zero x) h = operand_wider n q l x h
  check_wider n q l (Room f) h = h
  check_wider n q l Frame h = tt
  check_wider n q l Abort h = tt

  all_wider : (n q : ℕ) → n ≤ q → (xs : List Operand) → AllByRecursion (IsIn n) xs → AllByRecursion (IsIn q) xs
  all_wider n q l [] h = tt
  all_wider n q l (x ∷ xs) h = (operand_wider n q l x h.0, all_wider n q l xs h.1)

  target_wider : (n q v : ℕ) → n ≤ q → IsTarget n v → IsTarget q v
  target_wider n q v l h = (h.0, omega (arith, l, h.1))

  item_wider : (n q : ℕ) → n ≤ q → (item : Item) → ItemIn functions n item → ItemIn functions q item
  item_wider n q l (Assign v x) h = (target_wider n q v l h.0, value_wider n q l x h.1)
  item_wider n q l (Load v kind x) h = (target_wider n q v l h.0, operand_wider n q l x h.1)
  item_wider n q l (Store width x y) h = (operand_wider n q l x h.0, operand_wider n q l y h.1)
  item_wider n q l (Print spelling x) h = operand_wider n q l x h
  item_wider n q l (Expect check) h = check_wider n q l check h
  item_wider n q l Break h = tt
  item_wider n q l Continue h = tt
  item_wider n q l (Call v f xs) h = (target_wider n q v l h.0, h.1, all_wider n q l xs h.2)
  item_wider n q l (Return x) h = operand_wider n q l x h
  item_wider n q l (Halt x) h = operand_wider n q l x h

  pub good_wider : (i r : Bool) (n q : ℕ) → n ≤ q → (c : Form) (d : VariableSet) → IsGood i r n d c → IsGood i r q d c
  good_wider i r n q l Done d h = tt
  good_wider i r n q l (Do place item k) d h = ((h.0.0, item_wider n q l item h.0.1, h.0.2), good_wider i r n q l k (after_item d item) h.1)
  good_wider i r n q l (If place t a b k) d h = ((test_wider n q l t h.0.0, h.0.1), good_wider i r n q l a d h.1, good_wider i r n q l b d h.2, good_wider i r n q l k (both (assured form_flow d a) (assured form_flow d b)) h.3)
  good_wider i r n q l (Loop place body step k) d h = (good_wider true r n q l body d h.0, good_wider true r n q l step d h.1, good_wider i r n q l k d h.2)

  -- ---- what good code is

  pub good_names : (i r : Bool) (n : ℕ) (c : Form) (d : VariableSet) → IsGood i r n d c → Each (ItemIn functions n) (TestIn n) c
  good_names i r n Done d h = tt
  good_names i r n (Do place item k) d h = (h.0.1, good_names i r n k (after_item d item) h.1)
  good_names i r n (If place t a b k) d h = (h.0.0, good_names i r n a d h.1, good_names i r n b d h.2, good_names i r n k (both (assured form_flow d a) (assured form_flow d b)) h.3)
  good_names i r n (Loop place body step k) d h = (good_names true r n body d h.0, good_names true r n step d h.1, good_names i r n k d h.2)

  pub good_first : (i r : Bool) (n : ℕ) (c : Form) (d : VariableSet) → IsGood i r n d c → IsSetFirst form_flow d c
  good_first i r n Done d h = tt
  good_first i r n (Do place item k) d h = (h.0.2, good_first i r n k (after_item d item) h.1)
  good_first i r n (If place t a b k) d h = (h.0.1, good_first i r n a d h.1, good_first i r n b d h.2, good_first i r n k (both (assured form_flow d a) (assured form_flow d b)) h.3)
  good_first i r n (Loop place body step k) d h = (good_first true r n body d h.0, good_first true r n step d h.1, good_first i r n k d h.2)

  -- no jump leads out of it, if none may stand
  pub good_stays : (i r : Bool) (n : ℕ) (c : Form) (d : VariableSet) → IsGood i r n d c → stays i c ≡ true
  good_stays i r n Done d h = refl
  good_stays i r n (Do place item k) d h = and_from (i || not (is_jump item)) (stays i k) (jump i r item h.0.0) (good_stays i r n k (after_item d item) h.1)
  good_stays i r n (If place t a b k) d h = and_from (stays i a) (stays i b && stays i k) (good_stays i r n a d h.1) (and_from (stays i b) (stays i k) (good_stays i r n b d h.2) (good_stays i r n k (both (assured form_flow d a) (assured form_flow d b)) h.3))
  good_stays i r n (Loop place body step k) d h = and_from (stays true body) (stays true step && stays i k) (good_stays true r n body d h.0) (and_from (stays true step) (stays i k) (good_stays true r n step d h.1) (good_stays i r n k d h.2))

  -- nor does it return, if no return may stand
  pub good_never_returns : (i : Bool) (n : ℕ) (c : Form) (d : VariableSet) → IsGood i false n d c → never_returns c ≡ true
  good_never_returns i n Done d h = refl
  good_never_returns i n (Do place item k) d h = and_from (not (is_return item)) (never_returns k) (no_return i item h.0.0) (good_never_returns i n k (after_item d item) h.1)
  good_never_returns i n (If place t a b k) d h = and_from (never_returns a) (never_returns b && never_returns k) (good_never_returns i n a d h.1) (and_from (never_returns b) (never_returns k) (good_never_returns i n b d h.2) (good_never_returns i n k (both (assured form_flow d a) (assured form_flow d b)) h.3))
  good_never_returns i n (Loop place body step k) d h = and_from (never_returns body) (never_returns step && never_returns k) (good_never_returns true n body d h.0) (and_from (never_returns step) (never_returns k) (good_never_returns true n step d h.1) (good_never_returns i n k d h.2))
