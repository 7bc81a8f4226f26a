-- A form whose loads are reused is as well made as before, and sets each variable before it reads it.
use Rattle.std.proofs.Common.{◌≡◌, ◌⊎◌, ℕ, suc, ◌+◌, ◌<◌, ◌≤◌, Bool, true, false, ◌&&◌, ◌||◌, nat_eq, if◌then◌else◌, List, [], ◌∷◌, length, Option, Some, None, inl, inr, refl, sym, ◌∙◌, subst, arith}
use Rattle.std.proofs.lemmas.Bool.{or_right}
use Rattle.std.specs.Prelude.{not}
use Rattle.std.specs.List.{AllByRecursion}
use Rattle.dae_base.specs.declared.Place.{Place}
use Rattle.dae_base.specs.declared.Width.{Width}
use Rattle.dae_base.specs.declared.LoadKind.{LoadKind}
use Rattle.dae_base.specs.Words.{width_of}
use Rattle.dae_meaning.specs.Variables.{VariableSet, with_set, all_set}
use Rattle.dae_ir.specs.Code.{Done, Do, If, Loop, Each, every}
use Rattle.dae_ir.specs.Form.{Form}
use Rattle.dae_ir.specs.Classes.{has}
use Rattle.dae_ir.specs.Rounds.{stays}
use Rattle.dae_ir.specs.SetFirst.{form_flow, IsSetFirst, assured}
use Rattle.dae_ir.specs.Scope.{IsIn, IsTarget, ValueIn, TestIn, ItemIn, closes, is_return, never_returns}
use Rattle.dae_ir.specs.declared.form.Operand.{Operand}
use Rattle.dae_ir.specs.declared.form.Operand.TheVariants.{Variable, Number}
use Rattle.dae_ir.specs.declared.form.Value.{Value}
use Rattle.dae_ir.specs.declared.form.Value.TheVariants as val
use Rattle.dae_ir.specs.declared.form.Test.{Test}
use Rattle.dae_ir.specs.declared.form.Check.TheVariants.{Place as Good, InBounds, Zero, Room, Frame, Abort}
use Rattle.dae_ir.specs.declared.form.Function.{Function}
use Rattle.dae_ir.specs.declared.form.Item.{Item}
use Rattle.dae_ir.specs.declared.form.Item.TheVariants.{Assign, Load, Store, Print, Expect, Break, Continue, Call, Return, Halt}
use Rattle.dae_ir.proofs.Laws.{and_more, set_more, has_more, test_more, value_more, check_more, operands_more}
use Rattle.dae_alias.specs.declared.addresses.SymAddr.{SymAddr}
use Rattle.dae_alias.specs.Addresses.{same_place, same_kind, are_apart}
use Rattle.dae_alias.specs.Stretches.{KnownInStretch, nothing, symbol, after}
use Rattle.dae_alias.specs.declared.held.Held.{Held}
use Rattle.dae_alias.specs.Reuse.{Holders, held_in, still_held, copy, loads_in, held_behind, number_of, turned, reused}
use Rattle.dae_alias.specs.Laws.{KeepsParameters, AreWithin, ReuseKeepsScope, ReuseKeepsOrder}
use Rattle.dae_alias.proofs.Facts.{if_some, eq_refl}

module _ (fs gs : List Function) (own n : ℕ) (same : KeepsParameters fs gs) (few : own ≤ n) where
  operand_in : (x : Operand) → IsIn own x → IsIn n x
  operand_in (Variable v) i = omega (arith, i, few)
  operand_in (Number k) i = i

  target_in : (v : ℕ) → IsTarget own v → IsTarget n v
  target_in v i = (i.0, omega (arith, i.1, few))

  test_in : (t : Test) → TestIn own t → TestIn n t
  test_in t i = (operand_in t.left i.0, operand_in t.right i.1)

  value_in : (x : Value) → ValueIn own x → ValueIn n x
  value_in (val.Same x) i = operand_in x i
  value_in (val.Extended kind x) i = operand_in x i
  value_in (val.Binary operator x y) i = (operand_in x i.0, operand_in y i.1)
  value_in (val.Holds t) i = test_in t i
  value_in (val.FrameAddress offset) i = i

  operands_in : (xs : List Operand) → AllByRecursion (IsIn own) xs → AllByRecursion (IsIn n) xs
  operands_in [] i = tt
  operands_in (x ∷ xs) i = (operand_in x i.0, operands_in xs i.1)

  item_in : (item : Item) → ItemIn fs own item → ItemIn gs n item
  item_in (Assign v x) i = (target_in v i.0, value_in x i.1)
  item_in (Load v kind x) i = (target_in v i.0, operand_in x i.1)
  item_in (Store width x y) i = (operand_in x i.0, operand_in y i.1)
  item_in (Print spelling x) i = operand_in x i
  item_in (Expect (Good width x)) i = operand_in x i
  item_in (Expect (InBounds x offset)) i = (operand_in x i.0, i.1)
  item_in (Expect (Zero x)) i = operand_in x i
  item_in (Expect (Room g)) i = subst (λ (m : ℕ). g < m) (sym same.0) i
  item_in (Expect Frame) i = tt
  item_in (Expect Abort) i = tt
  item_in Break i = tt
  item_in Continue i = tt
  item_in (Call v g xs) i = (target_in v i.0, same.1 g (length xs) i.1, operands_in xs i.2)
  item_in (Return x) i = operand_in x i
  item_in (Halt x) i = operand_in x i

  module _ (h : Holders) (some : 0 < own) (within' : AreWithin h own n) where
    abbrev IsMade : Form → Type 0
    IsMade code = Each (ItemIn gs n) (TestIn n) code

    load_in : (place : Place) (v : ℕ) (kind : LoadKind) (x : Operand) (k : Form) (i : ℕ) (o : Option Held) (holder : Option ℕ) → h i ≡ holder → IsTarget n v → IsIn n x → IsMade k → IsMade (turned place v kind x o holder k)
    load_in place v kind x k i None None it t a rest = ((t, a), rest)
    load_in place v kind x k i (Some g) None it t a rest = ((t, a), rest)
    load_in place v kind x k i None (Some u) it t a rest = let w = within' i u it in (((omega (arith, some, w.0), w.1), a), ((t, w.1), rest))
    load_in place v kind x k i (Some g) (Some u) it t a rest = let w = within' i u it in ((t, w.1), rest)

    code_in : (code : Form) → Each (ItemIn fs own) (TestIn own) code → (s : KnownInStretch) (held : List Held) (l : ℕ) → IsMade (reused h s held l code)
    code_in Done i s held l = tt
    code_in (Do place (Assign v x) k) i s held l = (item_in (Assign v x) i.0, code_in k i.1 _ held l)
    code_in (Do place (Load v kind x) k) i s held l = let t = item_in (Load v kind x) i.0 in load_in place v kind x _ _ (held_in held kind (symbol s x)) _ refl t.0 t.1 (code_in k i.1 _ _ (suc l))
    code_in (Do place (Store width x y) k) i s held l = (item_in (Store width x y) i.0, code_in k i.1 s _ l)
    code_in (Do place (Expect check) k) i s held l = (item_in (Expect check) i.0, code_in k i.1 s held l)
    code_in (Do place (Print spelling x) k) i s held l = (item_in (Print spelling x) i.0, code_in k i.1 nothing [] l)
    code_in (Do place Break k) i s held l = (tt, code_in k i.1 nothing [] l)
    code_in (Do place Continue k) i s held l = (tt, code_in k i.1 nothing [] l)
    code_in (Do place (Call v g xs) k) i s held l = (item_in (Call v g xs) i.0, code_in k i.1 nothing [] l)
    code_in (Do place (Return x) k) i s held l = (item_in (Return x) i.0, code_in k i.1 nothing [] l)
    code_in (Do place (Halt x) k) i s held l = (item_in (Halt x) i.0, code_in k i.1 nothing [] l)
    code_in (If place t p q k) i s held l = (test_in t i.0, code_in p i.1 nothing [] l, code_in q i.2 nothing [] _, code_in k i.3 nothing [] _)
    code_in (Loop place p q k) i s held l = (code_in p i.0 nothing [] l, code_in q i.1 nothing [] _, code_in k i.2 nothing [] _)

-- ---- what isn't about loads stays

module _ (h : Holders) where
  every_load : (f : Item → Bool) (g : Test → Bool) → ((v u : ℕ) → f (copy v u) ≡ true) → ((v : ℕ) (kind : LoadKind) (x : Operand) → f (Load v kind x) ≡ true)
      → (place : Place) (v : ℕ) (kind : LoadKind) (x : Operand) (k : Form) (o : Option Held) (holder : Option ℕ) → every f g (turned place v kind x o holder k) ≡ every f g k
  every_load f g c d place v kind x k None None = rw (d v kind x) refl
  every_load f g c d place v kind x k (Some e) None = rw (d v kind x) refl
  every_load f g c d place v kind x k None (Some u) = rw (d u kind x, c v u) refl
  every_load f g c d place v kind x k (Some e) (Some u) = rw (c v u) refl

  stays_load : (inside : Bool) (place : Place) (v : ℕ) (kind : LoadKind) (x : Operand) (k : Form) (o : Option Held) (holder : Option ℕ) → stays inside (turned place v kind x o holder k) ≡ stays inside k
  stays_load true place v kind x k None None = refl
  stays_load true place v kind x k (Some e) None = refl
  stays_load true place v kind x k None (Some u) = refl
  stays_load true place v kind x k (Some e) (Some u) = refl
  stays_load false place v kind x k None None = refl
  stays_load false place v kind x k (Some e) None = refl
  stays_load false place v kind x k None (Some u) = refl
  stays_load false place v kind x k (Some e) (Some u) = refl

  stays_one : (inside : Bool) (place : Place) (v : ℕ) (kind : LoadKind) (x : Operand) (k : Form) → stays inside (Do place (Load v kind x) k) ≡ stays inside k
  stays_one true place v kind x k = refl
  stays_one false place v kind x k = refl

  stays_same : (code : Form) (inside : Bool) (s : KnownInStretch) (held : List Held) (l : ℕ) → stays inside (reused h s held l code) ≡ stays inside code
  stays_same Done inside s held l = refl
  stays_same (Do place (Assign v x) k) inside s held l = rw (stays_same k inside (after s (Assign v x)) held l) refl
  stays_same (Do place (Load v kind x) k) inside s held l =
      stays_load inside place v kind x _ (held_in held kind (symbol s x)) _ ∙ stays_same k inside _ _ (suc l) ∙ sym (stays_one inside place v kind x k)
  stays_same (Do place (Store width x y) k) inside s held l = rw (stays_same k inside s (still_held held (symbol s x) width) l) refl
  stays_same (Do place (Expect check) k) inside s held l = rw (stays_same k inside s held l) refl
  stays_same (Do place (Print spelling x) k) inside s held l = rw (stays_same k inside nothing [] l) refl
  stays_same (Do place Break k) inside s held l = rw (stays_same k inside nothing [] l) refl
  stays_same (Do place Continue k) inside s held l = rw (stays_same k inside nothing [] l) refl
  stays_same (Do place (Call v g xs) k) inside s held l = rw (stays_same k inside nothing [] l) refl
  stays_same (Do place (Return x) k) inside s held l = rw (stays_same k inside nothing [] l) refl
  stays_same (Do place (Halt x) k) inside s held l = rw (stays_same k inside nothing [] l) refl
  stays_same (If place t p q k) inside s held l =
      rw (stays_same p inside nothing [] l, stays_same q inside nothing [] (l + loads_in p), stays_same k inside nothing [] (l + loads_in p + loads_in q)) refl
  stays_same (Loop place p q k) inside s held l =
      rw (stays_same p true nothing [] l, stays_same q true nothing [] (l + loads_in p), stays_same k inside nothing [] (l + loads_in p + loads_in q)) refl

  closes_load : (place : Place) (v : ℕ) (kind : LoadKind) (x : Operand) (k : Form) (o : Option Held) (holder : Option ℕ) → closes (turned place v kind x o holder k) ≡ closes k
  closes_load place v kind x k None None = refl
  closes_load place v kind x k (Some e) None = refl
  closes_load place v kind x k None (Some u) = refl
  closes_load place v kind x k (Some e) (Some u) = refl

  closes_same : (code : Form) (s : KnownInStretch) (held : List Held) (l : ℕ) → closes (reused h s held l code) ≡ closes code
  closes_same Done s held l = refl
  closes_same (Do place (Assign v x) k) s held l = closes_same k (after s (Assign v x)) held l
  closes_same (Do place (Load v kind x) k) s held l = closes_load place v kind x _ (held_in held kind (symbol s x)) _ ∙ closes_same k _ _ (suc l)
  closes_same (Do place (Store width x y) k) s held l = closes_same k s (still_held held (symbol s x) width) l
  closes_same (Do place (Expect check) k) s held l = closes_same k s held l
  closes_same (Do place (Print spelling x) k) s held l = closes_same k nothing [] l
  closes_same (Do place Break k) s held l = closes_same k nothing [] l
  closes_same (Do place Continue k) s held l = closes_same k nothing [] l
  closes_same (Do place (Call v g xs) k) s held l = closes_same k nothing [] l
  closes_same (Do place (Return x) k) s held l = refl
  closes_same (Do place (Halt x) k) s held l = refl
  closes_same (If place t p q k) s held l = closes_same k nothing [] (l + loads_in p + loads_in q)
  closes_same (Loop place p q k) s held l = closes_same k nothing [] (l + loads_in p + loads_in q)

  never_same : (code : Form) (s : KnownInStretch) (held : List Held) (l : ℕ) → never_returns (reused h s held l code) ≡ never_returns code
  never_same Done s held l = refl
  never_same (Do place (Assign v x) k) s held l = never_same k (after s (Assign v x)) held l
  never_same (Do place (Load v kind x) k) s held l =
      every_load (λ item. not (is_return item)) (λ t. true) (λ v u. refl) (λ v kind x. refl) place v kind x _ (held_in held kind (symbol s x)) _ ∙ never_same k _ _ (suc l)
  never_same (Do place (Store width x y) k) s held l = never_same k s (still_held held (symbol s x) width) l
  never_same (Do place (Expect check) k) s held l = never_same k s held l
  never_same (Do place (Print spelling x) k) s held l = never_same k nothing [] l
  never_same (Do place Break k) s held l = never_same k nothing [] l
  never_same (Do place Continue k) s held l = never_same k nothing [] l
  never_same (Do place (Call v g xs) k) s held l = never_same k nothing [] l
  never_same (Do place (Return x) k) s held l = refl
  never_same (Do place (Halt x) k) s held l = never_same k nothing [] l
  never_same (If place t p q k) s held l =
      rw (never_same p nothing [] l, never_same q nothing [] (l + loads_in p), never_same k nothing [] (l + loads_in p + loads_in q)) refl
  never_same (Loop place p q k) s held l =
      rw (never_same p nothing [] l, never_same q nothing [] (l + loads_in p), never_same k nothing [] (l + loads_in p + loads_in q)) refl

pub reuse_keeps_scope : ReuseKeepsScope
reuse_keeps_scope fs gs h own n same some few within' code names =
    (code_in fs gs own n same few h some within' code names nothing [] 0, stays_same h code false nothing [] 0, closes_same h code nothing [] 0, never_same h code nothing [] 0)

-- ---- variables are set before they are read

abbrev Sub : VariableSet → VariableSet → Type 0
Sub d e = (v : ℕ) → d v ≡ true → e v ≡ true

set_grows : (v : ℕ) (d : VariableSet) → Sub d (with_set v d)
set_grows v d u k = or_right (nat_eq u v) (d u) k

module _ (h : Holders) where
  -- the variables of what is held are set
  abbrev AllSet : VariableSet → List Held → Type 0
  AllSet d [] = Unit {0}
  AllSet d (x ∷ xs) = ((u : ℕ) → h x.number ≡ Some u → d u ≡ true) × AllSet d xs

  all_set_more : (d e : VariableSet) → Sub d e → (held : List Held) → AllSet d held → AllSet e held
  all_set_more d e sub [] a = tt
  all_set_more d e sub (x ∷ xs) a = (λ u is. sub u (a.0 u is), all_set_more d e sub xs a.1)

  still_set : (d : VariableSet) (y : SymAddr) (width : Width) (held : List Held) → AllSet d held → AllSet d (still_held held y width)
  still_set d y width [] a = tt
  still_set d y width (x ∷ xs) a = by (are_apart x.at (width_of x.kind) y width) (still_set d y width xs a.1) where
    by : (c : Bool) → AllSet d (still_held xs y width) → AllSet d (if c then x ∷ still_held xs y width else still_held xs y width)
    by true more = (a.0, more)
    by false more = more

  found_set : (d : VariableSet) (held : List Held) (kind : LoadKind) (at : SymAddr) (g : Held) → held_in held kind at ≡ Some g → AllSet d held → (u : ℕ) → h g.number ≡ Some u → d u ≡ true
  found_set d [] kind at g is a = cc
  found_set d (x ∷ xs) kind at g is a = by (λ is. found_set d xs kind at g is a.1) (if_some (same_kind x.kind kind && same_place x.at at) x (held_in xs kind at) g is) where
    by : (held_in xs kind at ≡ Some g → (u : ℕ) → h g.number ≡ Some u → d u ≡ true)
        → (((same_kind x.kind kind && same_place x.at at) ≡ true) × (x ≡ g)) ⊎ (((same_kind x.kind kind && same_place x.at at) ≡ false) × (held_in xs kind at ≡ Some g)) → (u : ℕ) → h g.number ≡ Some u → d u ≡ true
    by more (inl e) = subst (λ (z : Held). (u : ℕ) → h z.number ≡ Some u → d u ≡ true) e.1 a.0
    by more (inr e) = more e.1

  -- ---- what is set behind code

  abbrev Sets : Form → Type 0
  Sets code = (s : KnownInStretch) (held : List Held) (l : ℕ) (d e : VariableSet) → Sub d e → Sub (assured form_flow d code) (assured form_flow e (reused h s held l code))

  load_sets : (place : Place) (v : ℕ) (kind : LoadKind) (x : Operand) (k k' : Form) (o : Option Held) (holder : Option ℕ) (d e : VariableSet) → Sub d e
      → ((f : VariableSet) → Sub (with_set v d) f → Sub (assured form_flow (with_set v d) k) (assured form_flow f k')) → Sub (assured form_flow (with_set v d) k) (assured form_flow e (turned place v kind x o holder k'))
  load_sets place v kind x k k' None None d e sub rest = rest (with_set v e) (set_more v d e sub)
  load_sets place v kind x k k' (Some g) None d e sub rest = rest (with_set v e) (set_more v d e sub)
  load_sets place v kind x k k' None (Some u) d e sub rest = rest (with_set v (with_set u e)) (set_more v d (with_set u e) (λ w is. set_grows u e w (sub w is)))
  load_sets place v kind x k k' (Some g) (Some u) d e sub rest = rest (with_set v e) (set_more v d e sub)

  code_sets : (code : Form) → Sets code
  code_sets Done s held l d e sub = sub
  code_sets (Do place (Assign v x) k) s held l d e sub = code_sets k _ held l (with_set v d) (with_set v e) (set_more v d e sub)
  code_sets (Do place (Load v kind x) k) s held l d e sub = load_sets place v kind x k _ (held_in held kind (symbol s x)) _ d e sub (λ f more. code_sets k _ _ (suc l) (with_set v d) f more)
  code_sets (Do place (Store width x y) k) s held l d e sub = code_sets k s _ l d e sub
  code_sets (Do place (Expect check) k) s held l d e sub = code_sets k s held l d e sub
  code_sets (Do place (Print spelling x) k) s held l d e sub = code_sets k nothing [] l d e sub
  code_sets (Do place Break k) s held l d e sub = code_sets k nothing [] l all_set all_set (λ v is. is)
  code_sets (Do place Continue k) s held l d e sub = code_sets k nothing [] l all_set all_set (λ v is. is)
  code_sets (Do place (Call v g xs) k) s held l d e sub = code_sets k nothing [] l (with_set v d) (with_set v e) (set_more v d e sub)
  code_sets (Do place (Return x) k) s held l d e sub = code_sets k nothing [] l all_set all_set (λ v is. is)
  code_sets (Do place (Halt x) k) s held l d e sub = code_sets k nothing [] l all_set all_set (λ v is. is)
  code_sets (If place t p q k) s held l d e sub =
      code_sets k nothing [] _ _ _ (λ v is. and_more _ _ _ _ (code_sets p nothing [] l d e sub v) (code_sets q nothing [] (l + loads_in p) d e sub v) is)
  code_sets (Loop place p q k) s held l d e sub = code_sets k nothing [] _ d e sub

  -- ---- and read

  abbrev Firsts : Form → Type 0
  Firsts code = (s : KnownInStretch) (held : List Held) (l : ℕ) (d e : VariableSet) → Sub d e → AllSet e held → IsSetFirst form_flow d code → IsSetFirst form_flow e (reused h s held l code)

  load_first : (place : Place) (v : ℕ) (kind : LoadKind) (x : Operand) (k' : Form) (K : KnownInStretch) (held : List Held) (l : ℕ) (o : Option Held) (holder : Option ℕ) (d e : VariableSet) → Sub d e → AllSet e held
      → held_in held kind (symbol K x) ≡ o → h (number_of o l) ≡ holder → has e x ≡ true
      → ((f : VariableSet) → Sub (with_set v d) f → AllSet f (held_behind K held l v kind x o) → IsSetFirst form_flow f k') → IsSetFirst form_flow e (turned place v kind x o holder k')
  load_first place v kind x k' K held l None None d e sub a is it reads rest =
      (reads, rest (with_set v e) (set_more v d e sub) (λ u mine. absurd (let c : None ≡ Some u = sym it ∙ mine in cc), all_set_more e (with_set v e) (set_grows v e) held a))
  load_first place v kind x k' K held l (Some g) None d e sub a is it reads rest =
      (reads, rest (with_set v e) (set_more v d e sub) (all_set_more e (with_set v e) (set_grows v e) held a))
  load_first place v kind x k' K held l None (Some u) d e sub a is it reads rest = (
    reads,
    (
      or_here (nat_eq u u) (e u) (eq_refl u),
      rest (with_set v (with_set u e)) (set_more v d (with_set u e) (λ w is. set_grows u e w (sub w is)))
          (λ w mine. set_grows v (with_set u e) w (same w (sym it ∙ mine)), all_set_more e (with_set v (with_set u e)) (λ w is. set_grows v (with_set u e) w (set_grows u e w is)) held a),
    ),
  ) where
    or_here : (b c : Bool) → b ≡ true → (b || c) ≡ true
    or_here true c p = refl
    or_here false c p = cc

    same : (w : ℕ) → Some u ≡ Some w → with_set u e w ≡ true
    same w p = grind (arith, p)
  load_first place v kind x k' K held l (Some g) (Some u) d e sub a is it reads rest =
      (found_set e held kind (symbol K x) g is a u it, rest (with_set v e) (set_more v d e sub) (all_set_more e (with_set v e) (set_grows v e) held a))

  code_first : (code : Form) → Firsts code
  code_first Done s held l d e sub a f = tt
  code_first (Do place (Assign v x) k) s held l d e sub a f =
      (value_more d e sub x f.0, code_first k _ held l (with_set v d) (with_set v e) (set_more v d e sub) (all_set_more e (with_set v e) (set_grows v e) held a) f.1)
  code_first (Do place (Load v kind x) k) s held l d e sub a f =
      load_first place v kind x _ s held l (held_in held kind (symbol s x)) (h (number_of (held_in held kind (symbol s x)) l)) d e sub a refl refl (has_more d e sub x f.0)
      (λ g more b. code_first k _ _ (suc l) (with_set v d) g more b f.1)
  code_first (Do place (Store width x y) k) s held l d e sub a f =
      (let r = f.0 in (has_more d e sub x r.0, has_more d e sub y r.1), code_first k s _ l d e sub (still_set e (symbol s x) width held a) f.1)
  code_first (Do place (Expect check) k) s held l d e sub a f = (check_more d e sub check f.0, code_first k s held l d e sub a f.1)
  code_first (Do place (Print spelling x) k) s held l d e sub a f = (has_more d e sub x f.0, code_first k nothing [] l d e sub tt f.1)
  code_first (Do place Break k) s held l d e sub a f = (tt, code_first k nothing [] l all_set all_set (λ v is. is) tt f.1)
  code_first (Do place Continue k) s held l d e sub a f = (tt, code_first k nothing [] l all_set all_set (λ v is. is) tt f.1)
  code_first (Do place (Call v g xs) k) s held l d e sub a f = (operands_more d e sub xs f.0, code_first k nothing [] l (with_set v d) (with_set v e) (set_more v d e sub) tt f.1)
  code_first (Do place (Return x) k) s held l d e sub a f = (has_more d e sub x f.0, code_first k nothing [] l all_set all_set (λ v is. is) tt f.1)
  code_first (Do place (Halt x) k) s held l d e sub a f = (has_more d e sub x f.0, code_first k nothing [] l all_set all_set (λ v is. is) tt f.1)
  code_first (If place t p q k) s held l d e sub a f = (
    test_more d e sub t f.0,
    code_first p nothing [] l d e sub tt f.1,
    code_first q nothing [] _ d e sub tt f.2,
    code_first k nothing [] _ _ _ (λ v is. and_more _ _ _ _ (code_sets p nothing [] l d e sub v) (code_sets q nothing [] (l + loads_in p) d e sub v) is) tt f.3,
  )
  code_first (Loop place p q k) s held l d e sub a f =
      (code_first p nothing [] l d e sub tt f.0, code_first q nothing [] _ d e sub tt f.1, code_first k nothing [] _ d e sub tt f.2)

pub reuse_keeps_order : ReuseKeepsOrder
reuse_keeps_order h d code f = code_first h code nothing [] 0 d d (λ v is. is) tt f
