-- Pieces of code that are made well, one after the other.
use Rattle.std.proofs.Common.{◌≡◌, ℕ, ◌+◌, ◌<◌, ◌≤◌, ◌^◌, Bool, true, false, ◌&&◌, if◌then◌else◌, List, [], ◌∷◌, refl, sym, subst, arith}
use Rattle.std.proofs.lemmas.Bool.{and_parts, and_from}
use Rattle.std.specs.List.{AllByRecursion}
use Rattle.dae_base.specs.declared.Place.{Place}
use Rattle.dae_base.specs.declared.LoadKind.{LoadKind}
use Rattle.dae_base.specs.declared.LoadKind.TheVariants.{I8, U8, I16, U16, I32}
use Rattle.dae_ir.specs.Code.{Done, If}
use Rattle.dae_ir.specs.Form.{Form}
use Rattle.dae_ir.specs.Classes.{VariableSet, IsWithin, has, has_test, has_value}
use Rattle.dae_ir.specs.Scope.{IsIn, IsTarget, TestIn, ValueIn}
use Rattle.dae_ir.specs.SetFirst.{form_flow, assured, AllRead, after_item, with_set}
use Rattle.dae_ir.specs.declared.form.Function.{Function}
use Rattle.dae_ir.specs.declared.form.Item.{Item}
use Rattle.dae_ir.specs.declared.form.Item.TheVariants.{Assign, Expect}
use Rattle.dae_ir.specs.declared.form.Check.TheVariants.{Zero}
use Rattle.dae_ir.specs.declared.form.Operand.{Operand}
use Rattle.dae_ir.specs.declared.form.Operand.TheVariants.{Variable, Number}
use Rattle.dae_ir.specs.declared.form.Test.{Test}
use Rattle.dae_ir.specs.declared.form.Value.{Value}
use Rattle.dae_ir.specs.declared.form.Value.TheVariants.{Same, Extended, Binary}
use Rattle.dae_meaning.specs.declared.Operator.{Operator}
use Rattle.dae_meaning.specs.declared.Comparison.{Comparison}
use Rattle.dae_meaning.specs.declared.Comparison.TheVariants.{NotEqual}
use Rattle.dae_lower.specs.Lowering.{Made, ◌≫◌, nothing, emit, skip, one, set, variable, fetched, held, put_in, operated, narrowed, checks, may_be_zero, Assignee, Local, Placed, Condition, test_of, related, isnt_zero, branches, gives, Ways, by_value}
use Rattle.dae_program.specs.Expressions.{divides}
use Rattle.dae_program.specs.SetFirst.{both}
use Rattle.dae_lower_formed.proofs.Good.{set_here, set_on, assured_grows, assured_then, within_set, IsGood, IsGoodItem, good_then, good_wider, operand_wider, value_wider}

-- ---- what is given, where variables are below n and those of d are set

abbrev pub Fits : Type 0 → Type 1
Fits Y = ℕ → VariableSet → Y → Type 0

abbrev pub OperandFits : Fits Operand
OperandFits n d x = IsIn n x × (has d x ≡ true)

abbrev pub SpotFits : Fits Assignee
SpotFits n d (Local v) = IsTarget n v
SpotFits n d (Placed checked x) = OperandFits n d x

abbrev pub TestFits : Fits Test
TestFits n d t = TestIn n t × (has_test d t ≡ true)

abbrev pub ConditionFits : Fits Condition
ConditionFits n d c = TestFits n d c.test

abbrev pub AllFit : Fits (List Operand)
AllFit n d [] = Unit {0}
AllFit n d (x ∷ xs) = OperandFits n d x × AllFit n d xs

abbrev pub ValueFits : Fits Value
ValueFits n d x = ValueIn n x × (has_value d x ≡ true)

abbrev pub Anything : Fits (Unit {0})
Anything n d x = Unit {0}

-- later on it fits still
pub operand_still : (n q : ℕ) (d e : VariableSet) → n ≤ q → IsWithin d e → (x : Operand) → OperandFits n d x → OperandFits q e x
operand_still n q d e l w (Variable v) h = (omega (arith, l, h.0), w v h.1)
operand_still n q d e l w (Number k) h = (h.0, refl)

pub spot_still : (n q : ℕ) (d e : VariableSet) → n ≤ q → IsWithin d e → (x : Assignee) → SpotFits n d x → SpotFits q e x
spot_still n q d e l w (Local v) h = (h.0, omega (arith, l, h.1))
spot_still n q d e l w (Placed checked x) h = operand_still n q d e l w x h

pub all_still : (n q : ℕ) (d e : VariableSet) → n ≤ q → IsWithin d e → (xs : List Operand) → AllFit n d xs → AllFit q e xs
all_still n q d e l w [] h = tt
all_still n q d e l w (x ∷ xs) h = (operand_still n q d e l w x h.0, all_still n q d e l w xs h.1)

pub all_in : (n : ℕ) (d : VariableSet) (xs : List Operand) → AllFit n d xs → AllByRecursion (IsIn n) xs
all_in n d [] h = tt
all_in n d (x ∷ xs) h = (h.0.0, all_in n d xs h.1)

pub all_read : (n : ℕ) (d : VariableSet) (xs : List Operand) → AllFit n d xs → AllRead d xs
all_read n d [] h = tt
all_read n d (x ∷ xs) h = (h.0.1, all_read n d xs h.1)

pub test_fits : (n : ℕ) (d : VariableSet) (c : Comparison) (x y : Operand) → OperandFits n d x → OperandFits n d y → TestFits n d (test_of c x y)
test_fits n d c x y h g = ((h.0, g.0), and_from (has d x) (has d y) h.1 g.1)

pub related_fits : (n : ℕ) (d : VariableSet) (c : Comparison) (turned : Bool) (x y : Operand) → OperandFits n d x → OperandFits n d y → TestFits n d (related c turned x y)
related_fits n d c true x y h g = test_fits n d c y x g h
related_fits n d c false x y h g = test_fits n d c x y h g

pub number_fits : (n : ℕ) (d : VariableSet) (k : ℕ) → k < 2 ^ 32 → OperandFits n d (Number k)
number_fits n d k h = (h, refl)

-- a variable that has just been set
pub new_fits : (n : ℕ) (d : VariableSet) → OperandFits (n + 1) (with_set n d) (Variable n)
new_fits n d = (omega arith, set_here n d)

-- the old value of a target, which is set if it is a variable
abbrev pub IsOld : ℕ → VariableSet → Assignee → Type 0
IsOld m d (Local v) = (v < m) × (d v ≡ true)
IsOld m d (Placed checked x) = Unit {0}

-- what a target that gets a value sets
abbrev pub with_spot : Assignee → VariableSet → VariableSet
with_spot (Local v) d = with_set v d
with_spot (Placed checked x) d = d

behind : (n : ℕ) (d : VariableSet) (b : Bool) (p : Place) (operator : Operator) (x y : Operand) → assured form_flow d (checks b p (Expect (Zero y)) (one p (Assign n (Binary operator x y)))) ≡ with_set n d
behind n d true p operator x y = refl
behind n d false p operator x y = refl

if_sets : (d c e : VariableSet) (turned : Bool) (p : Place) (t : Test) (a b : Form) → IsWithin c (assured form_flow d a) → IsWithin e (assured form_flow d b) → IsWithin (both c e) (assured form_flow d (if turned then If p t b a Done else If p t a b Done))
if_sets d c e true p t a b h g = λ v z. let q = and_parts (c v) (e v) z in and_from (assured form_flow d b v) (assured form_flow d a v) (g v q.1) (h v q.0)
if_sets d c e false p t a b h g = λ v z. let q = and_parts (c v) (e v) z in and_from (assured form_flow d a v) (assured form_flow d b v) (h v q.0) (g v q.1)

module _ (functions : List Function) where
  -- Of the code that is made from variable n on, where the variables of d are set: it is good, what it sets holds the
  -- variables of c, and what it gives fits.
  pub record Makes {Y : Type 0} (jumps returns : Bool) (Is : Fits Y) (n : ℕ) (d c : VariableSet) (made : Made Y) : Type 0 where
    pub grows : n ≤ made.next
    pub good : IsGood functions jumps returns made.next d made.code
    pub sets : IsWithin c (assured form_flow d made.code)
    pub given : Is made.next (assured form_flow d made.code) made.given

  tested : (i r : Bool) (n m : ℕ) (d : VariableSet) (b : Bool) (p : Place) (operator : Operator) (x y : Operand) → 0 < m → m ≤ n → OperandFits n d x → OperandFits n d y →
      IsGood functions i r (n + 1) d (checks b p (Expect (Zero y)) (one p (Assign n (Binary operator x y))))
  tested i r n m d true p operator x y some l h g = ((refl, operand_wider functions n (n + 1) (omega arith) y g.0, g.1), ((refl, ((omega (arith, some, l), omega arith), (operand_wider functions n (n + 1) (omega arith) x h.0, operand_wider functions n (n + 1) (omega arith) y g.0)), and_from (has d x) (has d y) h.1 g.1), tt))
  tested i r n m d false p operator x y some l h g = ((refl, ((omega (arith, some, l), omega arith), (operand_wider functions n (n + 1) (omega arith) x h.0, operand_wider functions n (n + 1) (omega arith) y g.0)), and_from (has d x) (has d y) h.1 g.1), tt)

  if_good : (i r : Bool) (n : ℕ) (d : VariableSet) (turned : Bool) (p : Place) (t : Test) (a b : Form) → TestFits n d t → IsGood functions i r n d a → IsGood functions i r n d b → IsGood functions i r n d (if turned then If p t b a Done else If p t a b Done)
  if_good i r n d true p t a b h g k = (h, k, g, tt)
  if_good i r n d false p t a b h g k = (h, g, k, tt)

  module _ {i r : Bool} where
    -- one after the other
    pub chain : {X Y : Type 0} {Is : Fits X} {Are : Fits Y} {a : Made X} {n m : ℕ} {d b c : VariableSet} (f : X → ℕ → Made Y) → m ≤ n → Makes i r Is n d b a →
        ((q : ℕ) (e : VariableSet) (y : X) → m ≤ q → n ≤ q → IsWithin d e → IsWithin b e → Is q e y → Makes i r Are q e c (f y q)) → Makes i r Are n d c (a ≫ f)
    chain {X} {Y} {Is} {Are} {a} {n} {m} {d} {b} {c} f l h next = record {
      grows = omega (arith, h.grows, second.grows);
      good = good_then functions i r (f a.given a.next).next a.code (f a.given a.next).code d (good_wider functions i r a.next (f a.given a.next).next second.grows a.code d h.good) second.good;
      sets = subst (λ (s : VariableSet). IsWithin c s) (sym (assured_then a.code (f a.given a.next).code d)) second.sets;
      given = subst (λ (s : VariableSet). Are (f a.given a.next).next s (f a.given a.next).given) (sym (assured_then a.code (f a.given a.next).code d)) second.given;
    } where
      second : Makes i r Are a.next (assured form_flow d a.code) c (f a.given a.next)
      second = next a.next (assured form_flow d a.code) a.given (omega (arith, l, h.grows)) h.grows (assured_grows a.code d) h.sets h.given

    -- fewer are known to be set
    pub weaker : {Y : Type 0} {Is : Fits Y} {made : Made Y} {n : ℕ} {d c : VariableSet} (e : VariableSet) → IsWithin e c → Makes i r Is n d c made → Makes i r Is n d e made
    weaker e w h = record { grows = h.grows; good = h.good; sets = λ v g. h.sets v (w v g); given = h.given }

    -- from an earlier variable on
    pub sooner : {Y : Type 0} {Is : Fits Y} {made : Made Y} {n : ℕ} {d c : VariableSet} (m : ℕ) → m ≤ n → Makes i r Is n d c made → Makes i r Is m d c made
    sooner m l h = record { grows = omega (arith, l, h.grows); good = h.good; sets = h.sets; given = h.given }

    -- ---- leaves

    pub nothing_makes : {Y : Type 0} {Is : Fits Y} {n : ℕ} {d c : VariableSet} (y : Y) → IsWithin c d → Is n d y → Makes i r Is n d c (nothing y n)
    nothing_makes y w h = record { grows = omega arith; good = tt; sets = w; given = h }

    pub set_makes : {n m : ℕ} {d c : VariableSet} (p : Place) (x : Value) → 0 < m → m ≤ n → IsWithin c d → ValueFits n d x → Makes i r OperandFits n d c (set p x n)
    set_makes {n} {m} {d} {c} p x some l w h = record {
      grows = omega arith;
      good = ((refl, ((omega (arith, some, l), omega arith), value_wider functions n (n + 1) (omega arith) x h.0), h.1), tt);
      sets = λ v g. set_on n d v (w v g);
      given = new_fits n d;
    }

    -- one item
    pub item_makes : {n : ℕ} {d c : VariableSet} (p : Place) (item : Item) → IsWithin c (after_item d item) → IsGoodItem functions i r n d item → Makes i r Anything n d c (emit (one p item) n)
    item_makes p item w h = record { grows = omega arith; good = (h, tt); sets = w; given = tt }

    pub variable_makes : {n m : ℕ} {d c : VariableSet} (copied : Bool) (p : Place) (v : ℕ) → 0 < m → m ≤ n → IsWithin c d → v < m → d v ≡ true → Makes i r OperandFits n d c (variable copied p v n)
    variable_makes true p v some l w low h = set_makes p (Same (Variable v)) some l w (omega (arith, low, l), h)
    variable_makes false p v some l w low h = nothing_makes (Variable v) w (omega (arith, low, l), h)

    pub fetched_makes : {n m : ℕ} {d c : VariableSet} (p : Place) (kind : LoadKind) (checked : Bool) (x : Operand) → 0 < m → m ≤ n → IsWithin c d → OperandFits n d x → Makes i r OperandFits n d c (fetched p kind checked x n)
    fetched_makes {n} {m} {d} {c} p kind true x some l w h = record {
      grows = omega arith;
      good = ((refl, operand_wider functions n (n + 1) (omega arith) x h.0, h.1), ((refl, ((omega (arith, some, l), omega arith), operand_wider functions n (n + 1) (omega arith) x h.0), h.1), tt));
      sets = λ v g. set_on n d v (w v g);
      given = new_fits n d;
    }
    fetched_makes {n} {m} {d} {c} p kind false x some l w h = record {
      grows = omega arith;
      good = ((refl, ((omega (arith, some, l), omega arith), operand_wider functions n (n + 1) (omega arith) x h.0), h.1), tt);
      sets = λ v g. set_on n d v (w v g);
      given = new_fits n d;
    }

    pub held_makes : {n m : ℕ} {d c : VariableSet} (p : Place) (kind : LoadKind) (copied : VariableSet) (o : Assignee) → 0 < m → m ≤ n → IsWithin c d → SpotFits n d o → IsOld m d o → Makes i r OperandFits n d c (held p kind copied o n)
    held_makes p kind copied (Local v) some l w h g = variable_makes (copied v) p v some l w g.0 g.1
    held_makes p kind copied (Placed checked x) some l w h g = fetched_makes p kind checked x some l w h

    pub put_makes : {n : ℕ} {d : VariableSet} (p : Place) (kind : LoadKind) (o : Assignee) (y : Operand) → SpotFits n d o → OperandFits n d y → Makes i r OperandFits n d (with_spot o d) (put_in p kind o y n)
    put_makes {n} {d} p kind (Local v) y h g = record {
      grows = omega arith;
      good = ((refl, (h, g.0), g.1), tt);
      sets = λ u z. z;
      given = operand_still n n d (with_set v d) (omega arith) (set_on v d) y g;
    }
    put_makes {n} {d} p kind (Placed true x) y h g = record {
      grows = omega arith;
      good = ((refl, h.0, h.1), ((refl, (h.0, g.0), (h.1, g.1)), tt));
      sets = λ u z. z;
      given = g;
    }
    put_makes {n} {d} p kind (Placed false x) y h g = record {
      grows = omega arith;
      good = ((refl, (h.0, g.0), (h.1, g.1)), tt);
      sets = λ u z. z;
      given = g;
    }

    pub operated_makes : {n m : ℕ} {d c : VariableSet} (p : Place) (operator : Operator) (x y : Operand) → 0 < m → m ≤ n → IsWithin c d → OperandFits n d x → OperandFits n d y → Makes i r OperandFits n d c (operated p operator x y n)
    operated_makes {n} {m} {d} {c} p operator x y some l w h g = record {
      grows = omega arith;
      good = tested i r n m d (divides operator && may_be_zero y) p operator x y some l h g;
      sets = subst (λ (s : VariableSet). IsWithin c s) (sym (behind n d (divides operator && may_be_zero y) p operator x y)) (λ v z. set_on n d v (w v z));
      given = subst (λ (s : VariableSet). OperandFits (n + 1) s (Variable n)) (sym (behind n d (divides operator && may_be_zero y) p operator x y)) (new_fits n d);
    }

    pub narrowed_makes : {n m : ℕ} {d c : VariableSet} (p : Place) (kind : LoadKind) (x : Operand) → 0 < m → m ≤ n → IsWithin c d → OperandFits n d x → Makes i r OperandFits n d c (narrowed p kind x n)
    narrowed_makes p I32 x some l w h = nothing_makes x w h
    narrowed_makes p I8 x some l w h = set_makes p (Extended I8 x) some l w h
    narrowed_makes p U8 x some l w h = set_makes p (Extended U8 x) some l w h
    narrowed_makes p I16 x some l w h = set_makes p (Extended I16 x) some l w h
    narrowed_makes p U16 x some l w h = set_makes p (Extended U16 x) some l w h

    -- ---- branches

    pub gives_makes : {n m k : ℕ} {d c : VariableSet} (p : Place) (x : Operand) → 0 < m → m ≤ n → n < k → IsWithin c d → OperandFits k d x → Makes i r Anything k d (with_set n c) (gives p n x k)
    gives_makes {n} {m} {k} {d} {c} p x some l low w h = record {
      grows = omega arith;
      good = ((refl, ((omega (arith, some, l), low), h.0), h.1), tt);
      sets = λ v z. within_set n c d w v z;
      given = tt;
    }

    -- a test with two branches
    pub branches_make : {made : Made Condition} {n m : ℕ} {d b c e : VariableSet} (p : Place) (f g : ℕ → Made (Unit {0})) → m ≤ n → Makes i r ConditionFits n d b made →
        ((q : ℕ) (s : VariableSet) → m ≤ q → n ≤ q → IsWithin d s → IsWithin b s → Makes i r Anything q s c (f q)) →
        ((q : ℕ) (s : VariableSet) → m ≤ q → n ≤ q → IsWithin d s → IsWithin b s → Makes i r Anything q s e (g q)) →
        Makes i r Anything n d (both c e) (branches p made f g)
    branches_make {made} {n} {m} {d} {b} {c} {e} p f g l h hf hg = record {
      grows = omega (arith, h.grows, yes.grows, no.grows);
      good = good_then functions i r last made.code _ d (good_wider functions i r made.next last (omega (arith, yes.grows, no.grows)) made.code d h.good)
          (if_good i r last (assured form_flow d made.code) made.given.turned p made.given.test (f made.next).code (g (f made.next).next).code (wider_test h.given) (good_wider functions i r (f made.next).next last no.grows (f made.next).code _ yes.good) no.good);
      sets = subst (λ (s : VariableSet). IsWithin (both c e) s) (sym (assured_then made.code _ d)) (if_sets (assured form_flow d made.code) c e made.given.turned p made.given.test (f made.next).code (g (f made.next).next).code yes.sets no.sets);
      given = tt;
    } where
      yes : Makes i r Anything made.next (assured form_flow d made.code) c (f made.next)
      yes = hf made.next (assured form_flow d made.code) (omega (arith, l, h.grows)) h.grows (assured_grows made.code d) h.sets

      no : Makes i r Anything (f made.next).next (assured form_flow d made.code) e (g (f made.next).next)
      no = hg (f made.next).next (assured form_flow d made.code) (omega (arith, l, h.grows, yes.grows)) (omega (arith, h.grows, yes.grows)) (assured_grows made.code d) h.sets

      last : ℕ
      last = (g (f made.next).next).next

      wider_test : TestFits made.next (assured form_flow d made.code) made.given.test → TestFits last (assured form_flow d made.code) made.given.test
      wider_test k = ((operand_wider functions made.next last (omega (arith, yes.grows, no.grows)) made.given.test.left k.0.0, operand_wider functions made.next last (omega (arith, yes.grows, no.grows)) made.given.test.right k.0.1), k.1)

  -- ---- an expression in its three readings

  -- where the variables of d are set before it, those of c are behind it
  pub record WaysMake (m : ℕ) (d c : VariableSet) (ways : Ways) : Type 0 where
    pub value : (i r : Bool) (later : VariableSet) (n : ℕ) (s : VariableSet) → m ≤ n → IsWithin d s → Makes i r OperandFits n s c (ways.value later n)
    pub effect : (i r : Bool) (later : VariableSet) (n : ℕ) (s : VariableSet) → m ≤ n → IsWithin d s → Makes i r Anything n s c (ways.effect later n)
    pub condition : (i r : Bool) (later : VariableSet) (n : ℕ) (s : VariableSet) → m ≤ n → IsWithin d s → Makes i r ConditionFits n s c (ways.condition later n)

  abbrev pub AsValue : ℕ → VariableSet → VariableSet → (VariableSet → ℕ → Made Operand) → Type 0
  AsValue m d c f = (i r : Bool) (later : VariableSet) (n : ℕ) (s : VariableSet) → m ≤ n → IsWithin d s → Makes i r OperandFits n s c (f later n)

  pub isnt_zero_makes : {i r : Bool} {n : ℕ} {d c : VariableSet} (x : Operand) → IsWithin c d → OperandFits n d x → Makes i r ConditionFits n d c (nothing (isnt_zero x) n)
  isnt_zero_makes {i} {r} {n} {d} {c} x w h = nothing_makes (isnt_zero x) w (test_fits n d NotEqual x (Number 0) h (number_fits n d 0 (omega arith)))

  pub value_effect : {m : ℕ} {d c : VariableSet} (f : VariableSet → ℕ → Made Operand) → AsValue m d c f → (i r : Bool) (later : VariableSet) (n : ℕ) (s : VariableSet) → m ≤ n → IsWithin d s → Makes i r Anything n s c (f later n ≫ λ x. skip)
  value_effect f h i r later n s l w = chain (λ x. skip) l (h i r later n s l w) (λ q e y o g t u x. nothing_makes tt u tt)

  pub value_condition : {m : ℕ} {d c : VariableSet} (f : VariableSet → ℕ → Made Operand) → AsValue m d c f → (i r : Bool) (later : VariableSet) (n : ℕ) (s : VariableSet) → m ≤ n → IsWithin d s → Makes i r ConditionFits n s c (f later n ≫ λ x. nothing (isnt_zero x))
  value_condition f h i r later n s l w = chain (λ x. nothing (isnt_zero x)) l (h i r later n s l w) (λ q e y o g t u x. isnt_zero_makes y u x)

  pub by_value_makes : {m : ℕ} {d c : VariableSet} (f : VariableSet → ℕ → Made Operand) → AsValue m d c f → WaysMake m d c (by_value f)
  by_value_makes f h = record { value = h; effect = value_effect f h; condition = value_condition f h }
