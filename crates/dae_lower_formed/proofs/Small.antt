-- How much code is made for each expression.
use Rattle.std.proofs.Common.{◌≡◌, ℕ, suc, ◌+◌, ◌*◌, ◌≤◌, Bool, true, false, ◌&&◌, if◌then◌else◌, List, [], ◌∷◌, length, refl, ap, arith}
use Rattle.dae_base.specs.declared.Place.{Place}
use Rattle.dae_base.specs.declared.LoadKind.{LoadKind}
use Rattle.dae_base.specs.declared.LoadKind.TheVariants.{I8, U8, I16, U16, I32}
use Rattle.dae_base.specs.Words.{plus}
use Rattle.dae_ir.specs.Code.{Done, Do, If, Loop}
use Rattle.dae_ir.specs.Form.{Form}
use Rattle.dae_ir.specs.Classes.{VariableSet}
use Rattle.dae_ir.specs.declared.form.Item.TheVariants.{Assign, Print, Expect, Call, Halt}
use Rattle.dae_ir.specs.declared.form.Check.TheVariants.{Zero, Room, Abort}
use Rattle.dae_ir.specs.declared.form.Operand.{Operand}
use Rattle.dae_ir.specs.declared.form.Operand.TheVariants.{Variable, Number}
use Rattle.dae_ir.specs.declared.form.Test.{Test}
use Rattle.dae_ir.specs.declared.form.Value.{Value}
use Rattle.dae_ir.specs.declared.form.Value.TheVariants.{Same, Extended, Binary, Holds, FrameAddress}
use Rattle.dae_meaning.specs.declared.Spelling.TheVariants.{Byte}
use Rattle.dae_meaning.specs.declared.Operator.{Operator}
use Rattle.dae_meaning.specs.declared.Operator.TheVariants.{Add}
use Rattle.dae_meaning.specs.declared.Comparison.TheVariants.{Equal}
use Rattle.dae_program.specs.Expressions.{divides}
use Rattle.dae_program.specs.Lawful.{count}
use Rattle.dae_program.specs.Trees as tree
use Rattle.dae_program.specs.Trees.{Expression, Target, Expressions}
use Rattle.dae_lower.specs.Lowering.{Made, ◌⨾◌, ◌≫◌, nothing, only, emit, skip, one, set, or, assigned, assigned_all, assigned_target, variable, fetched, held, put_in, operated, narrowed, checks, may_be_zero, Assignee, Local, Placed, Condition, test_of, related, isnt_zero, turn, branches, gives, Ways, by_value, chosen, advanced, stepped, Links, ways, spot, operands}
use Rattle.dae_lower_formed.specs.Sizes.{most_made, most_made_for, most_made_of_all}
use Rattle.dae_lower_formed.specs.Code.{loaded_burden, loads_in, with_check, most_code, most_code_for, most_code_of_all}

pub size_then : (a b : Form) → loaded_burden (a ⨾ b) ≡ loaded_burden a + loaded_burden b
size_then Done b = omega arith
size_then (Do place item k) b = let h = size_then k b in omega (arith, h)
size_then (If place t p q k) b = let h = size_then k b in omega (arith, h)
size_then (Loop place body step k) b = let h = size_then k b in omega (arith, h)

pub loads_then : (a b : Form) → loads_in (a ⨾ b) ≡ loads_in a + loads_in b
loads_then Done b = omega arith
loads_then (Do place item k) b = let h = loads_then k b in omega (arith, h)
loads_then (If place t p q k) b = let h = loads_then k b in omega (arith, h)
loads_then (Loop place body step k) b = let h = loads_then k b in omega (arith, h)

-- Code from variable n on makes at most w variables, one for each load, and is at most c large.
pub record Small {Y : Type 0} (Is : Y → Type 0) (n w c : ℕ) (made : Made Y) : Type 0 where
  pub few : made.next ≤ n + w
  pub own : n + loads_in made.code ≤ made.next
  pub small : loaded_burden made.code ≤ c
  pub given : Is made.given

abbrev pub Any : {Y : Type 0} → Y → Type 0
Any y = Unit {0}

pub chain : {X Y : Type 0} {Is : X → Type 0} {Are : Y → Type 0} {a : Made X} {n w c v d : ℕ} (f : X → ℕ → Made Y) → Small Is n w c a → ((q : ℕ) (y : X) → Is y → Small Are q v d (f y q)) → Small Are n (w + v) (c + d) (a ≫ f)
chain {X} {Y} {Is} {Are} {a} {n} {w} {c} {v} {d} f h next = record {
  few = omega (arith, h.few, second.few);
  own = let s = loads_then a.code (f a.given a.next).code in omega (arith, s, h.own, second.own);
  small = let s = size_then a.code (f a.given a.next).code in omega (arith, s, h.small, second.small);
  given = second.given;
} where
  second : Small Are a.next v d (f a.given a.next)
  second = next a.next a.given h.given

pub weaker : {Y : Type 0} {Is : Y → Type 0} {n w c v d : ℕ} {made : Made Y} → w ≤ v → c ≤ d → Small Is n w c made → Small Is n v d made
weaker {Y} {Is} {n} {w} {c} {v} {d} l g h = record { few = omega (arith, h.few, l); own = h.own; small = omega (arith, h.small, g); given = h.given }

-- from an earlier variable on
pub sooner : {Y : Type 0} {Is : Y → Type 0} {w c : ℕ} {made : Made Y} (n : ℕ) → Small Is (n + 1) w c made → Small Is n (1 + w) c made
sooner n h = record { few = omega (arith, h.few); own = omega (arith, h.own); small = h.small; given = h.given }

pub nothing_small : {Y : Type 0} {Is : Y → Type 0} {n : ℕ} (y : Y) → Is y → Small Is n 0 0 (nothing y n)
nothing_small y h = record { few = omega arith; own = omega arith; small = omega arith; given = h }

set_small : {n : ℕ} (p : Place) (x : Value) → Small Any n 1 2 (set p x n)
set_small p x = record { few = omega arith; own = omega arith; small = omega arith; given = tt }

variable_small : {n : ℕ} (b : Bool) (p : Place) (v : ℕ) → Small Any n 1 2 (variable b p v n)
variable_small true p v = set_small p (Same (Variable v))
variable_small false p v = weaker (omega arith) (omega arith) (nothing_small (Variable v) tt)

fetched_small : {n : ℕ} (p : Place) (kind : LoadKind) (checked : Bool) (x : Operand) → Small Any n 1 (3 + with_check checked) (fetched p kind checked x n)
fetched_small p kind true x = record { few = omega arith; own = omega arith; small = omega arith; given = tt }
fetched_small p kind false x = record { few = omega arith; own = omega arith; small = omega arith; given = tt }

held_small : {n : ℕ} (p : Place) (kind : LoadKind) (copied : VariableSet) (o : Assignee) → Small Any n 1 5 (held p kind copied o n)
held_small p kind copied (Local v) = weaker (omega arith) (omega arith) (variable_small (copied v) p v)
held_small p kind copied (Placed true x) = fetched_small p kind true x
held_small p kind copied (Placed false x) = weaker (omega arith) (omega arith) (fetched_small p kind false x)

put_small : {n : ℕ} (p : Place) (kind : LoadKind) (o : Assignee) (y : Operand) → Small Any n 0 4 (put_in p kind o y n)
put_small p kind (Local v) y = record { few = omega arith; own = omega arith; small = omega arith; given = tt }
put_small p kind (Placed true x) y = record { few = omega arith; own = omega arith; small = omega arith; given = tt }
put_small p kind (Placed false x) y = record { few = omega arith; own = omega arith; small = omega arith; given = tt }

tested_small : (b : Bool) (p : Place) (n : ℕ) (v : Value) (y : Operand) → loaded_burden (checks b p (Expect (Zero y)) (one p (Assign n v))) ≤ 4
tested_small true p n v y = omega arith
tested_small false p n v y = omega arith

tested_loads : (b : Bool) (p : Place) (n : ℕ) (v : Value) (y : Operand) → n + loads_in (checks b p (Expect (Zero y)) (one p (Assign n v))) ≤ n + 1
tested_loads true p n v y = omega arith
tested_loads false p n v y = omega arith

operated_small : {n : ℕ} (p : Place) (operator : Operator) (x y : Operand) → Small Any n 1 4 (operated p operator x y n)
operated_small {n} p operator x y = record { few = omega arith; own = tested_loads (divides operator && may_be_zero y) p n (Binary operator x y) y; small = tested_small (divides operator && may_be_zero y) p n (Binary operator x y) y; given = tt }

narrowed_small : {n : ℕ} (p : Place) (kind : LoadKind) (x : Operand) → Small Any n 1 2 (narrowed p kind x n)
narrowed_small p I32 x = weaker (omega arith) (omega arith) (nothing_small x tt)
narrowed_small p I8 x = set_small p (Extended I8 x)
narrowed_small p U8 x = set_small p (Extended U8 x)
narrowed_small p I16 x = set_small p (Extended I16 x)
narrowed_small p U16 x = set_small p (Extended U16 x)

gives_small : {n : ℕ} (p : Place) (v : ℕ) (x : Operand) → Small Any n 0 2 (gives p v x n)
gives_small p v x = record { few = omega arith; own = omega arith; small = omega arith; given = tt }

if_size : (turned : Bool) (p : Place) (t : Test) (a b : Form) → loaded_burden (if turned then If p t b a Done else If p t a b Done) ≡ 2 + (loaded_burden a + loaded_burden b)
if_size true p t a b = omega arith
if_size false p t a b = omega arith

if_loads : (turned : Bool) (p : Place) (t : Test) (a b : Form) → loads_in (if turned then If p t b a Done else If p t a b Done) ≡ loads_in a + loads_in b
if_loads true p t a b = omega arith
if_loads false p t a b = omega arith

pub branches_small : {made : Made Condition} {n w c v d u e : ℕ} (p : Place) (f g : ℕ → Made (Unit {0})) → Small Any n w c made → ((q : ℕ) → Small Any q v d (f q)) → ((q : ℕ) → Small Any q u e (g q)) → Small Any n (w + (v + u)) (c + (2 + (d + e))) (branches p made f g)
branches_small {made} {n} {w} {c} {v} {d} {u} {e} p f g h hf hg = record {
  few = omega (arith, h.few, yes.few, no.few);
  own = let s = loads_then made.code (if made.given.turned then If p made.given.test (g (f made.next).next).code (f made.next).code Done else If p made.given.test (f made.next).code (g (f made.next).next).code Done) in
      let i = if_loads made.given.turned p made.given.test (f made.next).code (g (f made.next).next).code in omega (arith, s, i, h.own, yes.own, no.own);
  small = let s = size_then made.code (if made.given.turned then If p made.given.test (g (f made.next).next).code (f made.next).code Done else If p made.given.test (f made.next).code (g (f made.next).next).code Done) in
      let i = if_size made.given.turned p made.given.test (f made.next).code (g (f made.next).next).code in omega (arith, s, i, h.small, yes.small, no.small);
  given = tt;
} where
  yes : Small Any made.next v d (f made.next)
  yes = hf made.next

  no : Small Any (f made.next).next u e (g (f made.next).next)
  no = hg (f made.next).next

-- ---- expressions

pub record WaysSmall (w c : ℕ) (ways : Ways) : Type 0 where
  pub value : (later : VariableSet) (n : ℕ) → Small Any n w c (ways.value later n)
  pub effect : (later : VariableSet) (n : ℕ) → Small Any n w c (ways.effect later n)
  pub condition : (later : VariableSet) (n : ℕ) → Small Any n w c (ways.condition later n)

abbrev ValueSmall : ℕ → ℕ → (VariableSet → ℕ → Made Operand) → Type 0
ValueSmall w c f = (later : VariableSet) (n : ℕ) → Small Any n w c (f later n)

value_condition : {w c : ℕ} (f : VariableSet → ℕ → Made Operand) → ValueSmall w c f → (later : VariableSet) (n : ℕ) → Small Any n w c (f later n ≫ λ x. nothing (isnt_zero x))
value_condition f h later n = weaker (omega arith) (omega arith) (chain (λ x. nothing (isnt_zero x)) (h later n) (λ q y t. nothing_small (isnt_zero y) tt))

value_effect : {w c : ℕ} (f : VariableSet → ℕ → Made Operand) → ValueSmall w c f → (later : VariableSet) (n : ℕ) → Small Any n w c (f later n ≫ λ x. skip)
value_effect f h later n = weaker (omega arith) (omega arith) (chain (λ x. skip) (h later n) (λ q y t. nothing_small tt tt))

by_value_small : {w c : ℕ} (f : VariableSet → ℕ → Made Operand) → ValueSmall w c f → WaysSmall w c (by_value f)
by_value_small f h = record { value = h; effect = value_effect f h; condition = value_condition f h }

advanced_small : {n : ℕ} (p : Place) (kind : LoadKind) (change : ℕ) (o : Assignee) (x : Operand) → Small Any n 2 8 (advanced p kind change o x n)
advanced_small p kind change o x =
    weaker (omega arith) (omega arith) (chain (λ z n. narrowed p kind z n ≫ put_in p kind o) (set_small p (Binary Add x (Number change)))
    (λ q y t. chain (put_in p kind o) (narrowed_small p kind y) (λ q y t. put_small p kind o y)))

stepped_small : {w c n : ℕ} (p : Place) (kind : LoadKind) (f : VariableSet → ℕ → Made Assignee) (change : ℕ) (new : Bool) (copied later : VariableSet) → Small Any n w c (f later n) → Small Any n (3 + w) (13 + c) (stepped p kind f change new copied later n)
stepped_small p kind f change new copied later h =
    weaker (omega arith) (omega arith) (chain (λ o n. held p kind copied o n ≫ λ x n. advanced p kind change o x n ≫ λ y. nothing (if new then y else x)) h
    (λ q o t. chain (λ x n. advanced p kind change o x n ≫ λ y. nothing (if new then y else x)) (held_small p kind copied o)
    (λ q x t. chain (λ y. nothing (if new then y else x)) (advanced_small p kind change o x) (λ q y t. nothing_small (if new then y else x) tt))))

-- a variable that both branches set
chosen_small : {w c : ℕ} {n : ℕ} (made : Made (Unit {0})) → Small Any (n + 1) w c made → Small Any n (1 + w) c (made ≫ λ x. nothing (Variable n))
chosen_small {w} {c} {n} made h = sooner n (weaker (omega arith) (omega arith) (chain (λ x. nothing (Variable n)) h (λ q y t. nothing_small (Variable n) tt)))

-- the code of arguments, without what the call has for them
abbrev pub inner_code : Expressions → ℕ
inner_code tree.no_expressions = 0
inner_code (tree.expression_then a xs) = most_code a + inner_code xs

pub inner_and_count : (xs : Expressions) → inner_code xs + 2 * count xs ≡ most_code_of_all xs
inner_and_count tree.no_expressions = refl
inner_and_count (tree.expression_then a xs) = let h = inner_and_count xs in omega (arith, h)

called : (n k : ℕ) (p : Place) (f : ℕ) (ys : List Operand) → length ys ≡ k → Small Any n 1 (7 + 2 * k) (only (Do p (Expect (Room f)) (one p (Call n f ys))) (Variable n) (n + 1))
called n k p f ys h = record { few = omega arith; own = omega arith; small = omega (arith, h); given = tt }

printed : (n : ℕ) (p : Place) (y : Operand) → Small Any n 0 2 (only (one p (Print Byte y)) y n)
printed n p y = record { few = omega arith; own = omega arith; small = omega arith; given = tt }

print_small : (n : ℕ) (p : Place) (y : Operand) → Small Any n 0 2 (emit (one p (Print Byte y)) n)
print_small n p y = record { few = omega arith; own = omega arith; small = omega arith; given = tt }

halt_small : (n : ℕ) (p : Place) (y : Operand) → Small Any n 0 2 (only (one p (Halt y)) (Number 0) n)
halt_small n p y = record { few = omega arith; own = omega arith; small = omega arith; given = tt }

module _ (l : Links) where
  mutual
    pub expression_small : (e : Expression) → WaysSmall (most_made e) (most_code e) (ways l e)
    expression_small (tree.Number k) = by_value_small (λ later. nothing (Number k)) (λ later n. weaker (omega arith) (omega arith) (nothing_small (Number k) tt))
    expression_small (tree.Address object offset) = by_value_small (λ later. nothing (Number (plus (l.address object) offset))) (λ later n. weaker (omega arith) (omega arith) (nothing_small (Number (plus (l.address object) offset)) tt))
    expression_small (tree.Frame p offset) = by_value_small (λ later. set p (FrameAddress offset)) (λ later n. weaker (omega arith) (omega arith) (set_small p (FrameAddress offset)))
    expression_small (tree.Variable p v) =
        let h : ValueSmall 1 2 (λ later n. variable (later v) p v n) = λ later n. weaker (omega arith) (omega arith) (variable_small (later v) p v) in
        record {
          value = h;
          effect = λ later n. weaker (omega arith) (omega arith) (nothing_small tt tt);
          condition = value_condition (λ later n. variable (later v) p v n) h;
        }
    expression_small (tree.Read p kind checked a) =
        by_value_small (ways l (tree.Read p kind checked a)).value (λ later n. weaker (omega arith) (omega arith) (chain (fetched p kind checked) ((expression_small a).value later n) (λ q y t. fetched_small p kind checked y)))
    expression_small (tree.Convert p kind a) =
        let h : ValueSmall (1 + most_made a) (2 + most_code a) (λ later n. (ways l a).value later n ≫ narrowed p kind) = λ later n. weaker (omega arith) (omega arith) (chain (narrowed p kind) ((expression_small a).value later n) (λ q y t. narrowed_small p kind y)) in
        record {
          value = h;
          effect = λ later n. weaker (omega arith) (omega arith) ((expression_small a).effect later n);
          condition = value_condition (λ later n. (ways l a).value later n ≫ narrowed p kind) h;
        }
    expression_small (tree.Not p a) = record {
      value = λ later n. weaker (omega arith) (omega arith) (chain (λ x. set p (Holds (test_of Equal x (Number 0)))) ((expression_small a).value later n) (λ q y t. set_small p (Holds (test_of Equal y (Number 0)))));
      effect = λ later n. weaker (omega arith) (omega arith) ((expression_small a).effect later n);
      condition = λ later n. weaker (omega arith) (omega arith) (chain (λ c. nothing (turn c)) ((expression_small a).condition later n) (λ q y t. nothing_small (turn y) tt));
    }
    expression_small (tree.Binary p operator a b) =
        by_value_small (ways l (tree.Binary p operator a b)).value (λ later n. weaker (omega arith) (omega arith) (chain (λ x n. (ways l b).value later n ≫ operated p operator x) ((expression_small a).value (or later (assigned b)) n)
        (λ q y t. chain (operated p operator y) ((expression_small b).value later q) (λ q z t. operated_small p operator y z))))
    expression_small (tree.Compare p comparison turned a b) = record {
      value = λ later n. weaker (omega arith) (omega arith) (chain (λ x n. (ways l b).value later n ≫ λ y. set p (Holds (related comparison turned x y))) ((expression_small a).value (or later (assigned b)) n)
          (λ q y t. chain (λ z. set p (Holds (related comparison turned y z))) ((expression_small b).value later q) (λ q z t. set_small p (Holds (related comparison turned y z)))));
      effect = λ later n. weaker (omega arith) (omega arith) (chain (λ x. (ways l b).effect later) ((expression_small a).effect (or later (assigned b)) n) (λ q y t. (expression_small b).effect later q));
      condition = λ later n. weaker (omega arith) (omega arith) (chain (λ x n. (ways l b).value later n ≫ λ y. nothing (record { test = related comparison turned x y; turned = false })) ((expression_small a).value (or later (assigned b)) n)
          (λ q y t. chain (λ z. nothing (record { test = related comparison turned y z; turned = false })) ((expression_small b).value later q) (λ q z t. nothing_small (record { test = related comparison turned y z; turned = false }) tt)));
    }
    expression_small (tree.And p a b) =
        by_value_small (ways l (tree.And p a b)).value (λ later n. weaker (omega arith) (omega arith) (chosen_small _ (branches_small p _ _ ((expression_small a).condition (or later (assigned b)) (n + 1))
        (λ q. branches_small p _ _ ((expression_small b).condition later q) (λ q. gives_small p n (Number 1)) (λ q. gives_small p n (Number 0)))
        (λ q. gives_small p n (Number 0)))))
    expression_small (tree.Or p a b) =
        by_value_small (ways l (tree.Or p a b)).value (λ later n. weaker (omega arith) (omega arith) (chosen_small _ (branches_small p _ _ ((expression_small a).condition (or later (assigned b)) (n + 1))
        (λ q. gives_small p n (Number 1))
        (λ q. branches_small p _ _ ((expression_small b).condition later q) (λ q. gives_small p n (Number 1)) (λ q. gives_small p n (Number 0))))))
    expression_small (tree.Conditional p a b c) =
        let s = or (assigned b) (assigned c) in
        let h : ValueSmall (1 + (most_made a + (most_made b + most_made c))) (6 + (most_code a + (most_code b + most_code c))) (chosen p s (ways l a) (ways l b) (ways l c)) = λ later n. weaker (omega arith) (omega arith) (chosen_small _ (branches_small p _ _ ((expression_small a).condition (or later s) (n + 1))
        (λ q. chain (gives p n) ((expression_small b).value later q) (λ q y t. gives_small p n y))
        (λ q. chain (gives p n) ((expression_small c).value later q) (λ q y t. gives_small p n y)))) in
        record {
          value = h;
          effect = λ later n. weaker (omega arith) (omega arith) (branches_small p _ _ ((expression_small a).condition (or later s) n) (λ q. (expression_small b).effect later q) (λ q. (expression_small c).effect later q));
          condition = value_condition (chosen p s (ways l a) (ways l b) (ways l c)) h;
        }
    expression_small (tree.Comma a b) = record {
      value = λ later n. weaker (omega arith) (omega arith) (chain (λ x. (ways l b).value later) ((expression_small a).effect (or later (assigned b)) n) (λ q y t. (expression_small b).value later q));
      effect = λ later n. weaker (omega arith) (omega arith) (chain (λ x. (ways l b).effect later) ((expression_small a).effect (or later (assigned b)) n) (λ q y t. (expression_small b).effect later q));
      condition = λ later n. weaker (omega arith) (omega arith) (chain (λ x. (ways l b).condition later) ((expression_small a).effect (or later (assigned b)) n) (λ q y t. (expression_small b).condition later q));
    }
    expression_small (tree.Assign p kind t a) =
        by_value_small (ways l (tree.Assign p kind t a)).value (λ later n. weaker (omega arith) (omega arith) (chain (λ o n. (ways l a).value later n ≫ put_in p kind o) (target_small t (or later (assigned a)) n)
        (λ q o u. chain (put_in p kind o) ((expression_small a).value later q) (λ q y u. put_small p kind o y))))
    expression_small (tree.Update p kind t operator a) =
        let s = assigned a in
        by_value_small (ways l (tree.Update p kind t operator a)).value (λ later n. weaker (omega arith) (omega arith) (chain (λ o n. held p kind (or later s) o n ≫ λ x n. (ways l a).value later n ≫ λ y n. operated p operator x y n ≫ λ z n. narrowed p kind z n ≫ put_in p kind o) (target_small t (or later s) n)
        (λ q o u. chain (λ x n. (ways l a).value later n ≫ λ y n. operated p operator x y n ≫ λ z n. narrowed p kind z n ≫ put_in p kind o) (held_small p kind (or later s) o)
        (λ q x u. chain (λ y n. operated p operator x y n ≫ λ z n. narrowed p kind z n ≫ put_in p kind o) ((expression_small a).value later q)
        (λ q y u. chain (λ z n. narrowed p kind z n ≫ put_in p kind o) (operated_small p operator x y)
        (λ q z u. chain (put_in p kind o) (narrowed_small p kind z) (λ q y u. put_small p kind o y)))))))
    expression_small (tree.Step p kind t change new) =
        let h : ValueSmall (3 + most_made_for t) (13 + most_code_for t) (λ later n. stepped p kind (spot l t) change new (if new then later else or later (assigned_target t)) later n) =
        λ later n. weaker (omega arith) (omega arith) (stepped_small p kind (spot l t) change new (if new then later else or later (assigned_target t)) later (target_small t later n)) in
        record {
          value = h;
          effect = value_effect (λ later n. stepped p kind (spot l t) change true later later n) (λ later n. weaker (omega arith) (omega arith) (stepped_small p kind (spot l t) change true later later (target_small t later n)));
          condition = value_condition (λ later n. stepped p kind (spot l t) change new (if new then later else or later (assigned_target t)) later n) h;
        }
    expression_small (tree.Call p f xs) =
        by_value_small (ways l (tree.Call p f xs)).value (λ later n. weaker (omega arith) (let h = inner_and_count xs in omega (arith, h)) (chain (λ xs n. only (Do p (Expect (Room (l.callee f))) (one p (Call n (l.callee f) xs))) (Variable n) (n + 1)) (operands_small xs later n) (λ q ys t. called q (count xs) p (l.callee f) ys t)))
    expression_small (tree.Putchar p a) =
        let h : ValueSmall (1 + most_made a) (4 + most_code a) (λ later n. (ways l a).value later n ≫ λ x n. only (one p (Print Byte x)) x n ≫ λ x. set p (Extended U8 x)) =
        λ later n. weaker (omega arith) (omega arith) (chain (λ x n. only (one p (Print Byte x)) x n ≫ λ x. set p (Extended U8 x)) ((expression_small a).value later n)
        (λ q y t. chain (λ x. set p (Extended U8 x)) (printed q p y) (λ q y t. set_small p (Extended U8 y)))) in
        record {
          value = h;
          effect = λ later n. weaker (omega arith) (omega arith) (chain (λ x. emit (one p (Print Byte x))) ((expression_small a).value later n) (λ q y t. print_small q p y));
          condition = value_condition (λ later n. (ways l a).value later n ≫ λ x n. only (one p (Print Byte x)) x n ≫ λ x. set p (Extended U8 x)) h;
        }
    expression_small (tree.Exit p a) =
        by_value_small (ways l (tree.Exit p a)).value (λ later n. weaker (omega arith) (omega arith) (chain (λ x. only (one p (Halt x)) (Number 0)) ((expression_small a).value later n) (λ q y t. halt_small q p y)))
    expression_small (tree.Abort p) = by_value_small (λ later. only (one p (Expect Abort)) (Number 0)) (λ later n. record { few = omega arith; own = omega arith; small = omega arith; given = tt })

    target_small : (t : Target) (later : VariableSet) (n : ℕ) → Small Any n (most_made_for t) (most_code_for t) (spot l t later n)
    target_small (tree.InVariable v) later n = nothing_small (Local v) tt
    target_small (tree.AtAddress checked a) later n = weaker (omega arith) (omega arith) (chain (λ x. nothing (Placed checked x)) ((expression_small a).value later n) (λ q y t. nothing_small (Placed checked y) tt))

    pub operands_small : (xs : Expressions) (later : VariableSet) (n : ℕ) → Small (λ (ys : List Operand). length ys ≡ count xs) n (most_made_of_all xs) (inner_code xs) (operands l xs later n)
    operands_small tree.no_expressions later n = nothing_small [] refl
    operands_small (tree.expression_then a xs) later n =
        weaker (omega arith) (omega arith) (chain (λ x n. operands l xs later n ≫ λ xs. nothing (x ∷ xs)) ((expression_small a).value (or later (assigned_all xs)) n)
        (λ q y t. chain (λ xs. nothing (y ∷ xs)) (operands_small xs later q) (λ q ys t. nothing_small (y ∷ ys) (ap suc t))))
