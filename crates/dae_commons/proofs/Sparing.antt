-- Equations that involve nothing that code sets.
use Rattle.std.proofs.Common.{◌≡◌, ℕ, Bool, true, false, if◌then◌else◌, List, [], ◌∷◌, refl}
use Rattle.std.specs.List.{AllByRecursion}
use Rattle.dae_ir.specs.Code.{Done, Do, If, Loop}
use Rattle.dae_ir.specs.Form.{Form}
use Rattle.dae_ir.specs.declared.form.Item.{Item}
use Rattle.dae_ir.specs.declared.form.Item.TheVariants.{Assign, Load, Store, Print, Expect, Break, Continue, Call, Return, Halt}
use Rattle.dae_commons.specs.declared.equations.Equation.{Equation}
use Rattle.dae_commons.specs.Equations.{involves, without_variable, without_item, without_set, known_in_loop}
use Rattle.dae_commons.proofs.Lists.{without_all}

-- ---- fewer equations

-- what holds of each of these holds of each of those
abbrev Part : List Equation → List Equation → Type 1
Part r q = (R : Equation → Type 0) → AllByRecursion R q → AllByRecursion R r

item_part : (item : Item) (q : List Equation) → Part (without_item q item) q
item_part (Assign v x) q R all = without_all R R v (λ e h is. is) q all
item_part (Load v kind x) q R all = without_all R R v (λ e h is. is) q all
item_part (Store width x y) q R all = all
item_part (Print spelling x) q R all = all
item_part (Expect check) q R all = all
item_part Break q R all = all
item_part Continue q R all = all
item_part (Call v g xs) q R all = tt
item_part (Return x) q R all = all
item_part (Halt x) q R all = all

set_part : (code : Form) (q : List Equation) → Part (without_set q code) q
set_part Done q R all = all
set_part (Do place item k) q R all = set_part k (without_item q item) R (item_part item q R all)
set_part (If place t x y k) q R all = set_part k (without_set (without_set q x) y) R (set_part y (without_set q x) R (set_part x q R all))
set_part (Loop place x y k) q R all = set_part k (without_set (without_set q x) y) R (set_part y (without_set q x) R (set_part x q R all))

pub loop_all : (R : Equation → Type 0) (q : List Equation) (x y : Form) → AllByRecursion R q → AllByRecursion R (known_in_loop q x y)
loop_all R q x y all = set_part y (without_set q x) R (set_part x q R all)

-- ---- nothing that is set

abbrev pub SparesVariable : ℕ → List Equation → Type 0
SparesVariable v q = AllByRecursion (λ (e : Equation). involves v e ≡ false) q

-- there are none
abbrev pub AreNone : List Equation → Type 0
AreNone q = AllByRecursion (λ (e : Equation). ⊥) q

abbrev pub SparesItem : List Equation → Item → Type 0
SparesItem q (Assign v x) = SparesVariable v q
SparesItem q (Load v kind x) = SparesVariable v q
SparesItem q (Store width x y) = Unit {0}
SparesItem q (Print spelling x) = Unit {0}
SparesItem q (Expect check) = Unit {0}
SparesItem q Break = Unit {0}
SparesItem q Continue = Unit {0}
SparesItem q (Call v f xs) = AreNone q
SparesItem q (Return x) = Unit {0}
SparesItem q (Halt x) = Unit {0}

abbrev pub Spares : List Equation → Form → Type 0
Spares q Done = Unit {0}
Spares q (Do place item k) = SparesItem q item × Spares q k
Spares q (If place t x y k) = Spares q x × Spares q y × Spares q k
Spares q (Loop place x y k) = Spares q x × Spares q y × Spares q k

part_item : (r q : List Equation) → Part r q → (item : Item) → SparesItem q item → SparesItem r item
part_item r q part (Assign v x) h = part (λ (e : Equation). involves v e ≡ false) h
part_item r q part (Load v kind x) h = part (λ (e : Equation). involves v e ≡ false) h
part_item r q part (Store width x y) h = tt
part_item r q part (Print spelling x) h = tt
part_item r q part (Expect check) h = tt
part_item r q part Break h = tt
part_item r q part Continue h = tt
part_item r q part (Call v g xs) h = part (λ (e : Equation). ⊥) h
part_item r q part (Return x) h = tt
part_item r q part (Halt x) h = tt

part_spares : (r q : List Equation) → Part r q → (code : Form) → Spares q code → Spares r code
part_spares r q part Done h = tt
part_spares r q part (Do place item k) h = (part_item r q part item h.0, part_spares r q part k h.1)
part_spares r q part (If place t x y k) h = (part_spares r q part x h.0, part_spares r q part y h.1, part_spares r q part k h.2)
part_spares r q part (Loop place x y k) h = (part_spares r q part x h.0, part_spares r q part y h.1, part_spares r q part k h.2)

spares_variable : (v : ℕ) (q : List Equation) → SparesVariable v (without_variable v q)
spares_variable v [] = tt
spares_variable v (e ∷ q) = by (involves v e) refl (spares_variable v q) where
  by : (b : Bool) → involves v e ≡ b → SparesVariable v (without_variable v q) → SparesVariable v (if b then without_variable v q else e ∷ without_variable v q)
  by true is rest = rest
  by false is rest = (is, rest)

item_spares : (item : Item) (q : List Equation) → SparesItem (without_item q item) item
item_spares (Assign v x) q = spares_variable v q
item_spares (Load v kind x) q = spares_variable v q
item_spares (Store width x y) q = tt
item_spares (Print spelling x) q = tt
item_spares (Expect check) q = tt
item_spares Break q = tt
item_spares Continue q = tt
item_spares (Call v g xs) q = tt
item_spares (Return x) q = tt
item_spares (Halt x) q = tt

-- two lists and what is behind them
module _ (q : List Equation) (x y k : Form) where
  abbrev behind_x : List Equation
  behind_x = without_set q x

  abbrev behind_y : List Equation
  behind_y = without_set behind_x y

  abbrev behind_all : List Equation
  behind_all = without_set behind_y k

  lists_spare : Spares behind_x x → Spares behind_y y → Spares behind_all k → Spares behind_all x × Spares behind_all y × Spares behind_all k
  lists_spare hx hy hk = (
    part_spares behind_all behind_x (λ R all. set_part k behind_y R (set_part y behind_x R all)) x hx,
    part_spares behind_all behind_y (λ R all. set_part k behind_y R all) y hy,
    hk,
  )

set_spares : (code : Form) (q : List Equation) → Spares (without_set q code) code
set_spares Done q = tt
set_spares (Do place item k) q =
    (part_item (without_set (without_item q item) k) (without_item q item) (λ R all. set_part k (without_item q item) R all) item (item_spares item q), set_spares k (without_item q item))
set_spares (If place t x y k) q = lists_spare q x y k (set_spares x q) (set_spares y (without_set q x)) (set_spares k (without_set (without_set q x) y))
set_spares (Loop place x y k) q = lists_spare q x y k (set_spares x q) (set_spares y (without_set q x)) (set_spares k (without_set (without_set q x) y))

pub body_spared : (q : List Equation) (x y : Form) → Spares (known_in_loop q x y) x
body_spared q x y = part_spares (known_in_loop q x y) (without_set q x) (λ R all. set_part y (without_set q x) R all) x (set_spares x q)

pub step_spared : (q : List Equation) (x y : Form) → Spares (known_in_loop q x y) y
step_spared q x y = set_spares y (without_set q x)
