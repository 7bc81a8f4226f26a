-- Each function of a form has a return or a halt in its own list.
use Rattle.std.proofs.Common.{◌≡◌, ℕ, ◌⊎◌, inl, inr, Bool, true, false, not, ◌&&◌, nat_eq, if◌then◌else◌, refl}
use Rattle.dae_base.specs.declared.Place.{Place}
use Rattle.dae_ir.specs.Code.{Done, Do, If, Loop}
use Rattle.dae_ir.specs.Form.{Form}
use Rattle.dae_ir.specs.declared.form.Item.{Item}
use Rattle.dae_ir.specs.declared.form.Item.TheVariants.{Assign, Load, Store, Print, Expect, Break, Continue, Call, Return, Halt}
use Rattle.dae_ir.specs.declared.form.Check.TheVariants.{Frame}
use Rattle.dae_ir.specs.declared.form.Operand.TheVariants.{Number}
use Rattle.dae_ir.specs.Scope.{closes, is_end}
use Rattle.dae_lower.specs.Lowering.{one, ◌⨾◌, ◌≫◌, parameters_stored, statements, checks, is_closed, is_done, closed}
use Rattle.dae_program.specs.Trees as tree
use Rattle.dae_lower.specs.Keeping.{FormsClose}
use Rattle.dae_lower.proofs.Functions.{either_true}

abbrev FormCloses : Form → Type 0
FormCloses c = closes c ≡ true

last_closes : (place : Place) (item : Item) (k : Form) → is_end item ≡ true → FormCloses (Do place item k)
last_closes place (Return x) k h = refl
last_closes place (Halt x) k h = refl
last_closes place (Assign v x) k h = cc
last_closes place (Load v kind x) k h = cc
last_closes place (Store width x y) k h = cc
last_closes place (Print spelling x) k h = cc
last_closes place (Expect check) k h = cc
last_closes place Break k h = cc
last_closes place Continue k h = cc
last_closes place (Call v f xs) k h = cc

more_closes : (place : Place) (item : Item) (k : Form) → FormCloses k → FormCloses (Do place item k)
more_closes place (Return x) k h = refl
more_closes place (Halt x) k h = refl
more_closes place (Assign v x) k h = h
more_closes place (Load v kind x) k h = h
more_closes place (Store width x y) k h = h
more_closes place (Print spelling x) k h = h
more_closes place (Expect check) k h = h
more_closes place Break k h = h
more_closes place Continue k h = h
more_closes place (Call v f xs) k h = h

closed_closes : (c : Form) → is_closed c ≡ true → FormCloses c
closed_closes Done h = cc
closed_closes (Do place item k) h = by (either_true (is_done k) (is_end item) (is_closed k) h) (closed_closes k) where
  by : (is_end item ≡ true) ⊎ (is_closed k ≡ true) → (is_closed k ≡ true → FormCloses k) → FormCloses (Do place item k)
  by (inl g) go = last_closes place item k g
  by (inr g) go = more_closes place item k (go g)
closed_closes (If place t a b k) h = closed_closes k h
closed_closes (Loop place a b k) h = closed_closes k h

behind_closes : (place : Place) (last : Item) → is_end last ≡ true → (c : Form) → FormCloses (c ⨾ one place last)
behind_closes place last h Done = last_closes place last Done h
behind_closes place last h (Do at item k) = more_closes at item (k ⨾ one place last) (behind_closes place last h k)
behind_closes place last h (If at t a b k) = behind_closes place last h k
behind_closes place last h (Loop at a b k) = behind_closes place last h k

closed_code_closes : (place : Place) (last : Item) (c : Form) → is_end last ≡ true → FormCloses (closed place last c)
closed_code_closes place last c h = by (is_closed c) refl where
  by : (b : Bool) → is_closed c ≡ b → FormCloses (if b then c else c ⨾ one place last)
  by true g = closed_closes c g
  by false g = behind_closes place last h c

checks_close : (b : Bool) (place : Place) (c : Form) → FormCloses c → FormCloses (checks b place (Expect Frame) c)
checks_close true place c h = h
checks_close false place c h = h

last_is_last : (b : Bool) → is_end (if b then Halt (Number 0) else Return (Number 0)) ≡ true
last_is_last true = refl
last_is_last false = refl

abbrev core_of : tree.Program → (ℕ → Place) → (ℕ → ℕ) → ℕ → Form
core_of p place variables f =
    let g = p.function f in
    (parameters_stored (place f) g.parameters 1 (variables f) ≫ λ x. statements (record { address = g.address; callee = g.callee }) g.body).code

pub forms_close : FormsClose
forms_close p place variables main f =
    checks_close (nat_eq f main && not (nat_eq (let g = p.function f in g.frame) 0)) (place f) (closed (place f) (if nat_eq f main then Halt (Number 0) else Return (Number 0)) (core_of p place variables f))
    (closed_code_closes (place f) (if nat_eq f main then Halt (Number 0) else Return (Number 0)) (core_of p place variables f) (last_is_last (nat_eq f main)))
