-- A form in which variables hold values for loops is as well made as before.
use Rattle.std.proofs.Common.{◌≡◌, ℕ, ◌<◌, Bool, true, List, Option, Some, None, length, refl, sym, subst}
use Rattle.dae_ir.specs.Code.{Done, Do, If, Loop, Each}
use Rattle.dae_ir.specs.Form.{Form}
use Rattle.dae_ir.specs.Rounds.{is_jump, stays}
use Rattle.dae_ir.specs.Scope.{TestIn, ValueIn, ItemIn, is_return, is_end, closes, never_returns}
use Rattle.dae_ir.specs.declared.form.Check.TheVariants.{Place as Good, InBounds, Zero, Room, Frame, Abort}
use Rattle.dae_ir.specs.declared.form.Function.{Function}
use Rattle.dae_ir.specs.declared.form.Item.{Item}
use Rattle.dae_ir.specs.declared.form.Item.TheVariants.{Assign, Load, Store, Print, Expect, Break, Continue, Call, Return, Halt}
use Rattle.dae_ir.specs.declared.form.Value.{Value}
use Rattle.dae_ir.proofs.Laws.{KeepsArguments}
use Rattle.dae_hoist.specs.Hoisted.{Holding, found_or, hoisted_item, hoisted_code}
use Rattle.dae_hoist.specs.Kept.{Hoisting, Fits, ItemKept, IsKept, set_behind}

module _ (fs gs : List Function) (keeps : KeepsArguments fs gs) (t : Hoisting) where
  abbrev n : ℕ
  n = t.variables

  assigned_in : (us : List ℕ) (v : ℕ) (x : Value) (o : Option Value) → Fits t us v o → ValueIn n x → ValueIn n (found_or o x)
  assigned_in us v x None h i = i
  assigned_in us v x (Some y) h i = h.1

  item_in : (us : List ℕ) (item : Item) → ItemKept t us item → ItemIn fs n item → ItemIn gs n (hoisted_item t.holding item)
  item_in us (Assign v x) h i = (i.0, assigned_in us v x (t.holding v) h.1 i.1)
  item_in us (Load v kind x) h i = i
  item_in us (Store width x y) h i = i
  item_in us (Print spelling x) h i = i
  item_in us (Expect (Good width x)) h i = i
  item_in us (Expect (InBounds x offset)) h i = i
  item_in us (Expect (Zero x)) h i = i
  item_in us (Expect (Room g)) h i = subst (λ (m : ℕ). g < m) (sym keeps.count) i
  item_in us (Expect Frame) h i = tt
  item_in us (Expect Abort) h i = tt
  item_in us Break h i = tt
  item_in us Continue h i = tt
  item_in us (Call v g xs) h i = (i.0, keeps.takes g (length xs) i.1, i.2)
  item_in us (Return x) h i = i
  item_in us (Halt x) h i = i

  pub code_in : (us : List ℕ) (code : Form) → IsKept t us code → Each (ItemIn fs n) (TestIn n) code → Each (ItemIn gs n) (TestIn n) (hoisted_code t.holding code)
  code_in us Done h i = tt
  code_in us (Do place item k) h i = (item_in us item h.0 i.0, code_in (set_behind us item) k h.1 i.1)
  code_in us (If place test x y k) h i = (i.0, code_in us x h.1 i.1, code_in us y h.2 i.2, code_in us k h.3 i.3)
  code_in us (Loop place x y k) h i = (code_in us x h.0 i.0, code_in us y h.1 i.1, code_in us k h.2 i.2)

-- ---- where code goes stays

module _ (h : Holding) where
  jump_same : (item : Item) → is_jump (hoisted_item h item) ≡ is_jump item
  jump_same (Assign v x) = refl
  jump_same (Load v kind x) = refl
  jump_same (Store width x y) = refl
  jump_same (Print spelling x) = refl
  jump_same (Expect check) = refl
  jump_same Break = refl
  jump_same Continue = refl
  jump_same (Call v g xs) = refl
  jump_same (Return x) = refl
  jump_same (Halt x) = refl

  end_same : (item : Item) → is_end (hoisted_item h item) ≡ is_end item
  end_same (Assign v x) = refl
  end_same (Load v kind x) = refl
  end_same (Store width x y) = refl
  end_same (Print spelling x) = refl
  end_same (Expect check) = refl
  end_same Break = refl
  end_same Continue = refl
  end_same (Call v g xs) = refl
  end_same (Return x) = refl
  end_same (Halt x) = refl

  return_same : (item : Item) → is_return (hoisted_item h item) ≡ is_return item
  return_same (Assign v x) = refl
  return_same (Load v kind x) = refl
  return_same (Store width x y) = refl
  return_same (Print spelling x) = refl
  return_same (Expect check) = refl
  return_same Break = refl
  return_same Continue = refl
  return_same (Call v g xs) = refl
  return_same (Return x) = refl
  return_same (Halt x) = refl

  pub stays_same : (code : Form) (inside : Bool) → stays inside (hoisted_code h code) ≡ stays inside code
  stays_same Done inside = refl
  stays_same (Do place item k) inside = rw (jump_same item, stays_same k inside) refl
  stays_same (If place test x y k) inside = rw (stays_same x inside, stays_same y inside, stays_same k inside) refl
  stays_same (Loop place x y k) inside = rw (stays_same x true, stays_same y true, stays_same k inside) refl

  pub closes_same : (code : Form) → closes (hoisted_code h code) ≡ closes code
  closes_same Done = refl
  closes_same (Do place item k) = rw (end_same item, closes_same k) refl
  closes_same (If place test x y k) = closes_same k
  closes_same (Loop place x y k) = closes_same k

  pub never_same : (code : Form) → never_returns (hoisted_code h code) ≡ never_returns code
  never_same Done = refl
  never_same (Do place item k) = rw (return_same item, never_same k) refl
  never_same (If place test x y k) = rw (never_same x, never_same y, never_same k) refl
  never_same (Loop place x y k) = rw (never_same x, never_same y, never_same k) refl
