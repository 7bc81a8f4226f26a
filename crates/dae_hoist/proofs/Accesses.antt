-- Sets that keep what leads to addresses, in code in which variables hold values for loops.
use Rattle.std.proofs.Common.{◌≡◌, ℕ, ◌+◌, ◌≤◌, true, List, [], ◌∷◌, length, Option, Some, None, sym, ◌∙◌, arith}
use Rattle.std.specs.Prelude.{slice_get}
use Rattle.dae_meaning.specs.Variables.{VariableSet}
use Rattle.dae_ir.specs.Code.{Done, Do, If, Loop, Each}
use Rattle.dae_ir.specs.Form.{Form}
use Rattle.dae_ir.specs.Classes.{has_value, ArgumentsKept, AddressesKept}
use Rattle.dae_ir.specs.Scope.{TestIn, ItemIn, TakesArguments}
use Rattle.dae_ir.specs.SetFirst.{AllRead}
use Rattle.dae_ir.specs.declared.form.Check.TheVariants.{Place as Good, InBounds, Zero, Room, Frame, Abort}
use Rattle.dae_ir.specs.declared.form.Function.{Function}
use Rattle.dae_ir.specs.declared.form.Item.{Item}
use Rattle.dae_ir.specs.declared.form.Item.TheVariants.{Assign, Load, Store, Print, Expect, Break, Continue, Call, Return, Halt}
use Rattle.dae_ir.specs.declared.form.Operand.{Operand}
use Rattle.dae_ir.specs.declared.form.Value.{Value}
use Rattle.dae_hoist.specs.Hoisted.{found_or, hoisted_item, hoisted_code}
use Rattle.dae_hoist.specs.Kept.{Hoisting, Fits, ItemKept, IsKept, is_kept, set_behind}
use Rattle.dae_hoist.proofs.Reading.{kept_same, has_same, has_value_same}

-- Each function has its variables that hold values. Its result and its parameters are kept.
module _ (fs : List Function) (ts : ℕ → Hoisting)
    (parameters : (g count : ℕ) → TakesArguments (slice_get fs g) count → (v : ℕ) → v ≤ count → is_kept (ts g) v ≡ true) where
  abbrev old : ℕ → VariableSet
  old g = (ts g).sets

  abbrev new : ℕ → VariableSet
  new g = (ts g).new_sets

  module _ (t : Hoisting) where
    arguments_kept : (g : ℕ) (xs : List Operand) (k : ℕ) → ((v : ℕ) → v + 1 ≤ k + length xs → is_kept (ts g) v ≡ true) → AllRead (is_kept t) xs → ArgumentsKept (old g) t.sets k xs → ArgumentsKept (new g) t.new_sets k xs
    arguments_kept g [] k kept reads h = tt
    arguments_kept g (x ∷ xs) k kept reads h = (
      λ leads. has_same t x reads.0 ∙ h.0 (kept_same (ts g) k (kept k (omega arith)) ∙ leads),
      arguments_kept g xs (k + 1) (λ v l. kept v (omega (arith, l))) reads.1 h.1,
    )

    assigned_kept : (us : List ℕ) (v : ℕ) (x : Value) (o : Option Value) → Fits t us v o → has_value (is_kept t) x ≡ true → (t.sets v ≡ true → has_value t.sets x ≡ true) → t.new_sets v ≡ true → has_value t.new_sets (found_or o x) ≡ true
    assigned_kept us v x None fits reads h leads = has_value_same t x reads ∙ h (fits ∙ leads)
    assigned_kept us v x (Some y) fits reads h leads = fits.2 leads

  module _ (f : ℕ) (own : is_kept (ts f) 0 ≡ true) where
    abbrev t : Hoisting
    t = ts f

    item_kept : (us : List ℕ) (item : Item) → ItemKept t us item → ItemIn fs t.variables item → AddressesKept old t.sets item → AddressesKept new t.new_sets (hoisted_item t.holding item)
    item_kept us (Assign v x) kept i h = assigned_kept t us v x (t.holding v) kept.1 kept.0 h
    item_kept us (Load v kind x) kept i h = has_same t x kept.1 ∙ h
    item_kept us (Store width x y) kept i h = has_same t x kept.0 ∙ h
    item_kept us (Print spelling x) kept i h = tt
    item_kept us (Expect (Good width x)) kept i h = has_same t x kept ∙ h
    item_kept us (Expect (InBounds x offset)) kept i h = has_same t x kept ∙ h
    item_kept us (Expect (Zero x)) kept i h = tt
    item_kept us (Expect (Room g)) kept i h = tt
    item_kept us (Expect Frame) kept i h = tt
    item_kept us (Expect Abort) kept i h = tt
    item_kept us Break kept i h = tt
    item_kept us Continue kept i h = tt
    item_kept us (Call v g xs) kept i h = record {
      arguments = arguments_kept t g xs 1 (λ u l. parameters g (length xs) i.1 u (omega (arith, l))) kept.1 h.arguments;
      result = λ leads. sym (kept_same (ts g) 0 (parameters g (length xs) i.1 0 (omega arith))) ∙ h.result (kept_same t v kept.0 ∙ leads);
    }
    item_kept us (Return x) kept i h = λ leads. has_same t x kept ∙ h (kept_same t 0 own ∙ leads)
    item_kept us (Halt x) kept i h = tt

    pub code_kept : (us : List ℕ) (code : Form) → IsKept t us code → Each (ItemIn fs t.variables) (TestIn t.variables) code → Each (AddressesKept old t.sets) (λ x. Unit {0}) code → Each (AddressesKept new t.new_sets) (λ x. Unit {0}) (hoisted_code t.holding code)
    code_kept us Done kept i h = tt
    code_kept us (Do place item k) kept i h = (item_kept us item kept.0 i.0 h.0, code_kept (set_behind us item) k kept.1 i.1 h.1)
    code_kept us (If place test x y k) kept i h = (tt, code_kept us x kept.1 i.1 h.1, code_kept us y kept.2 i.2 h.2, code_kept us k kept.3 i.3 h.3)
    code_kept us (Loop place x y k) kept i h = (code_kept us x kept.0 i.0 h.0, code_kept us y kept.1 i.1 h.1, code_kept us k kept.2 i.2 h.2)
