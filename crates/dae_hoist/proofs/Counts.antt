-- Code in which variables hold values for loops is as large as before, and A has as much to do.
use Rattle.std.proofs.Common.{◌≡◌, ℕ, Bool, List, refl, ap, sym}
use Rattle.dae_ir.specs.Code.{Done, Do, If, Loop}
use Rattle.dae_ir.specs.Form.{Form}
use Rattle.dae_ir.specs.Classes.{is_by_a}
use Rattle.dae_ir.specs.Sizes.{bit, is_load_into, item_weight, size, tally}
use Rattle.dae_ir.specs.declared.form.Item.{Item}
use Rattle.dae_ir.specs.declared.form.Item.TheVariants.{Assign, Load, Store, Print, Expect, Break, Continue, Call, Return, Halt}
use Rattle.dae_ir.specs.declared.form.Test.{Test}
use Rattle.dae_hoist.specs.Hoisted.{Holding, found_or, hoisted_item, hoisted_code}
use Rattle.dae_hoist.specs.Kept.{Hoisting, ItemKept, IsKept, set_behind}
use Rattle.dae_hoist.specs.Laws.{CountsAssignments}
use Rattle.dae_hoist.proofs.Reading.{kept_same, has_test_same}

module _ (h : Holding) (f : Item → ℕ) (alike : CountsAssignments f) where
  item_same : (item : Item) → f (hoisted_item h item) ≡ f item
  item_same (Assign v x) = alike v (found_or (h v) x) x
  item_same (Load v kind x) = refl
  item_same (Store width x y) = refl
  item_same (Print spelling x) = refl
  item_same (Expect check) = refl
  item_same Break = refl
  item_same Continue = refl
  item_same (Call v g xs) = refl
  item_same (Return x) = refl
  item_same (Halt x) = refl

  size_of_items : (code : Form) → size f (hoisted_code h code) ≡ size f code
  size_of_items Done = refl
  size_of_items (Do place item k) = rw (item_same item, size_of_items k) refl
  size_of_items (If place test x y k) = rw (size_of_items x, size_of_items y, size_of_items k) refl
  size_of_items (Loop place x y k) = rw (size_of_items x, size_of_items y, size_of_items k) refl

  pub tally_same : (tests : Test → ℕ) (code : Form) → tally f tests (hoisted_code h code) ≡ tally f tests code
  tally_same tests Done = refl
  tally_same tests (Do place item k) = rw (item_same item, tally_same tests k) refl
  tally_same tests (If place test x y k) = rw (tally_same tests x, tally_same tests y, tally_same tests k) refl
  tally_same tests (Loop place x y k) = rw (tally_same tests x, tally_same tests y, tally_same tests k) refl

pub size_same : (h : Holding) (code : Form) → size item_weight (hoisted_code h code) ≡ size item_weight code
size_same h code = size_of_items h item_weight (λ v x y. refl) code

-- ---- what A has to do, by the sets before and behind

module _ (t : Hoisting) where
  load_same : (us : List ℕ) (item : Item) → ItemKept t us item → bit (is_load_into t.new_sets (hoisted_item t.holding item)) ≡ bit (is_load_into t.sets item)
  load_same us (Assign v x) kept = refl
  load_same us (Load v kind x) kept = ap (λ (b : Bool). bit b) (sym (kept_same t v kept.0))
  load_same us (Store width x y) kept = refl
  load_same us (Print spelling x) kept = refl
  load_same us (Expect check) kept = refl
  load_same us Break kept = refl
  load_same us Continue kept = refl
  load_same us (Call v g xs) kept = refl
  load_same us (Return x) kept = refl
  load_same us (Halt x) kept = refl

  pub loads_same : (us : List ℕ) (code : Form) → IsKept t us code → tally (λ item. bit (is_load_into t.new_sets item)) (λ x. 0) (hoisted_code t.holding code) ≡ tally (λ item. bit (is_load_into t.sets item)) (λ x. 0) code
  loads_same us Done kept = refl
  loads_same us (Do place item k) kept = rw (load_same us item kept.0, loads_same (set_behind us item) k kept.1) refl
  loads_same us (If place test x y k) kept = rw (loads_same us x kept.1, loads_same us y kept.2, loads_same us k kept.3) refl
  loads_same us (Loop place x y k) kept = rw (loads_same us x kept.0, loads_same us y kept.1, loads_same us k kept.2) refl

  pub conditions_same : (us : List ℕ) (code : Form) → IsKept t us code → tally (λ item. 0) (λ x. bit (is_by_a t.new_sets x)) (hoisted_code t.holding code) ≡ tally (λ item. 0) (λ x. bit (is_by_a t.sets x)) code
  conditions_same us Done kept = refl
  conditions_same us (Do place item k) kept = rw (conditions_same (set_behind us item) k kept.1) refl
  conditions_same us (If place test x y k) kept =
      rw (ap (λ (b : Bool). bit b) (has_test_same t test kept.0), conditions_same us x kept.1, conditions_same us y kept.2, conditions_same us k kept.3) refl
  conditions_same us (Loop place x y k) kept = rw (conditions_same us x kept.0, conditions_same us y kept.1, conditions_same us k kept.2) refl
