-- What a family of sets keeps of a form's code, and where links may end.
use Rattle.std.specs.Prelude.{◌≡◌, ℕ, ◌<◌, ◌≤◌, true, List, length, slice_get, Some}
use Rattle.dae_ir.specs.Code.{Each}
use Rattle.dae_ir.specs.Form.{Form}
use Rattle.dae_ir.specs.Classes.{VariableSet, IsWithin, AddressesKept, NeedsKept, TestKept, row_of}
use Rattle.dae_ir.specs.Programs.{body_in}
use Rattle.dae_ir.specs.declared.form.Operand.{Operand}
use Rattle.dae_ir.specs.declared.form.Test.{Test}
use Rattle.dae_ir.specs.declared.form.Item.{Item}
use Rattle.dae_ir.specs.declared.form.Item.TheVariants.{Assign, Load, Store, Print, Expect, Break, Continue, Call, Return, Halt}
use Rattle.dae_ir.specs.declared.form.Function.{Function}
use Rattle.dae_ir.specs.declared.stream.Class.{Class}
use Rattle.dae_slice.specs.Graphs.{Family, marked, variables_of}
use Rattle.dae_slice.specs.declared.items.Sought.{Sought}
use Rattle.dae_slice.specs.declared.items.Sought.TheVariants.{Addresses, Needs}

-- what the sets that are sought keep at an item and at a condition of a function
abbrev pub ItemKept : Sought → Family → ℕ → Item → Type 0
ItemKept Addresses c f item = AddressesKept c (c f) item
ItemKept (Needs a) c f item = NeedsKept c (marked a.now f) (c f) item

abbrev pub ConditionKept : Sought → Family → ℕ → Test → Type 0
ConditionKept Addresses c f t = Unit {0}
ConditionKept (Needs a) c f t = TestKept (marked a.now f) (c f) t

abbrev pub CodeKept : Sought → Family → ℕ → Form → Type 0
CodeKept sought c f code = Each (ItemKept sought c f) (ConditionKept sought c f) code

-- the variables in which links end are there
pub record CallHasTargets (there : Family) (f v callee : ℕ) (xs : List Operand) : Type 0 where
  pub target : there f v ≡ true
  pub parameters : (k : ℕ) → 0 < k → k ≤ length xs → there callee k ≡ true

abbrev pub HasTargets : Family → ℕ → Item → Type 0
HasTargets there f (Assign v x) = there f v ≡ true
HasTargets there f (Load v kind x) = Unit {0}
HasTargets there f (Store width x y) = Unit {0}
HasTargets there f (Print spelling x) = Unit {0}
HasTargets there f (Expect check) = Unit {0}
HasTargets there f Break = Unit {0}
HasTargets there f Continue = Unit {0}
HasTargets there f (Call v callee xs) = CallHasTargets there f v callee xs
HasTargets there f (Return x) = there f 0 ≡ true
HasTargets there f (Halt x) = Unit {0}

abbrev pub CodeHasTargets : Family → ℕ → Form → Type 0
CodeHasTargets there f code = Each (HasTargets there f) (λ t. Unit {0}) code

-- ---- whole programs

-- of the sets that are sought, the family that is kept by all code, and the least that is
pub record IsLeastFor (sought : Sought) (functions : List Function) (s : Family) : Type 0 where
  pub kept : (f : ℕ) → CodeKept sought s f (body_in (slice_get functions f))
  pub least : (c : Family) → ((f : ℕ) → CodeKept sought c f (body_in (slice_get functions f))) → (f : ℕ) → IsWithin (s f) (c f)

-- ---- tables of classes

-- the classes of the first variables, by A's set and E's
pub record IsRow (variables : ℕ) (a e : VariableSet) (row : List Class) : Type 0 where
  pub count : length row ≡ variables
  pub classes : (v : ℕ) → v < variables → slice_get row v ≡ Some (record { a = a v; e = e v })

-- the rows of the first functions
pub record IsTable (count : ℕ) (functions : List Function) (a e : Family) (tables : List (List Class)) : Type 0 where
  pub rows : length tables ≡ count
  pub row : (f : ℕ) → f < count → IsRow (variables_of (slice_get functions f)) (a f) (e f) (row_of (slice_get tables f))

-- a row for each function, and an entry for each of its variables
pub record HasRows (functions : List Function) (tables : List (List Class)) : Type 0 where
  pub count : length tables ≡ length functions
  pub lengths : (f : ℕ) → length (row_of (slice_get tables f)) ≡ variables_of (slice_get functions f)
