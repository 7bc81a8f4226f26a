-- The variables that are there are a family that each form keeps whose variables are all there.
use Rattle.std.proofs.Common.{◌≡◌, ℕ, zero, suc, ◌+◌, ◌<◌, ◌≤◌, true, nat_lt, List, ◌∷◌, length, refl, subst, arith, []}
use Rattle.std.specs.Prelude.{slice_get, Option, Some, None}
use Rattle.std.specs.List.{AllByRecursion}
use Rattle.std.proofs.lemmas.Bool.{lt-ltb, and_from}
use Rattle.dae_ir.specs.Code.{Each, Done, Do, If, Loop}
use Rattle.dae_ir.specs.Form.{Form, form_of}
use Rattle.dae_ir.specs.Programs.{body_in}
use Rattle.dae_ir.specs.Classes.{VariableSet, has, has_test, has_value, ArgumentsKept, CallKept, AddressesKept, NeedsKept}
use Rattle.dae_ir.specs.Scope.{IsIn, TestIn, ValueIn, TakesArguments, ItemIn, FunctionIn}
use Rattle.dae_ir.specs.declared.form.Operand.{Operand}
use Rattle.dae_ir.specs.declared.form.Operand.TheVariants.{Variable, Number}
use Rattle.dae_ir.specs.declared.form.Value.{Value}
use Rattle.dae_ir.specs.declared.form.Value.TheVariants.{Same, Extended, Binary, Holds, FrameAddress}
use Rattle.dae_ir.specs.declared.form.Test.{Test}
use Rattle.dae_ir.specs.declared.form.Check.TheVariants.{Place, InBounds, Zero, Room, Frame, Abort}
use Rattle.dae_ir.specs.declared.form.Item.{Item}
use Rattle.dae_ir.specs.declared.form.Item.TheVariants.{Assign, Load, Store, Print, Expect, Break, Continue, Call, Return, Halt}
use Rattle.dae_ir.specs.declared.form.Function.{Function}
use Rattle.dae_slice.specs.Graphs.{variables_of, in_range}
use Rattle.dae_slice.specs.Links.{ItemKept, ConditionKept, CodeKept, HasTargets, CodeHasTargets}
use Rattle.dae_slice.specs.declared.items.Sought.{Sought}
use Rattle.dae_slice.specs.declared.items.Sought.TheVariants.{Addresses, Needs}

-- of the items and tests of one kind, each is of another
pub each_weaker : {I J : Item → Type 0} {P Q : Test → Type 0} → ((x : Item) → I x → J x) → ((t : Test) → P t → Q t) → (code : Form) → Each I P code → Each J Q code
each_weaker f h Done e = tt
each_weaker f h (Do place x k) e = (f x e.0, each_weaker f h k e.1)
each_weaker f h (If place t p q k) e = (h t e.0, each_weaker f h p e.1, each_weaker f h q e.2, each_weaker f h k e.3)
each_weaker f h (Loop place p q k) e = (each_weaker f h p e.0, each_weaker f h q e.1, each_weaker f h k e.2)

-- ---- in one function of n variables

module _ (c : VariableSet) (n : ℕ) (all : (v : ℕ) → v < n → c v ≡ true) where
  operand_in : (x : Operand) → IsIn n x → has c x ≡ true
  operand_in (Variable v) h = all v h
  operand_in (Number k) h = refl

  pub test_in : (t : Test) → TestIn n t → has_test c t ≡ true
  test_in t h = and_from _ _ (operand_in t.left h.0) (operand_in t.right h.1)

  value_in : (x : Value) → ValueIn n x → has_value c x ≡ true
  value_in (Same x) h = operand_in x h
  value_in (Extended kind x) h = operand_in x h
  value_in (Binary operator x y) h = and_from _ _ (operand_in x h.0) (operand_in y h.1)
  value_in (Holds t) h = test_in t h
  value_in (FrameAddress offset) h = refl

  arguments_in : (callee : VariableSet) (k : ℕ) (xs : List Operand) → AllByRecursion (IsIn n) xs → ArgumentsKept callee c k xs
  arguments_in callee k [] h = tt
  arguments_in callee k (x ∷ xs) h = (λ e. operand_in x h.0, arguments_in callee (k + 1) xs h.1)

-- ---- in a program

function_at : (P : Function → Type 0) (functions : List Function) (f : ℕ) (function : Function) → AllByRecursion P functions → slice_get functions f ≡ Some function → P function
function_at P [] f function h e = cc
function_at P (g ∷ gs) zero function h e = let same : g ≡ function = cc in subst P same h.0
function_at P (g ∷ gs) (suc f) function h e = function_at P gs f function h.1 e

module _ (functions : List Function) (scoped : AllByRecursion (FunctionIn functions) functions) where
  -- the variables of a function that is called
  parameter_there : (g count k : ℕ) → TakesArguments (slice_get functions g) count → k ≤ count → in_range functions g k ≡ true
  parameter_there g count k takes le = by_function (slice_get functions g) refl takes
    where
      by_function : (o : Option Function) → slice_get functions g ≡ o → TakesArguments o count → nat_lt k (variables_of o) ≡ true
      by_function None e h = absurd h
      by_function (Some function) e h =
          let less = (function_at (FunctionIn functions) functions g function scoped e).parameters in
          lt-ltb k function.variables (omega arith)

  module _ (f n : ℕ) (some : 0 < n) (all : (v : ℕ) → v < n → in_range functions f v ≡ true) where
    call_in : (v g : ℕ) (xs : List Operand) → TakesArguments (slice_get functions g) (length xs) → AllByRecursion (IsIn n) xs → CallKept (in_range functions g) (in_range functions f) v xs
    call_in v g xs takes h = record {
      arguments = arguments_in (in_range functions f) n all (in_range functions g) 1 xs h;
      result = λ e. parameter_there g (length xs) 0 takes (omega arith);
    }

    item_targets : (x : Item) → ItemIn functions n x → HasTargets (in_range functions) f x
    item_targets (Assign v x) h = all v h.0.1
    item_targets (Load v kind x) h = tt
    item_targets (Store width x y) h = tt
    item_targets (Print spelling x) h = tt
    item_targets (Expect check) h = tt
    item_targets Break h = tt
    item_targets Continue h = tt
    item_targets (Call v g xs) h = record { target = all v h.0.1; parameters = λ k pos le. parameter_there g (length xs) k h.1 le }
    item_targets (Return x) h = all 0 some
    item_targets (Halt x) h = tt

    item_addresses : (x : Item) → ItemIn functions n x → AddressesKept (in_range functions) (in_range functions f) x
    item_addresses (Assign v x) h = λ e. value_in (in_range functions f) n all x h.1
    item_addresses (Load v kind x) h = operand_in (in_range functions f) n all x h.1
    item_addresses (Store width x y) h = operand_in (in_range functions f) n all x h.0
    item_addresses (Print spelling x) h = tt
    item_addresses (Expect (Place width x)) h = operand_in (in_range functions f) n all x h
    item_addresses (Expect (InBounds x offset)) h = operand_in (in_range functions f) n all x h.0
    item_addresses (Expect (Zero x)) h = tt
    item_addresses (Expect (Room g)) h = tt
    item_addresses (Expect Frame) h = tt
    item_addresses (Expect Abort) h = tt
    item_addresses Break h = tt
    item_addresses Continue h = tt
    item_addresses (Call v g xs) h = call_in v g xs h.1 h.2
    item_addresses (Return x) h = λ e. operand_in (in_range functions f) n all x h
    item_addresses (Halt x) h = tt

    item_needs : (s : VariableSet) (x : Item) → ItemIn functions n x → NeedsKept (in_range functions) s (in_range functions f) x
    item_needs s (Assign v x) h = λ a e. value_in (in_range functions f) n all x h.1
    item_needs s (Load v kind x) h = tt
    item_needs s (Store width x y) h = operand_in (in_range functions f) n all y h.1
    item_needs s (Print spelling x) h = operand_in (in_range functions f) n all x h
    item_needs s (Expect (Place width x)) h = tt
    item_needs s (Expect (InBounds x offset)) h = tt
    item_needs s (Expect (Zero x)) h = λ a. operand_in (in_range functions f) n all x h
    item_needs s (Expect (Room g)) h = tt
    item_needs s (Expect Frame) h = tt
    item_needs s (Expect Abort) h = tt
    item_needs s Break h = tt
    item_needs s Continue h = tt
    item_needs s (Call v g xs) h = call_in v g xs h.1 h.2
    item_needs s (Return x) h = λ e. operand_in (in_range functions f) n all x h
    item_needs s (Halt x) h = operand_in (in_range functions f) n all x h

    item_kept : (sought : Sought) (x : Item) → ItemIn functions n x → ItemKept sought (in_range functions) f x
    item_kept Addresses x h = item_addresses x h
    item_kept (Needs a) x h = item_needs _ x h

    test_kept : (sought : Sought) (t : Test) → TestIn n t → ConditionKept sought (in_range functions) f t
    test_kept Addresses t h = tt
    test_kept (Needs a) t h = λ e. test_in (in_range functions f) n all t h

  all_in : (f : ℕ) (function : Function) → slice_get functions f ≡ Some function → (v : ℕ) → v < function.variables → in_range functions f v ≡ true
  all_in f function e v lt = rw e (lt-ltb v function.variables lt)

  pub targets_there : (f : ℕ) → CodeHasTargets (in_range functions) f (body_in (slice_get functions f))
  targets_there f = by_function (slice_get functions f) refl
    where
      by_function : (o : Option Function) → slice_get functions f ≡ o → CodeHasTargets (in_range functions) f (body_in o)
      by_function None e = tt
      by_function (Some function) e =
          let h = function_at (FunctionIn functions) functions f function scoped e in
          let less = h.parameters in
          each_weaker (item_targets f function.variables (omega arith) (all_in f function e)) (λ t k. tt) (form_of function.body) h.names

  pub range_kept : (sought : Sought) (f : ℕ) → CodeKept sought (in_range functions) f (body_in (slice_get functions f))
  range_kept sought f = by_function (slice_get functions f) refl
    where
      by_function : (o : Option Function) → slice_get functions f ≡ o → CodeKept sought (in_range functions) f (body_in o)
      by_function None e = tt
      by_function (Some function) e =
          let h = function_at (FunctionIn functions) functions f function scoped e in
          let less = h.parameters in
          each_weaker (item_kept f function.variables (omega arith) (all_in f function e) sought) (test_kept f function.variables (omega arith) (all_in f function e) sought) (form_of function.body) h.names
