-- Whole forms in which conditions are threaded.
use Rattle.std.proofs.Common.{◌≡◌, ℕ, zero, suc, ◌<◌, ◌≤◌, true, false, not, List, [], ◌∷◌, length, Option, Some, refl, ap, sym, ◌∙◌, subst, arith}
use Rattle.std.specs.Prelude.{slice_get, IsTrue}
use Rattle.std.specs.List.{AllByRecursion}
use Rattle.std.proofs.lemmas.Bool.{and_from, and_parts}
use Rattle.dae_meaning.specs.Alike.{Alike}
use Rattle.dae_meaning.specs.Worlds.{World}
use Rattle.dae_meaning.specs.Variables.{VariableSet, parameters_set}
use Rattle.dae_ir.specs.Code.{Each}
use Rattle.dae_ir.specs.Form.{Form, form_of, calls_of, all_loads}
use Rattle.dae_ir.specs.Classes.{has, Classes, AddressesKept, AreAddressesClosed, is_by_a}
use Rattle.dae_ir.specs.Laws.{SameVariables}
use Rattle.dae_ir.specs.Programs.{body_in, frame_in, program_of, outcome, start}
use Rattle.dae_ir.specs.Scope.{IsScoped, FunctionIn, IsMain, ItemIn, TestIn, TakesArguments, is_return, never_returns}
use Rattle.dae_ir.specs.SetFirst.{form_flow, IsSetFirst, IsFunctionSetFirst}
use Rattle.dae_ir.specs.Sizes.{bit, is_load_into, own_loads, conditions_a}
use Rattle.dae_ir.specs.declared.form.Function.{Function}
use Rattle.dae_ir.specs.declared.form.Ir.{Ir}
use Rattle.dae_ir.specs.declared.form.Item.{Item}
use Rattle.dae_ir.specs.declared.form.Item.TheVariants.{Assign, Load, Store, Print, Expect, Break, Continue, Call, Return, Halt}
use Rattle.dae_ir.specs.declared.form.Check.TheVariants.{Place as Good, InBounds, Zero, Room, Frame, Abort}
use Rattle.dae_ir.proofs.Laws.{KeepsArguments}
use Rattle.dae_threads.specs.Forms.{IsThreadedFunction, AreThreadedFunctions, IsThreadingOf, HasNoMoreItems, FormsAreThreaded}
use Rattle.dae_threads.specs.Laws.{CountsHeavy, ThreadingAddsNothing}
use Rattle.dae_threads.specs.Threaded.{IsThreaded, Unchanged}
use Rattle.dae_threads.proofs.Meaning.{calls_go}
use Rattle.dae_threads.proofs.Scoping.{KeepsSums, threaded_each, threaded_names, threaded_has, threaded_stays, threaded_closes}
use Rattle.dae_threads.proofs.Ordering.{threaded_first}
use Rattle.dae_threads.proofs.Counts.{threaded_size, threaded_count}

-- ---- functions in pairs

bodies : (fs gs : List Function) → AreThreadedFunctions fs gs → (k : ℕ) → IsThreaded (body_in (slice_get fs k)) (body_in (slice_get gs k))
bodies [] [] a k = Unchanged (body_in (slice_get [] k))
bodies [] (g ∷ gs) a k = absurd a
bodies (f ∷ fs) [] a k = absurd a
bodies (f ∷ fs) (g ∷ gs) a zero = let r = a.0 in r.body
bodies (f ∷ fs) (g ∷ gs) a (suc k) = bodies fs gs a.1 k

frames : (fs gs : List Function) → AreThreadedFunctions fs gs → (k : ℕ) → frame_in (slice_get gs k) ≡ frame_in (slice_get fs k)
frames [] [] a k = refl
frames [] (g ∷ gs) a k = absurd a
frames (f ∷ fs) [] a k = absurd a
frames (f ∷ fs) (g ∷ gs) a zero = let r = a.0 in r.frame
frames (f ∷ fs) (g ∷ gs) a (suc k) = frames fs gs a.1 k

lengths : (fs gs : List Function) → AreThreadedFunctions fs gs → length gs ≡ length fs
lengths [] [] a = refl
lengths [] (g ∷ gs) a = absurd a
lengths (f ∷ fs) [] a = absurd a
lengths (f ∷ fs) (g ∷ gs) a = ap suc (lengths fs gs a.1)

takes_same : (fs gs : List Function) → AreThreadedFunctions fs gs → (k count : ℕ) → TakesArguments (slice_get fs k) count → TakesArguments (slice_get gs k) count
takes_same [] [] a k count t = t
takes_same [] (g ∷ gs) a k count t = absurd a
takes_same (f ∷ fs) [] a k count t = absurd a
takes_same (f ∷ fs) (g ∷ gs) a zero count t = let r = a.0 in t ∙ sym r.parameters
takes_same (f ∷ fs) (g ∷ gs) a (suc k) count t = takes_same fs gs a.1 k count t

-- ---- what is well made stays so

never_still : (f g : Function) → IsThreadedFunction f g → IsTrue (never_returns (form_of f.body)) → IsTrue (never_returns (form_of g.body))
never_still f g r h = threaded_has (λ item. not (is_return item)) (λ t. true) (λ v n x. refl) (λ x n. refl) (form_of f.body) (form_of g.body) r.body h

main_same : (fs gs : List Function) → AreThreadedFunctions fs gs → (k : ℕ) → IsMain (slice_get fs k) → IsMain (slice_get gs k)
main_same [] [] a k m = m
main_same [] (g ∷ gs) a k m = absurd a
main_same (f ∷ fs) [] a k m = absurd a
main_same (f ∷ fs) (g ∷ gs) a (suc k) m = main_same fs gs a.1 k m
main_same (f ∷ fs) (g ∷ gs) a zero m = let r = a.0 in (r.parameters ∙ m.0, never_still f g r m.1)

module _ (all new : List Function) (keeps : KeepsArguments all new) where
  item_in : (n : ℕ) (item : Item) → ItemIn all n item → ItemIn new n item
  item_in n (Assign v x) i = i
  item_in n (Load v kind x) i = i
  item_in n (Store width x y) i = i
  item_in n (Print spelling x) i = i
  item_in n (Expect (Good width x)) i = i
  item_in n (Expect (InBounds x offset)) i = i
  item_in n (Expect (Zero x)) i = i
  item_in n (Expect (Room g)) i = subst (λ (m : ℕ). g < m) (sym keeps.count) i
  item_in n (Expect Frame) i = tt
  item_in n (Expect Abort) i = tt
  item_in n Break i = tt
  item_in n Continue i = tt
  item_in n (Call v g xs) i = (i.0, keeps.takes g (length xs) i.1, i.2)
  item_in n (Return x) i = i
  item_in n (Halt x) i = i

  sums_in : (n : ℕ) → KeepsSums (ItemIn new n)
  sums_in n = record {
    ordered = λ v m x i. (i.0, (i.1.1, i.1.0));
    checked = λ v x m near i j. (i.1.0, near);
  }

  function_in : (f g : Function) → IsThreadedFunction f g → FunctionIn all f → FunctionIn new g
  function_in f g r i =
      let c : Form = form_of f.body in
      let d : Form = form_of g.body in
      record {
        parameters = (let p = i.parameters in let n = r.parameters in let m = r.variables in omega (arith, p, n, m));
        names = subst (λ (n : ℕ). Each (ItemIn new n) (TestIn n) d) (sym r.variables)
            (threaded_names (ItemIn all f.variables) (ItemIn new f.variables) (TestIn f.variables) (TestIn f.variables) (item_in f.variables) (λ t h. h) (sums_in f.variables) c d r.body i.names);
        loops = threaded_stays c d false r.body i.loops;
        ends = threaded_closes c d r.body i.ends;
      }

  functions_in : (fs gs : List Function) → AreThreadedFunctions fs gs → AllByRecursion (FunctionIn all) fs → AllByRecursion (FunctionIn new) gs
  functions_in [] [] a s = tt
  functions_in [] (g ∷ gs) a s = absurd a
  functions_in (f ∷ fs) [] a s = absurd a
  functions_in (f ∷ fs) (g ∷ gs) a s = (function_in f g a.0 s.0, functions_in fs gs a.1 s.1)

first_in : (f g : Function) → IsThreadedFunction f g → IsFunctionSetFirst f → IsFunctionSetFirst g
first_in f g r h =
    subst (λ (n : ℕ). IsSetFirst form_flow (parameters_set n) (form_of g.body)) (sym r.parameters)
    (threaded_first (form_of f.body) (form_of g.body) (parameters_set f.parameters) r.body h).0

firsts_in : (fs gs : List Function) → AreThreadedFunctions fs gs → AllByRecursion IsFunctionSetFirst fs → AllByRecursion IsFunctionSetFirst gs
firsts_in [] [] a s = tt
firsts_in [] (g ∷ gs) a s = absurd a
firsts_in (f ∷ fs) [] a s = absurd a
firsts_in (f ∷ fs) (g ∷ gs) a s = (first_in f g a.0 s.0, firsts_in fs gs a.1 s.1)

-- ---- what A has to do

-- the address that is checked leads to what is added to
sums_kept : (of : ℕ → VariableSet) (s : VariableSet) → KeepsSums (AddressesKept of s)
sums_kept of s = record {
  ordered = λ v n x h in_s. and_from (has s x) true (h in_s) refl;
  checked = λ v x n near h address. (and_parts (has s x) true (h address)).0;
}

abbrev HasNoMore : Classes → Form → Form → Type 0
HasNoMore c old new = (own_loads c new ≤ own_loads c old) × (conditions_a c new ≤ conditions_a c old)

loads_heavy : (c : VariableSet) → CountsHeavy (λ item. bit (is_load_into c item))
loads_heavy c (Assign v x) h = refl
loads_heavy c (Load v kind x) h = absurd (let z : false ≡ true = h in cc)
loads_heavy c (Store width x y) h = refl
loads_heavy c (Print spelling x) h = refl
loads_heavy c (Expect check) h = refl
loads_heavy c Break h = refl
loads_heavy c Continue h = refl
loads_heavy c (Call v g xs) h = refl
loads_heavy c (Return x) h = refl
loads_heavy c (Halt x) h = refl

counted : (c : Classes) (old new : Form) → IsThreaded old new → HasNoMore c old new
counted c old new h = (
  threaded_count (λ item. bit (is_load_into c.s item)) (λ t. 0) (loads_heavy c.s) old new h,
  threaded_count (λ item. 0) (λ t. bit (is_by_a c.s t)) (λ item light. refl) old new h,
)

-- ---- the form

module _ (ir new : Ir) (scoped : IsScoped ir) (of : IsThreadingOf ir new) where
  abbrev pairs : AreThreadedFunctions ir.functions new.functions
  pairs = of.functions

  at_start : (memory : List ℕ) → start new memory ≡ start ir memory
  at_start memory = rw of.frames refl

  meaning : (n : ℕ) (memory : List ℕ) → Alike SameVariables HasNoMoreItems (outcome ir n memory) (outcome new n memory)
  meaning n memory =
      let w : World = start ir memory in
      let same : w.items ≤ w.items = omega arith in
      subst (λ (u : World). Alike SameVariables HasNoMoreItems (outcome ir n memory) (calls_of (program_of new) all_loads n new.calls new.main [] u)) (sym (at_start memory))
      (subst (λ (f : ℕ). Alike SameVariables HasNoMoreItems (outcome ir n memory) (calls_of (program_of new) all_loads n new.calls f [] w)) (sym of.main)
      (subst (λ (c : ℕ). Alike SameVariables HasNoMoreItems (outcome ir n memory) (calls_of (program_of new) all_loads n c ir.main [] w)) (sym of.calls)
      (calls_go (program_of ir) (program_of new) (frames ir.functions new.functions pairs) of.calls (bodies ir.functions new.functions pairs) n ir.calls ir.main [] w w.items w.items same)))

  access : (c : ℕ → Classes) → AreAddressesClosed (program_of ir) (λ k. (c k).s) → AreAddressesClosed (program_of new) (λ k. (c k).s)
  access c closed k =
      threaded_each (AddressesKept (λ j. (c j).s) (c k).s) (λ t. Unit {0}) (sums_kept (λ j. (c j).s) (c k).s) (body_in (slice_get ir.functions k)) (body_in (slice_get new.functions k)) (bodies ir.functions new.functions pairs k) (closed k)

  counted_at : (c : Classes) (k : ℕ) (f g : Function) → slice_get ir.functions k ≡ Some f → slice_get new.functions k ≡ Some g → HasNoMore c (form_of f.body) (form_of g.body)
  counted_at c k f g is is' =
      subst (λ (o : Option Function). HasNoMore c (form_of f.body) (body_in o)) is'
      (subst (λ (o : Option Function). HasNoMore c (body_in o) (body_in (slice_get new.functions k))) is
      (counted c (body_in (slice_get ir.functions k)) (body_in (slice_get new.functions k)) (bodies ir.functions new.functions pairs k)))

pub forms_are_threaded : FormsAreThreaded
forms_are_threaded ir new scoped of = record {
  meaning = meaning ir new scoped of;
  scoped = record {
    main = rw of.main (main_same ir.functions new.functions of.functions ir.main scoped.main);
    functions = functions_in ir.functions new.functions (record { count = lengths ir.functions new.functions of.functions; takes = takes_same ir.functions new.functions of.functions }) ir.functions new.functions of.functions scoped.functions;
  };
  first = firsts_in ir.functions new.functions of.functions;
  access = access ir new scoped of;
  counts = counted_at ir new scoped of;
}

pub threading_adds_nothing : ThreadingAddsNothing
threading_adds_nothing f g r = record {
  variables = r.variables;
  size = threaded_size (form_of f.body) (form_of g.body) r.body;
  tallies = λ count tests heavy. threaded_count count tests heavy (form_of f.body) (form_of g.body) r.body;
}
