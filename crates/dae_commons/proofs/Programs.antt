-- Whole forms without their common subexpressions.
use Rattle.std.proofs.Common.{◌≡◌, ℕ, zero, suc, Bool, false, List, [], ◌∷◌, length, Option, Some, refl, ap, sym, ◌∙◌, subst, arith}
use Rattle.std.specs.Prelude.{slice_get, IsTrue}
use Rattle.std.specs.List.{AllByRecursion}
use Rattle.dae_meaning.specs.Worlds.{World}
use Rattle.dae_ir.specs.Code.{Each}
use Rattle.dae_ir.specs.Form.{Form, form_of, calls_of, all_loads}
use Rattle.dae_ir.specs.Classes.{VariableSet, Classes, AddressesKept, AreAddressesClosed, classes_of, is_by_a, rows_behind}
use Rattle.dae_ir.proofs.Laws.{classes_behind}
use Rattle.dae_ir.specs.Programs.{body_in, frame_in, program_of, outcome, start}
use Rattle.dae_ir.specs.Rounds.{stays}
use Rattle.dae_ir.specs.Sizes.{bit, is_load_into, own_loads, conditions_a}
use Rattle.dae_ir.specs.Scope.{IsScoped, FunctionIn, IsMain, TakesArguments, TestIn, ItemIn, closes, never_returns}
use Rattle.dae_ir.specs.SetFirst.{IsFunctionSetFirst, parameters_set}
use Rattle.dae_ir.specs.declared.form.Function.{Function}
use Rattle.dae_ir.specs.declared.form.Ir.{Ir}
use Rattle.dae_ir.specs.declared.form.Item.TheVariants.{Assign, Load, Store, Print, Expect, Break, Continue, Call, Return, Halt}
use Rattle.dae_ir.specs.declared.stream.Class.{Class}
use Rattle.dae_commons.specs.Commoned.{commoned_code}
use Rattle.dae_commons.specs.Forms.{IsCommonedFunction, AreCommonedFunctions, IsCommoningOf, FormsAreCommoned}
use Rattle.dae_commons.specs.Laws.{CountsAlike}
use Rattle.dae_commons.proofs.Meaning.{calls_same}
use Rattle.dae_commons.proofs.Accesses.{test_same, code_kept}
use Rattle.dae_commons.proofs.Scoping.{code_in, stays_same, closes_same, never_same}
use Rattle.dae_commons.proofs.Ordering.{first_kept}
use Rattle.dae_commons.proofs.Counts.{tally_same}

-- ---- the functions, one by one

body_at : (tables : List (List Class)) (fs gs : List Function) → AreCommonedFunctions tables fs gs → (k : ℕ)
    → body_in (slice_get gs k) ≡ commoned_code (classes_of tables k) [] (body_in (slice_get fs k))
body_at tables [] [] a k = refl
body_at tables [] (g ∷ gs) a k = absurd a
body_at tables (f ∷ fs) [] a k = absurd a
body_at tables (f ∷ fs) (g ∷ gs) a zero = let h = a.0 in h.body
body_at tables (f ∷ fs) (g ∷ gs) a (suc k) =
    body_at (rows_behind tables) fs gs a.1 k ∙ ap (λ (c : Classes). commoned_code c [] (body_in (slice_get fs k))) (classes_behind tables k)

frames_same : (tables : List (List Class)) (fs gs : List Function) → AreCommonedFunctions tables fs gs → (k : ℕ) → frame_in (slice_get gs k) ≡ frame_in (slice_get fs k)
frames_same tables [] [] a k = refl
frames_same tables [] (g ∷ gs) a k = absurd a
frames_same tables (f ∷ fs) [] a k = absurd a
frames_same tables (f ∷ fs) (g ∷ gs) a zero = let h = a.0 in h.frame
frames_same tables (f ∷ fs) (g ∷ gs) a (suc k) = frames_same (rows_behind tables) fs gs a.1 k

lengths : (tables : List (List Class)) (fs gs : List Function) → AreCommonedFunctions tables fs gs → length gs ≡ length fs
lengths tables [] [] a = refl
lengths tables [] (g ∷ gs) a = absurd a
lengths tables (f ∷ fs) [] a = absurd a
lengths tables (f ∷ fs) (g ∷ gs) a = ap suc (lengths (rows_behind tables) fs gs a.1)

takes_same : (tables : List (List Class)) (fs gs : List Function) → AreCommonedFunctions tables fs gs → (k count : ℕ) → TakesArguments (slice_get fs k) count → TakesArguments (slice_get gs k) count
takes_same tables [] [] a k count t = t
takes_same tables [] (g ∷ gs) a k count t = absurd a
takes_same tables (f ∷ fs) [] a k count t = absurd a
takes_same tables (f ∷ fs) (g ∷ gs) a zero count t = let h = a.0 in t ∙ sym h.parameters
takes_same tables (f ∷ fs) (g ∷ gs) a (suc k) count t = takes_same (rows_behind tables) fs gs a.1 k count t

-- ---- what is well made stays so

main_same : (tables : List (List Class)) (fs gs : List Function) → AreCommonedFunctions tables fs gs → (k : ℕ) → IsMain (slice_get fs k) → IsMain (slice_get gs k)
main_same tables [] [] a k m = m
main_same tables [] (g ∷ gs) a k m = absurd a
main_same tables (f ∷ fs) [] a k m = absurd a
main_same tables (f ∷ fs) (g ∷ gs) a zero m =
    let h = a.0 in
    (h.parameters ∙ m.0, subst (λ (b : Bool). IsTrue b) (sym (ap never_returns h.body ∙ never_same (classes_of tables 0) (form_of f.body) [])) m.1)
main_same tables (f ∷ fs) (g ∷ gs) a (suc k) m = main_same (rows_behind tables) fs gs a.1 k m

module _ (all new : List Function) (as_many : length new ≡ length all) (takes : (g count : ℕ) → TakesArguments (slice_get all g) count → TakesArguments (slice_get new g) count) where
  function_in : (c : Classes) (f g : Function) → IsCommonedFunction c f g → FunctionIn all f → FunctionIn new g
  function_in c f g h i = record {
    parameters = (let p = i.parameters in let same = h.parameters in let number = h.variables in omega (arith, p, same, number));
    names =
        subst (λ (n : ℕ). Each (ItemIn new n) (TestIn n) (form_of g.body)) (sym h.variables)
        (subst (λ (code : Form). Each (ItemIn new f.variables) (TestIn f.variables) code) (sym h.body)
        (code_in all new as_many takes f.variables c (form_of f.body) [] tt i.names));
    loops = subst (λ (b : Bool). IsTrue b) (sym (ap (stays false) h.body ∙ stays_same c (form_of f.body) false [])) i.loops;
    ends = subst (λ (b : Bool). IsTrue b) (sym (ap closes h.body ∙ closes_same c (form_of f.body) [])) i.ends;
  }

  functions_in : (tables : List (List Class)) (fs gs : List Function) → AreCommonedFunctions tables fs gs → AllByRecursion (FunctionIn all) fs → AllByRecursion (FunctionIn new) gs
  functions_in tables [] [] a s = tt
  functions_in tables [] (g ∷ gs) a s = absurd a
  functions_in tables (f ∷ fs) [] a s = absurd a
  functions_in tables (f ∷ fs) (g ∷ gs) a s = (function_in (classes_of tables 0) f g a.0 s.0, functions_in (rows_behind tables) fs gs a.1 s.1)

first_in : (c : Classes) (f g : Function) → IsCommonedFunction c f g → IsFunctionSetFirst f → IsFunctionSetFirst g
first_in c f g h s = rw (h.body, h.parameters) (first_kept c (form_of f.body) [] (parameters_set f.parameters) tt s)

firsts_in : (tables : List (List Class)) (fs gs : List Function) → AreCommonedFunctions tables fs gs → AllByRecursion IsFunctionSetFirst fs → AllByRecursion IsFunctionSetFirst gs
firsts_in tables [] [] a s = tt
firsts_in tables [] (g ∷ gs) a s = absurd a
firsts_in tables (f ∷ fs) [] a s = absurd a
firsts_in tables (f ∷ fs) (g ∷ gs) a s = (first_in (classes_of tables 0) f g a.0 s.0, firsts_in (rows_behind tables) fs gs a.1 s.1)

-- ---- what is counted by the sets

loads_alike : (c : Classes) → CountsAlike c (λ item. bit (is_load_into c.s item))
loads_alike c q (Assign v x) = refl
loads_alike c q (Load v kind x) = refl
loads_alike c q (Store width x y) = refl
loads_alike c q (Print spelling x) = refl
loads_alike c q (Expect check) = refl
loads_alike c q Break = refl
loads_alike c q Continue = refl
loads_alike c q (Call v g xs) = refl
loads_alike c q (Return x) = refl
loads_alike c q (Halt x) = refl

loads_same : (c : Classes) (code : Form) → own_loads c (commoned_code c [] code) ≡ own_loads c code
loads_same c code = tally_same c (λ item. bit (is_load_into c.s item)) (loads_alike c) (λ t. 0) (λ q t. refl) code []

conditions_same : (c : Classes) (code : Form) → conditions_a c (commoned_code c [] code) ≡ conditions_a c code
conditions_same c code = tally_same c (λ item. 0) (λ q item. refl) (λ t. bit (is_by_a c.s t)) (λ q t. ap bit (test_same c q t)) code []

-- ---- the form

module _ (tables : List (List Class)) (ir new : Ir) (of : IsCommoningOf tables ir new) where
  abbrev classes : ℕ → Classes
  classes k = classes_of tables k

  abbrev sets : ℕ → VariableSet
  sets k = (classes k).s

  body_same : (k : ℕ) → body_in (slice_get new.functions k) ≡ commoned_code (classes k) [] (body_in (slice_get ir.functions k))
  body_same = body_at tables ir.functions new.functions of.functions

  same_outcome : (n : ℕ) (memory : List ℕ) → outcome new n memory ≡ outcome ir n memory
  same_outcome n memory =
      ap (λ (depth : ℕ). calls_of (program_of new) all_loads n depth new.main [] (start new memory)) of.calls
      ∙ ap (λ (f : ℕ). calls_of (program_of new) all_loads n ir.calls f [] (start new memory)) of.main
      ∙ ap (λ (w : World). calls_of (program_of new) all_loads n ir.calls ir.main [] w) (let same : start new memory ≡ start ir memory = rw of.frames refl in same)
      ∙ calls_same (program_of ir) (program_of new) (frames_same tables ir.functions new.functions of.functions) of.calls classes body_same n ir.calls ir.main [] (start ir memory)

  closed : AreAddressesClosed (program_of ir) sets → AreAddressesClosed (program_of new) sets
  closed h f =
      subst (λ (code : Form). Each (AddressesKept sets (sets f)) (λ t. Unit {0}) code) (sym (body_same f))
      (code_kept (classes f) sets (body_in (slice_get ir.functions f)) [] (h f))

  abbrev CountAlike : ℕ → Form → Form → Type 0
  CountAlike k code code' = (own_loads (classes k) code' ≡ own_loads (classes k) code) × (conditions_a (classes k) code' ≡ conditions_a (classes k) code)

  counted : (k : ℕ) → CountAlike k (body_in (slice_get ir.functions k)) (body_in (slice_get new.functions k))
  counted k =
      let code = body_in (slice_get ir.functions k) in
      subst (λ (code' : Form). CountAlike k code code') (sym (body_same k)) (loads_same (classes k) code, conditions_same (classes k) code)

  counted_at : (k : ℕ) (f g : Function) → slice_get ir.functions k ≡ Some f → slice_get new.functions k ≡ Some g → CountAlike k (form_of f.body) (form_of g.body)
  counted_at k f g at at' =
      subst (λ (o : Option Function). CountAlike k (form_of f.body) (body_in o)) at'
      (subst (λ (o : Option Function). CountAlike k (body_in o) (body_in (slice_get new.functions k))) at (counted k))

  scoped : IsScoped ir → IsScoped new
  scoped s = record {
    main = rw of.main (main_same tables ir.functions new.functions of.functions ir.main s.main);
    functions = functions_in ir.functions new.functions (lengths tables ir.functions new.functions of.functions) (takes_same tables ir.functions new.functions of.functions) tables ir.functions new.functions of.functions s.functions;
  }

pub forms_are_commoned : FormsAreCommoned
forms_are_commoned tables ir new of = record {
  outcomes = same_outcome tables ir new of;
  scoped = scoped tables ir new of;
  first = firsts_in tables ir.functions new.functions of.functions;
  closed = closed tables ir new of;
  same = counted_at tables ir new of;
}
