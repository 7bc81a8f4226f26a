-- Whole forms without the checks of places that are known to pass.
use Rattle.std.proofs.Common.{◌≡◌, ℕ, zero, suc, Bool, false, List, [], ◌∷◌, length, Option, Some, refl, ap, sym, ◌∙◌, subst, arith}
use Rattle.std.specs.Prelude.{slice_get, IsTrue}
use Rattle.std.specs.List.{AllByRecursion}
use Rattle.dae_meaning.specs.Worlds.{World}
use Rattle.dae_meaning.specs.Variables.{VariableSet, parameters_set}
use Rattle.dae_ir.specs.Code.{Each}
use Rattle.dae_ir.specs.Form.{Form, form_of, calls_of, all_loads}
use Rattle.dae_ir.specs.Classes.{Classes, is_by_a}
use Rattle.dae_ir.specs.Programs.{body_in, frame_in, program_of, outcome, start}
use Rattle.dae_ir.specs.Sizes.{bit, is_load_into, own_loads, conditions_a}
use Rattle.dae_ir.specs.Scope.{IsScoped, FunctionIn, IsMain, ItemIn, TestIn, TakesArguments}
use Rattle.dae_ir.specs.SetFirst.{form_flow, IsSetFirst, IsFunctionSetFirst}
use Rattle.dae_ir.specs.declared.form.Function.{Function}
use Rattle.dae_ir.specs.declared.form.Ir.{Ir}
use Rattle.dae_ir.proofs.Laws.{KeepsArguments}
use Rattle.dae_select_walks.specs.Facts.{unknown}
use Rattle.dae_elide.specs.Elided.{elided}
use Rattle.dae_elide.specs.Forms.{IsElidedFunction, AreElidedFunctions, IsElisionOf, KeepsOutcome, ElisionKeepsSizes, ChecksAreElided}
use Rattle.dae_elide.proofs.Running.{same_calls}
use Rattle.dae_elide.proofs.Elides.{Elides, code_elides}
use Rattle.dae_elide.proofs.Lasting.{names_in, stays_same, closes_same, never_same, first_kept, addresses_kept, counts_same, size_same}

-- ---- functions one by one

module _ (memory : ℕ) where
  body_elides : (f g : Function) → IsElidedFunction memory f g → Elides (form_of f.body) (form_of g.body)
  body_elides f g r = subst (λ (c : Form). Elides (form_of f.body) c) (sym r.body) (code_elides memory r.chosen (form_of f.body) unknown)

  -- the variables that were chosen in a function
  abbrev chosen_in : (fs gs : List Function) → AreElidedFunctions memory fs gs → ℕ → VariableSet
  chosen_in [] [] a k = λ v. false
  chosen_in [] (g ∷ gs) a k = absurd a
  chosen_in (f ∷ fs) [] a k = absurd a
  chosen_in (f ∷ fs) (g ∷ gs) a zero = let r = a.0 in r.chosen
  chosen_in (f ∷ fs) (g ∷ gs) a (suc k) = chosen_in fs gs a.1 k

  bodies : (fs gs : List Function) (a : AreElidedFunctions memory fs gs) (k : ℕ) → body_in (slice_get gs k) ≡ elided memory (chosen_in fs gs a k) unknown (body_in (slice_get fs k))
  bodies [] [] a k = refl
  bodies [] (g ∷ gs) a k = absurd a
  bodies (f ∷ fs) [] a k = absurd a
  bodies (f ∷ fs) (g ∷ gs) a zero = let r = a.0 in r.body
  bodies (f ∷ fs) (g ∷ gs) a (suc k) = bodies fs gs a.1 k

  frames : (fs gs : List Function) → AreElidedFunctions memory fs gs → (k : ℕ) → frame_in (slice_get gs k) ≡ frame_in (slice_get fs k)
  frames [] [] a k = refl
  frames [] (g ∷ gs) a k = absurd a
  frames (f ∷ fs) [] a k = absurd a
  frames (f ∷ fs) (g ∷ gs) a zero = let r = a.0 in r.frame
  frames (f ∷ fs) (g ∷ gs) a (suc k) = frames fs gs a.1 k

  lengths : (fs gs : List Function) → AreElidedFunctions memory fs gs → length gs ≡ length fs
  lengths [] [] a = refl
  lengths [] (g ∷ gs) a = absurd a
  lengths (f ∷ fs) [] a = absurd a
  lengths (f ∷ fs) (g ∷ gs) a = ap suc (lengths fs gs a.1)

  takes_same : (fs gs : List Function) → AreElidedFunctions memory fs gs → (k count : ℕ) → TakesArguments (slice_get fs k) count → TakesArguments (slice_get gs k) count
  takes_same [] [] a k count t = t
  takes_same [] (g ∷ gs) a k count t = absurd a
  takes_same (f ∷ fs) [] a k count t = absurd a
  takes_same (f ∷ fs) (g ∷ gs) a zero count t = let r = a.0 in t ∙ sym r.parameters
  takes_same (f ∷ fs) (g ∷ gs) a (suc k) count t = takes_same fs gs a.1 k count t

  -- ---- what is well made stays so

  main_same : (fs gs : List Function) → AreElidedFunctions memory fs gs → (k : ℕ) → IsMain (slice_get fs k) → IsMain (slice_get gs k)
  main_same [] [] a k m = m
  main_same [] (g ∷ gs) a k m = absurd a
  main_same (f ∷ fs) [] a k m = absurd a
  main_same (f ∷ fs) (g ∷ gs) a (suc k) m = main_same fs gs a.1 k m
  main_same (f ∷ fs) (g ∷ gs) a zero m =
      let r = a.0 in (r.parameters ∙ m.0, subst (λ (b : Bool). IsTrue b) (sym (never_same (form_of f.body) (form_of g.body) (body_elides f g r))) m.1)

  function_in : (all new : List Function) → KeepsArguments all new → (f g : Function) → IsElidedFunction memory f g → FunctionIn all f → FunctionIn new g
  function_in all new keeps f g r i =
      let c : Form = form_of f.body in
      let d : Form = form_of g.body in
      let h : Elides c d = body_elides f g r in
      record {
        parameters = (let p = i.parameters in let n = r.parameters in let m = r.variables in omega (arith, p, n, m));
        names = subst (λ (n : ℕ). Each (ItemIn new n) (TestIn n) d) (sym r.variables) (names_in all new keeps f.variables c d h i.names);
        loops = subst (λ (b : Bool). IsTrue b) (sym (stays_same c d false h)) i.loops;
        ends = subst (λ (b : Bool). IsTrue b) (sym (closes_same c d h)) i.ends;
      }

  functions_in : (all new : List Function) → KeepsArguments all new → (fs gs : List Function) → AreElidedFunctions memory fs gs → AllByRecursion (FunctionIn all) fs → AllByRecursion (FunctionIn new) gs
  functions_in all new keeps [] [] a s = tt
  functions_in all new keeps [] (g ∷ gs) a s = absurd a
  functions_in all new keeps (f ∷ fs) [] a s = absurd a
  functions_in all new keeps (f ∷ fs) (g ∷ gs) a s = (function_in all new keeps f g a.0 s.0, functions_in all new keeps fs gs a.1 s.1)

  first_in : (f g : Function) → IsElidedFunction memory f g → IsFunctionSetFirst f → IsFunctionSetFirst g
  first_in f g r h =
      subst (λ (n : ℕ). IsSetFirst form_flow (parameters_set n) (form_of g.body)) (sym r.parameters)
      (first_kept (form_of f.body) (form_of g.body) (parameters_set f.parameters) (body_elides f g r) h).0

  firsts_in : (fs gs : List Function) → AreElidedFunctions memory fs gs → AllByRecursion IsFunctionSetFirst fs → AllByRecursion IsFunctionSetFirst gs
  firsts_in [] [] a s = tt
  firsts_in [] (g ∷ gs) a s = absurd a
  firsts_in (f ∷ fs) [] a s = absurd a
  firsts_in (f ∷ fs) (g ∷ gs) a s = (first_in f g a.0 s.0, firsts_in fs gs a.1 s.1)

  -- ---- what leads to addresses

  elides_at : (fs gs : List Function) → AreElidedFunctions memory fs gs → (k : ℕ) → Elides (body_in (slice_get fs k)) (body_in (slice_get gs k))
  elides_at fs gs a k = subst (λ (c : Form). Elides (body_in (slice_get fs k)) c) (sym (bodies fs gs a k)) (code_elides memory (chosen_in fs gs a k) (body_in (slice_get fs k)) unknown)

  abbrev Counts : Classes → Form → Form → Type 0
  Counts c old new = (own_loads c new ≡ own_loads c old) × (conditions_a c new ≡ conditions_a c old)

  counted : (c : Classes) (old new : Form) → Elides old new → Counts c old new
  counted c old new h = (
    counts_same (λ item. bit (is_load_into c.s item)) (λ t. 0) (λ width v. refl) old new h,
    counts_same (λ item. 0) (λ t. bit (is_by_a c.s t)) (λ width v. refl) old new h,
  )

-- ---- the form

module _ (ir new : Ir) (scoped : IsScoped ir) (of : IsElisionOf ir new) where
  at_start : (memory : List ℕ) → start new memory ≡ start ir memory
  at_start memory = rw of.frames refl

  same_outcome : (n : ℕ) (memory : List ℕ) → length memory ≡ ir.memory → outcome new n memory ≡ outcome ir n memory
  same_outcome n memory size =
      ap (λ (w : World). calls_of (program_of new) all_loads n new.calls new.main [] w) (at_start memory)
      ∙ ap (λ (f : ℕ). calls_of (program_of new) all_loads n new.calls f [] (start ir memory)) of.main
      ∙ ap (λ (c : ℕ). calls_of (program_of new) all_loads n c ir.main [] (start ir memory)) of.calls
      ∙ same_calls (program_of ir) (program_of new) (frames ir.memory ir.functions new.functions of.functions) of.calls ir.memory (chosen_in ir.memory ir.functions new.functions of.functions) (bodies ir.memory ir.functions new.functions of.functions) all_loads n ir.calls ir.main [] (start ir memory) size

  arguments : KeepsArguments ir.functions new.functions
  arguments = record { count = lengths ir.memory ir.functions new.functions of.functions; takes = takes_same ir.memory ir.functions new.functions of.functions }

  counted_at : (c : Classes) (k : ℕ) (f g : Function) → slice_get ir.functions k ≡ Some f → slice_get new.functions k ≡ Some g → Counts ir.memory c (form_of f.body) (form_of g.body)
  counted_at c k f g at at' =
      subst (λ (o : Option Function). Counts ir.memory c (form_of f.body) (body_in o)) at'
      (subst (λ (o : Option Function). Counts ir.memory c (body_in o) (body_in (slice_get new.functions k))) at
      (counted ir.memory c (body_in (slice_get ir.functions k)) (body_in (slice_get new.functions k)) (elides_at ir.memory ir.functions new.functions of.functions k)))

  keeps : KeepsOutcome ir new
  keeps = record {
    meaning = same_outcome;
    scoped = record {
      main = rw of.main (main_same ir.memory ir.functions new.functions of.functions ir.main scoped.main);
      functions = functions_in ir.memory ir.functions new.functions arguments ir.functions new.functions of.functions scoped.functions;
    };
    first = firsts_in ir.memory ir.functions new.functions of.functions;
    access = λ sets closed f. addresses_kept (λ k. (sets k).s) (sets f).s (body_in (slice_get ir.functions f)) (body_in (slice_get new.functions f)) (elides_at ir.memory ir.functions new.functions of.functions f) (closed f);
    counts = counted_at;
  }

pub elision_keeps_sizes : ElisionKeepsSizes
elision_keeps_sizes memory f g r =
    let h = body_elides memory f g r in
    record {
      variables = r.variables;
      size = size_same (form_of f.body) (form_of g.body) h;
      tallies = λ count tests alike. counts_same count tests alike (form_of f.body) (form_of g.body) h;
    }

pub checks_are_elided : ChecksAreElided
checks_are_elided ir new scoped of = keeps ir new scoped of
