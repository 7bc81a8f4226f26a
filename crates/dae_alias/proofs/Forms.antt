-- Whole forms whose loads are reused.
use Rattle.std.proofs.Common.{◌≡◌, ℕ, zero, suc, ◌+◌, ◌<◌, ◌≤◌, Bool, List, [], ◌∷◌, length, Option, Some, None, refl, ap, sym, ◌∙◌, subst, arith}
use Rattle.std.specs.Prelude.{slice_get, IsTrue}
use Rattle.std.specs.List.{AllByRecursion}
use Rattle.dae_meaning.specs.Worlds.{World}
use Rattle.dae_meaning.specs.Alike.{Alike}
use Rattle.dae_ir.specs.Code.{Each}
use Rattle.dae_ir.specs.Form.{Form, form_of, calls_of, all_loads}
use Rattle.dae_ir.specs.Classes.{classes_of}
use Rattle.dae_ir.specs.Programs.{body_in, frame_in, program_of, outcome, start}
use Rattle.dae_ir.specs.Sizes.{own_loads, conditions_a}
use Rattle.dae_ir.specs.Scope.{IsScoped, FunctionIn, IsMain, ItemIn, TestIn, TakesArguments, never_returns}
use Rattle.dae_ir.specs.SetFirst.{IsFunctionSetFirst, parameters_set}
use Rattle.dae_ir.specs.declared.form.Function.{Function}
use Rattle.dae_ir.specs.declared.form.Ir.{Ir}
use Rattle.dae_alias.specs.Stretches.{nothing, HasNoSecond}
use Rattle.dae_alias.specs.Reuse.{Holders, reused}
use Rattle.dae_alias.specs.Laws.{Cheaper, Costs, SameResult, IsReused, KeepsParameters, HasRepeated}
use Rattle.dae_alias.specs.Forms.{IsReusedFunction, AreReused, IsReuseOf, KeepsForm, FormsAreReused}
use Rattle.dae_alias.proofs.Meaning.{reuse_keeps_meaning}
use Rattle.dae_alias.proofs.NoSecond.{no_second_is_left}
use Rattle.dae_alias.proofs.Slices.{reuse_adds_nothing}
use Rattle.dae_alias.proofs.Scopes.{reuse_keeps_scope, reuse_keeps_order}

holders_in : (fs gs : List Function) → AreReused fs gs → ℕ → Holders
holders_in [] [] a f i = None
holders_in [] (g ∷ gs) a f i = absurd a
holders_in (f ∷ fs) [] a k i = absurd a
holders_in (f ∷ fs) (g ∷ gs) a zero i = let r = a.0 in r.holders i
holders_in (f ∷ fs) (g ∷ gs) a (suc k) i = holders_in fs gs a.1 k i

abbrev own_in : Option Function → ℕ
own_in None = 1
own_in (Some f) = f.variables

bodies : (fs gs : List Function) (a : AreReused fs gs) (k : ℕ) → body_in (slice_get gs k) ≡ reused (holders_in fs gs a k) nothing [] 0 (body_in (slice_get fs k))
unfolding holders_in
bodies [] [] a k = refl
bodies [] (g ∷ gs) a k = absurd a
bodies (f ∷ fs) [] a k = absurd a
bodies (f ∷ fs) (g ∷ gs) a zero = let r = a.0 in r.body
bodies (f ∷ fs) (g ∷ gs) a (suc k) = bodies fs gs a.1 k

frames : (fs gs : List Function) (a : AreReused fs gs) (k : ℕ) → frame_in (slice_get gs k) ≡ frame_in (slice_get fs k)
frames [] [] a k = refl
frames [] (g ∷ gs) a k = absurd a
frames (f ∷ fs) [] a k = absurd a
frames (f ∷ fs) (g ∷ gs) a zero = let r = a.0 in r.frame
frames (f ∷ fs) (g ∷ gs) a (suc k) = frames fs gs a.1 k

owns : (fs gs : List Function) (a : AreReused fs gs) (k i u : ℕ) → holders_in fs gs a k i ≡ Some u → own_in (slice_get fs k) ≤ u
unfolding holders_in
owns [] [] a k i u is = cc
owns [] (g ∷ gs) a k i u is = absurd a
owns (f ∷ fs) [] a k i u is = absurd a
owns (f ∷ fs) (g ∷ gs) a zero i u is = let r = a.0 in (r.inside i u is).0
owns (f ∷ fs) (g ∷ gs) a (suc k) i u is = owns fs gs a.1 k i u is

aparts : (fs gs : List Function) (a : AreReused fs gs) (k i j u : ℕ) → holders_in fs gs a k i ≡ Some u → holders_in fs gs a k j ≡ Some u → i ≡ j
unfolding holders_in
aparts [] [] a k i j u p q = cc
aparts [] (g ∷ gs) a k i j u p q = absurd a
aparts (f ∷ fs) [] a k i j u p q = absurd a
aparts (f ∷ fs) (g ∷ gs) a zero i j u p q = let r = a.0 in r.apart i j u p q
aparts (f ∷ fs) (g ∷ gs) a (suc k) i j u p q = aparts fs gs a.1 k i j u p q

repeated_in : (fs gs : List Function) (a : AreReused fs gs) (k : ℕ) → HasRepeated (holders_in fs gs a k) (body_in (slice_get fs k))
unfolding holders_in
repeated_in [] [] a k = λ i is. cc
repeated_in [] (g ∷ gs) a k = absurd a
repeated_in (f ∷ fs) [] a k = absurd a
repeated_in (f ∷ fs) (g ∷ gs) a zero = let r = a.0 in r.repeated
repeated_in (f ∷ fs) (g ∷ gs) a (suc k) = repeated_in fs gs a.1 k

module _ (all : List Function) where
  somes : (fs : List Function) → AllByRecursion (FunctionIn all) fs → (k : ℕ) → 0 < own_in (slice_get fs k)
  somes [] s k = omega arith
  somes (f ∷ fs) s zero = let i = s.0 in let p = i.parameters in omega (arith, p)
  somes (f ∷ fs) s (suc k) = somes fs s.1 k

  names_in : (fs : List Function) → AllByRecursion (FunctionIn all) fs → (k : ℕ) → Each (ItemIn all (own_in (slice_get fs k))) (TestIn (own_in (slice_get fs k))) (body_in (slice_get fs k))
  names_in [] s k = tt
  names_in (f ∷ fs) s zero = let i = s.0 in i.names
  names_in (f ∷ fs) s (suc k) = names_in fs s.1 k

  takes_in : (fs : List Function) → AllByRecursion (FunctionIn all) fs → (k count : ℕ) → TakesArguments (slice_get fs k) count → count < own_in (slice_get fs k)
  takes_in [] s k count t = absurd t
  takes_in (f ∷ fs) s zero count t = let i = s.0 in let p = i.parameters in omega (arith, p, t)
  takes_in (f ∷ fs) s (suc k) count t = takes_in fs s.1 k count t

-- ---- parameters

lengths : (fs gs : List Function) → AreReused fs gs → length gs ≡ length fs
lengths [] [] a = refl
lengths [] (g ∷ gs) a = absurd a
lengths (f ∷ fs) [] a = absurd a
lengths (f ∷ fs) (g ∷ gs) a = ap suc (lengths fs gs a.1)

takes_same : (fs gs : List Function) → AreReused fs gs → (k count : ℕ) → TakesArguments (slice_get fs k) count → TakesArguments (slice_get gs k) count
takes_same [] [] a k count t = t
takes_same [] (g ∷ gs) a k count t = absurd a
takes_same (f ∷ fs) [] a k count t = absurd a
takes_same (f ∷ fs) (g ∷ gs) a zero count t = let r = a.0 in t ∙ sym r.parameters
takes_same (f ∷ fs) (g ∷ gs) a (suc k) count t = takes_same fs gs a.1 k count t

main_same : (all fs gs : List Function) → AreReused fs gs → AllByRecursion (FunctionIn all) fs → (k : ℕ) → IsMain (slice_get fs k) → IsMain (slice_get gs k)
main_same all [] [] a s k m = m
main_same all [] (g ∷ gs) a s k m = absurd a
main_same all (f ∷ fs) [] a s k m = absurd a
main_same all (f ∷ fs) (g ∷ gs) a s (suc k) m = main_same all fs gs a.1 s.1 k m
main_same all (f ∷ fs) (g ∷ gs) a s zero m =
    let r = a.0 in
    let i = s.0 in
    let p = i.parameters in
    let z = reuse_keeps_scope all all r.holders f.variables (f.variables + g.variables) (refl, λ g count t. t) (omega (arith, p)) (omega arith)
    (λ i u is. (let w = r.inside i u is in (w.0, omega (arith, w.1)))) (form_of f.body) i.names in
    (r.parameters ∙ m.0, subst (λ (c : Form). IsTrue (never_returns c)) (sym r.body) (subst (λ (b : Bool). IsTrue b) (sym z.3) m.1))

function_in : (all new : List Function) → KeepsParameters all new → (f g : Function) → IsReusedFunction f g → FunctionIn all f → FunctionIn new g
function_in all new same f g r i =
    let p = i.parameters in
    let v = r.variables in
    let z = reuse_keeps_scope all new r.holders f.variables g.variables same (omega (arith, p)) (omega (arith, v)) r.inside (form_of f.body) i.names in
    record {
      parameters = (let q = r.parameters in omega (arith, p, q, v));
      names = rw r.body z.0;
      loops = rw r.body (rw z.1 i.loops);
      ends = rw r.body (rw z.2 i.ends);
    }

functions_in : (all new : List Function) → KeepsParameters all new → (fs gs : List Function) → AreReused fs gs → AllByRecursion (FunctionIn all) fs → AllByRecursion (FunctionIn new) gs
functions_in all new same [] [] a s = tt
functions_in all new same [] (g ∷ gs) a s = absurd a
functions_in all new same (f ∷ fs) [] a s = absurd a
functions_in all new same (f ∷ fs) (g ∷ gs) a s = (function_in all new same f g a.0 s.0, functions_in all new same fs gs a.1 s.1)

firsts_in : (fs gs : List Function) → AreReused fs gs → AllByRecursion IsFunctionSetFirst fs → AllByRecursion IsFunctionSetFirst gs
firsts_in [] [] a s = tt
firsts_in [] (g ∷ gs) a s = absurd a
firsts_in (f ∷ fs) [] a s = absurd a
firsts_in (f ∷ fs) (g ∷ gs) a s =
    (let r = a.0 in rw (r.body, r.parameters) (reuse_keeps_order r.holders (parameters_set f.parameters) (form_of f.body) s.0), firsts_in fs gs a.1 s.1)

-- what is true of the code at each place is true of each function
each_in : (P : Form → Type 0) (gs : List Function) → ((k : ℕ) → P (body_in (slice_get gs k))) → AllByRecursion (λ (g : Function). P (form_of g.body)) gs
each_in P [] h = tt
each_in P (g ∷ gs) h = (h zero, each_in P gs (λ k. h (suc k)))

module _ (ir new : Ir) (scoped : IsScoped ir) (of : IsReuseOf ir new) where
  holders : ℕ → Holders
  holders = holders_in ir.functions new.functions of.functions

  own : ℕ → ℕ
  own f = own_in (slice_get ir.functions f)

  is_reused : IsReused ir.functions holders own (program_of ir) (program_of new)
  unfolding holders own
  is_reused = record {
    body = bodies ir.functions new.functions of.functions;
    frame = frames ir.functions new.functions of.functions;
    limit = of.calls;
    some = somes ir.functions ir.functions scoped.functions;
    own = owns ir.functions new.functions of.functions;
    apart = aparts ir.functions new.functions of.functions;
    names = names_in ir.functions ir.functions scoped.functions;
  }

  same : KeepsParameters ir.functions new.functions
  same = (lengths ir.functions new.functions of.functions, takes_same ir.functions new.functions of.functions)

  at_start : (memory : List ℕ) → start new memory ≡ start ir memory
  at_start memory = rw of.frames refl

  keeps : KeepsForm ir new
  unfolding holders own
  keeps = record {
    meaning = λ n memory fits.
        subst (λ (w : World). Alike SameResult Cheaper (outcome ir n memory) (calls_of (program_of new) all_loads n new.calls new.main [] w)) (sym (at_start memory))
        (subst (λ (f : ℕ). Alike SameResult Cheaper (outcome ir n memory) (calls_of (program_of new) all_loads n new.calls f [] (start ir memory))) (sym of.main)
        (subst (λ (c : ℕ). Alike SameResult Cheaper (outcome ir n memory) (calls_of (program_of new) all_loads n c ir.main [] (start ir memory))) (sym of.calls)
        (reuse_keeps_meaning ir.functions holders own (program_of ir) (program_of new) is_reused n ir.calls ir.main [] (start ir memory) (start ir memory)
        (Costs (start ir memory) 0 0 0 0 fits (omega arith) (omega arith)))));
    scoped = record {
      main = rw of.main (main_same ir.functions ir.functions new.functions of.functions scoped.functions ir.main scoped.main);
      functions = functions_in ir.functions new.functions same ir.functions new.functions of.functions scoped.functions;
    };
    first = firsts_in ir.functions new.functions of.functions;
    no_second = each_in HasNoSecond new.functions (λ k. no_second_is_left ir.functions holders own (program_of ir) (program_of new) is_reused k (repeated_in ir.functions new.functions of.functions k));
    access = λ sets kept tables least k f g at at'.
        subst (λ (o : Option Function). (own_loads (classes_of tables k) (body_in o) ≤ own_loads (sets k) (form_of f.body)) × (conditions_a (classes_of tables k) (body_in o) ≤ conditions_a (sets k) (form_of f.body))) at'
        (subst (λ (o : Option Function). (own_loads (classes_of tables k) (body_in (slice_get new.functions k)) ≤ own_loads (sets k) (body_in o))
        × (conditions_a (classes_of tables k) (body_in (slice_get new.functions k)) ≤ conditions_a (sets k) (body_in o))) at
        (reuse_adds_nothing ir.functions holders own (program_of ir) (program_of new) is_reused (takes_in ir.functions ir.functions scoped.functions) sets (classes_of tables) kept least k));
  }

pub forms_are_reused : FormsAreReused
forms_are_reused ir new scoped of = keeps ir new scoped of
