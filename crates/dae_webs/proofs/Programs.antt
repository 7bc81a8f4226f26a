-- Whole forms whose variables are renamed by webs.
use Rattle.std.proofs.Common.{◌≡◌, ℕ, zero, suc, ◌<◌, Bool, List, [], ◌∷◌, length, Option, Some, None, inl, inr, refl, ap, sym, ◌∙◌, subst, arith}
use Rattle.std.specs.Prelude.{slice_get, IsTrue}
use Rattle.std.specs.List.{AllByRecursion}
use Rattle.dae_meaning.specs.Worlds.{World}
use Rattle.dae_meaning.specs.Results.{Result}
use Rattle.dae_meaning.specs.Alike.{Alike, BothAt, BothOver, Same}
use Rattle.dae_meaning.specs.Variables.{Env}
use Rattle.dae_ir.specs.Code.{Done}
use Rattle.dae_ir.specs.Form.{Form, form_of, calls_of, all_loads}
use Rattle.dae_ir.specs.Classes.{Classes, AreAddressesClosed}
use Rattle.dae_ir.specs.Programs.{body_in, frame_in, program_of, outcome, start}
use Rattle.dae_ir.specs.Sizes.{own_loads, conditions_a}
use Rattle.dae_ir.specs.Scope.{IsScoped, FunctionIn, IsMain, TakesArguments}
use Rattle.dae_ir.specs.SetFirst.{IsFunctionSetFirst, parameters_set}
use Rattle.dae_ir.specs.declared.form.Function.{Function}
use Rattle.dae_ir.specs.declared.form.Ir.{Ir}
use Rattle.dae_ir.proofs.Laws.{KeepsArguments}
use Rattle.dae_webs.specs.Forms.{IsRenamedOrSame, AreRenamedFunctions, IsRenamingOf, HaveSameResult, HasSameAccess, KeepsFormExactly, FormsAreRenamed}
use Rattle.dae_webs.proofs.Simulation.{EndsSame, SameAt, SameOver, Renamer, calls_same}
use Rattle.dae_webs.proofs.Accesses.{classes_by_webs, function_kept, function_loads, function_conditions}
use Rattle.dae_webs.proofs.Scoping.{names_in, function_stays, function_closes, function_never}
use Rattle.dae_webs.proofs.Ordering.{first_kept}
use Rattle.dae_webs.proofs.Staying.{staying}

abbrev own_in : Option Function → ℕ
own_in None = 1
own_in (Some f) = f.variables

-- ---- each function has its renaming

renamer_of : (all : List Function) (f g : Function) → IsRenamedOrSame f g → FunctionIn all f → Renamer all f.variables g.variables (form_of f.body) (form_of g.body)
renamer_of all f g (inl same) i =
    let p = i.parameters in
    subst (λ (h : Function). Renamer all f.variables h.variables (form_of f.body) (form_of h.body)) (sym same) (staying f.variables all (omega (arith, p)) (form_of f.body) i.names)
renamer_of all f g (inr r) i = record {
  starts = r.starts;
  owns = r.owns;
  owner = r.owner;
  some = (let p = i.parameters in omega (arith, p));
  few = r.least;
  kept = r.own;
  owned = r.owned;
  names = i.names;
  body = r.body;
  known = r.known;
}

module _ (all : List Function) where
  renamer_at : (fs gs : List Function) → AreRenamedFunctions fs gs → AllByRecursion (FunctionIn all) fs → (k : ℕ)
      → Renamer all (own_in (slice_get fs k)) (own_in (slice_get gs k)) (body_in (slice_get fs k)) (body_in (slice_get gs k))
  renamer_at [] [] a s k = staying 1 all (omega arith) Done tt
  renamer_at [] (g ∷ gs) a s k = absurd a
  renamer_at (f ∷ fs) [] a s k = absurd a
  renamer_at (f ∷ fs) (g ∷ gs) a s zero = renamer_of all f g a.0 s.0
  renamer_at (f ∷ fs) (g ∷ gs) a s (suc k) = renamer_at fs gs a.1 s.1 k

  takes_in : (fs : List Function) → AllByRecursion (FunctionIn all) fs → (k count : ℕ) → TakesArguments (slice_get fs k) count → count < own_in (slice_get fs k)
  takes_in [] s k count t = absurd t
  takes_in (f ∷ fs) s zero count t = let i = s.0 in let p = i.parameters in omega (arith, p, t)
  takes_in (f ∷ fs) s (suc k) count t = takes_in fs s.1 k count t

frame_same : (f g : Function) → IsRenamedOrSame f g → g.frame ≡ f.frame
frame_same f g (inl same) = ap (λ (h : Function). h.frame) same
frame_same f g (inr r) = r.frame

parameters_same : (f g : Function) → IsRenamedOrSame f g → g.parameters ≡ f.parameters
parameters_same f g (inl same) = ap (λ (h : Function). h.parameters) same
parameters_same f g (inr r) = r.parameters

frames : (fs gs : List Function) → AreRenamedFunctions fs gs → (k : ℕ) → frame_in (slice_get gs k) ≡ frame_in (slice_get fs k)
frames [] [] a k = refl
frames [] (g ∷ gs) a k = absurd a
frames (f ∷ fs) [] a k = absurd a
frames (f ∷ fs) (g ∷ gs) a zero = frame_same f g a.0
frames (f ∷ fs) (g ∷ gs) a (suc k) = frames fs gs a.1 k

lengths : (fs gs : List Function) → AreRenamedFunctions fs gs → length gs ≡ length fs
lengths [] [] a = refl
lengths [] (g ∷ gs) a = absurd a
lengths (f ∷ fs) [] a = absurd a
lengths (f ∷ fs) (g ∷ gs) a = ap suc (lengths fs gs a.1)

takes_same : (fs gs : List Function) → AreRenamedFunctions fs gs → (k count : ℕ) → TakesArguments (slice_get fs k) count → TakesArguments (slice_get gs k) count
takes_same [] [] a k count t = t
takes_same [] (g ∷ gs) a k count t = absurd a
takes_same (f ∷ fs) [] a k count t = absurd a
takes_same (f ∷ fs) (g ∷ gs) a zero count t = t ∙ sym (parameters_same f g a.0)
takes_same (f ∷ fs) (g ∷ gs) a (suc k) count t = takes_same fs gs a.1 k count t

-- ---- what is well made stays so

main_same : (all fs gs : List Function) → AreRenamedFunctions fs gs → AllByRecursion (FunctionIn all) fs → (k : ℕ) → IsMain (slice_get fs k) → IsMain (slice_get gs k)
main_same all [] [] a s k m = m
main_same all [] (g ∷ gs) a s k m = absurd a
main_same all (f ∷ fs) [] a s k m = absurd a
main_same all (f ∷ fs) (g ∷ gs) a s (suc k) m = main_same all fs gs a.1 s.1 k m
main_same all (f ∷ fs) (g ∷ gs) a s zero m =
    let none : KeepsArguments all all = record { count = refl; takes = λ g count t. t } in (
      parameters_same f g a.0 ∙ m.0,
      subst (λ (b : Bool). IsTrue b) (sym (function_never all all none f.variables g.variables (form_of f.body) (form_of g.body) (renamer_of all f g a.0 s.0))) m.1,
    )

function_in : (all new : List Function) → KeepsArguments all new → (f g : Function) → IsRenamedOrSame f g → FunctionIn all f → FunctionIn new g
function_in all new keeps f g r i =
    let n : Renamer all f.variables g.variables (form_of f.body) (form_of g.body) = renamer_of all f g r i in
    record {
      parameters = (let p = i.parameters in let few = n.few in let same = parameters_same f g r in omega (arith, p, few, same));
      names = names_in all new keeps f.variables g.variables (form_of f.body) (form_of g.body) n;
      loops = subst (λ (b : Bool). IsTrue b) (sym (function_stays all new keeps f.variables g.variables (form_of f.body) (form_of g.body) n)) i.loops;
      ends = subst (λ (b : Bool). IsTrue b) (sym (function_closes all new keeps f.variables g.variables (form_of f.body) (form_of g.body) n)) i.ends;
    }

functions_in : (all new : List Function) → KeepsArguments all new → (fs gs : List Function) → AreRenamedFunctions fs gs → AllByRecursion (FunctionIn all) fs → AllByRecursion (FunctionIn new) gs
functions_in all new keeps [] [] a s = tt
functions_in all new keeps [] (g ∷ gs) a s = absurd a
functions_in all new keeps (f ∷ fs) [] a s = absurd a
functions_in all new keeps (f ∷ fs) (g ∷ gs) a s = (function_in all new keeps f g a.0 s.0, functions_in all new keeps fs gs a.1 s.1)

first_in : (f g : Function) → IsRenamedOrSame f g → IsFunctionSetFirst f → IsFunctionSetFirst g
first_in f g (inl same) h = subst IsFunctionSetFirst (sym same) h
first_in f g (inr r) h = rw (r.body, r.parameters) (first_kept r.owns r.starts f.variables (parameters_set f.parameters) (form_of f.body) r.known h)

firsts_in : (fs gs : List Function) → AreRenamedFunctions fs gs → AllByRecursion IsFunctionSetFirst fs → AllByRecursion IsFunctionSetFirst gs
firsts_in [] [] a s = tt
firsts_in [] (g ∷ gs) a s = absurd a
firsts_in (f ∷ fs) [] a s = absurd a
firsts_in (f ∷ fs) (g ∷ gs) a s = (first_in f g a.0 s.0, firsts_in fs gs a.1 s.1)

-- ---- the form

alike_of : (r s : Result Env) → EndsSame r s → Alike HaveSameResult Same r s
alike_of r s (SameAt way e f w h) = BothAt way e f w w h refl
alike_of r s (SameOver end w) = BothOver end w w refl

module _ (ir new : Ir) (scoped : IsScoped ir) (of : IsRenamingOf ir new) where
  abbrev before : ℕ → ℕ
  before k = own_in (slice_get ir.functions k)

  abbrev behind : ℕ → ℕ
  behind k = own_in (slice_get new.functions k)

  renamers : (k : ℕ) → Renamer ir.functions (before k) (behind k) (body_in (slice_get ir.functions k)) (body_in (slice_get new.functions k))
  renamers = renamer_at ir.functions ir.functions new.functions of.functions scoped.functions

  arguments : KeepsArguments ir.functions new.functions
  arguments = record { count = lengths ir.functions new.functions of.functions; takes = takes_same ir.functions new.functions of.functions }

  takes : (g count : ℕ) → TakesArguments (slice_get ir.functions g) count → count < before g
  takes = takes_in ir.functions ir.functions scoped.functions

  at_start : (memory : List ℕ) → start new memory ≡ start ir memory
  at_start memory = rw of.frames refl

  same_outcome : (n : ℕ) (memory : List ℕ) → EndsSame (outcome ir n memory) (outcome new n memory)
  same_outcome n memory =
      subst (λ (w : World). EndsSame (outcome ir n memory) (calls_of (program_of new) all_loads n new.calls new.main [] w)) (sym (at_start memory))
      (subst (λ (f : ℕ). EndsSame (outcome ir n memory) (calls_of (program_of new) all_loads n new.calls f [] (start ir memory))) (sym of.main)
      (subst (λ (c : ℕ). EndsSame (outcome ir n memory) (calls_of (program_of new) all_loads n c ir.main [] (start ir memory))) (sym of.calls)
      (calls_same ir.functions (program_of ir) (program_of new) before behind (frames ir.functions new.functions of.functions) of.calls renamers n ir.calls ir.main [] (start ir memory))))

  module _ (sets : ℕ → Classes) where
    abbrev webs : ℕ → Classes
    webs = classes_by_webs ir.functions (program_of ir) (program_of new) before behind renamers takes sets

    abbrev Counts : ℕ → Form → Form → Type 0
    Counts k c d = (own_loads (webs k) d ≡ own_loads (sets k) c) × (conditions_a (webs k) d ≡ conditions_a (sets k) c)

    counted_at : (k : ℕ) (f g : Function) → slice_get ir.functions k ≡ Some f → slice_get new.functions k ≡ Some g → Counts k (form_of f.body) (form_of g.body)
    counted_at k f g at at' =
        subst (λ (o : Option Function). Counts k (form_of f.body) (body_in o)) at'
        (subst (λ (o : Option Function). Counts k (body_in o) (body_in (slice_get new.functions k))) at (
          function_loads ir.functions (program_of ir) (program_of new) before behind renamers takes sets k,
          function_conditions ir.functions (program_of ir) (program_of new) before behind renamers takes sets k,
        ))

    access : AreAddressesClosed (program_of ir) (λ k. (sets k).s) → HasSameAccess ir new sets
    access kept = record {
      sets = webs;
      closed = λ f. function_kept ir.functions (program_of ir) (program_of new) before behind renamers takes sets f (kept f);
      same = counted_at;
    }

  keeps : KeepsFormExactly ir new
  keeps = record {
    meaning = λ n memory. alike_of _ _ (same_outcome n memory);
    scoped = record {
      main = rw of.main (main_same ir.functions ir.functions new.functions of.functions scoped.functions ir.main scoped.main);
      functions = functions_in ir.functions new.functions arguments ir.functions new.functions of.functions scoped.functions;
    };
    first = firsts_in ir.functions new.functions of.functions;
    access = access;
  }

pub forms_are_renamed : FormsAreRenamed
forms_are_renamed ir new scoped of = keeps ir new scoped of
