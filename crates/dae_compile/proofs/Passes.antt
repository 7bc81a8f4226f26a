-- What passes from form to form keep, one behind another. Each pass has its link here, by its law, from a form to one behind it.
use Rattle.std.proofs.Common.{◌≡◌, ℕ, zero, suc, ◌^◌, ◌≤◌, List, [], ◌∷◌, length, Some, None, inl, inr, refl, ap, sym, ◌∙◌, subst, arith}
use Rattle.std.specs.Prelude.{slice_get}
use Rattle.std.specs.List.{AllByRecursion}
use Rattle.dae_meaning.specs.Alike.{Alike, Same, BothAt, BothOver}
use Rattle.dae_meaning.specs.Results.{Result, At, Over}
use Rattle.dae_meaning.specs.Variables.{Env}
use Rattle.dae_meaning.specs.Worlds.{World}
use Rattle.dae_meaning.proofs.Laws.{alike_then, alike_weaker}
use Rattle.dae_ir.specs.Form.{Form, form_of}
use Rattle.dae_ir.specs.Classes.{Classes, AreAddressesClosed, IsWithin, classes_of, is_by_a, rows_behind}
use Rattle.dae_ir.specs.Laws.{SameVariables}
use Rattle.dae_ir.specs.Programs.{AreClassesOf, outcome, program_of}
use Rattle.dae_ir.specs.Scope.{IsScoped}
use Rattle.dae_ir.specs.SetFirst.{IsFunctionSetFirst}
use Rattle.dae_ir.specs.Sizes.{bit, is_load_into, own_loads, conditions_a}
use Rattle.dae_ir.specs.declared.form.Function.{Function}
use Rattle.dae_ir.specs.declared.form.Ir.{Ir}
use Rattle.dae_ir.specs.declared.stream.Class.{Class}
use Rattle.dae_alias.specs.Forms.{KeepsForm, IsReuseOf}
use Rattle.dae_alias.specs.Laws.{counted, Cheaper, Costs, SameResult}
use Rattle.dae_alias.proofs.Slices.{bit_within, load_within, tally_within, test_within}
use Rattle.dae_commons.specs.Forms.{AreCommonedFunctions, FormsAreCommoned, KeepsOutcomes}
use Rattle.dae_hoist.specs.Forms.{AreHoistedFunctions, IsHoistOf, KeepsWithRows, FormsAreHoisted}
use Rattle.dae_elide.specs.Forms.{AreElidedFunctions, IsElisionOf, ChecksAreElided}
use Rattle.dae_threads.specs.Forms.{AreThreadedFunctions, IsThreadingOf, HasNoMoreItems, FormsAreThreaded}
use Rattle.dae_threads.proofs.Laws.{no_more, items_then}
use Rattle.dae_webs.specs.Forms.{AreRenamedFunctions, FormsAreRenamed, IsRenamingOf, HaveSameResult}
use Rattle.dae_compile_promise.specs.Promises.{KeepsLowered, IsLaterForm}
use Rattle.dae_compile.specs.Passes.{HasSumsAtAccesses, IsCommonedAgain, IsWithoutCommons}

-- ---- ends

-- what ends with the same result as something does, and in the same world but for items that are no more, ends alike with what that
-- ends alike with
results_on : (e g : Env) → (f : Env) × HaveSameResult e f × SameResult f g → SameResult e g
results_on e g h = h.1 ∙ h.2

cheaper_on : (w u v : World) → HasNoMoreItems w u → Cheaper u v → Cheaper w v
cheaper_on w u v h (Costs x i l j k fits loads items) =
    let few : i ≤ w.items = h.items in
    let same : counted j k x ≡ counted j k w = ap (λ (z : World). counted j k z) h.rest in
    let loaded : l ≡ w.loads = ap (λ (z : World). z.loads) h.rest in
    let sized : length x.memory ≡ length w.memory = ap (λ (z : World). length z.memory) h.rest in
    subst (λ (z : World). Cheaper w z) (sym same)
    (Costs w w.items w.loads j k (subst (λ (n : ℕ). n ≤ 2 ^ 32) sized fits) (subst (λ (n : ℕ). k ≤ n) loaded loads) (omega (arith, items, few, loaded)))

worlds_on : (w v : World) → (u : World) × HasNoMoreItems w u × Cheaper u v → Cheaper w v
worlds_on w v h = cheaper_on w h.0 v h.1 h.2

ends_on : (r s t : Result Env) → Alike HaveSameResult HasNoMoreItems r s → Alike SameResult Cheaper s t → Alike SameResult Cheaper r t
ends_on r s t h k = alike_weaker _ _ SameResult Cheaper results_on worlds_on r t (alike_then HaveSameResult HasNoMoreItems SameResult Cheaper r s t h k)

ends_then : (r s t : Result Env) → Alike HaveSameResult HasNoMoreItems r s → Alike HaveSameResult HasNoMoreItems s t → Alike HaveSameResult HasNoMoreItems r t
ends_then r s t h k = alike_weaker _ _ HaveSameResult HasNoMoreItems results_on items_then r t (alike_then HaveSameResult HasNoMoreItems HaveSameResult HasNoMoreItems r s t h k)

in_itself : (w : World) → HasNoMoreItems w w
in_itself w = (let same : w.items ≤ w.items = omega arith in no_more w w.items w.items same)

one_world : (w u : World) → Same w u → HasNoMoreItems w u
one_world w u same = subst (λ (z : World). HasNoMoreItems w z) same (in_itself w)

in_one_world : (r s : Result Env) → Alike HaveSameResult Same r s → Alike HaveSameResult HasNoMoreItems r s
in_one_world r s h = alike_weaker HaveSameResult Same HaveSameResult HasNoMoreItems (λ e f same. same) one_world r s h

ends_itself : (r : Result Env) → Alike HaveSameResult HasNoMoreItems r r
ends_itself (At way e w) = BothAt way e e w w refl (in_itself w)
ends_itself (Over end w) = BothOver end w w (in_itself w)

equally : (r s : Result Env) → s ≡ r → Alike HaveSameResult HasNoMoreItems r s
equally r s same = subst (λ (t : Result Env). Alike HaveSameResult HasNoMoreItems r t) (sym same) (ends_itself r)

-- ---- numbers

at_most : (a b : ℕ) → a ≡ b → a ≤ b
at_most a b same = omega (arith, same)

most_then : (a b c : ℕ) → b ≤ a → c ≤ b → c ≤ a
most_then a b c few fewer = omega (arith, few, fewer)

-- ---- one form behind another

-- Sets of the new form that keep what leads to addresses: by them no function has more loads into variables that lead to addresses,
-- nor more conditions that A decides, than by those of the form before.
pub record HasNoMoreAccess (ir new : Ir) (of : ℕ → Classes) : Type 0 where
  pub sets : ℕ → Classes
  pub closed : AreAddressesClosed (program_of new) (λ k. (sets k).s)
  pub most : (k : ℕ) (f g : Function) → slice_get ir.functions k ≡ Some f → slice_get new.functions k ≡ Some g
      → (own_loads (sets k) (form_of g.body) ≤ own_loads (of k) (form_of f.body)) × (conditions_a (sets k) (form_of g.body) ≤ conditions_a (of k) (form_of f.body))

-- In a memory as large as the form's the new one ends as the form does, under each bound on turns, with the same result, and in the same
-- world but for items that are no more. It is as well made, and sets each variable before it reads it. What keeps what leads to addresses in the form has its
-- like in it.
pub record IsBehind (ir new : Ir) : Type 0 where
  pub memory : new.memory ≡ ir.memory
  pub frames : new.frames ≡ ir.frames
  pub calls : new.calls ≡ ir.calls
  pub there : (k : ℕ) (f : Function) → slice_get ir.functions k ≡ Some f → (g : Function) × (slice_get new.functions k ≡ Some g)
  pub meaning : (n : ℕ) (words : List ℕ) → length words ≡ ir.memory → Alike HaveSameResult HasNoMoreItems (outcome ir n words) (outcome new n words)
  pub scoped : IsScoped new
  pub first : AllByRecursion IsFunctionSetFirst ir.functions → AllByRecursion IsFunctionSetFirst new.functions
  pub access : (of : ℕ → Classes) → AreAddressesClosed (program_of ir) (λ k. (of k).s) → HasNoMoreAccess ir new of

module _ (ir mid new : Ir) (one : IsBehind ir mid) (other : IsBehind mid new) where
  access_then : (of : ℕ → Classes) → AreAddressesClosed (program_of ir) (λ k. (of k).s) → HasNoMoreAccess ir new of
  access_then of closed =
      let s = one.access of closed in
      let t = other.access s.sets s.closed in
      record {
        sets = t.sets;
        closed = t.closed;
        most = λ k f h at at'. (let g = one.there k f at in
            let few = s.most k f g.0 at g.1 in
            let fewer = t.most k g.0 h g.1 at' in
            (most_then _ _ _ few.0 fewer.0, most_then _ _ _ few.1 fewer.1));
      }

  pub behind_both : IsBehind ir new
  behind_both = record {
    memory = other.memory ∙ one.memory;
    frames = other.frames ∙ one.frames;
    calls = other.calls ∙ one.calls;
    there = λ k f at. (let g = one.there k f at in other.there k g.0 g.1);
    meaning = λ n words size. ends_then (outcome ir n words) (outcome mid n words) (outcome new n words) (one.meaning n words size) (other.meaning n words (size ∙ sym one.memory));
    scoped = other.scoped;
    first = λ h. other.first (one.first h);
    access = access_then;
  }

-- ---- variables renamed by webs

renamed_there : (fs gs : List Function) → AreRenamedFunctions fs gs → (k : ℕ) (f : Function) → slice_get fs k ≡ Some f → (g : Function) × (slice_get gs k ≡ Some g)
renamed_there [] gs a k f at = absurd (let c : None ≡ Some f = at in cc)
renamed_there (f ∷ fs) [] a k h at = absurd a
renamed_there (f ∷ fs) (g ∷ gs) a zero h at = (g, refl)
renamed_there (f ∷ fs) (g ∷ gs) a (suc k) h at = renamed_there fs gs a.1 k h at

pub renamed_behind : FormsAreRenamed → (ir new : Ir) → IsScoped ir → IsRenamingOf ir new → IsBehind ir new
renamed_behind law ir new scoped is =
    let keeps = law ir new scoped is in
    record {
      memory = is.memory;
      frames = is.frames;
      calls = is.calls;
      there = renamed_there ir.functions new.functions is.functions;
      meaning = λ n words size. in_one_world (outcome ir n words) (outcome new n words) (keeps.meaning n words);
      scoped = keeps.scoped;
      first = keeps.first;
      access = λ of closed. (let s = keeps.access of closed in record {
        sets = s.sets;
        closed = s.closed;
        most = λ k f g at at'. (let same = s.same k f g at at' in (at_most _ _ same.0, at_most _ _ same.1));
      });
    }

-- ---- without common subexpressions

loads_fewer : (c d : Classes) → IsWithin c.s d.s → (code : Form) → own_loads c code ≤ own_loads d code
loads_fewer c d inside code =
    tally_within (λ item. bit (is_load_into c.s item)) (λ item. bit (is_load_into d.s item)) (λ t. 0) (λ t. 0)
    (λ item. bit_within (is_load_into c.s item) (is_load_into d.s item) (load_within c.s d.s inside item)) (λ t. (let none : 0 ≤ 0 = omega arith in none)) code

conditions_fewer : (c d : Classes) → IsWithin c.s d.s → (code : Form) → conditions_a c code ≤ conditions_a d code
conditions_fewer c d inside code =
    tally_within (λ item. 0) (λ item. 0) (λ t. bit (is_by_a c.s t)) (λ t. bit (is_by_a d.s t))
    (λ item. (let none : 0 ≤ 0 = omega arith in none)) (λ t. bit_within (is_by_a c.s t) (is_by_a d.s t) (test_within c.s d.s inside t)) code

commoned_there : (tables : List (List Class)) (fs gs : List Function) → AreCommonedFunctions tables fs gs → (k : ℕ) (f : Function) → slice_get fs k ≡ Some f → (g : Function) × (slice_get gs k ≡ Some g)
commoned_there tables [] gs a k f at = absurd (let c : None ≡ Some f = at in cc)
commoned_there tables (f ∷ fs) [] a k h at = absurd a
commoned_there tables (f ∷ fs) (g ∷ gs) a zero h at = (g, refl)
commoned_there tables (f ∷ fs) (g ∷ gs) a (suc k) h at = commoned_there (rows_behind tables) fs gs a.1 k h at

hoisted_there : (tables rows : List (List Class)) (fs gs : List Function) → AreHoistedFunctions tables rows fs gs → (k : ℕ) (f : Function) → slice_get fs k ≡ Some f → (g : Function) × (slice_get gs k ≡ Some g)
hoisted_there tables [] [] gs a k f at = absurd (let c : None ≡ Some f = at in cc)
hoisted_there tables [] (f ∷ fs) gs a k h at = absurd a
hoisted_there tables (row ∷ rows) [] gs a k f at = absurd (let c : None ≡ Some f = at in cc)
hoisted_there tables (row ∷ rows) (f ∷ fs) [] a k h at = absurd a
hoisted_there tables (row ∷ rows) (f ∷ fs) (g ∷ gs) a zero h at = (g, refl)
hoisted_there tables (row ∷ rows) (f ∷ fs) (g ∷ gs) a (suc k) h at = hoisted_there (rows_behind tables) rows fs gs a.1 k h at

-- by the least classes, which are within all sets that keep what leads to addresses
module _ (tables rows : List (List Class)) (ir mid new : Ir) (least : AreClassesOf ir tables) (hoist : IsHoistOf tables rows ir mid) (one : KeepsWithRows tables rows ir mid) (other : KeepsOutcomes rows mid new) where
  commoned_access : (of : ℕ → Classes) → AreAddressesClosed (program_of ir) (λ k. (of k).s) → HasNoMoreAccess ir new of
  commoned_access of closed =
      let c = least.closed in
      record {
        sets = classes_of rows;
        closed = other.closed (one.closed c.addresses);
        most = λ k f g at at'. (let h = hoisted_there tables rows ir.functions mid.functions hoist.functions k f at in
            let first = one.same k f h.0 at h.1 in
            let second = other.same k h.0 g h.1 at' in
            let inside : IsWithin (classes_of tables k).s (of k).s = least.addresses (λ j. (of j).s) closed k in (
              most_then _ _ _ (loads_fewer (classes_of tables k) (of k) inside (form_of f.body)) (at_most _ _ (second.0 ∙ first.0)),
              most_then _ _ _ (conditions_fewer (classes_of tables k) (of k) inside (form_of f.body)) (at_most _ _ (second.1 ∙ first.1)),
            ));
      }

pub commoned_behind : FormsAreHoisted → FormsAreCommoned → (ir new : Ir) → IsScoped ir → IsWithoutCommons ir new → IsBehind ir new
commoned_behind hoisting law ir new scoped is =
    let mid = is.hoisted in
    let hoist = is.hoist in
    let made = is.commoning in
    let one = hoisting is.tables is.rows ir mid scoped hoist in
    let keeps = law is.rows mid new made in
    record {
      memory = made.memory ∙ hoist.memory;
      frames = made.frames ∙ hoist.frames;
      calls = made.calls ∙ hoist.calls;
      there = λ k f at. (let g = hoisted_there is.tables is.rows ir.functions mid.functions hoist.functions k f at in commoned_there is.rows mid.functions new.functions made.functions k g.0 g.1);
      meaning = λ n words size. ends_then (outcome ir n words) (outcome mid n words) (outcome new n words) (in_one_world (outcome ir n words) (outcome mid n words) (one.meaning n words)) (equally (outcome mid n words) (outcome new n words) (keeps.outcomes n words));
      scoped = keeps.scoped one.scoped;
      first = λ h. keeps.first (one.first h);
      access = commoned_access is.tables is.rows ir mid new is.least hoist one keeps;
    }

-- ---- without the checks that are known to pass

elided_there : (memory : ℕ) (fs gs : List Function) → AreElidedFunctions memory fs gs → (k : ℕ) (f : Function) → slice_get fs k ≡ Some f → (g : Function) × (slice_get gs k ≡ Some g)
elided_there memory [] gs a k f at = absurd (let c : None ≡ Some f = at in cc)
elided_there memory (f ∷ fs) [] a k h at = absurd a
elided_there memory (f ∷ fs) (g ∷ gs) a zero h at = (g, refl)
elided_there memory (f ∷ fs) (g ∷ gs) a (suc k) h at = elided_there memory fs gs a.1 k h at

pub elided_behind : ChecksAreElided → (ir new : Ir) → IsScoped ir → IsElisionOf ir new → IsBehind ir new
elided_behind law ir new scoped is =
    let keeps = law ir new scoped is in
    record {
      memory = is.memory;
      frames = is.frames;
      calls = is.calls;
      there = elided_there ir.memory ir.functions new.functions is.functions;
      meaning = λ n words size. equally (outcome ir n words) (outcome new n words) (keeps.meaning n words size);
      scoped = keeps.scoped;
      first = keeps.first;
      access = λ of closed. record {
        sets = of;
        closed = keeps.access of closed;
        most = λ k f g at at'. (let same = keeps.counts (of k) k f g at at' in (at_most _ _ same.0, at_most _ _ same.1));
      };
    }

-- ---- with sums computed where accesses add them up

summed_access : (tables : List (List Class)) (ir new : Ir) → AreClassesOf ir tables → KeepsOutcomes tables ir new → (of : ℕ → Classes) → AreAddressesClosed (program_of ir) (λ k. (of k).s) → HasNoMoreAccess ir new of
summed_access tables ir new least keeps of closed =
    let c = least.closed in
    record {
      sets = classes_of tables;
      closed = keeps.closed c.addresses;
      most = λ k f g at at'. (let same = keeps.same k f g at at' in
          let inside : IsWithin (classes_of tables k).s (of k).s = least.addresses (λ j. (of j).s) closed k in (
            most_then _ _ _ (loads_fewer (classes_of tables k) (of k) inside (form_of f.body)) (at_most _ _ same.0),
            most_then _ _ _ (conditions_fewer (classes_of tables k) (of k) inside (form_of f.body)) (at_most _ _ same.1),
          ));
    }

commoned_again : FormsAreCommoned → (ir new : Ir) → IsScoped ir → IsCommonedAgain ir new → IsBehind ir new
commoned_again law ir new scoped is =
    let made = is.commoning in
    let keeps = law is.tables ir new made in
    record {
      memory = made.memory;
      frames = made.frames;
      calls = made.calls;
      there = commoned_there is.tables ir.functions new.functions made.functions;
      meaning = λ n words size. equally (outcome ir n words) (outcome new n words) (keeps.outcomes n words);
      scoped = keeps.scoped scoped;
      first = keeps.first;
      access = summed_access is.tables ir new is.least keeps;
    }

behind_itself : (ir : Ir) → IsScoped ir → IsBehind ir ir
behind_itself ir scoped =
    record {
      memory = refl;
      frames = refl;
      calls = refl;
      there = λ k f at. (f, at);
      meaning = λ n words size. ends_itself (outcome ir n words);
      scoped = scoped;
      first = λ h. h;
      access = λ of closed. record {
        sets = of;
        closed = closed;
        most = λ k f g at at'. (let same : f ≡ g = cc in (
          at_most _ _ (ap (λ (x : Function). own_loads (of k) (form_of x.body)) (sym same)),
          at_most _ _ (ap (λ (x : Function). conditions_a (of k) (form_of x.body)) (sym same)),
        ));
      };
    }

pub summed_behind : FormsAreCommoned → (ir new : Ir) → IsScoped ir → HasSumsAtAccesses ir new → IsBehind ir new
summed_behind law ir new scoped (inl again) = commoned_again law ir new scoped again.1
summed_behind law ir new scoped (inr same) = subst (λ (z : Ir). IsBehind ir z) (sym same.1) (behind_itself ir scoped)

-- ---- with conditions threaded

threaded_there : (fs gs : List Function) → AreThreadedFunctions fs gs → (k : ℕ) (f : Function) → slice_get fs k ≡ Some f → (g : Function) × (slice_get gs k ≡ Some g)
threaded_there [] gs a k f at = absurd (let c : None ≡ Some f = at in cc)
threaded_there (f ∷ fs) [] a k h at = absurd a
threaded_there (f ∷ fs) (g ∷ gs) a zero h at = (g, refl)
threaded_there (f ∷ fs) (g ∷ gs) a (suc k) h at = threaded_there fs gs a.1 k h at

pub threaded_behind : FormsAreThreaded → (ir new : Ir) → IsScoped ir → IsThreadingOf ir new → IsBehind ir new
threaded_behind law ir new scoped is =
    let keeps = law ir new scoped is in
    record {
      memory = is.memory;
      frames = is.frames;
      calls = is.calls;
      there = threaded_there ir.functions new.functions is.functions;
      meaning = λ n words size.
          alike_weaker SameVariables HasNoMoreItems HaveSameResult HasNoMoreItems (λ e f same. ap (λ (x : Env). x 0) same) (λ w u l. l) (outcome ir n words) (outcome new n words) (keeps.meaning n words);
      scoped = keeps.scoped;
      first = keeps.first;
      access = λ of closed. record {
        sets = of;
        closed = keeps.access of closed;
        most = λ k f g at at'. keeps.counts (of k) k f g at at';
      };
    }

-- ---- all passes

-- before loads are reused
module _ (lowered named common bare near : Ir) where
  pub up_to_commons : FormsAreRenamed → FormsAreHoisted → FormsAreCommoned → IsScoped lowered → IsRenamingOf lowered named → IsWithoutCommons named common → IsBehind lowered common
  up_to_commons webs hoisting commons scoped renamed without =
      let one = renamed_behind webs lowered named scoped renamed in
      behind_both lowered named common one (commoned_behind hoisting commons named common one.scoped without)

  pub up_to_checks : FormsAreRenamed → FormsAreHoisted → FormsAreCommoned → ChecksAreElided → IsScoped lowered → IsRenamingOf lowered named → IsWithoutCommons named common → IsElisionOf common bare → IsBehind lowered bare
  up_to_checks webs hoisting commons checks scoped renamed without elided =
      let one = up_to_commons webs hoisting commons scoped renamed without in
      behind_both lowered common bare one (elided_behind checks common bare one.scoped elided)

  pub passes_before : FormsAreRenamed → FormsAreHoisted → FormsAreCommoned → ChecksAreElided → IsScoped lowered
      → IsRenamingOf lowered named → IsWithoutCommons named common → IsElisionOf common bare → HasSumsAtAccesses bare near → IsBehind lowered near
  passes_before webs hoisting commons checks scoped renamed without elided summed =
      let one = up_to_checks webs hoisting commons checks scoped renamed without elided in
      behind_both lowered bare near one (summed_behind commons bare near one.scoped summed)

-- and with conditions threaded
pub all_passes_before : (lowered named common bare near threaded : Ir) → FormsAreRenamed → FormsAreHoisted → FormsAreCommoned → ChecksAreElided → FormsAreThreaded → IsScoped lowered
    → IsRenamingOf lowered named → IsWithoutCommons named common → IsElisionOf common bare → HasSumsAtAccesses bare near → IsThreadingOf near threaded → IsBehind lowered threaded
all_passes_before lowered named common bare near threaded webs hoisting commons checks threading scoped renamed without elided summed is =
    let one = passes_before lowered named common bare near webs hoisting commons checks scoped renamed without elided summed in
    behind_both lowered near threaded one (threaded_behind threading near threaded one.scoped is)

-- and then they are
module _ (lowered bare ir : Ir) (before : IsBehind lowered bare) (reused : IsReuseOf bare ir) (keeps : KeepsForm bare ir) where
  lowered_kept : KeepsLowered lowered ir
  lowered_kept = record {
    meaning = λ n words size fits. ends_on (outcome lowered n words) (outcome bare n words) (outcome ir n words) (before.meaning n words size) (keeps.meaning n words fits);
    scoped = keeps.scoped;
    first = λ h. keeps.first (before.first h);
    access = λ of closed tables least k f h at at'. (let s = before.access of closed in
        let g = before.there k f at in
        let few = s.most k f g.0 at g.1 in
        let fewer = keeps.access s.sets s.closed tables least k g.0 h g.1 at' in
        (most_then _ _ _ few.0 fewer.0, most_then _ _ _ few.1 fewer.1));
  }

  pub final_later : IsLaterForm lowered ir
  final_later = record { memory = reused.memory ∙ before.memory; frames = reused.frames ∙ before.frames; calls = reused.calls ∙ before.calls; keeps = lowered_kept }
