-- Whole forms in which variables hold values for loops.
use Rattle.std.proofs.Common.{◌≡◌, ◌⊎◌, ℕ, zero, suc, ◌≤◌, Bool, true, false, List, [], ◌∷◌, length, Option, Some, None, inl, inr, refl, ap, sym, ◌∙◌, subst, arith}
use Rattle.std.specs.Prelude.{slice_get, IsTrue}
use Rattle.std.specs.List.{AllByRecursion}
use Rattle.dae_base.proofs.Laws.{no_true}
use Rattle.dae_meaning.specs.Alike.{Alike, Same}
use Rattle.dae_meaning.specs.Variables.{VariableSet, parameters_set}
use Rattle.dae_meaning.specs.Worlds.{World}
use Rattle.dae_ir.specs.Code.{Each}
use Rattle.dae_ir.specs.Form.{Form, form_of, calls_of, all_loads}
use Rattle.dae_ir.specs.Classes.{Classes, AddressesKept, AreAddressesClosed, classes_of, is_by_a, rows_behind}
use Rattle.dae_ir.specs.Programs.{body_in, frame_in, program_of, outcome, start}
use Rattle.dae_ir.specs.Sizes.{bit, form_size, is_load_into, tally}
use Rattle.dae_ir.specs.Rounds.{stays}
use Rattle.dae_ir.specs.Scope.{IsScoped, FunctionIn, IsMain, TakesArguments, TestIn, ItemIn, closes, never_returns}
use Rattle.dae_ir.specs.SetFirst.{form_flow, IsSetFirst, IsFunctionSetFirst}
use Rattle.dae_ir.specs.declared.form.Function.{Function}
use Rattle.dae_ir.specs.declared.form.Ir.{Ir}
use Rattle.dae_ir.specs.declared.stream.Class.{Class}
use Rattle.dae_ir.proofs.Laws.{KeepsArguments, classes_behind}
use Rattle.std.proofs.lemmas.Bool.{or_cases}
use Rattle.dae_hoist.specs.Hoisted.{hoisted_code}
use Rattle.dae_hoist.specs.Kept.{Hoisting, IsKept, is_kept}
use Rattle.dae_hoist.specs.Forms.{IsHoistedFunction, addresses_in, first_addresses, AreHoistedFunctions, IsHoistOf, EndsEqual, FormsAreHoisted}
use Rattle.dae_hoist.specs.Laws.{HoistingKeepsSizes}
use Rattle.dae_hoist.proofs.Reading.{kept_none}
use Rattle.dae_hoist.proofs.Staying.{as_hoisted}
use Rattle.dae_hoist.proofs.Meaning.{calls_alike}
use Rattle.dae_hoist.proofs.Scoping.{code_in, stays_same, closes_same, never_same}
use Rattle.dae_hoist.proofs.Ordering.{first_kept}
use Rattle.dae_hoist.proofs.Accesses.{code_kept}
use Rattle.dae_hoist.proofs.Counts.{size_same, tally_same, loads_same, conditions_same}

-- ---- functions in pairs, whatever sets they go by

abbrev IsPaired : Function → Function → Type 0
IsPaired f g = (c : VariableSet) × (d : VariableSet) × IsHoistedFunction c d f g

abbrev ArePaired : List Function → List Function → Type 0
ArePaired [] [] = Unit {0}
ArePaired [] (g ∷ gs) = ⊥
ArePaired (f ∷ fs) [] = ⊥
ArePaired (f ∷ fs) (g ∷ gs) = IsPaired f g × ArePaired fs gs

paired : (tables rows : List (List Class)) (fs gs : List Function) → AreHoistedFunctions tables rows fs gs → ArePaired fs gs
paired tables [] [] [] a = tt
paired tables [] [] (g ∷ gs) a = absurd a
paired tables [] (f ∷ fs) gs a = absurd a
paired tables (row ∷ rows) [] gs a = absurd a
paired tables (row ∷ rows) (f ∷ fs) [] a = absurd a
paired tables (row ∷ rows) (f ∷ fs) (g ∷ gs) a =
    ((first_addresses tables, addresses_in row, as_hoisted (first_addresses tables) (addresses_in row) f g a.0), paired (rows_behind tables) rows fs gs a.1)

frames_same : (fs gs : List Function) → ArePaired fs gs → (k : ℕ) → frame_in (slice_get gs k) ≡ frame_in (slice_get fs k)
frames_same [] [] a k = refl
frames_same [] (g ∷ gs) a k = absurd a
frames_same (f ∷ fs) [] a k = absurd a
frames_same (f ∷ fs) (g ∷ gs) a zero = let h = (a.0).2 in h.frame
frames_same (f ∷ fs) (g ∷ gs) a (suc k) = frames_same fs gs a.1 k

lengths : (fs gs : List Function) → ArePaired fs gs → length gs ≡ length fs
lengths [] [] a = refl
lengths [] (g ∷ gs) a = absurd a
lengths (f ∷ fs) [] a = absurd a
lengths (f ∷ fs) (g ∷ gs) a = ap suc (lengths fs gs a.1)

takes_same : (fs gs : List Function) → ArePaired fs gs → (k count : ℕ) → TakesArguments (slice_get fs k) count → TakesArguments (slice_get gs k) count
takes_same [] [] a k count h = h
takes_same [] (g ∷ gs) a k count h = absurd a
takes_same (f ∷ fs) [] a k count h = absurd a
takes_same (f ∷ fs) (g ∷ gs) a zero count h = let r = (a.0).2 in h ∙ sym r.parameters
takes_same (f ∷ fs) (g ∷ gs) a (suc k) count h = takes_same fs gs a.1 k count h

-- ---- what is well made stays so

main_same : (fs gs : List Function) → ArePaired fs gs → (k : ℕ) → IsMain (slice_get fs k) → IsMain (slice_get gs k)
main_same [] [] a k m = m
main_same [] (g ∷ gs) a k m = absurd a
main_same (f ∷ fs) [] a k m = absurd a
main_same (f ∷ fs) (g ∷ gs) a (suc k) m = main_same fs gs a.1 k m
main_same (f ∷ fs) (g ∷ gs) a zero m =
    let r = (a.0).2 in
    let t = r.hoisting in
    (r.parameters ∙ m.0, subst (λ (b : Bool). IsTrue b) (sym (ap (λ (c : Form). never_returns c) r.body ∙ never_same t.holding (form_of f.body))) m.1)

module _ (all new : List Function) (keeps : KeepsArguments all new) where
  names_in : (c d : VariableSet) (f g : Function) → IsHoistedFunction c d f g → Each (ItemIn all f.variables) (TestIn f.variables) (form_of f.body) → Each (ItemIn new g.variables) (TestIn g.variables) (form_of g.body)
  names_in c d f g r i =
      let t = r.hoisting in
      subst (λ (n : ℕ). Each (ItemIn new n) (TestIn n) (form_of g.body)) (r.of_variables ∙ sym r.variables)
      (subst (λ (code : Form). Each (ItemIn new t.variables) (TestIn t.variables) code) (sym r.body)
      (code_in all new keeps t [] (form_of f.body) r.kept (subst (λ (n : ℕ). Each (ItemIn all n) (TestIn n) (form_of f.body)) (sym r.of_variables) i)))

  function_in : (f g : Function) → IsPaired f g → FunctionIn all f → FunctionIn new g
  function_in f g a i =
      let r = a.2 in
      let t = r.hoisting in
      record {
        parameters = (let p = i.parameters in let same = r.parameters in let number = r.variables in omega (arith, p, same, number));
        names = names_in a.0 a.1 f g r i.names;
        loops = subst (λ (b : Bool). IsTrue b) (sym (ap (λ (c : Form). stays false c) r.body ∙ stays_same t.holding (form_of f.body) false)) i.loops;
        ends = subst (λ (b : Bool). IsTrue b) (sym (ap (λ (c : Form). closes c) r.body ∙ closes_same t.holding (form_of f.body))) i.ends;
      }

  functions_in : (fs gs : List Function) → ArePaired fs gs → AllByRecursion (FunctionIn all) fs → AllByRecursion (FunctionIn new) gs
  functions_in [] [] a s = tt
  functions_in [] (g ∷ gs) a s = absurd a
  functions_in (f ∷ fs) [] a s = absurd a
  functions_in (f ∷ fs) (g ∷ gs) a s = (function_in f g a.0 s.0, functions_in fs gs a.1 s.1)

-- at the beginning the parameters are set, and no others
begins : (n m : ℕ) → n ≡ m → (v : ℕ) → (parameters_set n v ≡ true) ⊎ (false ≡ true) → parameters_set m v ≡ true
begins n m same v (inl k) = subst (λ (i : ℕ). parameters_set i v ≡ true) same k
begins n m same v (inr k) = no_true k

first_in : (f g : Function) → IsPaired f g → IsFunctionSetFirst f → IsFunctionSetFirst g
first_in f g a h =
    let r = a.2 in
    let t = r.hoisting in
    let d = parameters_set f.parameters in
    subst (λ (n : ℕ). IsSetFirst form_flow (parameters_set n) (form_of g.body)) (sym r.parameters)
    (subst (λ (code : Form). IsSetFirst form_flow d code) (sym r.body)
    (first_kept t [] d (form_of f.body) (λ v set. begins t.parameters f.parameters r.of_parameters v (or_cases (parameters_set t.parameters v) false set)) r.kept h))

firsts_in : (fs gs : List Function) → ArePaired fs gs → AllByRecursion IsFunctionSetFirst fs → AllByRecursion IsFunctionSetFirst gs
firsts_in [] [] a s = tt
firsts_in [] (g ∷ gs) a s = absurd a
firsts_in (f ∷ fs) [] a s = absurd a
firsts_in (f ∷ fs) (g ∷ gs) a s = (first_in f g a.0 s.0, firsts_in fs gs a.1 s.1)

-- ---- functions by their numbers

-- the variables of a function that hold values, by its rows
record HoistedAt (all : List Function) (c d : VariableSet) (old new : Option Function) : Type 0 where
  hoisting : Hoisting
  of_sets : hoisting.sets ≡ c
  of_new_sets : hoisting.new_sets ≡ d
  names : Each (ItemIn all hoisting.variables) (TestIn hoisting.variables) (body_in old)
  kept : IsKept hoisting [] (body_in old)
  body : body_in new ≡ hoisted_code hoisting.holding (body_in old)
  result : hoisting.holding 0 ≡ None
  parameters : (count : ℕ) → TakesArguments old count → (v : ℕ) → v ≤ count → is_kept hoisting v ≡ true

abbrev sets_of : List (List Class) → ℕ → VariableSet
sets_of tables k = (classes_of tables k).s

module _ (all : List Function) where
  at_none : (c d : VariableSet) → HoistedAt all c d None None
  at_none c d = record {
    hoisting = record { parameters = 0; variables = 0; holding = λ v. None; sets = c; new_sets = d };
    of_sets = refl;
    of_new_sets = refl;
    names = tt;
    kept = tt;
    body = refl;
    result = refl;
    parameters = λ count h v l. absurd h;
  }

  at_some : (c d : VariableSet) (f g : Function) → IsHoistedFunction c d f g → FunctionIn all f → HoistedAt all c d (Some f) (Some g)
  at_some c d f g r i = record {
    hoisting = r.hoisting;
    of_sets = r.of_sets;
    of_new_sets = r.of_new_sets;
    names = subst (λ (n : ℕ). Each (ItemIn all n) (TestIn n) (form_of f.body)) (sym r.of_variables) i.names;
    kept = r.kept;
    body = r.body;
    result = kept_none r.hoisting 0 (r.first 0 (omega arith));
    parameters = λ count h v l. r.first v (omega (arith, h, l));
  }

  hoisted_at : (tables rows : List (List Class)) (fs gs : List Function) → AreHoistedFunctions tables rows fs gs → AllByRecursion (FunctionIn all) fs → (k : ℕ) → HoistedAt all (sets_of tables k) (sets_of rows k) (slice_get fs k) (slice_get gs k)
  hoisted_at tables [] [] [] a s k = at_none (sets_of tables k) (sets_of [] k)
  hoisted_at tables [] [] (g ∷ gs) a s k = absurd a
  hoisted_at tables [] (f ∷ fs) gs a s k = absurd a
  hoisted_at tables (row ∷ rows) [] gs a s k = absurd a
  hoisted_at tables (row ∷ rows) (f ∷ fs) [] a s k = absurd a
  hoisted_at tables (row ∷ rows) (f ∷ fs) (g ∷ gs) a s zero =
      at_some (first_addresses tables) (addresses_in row) f g (as_hoisted (first_addresses tables) (addresses_in row) f g a.0) s.0
  hoisted_at tables (row ∷ rows) (f ∷ fs) (g ∷ gs) a s (suc k) =
      subst (λ (c : Classes). HoistedAt all c.s (sets_of rows k) (slice_get fs k) (slice_get gs k)) (classes_behind tables k) (hoisted_at (rows_behind tables) rows fs gs a.1 s.1 k)

-- what A has to do, where those of c lead to addresses in the code, and those of d in the code made of it
abbrev CountAlike : (c d : VariableSet) (code code' : Form) → Type 0
CountAlike c d code code' =
    (tally (λ item. bit (is_load_into d item)) (λ x. 0) code' ≡ tally (λ item. bit (is_load_into c item)) (λ x. 0) code)
    × (tally (λ item. 0) (λ x. bit (is_by_a d x)) code' ≡ tally (λ item. 0) (λ x. bit (is_by_a c x)) code)

-- ---- the form

module _ (tables rows : List (List Class)) (ir new : Ir) (scoped : IsScoped ir) (of : IsHoistOf tables rows ir new) where
  pairs : ArePaired ir.functions new.functions
  pairs = paired tables rows ir.functions new.functions of.functions

  at : (k : ℕ) → HoistedAt ir.functions (sets_of tables k) (sets_of rows k) (slice_get ir.functions k) (slice_get new.functions k)
  at = hoisted_at ir.functions tables rows ir.functions new.functions of.functions scoped.functions

  abbrev ts : ℕ → Hoisting
  ts k = (at k).hoisting

  bodies : (k : ℕ) → body_in (slice_get new.functions k) ≡ hoisted_code (ts k).holding (body_in (slice_get ir.functions k))
  bodies k = (at k).body

  arguments : KeepsArguments ir.functions new.functions
  arguments = record { count = lengths ir.functions new.functions pairs; takes = takes_same ir.functions new.functions pairs }

  at_start : (memory : List ℕ) → start new memory ≡ start ir memory
  at_start memory = rw of.frames refl

  meaning : (n : ℕ) (memory : List ℕ) → Alike EndsEqual Same (outcome ir n memory) (outcome new n memory)
  meaning n memory =
      subst (λ (w : World). Alike EndsEqual Same (outcome ir n memory) (calls_of (program_of new) all_loads n new.calls new.main [] w)) (sym (at_start memory))
      (subst (λ (f : ℕ). Alike EndsEqual Same (outcome ir n memory) (calls_of (program_of new) all_loads n new.calls f [] (start ir memory))) (sym of.main)
      (subst (λ (c : ℕ). Alike EndsEqual Same (outcome ir n memory) (calls_of (program_of new) all_loads n c ir.main [] (start ir memory))) (sym of.calls)
      (calls_alike (program_of ir) (program_of new) (frames_same ir.functions new.functions pairs) of.calls ts bodies (λ k. (at k).kept) (λ k. (at k).result) n ir.calls ir.main [] (start ir memory))))

  -- ---- what leads to addresses

  abbrev old_sets : ℕ → VariableSet
  old_sets k = (ts k).sets

  abbrev new_sets : ℕ → VariableSet
  new_sets k = (ts k).new_sets

  of_old : old_sets ≡ sets_of tables
  of_old = λ i k. (at k).of_sets i

  of_new : new_sets ≡ sets_of rows
  of_new = λ i k. (at k).of_new_sets i

  takes : (g count : ℕ) → TakesArguments (slice_get ir.functions g) count → (v : ℕ) → v ≤ count → is_kept (ts g) v ≡ true
  takes g = (at g).parameters

  abbrev KeptIn : ℕ → Form → Type 0
  KeptIn k code = Each (AddressesKept new_sets (new_sets k)) (λ x. Unit {0}) code

  closed_in : AreAddressesClosed (program_of ir) old_sets → (k : ℕ) → KeptIn k (hoisted_code (ts k).holding (body_in (slice_get ir.functions k)))
  closed_in h k = by (slice_get ir.functions k) refl where
    by : (o : Option Function) → slice_get ir.functions k ≡ o → KeptIn k (hoisted_code (ts k).holding (body_in (slice_get ir.functions k)))
    by None is = subst (λ (o : Option Function). KeptIn k (hoisted_code (ts k).holding (body_in o))) (sym is) tt
    by (Some f) is =
        code_kept ir.functions ts takes k (takes k f.parameters (subst (λ (o : Option Function). TakesArguments o f.parameters) (sym is) refl) 0 (omega arith))
        [] (body_in (slice_get ir.functions k)) (at k).kept (at k).names (h k)

  closed : AreAddressesClosed (program_of ir) (sets_of tables) → AreAddressesClosed (program_of new) (sets_of rows)
  closed h =
      subst (λ (s : ℕ → VariableSet). AreAddressesClosed (program_of new) s) of_new
      (λ k. subst (λ (code : Form). KeptIn k code) (sym (bodies k)) (closed_in (subst (λ (s : ℕ → VariableSet). AreAddressesClosed (program_of ir) s) (sym of_old) h) k))

  counted : (k : ℕ) → CountAlike (sets_of tables k) (sets_of rows k) (body_in (slice_get ir.functions k)) (body_in (slice_get new.functions k))
  counted k =
      let code = body_in (slice_get ir.functions k) in
      let t = ts k in
      subst (λ (code' : Form). CountAlike (sets_of tables k) (sets_of rows k) code code') (sym (bodies k))
      (subst (λ (c : VariableSet). CountAlike c (sets_of rows k) code (hoisted_code t.holding code)) (at k).of_sets
      (subst (λ (d : VariableSet). CountAlike t.sets d code (hoisted_code t.holding code)) (at k).of_new_sets (loads_same t [] code (at k).kept, conditions_same t [] code (at k).kept)))

  counted_at : (k : ℕ) (f g : Function) → slice_get ir.functions k ≡ Some f → slice_get new.functions k ≡ Some g → CountAlike (sets_of tables k) (sets_of rows k) (form_of f.body) (form_of g.body)
  counted_at k f g is is' =
      subst (λ (o : Option Function). CountAlike (sets_of tables k) (sets_of rows k) (form_of f.body) (body_in o)) is'
      (subst (λ (o : Option Function). CountAlike (sets_of tables k) (sets_of rows k) (body_in o) (body_in (slice_get new.functions k))) is (counted k))

pub forms_are_hoisted : FormsAreHoisted
forms_are_hoisted tables rows ir new scoped of =
    let all = pairs tables rows ir new scoped of in
    record {
      meaning = meaning tables rows ir new scoped of;
      scoped = record {
        main = rw of.main (main_same ir.functions new.functions all ir.main scoped.main);
        functions = functions_in ir.functions new.functions (arguments tables rows ir new scoped of) ir.functions new.functions all scoped.functions;
      };
      first = firsts_in ir.functions new.functions all;
      closed = closed tables rows ir new scoped of;
      same = counted_at tables rows ir new scoped of;
    }

pub hoisting_keeps_sizes : HoistingKeepsSizes
hoisting_keeps_sizes c d f g h =
    let r = as_hoisted c d f g h in
    let t = r.hoisting in
    record {
      variables = r.variables;
      size = subst (λ (code : Form). form_size code ≡ form_size (form_of f.body)) (sym r.body) (size_same t.holding (form_of f.body));
      tallies = λ count tests alike. subst (λ (code : Form). tally count tests code ≡ tally count tests (form_of f.body)) (sym r.body) (tally_same t.holding count alike tests (form_of f.body));
    }
