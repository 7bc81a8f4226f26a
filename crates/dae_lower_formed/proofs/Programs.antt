-- The form of a program is well made.
use Rattle.std.proofs.Common.{◌≡◌, ℕ, zero, suc, ◌+◌, ◌^◌, ◌%◌, ◌<◌, ◌≤◌, Bool, true, false, not, ◌&&◌, List, ◌∷◌, length, Option, Some, None, refl, sym, ◌∙◌, subst, arith, []}
use Rattle.std.specs.Prelude.{nat_eq, nat_le, slice_get, IsTrue}
use Rattle.std.specs.List.{list_all}
use Rattle.std.proofs.lemmas.Option.{same_Some}
use Rattle.std.proofs.lemmas.Bool.{and_parts, eqb-true, leb-true}
use Rattle.dae_base.proofs.Laws.{passes_at, all_by_place, same_number, and_first, and_second}
use Rattle.dae_ir.specs.Code.{Each}
use Rattle.dae_ir.specs.Form.{Form, form_of}
use Rattle.dae_ir.specs.Classes.{VariableSet}
use Rattle.dae_ir.specs.Rounds.{stays}
use Rattle.dae_ir.specs.Scope.{ItemIn, TestIn, TakesArguments, FunctionIn, IsMain, IsScoped, closes, never_returns}
use Rattle.dae_ir.specs.SetFirst.{form_flow, parameters_set, IsSetFirst, IsFunctionSetFirst}
use Rattle.dae_ir.specs.declared.form.Function.{Function as FormFunction}
use Rattle.dae_ir.specs.declared.form.Ir.{Ir}
use Rattle.dae_program.specs.declared.program.Function.{Function}
use Rattle.dae_program.specs.declared.program.Program.{Program}
use Rattle.dae_program.specs.Lawful.{is_lawful, is_well_placed, is_ready, prints_bytes, is_lawful_memory, is_lawful_body, is_lawful_in, is_main, parameter_count, spares, takes}
use Rattle.dae_lower.specs.Lowering.{function_code}
use Rattle.dae_lower.specs.Keeping.{FormsClose}
use Rattle.dae_lower_formed.specs.Bytes.{PrintBytes}
use Rattle.dae_program.specs.SetFirst.{is_set_first, statements_read_set}
use Rattle.dae_lower_formed.specs.Formed.{form_variables, plain, IsFunctionFormOf, AreFormsOf, IsLowered, FormsScoped, below, MadeSetFirst, FormsSetFirst}
use Rattle.dae_lower_formed.proofs.Printing.{print_bytes}
use Rattle.dae_lower_formed.proofs.Good.{IsGood, good_names, good_first, good_stays, good_never_returns}
use Rattle.dae_lower_formed.proofs.Expressions.{FindsFunctions}
use Rattle.dae_lower_formed.proofs.Functions.{HoldsParameters, bounds_of, few_parameters, function_good, no_fewer, holds_below, reads_below, holds_parameters}

-- ---- a program's memory has at most 2^26 bytes

pub memory_most : (p : Program) → is_lawful p.memory p.frames p.content p.links p.functions p.main ≡ true → p.memory ≤ 2 ^ 26
memory_most p lawful =
    let placed = (and_parts (is_well_placed p.memory p.frames p.content p.links p.functions p.main) (list_all (is_ready p.links p.functions) p.functions) lawful).0 in
    let first = (and_parts (is_lawful_memory p.memory p.frames (length p.content) && is_main p.memory p.links p.functions (slice_get p.functions p.main))
    (list_all (spares p.main) p.links && list_all (is_lawful_in p.memory p.links p.functions true) p.functions) placed).0 in
    let size = (and_parts (is_lawful_memory p.memory p.frames (length p.content)) (is_main p.memory p.links p.functions (slice_get p.functions p.main)) first).0 in
    let behind = (and_parts (nat_eq (p.frames % 4) 0 && nat_le (16 + length p.content) p.frames) (nat_le p.frames p.memory && nat_le p.memory (2 ^ 26)) size).1 in
    leb-true p.memory (2 ^ 26) (and_parts (nat_le p.frames p.memory) (nat_le p.memory (2 ^ 26)) behind).1

-- ---- functions and their forms

module _ (p : Program) where
  next_number : (k j : ℕ) (f : Function) (g : FormFunction) → IsFunctionFormOf p ((k + 1) + j) f g → IsFunctionFormOf p (k + suc j) f g
  next_number k j f g h = subst (λ (n : ℕ). IsFunctionFormOf p n f g) (omega arith) h

  first_number : (k : ℕ) (f : Function) (g : FormFunction) → IsFunctionFormOf p k f g → IsFunctionFormOf p (k + 0) f g
  first_number k f g h = subst (λ (n : ℕ). IsFunctionFormOf p n f g) (omega arith) h

  pub number_is : (k : ℕ) (f : Function) (g : FormFunction) → IsFunctionFormOf p (0 + k) f g → IsFunctionFormOf p k f g
  number_is k f g h = subst (λ (n : ℕ). IsFunctionFormOf p n f g) (omega arith) h

  -- the form of a function
  pub form_there : (k : ℕ) (fs : List Function) (gs : List FormFunction) → AreFormsOf p k fs gs → (j : ℕ) (f : Function) → slice_get fs j ≡ Some f → (g : FormFunction) × (slice_get gs j ≡ Some g) × IsFunctionFormOf p (k + j) f g
  form_there k [] gs a j f e = absurd (let c : None ≡ Some f = e in cc)
  form_there k (x ∷ fs) [] a j f e = absurd a
  form_there k (x ∷ fs) (y ∷ gs) a zero f e = (y, refl, first_number k f y (subst (λ z. IsFunctionFormOf p k z y) (same_Some x f e) a.0))
  form_there k (x ∷ fs) (y ∷ gs) a (suc j) f e = let h = form_there (k + 1) fs gs a.1 j f e in (h.0, h.1, next_number k j f h.0 h.2)

  -- the function of a form
  pub function_there : (k : ℕ) (fs : List Function) (gs : List FormFunction) → AreFormsOf p k fs gs → (j : ℕ) (g : FormFunction) → slice_get gs j ≡ Some g → (f : Function) × (slice_get fs j ≡ Some f) × IsFunctionFormOf p (k + j) f g
  function_there k fs [] a j g e = absurd (let c : None ≡ Some g = e in cc)
  function_there k [] (y ∷ gs) a j g e = absurd a
  function_there k (x ∷ fs) (y ∷ gs) a zero g e = (x, refl, first_number k x g (subst (λ z. IsFunctionFormOf p k x z) (same_Some y g e) a.0))
  function_there k (x ∷ fs) (y ∷ gs) a (suc j) g e = let h = function_there (k + 1) fs gs a.1 j g e in (h.0, h.1, next_number k j h.0 g h.2)

-- what a lawful program keeps
module _ (p : Program) (lawful : is_lawful p.memory p.frames p.content p.links p.functions p.main ≡ true) where
  placed : is_well_placed p.memory p.frames p.content p.links p.functions p.main ≡ true
  placed = and_first _ (list_all (is_ready p.links p.functions) p.functions) lawful

  main_there : is_main p.memory p.links p.functions (slice_get p.functions p.main) ≡ true
  main_there = and_second (is_lawful_memory p.memory p.frames (length p.content)) _ (and_first _ (list_all (spares p.main) p.links && list_all (is_lawful_in p.memory p.links p.functions true) p.functions) placed)

  all_lawful : list_all (is_lawful_in p.memory p.links p.functions true) p.functions ≡ true
  all_lawful = and_second (list_all (spares p.main) p.links) _ (and_second (is_lawful_memory p.memory p.frames (length p.content) && is_main p.memory p.links p.functions (slice_get p.functions p.main)) _ placed)

  ready_at : (k : ℕ) (f : Function) → slice_get p.functions k ≡ Some f → is_ready p.links p.functions f ≡ true
  ready_at k f e =
      passes_at (is_ready p.links p.functions) p.functions k f
      (and_second (is_well_placed p.memory p.frames p.content p.links p.functions p.main) (list_all (is_ready p.links p.functions) p.functions) lawful) e

  abbrev pub callee_counts : Function → ℕ → Option ℕ
  callee_counts f k = parameter_count (slice_get p.functions (let g = plain p f in g.callee k))

  -- main may not return, and each other function may
  pub body_lawful : (k : ℕ) (f : Function) → slice_get p.functions k ≡ Some f → is_lawful_body p.memory f.variables (callee_counts f) (not (nat_eq k p.main)) (plain p f) ≡ true
  body_lawful k f e = by (nat_eq k p.main) refl where
    main_so : (o : Option Function) → o ≡ Some f → is_main p.memory p.links p.functions o ≡ true → is_lawful_body p.memory f.variables (callee_counts f) false (plain p f) ≡ true
    main_so None e h = absurd (let c : false ≡ true = h in cc)
    main_so (Some x) e h = subst (λ z. is_lawful_in p.memory p.links p.functions false z ≡ true) (same_Some x f e) (and_second _ _ h)

    by : (b : Bool) → nat_eq k p.main ≡ b → is_lawful_body p.memory f.variables (callee_counts f) (not b) (plain p f) ≡ true
    by true i = main_so (slice_get p.functions p.main) (subst (λ (n : ℕ). slice_get p.functions n ≡ Some f) (eqb-true k p.main i) e) main_there
    by false i = passes_at (is_lawful_in p.memory p.links p.functions true) p.functions k f all_lawful e

  pub body_prints : (k : ℕ) (f : Function) → slice_get p.functions k ≡ Some f → PrintBytes (let g = plain p f in g.body)
  body_prints k f e = let g = plain p f in print_bytes g.body (and_second (is_set_first g) (prints_bytes g.body) (ready_at k f e))

  body_first : (k : ℕ) (f : Function) → slice_get p.functions k ≡ Some f → is_set_first (plain p f) ≡ true
  body_first k f e = let g = plain p f in and_first (is_set_first g) (prints_bytes g.body) (ready_at k f e)

module _ (p : Program) (ir : Ir) (low : IsLowered p ir) where
  main_is : is_main p.memory p.links p.functions (slice_get p.functions p.main) ≡ true
  main_is = main_there p low.lawful

  abbrev pub counts : Function → ℕ → Option ℕ
  counts f = callee_counts p low.lawful f

  pub lawful_at : (k : ℕ) (f : Function) → slice_get p.functions k ≡ Some f → is_lawful_body p.memory f.variables (counts f) (not (nat_eq k p.main)) (plain p f) ≡ true
  lawful_at = body_lawful p low.lawful

  bytes_at : (k : ℕ) (f : Function) → slice_get p.functions k ≡ Some f → PrintBytes (let g = plain p f in g.body)
  bytes_at = body_prints p low.lawful

  first_at : (k : ℕ) (f : Function) → slice_get p.functions k ≡ Some f → is_set_first (plain p f) ≡ true
  first_at = body_first p low.lawful

  forms : AreFormsOf p 0 p.functions ir.functions
  forms = let g = low.form in g.functions

  -- a call finds its function
  finds : (f : Function) → FindsFunctions ir.functions (bounds_of p.memory f.variables (counts f) (plain p f)) (record { address = (plain p f).address; callee = (plain p f).callee })
  finds f j arguments h = by (slice_get p.functions ((plain p f).callee j)) refl h where
    by : (o : Option Function) → slice_get p.functions ((plain p f).callee j) ≡ o → takes (parameter_count o) arguments ≡ true → TakesArguments (slice_get ir.functions ((plain p f).callee j)) arguments
    by None e h = absurd (let c : false ≡ true = h in cc)
    by (Some x) e h =
        let g = form_there p 0 p.functions ir.functions forms ((plain p f).callee j) x e in
        subst (λ (o : Option FormFunction). TakesArguments o arguments) (sym g.1) (eqb-true arguments (length x.parameters) h ∙ sym (let i = g.2 in i.parameters))

  -- good code, with the variables of d set at the entry
  good_at : (k : ℕ) (f : Function) → slice_get p.functions k ≡ Some f → (d : VariableSet) → HoldsParameters (length f.parameters) d → statements_read_set d (let g = plain p f in g.body) ≡ true →
      IsGood ir.functions false (not (nat_eq k p.main)) (form_variables f.place (plain p f) f.variables) d (function_code f.place (nat_eq k p.main) (plain p f) f.variables)
  good_at k f e d h g = function_good ir.functions p.memory f.variables (counts f) (nat_eq k p.main) (plain p f) (lawful_at k f e) (finds f) (bytes_at k f e) f.place d h g

  below_good : (k : ℕ) (f : Function) → slice_get p.functions k ≡ Some f → IsGood ir.functions false (not (nat_eq k p.main)) (form_variables f.place (plain p f) f.variables) (below f.variables) (function_code f.place (nat_eq k p.main) (plain p f) f.variables)
  below_good k f e =
      good_at k f e (below f.variables)
      (holds_below ir.functions p.memory f.variables (counts f) (nat_eq k p.main) (plain p f) (lawful_at k f e) (finds f) (bytes_at k f e) f.place)
      (reads_below ir.functions p.memory f.variables (counts f) (nat_eq k p.main) (plain p f) (lawful_at k f e) (finds f) (bytes_at k f e) f.place)

  parameters_fit : (k : ℕ) (f : Function) → slice_get p.functions k ≡ Some f → length f.parameters < form_variables f.place (plain p f) f.variables
  parameters_fit k f e =
      let few = few_parameters ir.functions p.memory f.variables (counts f) (nat_eq k p.main) (plain p f) (lawful_at k f e) (finds f) (bytes_at k f e) f.place in
      let more = no_fewer ir.functions p.memory f.variables (counts f) (nat_eq k p.main) (plain p f) (lawful_at k f e) (finds f) (bytes_at k f e) f.place (below f.variables)
      (holds_below ir.functions p.memory f.variables (counts f) (nat_eq k p.main) (plain p f) (lawful_at k f e) (finds f) (bytes_at k f e) f.place)
      (reads_below ir.functions p.memory f.variables (counts f) (nat_eq k p.main) (plain p f) (lawful_at k f e) (finds f) (bytes_at k f e) f.place) in
      omega (arith, few, more)

  module _ (close : FormsClose) where
    -- the code of each function is closed
    closes_at : (k : ℕ) (f : Function) → closes (function_code f.place (nat_eq k p.main) (plain p f) f.variables) ≡ true
    closes_at k f = close (record { function = λ j. plain p f; limit = 0 }) (λ j. f.place) (λ j. f.variables) p.main k

    function_is : (k : ℕ) (g : FormFunction) → slice_get ir.functions k ≡ Some g → FunctionIn ir.functions g
    function_is k g e =
        let found = function_there p 0 p.functions ir.functions forms k g e in
        let f = found.0 in
        let form = number_is p k f g found.2 in
        let good = below_good k f found.1 in
        let n = form_variables f.place (plain p f) f.variables in
        let code = function_code f.place (nat_eq k p.main) (plain p f) f.variables in
        record {
          parameters = let low = parameters_fit k f found.1 in let a = form.parameters in let b = form.variables in omega (arith, low, a, b);
          names = subst (λ (m : ℕ). Each (ItemIn ir.functions m) (TestIn m) (form_of g.body)) (sym form.variables)
              (subst (λ (c : Form). Each (ItemIn ir.functions n) (TestIn n) c) (sym form.body) (good_names ir.functions false (not (nat_eq k p.main)) n code (below f.variables) good));
          loops = subst (λ (c : Form). IsTrue (stays false c)) (sym form.body) (good_stays ir.functions false (not (nat_eq k p.main)) n code (below f.variables) good);
          ends = subst (λ (c : Form). IsTrue (closes c)) (sym form.body) (closes_at k f);
        }

    main_fits : (o : Option Function) → slice_get p.functions p.main ≡ o → is_main p.memory p.links p.functions o ≡ true → IsMain (slice_get ir.functions p.main)
    main_fits None e h = absurd (let c : false ≡ true = h in cc)
    main_fits (Some f) e h =
        let found = form_there p 0 p.functions ir.functions forms p.main f e in
        let g = found.0 in
        let form = number_is p p.main f g found.2 in
        let n = form_variables f.place (plain p f) f.variables in
        let code = function_code f.place (nat_eq p.main p.main) (plain p f) f.variables in
        let good = subst (λ (b : Bool). IsGood ir.functions false (not b) n (below f.variables) code) (same_number p.main) (below_good p.main f e) in
        subst IsMain (sym found.1)
        (form.parameters ∙ eqb-true (length f.parameters) 0 (and_first _ _ h), subst (λ (c : Form). IsTrue (never_returns c)) (sym form.body) (good_never_returns ir.functions false n code (below f.variables) good))

    is_scoped : IsScoped ir
    is_scoped = record {
      main = subst (λ (m : ℕ). IsMain (slice_get ir.functions m)) (sym (let f = low.form in f.main)) (main_fits (slice_get p.functions p.main) refl main_is);
      functions = all_by_place (FunctionIn ir.functions) ir.functions function_is;
    }

  made_first : (k : ℕ) (f : Function) (g : FormFunction) → slice_get p.functions k ≡ Some f → slice_get ir.functions k ≡ Some g → IsSetFirst form_flow (below f.variables) (form_of g.body)
  made_first k f g e i =
      let found = form_there p 0 p.functions ir.functions forms k f e in
      let form = number_is p k f found.0 found.2 in
      subst (λ (h : FormFunction). IsSetFirst form_flow (below f.variables) (form_of h.body)) (same_Some found.0 g (sym found.1 ∙ i))
      (subst (λ (c : Form). IsSetFirst form_flow (below f.variables) c) (sym form.body)
      (good_first ir.functions false (not (nat_eq k p.main)) (form_variables f.place (plain p f) f.variables) (function_code f.place (nat_eq k p.main) (plain p f) f.variables) (below f.variables) (below_good k f e)))

  function_first : (k : ℕ) (g : FormFunction) → slice_get ir.functions k ≡ Some g → IsFunctionSetFirst g
  function_first k g e =
      let found = function_there p 0 p.functions ir.functions forms k g e in
      let f = found.0 in
      let form = number_is p k f g found.2 in
      let d = parameters_set (length f.parameters) in
      let good = good_at k f found.1 d (holds_parameters ir.functions p.memory f.variables (counts f) (nat_eq k p.main) (plain p f) (lawful_at k f found.1) (finds f) (bytes_at k f found.1) f.place)
      (first_at k f found.1) in
      subst (λ (n : ℕ). IsSetFirst form_flow (parameters_set n) (form_of g.body)) (sym form.parameters)
      (subst (λ (c : Form). IsSetFirst form_flow d c) (sym form.body)
      (good_first ir.functions false (not (nat_eq k p.main)) (form_variables f.place (plain p f) f.variables) (function_code f.place (nat_eq k p.main) (plain p f) f.variables) d good))

pub forms_scoped : FormsClose → FormsScoped
forms_scoped close p ir low = is_scoped p ir low close

pub made_set_first : MadeSetFirst
made_set_first p ir low = made_first p ir low

pub forms_set_first : FormsSetFirst
forms_set_first p ir low = all_by_place IsFunctionSetFirst ir.functions (function_first p ir low)
