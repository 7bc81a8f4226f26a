-- The marks of all functions are sets that the form keeps, so its least sets are within them.
use Rattle.std.proofs.Common.{◌≡◌, ℕ, ◌+◌, ◌<◌, ◌≤◌, ◌%◌, Bool, true, false, not, ◌&&◌, nat_eq, if◌then◌else◌, length, Option, Some, None, refl, ap, sym, ◌∙◌, subst, arith}
use Rattle.std.specs.Prelude.{slice_get, nat_le}
use Rattle.std.specs.List.{list_all, AllByRecursion}
use Rattle.std.proofs.lemmas.Bool.{eqb-true, leb-true}
use Rattle.std.proofs.lemmas.Option.{same_Some}
use Rattle.dae_base.specs.declared.Place.{Place}
use Rattle.dae_base.proofs.Laws.{and_first, and_second, all_at}
use Rattle.dae_ir.specs.Code.{Each}
use Rattle.dae_ir.specs.Form.{Form, form_of}
use Rattle.dae_ir.specs.Classes.{VariableSet, AddressesKept}
use Rattle.dae_ir.specs.Programs.{body_in}
use Rattle.dae_ir.specs.declared.form.Function.{Function as FormFunction}
use Rattle.dae_ir.specs.declared.form.Ir.{Ir}
use Rattle.dae_ir.specs.declared.form.Item.TheVariants.{Expect, Return, Halt}
use Rattle.dae_ir.specs.declared.form.Check.TheVariants.{Frame}
use Rattle.dae_ir.specs.declared.form.Operand.TheVariants.{Number}
use Rattle.dae_program.specs.declared.program.Function.{Function}
use Rattle.dae_program.specs.declared.program.Program.{Program}
use Rattle.dae_program.specs.Lawful.{is_sound_slot, are_sound_statements, are_inside, parameter_count, takes}
use Rattle.dae_program.specs.Programs.{program_of}
use Rattle.dae_program.specs.Resolved.{function_in, variables_in}
use Rattle.dae_program.specs.Wanted.{Wants, KeepStatements, AreKept, wanted_in, wanted_reads, open_statements, open_tests}
use Rattle.dae_lower.specs.Lowering.{◌⨾◌, ◌≫◌, one, checks, is_closed, closed, parameters_stored, statements, function_code}
use Rattle.dae_lower_bounds.specs.Bounds.{HasBoundedSets, SetsBounded}
use Rattle.dae_lower_bounds.specs.Constants.{InitialisesConstants}
use Rattle.dae_lower_bounds.specs.Voids.{void_statements, void_tests}
use Rattle.dae_lower_formed.specs.Formed.{plain, IsFunctionFormOf, IsLowered}
use Rattle.dae_lower_formed.proofs.Laws.{bounds_of, form_there, function_there, lawful_at, counts}
use Rattle.dae_lower_bounds.proofs.Marked.{AnyTest, loads_into, loads_then, tests_within, tests_then, each_then, joined, joined_first, joined_second, Any, Marked}
use Rattle.dae_lower_bounds.proofs.MarkedStatements.{function_does}

-- ---- a function's code round its statements

module _ (all : ℕ → VariableSet) (s : VariableSet) (p : Place) where
  each_checks : (b : Bool) (code : Form) → Each (AddressesKept all s) AnyTest code → Each (AddressesKept all s) AnyTest (checks b p (Expect Frame) code)
  each_checks true code h = (tt, h)
  each_checks false code h = h

  loads_checks : (b : Bool) (code : Form) → loads_into s (checks b p (Expect Frame) code) ≡ loads_into s code
  loads_checks true code = omega arith
  loads_checks false code = refl

  tests_checks : (b : Bool) (code : Form) → tests_within s (checks b p (Expect Frame) code) ≡ tests_within s code
  tests_checks true code = omega arith
  tests_checks false code = refl

  last_each : (m : Bool) → Each (AddressesKept all s) AnyTest (one p (if m then Halt (Number 0) else Return (Number 0)))
  last_each true = (tt, tt)
  last_each false = ((λ t. refl), tt)

  last_loads : (m : Bool) → loads_into s (one p (if m then Halt (Number 0) else Return (Number 0))) ≡ 0
  last_loads true = omega arith
  last_loads false = omega arith

  last_tests : (m : Bool) → tests_within s (one p (if m then Halt (Number 0) else Return (Number 0))) ≡ 0
  last_tests true = omega arith
  last_tests false = omega arith

  each_closed : (m : Bool) (code : Form) → Each (AddressesKept all s) AnyTest code → Each (AddressesKept all s) AnyTest (closed p (if m then Halt (Number 0) else Return (Number 0)) code)
  each_closed m code h = by (is_closed code) where
    by : (b : Bool) → Each (AddressesKept all s) AnyTest (if b then code else code ⨾ one p (if m then Halt (Number 0) else Return (Number 0)))
    by true = h
    by false = each_then (AddressesKept all s) code (one p (if m then Halt (Number 0) else Return (Number 0))) h (last_each m)

  loads_closed : (m : Bool) (code : Form) → loads_into s (closed p (if m then Halt (Number 0) else Return (Number 0)) code) ≡ loads_into s code
  loads_closed m code = by (is_closed code) where
    by : (b : Bool) → loads_into s (if b then code else code ⨾ one p (if m then Halt (Number 0) else Return (Number 0))) ≡ loads_into s code
    by true = refl
    by false = let h = loads_then s code (one p (if m then Halt (Number 0) else Return (Number 0))) in let g = last_loads m in omega (arith, h, g)

  tests_closed : (m : Bool) (code : Form) → tests_within s (closed p (if m then Halt (Number 0) else Return (Number 0)) code) ≡ tests_within s code
  tests_closed m code = by (is_closed code) where
    by : (b : Bool) → tests_within s (if b then code else code ⨾ one p (if m then Halt (Number 0) else Return (Number 0))) ≡ tests_within s code
    by true = refl
    by false = let h = tests_then s code (one p (if m then Halt (Number 0) else Return (Number 0))) in let g = last_tests m in omega (arith, h, g)

-- ---- all functions

module _ (p : Program) (ir : Ir) (low : IsLowered p ir) (constants : AllByRecursion (λ (f : Function). InitialisesConstants (let g = plain p f in g.body)) p.functions) (limit : ℕ) (wants : Wants) (kept : AreKept (program_of p limit) wants) where
  abbrev own : ℕ → ℕ
  own g = variables_in (slice_get p.functions g)

  few : (k : ℕ) (f : Function) → slice_get p.functions k ≡ Some f → 1 + length f.parameters ≤ f.variables
  few k f e =
      let h = lawful_at p ir low k f e in
      let g = plain p f in
      let numbers = and_first (nat_eq (g.frame % 4) 0 && nat_le (1 + length g.parameters) f.variables) _ (and_first _ (are_inside false false (not (nat_eq k p.main)) g.body) h) in
      leb-true _ f.variables (and_second _ _ numbers)

  sound : (k : ℕ) (f : Function) → slice_get p.functions k ≡ Some f → are_sound_statements (bounds_of p.memory f.variables (counts p ir low f) (plain p f)) (let g = plain p f in g.body) ≡ true
  sound k f e =
      let h = lawful_at p ir low k f e in
      let g = plain p f in
      and_second _ _ (and_second (nat_eq (g.frame % 4) 0 && nat_le (1 + length g.parameters) f.variables) (list_all (is_sound_slot g.frame) g.parameters && are_sound_statements (bounds_of p.memory f.variables (counts p ir low f) g) g.body) (and_first _ (are_inside false false (not (nat_eq k p.main)) g.body) h))

  enough : (f : Function) (g k : ℕ) → takes (counts p ir low f g) k ≡ true → k < own (let h = plain p f in h.callee g)
  enough f g k h = by (slice_get p.functions (let q = plain p f in q.callee g)) refl h where
    by : (o : Option Function) → slice_get p.functions (let q = plain p f in q.callee g) ≡ o → takes (parameter_count o) k ≡ true → k < variables_in o
    by None e h = absurd (let c : false ≡ true = h in cc)
    by (Some x) e h = let low = few (let q = plain p f in q.callee g) x e in let i = eqb-true k (length x.parameters) h in omega (arith, low, i)

  kept_at : (k : ℕ) (f : Function) → slice_get p.functions k ≡ Some f → KeepStatements wants (let g = plain p f in g.callee) k (let g = plain p f in g.body)
  kept_at k f e = subst (λ (o : Option Function). KeepStatements wants (let g = function_in (length p.functions) p.links o in g.callee) k (let g = function_in (length p.functions) p.links o in g.body)) e (kept k)

  marked : (k : ℕ) (f : Function) → slice_get p.functions k ≡ Some f → Marked wants own k f.variables (λ s. Unit {0}) Any f.variables (wanted_in wants (let g = plain p f in g.callee) k (let g = plain p f in g.body)) (open_statements (wants k) (let g = plain p f in g.body) + void_statements (let g = plain p f in g.body))
      (parameters_stored f.place (let g = plain p f in g.parameters) 1 f.variables ≫ λ x. statements (record { address = (plain p f).address; callee = (plain p f).callee }) (let g = plain p f in g.body))
  marked k f e =
      function_does wants own k (bounds_of p.memory f.variables (counts p ir low f) (plain p f)) (let h = few k f e in omega (arith, h)) (record { address = (plain p f).address; callee = (plain p f).callee }) (enough f)
      f.place (let g = plain p f in g.parameters) (let g = plain p f in g.body) (sound k f e) (kept_at k f e) (all_at (λ (f : Function). InitialisesConstants (let g = plain p f in g.body)) p.functions k f constants e)

  -- the wanted variables of a function, and its marks
  set_of : (k : ℕ) (o : Option Function) → slice_get p.functions k ≡ o → VariableSet
  set_of k None e = joined 1 (wants k) (λ v. false)
  set_of k (Some f) e = joined f.variables (wants k) ((marked k f e).marks)

  all_sets : ℕ → VariableSet
  all_sets k = set_of k (slice_get p.functions k) refl

  set_own : (k : ℕ) (o : Option Function) (e : slice_get p.functions k ≡ o) (v : ℕ) → v < variables_in o → set_of k o e v ≡ wants k v
  unfolding set_of
  set_own k None e v h = joined_first 1 (wants k) (λ v. false) v h
  set_own k (Some f) e v h = joined_first f.variables (wants k) ((marked k f e).marks) v h

  sets_fit : (g v : ℕ) → v < own g → all_sets g v ≡ wants g v
  unfolding all_sets
  sets_fit g v h = set_own g (slice_get p.functions g) refl v h

  code_at : (k : ℕ) (f : Function) (e : slice_get p.functions k ≡ Some f) →
      Each (AddressesKept all_sets (set_of k (Some f) e)) AnyTest (function_code f.place (nat_eq k p.main) (plain p f) f.variables) × (loads_into (set_of k (Some f) e) (function_code f.place (nat_eq k p.main) (plain p f) f.variables) ≤ wanted_in wants (let g = plain p f in g.callee) k (let g = plain p f in g.body)) ×
      (tests_within (set_of k (Some f) e) (function_code f.place (nat_eq k p.main) (plain p f) f.variables) ≤ open_statements (wants k) (let g = plain p f in g.body) + void_statements (let g = plain p f in g.body))
  unfolding set_of
  code_at k f e =
      let m = marked k f e in
      let s = set_of k (Some f) e in
      let is_main = nat_eq k p.main in
      let core = parameters_stored f.place (let g = plain p f in g.parameters) 1 f.variables ≫ λ x. statements (record { address = (plain p f).address; callee = (plain p f).callee }) (let g = plain p f in g.body) in
      let h = m.holds all_sets sets_fit s (set_own k (Some f) e) tt (λ v l g. joined_second f.variables (wants k) m.marks v l) in
      let frame = is_main && not (nat_eq (let g = plain p f in g.frame) 0) in
      let whole = closed f.place (if is_main then Halt (Number 0) else Return (Number 0)) core.code in
      let a = loads_checks all_sets s f.place frame whole in
      let c = loads_closed all_sets s f.place is_main core.code in
      let d = tests_checks all_sets s f.place frame whole in
      let t = tests_closed all_sets s f.place is_main core.code in
      (each_checks all_sets s f.place frame whole (each_closed all_sets s f.place is_main core.code h.0), omega (arith, a, c, h.1), omega (arith, d, t, h.2))

  forms : (k : ℕ) (f : Function) → slice_get p.functions k ≡ Some f → (g : FormFunction) × (slice_get ir.functions k ≡ Some g) × (form_of g.body ≡ function_code f.place (nat_eq k p.main) (plain p f) f.variables)
  forms k f e =
      let h = form_there p 0 p.functions ir.functions (let t = low.form in t.functions) k f e in
      let form = subst (λ (n : ℕ). IsFunctionFormOf p n f h.0) (let z : 0 + k ≡ k = omega arith in z) h.2 in
      (h.0, h.1, form.body)

  body_kept : (k : ℕ) (o : Option Function) (e : slice_get p.functions k ≡ o) → Each (AddressesKept all_sets (set_of k o e)) AnyTest (body_in (slice_get ir.functions k))
  body_kept k None e = by (slice_get ir.functions k) refl where
    by : (o : Option FormFunction) → slice_get ir.functions k ≡ o → Each (AddressesKept all_sets (set_of k None e)) AnyTest (body_in o)
    by None i = tt
    by (Some g) i = let h = function_there p 0 p.functions ir.functions (let t = low.form in t.functions) k g i in absurd (let c : None ≡ Some h.0 = sym e ∙ h.1 in cc)
  body_kept k (Some f) e =
      let h = forms k f e in
      subst (λ (o : Option FormFunction). Each (AddressesKept all_sets (set_of k (Some f) e)) AnyTest (body_in o)) (sym h.1)
      (subst (λ (c : Form). Each (AddressesKept all_sets (set_of k (Some f) e)) AnyTest c) (sym h.2) (code_at k f e).0)

  closed_sets : (k : ℕ) → Each (AddressesKept all_sets (all_sets k)) AnyTest (body_in (slice_get ir.functions k))
  unfolding all_sets
  closed_sets k = body_kept k (slice_get p.functions k) refl

  loads_at : (k : ℕ) (o : Option Function) (e : slice_get p.functions k ≡ o) (f : Function) → o ≡ Some f → (g : FormFunction) → slice_get ir.functions k ≡ Some g → loads_into (set_of k o e) (form_of g.body) ≤ wanted_in wants (let h = plain p f in h.callee) k (let h = plain p f in h.body)
  loads_at k None e f i g j = absurd (let c : None ≡ Some f = i in cc)
  loads_at k (Some x) e f i g j =
      let h = forms k x e in
      let is : form_of g.body ≡ function_code x.place (nat_eq k p.main) (plain p x) x.variables = ap (λ (t : FormFunction). form_of t.body) (same_Some g h.0 (sym j ∙ h.1)) ∙ h.2 in
      subst (λ (y : Function). loads_into (set_of k (Some x) e) (form_of g.body) ≤ wanted_in wants (let h = plain p y in h.callee) k (let h = plain p y in h.body)) (same_Some x f i)
      (subst (λ (c : Form). loads_into (set_of k (Some x) e) c ≤ wanted_in wants (let h = plain p x in h.callee) k (let h = plain p x in h.body)) (sym is) (code_at k x e).1)

  tests_at : (k : ℕ) (o : Option Function) (e : slice_get p.functions k ≡ o) (f : Function) → o ≡ Some f → (g : FormFunction) → slice_get ir.functions k ≡ Some g → tests_within (set_of k o e) (form_of g.body) ≤ open_statements (wants k) (let h = plain p f in h.body) + void_statements (let h = plain p f in h.body)
  tests_at k None e f i g j = absurd (let c : None ≡ Some f = i in cc)
  tests_at k (Some x) e f i g j =
      let h = forms k x e in
      let is : form_of g.body ≡ function_code x.place (nat_eq k p.main) (plain p x) x.variables = ap (λ (t : FormFunction). form_of t.body) (same_Some g h.0 (sym j ∙ h.1)) ∙ h.2 in
      subst (λ (y : Function). tests_within (set_of k (Some x) e) (form_of g.body) ≤ open_statements (wants k) (let h = plain p y in h.body) + void_statements (let h = plain p y in h.body)) (same_Some x f i)
      (subst (λ (c : Form). tests_within (set_of k (Some x) e) c ≤ open_statements (wants k) (let h = plain p x in h.body) + void_statements (let h = plain p x in h.body)) (sym is) (code_at k x e).2)

  -- by those sets
  few_loads : (k : ℕ) (f : Function) (g : FormFunction) → slice_get p.functions k ≡ Some f → slice_get ir.functions k ≡ Some g → loads_into (all_sets k) (form_of g.body) ≤ wanted_reads (program_of p limit) wants k
  unfolding all_sets
  few_loads k f g e i =
      let c = loads_at k (slice_get p.functions k) refl f e g i in
      let total : wanted_reads (program_of p limit) wants k ≡ wanted_in wants (let h = plain p f in h.callee) k (let h = plain p f in h.body) =
      ap (λ (o : Option Function). wanted_in wants (let h = function_in (length p.functions) p.links o in h.callee) k (let h = function_in (length p.functions) p.links o in h.body)) e in
      omega (arith, c, total)

  few_tests : (k : ℕ) (f : Function) (g : FormFunction) → slice_get p.functions k ≡ Some f → slice_get ir.functions k ≡ Some g →
      tests_within (all_sets k) (form_of g.body) ≤ open_tests (program_of p limit) wants k + void_tests (program_of p limit) k
  unfolding all_sets
  few_tests k f g e i =
      let c = tests_at k (slice_get p.functions k) refl f e g i in
      let total : open_tests (program_of p limit) wants k + void_tests (program_of p limit) k ≡ open_statements (wants k) (let h = plain p f in h.body) + void_statements (let h = plain p f in h.body) =
      ap (λ (o : Option Function). open_statements (wants k) (let h = function_in (length p.functions) p.links o in h.body) + void_statements (let h = function_in (length p.functions) p.links o in h.body)) e in
      omega (arith, c, total)

  sets : HasBoundedSets p ir limit wants
  sets = record {
    of = λ k. record { s = all_sets k; needs = λ v. false };
    closed = closed_sets;
    loads = few_loads;
    decides = few_tests;
  }

pub sets_bounded : SetsBounded
sets_bounded p ir low constants limit wants kept = sets p ir low constants limit wants kept
