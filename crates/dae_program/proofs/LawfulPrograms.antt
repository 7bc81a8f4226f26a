-- Programs in memory that are lawful keep the rules.
use Rattle.std.proofs.Common.{◌≡◌, ◌≢◌, ℕ, ◌+◌, ◌-◌, ◌%◌, ◌^◌, ◌<◌, ◌≤◌, Bool, true, false, not, ◌&&◌, nat_eq, List, [], ◌∷◌, ◌++◌, length, replicate, Option, Some, None, refl, sym, subst, arith, length-append}
use Rattle.std.proofs.lemmas.List.{length-replicate}
use Rattle.std.proofs.lemmas.Bool.Decides.{nat_tests}
use Rattle.std.specs.Prelude.{nat_le, slice_get}
use Rattle.std.specs.List.{list_all}
use Rattle.std.proofs.lemmas.Option.{slice_get_within}
use Rattle.std.proofs.lemmas.Bool.{leb-true, eqb-true}
use Rattle.dae_base.proofs.Laws.{passes_at, and_first, and_second}
use Rattle.dae_program.specs.declared.program.Function.{Function}
use Rattle.dae_program.specs.declared.program.Links.{Links}
use Rattle.dae_program.specs.declared.program.Program.{Program}
use Rattle.dae_program.specs.Lawful.{FunctionBounds, is_well_placed, is_lawful_memory, is_lawful_body, is_lawful_in, is_main, parameter_count, are_inside, spares, is_sound_slot, are_sound_statements}
use Rattle.dae_program.specs.Placed.{KeepsFrame, KeepsFrames}
use Rattle.dae_program.specs.Programs.{program_of, start}
use Rattle.dae_program.specs.Promise.{KeepsRules, LawfulKeepRules, NeverStrays}
use Rattle.dae_program.specs.Resolved.{function_in, callee_in, number_or, variables_in}
use Rattle.dae_program.specs.Scope.{AreStatementsIn, AreSlotsIn}
use Rattle.dae_program.specs.Trees as tree
use Rattle.dae_program.proofs.Straying.{named_never_stray}
use Rattle.dae_program.proofs.LawfulScope.{statements_in, slots_in}
use Rattle.dae_program.proofs.LawfulPlaced.{statements_placed, slots_placed}

-- ---- lists

no_items : {A : Type 0} (xs : List A) → nat_eq (length xs) 0 ≡ true → xs ≡ []
no_items [] h = refl
no_items (x ∷ xs) h = absurd (grind (arith, nat_tests))

different : (a b : ℕ) → not (nat_eq a b) ≡ true → a ≢ b
different a b h e = absurd (grind (arith, nat_tests))

too_many : (m n : ℕ) → m < n → n ≡ m → ⊥
too_many m n h e = omega (arith, h, e)

-- ---- functions

module _ (memory variables : ℕ) (counts : ℕ → Option ℕ) (returns : Bool) (f : tree.Function) (h : is_lawful_body memory variables counts returns f ≡ true) where
  abbrev bounds : FunctionBounds
  bounds = record { variables = variables; parameters = counts; address = f.address; memory = memory; frame = f.frame }

  numbers : (nat_eq (f.frame % 4) 0 && nat_le (1 + length f.parameters) variables) ≡ true
  numbers = and_first _ _ (and_first _ _ h)

  parts : (list_all (is_sound_slot f.frame) f.parameters && are_sound_statements bounds f.body) ≡ true
  parts = and_second (nat_eq (f.frame % 4) 0 && nat_le (1 + length f.parameters) variables) _ (and_first _ (are_inside false false returns f.body) h)

  body_in : AreStatementsIn variables f.body
  body_in = statements_in bounds f.body (and_second _ _ parts)

  parameters_below : 1 + length f.parameters ≤ variables
  parameters_below = leb-true _ variables (and_second _ _ numbers)

  parameters_in : AreSlotsIn f.parameters
  parameters_in = slots_in f.frame f.parameters (and_first _ _ parts)

  body_placed : memory ≤ 4294967296 → KeepsFrame memory f
  body_placed small = record {
    aligned = eqb-true _ 0 (and_first _ _ numbers);
    parameters = slots_placed bounds small f.parameters (and_first _ _ parts);
    statements = statements_placed bounds small f.body (and_second _ _ parts);
  }

-- ---- programs

module _ (p : Program) (limit : ℕ) (h : is_well_placed p.memory p.frames p.content p.links p.functions p.main ≡ true) where
  beginning : (is_lawful_memory p.memory p.frames (length p.content) && is_main p.memory p.links p.functions (slice_get p.functions p.main)) ≡ true
  beginning = and_first _ _ h

  lists : (list_all (spares p.main) p.links && list_all (is_lawful_in p.memory p.links p.functions true) p.functions) ≡ true
  lists = and_second (is_lawful_memory p.memory p.frames (length p.content) && is_main p.memory p.links p.functions (slice_get p.functions p.main)) _ h

  abbrev function : Option Function → tree.Function
  function f = function_in (length p.functions) p.links f

  abbrev counts : Function → ℕ → Option ℕ
  counts f k = parameter_count (slice_get p.functions (let g = function (Some f) in g.callee k))

  lawful_at : (k : ℕ) (f : Function) → slice_get p.functions k ≡ Some f → is_lawful_body p.memory f.variables (counts f) true (function (Some f)) ≡ true
  lawful_at k f e = passes_at (is_lawful_in p.memory p.links p.functions true) p.functions k f (and_second _ _ lists) e

  module _ (k : ℕ) where
    scope_at : (f : Option Function) → slice_get p.functions k ≡ f → AreStatementsIn (variables_in f) (let g = function f in g.body)
    scope_at None e = tt
    scope_at (Some f) e = body_in p.memory f.variables (counts f) true (function (Some f)) (lawful_at k f e)

    parameters_at : (f : Option Function) → slice_get p.functions k ≡ f → 1 + length (let g = function f in g.parameters) ≤ variables_in f
    parameters_at None e = omega arith
    parameters_at (Some f) e = parameters_below p.memory f.variables (counts f) true (function (Some f)) (lawful_at k f e)

    slots_at : (f : Option Function) → slice_get p.functions k ≡ f → AreSlotsIn (let g = function f in g.parameters)
    slots_at None e = tt
    slots_at (Some f) e = parameters_in p.memory f.variables (counts f) true (function (Some f)) (lawful_at k f e)

    frame_at : p.memory ≤ 4294967296 → (f : Option Function) → slice_get p.functions k ≡ f → KeepsFrame p.memory (function f)
    frame_at small None e = record { aligned = refl; parameters = tt; statements = tt }
    frame_at small (Some f) e = body_placed p.memory f.variables (counts f) true (function (Some f)) (lawful_at k f e) small

  main_there : (f : Option Function) → slice_get p.functions p.main ≡ f → is_main p.memory p.links p.functions f ≡ true → p.main < length p.functions
  main_there None e i = absurd (let c : false ≡ true = i in cc)
  main_there (Some f) e i = slice_get_within p.functions p.main f e

  none_else : length p.functions ≢ p.main
  none_else e = too_many p.main (length p.functions) (main_there (slice_get p.functions p.main) refl (and_second _ _ beginning)) e

  callee_else : (links : Option Links) (file g : ℕ) → slice_get p.links file ≡ links → callee_in (length p.functions) links g ≢ p.main
  callee_else None file g e = none_else
  callee_else (Some links) file g e = by (slice_get links.functions g) refl where
    by : (x : Option ℕ) → slice_get links.functions g ≡ x → number_or (length p.functions) x ≢ p.main
    by None i = none_else
    by (Some x) i = different x p.main (passes_at (λ (f : ℕ). not (nat_eq f p.main)) links.functions g x (passes_at (spares p.main) p.links file links (and_first _ _ lists) e) i)

  alone_in : (f : Option Function) (g : ℕ) → (let h = function f in h.callee g) ≢ p.main
  alone_in None g = none_else
  alone_in (Some f) g = callee_else (slice_get p.links f.file) f.file g refl

  plain_in : (f : Option Function) → is_main p.memory p.links p.functions f ≡ true → (let g = function f in g.parameters) ≡ []
  plain_in None i = refl
  plain_in (Some f) i = no_items f.parameters (and_first _ _ i)

  sizes : is_lawful_memory p.memory p.frames (length p.content) ≡ true
  sizes = and_first _ _ beginning

  ends : (p.frames % 4 ≡ 0) × (16 + length p.content ≤ p.frames) × (p.frames ≤ p.memory) × (p.memory ≤ 2 ^ 26)
  ends = (eqb-true _ 0 (and_first _ _ (and_first _ _ sizes)), leb-true _ p.frames (and_second _ _ (and_first _ _ sizes)), leb-true p.frames p.memory (and_first _ _ (and_second _ _ sizes)), leb-true p.memory (2 ^ 26) (and_second _ _ (and_second _ _ sizes)))

  memory_length : length ((replicate 16 0 ++ p.content) ++ replicate (p.memory - (16 + length p.content)) 0) ≡ p.memory
  memory_length =
      let content = length-append (replicate 16 0) p.content in
      let all = length-append (replicate 16 0 ++ p.content) (replicate (p.memory - (16 + length p.content)) 0) in
      let zeros = length-replicate {A = ℕ} 16 0 in
      let rest = length-replicate {A = ℕ} (p.memory - (16 + length p.content)) 0 in
      omega (arith, content, all, zeros, rest, ends.1, ends.2)

  rules : KeepsRules p limit
  rules = record {
    scope = record {
      statements = λ f. scope_at f (slice_get p.functions f) refl;
      parameters = λ f. parameters_at f (slice_get p.functions f) refl;
      slots = λ f. slots_at f (slice_get p.functions f) refl;
      main_alone = λ f. alone_in (slice_get p.functions f);
      main_plain = plain_in (slice_get p.functions p.main) (and_second _ _ beginning);
    };
    frames = λ f. frame_at f (let e = ends.3 in omega (arith, e)) (slice_get p.functions f) refl;
    begins = record {
      depth = refl;
      fits = let e = ends.2 in omega (arith, e, memory_length);
      work = omega arith;
      aligned = ends.0;
      low = let e = ends.1 in omega (arith, e);
    };
    memory = memory_length;
  }

pub lawful_keep_rules : LawfulKeepRules
lawful_keep_rules p limit h = rules p limit (and_first _ _ h)

pub never_strays : NeverStrays
never_strays p limit n h =
    let kept = rules p limit (and_first _ _ h) in
    named_never_stray (program_of p limit) true n p.main (start p.memory p.frames p.content) (subst (λ (m : ℕ). KeepsFrames m (program_of p limit)) (sym kept.memory) kept.frames) kept.begins
