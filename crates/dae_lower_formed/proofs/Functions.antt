-- The form of a function is good code.
use Rattle.std.proofs.Common.{◌≡◌, ℕ, suc, ◌+◌, ◌<◌, ◌≤◌, ◌%◌, ◌^◌, Bool, true, false, not, ◌&&◌, nat_eq, if◌then◌else◌, List, [], ◌∷◌, length, Option, Some, None, refl, arith}
use Rattle.std.proofs.lemmas.Bool.Decides.{nat_tests}
use Rattle.std.specs.Prelude.{nat_le}
use Rattle.std.specs.List.{list_all}
use Rattle.std.proofs.lemmas.Bool.{leb-true, ltb-true}
use Rattle.dae_base.specs.declared.Place.{Place}
use Rattle.dae_base.proofs.Laws.{and_first, and_second}
use Rattle.dae_ir.specs.Code.{Do}
use Rattle.dae_ir.specs.Form.{Form}
use Rattle.dae_ir.specs.Classes.{VariableSet, IsWithin}
use Rattle.dae_ir.specs.SetFirst.{form_flow, assured, parameters_set}
use Rattle.dae_ir.specs.declared.form.Function.{Function as FormFunction}
use Rattle.dae_ir.specs.declared.form.Item.TheVariants.{Assign, Store, Expect, Return, Halt}
use Rattle.dae_ir.specs.declared.form.Check.TheVariants.{Frame}
use Rattle.dae_ir.specs.declared.form.Operand.TheVariants.{Variable, Number}
use Rattle.dae_ir.specs.declared.form.Value.TheVariants.{FrameAddress}
use Rattle.dae_program.specs.declared.program.FrameSlot.{FrameSlot}
use Rattle.dae_program.specs.Lawful.{FunctionBounds, is_sound_slot, are_sound_statements, are_inside, is_lawful_body}
use Rattle.dae_program.specs.Trees as tree
use Rattle.dae_lower.specs.Lowering.{Made, ◌⨾◌, ◌≫◌, emit, one, checks, is_closed, closed, parameters_stored, statements, function_code}
use Rattle.dae_lower_formed.specs.Bytes.{PrintBytes}
use Rattle.dae_program.specs.SetFirst.{statements_read_set, set_behind_statements}
use Rattle.dae_lower_formed.specs.Formed.{below, form_variables}
use Rattle.dae_lower_formed.proofs.Good.{set_here, set_on, IsGood, good_then}
use Rattle.dae_lower_formed.proofs.Makes.{Anything, Makes, chain, nothing_makes}
use Rattle.dae_lower_formed.proofs.Expressions.{FindsFunctions}
use Rattle.dae_lower_formed.proofs.Statements.{statements_make}
use Rattle.dae_lower_formed.proofs.Below.{statements_below}

-- the parameters are among these
abbrev pub HoldsParameters : ℕ → VariableSet → Type 0
HoldsParameters count d = (v : ℕ) → 0 < v → v ≤ count → d v ≡ true

module _ (functions : List FormFunction) {jumps returns : Bool} where
  parameters_make : {m : ℕ} {c : VariableSet} (p : Place) (frame count : ℕ) (slots : List (Option FrameSlot)) → 1 + count ≤ m → list_all (is_sound_slot frame) slots ≡ true → (k : ℕ) → 0 < k → k + length slots ≤ suc count →
      (n : ℕ) (d : VariableSet) → m ≤ n → IsWithin c d → HoldsParameters count d → Makes functions jumps returns Anything n d c (parameters_stored p slots k n)
  parameters_make p frame count [] low h k some few n d j w g = nothing_makes functions tt w tt
  parameters_make p frame count (None ∷ slots) low h k some few n d j w g = parameters_make p frame count slots low h (k + 1) (omega arith) (omega (arith, few)) n d j w g
  parameters_make {m} {c} p frame count (Some slot ∷ slots) low h k some few n d j w g =
      chain functions (λ x. parameters_stored p slots (k + 1)) j stored
      (λ q e x o t z u a. parameters_make p frame count slots low (and_second _ _ h) (k + 1) (omega arith) (omega (arith, few)) q e o u (λ v a b. z v (g v a b))) where
        stored : Makes functions jumps returns Anything n d c (emit (Do p (Assign n (FrameAddress slot.offset)) (one p (Store slot.width (Variable n) (Variable k)))) (n + 1))
        stored = record {
          grows = omega arith;
          good = ((refl, ((omega (arith, low, j), omega arith), ltb-true slot.offset (2 ^ 32) (and_first _ _ (and_first _ _ h))), refl), ((refl, (omega arith, omega (arith, few, low, j)), (set_here n d, set_on n d k (g k some (omega (arith, few))))), tt));
          sets = λ v z. set_on n d v (w v z);
          given = tt;
        }

module _ (functions : List FormFunction) where
  -- what ends a function that is main or isn't
  last_good : (is_main : Bool) (n : ℕ) (d : VariableSet) (p : Place) → IsGood functions false (not is_main) n d (one p (if is_main then Halt (Number 0) else Return (Number 0)))
  last_good true n d p = ((refl, omega arith, refl), tt)
  last_good false n d p = ((refl, omega arith, refl), tt)

  closed_good : (is_main : Bool) (n : ℕ) (d : VariableSet) (p : Place) (code : Form) → IsGood functions false (not is_main) n d code → IsGood functions false (not is_main) n d (closed p (if is_main then Halt (Number 0) else Return (Number 0)) code)
  closed_good is_main n d p code h = by (is_closed code) where
    by : (b : Bool) → IsGood functions false (not is_main) n d (if b then code else code ⨾ one p (if is_main then Halt (Number 0) else Return (Number 0)))
    by true = h
    by false = good_then functions false (not is_main) n code (one p (if is_main then Halt (Number 0) else Return (Number 0))) d h (last_good is_main n (assured form_flow d code) p)

  checked_good : (b r : Bool) (n : ℕ) (d : VariableSet) (p : Place) (code : Form) → IsGood functions false r n d code → IsGood functions false r n d (checks b p (Expect Frame) code)
  checked_good true r n d p code h = ((refl, tt, refl), h)
  checked_good false r n d p code h = h

-- which bounds a lawful function keeps
abbrev pub bounds_of : (memory variables : ℕ) → (ℕ → Option ℕ) → tree.Function → FunctionBounds
bounds_of memory variables counts f = record { variables = variables; parameters = counts; address = f.address; memory = memory; frame = f.frame }

module _ (functions : List FormFunction) (memory variables : ℕ) (counts : ℕ → Option ℕ) (is_main : Bool) (f : tree.Function) (lawful : is_lawful_body memory variables counts (not is_main) f ≡ true)
    (finds : FindsFunctions functions (bounds_of memory variables counts f) (record { address = f.address; callee = f.callee })) (bytes : PrintBytes f.body) (p : Place) where
  bounds : FunctionBounds
  bounds = bounds_of memory variables counts f

  numbers : (nat_eq (f.frame % 4) 0 && nat_le (1 + length f.parameters) variables) ≡ true
  numbers = and_first _ _ (and_first _ _ lawful)

  parts : (list_all (is_sound_slot f.frame) f.parameters && are_sound_statements (bounds_of memory variables counts f) f.body) ≡ true
  parts = and_second (nat_eq (f.frame % 4) 0 && nat_le (1 + length f.parameters) variables) _ (and_first _ (are_inside false false (not is_main) f.body) lawful)

  pub few_parameters : 1 + length f.parameters ≤ variables
  few_parameters = leb-true _ variables (and_second _ _ numbers)

  some : 0 < variables
  some = let h = few_parameters in omega (arith, h)

  abbrev made : Made (Unit {0})
  made = parameters_stored p f.parameters 1 variables ≫ λ x. statements (record { address = f.address; callee = f.callee }) f.body

  core_makes : (d : VariableSet) → HoldsParameters (length f.parameters) d → statements_read_set d f.body ≡ true → Makes functions false (not is_main) Anything variables d (set_behind_statements d f.body) made
  core_makes d h g =
      chain functions (λ x. statements (record { address = f.address; callee = f.callee }) f.body) (let j : variables ≤ variables = omega arith in j)
      (parameters_make functions p f.frame (length f.parameters) f.parameters few_parameters (and_first _ _ parts) 1 (omega arith) (omega arith) variables d (omega arith) (λ v z. z) h)
      (λ q e x o t z u a. statements_make functions (bounds_of memory variables counts f) some (record { address = f.address; callee = f.callee }) finds d f.body false false false (not is_main) (λ c. c) (λ c. c)
      (and_second _ _ parts) (and_second _ _ lawful) bytes g q e o u)

  -- the form of a function, where its parameters are set and its body reads nothing that isn't
  pub function_good : (d : VariableSet) → HoldsParameters (length f.parameters) d → statements_read_set d f.body ≡ true → IsGood functions false (not is_main) (form_variables p f variables) d (function_code p is_main f variables)
  function_good d h g =
      checked_good functions (is_main && not (nat_eq f.frame 0)) (not is_main) made.next d p (closed p (if is_main then Halt (Number 0) else Return (Number 0)) made.code)
      (closed_good functions is_main made.next d p made.code (core_makes d h g).good)

  pub no_fewer : (d : VariableSet) → HoldsParameters (length f.parameters) d → statements_read_set d f.body ≡ true → variables ≤ form_variables p f variables
  no_fewer d h g = (core_makes d h g).grows

  pub holds_below : HoldsParameters (length f.parameters) (below variables)
  holds_below v h g = let low = few_parameters in grind (arith, nat_tests, h, g, low)

  pub reads_below : statements_read_set (below variables) f.body ≡ true
  reads_below = statements_below (bounds_of memory variables counts f) f.body (below variables) (λ v z. z) (and_second _ _ parts)

  pub holds_parameters : HoldsParameters (length f.parameters) (parameters_set (length f.parameters))
  holds_parameters v h g = grind (arith, nat_tests, h, g)
