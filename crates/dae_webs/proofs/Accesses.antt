-- What leads to addresses, and what is counted by it, in code whose variables are renamed by webs.
use Rattle.std.proofs.Common.{◌≡◌, ℕ, ◌+◌, ◌<◌, ◌≤◌, true, List, [], ◌∷◌, length, Option, Some, refl, ap, sym, ◌∙◌, subst, arith}
use Rattle.std.specs.Prelude.{slice_get}
use Rattle.std.specs.List.{AllByRecursion}
use Rattle.dae_ir.specs.Code.{Done, Do, If, Loop, Each}
use Rattle.dae_ir.specs.Form.{Form, Program}
use Rattle.dae_ir.specs.Classes.{VariableSet, Classes, has, has_test, has_value, is_by_a, ArgumentsKept, AddressesKept}
use Rattle.dae_ir.specs.Scope.{IsIn, TestIn, ValueIn, ItemIn, TakesArguments}
use Rattle.dae_ir.specs.Sizes.{tally, bit, is_load_into, own_loads, conditions_a}
use Rattle.dae_ir.specs.declared.form.Operand.{Operand}
use Rattle.dae_ir.specs.declared.form.Operand.TheVariants.{Variable, Number}
use Rattle.dae_ir.specs.declared.form.Value.{Value}
use Rattle.dae_ir.specs.declared.form.Value.TheVariants as val
use Rattle.dae_ir.specs.declared.form.Test.{Test}
use Rattle.dae_ir.specs.declared.form.Check.TheVariants.{Place as Good, InBounds, Zero, Room, Frame, Abort}
use Rattle.dae_ir.specs.declared.form.Function.{Function}
use Rattle.dae_ir.specs.declared.form.Item.{Item}
use Rattle.dae_ir.specs.declared.form.Item.TheVariants.{Assign, Load, Store, Print, Expect, Break, Continue, Call, Return, Halt}
use Rattle.dae_webs.specs.Current.{Current, own_webs}
use Rattle.dae_webs.specs.Renamed.{Starts, variable_set, number_after, number_behind, web_set, webs_after, renamed_operand, renamed_operands, renamed_test, renamed_value, renamed_item, renamed_code}
use Rattle.dae_webs.specs.Known.{Owns, IsDefinedNext, IsKnown}
use Rattle.dae_webs.proofs.Inside.{in_first, in_second, in_rest}
use Rattle.dae_webs.proofs.Owning.{IsOf, AreOwned, owned_both, owned_second, owned_rest, owned_start, written_owned, set_owned, owned_next}
use Rattle.dae_webs.proofs.Simulation.{Renamer}

-- ---- what is counted alike in items and tests is counted alike in code

module _ (functions : List Function) (own limit : ℕ) (owner : ℕ → ℕ) (few : own ≤ limit) (kept : (v : ℕ) → v < own → owner v ≡ v)
    (owns : Owns) (owned : (u v : ℕ) → owns u v ≡ true → IsOf owner limit u v) (b : Starts) where
  abbrev Names : Form → Type 0
  Names code = Each (ItemIn functions own) (TestIn own) code

  module _ (f g : Item → ℕ) (h k : Test → ℕ)
      (items : (item : Item) (o : Option ℕ) (m : Current) → ItemIn functions own item → AreOwned owner limit m → IsDefinedNext owns o m (variable_set item) → f (renamed_item o m item) ≡ g item)
      (tests : (t : Test) (m : Current) → TestIn own t → AreOwned owner limit m → h (renamed_test m t) ≡ k t) where
    pub counts_same : (code : Form) (n : ℕ) (m : Current) → Names code → AreOwned owner limit m → IsKnown owns b n m code → tally f h (renamed_code b n m code) ≡ tally g k code
    counts_same Done n m names all known = refl
    counts_same (Do place item c) n m names all known =
        rw (
          items item (b n) m names.0 all known.1,
          counts_same c (number_after n item) (webs_after (b n) m item) names.1 (owned_next owner limit own few kept owns owned (b n) (variable_set item) m all known.1) known.2,
        ) refl
    counts_same (If place t x y c) n m names all known =
        rw (
          tests t m names.0 all,
          counts_same x n (in_first b n x y m) names.1 (owned_both owner limit b n x y m all) known.1,
          counts_same y (number_behind n x) (in_second b n x y m) names.2 (owned_second owner limit b n x y m all) known.2,
          counts_same c (number_behind (number_behind n x) y) (in_rest b n x y m) names.3 (owned_rest owner limit b n x y m all) known.3,
        ) refl
    counts_same (Loop place x y c) n m names all known =
        rw (
          counts_same x n (in_first b n x y m) names.0 (owned_both owner limit b n x y m all) known.0,
          counts_same y (number_behind n x) (in_second b n x y m) names.1 (owned_second owner limit b n x y m all) known.1,
          counts_same c (number_behind (number_behind n x) y) (in_rest b n x y m) names.2 (owned_rest owner limit b n x y m all) known.2,
        ) refl

  -- ---- a set that holds a web where s holds its variable

  module _ (s : VariableSet) where
    abbrev webs_in : VariableSet
    webs_in u = s (owner u)

    has_same : (m : Current) → AreOwned owner limit m → (x : Operand) → IsIn own x → has webs_in (renamed_operand m x) ≡ has s x
    has_same m all (Variable v) i = ap s (written_owned owner limit own few kept m all v i).0
    has_same m all (Number k) i = refl

    test_same : (m : Current) → AreOwned owner limit m → (t : Test) → TestIn own t → has_test webs_in (renamed_test m t) ≡ has_test s t
    test_same m all t i = rw (has_same m all t.left i.0, has_same m all t.right i.1) refl

    value_same : (m : Current) → AreOwned owner limit m → (x : Value) → ValueIn own x → has_value webs_in (renamed_value m x) ≡ has_value s x
    value_same m all (val.Same x) i = has_same m all x i
    value_same m all (val.Extended kind x) i = has_same m all x i
    value_same m all (val.Binary operator x y) i = rw (has_same m all x i.0, has_same m all y i.1) refl
    value_same m all (val.Holds t) i = test_same m all t i
    value_same m all (val.FrameAddress offset) i = refl

    set_same : (o : Option ℕ) (m : Current) → AreOwned owner limit m → (v : ℕ) → v < own → IsDefinedNext owns o m (Some v) → s (owner (web_set o m v)) ≡ s v
    set_same o m all v lt d = ap s (set_owned owner limit own few kept owns owned o m all v lt d).0

    load_same : (item : Item) (o : Option ℕ) (m : Current) → ItemIn functions own item → AreOwned owner limit m → IsDefinedNext owns o m (variable_set item)
        → bit (is_load_into webs_in (renamed_item o m item)) ≡ bit (is_load_into s item)
    load_same (Assign v x) o m i all d = refl
    load_same (Load v kind x) o m i all d = let t = i.0 in ap bit (set_same o m all v t.1 d)
    load_same (Store width x y) o m i all d = refl
    load_same (Print spelling x) o m i all d = refl
    load_same (Expect check) o m i all d = refl
    load_same Break o m i all d = refl
    load_same Continue o m i all d = refl
    load_same (Call v g xs) o m i all d = refl
    load_same (Return x) o m i all d = refl
    load_same (Halt x) o m i all d = refl

    pub loads_same : (code : Form) (n : ℕ) (m : Current) → Names code → AreOwned owner limit m → IsKnown owns b n m code
        → tally (λ item. bit (is_load_into webs_in item)) (λ t. 0) (renamed_code b n m code) ≡ tally (λ item. bit (is_load_into s item)) (λ t. 0) code
    loads_same = counts_same (λ item. bit (is_load_into webs_in item)) (λ item. bit (is_load_into s item)) (λ t. 0) (λ t. 0) load_same (λ t m i all. refl)

    pub conditions_same : (code : Form) (n : ℕ) (m : Current) → Names code → AreOwned owner limit m → IsKnown owns b n m code
        → tally (λ item. 0) (λ t. bit (is_by_a webs_in t)) (renamed_code b n m code) ≡ tally (λ item. 0) (λ t. bit (is_by_a s t)) code
    conditions_same = counts_same (λ item. 0) (λ item. 0) (λ t. bit (is_by_a webs_in t)) (λ t. bit (is_by_a s t)) (λ item o m i all d. refl) (λ t m i all. ap bit (test_same m all t i))

-- ---- closed sets of a program give closed sets of the renamed one

module _ (functions : List Function) (p q : Program) (own limit : ℕ → ℕ) (all : (g : ℕ) → Renamer functions (own g) (limit g) (p.body g) (q.body g))
    (takes : (g count : ℕ) → TakesArguments (slice_get functions g) count → count < own g) where
  abbrev pub owner_in : ℕ → ℕ → ℕ
  owner_in g u = let r = all g in r.owner u

  -- what a web leads to is what its variable leads to
  abbrev pub classes_by_webs : (ℕ → Classes) → ℕ → Classes
  classes_by_webs of g = record { s = λ u. (of g).s (owner_in g u); needs = λ u. (of g).needs (owner_in g u) }

  module _ (of : ℕ → Classes) where
    abbrev old : ℕ → VariableSet
    old g = (of g).s

    abbrev new : ℕ → VariableSet
    new g u = old g (owner_in g u)

    parameter_same : (g k : ℕ) → k < own g → new g k ≡ old g k
    parameter_same g k lt = let r = all g in ap (old g) (r.kept k lt)

    result_same : (g : ℕ) → new g 0 ≡ old g 0
    result_same g = let r = all g in parameter_same g 0 r.some

    module _ (f : ℕ) where
      abbrev Owned : Current → Type 0
      Owned m = AreOwned (owner_in f) (limit f) m

      operand_kept : (m : Current) → Owned m → (x : Operand) → IsIn (own f) x → has (old f) x ≡ true → has (new f) (renamed_operand m x) ≡ true
      operand_kept m o x i h = let r = all f in has_same functions (own f) (limit f) r.owner r.few r.kept r.owns r.owned r.starts (old f) m o x i ∙ h

      value_kept : (m : Current) → Owned m → (x : Value) → ValueIn (own f) x → has_value (old f) x ≡ true → has_value (new f) (renamed_value m x) ≡ true
      value_kept m o x i h = let r = all f in value_same functions (own f) (limit f) r.owner r.few r.kept r.owns r.owned r.starts (old f) m o x i ∙ h

      abbrev Defined : Option ℕ → Current → Option ℕ → Type 0
      Defined z m d = let r = all f in IsDefinedNext r.owns z m d

      target_kept : (z : Option ℕ) (m : Current) → Owned m → (v : ℕ) → v < own f → Defined z m (Some v) → new f (web_set z m v) ≡ true → old f v ≡ true
      target_kept z m o v lt d h = let r = all f in sym (set_same functions (own f) (limit f) r.owner r.few r.kept r.owns r.owned r.starts (old f) z m o v lt d) ∙ h

      arguments_kept : (g : ℕ) (m : Current) → Owned m → (xs : List Operand) (k : ℕ) → k + length xs ≤ own g → AllByRecursion (IsIn (own f)) xs
          → ArgumentsKept (old g) (old f) k xs → ArgumentsKept (new g) (new f) k (renamed_operands m xs)
      arguments_kept g m o [] k few i h = tt
      arguments_kept g m o (x ∷ xs) k few i h =
          (λ c. operand_kept m o x i.0 (h.0 (sym (parameter_same g k (omega (arith, few))) ∙ c)), arguments_kept g m o xs (k + 1) (omega (arith, few)) i.1 h.1)

      item_kept : (item : Item) (z : Option ℕ) (m : Current) → ItemIn functions (own f) item → Owned m → Defined z m (variable_set item)
          → AddressesKept old (old f) item → AddressesKept new (new f) (renamed_item z m item)
      item_kept (Assign v x) z m i o d h = let t = i.0 in λ c. value_kept m o x i.1 (h (target_kept z m o v t.1 d c))
      item_kept (Load v kind x) z m i o d h = operand_kept m o x i.1 h
      item_kept (Store width x y) z m i o d h = operand_kept m o x i.0 h
      item_kept (Print spelling x) z m i o d h = tt
      item_kept (Expect (Good width x)) z m i o d h = operand_kept m o x i h
      item_kept (Expect (InBounds x offset)) z m i o d h = operand_kept m o x i.0 h
      item_kept (Expect (Zero x)) z m i o d h = tt
      item_kept (Expect (Room g)) z m i o d h = tt
      item_kept (Expect Frame) z m i o d h = tt
      item_kept (Expect Abort) z m i o d h = tt
      item_kept Break z m i o d h = tt
      item_kept Continue z m i o d h = tt
      item_kept (Call v g xs) z m i o d h =
          let t = i.0 in
          let count = takes g (length xs) i.1 in
          record {
            arguments = arguments_kept g m o xs 1 (omega (arith, count)) i.2 h.arguments;
            result = λ c. result_same g ∙ h.result (target_kept z m o v t.1 d c);
          }
      item_kept (Return x) z m i o d h = λ c. operand_kept m o x i (h (sym (result_same f) ∙ c))
      item_kept (Halt x) z m i o d h = tt

      code_kept : (code : Form) (n : ℕ) (m : Current) → Each (ItemIn functions (own f)) (TestIn (own f)) code → Owned m → (let r = all f in IsKnown r.owns r.starts n m code)
          → Each (AddressesKept old (old f)) (λ t. Unit {0}) code → Each (AddressesKept new (new f)) (λ t. Unit {0}) (let r = all f in renamed_code r.starts n m code)
      code_kept Done n m names o known h = tt
      code_kept (Do place item k) n m names o known h =
          let r = all f in (
            item_kept item (r.starts n) m names.0 o known.1 h.0,
            code_kept k (number_after n item) (webs_after (r.starts n) m item) names.1 (owned_next r.owner (limit f) (own f) r.few r.kept r.owns r.owned (r.starts n) (variable_set item) m o known.1) known.2 h.1,
          )
      code_kept (If place t x y k) n m names o known h =
          let r = all f in (
            tt,
            code_kept x n (in_first r.starts n x y m) names.1 (owned_both r.owner (limit f) r.starts n x y m o) known.1 h.1,
            code_kept y (number_behind n x) (in_second r.starts n x y m) names.2 (owned_second r.owner (limit f) r.starts n x y m o) known.2 h.2,
            code_kept k (number_behind (number_behind n x) y) (in_rest r.starts n x y m) names.3 (owned_rest r.owner (limit f) r.starts n x y m o) known.3 h.3,
          )
      code_kept (Loop place x y k) n m names o known h =
          let r = all f in (
            code_kept x n (in_first r.starts n x y m) names.0 (owned_both r.owner (limit f) r.starts n x y m o) known.0 h.0,
            code_kept y (number_behind n x) (in_second r.starts n x y m) names.1 (owned_second r.owner (limit f) r.starts n x y m o) known.1 h.1,
            code_kept k (number_behind (number_behind n x) y) (in_rest r.starts n x y m) names.2 (owned_rest r.owner (limit f) r.starts n x y m o) known.2 h.2,
          )

      pub function_kept : Each (AddressesKept old (old f)) (λ t. Unit {0}) (p.body f) → Each (AddressesKept new (new f)) (λ t. Unit {0}) (q.body f)
      function_kept h =
          let r = all f in
          subst (λ (c : Form). Each (AddressesKept new (new f)) (λ t. Unit {0}) c) (sym r.body)
          (code_kept (p.body f) 0 (own_webs 0 (own f)) r.names (owned_start r.owner (limit f) (own f) r.few r.kept) r.known h)

      pub function_loads : own_loads (classes_by_webs of f) (q.body f) ≡ own_loads (of f) (p.body f)
      function_loads =
          let r = all f in
          ap (λ (c : Form). own_loads (classes_by_webs of f) c) r.body
          ∙ loads_same functions (own f) (limit f) r.owner r.few r.kept r.owns r.owned r.starts (old f) (p.body f) 0 (own_webs 0 (own f)) r.names
          (owned_start r.owner (limit f) (own f) r.few r.kept) r.known

      pub function_conditions : conditions_a (classes_by_webs of f) (q.body f) ≡ conditions_a (of f) (p.body f)
      function_conditions =
          let r = all f in
          ap (λ (c : Form). conditions_a (classes_by_webs of f) c) r.body
          ∙ conditions_same functions (own f) (limit f) r.owner r.few r.kept r.owns r.owned r.starts (old f) (p.body f) 0 (own_webs 0 (own f)) r.names
          (owned_start r.owner (limit f) (own f) r.few r.kept) r.known
