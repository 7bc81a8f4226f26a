-- A word that is taken from a queue in the stead of a variable: what else is read is fetched as before, since a number's place is
-- no variable's.
use Rattle.std.proofs.Common.{◌≡◌, ℕ, ◌^◌, ◌<◌, Bool, true, false, not, ◌&&◌, if◌then◌else◌, List, [], ◌∷◌, ◌++◌, Option, Some, None, is_some, Result, Ok, Err, OnOk, is_ok, refl, ap, ◌∙◌, arith}
use Rattle.std.specs.Prelude.{nat_eq}
use Rattle.std.proofs.lemmas.Bool.Decides.{nat_tests}
use Rattle.std.proofs.lemmas.Option.{same_Some}
use Rattle.dae_encode.specs.declared.Inst.{Inst}
use Rattle.dae_ir.specs.declared.form.Operand.{Operand}
use Rattle.dae_ir.specs.declared.form.Operand.TheVariants.{Variable, Number}
use Rattle.dae_ir.specs.declared.form.Test.{Test}
use Rattle.dae_meaning.specs.declared.Comparison.{Comparison}
use Rattle.dae_meaning.specs.declared.Operator.{Operator}
use Rattle.dae_select_walks.specs.Homes.{number_key, resident_register}
use Rattle.dae_select_walks.specs.Live.{in_operand}
use Rattle.dae_select_walks.specs.declared.Home.{Home}
use Rattle.dae_select_walks.specs.declared.Home.TheVariants.{Register}
use Rattle.dae_select_blocks.specs.Blocks.{as_immediate, behind_or, binary_code, combine_registers, compare_code, compare_number_code, compare_operands, compare_registers, exchanged_code, fetch, fetch_home, fetch_number, immediate_code, number_or, operation_code, register_or, source, takes_number, test_code}
use Rattle.dae_select_blocks.specs.Code.{either_one, with_home}
use Rattle.dae_select_blocks.proofs.LawsOfBlocks.{key_apart}
use Rattle.dae_select.specs.Taken.{beside_left, beside_right, number_beside}

flip_yes : (u v : ℕ) → nat_eq v u ≡ true → nat_eq u v ≡ true
flip_yes u v e = grind (arith, nat_tests)

flip_no : (u v : ℕ) → nat_eq v u ≡ false → nat_eq u v ≡ false
flip_no u v e = grind (arith, nat_tests)

no_number : (b : Bool) (n : ℕ) → (if b then Some n else None) ≡ None → b ≡ false
no_number true n e = absurd (let c : Some n ≡ None = e in cc)
no_number false n e = refl

a_number : (b : Bool) (k n : ℕ) → (if b then Some k else None) ≡ Some n → (b ≡ true) × (k ≡ n)
a_number true k n e = (refl, same_Some k n e)
a_number false k n e = absurd (let c : None ≡ Some n = e in cc)

-- what is so where it went well
pub where_ok : {X E : Type 0} (r : Result X E) (new more old : List Inst) → new ≡ (if is_ok r then more else old) → OnOk r (new ≡ more)
where_ok (Ok x) new more old e = e
where_ok (Err x) new more old e = tt

-- of two operands one is the variable
pub once_first : (a b : Bool) → a ≡ true → either_one a b ≡ true → b ≡ false
once_first true true e once = absurd (let c : false ≡ true = once in cc)
once_first true false e once = refl
once_first false b e once = absurd (let c : false ≡ true = e in cc)

pub once_second : (a b : Bool) → a ≡ false → either_one a b ≡ true → b ≡ true
once_second true b e once = absurd (let c : true ≡ false = e in cc)
once_second false b e once = once

module _ (h : ℕ → Home) (v q : ℕ) (low : v < 2 ^ 32) where
  abbrev taken : ℕ → Home
  taken = with_home v (Register q) h

  own_home : (u : ℕ) → nat_eq v u ≡ true → taken u ≡ Register q
  own_home u e = ap (λ (b : Bool). if b then Register q else h u) (flip_yes u v e)

  other_home : (u : ℕ) → nat_eq u v ≡ false → taken u ≡ h u
  other_home u e = ap (λ (b : Bool). if b then Register q else h u) e

  own_fetch : (r : ℕ) (x : Operand) → in_operand x v ≡ true → fetch taken r x ≡ []
  own_fetch r (Variable u) e = ap (λ (o : Home). fetch_home r o) (own_home u e)
  own_fetch r (Number n) e = absurd (let c : false ≡ true = e in cc)

  own_source : (r : ℕ) (x : Operand) → in_operand x v ≡ true → source taken r x ≡ q
  own_source r (Variable u) e = ap (λ (o : Home). register_or r o) (own_home u e)
  own_source r (Number n) e = absurd (let c : false ≡ true = e in cc)

  other_fetch : (r : ℕ) (x : Operand) → in_operand x v ≡ false → fetch taken r x ≡ fetch h r x
  other_fetch r (Variable u) e = ap (λ (o : Home). fetch_home r o) (other_home u (flip_no u v e))
  other_fetch r (Number n) e =
      ap (λ (o : Home). if nat_eq n 0 then [] else fetch_number r n (resident_register o)) (other_home (number_key n) (key_apart n v low))

  other_source : (r : ℕ) (x : Operand) → in_operand x v ≡ false → source taken r x ≡ source h r x
  other_source r (Variable u) e = ap (λ (o : Home). register_or r o) (other_home u (flip_no u v e))
  other_source r (Number n) e =
      ap (λ (o : Home). if nat_eq n 0 then 0 else number_or r (resident_register o)) (other_home (number_key n) (key_apart n v low))

  -- two operands of which one is taken, by code that has both in registers
  first_taken : (block : ℕ → ℕ → List Inst) (x y : Operand) → in_operand x v ≡ true → in_operand y v ≡ false
      → fetch taken 5 x ++ (fetch taken 6 y ++ block (source taken 5 x) (source taken 6 y)) ≡ fetch h 6 y ++ block q (source h 6 y)
  first_taken block x y own other =
      ap (λ (is : List Inst). is ++ (fetch taken 6 y ++ block (source taken 5 x) (source taken 6 y))) (own_fetch 5 x own)
      ∙ ap (λ (is : List Inst). is ++ block (source taken 5 x) (source taken 6 y)) (other_fetch 6 y other)
      ∙ ap (λ (r : ℕ). fetch h 6 y ++ block r (source taken 6 y)) (own_source 5 x own)
      ∙ ap (λ (r : ℕ). fetch h 6 y ++ block q r) (other_source 6 y other)

  second_taken : (block : ℕ → ℕ → List Inst) (x y : Operand) → in_operand x v ≡ false → in_operand y v ≡ true
      → fetch taken 5 x ++ (fetch taken 6 y ++ block (source taken 5 x) (source taken 6 y)) ≡ fetch h 5 x ++ block (source h 5 x) q
  second_taken block x y other own =
      ap (λ (is : List Inst). is ++ (fetch taken 6 y ++ block (source taken 5 x) (source taken 6 y))) (other_fetch 5 x other)
      ∙ ap (λ (is : List Inst). fetch h 5 x ++ (is ++ block (source taken 5 x) (source taken 6 y))) (own_fetch 6 y own)
      ∙ ap (λ (r : ℕ). fetch h 5 x ++ block r (source taken 6 y)) (other_source 5 x other)
      ∙ ap (λ (r : ℕ). fetch h 5 x ++ block (source h 5 x) r) (own_source 6 y own)

  same_immediate : (c : Comparison) (n : ℕ) → as_immediate taken c n ≡ as_immediate h c n
  same_immediate c n = ap (λ (o : Home). takes_number c n && not (is_some (resident_register o))) (other_home (number_key n) (key_apart n v low))

  -- a test
  pub test_of_first : (t : ℕ) (c : Comparison) (x y : Operand) → in_operand x v ≡ true → in_operand y v ≡ false → number_beside h c y ≡ None
      → compare_operands taken t c x y ≡ fetch h 6 y ++ compare_code c t q (source h 6 y)
  test_of_first t c x (Variable w) own other none = first_taken (λ (l r : ℕ). compare_code c t l r) x (Variable w) own other
  test_of_first t c x (Number n) own other none =
      ap (λ (b : Bool). if b then fetch taken 5 x ++ compare_number_code c t (source taken 5 x) n else compare_registers taken t c x (Number n))
      (same_immediate c n ∙ no_number (as_immediate h c n) n none)
      ∙ first_taken (λ (l r : ℕ). compare_code c t l r) x (Number n) own other

  pub test_of_number : (t : ℕ) (c : Comparison) (x y : Operand) (n : ℕ) → in_operand x v ≡ true → number_beside h c y ≡ Some n
      → compare_operands taken t c x y ≡ compare_number_code c t q n
  test_of_number t c x (Variable w) n own some = absurd (let k : None ≡ Some n = some in cc)
  test_of_number t c x (Number m) n own some =
      let it = a_number (as_immediate h c m) m n some in
      ap (λ (b : Bool). if b then fetch taken 5 x ++ compare_number_code c t (source taken 5 x) m else compare_registers taken t c x (Number m))
      (same_immediate c m ∙ it.0)
      ∙ ap (λ (is : List Inst). is ++ compare_number_code c t (source taken 5 x) m) (own_fetch 5 x own)
      ∙ ap (λ (r : ℕ). compare_number_code c t r m) (own_source 5 x own)
      ∙ ap (λ (k : ℕ). compare_number_code c t q k) it.1

  pub test_of_second : (t : ℕ) (c : Comparison) (x y : Operand) → in_operand x v ≡ false → in_operand y v ≡ true
      → compare_operands taken t c x y ≡ fetch h 5 x ++ compare_code c t (source h 5 x) q
  test_of_second t c x (Variable w) other own = second_taken (λ (l r : ℕ). compare_code c t l r) x (Variable w) other own
  test_of_second t c x (Number n) other own = absurd (let k : false ≡ true = own in cc)

  -- an operation
  pub operation_of_first : (t : ℕ) (o : Operator) (x y : Operand) → in_operand x v ≡ true → in_operand y v ≡ false → beside_right o t q y ≡ None
      → binary_code taken t o x y ≡ fetch h 6 y ++ operation_code o t q (source h 6 y) ∷ []
  operation_of_first t o (Number n) y own other none = absurd (let k : false ≡ true = own in cc)
  operation_of_first t o (Variable u) (Variable w) own other none =
      first_taken (λ (l r : ℕ). operation_code o t l r ∷ []) (Variable u) (Variable w) own other
  operation_of_first t o (Variable u) (Number n) own other none =
      ap (λ (r : ℕ). behind_or (fetch taken 5 (Variable u)) (immediate_code o t r n) (combine_registers taken t o (Variable u) (Number n))) (own_source 5 (Variable u) own)
      ∙ ap (λ (i : Option Inst). behind_or (fetch taken 5 (Variable u)) i (combine_registers taken t o (Variable u) (Number n))) none
      ∙ first_taken (λ (l r : ℕ). operation_code o t l r ∷ []) (Variable u) (Number n) own other

  pub operation_of_second : (t : ℕ) (o : Operator) (x y : Operand) → in_operand x v ≡ false → in_operand y v ≡ true → beside_left o t q x ≡ None
      → binary_code taken t o x y ≡ fetch h 5 x ++ operation_code o t (source h 5 x) q ∷ []
  operation_of_second t o x (Number n) other own none = absurd (let k : false ≡ true = own in cc)
  operation_of_second t o (Variable u) (Variable w) other own none =
      second_taken (λ (l r : ℕ). operation_code o t l r ∷ []) (Variable u) (Variable w) other own
  operation_of_second t o (Number n) (Variable w) other own none =
      ap (λ (r : ℕ). behind_or (fetch_home 5 (taken w)) (exchanged_code o t r n) (combine_registers taken t o (Number n) (Variable w))) (own_source 5 (Variable w) own)
      ∙ ap (λ (i : Option Inst). behind_or (fetch_home 5 (taken w)) i (combine_registers taken t o (Number n) (Variable w))) none
      ∙ second_taken (λ (l r : ℕ). operation_code o t l r ∷ []) (Number n) (Variable w) other own
