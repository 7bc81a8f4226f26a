-- Blocks whose registers are plain: they use no queue.
use Rattle.std.proofs.Common.{◌≡◌, ℕ, ◌+◌, ◌-◌, ◌*◌, ◌%◌, ◌^◌, ◌<◌, Bool, true, false, List, [], ◌∷◌, ◌++◌, Option, Some, None, arith, pos, refl, sym, ap, ◌∙◌, subst, append_assoc}
use Rattle.std.specs.Prelude.{nat_lt, if◌then◌else◌, nat_eq, ℤ}
use Rattle.std.specs.List.{AllByRecursion}
use Rattle.std.proofs.lemmas.Bool.Decides.{nat_tests}
use Rattle.std.proofs.lemmas.Option.{same_Some}
use Rattle.dae_base.specs.Words.{minus}
use Rattle.dae_base.specs.declared.LoadKind.{LoadKind}
use Rattle.dae_base.specs.declared.LoadKind.TheVariants.{I8, U8, I16, U16, I32}
use Rattle.dae_encode.specs.Instructions.{effect, form_of}
use Rattle.dae_encode.specs.declared.InstructionForm.TheVariants.{Computes}
use Rattle.dae_encode.specs.declared.Inst.{Inst}
use Rattle.dae_encode.specs.declared.Inst.TheVariants.{Lui, Addi, Slti, Sltiu, Xori, Ori, Andi, Slli, Srli, Srai, Add, Sub, Slt, Sltu, Jalr}
use Rattle.dae_ir.specs.Classes.{VariableSet}
use Rattle.dae_ir.specs.declared.form.Operand.{Operand}
use Rattle.dae_ir.specs.declared.form.Operand.TheVariants.{Variable, Number}
use Rattle.dae_ir.specs.declared.form.Test.{Test}
use Rattle.dae_ir.specs.declared.form.Value.{Value}
use Rattle.dae_ir.specs.declared.form.Value.TheVariants.{Same, Extended, Binary, Holds, FrameAddress}
use Rattle.dae_ir.specs.declared.stream.Argument.{Argument}
use Rattle.dae_meaning.specs.declared.Operator.{Operator}
use Rattle.dae_meaning.specs.declared.Operator.TheVariants.{Add as Plus, Subtract, Multiply, DivideSigned, DivideUnsigned, RemainderSigned, RemainderUnsigned, And as Both, Or as Either, Xor as Differ, ShiftLeft, ShiftRightSigned, ShiftRightUnsigned}
use Rattle.dae_meaning.specs.declared.Comparison.{Comparison}
use Rattle.dae_meaning.specs.declared.Comparison.TheVariants.{Equal, NotEqual, LessSigned, AtLeastSigned, LessUnsigned, AtLeastUnsigned}
use Rattle.dae_select_walks.specs.Homes.{IsHome, is_home_register, slot_at, kept_at, number_key, resident_register}
use Rattle.dae_select_walks.specs.Agrees.{Plan}
use Rattle.dae_select_walks.specs.declared.Home.{Home}
use Rattle.dae_select_walks.specs.declared.Home.TheVariants.{Register, Slot}
use Rattle.dae_select_blocks.specs.Blocks.{upper, lower, is_immediate, more_code, less_code, number_code, load_code, store_code, register_or, source, fetch_home, fetch, move_code, keep, operation_code, exponent, power_code, immediate_code, commutes, exchanged_code, behind_or, combine_registers, binary_code, extend_code, compare_code, compare_number_code, tell_number_code, compare_registers, compare_operands, test_code, value_code, system_code, stop_code, jump_by, enter_code, arguments_code, save_code, restore_code, deeper_code, back_code, result_code, leave_code, jump_words, jump_over, jump_back, branch_inst, opposite, goes_by, goes_code, number_or, fetch_number, as_immediate, residents_code, prologue_code, epilogue_code, is_overwritten, argument_to, copy_code, parameter_to, parameters_code}
use Rattle.dae_select_blocks.specs.Code.{call_code, entry_code, start_code, finish_code, past_code, unspared}
use Rattle.dae_select_blocks.proofs.LawsOfBlocks.{AreBelowQueues, live_registers, number_below}
use Rattle.dae_link_faithful.proofs.Access.{IsPlain}

abbrev pub AllPlain : List Inst → Type 0
AllPlain is = AllByRecursion (λ (i : Inst). IsPlain (form_of (effect i))) is

pub plain_append : (is js : List Inst) → AllPlain is → AllPlain js → AllPlain (is ++ js)
plain_append [] js h k = k
plain_append (i ∷ is) js h k = (h.0, plain_append is js h.1 k)

pub plain_either : (b : Bool) (x y : List Inst) → AllPlain x → AllPlain y → AllPlain (if b then x else y)
plain_either true x y h k = h
plain_either false x y h k = k

pub number_plain : (r n : ℕ) → r < 28 → AllPlain (number_code r n)
number_plain r n h = plain_either (is_immediate n) _ _ ((h, omega arith, omega arith), tt) (plain_either (nat_eq (n % 2 ^ 12) 0) _ _ ((h, omega arith, omega arith), tt) ((h, omega arith, omega arith), ((h, h, omega arith), tt)))

load_plain : (r i : ℕ) → r < 28 → AllPlain (load_code r i)
load_plain r i h = plain_either (nat_lt i 512) _ _ ((h, omega arith), tt) ((h, omega arith, omega arith), ((h, h, omega arith), ((h, h), tt)))

store_plain : (r i : ℕ) → r < 28 → AllPlain (store_code r i)
store_plain r i h = plain_either (nat_lt i 512) _ _ ((omega arith, h), tt) ((omega arith, omega arith, omega arith), ((omega arith, omega arith, omega arith), ((omega arith, h), tt)))

home_low : (r : ℕ) → is_home_register r ≡ true → r < 28
home_low r h = grind (arith, nat_tests)

pub register_low : (n r : ℕ) (h : Home) → IsHome n h → r < 28 → register_or r h < 28
register_low n r (Register g) is l = home_low g is
register_low n r (Slot i) is l = l

pub keep_plain : (h : Home) → AllPlain (keep h)
keep_plain (Register g) = tt
keep_plain (Slot i) = store_plain 5 (slot_at i) (omega arith)

pub jump_plain : (bytes : ℕ) → AllPlain (jump_by bytes)
jump_plain bytes = ((omega arith, omega arith, omega arith), ((omega arith, omega arith, omega arith), tt))

pub over_plain : (short : Bool) (n : ℕ) → AllPlain (jump_over short n)
over_plain true n = ((omega arith, omega arith, omega arith), tt)
over_plain false n = jump_plain (4 * (n + 2))

pub past_plain : (short none : Bool) (n : ℕ) → AllPlain (past_code short none n)
past_plain short true n = tt
past_plain short false n = over_plain short n

pub back_jump_plain : (short : Bool) (n : ℕ) → AllPlain (jump_back short n)
back_jump_plain true n = ((omega arith, omega arith, omega arith), tt)
back_jump_plain false n = jump_plain ((2 ^ 32 - 4 * n % 2 ^ 32) % 2 ^ 32)

pub branch_form : (relation : Comparison) (x y : ℕ) (offset : ℤ) → form_of (effect (branch_inst relation x y offset)) ≡ Computes 0 x y
branch_form Equal x y offset = refl
branch_form NotEqual x y offset = refl
branch_form LessSigned x y offset = refl
branch_form AtLeastSigned x y offset = refl
branch_form LessUnsigned x y offset = refl
branch_form AtLeastUnsigned x y offset = refl

pub branch_plain : (relation : Comparison) (x y : ℕ) (offset : ℤ) → x < 28 → y < 28 → IsPlain (form_of (effect (branch_inst relation x y offset)))
branch_plain relation x y offset h k = rw (branch_form relation x y offset) (omega arith, h, k)

goes_by_plain : (t short : Bool) (relation : Comparison) (x y n : ℕ) → x < 28 → y < 28 → AllPlain (goes_by t short relation x y n)
goes_by_plain true short relation x y n h k = (branch_plain relation x y (pos (4 * (n + 1))) h k, tt)
goes_by_plain false short relation x y n h k = (branch_plain (opposite relation) x y (pos (4 * (jump_words short + 1))) h k, over_plain short n)

pub goes_plain : (short : Bool) (relation : Comparison) (x y n : ℕ) → x < 28 → y < 28 → AllPlain (goes_code short relation x y n)
goes_plain short relation x y n h k = goes_by_plain (nat_lt n 1000) short relation x y n h k

enter_plain : (near : Bool) (word : ℕ) → AllPlain (enter_code near word)
enter_plain true word = ((omega arith, omega arith, omega arith), tt)
enter_plain false word = ((omega arith, omega arith, omega arith), ((omega arith, omega arith, omega arith), tt))

operation_plain : (o : Operator) (t x y : ℕ) → t < 28 → x < 28 → y < 28 → IsPlain (form_of (effect (operation_code o t x y)))
operation_plain Plus t x y a b c = (a, b, c)
operation_plain Subtract t x y a b c = (a, b, c)
operation_plain Multiply t x y a b c = (a, b, c)
operation_plain DivideSigned t x y a b c = (a, b, c)
operation_plain DivideUnsigned t x y a b c = (a, b, c)
operation_plain RemainderSigned t x y a b c = (a, b, c)
operation_plain RemainderUnsigned t x y a b c = (a, b, c)
operation_plain Both t x y a b c = (a, b, c)
operation_plain Either t x y a b c = (a, b, c)
operation_plain Differ t x y a b c = (a, b, c)
operation_plain ShiftLeft t x y a b c = (a, b, c)
operation_plain ShiftRightSigned t x y a b c = (a, b, c)
operation_plain ShiftRightUnsigned t x y a b c = (a, b, c)

-- what is chosen, and what isn't
chosen_form : (b : Bool) (j i : Inst) (t x : ℕ) → form_of (effect j) ≡ Computes t x 0 → (if b then Some j else None) ≡ Some i → form_of (effect i) ≡ Computes t x 0
chosen_form true j i t x h e = subst (λ (k : Inst). form_of (effect k) ≡ Computes t x 0) (same_Some j i e) h
chosen_form false j i t x h e = absurd (let none : None ≡ Some i = e in cc)

power_form : (o : Option ℕ) (t x : ℕ) (i : Inst) → power_code o t x ≡ Some i → form_of (effect i) ≡ Computes t x 0
power_form None t x i e = absurd (let none : None ≡ Some i = e in cc)
power_form (Some k) t x i e = chosen_form true (Slli t x (pos k)) i t x refl e

-- an operation with a number has one source
pub immediate_form : (o : Operator) (t x n : ℕ) (i : Inst) → immediate_code o t x n ≡ Some i → form_of (effect i) ≡ Computes t x 0
immediate_form Plus t x n i e = chosen_form (is_immediate n) (Addi t x (lower n)) i t x refl e
immediate_form Subtract t x n i e = chosen_form (is_immediate (minus 0 n)) (Addi t x (lower (minus 0 n))) i t x refl e
immediate_form Multiply t x n i e = power_form (exponent n) t x i e
immediate_form DivideSigned t x n i e = absurd (let none : None ≡ Some i = e in cc)
immediate_form DivideUnsigned t x n i e = absurd (let none : None ≡ Some i = e in cc)
immediate_form RemainderSigned t x n i e = absurd (let none : None ≡ Some i = e in cc)
immediate_form RemainderUnsigned t x n i e = absurd (let none : None ≡ Some i = e in cc)
immediate_form Both t x n i e = chosen_form (is_immediate n) (Andi t x (lower n)) i t x refl e
immediate_form Either t x n i e = chosen_form (is_immediate n) (Ori t x (lower n)) i t x refl e
immediate_form Differ t x n i e = chosen_form (is_immediate n) (Xori t x (lower n)) i t x refl e
immediate_form ShiftLeft t x n i e = chosen_form true (Slli t x (pos (n % 32))) i t x refl e
immediate_form ShiftRightSigned t x n i e = chosen_form true (Srai t x (pos (n % 32))) i t x refl e
immediate_form ShiftRightUnsigned t x n i e = chosen_form true (Srli t x (pos (n % 32))) i t x refl e

pub exchanged_form : (o : Operator) (t x n : ℕ) (i : Inst) → exchanged_code o t x n ≡ Some i → form_of (effect i) ≡ Computes t x 0
exchanged_form o t x n i e = by (commutes o) e
  where
    by : (c : Bool) → (if c then immediate_code o t x n else None) ≡ Some i → form_of (effect i) ≡ Computes t x 0
    by true f = immediate_form o t x n i f
    by false f = absurd (let none : None ≡ Some i = f in cc)

immediate_plain : (o : Operator) (t x n : ℕ) (i : Inst) → t < 28 → x < 28 → immediate_code o t x n ≡ Some i → IsPlain (form_of (effect i))
immediate_plain o t x n i a b e = rw (immediate_form o t x n i e) (a, b, omega arith)

exchanged_plain : (o : Operator) (t x n : ℕ) (i : Inst) → t < 28 → x < 28 → exchanged_code o t x n ≡ Some i → IsPlain (form_of (effect i))
exchanged_plain o t x n i a b e = rw (exchanged_form o t x n i e) (a, b, omega arith)

extend_plain : (kind : LoadKind) (t x : ℕ) → t < 28 → x < 28 → AllPlain (extend_code kind t x)
extend_plain I8 t x a b = ((omega arith, b, omega arith), ((a, omega arith, omega arith), tt))
extend_plain U8 t x a b = ((a, b, omega arith), tt)
extend_plain I16 t x a b = ((omega arith, b, omega arith), ((a, omega arith, omega arith), tt))
extend_plain U16 t x a b = ((omega arith, b, omega arith), ((a, omega arith, omega arith), tt))
extend_plain I32 t x a b = ((a, b, omega arith), tt)

-- ---- comparisons: plain instructions, and a last one on plain registers that writes t, whatever t is

pub record Writes (t : ℕ) (is : List Inst) : Type 0 where
  pub before' : List Inst
  pub last : Inst
  pub first : ℕ
  pub second : ℕ
  pub plain : AllPlain before'
  pub low : first < 28
  pub low' : second < 28
  pub form : form_of (effect last) ≡ Computes t first second
  pub same : is ≡ before' ++ last ∷ []

alone : (t : ℕ) (i : Inst) (x y : ℕ) → form_of (effect i) ≡ Computes t x y → x < 28 → y < 28 → Writes t (i ∷ [])
alone t i x y e h k = record { before' = []; last = i; first = x; second = y; plain = tt; low = h; low' = k; form = e; same = refl }

behind : (t : ℕ) (is js : List Inst) → AllPlain is → Writes t js → Writes t (is ++ js)
behind t is js h w = record {
  before' = is ++ w.before';
  last = w.last;
  first = w.first;
  second = w.second;
  plain = plain_append is w.before' h w.plain;
  low = w.low;
  low' = w.low';
  form = w.form;
  same = ap (λ (ks : List Inst). is ++ ks) w.same ∙ sym (append_assoc is w.before' (w.last ∷ []));
}

either_writes : (t : ℕ) (b : Bool) (is js : List Inst) → Writes t is → Writes t js → Writes t (if b then is else js)
either_writes t true is js h k = h
either_writes t false is js h k = k

written_plain : (t : ℕ) (is : List Inst) → t < 28 → Writes t is → AllPlain is
written_plain t is h w =
    let last : IsPlain (form_of (effect w.last)) = rw (w.form) (h, w.low, w.low') in
    subst (λ (ks : List Inst). AllPlain ks) (sym w.same) (plain_append w.before' (w.last ∷ []) w.plain (last, tt))

compare_writes : (r : Comparison) (t x y : ℕ) → x < 28 → y < 28 → Writes t (compare_code r t x y)
compare_writes Equal t x y b c = behind t (Sub 7 x y ∷ []) (Sltiu t 7 (pos 1) ∷ []) ((omega arith, b, c), tt) (alone t (Sltiu t 7 (pos 1)) 7 0 refl (omega arith) (omega arith))
compare_writes NotEqual t x y b c = behind t (Sub 7 x y ∷ []) (Sltu t 0 7 ∷ []) ((omega arith, b, c), tt) (alone t (Sltu t 0 7) 0 7 refl (omega arith) (omega arith))
compare_writes LessSigned t x y b c = alone t (Slt t x y) x y refl b c
compare_writes AtLeastSigned t x y b c = behind t (Slt 7 x y ∷ []) (Xori t 7 (pos 1) ∷ []) ((omega arith, b, c), tt) (alone t (Xori t 7 (pos 1)) 7 0 refl (omega arith) (omega arith))
compare_writes LessUnsigned t x y b c = alone t (Sltu t x y) x y refl b c
compare_writes AtLeastUnsigned t x y b c = behind t (Sltu 7 x y ∷ []) (Xori t 7 (pos 1) ∷ []) ((omega arith, b, c), tt) (alone t (Xori t 7 (pos 1)) 7 0 refl (omega arith) (omega arith))

compare_number_writes : (r : Comparison) (t x n : ℕ) → x < 28 → Writes t (compare_number_code r t x n)
compare_number_writes Equal t x n b =
    either_writes t (nat_eq n 0) (Sltiu t x (pos 1) ∷ []) (Addi 7 x (lower (minus 0 n)) ∷ (Sltiu t 7 (pos 1) ∷ [])) (alone t (Sltiu t x (pos 1)) x 0 refl b (omega arith))
    (behind t (Addi 7 x (lower (minus 0 n)) ∷ []) (Sltiu t 7 (pos 1) ∷ []) ((omega arith, b, omega arith), tt) (alone t (Sltiu t 7 (pos 1)) 7 0 refl (omega arith) (omega arith)))
compare_number_writes NotEqual t x n b =
    either_writes t (nat_eq n 0) (Sltu t 0 x ∷ []) (Addi 7 x (lower (minus 0 n)) ∷ (Sltu t 0 7 ∷ [])) (alone t (Sltu t 0 x) 0 x refl (omega arith) b)
    (behind t (Addi 7 x (lower (minus 0 n)) ∷ []) (Sltu t 0 7 ∷ []) ((omega arith, b, omega arith), tt) (alone t (Sltu t 0 7) 0 7 refl (omega arith) (omega arith)))
compare_number_writes LessSigned t x n b = alone t (Slti t x (lower n)) x 0 refl b (omega arith)
compare_number_writes AtLeastSigned t x n b = behind t (Slti 7 x (lower n) ∷ []) (Xori t 7 (pos 1) ∷ []) ((omega arith, b, omega arith), tt) (alone t (Xori t 7 (pos 1)) 7 0 refl (omega arith) (omega arith))
compare_number_writes LessUnsigned t x n b = alone t (Sltiu t x (lower n)) x 0 refl b (omega arith)
compare_number_writes AtLeastUnsigned t x n b = behind t (Sltiu 7 x (lower n) ∷ []) (Xori t 7 (pos 1) ∷ []) ((omega arith, b, omega arith), tt) (alone t (Xori t 7 (pos 1)) 7 0 refl (omega arith) (omega arith))

pub tell_number_writes : (r : Comparison) (x n : ℕ) → x < 28 → Writes 29 (tell_number_code r x n)
tell_number_writes Equal x n b = compare_number_writes Equal 29 x n b
tell_number_writes NotEqual x n b = compare_number_writes NotEqual 29 x n b
tell_number_writes LessSigned x n b = behind 29 (Slti 7 x (lower n) ∷ []) (Addi 29 7 (pos 0) ∷ []) ((omega arith, b, omega arith), tt) (alone 29 (Addi 29 7 (pos 0)) 7 0 refl (omega arith) (omega arith))
tell_number_writes AtLeastSigned x n b = compare_number_writes AtLeastSigned 29 x n b
tell_number_writes LessUnsigned x n b = behind 29 (Sltiu 7 x (lower n) ∷ []) (Addi 29 7 (pos 0) ∷ []) ((omega arith, b, omega arith), tt) (alone 29 (Addi 29 7 (pos 0)) 7 0 refl (omega arith) (omega arith))
tell_number_writes AtLeastUnsigned x n b = compare_number_writes AtLeastUnsigned 29 x n b

-- a number is fetched so whatever the homes are
pub number_fetched : (home : ℕ → Home) (r k : ℕ) → r < 28 → AllPlain (fetch home r (Number k))
number_fetched home r k h = plain_either (nat_eq k 0) [] (fetch_number r k (resident_register (home (number_key k)))) tt (by (resident_register (home (number_key k))))
  where
    by : (o : Option ℕ) → AllPlain (fetch_number r k o)
    by None = number_plain r k h
    by (Some q) = tt

pub number_low : (home : ℕ → Home) (r k : ℕ) → r < 28 → source home r (Number k) < 28
number_low home r k h = by (nat_eq k 0)
  where
    by : (b : Bool) → (if b then 0 else number_or r (resident_register (home (number_key k)))) < 28
    by true = omega arith
    by false = number_below 28 r (home (number_key k)) (omega arith) h

module _ (n : ℕ) (home : ℕ → Home) (good : (v : ℕ) → IsHome n (home v)) where
  pub source_low : (r : ℕ) (x : Operand) → r < 28 → source home r x < 28
  source_low r (Variable v) h = register_low n r (home v) (good v) h
  source_low r (Number k) h = number_low home r k h

  pub fetch_plain : (r : ℕ) (x : Operand) → r < 28 → AllPlain (fetch home r x)
  fetch_plain r (Variable v) h = by (home v)
    where
      by : (g : Home) → AllPlain (fetch_home r g)
      by (Register q) = tt
      by (Slot i) = load_plain r (slot_at i) h
  fetch_plain r (Number k) h = number_fetched home r k h

  -- an operand goes into a register in plain instructions and one that writes the register
  pub move_is : (t : ℕ) (x : Operand) → (is : List Inst) × (r : ℕ) × (imm : ℤ) × AllPlain is × (r < 28) × (move_code home t x ≡ is ++ Addi t r imm ∷ [])
  move_is t (Variable v) = (fetch home 5 (Variable v), register_or 5 (home v), pos 0, fetch_plain 5 (Variable v) (omega arith), source_low 5 (Variable v) (omega arith), refl)
  move_is t (Number k) = by (is_immediate k)
    where
      by : (b : Bool) → (is : List Inst) × (r : ℕ) × (imm : ℤ) × AllPlain is × (r < 28) × ((if b then Addi t 0 (lower k) ∷ [] else Lui 5 (upper k) ∷ (Addi t 5 (lower k) ∷ [])) ≡ is ++ Addi t r imm ∷ [])
      by true = ([], 0, lower k, tt, omega arith, refl)
      by false = (Lui 5 (upper k) ∷ [], 5, lower k, ((omega arith, omega arith, omega arith), tt), omega arith, refl)

  move_plain : (t : ℕ) (x : Operand) → t < 28 → AllPlain (move_code home t x)
  move_plain t x h =
      let m = move_is t x in
      let all : AllPlain (m.0 ++ Addi t m.1 m.2 ∷ []) = plain_append m.0 (Addi t m.1 m.2 ∷ []) m.3 ((h, m.4, omega arith), tt) in
      subst (λ (is : List Inst). AllPlain is) (sym m.5) all

  fetched : (r : ℕ) (x : Operand) (is : List Inst) → r < 28 → AllPlain is → AllPlain (fetch home r x ++ is)
  fetched r x is h k = plain_append (fetch home r x) is (fetch_plain r x h) k

  registers_plain : (t : ℕ) (o : Operator) (x y : Operand) → t < 28 → AllPlain (combine_registers home t o x y)
  registers_plain t o x y h = fetched 5 x _ (omega arith) (fetched 6 y _ (omega arith) (operation_plain o t (source home 5 x) (source home 6 y) h (source_low 5 x (omega arith)) (source_low 6 y (omega arith)), tt))

  binary_plain : (t : ℕ) (o : Operator) (x y : Operand) → t < 28 → AllPlain (binary_code home t o x y)
  binary_plain t o x (Number k) h = by (immediate_code o t (source home 5 x) k) refl
    where
      by : (i : Option Inst) → immediate_code o t (source home 5 x) k ≡ i → AllPlain (behind_or (fetch home 5 x) i (combine_registers home t o x (Number k)))
      by (Some i) e = fetched 5 x (i ∷ []) (omega arith) (immediate_plain o t (source home 5 x) k i h (source_low 5 x (omega arith)) e, tt)
      by None e = registers_plain t o x (Number k) h
  binary_plain t o (Number k) (Variable v) h = by (exchanged_code o t (source home 5 (Variable v)) k) refl
    where
      by : (i : Option Inst) → exchanged_code o t (source home 5 (Variable v)) k ≡ i → AllPlain (behind_or (fetch home 5 (Variable v)) i (combine_registers home t o (Number k) (Variable v)))
      by (Some i) e = fetched 5 (Variable v) (i ∷ []) (omega arith) (exchanged_plain o t (source home 5 (Variable v)) k i h (source_low 5 (Variable v) (omega arith)) e, tt)
      by None e = registers_plain t o (Number k) (Variable v) h
  binary_plain t o (Variable u) (Variable v) h = registers_plain t o (Variable u) (Variable v) h

  fetched_writes : (t r : ℕ) (x : Operand) (is : List Inst) → r < 28 → Writes t is → Writes t (fetch home r x ++ is)
  fetched_writes t r x is h w = behind t (fetch home r x) is (fetch_plain r x h) w

  compare_registers_writes : (t : ℕ) (r : Comparison) (x y : Operand) → Writes t (compare_registers home t r x y)
  compare_registers_writes t r x y =
      fetched_writes t 5 x _ (omega arith) (fetched_writes t 6 y _ (omega arith) (compare_writes r t (source home 5 x) (source home 6 y) (source_low 5 x (omega arith)) (source_low 6 y (omega arith))))

  compare_operands_writes : (t : ℕ) (r : Comparison) (x y : Operand) → Writes t (compare_operands home t r x y)
  compare_operands_writes t r x (Variable v) = compare_registers_writes t r x (Variable v)
  compare_operands_writes t r x (Number k) =
      either_writes t (as_immediate home r k) (fetch home 5 x ++ compare_number_code r t (source home 5 x) k) (compare_registers home t r x (Number k))
      (fetched_writes t 5 x _ (omega arith) (compare_number_writes r t (source home 5 x) k (source_low 5 x (omega arith)))) (compare_registers_writes t r x (Number k))

  pub test_writes : (t : ℕ) (test : Test) → Writes t (test_code home t test)
  test_writes t test = compare_operands_writes t test.comparison test.left test.right

  test_plain : (t : ℕ) (test : Test) → t < 28 → AllPlain (test_code home t test)
  test_plain t test h = written_plain t (test_code home t test) h (test_writes t test)

  pub value_plain : (t : ℕ) (x : Value) → t < 28 → AllPlain (value_code home t x)
  value_plain t (Same x) h = move_plain t x h
  value_plain t (Extended kind x) h = fetched 5 x _ (omega arith) (extend_plain kind t (source home 5 x) h (source_low 5 x (omega arith)))
  value_plain t (Binary o x y) h = binary_plain t o x y h
  value_plain t (Holds test) h = test_plain t test h
  value_plain t (FrameAddress offset) h =
      plain_either (is_immediate offset) (Addi t 3 (lower offset) ∷ []) (number_code 5 offset ++ Add t 3 5 ∷ [])
      ((h, omega arith, omega arith), tt) (plain_append _ _ (number_plain 5 offset (omega arith)) ((h, omega arith, omega arith), tt))

  pub system_plain : (k : ℕ) (x : Operand) → AllPlain (system_code home k x)
  system_plain k x = plain_append _ _ (move_plain 10 x (omega arith)) ((omega arith, omega arith, omega arith), (tt, tt))

  pub stop_plain : (b : Bool) (x : Option Operand) → AllPlain (stop_code b home x)
  stop_plain true x = (tt, tt)
  stop_plain false None = system_plain 0 (Number 0)
  stop_plain false (Some x) = system_plain 0 x

  return_plain : (by_a leaf : Bool) → AllPlain (epilogue_code by_a leaf ++ Jalr 0 1 (pos 0) ∷ [])
  return_plain by_a true = ((omega arith, omega arith, omega arith), tt)
  return_plain true false = ((omega arith, omega arith), ((omega arith, omega arith, omega arith), ((omega arith, omega arith, omega arith), tt)))
  return_plain false false = ((omega arith, omega arith), ((omega arith, omega arith, omega arith), tt))

  pub leave_plain : (by_a leaf : Bool) (y : Option Operand) → AllPlain (leave_code by_a leaf home y)
  leave_plain by_a leaf None = return_plain by_a leaf
  leave_plain by_a leaf (Some x) = plain_append (move_code home 6 x) (epilogue_code by_a leaf ++ Jalr 0 1 (pos 0) ∷ []) (move_plain 6 x (omega arith)) (return_plain by_a leaf)

  result_plain : (v : Option ℕ) → AllPlain (result_code home v)
  result_plain None = tt
  result_plain (Some v) = ((register_low n 5 (home v) (good v) (omega arith), omega arith, omega arith), keep_plain (home v))

-- ---- calls

save_plain : (rs : List ℕ) → AreBelowQueues rs → AllPlain (save_code rs)
save_plain [] h = tt
save_plain (r ∷ rs) h = plain_append _ _ (store_plain r (kept_at r) h.0) (save_plain rs h.1)

restore_plain : (rs : List ℕ) → AreBelowQueues rs → AllPlain (restore_code rs)
restore_plain [] h = tt
restore_plain (r ∷ rs) h = plain_append _ _ (load_plain r (kept_at r) h.0) (restore_plain rs h.1)

module _ (plan : Plan) (variables : ℕ → ℕ) (good : (f v : ℕ) → IsHome (variables f) (plan.home f v)) where
  arguments_plain : (f g : ℕ) (xs : List Argument) → AllPlain (arguments_code plan f g xs)
  arguments_plain f g [] = tt
  arguments_plain f g (x ∷ xs) =
      plain_append _ _ (arguments_plain f g xs) (by (plan.home g x.parameter))
    where
      by : (home : Home) → AllPlain (argument_to plan f g xs home x.operand)
      by (Register t) =
          let q : ℕ = source (plan.home f) 5 x.operand in
          plain_either (is_overwritten plan f g xs x.operand) (store_code q (kept_at q)) [] (store_plain q (kept_at q) (source_low (variables f) (plan.home f) (good f) 5 x.operand (omega arith))) tt
      by (Slot i) =
          plain_append _ _ (fetch_plain (variables f) (plan.home f) (good f) 5 x.operand (omega arith))
          (store_plain (source (plan.home f) 5 x.operand) (plan.words f + slot_at i) (source_low (variables f) (plan.home f) (good f) 5 x.operand (omega arith)))

  copy_plain : (t r : ℕ) → t < 28 → r < 28 → AllPlain (copy_code t r)
  copy_plain t r a b = plain_either (nat_eq t r) [] (Addi t r (pos 0) ∷ []) tt ((a, b, omega arith), tt)

  parameters_plain : (f g : ℕ) (xs : List Argument) → AllPlain (parameters_code plan f g xs)
  parameters_plain f g [] = tt
  parameters_plain f g (x ∷ xs) = plain_append _ _ (parameters_plain f g xs) (by (plan.home g x.parameter) (good g x.parameter))
    where
      by : (home : Home) → IsHome (variables g) home → AllPlain (parameter_to plan f g xs home x.operand)
      by (Register t) is =
          let low = home_low t is in
          let q : ℕ = source (plan.home f) 5 x.operand in let r : ℕ = source (plan.home f) t x.operand in
          plain_either (is_overwritten plan f g xs x.operand) (load_code t (kept_at q)) (fetch (plan.home f) t x.operand ++ copy_code t r) (load_plain t (kept_at q) low)
          (plain_append _ _ (fetch_plain (variables f) (plan.home f) (good f) t x.operand low) (copy_plain t r low (source_low (variables f) (plan.home f) (good f) t x.operand low)))
      by (Slot i) is = tt

  more_plain : (r n : ℕ) → r < 28 → AllPlain (more_code r n)
  more_plain r n h =
      plain_either (nat_eq n 0) [] _ tt (plain_either (is_immediate n) _ (number_code 5 n ++ Add r r 5 ∷ []) ((h, h, omega arith), tt)
      (plain_append (number_code 5 n) _ (number_plain 5 n (omega arith)) ((h, h, omega arith), tt)))

  less_plain : (r n : ℕ) → r < 28 → AllPlain (less_code r n)
  less_plain r n h =
      plain_either (nat_eq n 0) [] _ tt (plain_either (is_immediate (minus 0 n)) _ (number_code 5 n ++ Sub r r 5 ∷ []) ((h, h, omega arith), tt)
      (plain_append (number_code 5 n) _ (number_plain 5 n (omega arith)) ((h, h, omega arith), tt)))

  deeper_plain : (f g : ℕ) → AllPlain (deeper_code plan f g)
  deeper_plain f g =
      plain_append (more_code 3 (plan.frame f % 2 ^ 32)) (if plan.frameless g then [] else more_code 2 (4 * plan.words f)) (more_plain 3 (plan.frame f % 2 ^ 32) (omega arith))
      (plain_either (plan.frameless g) [] (more_code 2 (4 * plan.words f)) tt (more_plain 2 (4 * plan.words f) (omega arith)))

  back_plain : (f g : ℕ) → AllPlain (back_code plan f g)
  back_plain f g =
      plain_append (less_code 3 (plan.frame f % 2 ^ 32)) (if plan.frameless g then [] else less_code 2 (4 * plan.words f)) (less_plain 3 (plan.frame f % 2 ^ 32) (omega arith))
      (plain_either (plan.frameless g) [] (less_code 2 (4 * plan.words f)) tt (less_plain 2 (4 * plan.words f) (omega arith)))

  pub call_plain : (f : ℕ) (v : Option ℕ) (g : ℕ) (xs : List Argument) (live : VariableSet) → AllPlain (call_code plan variables f v g xs live)
  call_plain f v g xs live =
      let rs = live_registers plan (variables f) f (unspared plan f g live) in
      plain_append _ _ (arguments_plain f g xs) (plain_append _ _ (save_plain _ rs) (plain_append _ _ (parameters_plain f g xs) (plain_append (deeper_code plan f g) _ (deeper_plain f g) (plain_append (enter_code plan.near (plan.entry g)) _ (enter_plain plan.near (plan.entry g))
      (plain_append (back_code plan f g) _ (back_plain f g) (plain_append _ _ (restore_plain _ rs) (result_plain (variables f) (plan.home f) (good f) v)))))))

  prologue_plain : (by_a leaf : Bool) → AllPlain (prologue_code by_a leaf)
  prologue_plain by_a true = tt
  prologue_plain true false = ((omega arith, omega arith), ((omega arith, omega arith, omega arith), tt))
  prologue_plain false false = ((omega arith, omega arith), tt)

  pub entry_plain : (f : ℕ) → AllPlain (entry_code plan f)
  entry_plain f = prologue_plain plan.by_a (plan.leaf f)

pub finish_plain : (by_a : Bool) → AllPlain (finish_code by_a)
finish_plain true = (tt, tt)
finish_plain false = ((omega arith, omega arith, omega arith), ((omega arith, omega arith, omega arith), (tt, tt)))

residents_plain : (r : ℕ) (numbers : List ℕ) → r < 28 → AllPlain (residents_code r numbers)
residents_plain r [] h = tt
residents_plain r (n ∷ ns) h = plain_append (number_code r n) (residents_code (r - 1) ns) (number_plain r n h) (residents_plain (r - 1) ns (omega arith))

pub start_plain : (plan : Plan) (main frames : ℕ) → AllPlain (start_code plan main frames)
start_plain plan main frames =
    let addresses : List Inst = number_code 4 (plan.memory - 16) in
    let plain : AllPlain addresses = number_plain 4 (plan.memory - 16) (omega arith) in
    let stay : List Inst = residents_code 27 plan.residents in
    plain_append (number_code 3 frames ++ (stay ++ (if plan.by_a then addresses else []))) (enter_code plan.near (plan.entry main))
    (plain_append (number_code 3 frames) _ (number_plain 3 frames (omega arith)) (plain_append stay _ (residents_plain 27 plan.residents (omega arith)) (plain_either plan.by_a addresses [] plain tt)))
    (enter_plain plan.near (plan.entry main))
