-- The blocks of values, accesses and branches have instructions whose fields their words can hold.
use Rattle.std.proofs.Common.{◌≡◌, ℕ, ◌+◌, ◌-◌, ◌%◌, ◌^◌, ◌<◌, ◌≤◌, zero, suc, Bool, true, false, List, [], ◌∷◌, ◌++◌, Option, Some, None, refl, subst, arith, pos, negsuc, ◌*◌}
use Rattle.std.specs.Prelude.{nat_lt, nat_eq, if◌then◌else◌, ℤ}
use Rattle.std.proofs.lemmas.Option.{same_Some, cond_some}
use Rattle.dae_ir.specs.declared.form.Check.{Check}
use Rattle.dae_ir.specs.declared.form.Check.TheVariants.{Place, InBounds, Zero, Room, Frame, Abort}
use Rattle.dae_ir.specs.declared.stream.Action.{Action}
use Rattle.dae_ir.specs.declared.stream.Action.TheVariants.{Probe}
use Rattle.dae_select_walks.specs.Agrees.{Plan, counted_depth}
use Rattle.std.proofs.lemmas.Int.{ints}
use Rattle.dae_base.specs.Words.{minus, size}
use Rattle.std.proofs.lemmas.Bool.Decides.{nat_tests}
use Rattle.dae_base.specs.declared.Width.{Width}
use Rattle.dae_base.specs.declared.Width.TheVariants.{B1, B2, B4}
use Rattle.dae_base.specs.declared.LoadKind.{LoadKind}
use Rattle.dae_base.specs.declared.LoadKind.TheVariants.{I8, U8, I16, U16, I32}
use Rattle.dae_encode.specs.Spelling.{InRange, layout, IsSigned}
use Rattle.dae_encode.specs.declared.Inst.{Inst}
use Rattle.dae_encode.specs.declared.Inst.TheVariants.{Jalr, Beq, Bne, Bltu, Bgeu, Addi, Sltiu, Xori, Ori, Andi, Slli, Srli, Srai, Add, Sltu, Ecall}
use Rattle.dae_ir.specs.declared.form.Operand.{Operand}
use Rattle.dae_ir.specs.declared.form.Operand.TheVariants.{Variable, Number}
use Rattle.dae_meaning.specs.declared.Operator.{Operator}
use Rattle.dae_meaning.specs.declared.Operator.TheVariants.{Add as Plus, Subtract, Multiply, DivideSigned, DivideUnsigned, RemainderSigned, RemainderUnsigned, And as Both, Or as Either, Xor as Differ, ShiftLeft, ShiftRightSigned, ShiftRightUnsigned}
use Rattle.dae_meaning.specs.declared.Comparison.{Comparison}
use Rattle.dae_meaning.specs.declared.Comparison.TheVariants.{Equal, NotEqual, LessSigned, AtLeastSigned, LessUnsigned, AtLeastUnsigned}
use Rattle.dae_ir.specs.declared.form.Test.{Test}
use Rattle.dae_ir.specs.declared.form.Value.{Value}
use Rattle.dae_ir.specs.declared.form.Value.TheVariants.{Same, Extended, Binary, Holds, FrameAddress}
use Rattle.dae_ir.specs.declared.stream.Branch.{Branch}
use Rattle.dae_ir.specs.declared.stream.Branch.TheVariants.{Silent, Tells, Hears}
use Rattle.dae_ir.specs.declared.stream.Failure.{Failure}
use Rattle.dae_ir.specs.Deeds.{failure_code}
use Rattle.dae_select_walks.specs.declared.Home.{Home}
use Rattle.dae_select_walks.specs.Homes.{IsHome, number_key, resident_register}
use Rattle.dae_select_blocks.specs.Blocks.{lower, is_immediate, number_code, register_or, source, fetch, move_code, operation_code, exponent, power_code, immediate_code, commutes, exchanged_code, behind_or, combine_registers, binary_code, extend_code, compare_code, compare_number_code, compare_registers, compare_operands, test_code, value_code, issue_code, address_code, take_code, fail_code, over, align_code, bounds_code, offset_bounds_code, room_code, check_code, system_code, hear_code, stop_code, leave_code, result_code, branch_inst, opposite, one_way, goes_by, goes_code, frames_room_code, tell_number_code, against_zero, immediate_of, back_offset, goes_back, number_or, as_immediate, epilogue_code, reach_code}
use Rattle.dae_select_blocks.specs.Code.{placed_code, branch_code, told_by, branch_by, ahead_by, before_branch, back_branch}
use Rattle.dae_select_blocks.proofs.Ranges.{move_fit, AllFit, fit_append, fit_either, lower_fits, addi_fits, addi_small, lw_small, add_fits, number_fits, register_fits, fetch_fits, move_fits, keep_fits, over_fits, failure_small}
use Rattle.dae_select_blocks.proofs.Operands.{number_below}
use Rattle.dae_select_blocks.proofs.Values.{power_of_two}

three_fit : (o : Operator) (t x y : ℕ) → t < 32 → x < 32 → y < 32 → InRange (operation_code o t x y)
unfolding InRange layout
three_fit Plus t x y a b c = (a, b, c)
three_fit Subtract t x y a b c = (a, b, c)
three_fit Multiply t x y a b c = (a, b, c)
three_fit DivideSigned t x y a b c = (a, b, c)
three_fit DivideUnsigned t x y a b c = (a, b, c)
three_fit RemainderSigned t x y a b c = (a, b, c)
three_fit RemainderUnsigned t x y a b c = (a, b, c)
three_fit Both t x y a b c = (a, b, c)
three_fit Either t x y a b c = (a, b, c)
three_fit Differ t x y a b c = (a, b, c)
three_fit ShiftLeft t x y a b c = (a, b, c)
three_fit ShiftRightSigned t x y a b c = (a, b, c)
three_fit ShiftRightUnsigned t x y a b c = (a, b, c)

slli_fits : (t x k : ℕ) → t < 32 → x < 32 → k < 32 → InRange (Slli t x (pos k))
unfolding InRange layout
slli_fits t x k a b l = (a, b, (omega (arith, ints), omega (arith, ints)))

power_fits : (o : Option ℕ) (t x : ℕ) (i : Inst) → ((k : ℕ) → o ≡ Some k → k < 32) → t < 32 → x < 32 → power_code o t x ≡ Some i → InRange i
power_fits None t x i low a b e = absurd (let none : None ≡ Some i = e in cc)
power_fits (Some k) t x i low a b e = subst InRange (same_Some (Slli t x (pos k)) i e) (slli_fits t x k a b (low k refl))

immediate_fits : (o : Operator) (t x n : ℕ) (i : Inst) → t < 32 → x < 32 → immediate_code o t x n ≡ Some i → InRange i
unfolding InRange layout
immediate_fits Plus t x n i a b e = subst InRange (cond_some (is_immediate n) (Addi t x (lower n)) i e).1 (a, b, lower_fits n)
immediate_fits Subtract t x n i a b e = subst InRange (cond_some (is_immediate (minus 0 n)) (Addi t x (lower (minus 0 n))) i e).1 (a, b, lower_fits (minus 0 n))
immediate_fits Multiply t x n i a b e = power_fits (exponent n) t x i (λ k is. (power_of_two n k is).0) a b e
immediate_fits DivideSigned t x n i a b e = absurd (let none : None ≡ Some i = e in cc)
immediate_fits DivideUnsigned t x n i a b e = absurd (let none : None ≡ Some i = e in cc)
immediate_fits RemainderSigned t x n i a b e = absurd (let none : None ≡ Some i = e in cc)
immediate_fits RemainderUnsigned t x n i a b e = absurd (let none : None ≡ Some i = e in cc)
immediate_fits Both t x n i a b e = subst InRange (cond_some (is_immediate n) (Andi t x (lower n)) i e).1 (a, b, lower_fits n)
immediate_fits Either t x n i a b e = subst InRange (cond_some (is_immediate n) (Ori t x (lower n)) i e).1 (a, b, lower_fits n)
immediate_fits Differ t x n i a b e = subst InRange (cond_some (is_immediate n) (Xori t x (lower n)) i e).1 (a, b, lower_fits n)
immediate_fits ShiftLeft t x n i a b e = subst InRange (same_Some (Slli t x (pos (n % 32))) i e) (a, b, (omega (arith, ints), omega (arith, ints)))
immediate_fits ShiftRightSigned t x n i a b e = subst InRange (same_Some (Srai t x (pos (n % 32))) i e) (a, b, (omega (arith, ints), omega (arith, ints)))
immediate_fits ShiftRightUnsigned t x n i a b e = subst InRange (same_Some (Srli t x (pos (n % 32))) i e) (a, b, (omega (arith, ints), omega (arith, ints)))

exchanged_fits : (o : Operator) (t x n : ℕ) (i : Inst) → t < 32 → x < 32 → exchanged_code o t x n ≡ Some i → InRange i
exchanged_fits o t x n i a b e = by (commutes o) e
  where
    by : (b : Bool) → (if b then immediate_code o t x n else None) ≡ Some i → InRange i
    by true f = immediate_fits o t x n i a b f
    by false f = absurd (let none : None ≡ Some i = f in cc)

extends_fit : (kind : LoadKind) (t x : ℕ) → t < 32 → x < 32 → AllFit (extend_code kind t x)
unfolding InRange layout
extends_fit I8 t x a b = (((omega arith), b, (omega (arith, ints), omega (arith, ints))), ((a, (omega arith), (omega (arith, ints), omega (arith, ints))), tt))
extends_fit U8 t x a b = ((a, b, (omega (arith, ints), omega (arith, ints))), tt)
extends_fit I16 t x a b = (((omega arith), b, (omega (arith, ints), omega (arith, ints))), ((a, (omega arith), (omega (arith, ints), omega (arith, ints))), tt))
extends_fit U16 t x a b = (((omega arith), b, (omega (arith, ints), omega (arith, ints))), ((a, (omega arith), (omega (arith, ints), omega (arith, ints))), tt))
extends_fit I32 t x a b = ((a, b, (omega (arith, ints), omega (arith, ints))), tt)

compares_fit : (r : Comparison) (t x y : ℕ) → t < 32 → x < 32 → y < 32 → AllFit (compare_code r t x y)
unfolding InRange layout
compares_fit Equal t x y a b c = (((omega arith), b, c), ((a, (omega arith), (omega (arith, ints), omega (arith, ints))), tt))
compares_fit NotEqual t x y a b c = (((omega arith), b, c), ((a, (omega arith), (omega arith)), tt))
compares_fit LessSigned t x y a b c = ((a, b, c), tt)
compares_fit AtLeastSigned t x y a b c = (((omega arith), b, c), ((a, (omega arith), (omega (arith, ints), omega (arith, ints))), tt))
compares_fit LessUnsigned t x y a b c = ((a, b, c), tt)
compares_fit AtLeastUnsigned t x y a b c = (((omega arith), b, c), ((a, (omega arith), (omega (arith, ints), omega (arith, ints))), tt))

compares_number_fit : (r : Comparison) (t x n : ℕ) → t < 32 → x < 32 → AllFit (compare_number_code r t x n)
unfolding InRange layout
compares_number_fit Equal t x n a b =
    fit_either (nat_eq n 0) (Sltiu t x (pos 1) ∷ []) (Addi 7 x (lower (minus 0 n)) ∷ (Sltiu t 7 (pos 1) ∷ [])) (λ e. ((a, b, (omega (arith, ints), omega (arith, ints))), tt)) (λ e. (((omega arith), b, lower_fits (minus 0 n)), ((a, (omega arith), (omega (arith, ints), omega (arith, ints))), tt)))
compares_number_fit NotEqual t x n a b =
    fit_either (nat_eq n 0) (Sltu t 0 x ∷ []) (Addi 7 x (lower (minus 0 n)) ∷ (Sltu t 0 7 ∷ [])) (λ e. ((a, (omega arith), b), tt)) (λ e. (((omega arith), b, lower_fits (minus 0 n)), ((a, (omega arith), (omega arith)), tt)))
compares_number_fit LessSigned t x n a b = ((a, b, lower_fits n), tt)
compares_number_fit AtLeastSigned t x n a b = (((omega arith), b, lower_fits n), ((a, (omega arith), (omega (arith, ints), omega (arith, ints))), tt))
compares_number_fit LessUnsigned t x n a b = ((a, b, lower_fits n), tt)
compares_number_fit AtLeastUnsigned t x n a b = (((omega arith), b, lower_fits n), ((a, (omega arith), (omega (arith, ints), omega (arith, ints))), tt))

tells_number_fit : (r : Comparison) (x n : ℕ) → x < 32 → AllFit (tell_number_code r x n)
unfolding InRange layout
tells_number_fit Equal x n b = compares_number_fit Equal 29 x n (omega arith) b
tells_number_fit NotEqual x n b = compares_number_fit NotEqual 29 x n (omega arith) b
tells_number_fit LessSigned x n b = (((omega arith), b, lower_fits n), (((omega arith), (omega arith), (omega (arith, ints), omega (arith, ints))), tt))
tells_number_fit AtLeastSigned x n b = compares_number_fit AtLeastSigned 29 x n (omega arith) b
tells_number_fit LessUnsigned x n b = (((omega arith), b, lower_fits n), (((omega arith), (omega arith), (omega (arith, ints), omega (arith, ints))), tt))
tells_number_fit AtLeastUnsigned x n b = compares_number_fit AtLeastUnsigned 29 x n (omega arith) b

pub ecall_fits : InRange Ecall
unfolding InRange layout
ecall_fits = (omega arith, omega arith, (omega (arith, ints), omega (arith, ints)))

pub branch_inst_fits : (relation : Comparison) (x y n : ℕ) → x < 32 → y < 32 → n < 2 ^ 12 → n % 2 ≡ 0 → InRange (branch_inst relation x y (pos n))
unfolding InRange layout
branch_inst_fits Equal x y n a b l e = (a, b, ((omega (arith, ints), omega (arith, ints)), e))
branch_inst_fits NotEqual x y n a b l e = (a, b, ((omega (arith, ints), omega (arith, ints)), e))
branch_inst_fits LessSigned x y n a b l e = (a, b, ((omega (arith, ints), omega (arith, ints)), e))
branch_inst_fits AtLeastSigned x y n a b l e = (a, b, ((omega (arith, ints), omega (arith, ints)), e))
branch_inst_fits LessUnsigned x y n a b l e = (a, b, ((omega (arith, ints), omega (arith, ints)), e))
branch_inst_fits AtLeastUnsigned x y n a b l e = (a, b, ((omega (arith, ints), omega (arith, ints)), e))

some_back_fits : (relation : Comparison) (x y n : ℕ) → x < 32 → y < 32 → n < 1000 → InRange (branch_inst relation x y (negsuc (4 * n + 3)))
unfolding InRange layout
some_back_fits Equal x y n a b l = (a, b, ((omega (arith, ints), omega (arith, ints)), omega arith))
some_back_fits NotEqual x y n a b l = (a, b, ((omega (arith, ints), omega (arith, ints)), omega arith))
some_back_fits LessSigned x y n a b l = (a, b, ((omega (arith, ints), omega (arith, ints)), omega arith))
some_back_fits AtLeastSigned x y n a b l = (a, b, ((omega (arith, ints), omega (arith, ints)), omega arith))
some_back_fits LessUnsigned x y n a b l = (a, b, ((omega (arith, ints), omega (arith, ints)), omega arith))
some_back_fits AtLeastUnsigned x y n a b l = (a, b, ((omega (arith, ints), omega (arith, ints)), omega arith))

back_inst_fits : (relation : Comparison) (x y n : ℕ) → x < 32 → y < 32 → n ≤ 1000 → InRange (branch_inst relation x y (back_offset n))
back_inst_fits relation x y zero a b l = branch_inst_fits relation x y 0 a b (omega arith) refl
back_inst_fits relation x y (suc n) a b l = some_back_fits relation x y n a b (omega arith)

pub bne_fits : (x y n : ℕ) → x < 32 → y < 32 → n < 2 ^ 11 → n % 2 ≡ 0 → InRange (Bne x y (pos n))
bne_fits x y n a b l e = branch_inst_fits NotEqual x y n a b (omega arith) e

pub beq_fits : (x y n : ℕ) → x < 32 → y < 32 → n < 2 ^ 11 → n % 2 ≡ 0 → InRange (Beq x y (pos n))
beq_fits x y n a b l e = branch_inst_fits Equal x y n a b (omega arith) e

pub bltu_fits : (x y n : ℕ) → x < 32 → y < 32 → n < 2 ^ 11 → n % 2 ≡ 0 → InRange (Bltu x y (pos n))
bltu_fits x y n a b l e = branch_inst_fits LessUnsigned x y n a b (omega arith) e

pub bgeu_fits : (x y n : ℕ) → x < 32 → y < 32 → n < 2 ^ 11 → n % 2 ≡ 0 → InRange (Bgeu x y (pos n))
bgeu_fits x y n a b l e = branch_inst_fits AtLeastUnsigned x y n a b (omega arith) e

-- on to what stands so many words ahead
by_fits : (t short : Bool) (relation : Comparison) (x y n : ℕ) → (t ≡ true → n < 1000) → x < 32 → y < 32 → AllFit (goes_by t short relation x y n)
by_fits true short relation x y n near a b = (let l = near refl in branch_inst_fits relation x y (4 * (n + 1)) a b (omega arith) (omega arith), tt)
by_fits false true relation x y n near a b = (branch_inst_fits (opposite relation) x y 8 a b (omega arith) refl, over_fits true n)
by_fits false false relation x y n near a b = (branch_inst_fits (opposite relation) x y 12 a b (omega arith) refl, over_fits false n)

goes_fits : (short : Bool) (relation : Comparison) (x y n : ℕ) → x < 32 → y < 32 → AllFit (goes_code short relation x y n)
goes_fits short relation x y n a b = by_fits (nat_lt n 1000) short relation x y n (λ e. grind (arith, nat_tests)) a b

andi_fits : (t x n : ℕ) → t < 32 → x < 32 → n < 2 ^ 11 → InRange (Andi t x (pos n))
unfolding InRange layout
andi_fits t x n a b l = (a, b, (omega (arith, ints), omega (arith, ints)))

addi_minus : (t x n : ℕ) → t < 32 → x < 32 → n < 2 ^ 11 → InRange (Addi t x (negsuc n))
unfolding InRange layout
addi_minus t x n a b l = (a, b, (omega (arith, ints), omega (arith, ints)))

addi_one_less : (t x : ℕ) → t < 32 → x < 32 → InRange (Addi t x (negsuc 0))
unfolding InRange layout
addi_one_less t x a b = (a, b, (omega (arith, ints), omega (arith, ints)))

jalr_zero : (b : ℕ) → b < 32 → InRange (Jalr 0 b (pos 0))
unfolding InRange layout
jalr_zero b h = ((omega arith), h, (omega (arith, ints), omega (arith, ints)))

pub no_offset : IsSigned 12 (pos 0)
no_offset = (omega (arith, ints), omega (arith, ints))

pub issue_fits : (kind : LoadKind) (q b : ℕ) (offset : ℤ) → q < 32 → b < 32 → IsSigned 12 offset → InRange (issue_code kind q b offset)
unfolding InRange layout
issue_fits I8 q b offset h k l = (h, k, l)
issue_fits U8 q b offset h k l = (h, k, l)
issue_fits I16 q b offset h k l = (h, k, l)
issue_fits U16 q b offset h k l = (h, k, l)
issue_fits I32 q b offset h k l = (h, k, l)

pub address_fits : (width : Width) (b : ℕ) (offset : ℤ) → b < 32 → IsSigned 12 offset → InRange (address_code width b offset)
unfolding InRange layout
address_fits B1 b offset k l = (k, (omega arith), l)
address_fits B2 b offset k l = (k, (omega arith), l)
address_fits B4 b offset k l = (k, (omega arith), l)

-- where each home is a register of the machine, or a slot
module _ (home : ℕ → Home) (low : (r v : ℕ) → r < 32 → register_or r (home v) < 32) where
  source_fit : (r : ℕ) (x : Operand) → r < 32 → source home r x < 32
  source_fit r (Variable v) h = low r v h
  source_fit r (Number k) h = by (nat_eq k 0)
    where
      by : (b : Bool) → (if b then 0 else number_or r (resident_register (home (number_key k)))) < 32
      by true = omega arith
      by false = number_below 32 r (home (number_key k)) (omega arith) h

  fetched_in : (r : ℕ) (x : Operand) (is : List Inst) → r < 32 → AllFit is → AllFit (fetch home r x ++ is)
  fetched_in r x is h k = fit_append (fetch home r x) is (fetch_fits 0 home r x h) k

  registers_fit : (t : ℕ) (o : Operator) (x y : Operand) → t < 32 → AllFit (combine_registers home t o x y)
  registers_fit t o x y h = fetched_in 5 x _ (omega arith) (fetched_in 6 y _ (omega arith) (three_fit o t (source home 5 x) (source home 6 y) h (source_fit 5 x (omega arith)) (source_fit 6 y (omega arith)), tt))

  binary_fits : (t : ℕ) (o : Operator) (x y : Operand) → t < 32 → AllFit (binary_code home t o x y)
  binary_fits t o x (Number k) h = by (immediate_code o t (source home 5 x) k) refl
    where
      by : (i : Option Inst) → immediate_code o t (source home 5 x) k ≡ i → AllFit (behind_or (fetch home 5 x) i (combine_registers home t o x (Number k)))
      by (Some i) e = fetched_in 5 x (i ∷ []) (omega arith) (immediate_fits o t (source home 5 x) k i h (source_fit 5 x (omega arith)) e, tt)
      by None e = registers_fit t o x (Number k) h
  binary_fits t o (Number k) (Variable v) h = by (exchanged_code o t (source home 5 (Variable v)) k) refl
    where
      by : (i : Option Inst) → exchanged_code o t (source home 5 (Variable v)) k ≡ i → AllFit (behind_or (fetch home 5 (Variable v)) i (combine_registers home t o (Number k) (Variable v)))
      by (Some i) e = fetched_in 5 (Variable v) (i ∷ []) (omega arith) (exchanged_fits o t (source home 5 (Variable v)) k i h (source_fit 5 (Variable v) (omega arith)) e, tt)
      by None e = registers_fit t o (Number k) (Variable v) h
  binary_fits t o (Variable u) (Variable v) h = registers_fit t o (Variable u) (Variable v) h

  compares_registers_fit : (t : ℕ) (r : Comparison) (x y : Operand) → t < 32 → AllFit (compare_registers home t r x y)
  compares_registers_fit t r x y h = fetched_in 5 x _ (omega arith) (fetched_in 6 y _ (omega arith) (compares_fit r t (source home 5 x) (source home 6 y) h (source_fit 5 x (omega arith)) (source_fit 6 y (omega arith))))

  compares_operands_fit : (t : ℕ) (r : Comparison) (x y : Operand) → t < 32 → AllFit (compare_operands home t r x y)
  compares_operands_fit t r x (Variable v) h = compares_registers_fit t r x (Variable v) h
  compares_operands_fit t r x (Number k) h =
      fit_either (as_immediate home r k) (fetch home 5 x ++ compare_number_code r t (source home 5 x) k) (compare_registers home t r x (Number k))
      (λ e. fetched_in 5 x _ (omega arith) (compares_number_fit r t (source home 5 x) k h (source_fit 5 x (omega arith)))) (λ e. compares_registers_fit t r x (Number k) h)

  test_fit : (t : ℕ) (test : Test) → t < 32 → AllFit (test_code home t test)
  test_fit t test h = compares_operands_fit t test.comparison test.left test.right h

  pub value_fit : (t : ℕ) (x : Value) → t < 32 → AllFit (value_code home t x)
  value_fit t (Same x) h = move_fit home low t x h
  value_fit t (Extended kind x) h = fetched_in 5 x _ (omega arith) (extends_fit kind t (source home 5 x) h (source_fit 5 x (omega arith)))
  value_fit t (Binary o x y) h = binary_fits t o x y h
  value_fit t (Holds test) h = test_fit t test h
  value_fit t (FrameAddress offset) h =
      fit_either (is_immediate offset) (Addi t 3 (lower offset) ∷ []) (number_code 5 offset ++ Add t 3 5 ∷ [])
      (λ e. (addi_fits t 3 offset h (omega arith), tt)) (λ e. fit_append _ _ (number_fits 5 offset (omega arith)) (add_fits t 3 5 h (omega arith) (omega arith), tt))

module _ (n : ℕ) (home : ℕ → Home) (good : (v : ℕ) → IsHome n (home v)) where
  low' : (r v : ℕ) → r < 32 → register_or r (home v) < 32
  low' r v h = register_fits n r (home v) (good v) h

  pub source_fits : (r : ℕ) (x : Operand) → r < 32 → source home r x < 32
  source_fits r x h = source_fit home low' r x h

  fetched_fit : (r : ℕ) (x : Operand) (is : List Inst) → r < 32 → AllFit is → AllFit (fetch home r x ++ is)
  fetched_fit r x is h k = fetched_in home low' r x is h k

  pub test_fits : (t : ℕ) (test : Test) → t < 32 → AllFit (test_code home t test)
  test_fits t test h = test_fit home low' t test h

  pub value_fits : (t : ℕ) (x : Value) → t < 32 → AllFit (value_code home t x)
  value_fits t x h = value_fit home low' t x h

  -- an access that adds the number of a sum, and what is behind it
  pub reach_fits : (y : Value) (access : ℕ → ℤ → Inst) (rest : List Inst) → ((b : ℕ) (offset : ℤ) → b < 32 → IsSigned 12 offset → InRange (access b offset)) → AllFit rest → AllFit (reach_code home y access rest)
  reach_fits (Binary operator x (Number k)) access rest fits more = fetched_fit 5 x _ (omega arith) (fits (source home 5 x) (lower k) (source_fits 5 x (omega arith)) (lower_fits k), more)
  reach_fits _ access rest fits more = tt

  pub take_fits : (q v : ℕ) → q < 32 → AllFit (take_code q (home v))
  take_fits q v h = (addi_small (register_or 5 (home v)) q 0 (register_fits n 5 (home v) (good v) (omega arith)) h (omega arith), keep_fits (home v))

  abbrev AreFit : (Comparison → ℕ → ℕ → List Inst) → Type 0
  AreFit go = (relation : Comparison) (x y : ℕ) → x < 32 → y < 32 → AllFit (go relation x y)

  told_fits : (o : Option ℕ) (go : Comparison → ℕ → ℕ → List Inst) (t : Test) (way : Bool) → AreFit go → AllFit (told_by o home go t way)
  told_fits None go t way fit =
      fit_append (test_code home 29 t) _ (test_fits 29 t (omega arith)) (fit (one_way way t.comparison) (source home 5 t.left) (source home 6 t.right) (source_fits 5 t.left (omega arith)) (source_fits 6 t.right (omega arith)))
  told_fits (Some j) go t way fit =
      fetched_fit 5 t.left _ (omega arith) (fit_append (tell_number_code t.comparison (source home 5 t.left) j) _ (tells_number_fit t.comparison (source home 5 t.left) j (source_fits 5 t.left (omega arith)))
      (fit (one_way way (against_zero t.comparison)) 7 0 (omega arith) (omega arith)))

  by_branch_fits : (go : Comparison → ℕ → ℕ → List Inst) (b : Branch) (way : Bool) → AreFit go → AllFit (branch_by home go b way)
  by_branch_fits go (Silent t) way fit = fetched_fit 5 t.left _ (omega arith) (fetched_fit 6 t.right _ (omega arith) (fit (one_way way t.comparison) (source home 5 t.left) (source home 6 t.right) (source_fits 5 t.left (omega arith)) (source_fits 6 t.right (omega arith))))
  by_branch_fits go (Tells t) way fit = told_fits (immediate_of home t.comparison t.right) go t way fit
  by_branch_fits go Hears way fit = fit (one_way way NotEqual) 29 0 (omega arith) (omega arith)

  pub branch_fits : (short : Bool) (b : Branch) (way : Bool) (n : ℕ) → AllFit (branch_code home short b way n)
  branch_fits short b way n = by_branch_fits (ahead_by short n) b way (λ relation x y h k. goes_fits short relation x y n h k)

  pub back_branch_fits : (b : Branch) (way : Bool) (n : ℕ) → n + before_branch home b way ≤ 1000 → AllFit (back_branch home b way n)
  back_branch_fits b way n near = by_branch_fits (goes_back (n + before_branch home b way)) b way (λ relation x y h k. (back_inst_fits relation x y (n + before_branch home b way) h k near, tt))

  pub system_fits : (k : ℕ) (x : Operand) → k < 2 ^ 11 → AllFit (system_code home k x)
  system_fits k x h = fit_append _ _ (move_fits n home good 10 x (omega arith)) (addi_small 17 0 k (omega arith) (omega arith) h, (ecall_fits, tt))

  pub stop_fits : (b : Bool) (x : Option Operand) → AllFit (stop_code b home x)
  stop_fits true x = (ecall_fits, tt)
  stop_fits false None = system_fits 0 (Number 0) (omega arith)
  stop_fits false (Some x) = system_fits 0 x (omega arith)

  return_fits : (by_a leaf : Bool) → AllFit (epilogue_code by_a leaf ++ Jalr 0 1 (pos 0) ∷ [])
  return_fits by_a true = (jalr_zero 1 (omega arith), tt)
  return_fits true false = (lw_small 1 2 0 (omega arith) (omega arith) (omega arith), (addi_one_less 10 10 (omega arith) (omega arith), (jalr_zero 1 (omega arith), tt)))
  return_fits false false = (lw_small 1 2 0 (omega arith) (omega arith) (omega arith), (jalr_zero 1 (omega arith), tt))

  pub leave_fits : (by_a leaf : Bool) (y : Option Operand) → AllFit (leave_code by_a leaf home y)
  leave_fits by_a leaf None = return_fits by_a leaf
  leave_fits by_a leaf (Some x) = fit_append (move_code home 6 x) (epilogue_code by_a leaf ++ Jalr 0 1 (pos 0) ∷ []) (move_fits n home good 6 x (omega arith)) (return_fits by_a leaf)

  pub result_fits : (v : Option ℕ) → AllFit (result_code home v)
  result_fits None = tt
  result_fits (Some v) = (addi_small (register_or 5 (home v)) 6 0 (register_fits n 5 (home v) (good v) (omega arith)) (omega arith) (omega arith), keep_fits (home v))

pub hear_fits : (b : Bool) (only : Option Failure) → AllFit (hear_code b only)
hear_fits true only = (beq_fits 29 0 8 (omega arith) (omega arith) (omega arith) refl, (ecall_fits, tt))
hear_fits false (Some failure) = (beq_fits 29 0 16 (omega arith) (omega arith) (omega arith) refl, (addi_small 10 0 (failure_code failure) (omega arith) (omega arith) (failure_small failure), (addi_small 17 0 5 (omega arith) (omega arith) (omega arith), (ecall_fits, tt))))
hear_fits false None = (addi_small 10 29 0 (omega arith) (omega arith) (omega arith), (beq_fits 10 0 12 (omega arith) (omega arith) (omega arith) refl, (addi_small 17 0 5 (omega arith) (omega arith) (omega arith), (ecall_fits, tt))))

pub fail_fits : (b : Bool) (code : ℕ) → code < 2 ^ 11 → AllFit (fail_code b code)
fail_fits true code h = (addi_small 29 0 code (omega arith) (omega arith) h, (ecall_fits, tt))
fail_fits false code h = (addi_small 29 0 code (omega arith) (omega arith) h, (addi_small 10 0 code (omega arith) (omega arith) h, (addi_small 17 0 5 (omega arith) (omega arith) (omega arith), (ecall_fits, tt))))

align_fits : (w : Width) (x : ℕ) → x < 32 → AllFit (align_code w x)
align_fits B1 x h = tt
align_fits B2 x h = (andi_fits 6 x 1 (omega arith) h (omega arith), (beq_fits 6 0 12 (omega arith) (omega arith) (omega arith) refl, fail_fits true 3 (omega arith)))
align_fits B4 x h = (andi_fits 6 x 3 (omega arith) h (omega arith), (beq_fits 6 0 12 (omega arith) (omega arith) (omega arith) refl, fail_fits true 3 (omega arith)))

room_fits : (k : ℕ) → AllFit (room_code k)
room_fits k = fit_append _ _ (number_fits 6 k (omega arith)) (bgeu_fits 6 3 12 (omega arith) (omega arith) (omega arith) refl, fail_fits true 4 (omega arith))

frames_fit : (memory k : ℕ) → AllFit (frames_room_code memory k)
frames_fit memory k = fit_either (nat_eq k 0) [] (room_code (memory - k)) (λ e. tt) (λ e. room_fits (memory - k))

leads_fit : (b : Bool) (x : ℕ) → x < 32 → InRange (Bne x 0 (over b))
leads_fit true x h = bne_fits x 0 12 h (omega arith) (omega arith) refl
leads_fit false x h = bne_fits x 0 20 h (omega arith) (omega arith) refl

bounds_fit : (w : Width) (x : ℕ) → x < 32 → AllFit (bounds_code w x)
bounds_fit w x h = (addi_minus 6 x (16 - size w) (omega arith) h (omega arith), (bltu_fits 6 4 12 (omega arith) (omega arith) (omega arith) refl, fail_fits true 2 (omega arith)))

offset_bounds_fit : (x offset : ℕ) → x < 32 → AllFit (offset_bounds_code x offset)
offset_bounds_fit x offset h =
    fit_either (nat_eq offset 16) (Bltu x 4 (pos 12) ∷ fail_code true 2) (Addi 6 x (lower (minus offset 16)) ∷ (Bltu 6 4 (pos 12) ∷ fail_code true 2))
    (λ e. (bltu_fits x 4 12 h (omega arith) (omega arith) refl, fail_fits true 2 (omega arith)))
    (λ e. (addi_fits 6 x (minus offset 16) (omega arith) h, (bltu_fits 6 4 12 (omega arith) (omega arith) (omega arith) refl, fail_fits true 2 (omega arith))))

pub placed_fits : (n : ℕ) (home : ℕ → Home) → ((v : ℕ) → IsHome n (home v)) → (a : Action) → AllFit (placed_code home a)
placed_fits n home good (Probe (Place width x)) = fetched_fit n home good 5 x (bounds_code width (source home 5 x)) (omega arith) (bounds_fit width (source home 5 x) (source_fits n home good 5 x (omega arith)))
placed_fits n home good a = tt

pub check_fits : (plan : Plan) (n f : ℕ) (check : Check) → ((v : ℕ) → IsHome n (plan.home f v)) → AllFit (check_code plan f check)
check_fits plan n f (Place width x) good =
    let r : ℕ = source (plan.home f) 5 x in
    let low = source_fits n (plan.home f) good 5 x (omega arith) in
    fetched_fit n (plan.home f) good 5 x (align_code width r ++ bounds_code width r) (omega arith) (fit_append (align_code width r) (bounds_code width r) (align_fits width r low) (bounds_fit width r low))
check_fits plan n f (InBounds x offset) good =
    let r : ℕ = source (plan.home f) 5 x in
    fetched_fit n (plan.home f) good 5 x (offset_bounds_code r offset) (omega arith) (offset_bounds_fit r offset (source_fits n (plan.home f) good 5 x (omega arith)))
check_fits plan n f (Zero x) good = fetched_fit n (plan.home f) good 5 x _ (omega arith) (leads_fit plan.by_a (source (plan.home f) 5 x) (source_fits n (plan.home f) good 5 x (omega arith)), fail_fits plan.by_a 1 (omega arith))
check_fits plan n f (Room g) good =
    let frames : List Inst = frames_room_code plan.memory (plan.frame f + plan.frame g) in
    fit_either (nat_lt plan.memory (plan.frame f + plan.frame g)) (fail_code true 4) (frames ++ (number_code 6 (counted_depth plan f plan.limit) ++ Bltu 10 6 (pos 12) ∷ fail_code true 4)) (λ e. fail_fits true 4 (omega arith))
    (λ e. fit_append frames _ (frames_fit plan.memory (plan.frame f + plan.frame g)) (fit_append (number_code 6 (counted_depth plan f plan.limit)) (Bltu 10 6 (pos 12) ∷ fail_code true 4) (number_fits 6 (counted_depth plan f plan.limit) (omega arith)) (bltu_fits 10 6 12 (omega arith) (omega arith) (omega arith) refl, fail_fits true 4 (omega arith))))
check_fits plan n f Frame good = fit_either (nat_lt plan.memory (plan.frame f)) (fail_code true 4) (room_code (plan.memory - plan.frame f)) (λ e. fail_fits true 4 (omega arith)) (λ e. room_fits _)
check_fits plan n f Abort good = fail_fits true 5 (omega arith)
