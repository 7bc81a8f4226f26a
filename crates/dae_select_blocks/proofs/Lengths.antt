-- How long blocks are.
use Rattle.std.specs.List.{AllByRecursion}
use Rattle.std.proofs.Common.{◌≡◌, refl, ℕ, ◌+◌, ◌-◌, ◌*◌, ◌%◌, ◌^◌, ◌≤◌, Bool, true, false, ◌&&◌, List, [], ◌∷◌, ◌++◌, Option, Some, None, length, arith, length-append}
use Rattle.std.specs.Prelude.{nat_lt, nat_eq, if◌then◌else◌, pos, ℤ}
use Rattle.dae_base.specs.declared.Width.{Width}
use Rattle.dae_base.specs.declared.Width.TheVariants.{B1, B2, B4}
use Rattle.dae_base.specs.declared.LoadKind.{LoadKind}
use Rattle.dae_base.specs.declared.LoadKind.TheVariants.{I8, U8, I16, U16, I32}
use Rattle.dae_encode.specs.declared.Inst.{Inst}
use Rattle.dae_encode.specs.declared.Inst.TheVariants.{Addi, Add, Sub, Bne, Bltu, Bgeu, Jalr, Ecall}
use Rattle.dae_base.specs.Words.{minus}
use Rattle.dae_ir.specs.Classes.{VariableSet}
use Rattle.dae_ir.specs.declared.form.Operand.{Operand}
use Rattle.dae_ir.specs.declared.form.Operand.TheVariants.{Variable, Number}
use Rattle.dae_meaning.specs.declared.Operator.{Operator}
use Rattle.dae_meaning.specs.declared.Comparison.{Comparison}
use Rattle.dae_meaning.specs.declared.Comparison.TheVariants.{Equal, NotEqual, LessSigned, AtLeastSigned, LessUnsigned, AtLeastUnsigned}
use Rattle.dae_ir.specs.declared.form.Test.{Test}
use Rattle.dae_ir.specs.declared.form.Value.{Value}
use Rattle.dae_ir.specs.declared.form.Value.TheVariants.{Same, Extended, Binary, Holds, FrameAddress}
use Rattle.dae_ir.specs.declared.form.Check.{Check}
use Rattle.dae_ir.specs.declared.form.Check.TheVariants.{Place, InBounds, Zero, Room, Frame, Abort}
use Rattle.dae_ir.specs.declared.stream.Argument.{Argument}
use Rattle.dae_ir.specs.declared.stream.Action.{Action}
use Rattle.dae_ir.specs.declared.stream.Action.TheVariants.{Set as Compute, Issue, Own, Receive, Address, Datum, Offer, Accept, Emit, Probe, Tell, Hear, Stop, Break, Continue, Call, Return}
use Rattle.dae_ir.specs.declared.stream.Branch.{Branch}
use Rattle.dae_ir.specs.declared.stream.Branch.TheVariants.{Silent, Tells, Hears}
use Rattle.dae_ir.specs.declared.stream.Failure.{Failure}
use Rattle.dae_select_walks.specs.declared.Home.{Home}
use Rattle.dae_select_walks.specs.declared.Home.TheVariants.{Register, Slot}
use Rattle.dae_select_walks.specs.Homes.{slot_at, kept_at, number_key, resident_register}
use Rattle.dae_select_walks.specs.Agrees.{Plan, counted_depth}
use Rattle.dae_select_blocks.specs.Blocks.{operation_code, issue_code, address_code, call_number, over, is_register, number_code, load_code, store_code, register_or, source, fetch_home, fetch, keep, compare_code, test_code, extend_code, value_code, fail_code, align_code, bounds_code, offset_bounds_code, room_code, check_code, take_code, hear_code, stop_code, arguments_code, save_code, restore_code, deeper_code, back_code, result_code, leave_code, enter_code, more_code, less_code, is_immediate, move_code, immediate_code, exchanged_code, behind_or, combine_registers, binary_code, compare_number_code, compare_registers, compare_operands, frame_code, system_code, one_way, jump_over, jump_back, goes_by, goes_code, frames_room_code, tell_number_code, against_zero, immediate_of, goes_back, fetch_number, residents_code, as_immediate, prologue_code, epilogue_code, enter_words, lower, reach_code, is_overwritten, argument_to, argument_code, parameter_to, parameter_code, parameters_code, copy_code}
use Rattle.dae_select_blocks.specs.Code.{placed_code, some_below, filtered, home_registers, registers_in, with_home, early_code, action_code, branch_code, entry_code, start_code, finish_code, past_code, told_by, branch_by, ahead_by, before_branch, back_branch, late_code}
use Rattle.dae_select_blocks.proofs.Simple.{IsSimple}

either_short : (b : Bool) (x y : List Inst) (n : ℕ) → length x ≤ n → length y ≤ n → length (if b then x else y) ≤ n
either_short true x y n h k = h
either_short false x y n h k = k

number_short : (r n : ℕ) → length (number_code r n) ≤ 2
number_short r n = either_short (is_immediate n) _ _ 2 (omega arith) (either_short (nat_eq (n % 2 ^ 12) 0) _ _ 2 (omega arith) (omega arith))

load_short : (r i : ℕ) → length (load_code r i) ≤ 3
load_short r i = either_short (nat_lt i 512) _ _ 3 (omega arith) (omega arith)

store_short : (r i : ℕ) → length (store_code r i) ≤ 3
store_short r i = either_short (nat_lt i 512) _ _ 3 (omega arith) (omega arith)

home_short : (r : ℕ) (h : Home) → length (fetch_home r h) ≤ 3
home_short r (Register g) = omega arith
home_short r (Slot i) = load_short r (slot_at i)

fetch_number_short : (r n : ℕ) (o : Option ℕ) → length (fetch_number r n o) ≤ 3
fetch_number_short r n None = let l = number_short r n in omega arith
fetch_number_short r n (Some h) = omega arith

fetch_short : (home : ℕ → Home) (r : ℕ) (x : Operand) → length (fetch home r x) ≤ 3
fetch_short home r (Variable v) = home_short r (home v)
fetch_short home r (Number n) = either_short (nat_eq n 0) [] (fetch_number r n (resident_register (home (number_key n)))) 3 (omega arith) (fetch_number_short r n (resident_register (home (number_key n))))

move_short : (home : ℕ → Home) (t : ℕ) (x : Operand) → length (move_code home t x) ≤ 4
move_short home t (Variable v) = let l = home_short 5 (home v) in let both = length-append (fetch_home 5 (home v)) (Addi t (register_or 5 (home v)) (pos 0) ∷ []) in omega arith
move_short home t (Number n) = either_short (is_immediate n) _ _ 4 (omega arith) (omega arith)

-- a list behind an operand that goes into a register
moved_short : (home : ℕ → Home) (t n : ℕ) (x : Operand) (is : List Inst) → length is ≤ n → length (move_code home t x ++ is) ≤ 4 + n
moved_short home t n x is h = let l = move_short home t x in let both = length-append (move_code home t x) is in omega arith

keep_short : (h : Home) → length (keep h) ≤ 3
keep_short (Register g) = omega arith
keep_short (Slot i) = store_short 5 (slot_at i)

compare_short : (r : Comparison) (t x y : ℕ) → length (compare_code r t x y) ≤ 2
compare_short Equal t x y = omega arith
compare_short NotEqual t x y = omega arith
compare_short LessSigned t x y = omega arith
compare_short AtLeastSigned t x y = omega arith
compare_short LessUnsigned t x y = omega arith
compare_short AtLeastUnsigned t x y = omega arith

extend_short : (k : LoadKind) (t x : ℕ) → length (extend_code k t x) ≤ 2
extend_short I8 t x = omega arith
extend_short U8 t x = omega arith
extend_short I16 t x = omega arith
extend_short U16 t x = omega arith
extend_short I32 t x = omega arith

-- a list behind an operand
behind_short : (home : ℕ → Home) (r n : ℕ) (x : Operand) (is : List Inst) → length is ≤ n → length (fetch home r x ++ is) ≤ 3 + n
behind_short home r n x is h = let l = fetch_short home r x in let both = length-append (fetch home r x) is in omega arith

registers_short : (home : ℕ → Home) (t : ℕ) (o : Operator) (x y : Operand) → length (combine_registers home t o x y) ≤ 8
registers_short home t o x y = let l = behind_short home 5 4 x _ (behind_short home 6 1 y (operation_code o t (source home 5 x) (source home 6 y) ∷ []) (omega arith)) in omega arith

single_short : (home : ℕ → Home) (x : Operand) (i : Option Inst) (other : List Inst) → length other ≤ 8 → length (behind_or (fetch home 5 x) i other) ≤ 8
single_short home x (Some i) other h = let l = behind_short home 5 1 x (i ∷ []) (omega arith) in omega arith
single_short home x None other h = h

binary_short : (home : ℕ → Home) (t : ℕ) (o : Operator) (x y : Operand) → length (binary_code home t o x y) ≤ 8
binary_short home t o x (Number n) = single_short home x (immediate_code o t (source home 5 x) n) (combine_registers home t o x (Number n)) (registers_short home t o x (Number n))
binary_short home t o (Number n) (Variable v) = single_short home (Variable v) (exchanged_code o t (register_or 5 (home v)) n) (combine_registers home t o (Number n) (Variable v)) (registers_short home t o (Number n) (Variable v))
binary_short home t o (Variable u) (Variable v) = registers_short home t o (Variable u) (Variable v)

compare_number_short : (r : Comparison) (t x n : ℕ) → length (compare_number_code r t x n) ≤ 2
compare_number_short Equal t x n = either_short (nat_eq n 0) _ _ 2 (omega arith) (omega arith)
compare_number_short NotEqual t x n = either_short (nat_eq n 0) _ _ 2 (omega arith) (omega arith)
compare_number_short LessSigned t x n = omega arith
compare_number_short AtLeastSigned t x n = omega arith
compare_number_short LessUnsigned t x n = omega arith
compare_number_short AtLeastUnsigned t x n = omega arith

compare_registers_short : (home : ℕ → Home) (t : ℕ) (r : Comparison) (x y : Operand) → length (compare_registers home t r x y) ≤ 8
compare_registers_short home t r x y = behind_short home 5 5 x _ (behind_short home 6 2 y _ (compare_short r t (source home 5 x) (source home 6 y)))

compare_operands_short : (home : ℕ → Home) (t : ℕ) (r : Comparison) (x y : Operand) → length (compare_operands home t r x y) ≤ 8
compare_operands_short home t r x (Variable v) = compare_registers_short home t r x (Variable v)
compare_operands_short home t r x (Number n) =
    let l = behind_short home 5 2 x (compare_number_code r t (source home 5 x) n) (compare_number_short r t (source home 5 x) n) in
    either_short (as_immediate home r n) (fetch home 5 x ++ compare_number_code r t (source home 5 x) n) (compare_registers home t r x (Number n)) 8 (omega arith) (compare_registers_short home t r x (Number n))

test_short : (home : ℕ → Home) (t : ℕ) (test : Test) → length (test_code home t test) ≤ 8
test_short home t test = compare_operands_short home t test.comparison test.left test.right

pub value_short : (home : ℕ → Home) (t : ℕ) (x : Value) → length (value_code home t x) ≤ 8
value_short home t (Same x) = let l = move_short home t x in omega arith
value_short home t (Extended kind x) = let l = behind_short home 5 2 x (extend_code kind t (source home 5 x)) (extend_short kind t (source home 5 x)) in omega arith
value_short home t (Binary o x y) = binary_short home t o x y
value_short home t (Holds test) = test_short home t test
value_short home t (FrameAddress offset) =
    let l = number_short 5 offset in let both = length-append (number_code 5 offset) (Add t 3 5 ∷ []) in
    either_short (is_immediate offset) _ (number_code 5 offset ++ Add t 3 5 ∷ []) 8 (omega arith) (omega arith)

fail_short : (b : Bool) (code : ℕ) → length (fail_code b code) ≤ 4
fail_short true code = omega arith
fail_short false code = omega arith

align_short : (w : Width) (x : ℕ) → length (align_code w x) ≤ 4
align_short B1 x = omega arith
align_short B2 x = omega arith
align_short B4 x = omega arith

room_short : (n : ℕ) → length (room_code n) ≤ 5
room_short n = let l = number_short 6 n in let both = length-append (number_code 6 n) (Bgeu 6 3 (pos 12) ∷ fail_code true 4) in omega arith

pub placed_short : (home : ℕ → Home) (a : Action) → length (placed_code home a) ≤ 13
placed_short home (Probe (Place width x)) = behind_short home 5 10 x (bounds_code width (source home 5 x)) (omega arith)
placed_short home a = omega arith

check_short : (plan : Plan) (f : ℕ) (check : Check) → length (check_code plan f check) ≤ 13
check_short plan f (Place width x) =
    let r = source (plan.home f) 5 x in
    let l = align_short width r in
    let b = length-append (align_code width r) (bounds_code width r) in
    behind_short (plan.home f) 5 10 x (align_code width r ++ bounds_code width r) (omega arith)
check_short plan f (InBounds x offset) =
    let r = source (plan.home f) 5 x in
    behind_short (plan.home f) 5 10 x (offset_bounds_code r offset)
    (either_short (nat_eq offset 16) (Bltu r 4 (pos 12) ∷ fail_code true 2) (Addi 6 r (lower (minus offset 16)) ∷ (Bltu 6 4 (pos 12) ∷ fail_code true 2)) 10 (omega arith) (omega arith))
check_short plan f (Zero x) = let l = fail_short plan.by_a 1 in let a = behind_short (plan.home f) 5 5 x (Bne (source (plan.home f) 5 x) 0 (over plan.by_a) ∷ fail_code plan.by_a 1) (omega arith) in omega arith
check_short plan f (Room g) =
    let n : ℕ = plan.memory - (plan.frame f + plan.frame g) in
    let l1 = room_short n in let l2 = number_short 6 (counted_depth plan f plan.limit) in
    let b1 = length-append (number_code 6 (counted_depth plan f plan.limit)) (Bltu 10 6 (pos 12) ∷ fail_code true 4) in
    let room = either_short (nat_eq (plan.frame f + plan.frame g) 0) [] (room_code n) 5 (omega arith) (omega arith) in
    let frames : List Inst = frames_room_code plan.memory (plan.frame f + plan.frame g) in
    let b2 = length-append frames (number_code 6 (counted_depth plan f plan.limit) ++ Bltu 10 6 (pos 12) ∷ fail_code true 4) in
    either_short (nat_lt plan.memory (plan.frame f + plan.frame g)) (fail_code true 4) (frames ++ (number_code 6 (counted_depth plan f plan.limit) ++ Bltu 10 6 (pos 12) ∷ fail_code true 4)) 13 (omega arith) (omega arith)
check_short plan f Frame = let l = room_short (plan.memory - plan.frame f) in either_short (nat_lt plan.memory (plan.frame f)) (fail_code true 4) (room_code (plan.memory - plan.frame f)) 13 (omega arith) (omega arith)
check_short plan f Abort = omega arith

hear_short : (b : Bool) (only : Option Failure) → length (hear_code b only) ≤ 4
hear_short true only = omega arith
hear_short false None = omega arith
hear_short false (Some failure) = omega arith

stop_short : (b : Bool) (home : ℕ → Home) (x : Option Operand) → length (stop_code b home x) ≤ 6
stop_short true home x = omega arith
stop_short false home None = moved_short home 10 2 (Number 0) (Addi 17 0 (pos 0) ∷ (Ecall ∷ [])) (omega arith)
stop_short false home (Some x) = moved_short home 10 2 x (Addi 17 0 (pos 0) ∷ (Ecall ∷ [])) (omega arith)

-- the blocks of actions that go on
pub simple_short : (plan : Plan) (variables : ℕ → ℕ) (f : ℕ) (a : Action) (live : VariableSet) (leaves skips : List Inst) → IsSimple a → length (action_code plan variables f a live leaves skips) ≤ 13
simple_short plan variables f (Compute v x) live leaves skips is =
    let l = value_short (plan.home f) (register_or 5 (plan.home f v)) x in let k = keep_short (plan.home f v) in
    let both = length-append (value_code (plan.home f) (register_or 5 (plan.home f v)) x) (keep (plan.home f v)) in omega arith
simple_short plan variables f (Issue kind x) live leaves skips is = let l = behind_short (plan.home f) 5 1 x (issue_code kind 30 (source (plan.home f) 5 x) (pos 0) ∷ []) (omega arith) in omega arith
simple_short plan variables f (Own v kind x) live leaves skips is = let k = keep_short (plan.home f v) in let l = behind_short (plan.home f) 5 5 x (issue_code kind 31 (source (plan.home f) 5 x) (pos 0) ∷ take_code 31 (plan.home f v)) (omega arith) in omega arith
simple_short plan variables f (Receive v) live leaves skips is = let k = keep_short (plan.home f v) in omega arith
simple_short plan variables f (Address width x) live leaves skips is = let l = behind_short (plan.home f) 5 1 x (address_code width (source (plan.home f) 5 x) (pos 0) ∷ []) (omega arith) in omega arith
simple_short plan variables f (Datum x) live leaves skips is = let l = move_short (plan.home f) 30 x in omega arith
simple_short plan variables f (Offer v) live leaves skips is = let l = move_short (plan.home f) 28 (Variable v) in omega arith
simple_short plan variables f (Accept v) live leaves skips is = let k = keep_short (plan.home f v) in omega arith
simple_short plan variables f (Emit spelling x) live leaves skips is = let l = moved_short (plan.home f) 10 2 x (Addi 17 0 (pos (call_number spelling)) ∷ (Ecall ∷ [])) (omega arith) in omega arith
simple_short plan variables f (Probe check) live leaves skips is = check_short plan f check
simple_short plan variables f (Tell x) live leaves skips is = let l = move_short (plan.home f) 29 x in omega arith
simple_short plan variables f (Hear only) live leaves skips is = let l = hear_short plan.by_a only in omega arith
simple_short plan variables f (Stop x) live leaves skips is = let l = stop_short plan.by_a (plan.home f) x in omega arith
simple_short plan variables f Break live leaves skips is = elim is [ ]
simple_short plan variables f Continue live leaves skips is = elim is [ ]
simple_short plan variables f (Call v g xs) live leaves skips is = elim is [ ]
simple_short plan variables f (Return x) live leaves skips is = elim is [ ]

take_code_short : (queue : ℕ) (place : Home) → length (take_code queue place) ≤ 4
take_code_short queue place = let k = keep_short place in omega arith

-- an access that adds the number of a sum, and what is behind it
reach_short : (home : ℕ → Home) (y : Value) (access : ℕ → ℤ → Inst) (rest : List Inst) → length rest ≤ 4 → length (reach_code home y access rest) ≤ 8
reach_short home (Binary operator x (Number n)) access rest h = let l = behind_short home 5 5 x (access (source home 5 x) (lower n) ∷ rest) (omega arith) in omega arith
reach_short home _ access rest h = omega arith

-- the blocks of pairs that compute a value late
pub late_short : (home : ℕ → Home) (y : Value) (a : Action) → length (late_code home a y) ≤ 13
late_short home y (Compute d z) =
    let l = value_short home (register_or 5 (home d)) y in let k = keep_short (home d) in
    let both = length-append (value_code home (register_or 5 (home d)) y) (keep (home d)) in omega arith
late_short home y (Datum z) = let l = value_short home 30 y in omega arith
late_short home y (Issue kind z) = let l = reach_short home y (issue_code kind 30) [] (omega arith) in omega arith
late_short home y (Own v kind z) = let l = reach_short home y (issue_code kind 31) (take_code 31 (home v)) (take_code_short 31 (home v)) in omega arith
late_short home y (Address width z) = let l = reach_short home y (address_code width) [] (omega arith) in omega arith
late_short home y _ = omega arith

-- and that of a pair which takes a word
pub early_short : (home : ℕ → Home) (q v d : ℕ) (y : Value) → length (early_code home q v d y) ≤ 13
early_short home q v d y =
    let value = value_code (with_home v (Register q) home) (register_or 5 (home d)) y in
    let l = value_short (with_home v (Register q) home) (register_or 5 (home d)) y in let k = keep_short (home d) in
    let both = length-append value (keep (home d)) in omega arith

-- ---- jumps and branches

pub over_short : (short : Bool) (n : ℕ) → length (jump_over short n) ≤ 2
over_short true n = omega arith
over_short false n = omega arith

pub back_short : (short : Bool) (n : ℕ) → length (jump_back short n) ≤ 2
back_short true n = omega arith
back_short false n = omega arith

pub past_short : (short none : Bool) (n : ℕ) → length (past_code short none n) ≤ 2
past_short short true n = omega arith
past_short short false n = over_short short n

by_short : (t short : Bool) (relation : Comparison) (x y n : ℕ) → length (goes_by t short relation x y n) ≤ 3
by_short true short relation x y n = omega arith
by_short false short relation x y n = let l = over_short short n in omega arith

goes_short : (short : Bool) (relation : Comparison) (x y n : ℕ) → length (goes_code short relation x y n) ≤ 3
goes_short short relation x y n = by_short (nat_lt n 1000) short relation x y n

tell_number_short : (r : Comparison) (x n : ℕ) → length (tell_number_code r x n) ≤ 2
tell_number_short Equal x n = compare_number_short Equal 29 x n
tell_number_short NotEqual x n = compare_number_short NotEqual 29 x n
tell_number_short LessSigned x n = omega arith
tell_number_short AtLeastSigned x n = omega arith
tell_number_short LessUnsigned x n = omega arith
tell_number_short AtLeastUnsigned x n = omega arith

abbrev AreShort : (Comparison → ℕ → ℕ → List Inst) → Type 0
AreShort go = (relation : Comparison) (x y : ℕ) → length (go relation x y) ≤ 3

told_short : (o : Option ℕ) (home : ℕ → Home) (go : Comparison → ℕ → ℕ → List Inst) (t : Test) (way : Bool) → AreShort go → length (told_by o home go t way) ≤ 12
told_short None home go t way few =
    let last : List Inst = go (one_way way t.comparison) (source home 5 t.left) (source home 6 t.right) in
    let k = few (one_way way t.comparison) (source home 5 t.left) (source home 6 t.right) in
    let l = test_short home 29 t in let both = length-append (test_code home 29 t) last in omega arith
told_short (Some j) home go t way few =
    let last : List Inst = go (one_way way (against_zero t.comparison)) 7 0 in
    let k = few (one_way way (against_zero t.comparison)) 7 0 in
    let tell : List Inst = tell_number_code t.comparison (source home 5 t.left) j in
    let l = tell_number_short t.comparison (source home 5 t.left) j in let both = length-append tell last in
    let all = behind_short home 5 5 t.left (tell ++ last) (omega arith) in omega arith

by_branch_short : (home : ℕ → Home) (go : Comparison → ℕ → ℕ → List Inst) (b : Branch) (way : Bool) → AreShort go → length (branch_by home go b way) ≤ 12
by_branch_short home go (Silent t) way few =
    let last : List Inst = go (one_way way t.comparison) (source home 5 t.left) (source home 6 t.right) in
    let l = behind_short home 5 6 t.left (fetch home 6 t.right ++ last) (behind_short home 6 3 t.right last (few (one_way way t.comparison) (source home 5 t.left) (source home 6 t.right))) in omega arith
by_branch_short home go (Tells t) way few = told_short (immediate_of home t.comparison t.right) home go t way few
by_branch_short home go Hears way few = let l = few (one_way way NotEqual) 29 0 in omega arith

pub branch_short : (home : ℕ → Home) (short : Bool) (b : Branch) (way : Bool) (n : ℕ) → length (branch_code home short b way n) ≤ 12
branch_short home short b way n = by_branch_short home (ahead_by short n) b way (λ relation x y. goes_short short relation x y n)

pub back_branch_short : (home : ℕ → Home) (b : Branch) (way : Bool) (n : ℕ) → length (back_branch home b way n) ≤ 12
back_branch_short home b way n = by_branch_short home (goes_back (n + before_branch home b way)) b way (λ relation x y. omega arith)

pub before_short : (home : ℕ → Home) (b : Branch) (way : Bool) → before_branch home b way ≤ 12
before_short home b way = by_branch_short home (λ relation x y. []) b way (λ relation x y. omega arith)

-- the branch itself is one word behind the others
pub back_branch_long : (home : ℕ → Home) (b : Branch) (way : Bool) (n : ℕ) → length (back_branch home b way n) ≡ before_branch home b way + 1
back_branch_long home b way n = long b (n + before_branch home b way) where
  told_long : (o : Option ℕ) (t : Test) (j : ℕ) → length (told_by o home (goes_back j) t way) ≡ length (told_by o home (λ relation x y. []) t way) + 1
  told_long None t j =
      let l1 = length-append (test_code home 29 t) (goes_back j (one_way way t.comparison) (source home 5 t.left) (source home 6 t.right)) in
      let l2 = length-append (test_code home 29 t) [] in omega arith
  told_long (Some i) t j =
      let tell : List Inst = tell_number_code t.comparison (source home 5 t.left) i in
      let l1 = length-append tell (goes_back j (one_way way (against_zero t.comparison)) 7 0) in let l2 = length-append tell [] in
      let l3 = length-append (fetch home 5 t.left) (tell ++ goes_back j (one_way way (against_zero t.comparison)) 7 0) in let l4 = length-append (fetch home 5 t.left) (tell ++ []) in omega arith

  long : (b : Branch) (j : ℕ) → length (branch_by home (goes_back j) b way) ≡ length (branch_by home (λ relation x y. []) b way) + 1
  long (Silent t) j =
      let last : List Inst = goes_back j (one_way way t.comparison) (source home 5 t.left) (source home 6 t.right) in
      let l1 = length-append (fetch home 6 t.right) last in let l2 = length-append (fetch home 6 t.right) [] in
      let l3 = length-append (fetch home 5 t.left) (fetch home 6 t.right ++ last) in let l4 = length-append (fetch home 5 t.left) (fetch home 6 t.right ++ []) in omega arith
  long (Tells t) j = told_long (immediate_of home t.comparison t.right) t j
  long Hears j = omega arith

-- ---- calls

-- the words in which registers are kept are near
abbrev IsNear : ℕ → Type 0
IsNear r = nat_lt (kept_at r) 512 ≡ true

save_short : (f : ℕ → Bool) (rs : List ℕ) → AllByRecursion IsNear rs → length (save_code (filtered f rs)) ≤ length rs
save_short f [] h = omega arith
save_short f (r ∷ rs) h = by (f r) (save_short f rs h.1)
  where
    by : (b : Bool) → length (save_code (filtered f rs)) ≤ length rs → length (save_code (if b then r ∷ filtered f rs else filtered f rs)) ≤ length (r ∷ rs)
    by true l = rw (h.0) (omega arith)
    by false l = omega arith

restore_short : (f : ℕ → Bool) (rs : List ℕ) → AllByRecursion IsNear rs → length (restore_code (filtered f rs)) ≤ length rs
restore_short f [] h = omega arith
restore_short f (r ∷ rs) h = by (f r) (restore_short f rs h.1)
  where
    by : (b : Bool) → length (restore_code (filtered f rs)) ≤ length rs → length (restore_code (if b then r ∷ filtered f rs else filtered f rs)) ≤ length (r ∷ rs)
    by true l = rw (h.0) (omega arith)
    by false l = omega arith

all_near : AllByRecursion IsNear home_registers
all_near = (refl, (refl, (refl, (refl, (refl, (refl, (refl, (refl, (refl, (refl, (refl, (refl, (refl, (refl, (refl, (refl, (refl, (refl, tt))))))))))))))))))

saved_short : (home : ℕ → Home) (n : ℕ) (live : VariableSet) → length (save_code (registers_in home n live)) ≤ 18
unfolding registers_in
saved_short home n live = save_short (λ r. some_below n (λ v. live v && is_register r (home v))) home_registers all_near

restored_short : (home : ℕ → Home) (n : ℕ) (live : VariableSet) → length (restore_code (registers_in home n live)) ≤ 18
unfolding registers_in
restored_short home n live = restore_short (λ r. some_below n (λ v. live v && is_register r (home v))) home_registers all_near

copy_short : (t r : ℕ) → length (copy_code t r) ≤ 1
copy_short t r = either_short (nat_eq t r) _ _ 1 (omega arith) (omega arith)

-- what is done of an argument, in both parts
argument_short : (plan : Plan) (f g : ℕ) (xs : List Argument) (x : Argument) → length (argument_code plan f g xs x) + length (parameter_code plan f g xs x) ≤ 6
argument_short plan f g xs x = by (plan.home g x.parameter)
  where
    taken : (q t : ℕ) (b : Bool) → length (if b then store_code q (kept_at q) else []) + length (if b then load_code t (kept_at q) else fetch (plan.home f) t x.operand ++ copy_code t (source (plan.home f) t x.operand)) ≤ 6
    taken q t true = let a = store_short q (kept_at q) in let k = load_short t (kept_at q) in omega arith
    taken q t false = let a = behind_short (plan.home f) t 1 x.operand _ (copy_short t (source (plan.home f) t x.operand)) in omega arith

    by : (home : Home) → length (argument_to plan f g xs home x.operand) + length (parameter_to plan f g xs home x.operand) ≤ 6
    by (Register t) = taken (source (plan.home f) 5 x.operand) t (is_overwritten plan f g xs x.operand)
    by (Slot i) =
        let k = store_short (source (plan.home f) 5 x.operand) (plan.words f + slot_at i) in
        let a = behind_short (plan.home f) 5 3 x.operand (store_code (source (plan.home f) 5 x.operand) (plan.words f + slot_at i)) k in omega arith

arguments_short : (plan : Plan) (f g : ℕ) (xs : List Argument) → length (arguments_code plan f g xs) + length (parameters_code plan f g xs) ≤ 6 * length xs
arguments_short plan f g [] = omega arith
arguments_short plan f g (x ∷ xs) =
    let l = arguments_short plan f g xs in let one = argument_short plan f g xs x in
    let a = length-append (arguments_code plan f g xs) (argument_code plan f g xs x) in
    let b = length-append (parameters_code plan f g xs) (parameter_code plan f g xs x) in
    omega arith

more_short : (r n : ℕ) → length (more_code r n) ≤ 3
more_short r n =
    let l = number_short 5 n in let both = length-append (number_code 5 n) (Add r r 5 ∷ []) in
    either_short (nat_eq n 0) _ _ 3 (omega arith) (either_short (is_immediate n) _ (number_code 5 n ++ Add r r 5 ∷ []) 3 (omega arith) (omega arith))

less_short : (r n : ℕ) → length (less_code r n) ≤ 3
less_short r n =
    let l = number_short 5 n in let both = length-append (number_code 5 n) (Sub r r 5 ∷ []) in
    either_short (nat_eq n 0) _ _ 3 (omega arith) (either_short (is_immediate (minus 0 n)) _ (number_code 5 n ++ Sub r r 5 ∷ []) 3 (omega arith) (omega arith))

deeper_short : (plan : Plan) (f g : ℕ) → length (deeper_code plan f g) ≤ 6
deeper_short plan f g =
    let own : List Inst = if plan.frameless g then [] else more_code 2 (4 * plan.words f) in
    let l1 = more_short 3 (plan.frame f % 2 ^ 32) in
    let l2 = either_short (plan.frameless g) [] (more_code 2 (4 * plan.words f)) 3 (omega arith) (more_short 2 (4 * plan.words f)) in
    let both = length-append (more_code 3 (plan.frame f % 2 ^ 32)) own in
    omega arith

returning_short : (plan : Plan) (f g : ℕ) → length (back_code plan f g) ≤ 6
returning_short plan f g =
    let own : List Inst = if plan.frameless g then [] else less_code 2 (4 * plan.words f) in
    let l1 = less_short 3 (plan.frame f % 2 ^ 32) in
    let l2 = either_short (plan.frameless g) [] (less_code 2 (4 * plan.words f)) 3 (omega arith) (less_short 2 (4 * plan.words f)) in
    let both = length-append (less_code 3 (plan.frame f % 2 ^ 32)) own in
    omega arith

-- the address to return to takes an instruction where it isn't a leaf's, and on A the depth another
prologue_short : (by_a leaf : Bool) → length (prologue_code by_a leaf) ≤ 2
prologue_short by_a true = omega arith
prologue_short true false = omega arith
prologue_short false false = omega arith

return_short : (by_a leaf : Bool) → length (epilogue_code by_a leaf ++ Jalr 0 1 (pos 0) ∷ []) ≤ 3
return_short by_a true = omega arith
return_short true false = omega arith
return_short false false = omega arith

pub entry_short : (plan : Plan) (g : ℕ) → length (entry_code plan g) ≤ 2
entry_short plan g = prologue_short plan.by_a (plan.leaf g)

pub prepared_short : (plan : Plan) (variables : ℕ → ℕ) (f g : ℕ) (xs : List Argument) (live : VariableSet) → length (arguments_code plan f g xs ++ (save_code (registers_in (plan.home f) (variables f) live) ++ (parameters_code plan f g xs ++ deeper_code plan f g))) ≤ 24 + 6 * length xs
prepared_short plan variables f g xs live =
    let rs : List ℕ = registers_in (plan.home f) (variables f) live in
    let a = arguments_short plan f g xs in let c = saved_short (plan.home f) (variables f) live in
    let d = deeper_short plan f g in
    let l1 = length-append (arguments_code plan f g xs) (save_code rs ++ (parameters_code plan f g xs ++ deeper_code plan f g)) in
    let l2 = length-append (save_code rs) (parameters_code plan f g xs ++ deeper_code plan f g) in
    let l3 = length-append (parameters_code plan f g xs) (deeper_code plan f g) in
    omega arith

pub resumed_short : (plan : Plan) (variables : ℕ → ℕ) (f g : ℕ) (v : Option ℕ) (live : VariableSet) → length (back_code plan f g ++ (restore_code (registers_in (plan.home f) (variables f) live) ++ result_code (plan.home f) v)) ≤ 28
resumed_short plan variables f g v live =
    let rs : List ℕ = registers_in (plan.home f) (variables f) live in
    let c = restored_short (plan.home f) (variables f) live in
    let d = returning_short plan f g in
    let e = result_short (plan.home f) v in
    let l1 = length-append (restore_code rs) (result_code (plan.home f) v) in let l2 = length-append (back_code plan f g) (restore_code rs ++ result_code (plan.home f) v) in
    omega arith
  where
    result_short : (home : ℕ → Home) (v : Option ℕ) → length (result_code home v) ≤ 4
    result_short home None = omega arith
    result_short home (Some v) = let k = keep_short (home v) in omega arith

pub leave_short : (by_a leaf : Bool) (home : ℕ → Home) (y : Option Operand) → length (leave_code by_a leaf home y) ≤ 7
leave_short by_a leaf home None = let l = return_short by_a leaf in omega arith
leave_short by_a leaf home (Some x) = moved_short home 6 3 x (epilogue_code by_a leaf ++ Jalr 0 1 (pos 0) ∷ []) (return_short by_a leaf)

pub enter_long : (near : Bool) (word : ℕ) → length (enter_code near word) ≡ enter_words near
enter_long true word = refl
enter_long false word = refl

pub enter_few : (near : Bool) → enter_words near ≤ 2
enter_few true = omega arith
enter_few false = omega arith

pub finish_some : (b : Bool) → 1 ≤ length (finish_code b)
finish_some true = omega arith
finish_some false = omega arith

-- numbers that come to stay
pub residents_short : (r : ℕ) (numbers : List ℕ) → length (residents_code r numbers) ≤ 2 * length numbers
residents_short r [] = omega arith
residents_short r (n ∷ ns) = let l = number_short r n in let rest = residents_short (r - 1) ns in let both = length-append (number_code r n) (residents_code (r - 1) ns) in omega arith

-- what a side begins with, and what main returns to
pub opening_short : (plan : Plan) (main frames : ℕ) → length (start_code plan main frames) + length (finish_code plan.by_a) ≤ 7 + length (residents_code 27 plan.residents)
opening_short plan main frames =
    let l1 = number_short 3 frames in let l2 = both plan.by_a in
    let e1 = enter_long plan.near (plan.entry main) in let e2 = enter_few plan.near in
    let addresses : List Inst = if plan.by_a then number_code 4 (plan.memory - 16) else [] in
    let b0 = length-append (residents_code 27 plan.residents) addresses in
    let b1 = length-append (number_code 3 frames) (residents_code 27 plan.residents ++ addresses) in
    let b2 = length-append (number_code 3 frames ++ (residents_code 27 plan.residents ++ addresses)) (enter_code plan.near (plan.entry main)) in
    omega arith
  where
    both : (b : Bool) → length (if b then number_code 4 (plan.memory - 16) else []) + length (finish_code b) ≤ 3
    both true = let l = number_short 4 (plan.memory - 16) in omega arith
    both false = omega arith
