-- The block of each action. Registers: x1 the address to return to, x2 where the private frame begins, or, in a frameless function, that
-- of its caller, x3 where the frame in common memory does, x5, x6 and x7 for the work of one block, x6 also for a call's result. On A
-- x4 is how many addresses common memory has, and x10 the depth as it is counted. On E x10 and x17 are for the environment call. A
-- number that stays in a register is read there.
use Rattle.std.specs.Prelude.{ℕ, ◌+◌, ◌-◌, ◌*◌, ◌/◌, ◌%◌, ◌^◌, ℤ, pos, negsuc, Bool, true, false, not, ◌&&◌, ◌||◌, nat_lt, nat_eq, if◌then◌else◌, List, [], ◌∷◌, ◌++◌, Option, Some, None, is_some, zero, suc}
use Rattle.dae_base.specs.Words.{signed, size, minus}
use Rattle.dae_base.specs.declared.Width.{Width}
use Rattle.dae_base.specs.declared.Width.TheVariants.{B1, B2, B4}
use Rattle.dae_base.specs.declared.LoadKind.{LoadKind}
use Rattle.dae_base.specs.declared.LoadKind.TheVariants.{I8, U8, I16, U16, I32}
use Rattle.dae_encode.specs.declared.Inst.{Inst}
use Rattle.dae_encode.specs.declared.Inst.TheVariants.{Lui, Auipc, Jalr, Beq, Bne, Bltu, Bgeu, Lb, Lh, Lw, Lbu, Lhu, Sb, Sh, Sw, Addi, Slti, Sltiu, Xori, Ori, Andi, Slli, Srli, Srai, Add, Sub, Sll, Slt, Sltu, Xor, Srl, Sra, Or, And, Mul, Div, Divu, Rem, Remu, Ecall, Jal, Blt, Bge}
use Rattle.dae_ir.specs.declared.form.Operand.{Operand}
use Rattle.dae_ir.specs.declared.form.Operand.TheVariants.{Variable, Number}
use Rattle.dae_meaning.specs.declared.Operator.{Operator}
use Rattle.dae_meaning.specs.declared.Operator.TheVariants.{Add as Plus, Subtract, Multiply, DivideSigned, DivideUnsigned, RemainderSigned, RemainderUnsigned, And as Both, Or as Either, Xor as Differ, ShiftLeft, ShiftRightSigned, ShiftRightUnsigned}
use Rattle.dae_meaning.specs.declared.Comparison.{Comparison}
use Rattle.dae_meaning.specs.declared.Comparison.TheVariants.{Equal, NotEqual, LessSigned, AtLeastSigned, LessUnsigned, AtLeastUnsigned}
use Rattle.dae_ir.specs.declared.form.Value.{Value}
use Rattle.dae_ir.specs.declared.form.Value.TheVariants.{Same, Extended, Binary, Holds, FrameAddress}
use Rattle.dae_ir.specs.declared.form.Test.{Test}
use Rattle.dae_meaning.specs.declared.Spelling.{Spelling}
use Rattle.dae_meaning.specs.declared.Spelling.TheVariants.{Byte, Signed, Unsigned, Hexadecimal}
use Rattle.dae_ir.specs.declared.form.Check.{Check}
use Rattle.dae_ir.specs.declared.form.Check.TheVariants.{Place, InBounds, Zero, Room, Frame, Abort}
use Rattle.dae_ir.specs.declared.stream.Argument.{Argument}
use Rattle.dae_ir.specs.declared.stream.Failure.{Failure}
use Rattle.dae_ir.specs.Deeds.{failure_code}
use Rattle.dae_select_walks.specs.declared.Home.{Home}
use Rattle.dae_select_walks.specs.declared.Home.TheVariants.{Register, Slot}
use Rattle.dae_select_walks.specs.Homes.{kept_at, slot_at, number_key, resident_register}
use Rattle.dae_select_walks.specs.Agrees.{Plan, counted_depth}

-- ---- a word as the immediates of LUI and of the instruction after it: the second is signed, of twelve bits

unfoldable pub upper : ℕ → ℤ
upper w = signed ((w + 2 ^ 11) / 2 ^ 12 * 2 ^ 12 % 2 ^ 32)

unfoldable pub lower : ℕ → ℤ
lower w = if nat_lt (w % 2 ^ 12) (2 ^ 11) then pos (w % 2 ^ 12) else negsuc (2 ^ 12 - 1 - w % 2 ^ 12)

-- a number that the immediate of an instruction can be: as a signed one it has twelve bits
unfoldable pub is_immediate : ℕ → Bool
is_immediate n = nat_lt ((n + 2 ^ 11) % 2 ^ 32) (2 ^ 12)

-- ---- numbers and words of the private frame

abbrev pub number_code : ℕ → ℕ → List Inst
number_code r n =
    if is_immediate n then Addi r 0 (lower n) ∷ []
    else (if nat_eq (n % 2 ^ 12) 0 then Lui r (upper n) ∷ [] else Lui r (upper n) ∷ (Addi r r (lower n) ∷ []))

-- the word i of the frame into a register
abbrev pub load_code : ℕ → ℕ → List Inst
load_code r i = if nat_lt i 512 then Lw r 2 (pos (4 * i)) ∷ [] else Lui r (upper (4 * i)) ∷ (Add r r 2 ∷ (Lw r r (lower (4 * i)) ∷ []))

-- a register into the word i of the frame, by x7 where it is far
abbrev pub store_code : ℕ → ℕ → List Inst
store_code r i = if nat_lt i 512 then Sw 2 r (pos (4 * i)) ∷ [] else Lui 7 (upper (4 * i)) ∷ (Add 7 7 2 ∷ (Sw 7 r (lower (4 * i)) ∷ []))

-- these numbers come to stay, the first one in this register, the next one in the one below
abbrev pub residents_code : ℕ → List ℕ → List Inst
residents_code r [] = []
residents_code r (n ∷ ns) = number_code r n ++ residents_code (r - 1) ns

-- ---- operands

-- a register, or else this one
abbrev pub number_or : ℕ → Option ℕ → ℕ
number_or r None = r
number_or r (Some h) = h

-- the register that an operand is in behind its fetching: its home, or the scratch register r. The number 0 is in x0
abbrev pub register_or : ℕ → Home → ℕ
register_or r (Register h) = h
register_or r (Slot i) = r

abbrev pub source : (ℕ → Home) → ℕ → Operand → ℕ
source home r (Variable v) = register_or r (home v)
source home r (Number n) = if nat_eq n 0 then 0 else number_or r (resident_register (home (number_key n)))

abbrev pub fetch_home : ℕ → Home → List Inst
fetch_home r (Register h) = []
fetch_home r (Slot i) = load_code r (slot_at i)

-- a number that stays in no register
abbrev pub fetch_number : ℕ → ℕ → Option ℕ → List Inst
fetch_number r n None = number_code r n
fetch_number r n (Some h) = []

abbrev pub fetch : (ℕ → Home) → ℕ → Operand → List Inst
fetch home r (Variable v) = fetch_home r (home v)
fetch home r (Number n) = if nat_eq n 0 then [] else fetch_number r n (resident_register (home (number_key n)))

-- an operand goes into a register t. Only the last instruction writes t, which may stand for a queue
abbrev pub move_code : (ℕ → Home) → ℕ → Operand → List Inst
move_code home t (Variable v) = fetch_home 5 (home v) ++ Addi t (register_or 5 (home v)) (pos 0) ∷ []
move_code home t (Number n) = if is_immediate n then Addi t 0 (lower n) ∷ [] else Lui 5 (upper n) ∷ (Addi t 5 (lower n) ∷ [])

-- a result, computed into its home or into x5, goes home
abbrev pub keep : Home → List Inst
keep (Register h) = []
keep (Slot i) = store_code 5 (slot_at i)

-- ---- values, into a register t

abbrev pub operation_code : Operator → ℕ → ℕ → ℕ → Inst
operation_code Plus t x y = Add t x y
operation_code Subtract t x y = Sub t x y
operation_code Multiply t x y = Mul t x y
operation_code DivideSigned t x y = Div t x y
operation_code DivideUnsigned t x y = Divu t x y
operation_code RemainderSigned t x y = Rem t x y
operation_code RemainderUnsigned t x y = Remu t x y
operation_code Both t x y = And t x y
operation_code Either t x y = Or t x y
operation_code Differ t x y = Xor t x y
operation_code ShiftLeft t x y = Sll t x y
operation_code ShiftRightSigned t x y = Sra t x y
operation_code ShiftRightUnsigned t x y = Srl t x y

-- the exponent of a number that is a power of 2, where it is below this
abbrev pub exponent_below : ℕ → ℕ → Option ℕ
exponent_below zero n = None
exponent_below (suc k) n = if nat_eq n (2 ^ k) then Some k else exponent_below k n

unfoldable pub exponent : ℕ → Option ℕ
exponent n = exponent_below 32 n

-- a product with the power of 2 that has this exponent
abbrev pub power_code : Option ℕ → ℕ → ℕ → Option Inst
power_code None t x = None
power_code (Some k) t x = Some (Slli t x (pos k))

-- an operation on a register and a number in one instruction, where there is one: a difference is the sum with the negated number
abbrev pub immediate_code : Operator → ℕ → ℕ → ℕ → Option Inst
immediate_code Plus t x n = if is_immediate n then Some (Addi t x (lower n)) else None
immediate_code Subtract t x n = if is_immediate (minus 0 n) then Some (Addi t x (lower (minus 0 n))) else None
immediate_code Multiply t x n = power_code (exponent n) t x
immediate_code DivideSigned t x n = None
immediate_code DivideUnsigned t x n = None
immediate_code RemainderSigned t x n = None
immediate_code RemainderUnsigned t x n = None
immediate_code Both t x n = if is_immediate n then Some (Andi t x (lower n)) else None
immediate_code Either t x n = if is_immediate n then Some (Ori t x (lower n)) else None
immediate_code Differ t x n = if is_immediate n then Some (Xori t x (lower n)) else None
immediate_code ShiftLeft t x n = Some (Slli t x (pos (n % 32)))
immediate_code ShiftRightSigned t x n = Some (Srai t x (pos (n % 32)))
immediate_code ShiftRightUnsigned t x n = Some (Srli t x (pos (n % 32)))

-- the operands of these may be exchanged
abbrev pub commutes : Operator → Bool
commutes Plus = true
commutes Multiply = true
commutes Both = true
commutes Either = true
commutes Differ = true
commutes operator = false

-- an operation on a number and a register in one instruction, where there is one
abbrev pub exchanged_code : Operator → ℕ → ℕ → ℕ → Option Inst
exchanged_code operator t x n = if commutes operator then immediate_code operator t x n else None

-- an instruction behind what fetches its operand; where there is none, this
abbrev pub behind_or : List Inst → Option Inst → List Inst → List Inst
behind_or fetches (Some i) other = fetches ++ i ∷ []
behind_or fetches None other = other

-- an operation on two registers
abbrev pub combine_registers : (ℕ → Home) → ℕ → Operator → Operand → Operand → List Inst
combine_registers home t operator x y =
    fetch home 5 x ++ (fetch home 6 y ++ operation_code operator t (source home 5 x) (source home 6 y) ∷ [])

abbrev pub binary_code : (ℕ → Home) → ℕ → Operator → Operand → Operand → List Inst
binary_code home t operator x (Number n) =
    behind_or (fetch home 5 x) (immediate_code operator t (source home 5 x) n) (combine_registers home t operator x (Number n))
binary_code home t operator (Number n) (Variable v) =
    behind_or (fetch_home 5 (home v)) (exchanged_code operator t (register_or 5 (home v)) n) (combine_registers home t operator (Number n) (Variable v))
binary_code home t operator (Variable u) (Variable v) = combine_registers home t operator (Variable u) (Variable v)

-- what a load of this kind gets from a word, by x7
abbrev pub extend_code : LoadKind → ℕ → ℕ → List Inst
extend_code I8 t x = Slli 7 x (pos 24) ∷ (Srai t 7 (pos 24) ∷ [])
extend_code U8 t x = Andi t x (pos 255) ∷ []
extend_code I16 t x = Slli 7 x (pos 16) ∷ (Srai t 7 (pos 16) ∷ [])
extend_code U16 t x = Slli 7 x (pos 16) ∷ (Srli t 7 (pos 16) ∷ [])
extend_code I32 t x = Addi t x (pos 0) ∷ []

-- 1 where the comparison holds, and else 0, by x7. Only the last instruction writes t, which may stand for a queue
abbrev pub compare_code : Comparison → ℕ → ℕ → ℕ → List Inst
compare_code Equal t x y = Sub 7 x y ∷ (Sltiu t 7 (pos 1) ∷ [])
compare_code NotEqual t x y = Sub 7 x y ∷ (Sltu t 0 7 ∷ [])
compare_code LessSigned t x y = Slt t x y ∷ []
compare_code AtLeastSigned t x y = Slt 7 x y ∷ (Xori t 7 (pos 1) ∷ [])
compare_code LessUnsigned t x y = Sltu t x y ∷ []
compare_code AtLeastUnsigned t x y = Sltu 7 x y ∷ (Xori t 7 (pos 1) ∷ [])

-- whether the right operand of a comparison can be an immediate. For equality it is subtracted, and the difference compared with 0
abbrev pub takes_number : Comparison → ℕ → Bool
takes_number Equal n = is_immediate (minus 0 n)
takes_number NotEqual n = is_immediate (minus 0 n)
takes_number LessSigned n = is_immediate n
takes_number AtLeastSigned n = is_immediate n
takes_number LessUnsigned n = is_immediate n
takes_number AtLeastUnsigned n = is_immediate n

-- the comparison of a register with such a number, by x7
abbrev pub compare_number_code : Comparison → ℕ → ℕ → ℕ → List Inst
compare_number_code Equal t x n = if nat_eq n 0 then Sltiu t x (pos 1) ∷ [] else Addi 7 x (lower (minus 0 n)) ∷ (Sltiu t 7 (pos 1) ∷ [])
compare_number_code NotEqual t x n = if nat_eq n 0 then Sltu t 0 x ∷ [] else Addi 7 x (lower (minus 0 n)) ∷ (Sltu t 0 7 ∷ [])
compare_number_code LessSigned t x n = Slti t x (lower n) ∷ []
compare_number_code AtLeastSigned t x n = Slti 7 x (lower n) ∷ (Xori t 7 (pos 1) ∷ [])
compare_number_code LessUnsigned t x n = Sltiu t x (lower n) ∷ []
compare_number_code AtLeastUnsigned t x n = Sltiu 7 x (lower n) ∷ (Xori t 7 (pos 1) ∷ [])

-- the same where the number is not 0 and the flag is told, which goes by x7 in any case
abbrev pub tell_number_code : Comparison → ℕ → ℕ → List Inst
tell_number_code LessSigned x n = Slti 7 x (lower n) ∷ (Addi 29 7 (pos 0) ∷ [])
tell_number_code LessUnsigned x n = Sltiu 7 x (lower n) ∷ (Addi 29 7 (pos 0) ∷ [])
tell_number_code relation x n = compare_number_code relation 29 x n

-- how x7 then compares with 0, where the comparison holds
abbrev pub against_zero : Comparison → Comparison
against_zero Equal = Equal
against_zero NotEqual = NotEqual
against_zero LessSigned = NotEqual
against_zero AtLeastSigned = Equal
against_zero LessUnsigned = NotEqual
against_zero AtLeastUnsigned = Equal

-- whether it is one: a number that stays in a register is read there
abbrev pub as_immediate : (ℕ → Home) → Comparison → ℕ → Bool
as_immediate home comparison n = takes_number comparison n && not (is_some (resident_register (home (number_key n))))

-- a comparison of two registers
abbrev pub compare_registers : (ℕ → Home) → ℕ → Comparison → Operand → Operand → List Inst
compare_registers home t comparison x y =
    fetch home 5 x ++ (fetch home 6 y ++ compare_code comparison t (source home 5 x) (source home 6 y))

abbrev pub compare_operands : (ℕ → Home) → ℕ → Comparison → Operand → Operand → List Inst
compare_operands home t comparison x (Variable v) = compare_registers home t comparison x (Variable v)
compare_operands home t comparison x (Number n) =
    if as_immediate home comparison n then fetch home 5 x ++ compare_number_code comparison t (source home 5 x) n
    else compare_registers home t comparison x (Number n)

abbrev pub test_code : (ℕ → Home) → ℕ → Test → List Inst
test_code home t test = compare_operands home t test.comparison test.left test.right

-- a right operand that is in no register behind a test: an immediate other than 0
abbrev pub immediate_of : (ℕ → Home) → Comparison → Operand → Option ℕ
immediate_of home comparison (Variable v) = None
immediate_of home comparison (Number n) = if as_immediate home comparison n && not (nat_eq n 0) then Some n else None

-- the address that is so many bytes behind where the frame in common memory begins
abbrev pub frame_code : ℕ → ℕ → List Inst
frame_code t offset = if is_immediate offset then Addi t 3 (lower offset) ∷ [] else number_code 5 offset ++ Add t 3 5 ∷ []

abbrev pub value_code : (ℕ → Home) → ℕ → Value → List Inst
value_code home t (Same x) = move_code home t x
value_code home t (Extended kind x) = fetch home 5 x ++ extend_code kind t (source home 5 x)
value_code home t (Binary operator x y) = binary_code home t operator x y
value_code home t (Holds test) = test_code home t test
value_code home t (FrameAddress offset) = frame_code t offset

-- ---- checks

-- the code of a trap is pushed, and the processor halts
abbrev pub fail_code : Bool → ℕ → List Inst
fail_code true code = Addi 29 0 (pos code) ∷ (Ecall ∷ [])
fail_code false code = Addi 29 0 (pos code) ∷ (Addi 10 0 (pos code) ∷ (Addi 17 0 (pos 5) ∷ (Ecall ∷ [])))

-- so many bytes lead over it, and the branch itself
abbrev pub over : Bool → ℤ
over true = pos 12
over false = pos 20

-- the multiples of a width end in these bits
abbrev pub align_code : Width → ℕ → List Inst
align_code B1 x = []
align_code B2 x = Andi 6 x (pos 1) ∷ (Beq 6 0 (pos 12) ∷ fail_code true 3)
align_code B4 x = Andi 6 x (pos 3) ∷ (Beq 6 0 (pos 12) ∷ fail_code true 3)

-- x3 must be at most n
abbrev pub room_code : ℕ → List Inst
room_code n = number_code 6 n ++ Bgeu 6 3 (pos 12) ∷ fail_code true 4

-- an address is between the first byte of common memory and its end, for an access of this width. From the last byte of the
-- access 16 are taken away, so that one comparison does for both ends: an aligned address below 16 wraps
abbrev pub bounds_code : Width → ℕ → List Inst
bounds_code width x = Addi 6 x (negsuc (16 - size width)) ∷ (Bltu 6 4 (pos 12) ∷ fail_code true 2)

-- an address is good for an access of this width: aligned, and within these bounds
abbrev pub place_code : (ℕ → Home) → Width → Operand → List Inst
place_code home width x = fetch home 5 x ++ (align_code width (source home 5 x) ++ bounds_code width (source home 5 x))

-- the byte so many bytes behind an address is within them too. The 16 are taken away from the offset, and where nothing is left of
-- it the address itself is compared
abbrev pub offset_bounds_code : ℕ → ℕ → List Inst
offset_bounds_code x offset =
    if nat_eq offset 16 then Bltu x 4 (pos 12) ∷ fail_code true 2
    else Addi 6 x (lower (minus offset 16)) ∷ (Bltu 6 4 (pos 12) ∷ fail_code true 2)

abbrev pub in_bounds_code : (ℕ → Home) → Operand → ℕ → List Inst
in_bounds_code home x offset = fetch home 5 x ++ offset_bounds_code (source home 5 x) offset

abbrev pub zero_code : Bool → (ℕ → Home) → Operand → List Inst
zero_code by_a home x = fetch home 5 x ++ Bne (source home 5 x) 0 (over by_a) ∷ fail_code by_a 1

-- the depth that is counted in x10 must be below the limit
abbrev pub depth_code : ℕ → List Inst
depth_code limit = number_code 6 limit ++ Bltu 10 6 (pos 12) ∷ fail_code true 4

-- frames of so many bytes, which fit into the memory at all. x3 is never behind its end, so that none need no room
abbrev pub frames_room_code : ℕ → ℕ → List Inst
frames_room_code memory n = if nat_eq n 0 then [] else room_code (memory - n)

-- a call from a frame of so many bytes to one of so many
abbrev pub call_room_code : ℕ → ℕ → ℕ → ℕ → List Inst
call_room_code memory limit own next =
    if nat_lt memory (own + next) then fail_code true 4 else frames_room_code memory (own + next) ++ depth_code limit

abbrev pub frame_room_code : ℕ → ℕ → List Inst
frame_room_code memory own = if nat_lt memory own then fail_code true 4 else room_code (memory - own)

abbrev pub check_code : Plan → ℕ → Check → List Inst
check_code plan f (Place width x) = place_code (plan.home f) width x
check_code plan f (InBounds x offset) = in_bounds_code (plan.home f) x offset
check_code plan f (Zero x) = zero_code plan.by_a (plan.home f) x
check_code plan f (Room g) = call_room_code plan.memory (counted_depth plan f plan.limit) (plan.frame f) (plan.frame g)
check_code plan f Frame = frame_room_code plan.memory (plan.frame f)
check_code plan f Abort = fail_code true 5

-- ---- accesses, at the sum of a register and an offset

abbrev pub issue_code : LoadKind → ℕ → ℕ → ℤ → Inst
issue_code I8 queue base offset = Lb queue base offset
issue_code U8 queue base offset = Lbu queue base offset
issue_code I16 queue base offset = Lh queue base offset
issue_code U16 queue base offset = Lhu queue base offset
issue_code I32 queue base offset = Lw queue base offset

abbrev pub address_code : Width → ℕ → ℤ → Inst
address_code B1 base offset = Sb base 30 offset
address_code B2 base offset = Sh base 30 offset
address_code B4 base offset = Sw base 30 offset

-- an access that adds the number of a sum to the other operand, and then this
abbrev pub reach_code : (ℕ → Home) → Value → (ℕ → ℤ → Inst) → List Inst → List Inst
reach_code home (Binary operator x (Number n)) access rest = fetch home 5 x ++ access (source home 5 x) (lower n) ∷ rest
reach_code home value access rest = []

-- what is at the front of a queue goes home
abbrev pub take_code : ℕ → Home → List Inst
take_code queue home = Addi (register_or 5 home) queue (pos 0) ∷ keep home

-- A reserves a slot of its own loads, and takes it into a variable
abbrev pub own_code : (ℕ → Home) → ℕ → LoadKind → Operand → List Inst
own_code home v kind x = fetch home 5 x ++ issue_code kind 31 (source home 5 x) (pos 0) ∷ take_code 31 (home v)

abbrev pub call_number : Spelling → ℕ
call_number Byte = 1
call_number Signed = 2
call_number Unsigned = 3
call_number Hexadecimal = 4

abbrev pub system_code : (ℕ → Home) → ℕ → Operand → List Inst
system_code home n x = move_code home 10 x ++ Addi 17 0 (pos n) ∷ (Ecall ∷ [])

-- a message is taken. Where it needn't be kept a branch takes it: A halts without a code, and E knows the code where the checks can
-- fail in one way alone
abbrev pub hear_code : Bool → Option Failure → List Inst
hear_code true only = Beq 29 0 (pos 8) ∷ (Ecall ∷ [])
hear_code false None = Addi 10 29 (pos 0) ∷ (Beq 10 0 (pos 12) ∷ (Addi 17 0 (pos 5) ∷ (Ecall ∷ [])))
hear_code false (Some failure) = Beq 29 0 (pos 16) ∷ (Addi 10 0 (pos (failure_code failure)) ∷ (Addi 17 0 (pos 5) ∷ (Ecall ∷ [])))

abbrev pub stop_code : Bool → (ℕ → Home) → Option Operand → List Inst
stop_code true home x = Ecall ∷ []
stop_code false home None = system_code home 0 (Number 0)
stop_code false home (Some x) = system_code home 0 x

-- ---- transfers. From anywhere to anywhere: by so many bytes from the first of the two words, or to a word

abbrev pub jump_by : ℕ → List Inst
jump_by bytes = Auipc 5 (upper bytes) ∷ (Jalr 0 5 (lower bytes) ∷ [])

-- the offset of a jump as JAL has it: the low 21 bits as a signed number
unfoldable pub near_offset : ℕ → ℤ
near_offset n = if nat_lt (n % 2 ^ 21) (2 ^ 20) then pos (n % 2 ^ 21) else negsuc (2 ^ 21 - 1 - n % 2 ^ 21)

-- the words of a jump within a function: JAL where the function is short, and else AUIPC and JALR
abbrev pub jump_words : Bool → ℕ
jump_words true = 1
jump_words false = 2

-- over so many words behind the jump, and back by so many before it
abbrev pub jump_over : Bool → ℕ → List Inst
jump_over true n = Jal 0 (near_offset (4 * (n + 1))) ∷ []
jump_over false n = jump_by (4 * (n + 2))

abbrev pub jump_back : Bool → ℕ → List Inst
jump_back true n = Jal 0 (near_offset ((2 ^ 32 - 4 * n % 2 ^ 32) % 2 ^ 32)) ∷ []
jump_back false n = jump_by ((2 ^ 32 - 4 * n % 2 ^ 32) % 2 ^ 32)

-- the words of the way into a function: JALR alone where the immediate reaches the word at which it is entered, and else LUI and
-- JALR
abbrev pub enter_words : Bool → ℕ
enter_words true = 1
enter_words false = 2

abbrev pub enter_code : Bool → ℕ → List Inst
enter_code true word = Jalr 1 0 (lower (4 * word)) ∷ []
enter_code false word = Lui 5 (upper (4 * word)) ∷ (Jalr 1 5 (lower (4 * word)) ∷ [])

-- ---- branches

abbrev pub branch_inst : Comparison → ℕ → ℕ → ℤ → Inst
branch_inst Equal x y offset = Beq x y offset
branch_inst NotEqual x y offset = Bne x y offset
branch_inst LessSigned x y offset = Blt x y offset
branch_inst AtLeastSigned x y offset = Bge x y offset
branch_inst LessUnsigned x y offset = Bltu x y offset
branch_inst AtLeastUnsigned x y offset = Bgeu x y offset

-- what holds just where the comparison doesn't
abbrev pub opposite : Comparison → Comparison
opposite Equal = NotEqual
opposite NotEqual = Equal
opposite LessSigned = AtLeastSigned
opposite AtLeastSigned = LessSigned
opposite LessUnsigned = AtLeastUnsigned
opposite AtLeastUnsigned = LessUnsigned

-- what holds where the comparison does, or where it doesn't
abbrev pub one_way : Bool → Comparison → Comparison
one_way true relation = relation
one_way false relation = opposite relation

-- where the registers x and y compare so, on to what stands n words ahead of the end of this code: by a branch that reaches
-- it, or by a jump that the opposite branch leads over
abbrev pub goes_by : Bool → Bool → Comparison → ℕ → ℕ → ℕ → List Inst
goes_by true short relation x y n = branch_inst relation x y (pos (4 * (n + 1))) ∷ []
goes_by false short relation x y n = branch_inst (opposite relation) x y (pos (4 * (jump_words short + 1))) ∷ jump_over short n

-- a branch reaches a little more than a thousand words ahead
abbrev pub goes_code : Bool → Comparison → ℕ → ℕ → ℕ → List Inst
goes_code short relation x y n = goes_by (nat_lt n 1000) short relation x y n

-- so many bytes back
abbrev pub back_offset : ℕ → ℤ
back_offset zero = pos 0
back_offset (suc n) = negsuc (4 * n + 3)

-- where the registers x and y compare so, back to what stands n words before this branch
abbrev pub goes_back : ℕ → Comparison → ℕ → ℕ → List Inst
goes_back n relation x y = branch_inst relation x y (back_offset n) ∷ []

-- ---- calls

-- the registers in which variables of a set are
abbrev pub is_register : ℕ → Home → Bool
is_register r (Register h) = nat_eq r h
is_register r (Slot i) = false

-- one of these arguments is for a variable in this register
abbrev pub gives_register : (ℕ → Home) → List Argument → ℕ → Bool
gives_register home [] r = false
gives_register home (x ∷ xs) r = is_register r (home x.parameter) || gives_register home xs r

-- a call of the function g gives arguments to the homes of their parameters, the last one first. An operand in a register can't
-- be read there any more where one of these arguments, which are given before, has got the register
abbrev pub is_overwritten : Plan → ℕ → ℕ → List Argument → Operand → Bool
is_overwritten plan f g xs x = gives_register (plan.home g) xs (source (plan.home f) 5 x)

-- such an operand waits in the word in which its register is kept across a call
abbrev pub wait_code : Plan → ℕ → ℕ → List Argument → Operand → List Inst
wait_code plan f g xs x =
    if is_overwritten plan f g xs x then store_code (source (plan.home f) 5 x) (kept_at (source (plan.home f) 5 x)) else []

-- an operand goes into a slot in the frame of the function that is called
abbrev pub slot_code : Plan → ℕ → ℕ → Operand → List Inst
slot_code plan f i x = fetch (plan.home f) 5 x ++ store_code (source (plan.home f) 5 x) (plan.words f + slot_at i)

-- what is done of arguments before any register gets another word
abbrev pub argument_to : Plan → ℕ → ℕ → List Argument → Home → Operand → List Inst
argument_to plan f g xs (Register r) x = wait_code plan f g xs x
argument_to plan f g xs (Slot i) x = slot_code plan f i x

abbrev pub argument_code : Plan → ℕ → ℕ → List Argument → Argument → List Inst
argument_code plan f g xs x = argument_to plan f g xs (plan.home g x.parameter) x.operand

abbrev pub arguments_code : Plan → ℕ → ℕ → List Argument → List Inst
arguments_code plan f g [] = []
arguments_code plan f g (x ∷ xs) = arguments_code plan f g xs ++ argument_code plan f g xs x

-- a register gets the word of another
abbrev pub copy_code : ℕ → ℕ → List Inst
copy_code t r = if nat_eq t r then [] else Addi t r (pos 0) ∷ []

-- an operand goes into the register of its parameter
abbrev pub give_code : Plan → ℕ → ℕ → List Argument → ℕ → Operand → List Inst
give_code plan f g xs t x =
    if is_overwritten plan f g xs x then load_code t (kept_at (source (plan.home f) 5 x))
    else fetch (plan.home f) t x ++ copy_code t (source (plan.home f) t x)

-- what is done of arguments then
abbrev pub parameter_to : Plan → ℕ → ℕ → List Argument → Home → Operand → List Inst
parameter_to plan f g xs (Register t) x = give_code plan f g xs t x
parameter_to plan f g xs (Slot i) x = []

abbrev pub parameter_code : Plan → ℕ → ℕ → List Argument → Argument → List Inst
parameter_code plan f g xs x = parameter_to plan f g xs (plan.home g x.parameter) x.operand

abbrev pub parameters_code : Plan → ℕ → ℕ → List Argument → List Inst
parameters_code plan f g [] = []
parameters_code plan f g (x ∷ xs) = parameters_code plan f g xs ++ parameter_code plan f g xs x

abbrev pub save_code : List ℕ → List Inst
save_code [] = []
save_code (r ∷ rs) = store_code r (kept_at r) ++ save_code rs

abbrev pub restore_code : List ℕ → List Inst
restore_code [] = []
restore_code (r ∷ rs) = load_code r (kept_at r) ++ restore_code rs

-- a register has so much more, and so much less: by x5 where the number is no immediate
abbrev pub more_code : ℕ → ℕ → List Inst
more_code r n =
    if nat_eq n 0 then [] else (if is_immediate n then Addi r r (lower n) ∷ [] else number_code 5 n ++ Add r r 5 ∷ [])

abbrev pub less_code : ℕ → ℕ → List Inst
less_code r n =
    if nat_eq n 0 then [] else (if is_immediate (minus 0 n) then Addi r r (lower (minus 0 n)) ∷ [] else number_code 5 n ++ Sub r r 5 ∷ [])

-- the frames of the function g, which is called, follow the caller's. A frameless one has no private frame
abbrev pub deeper_code : Plan → ℕ → ℕ → List Inst
deeper_code plan f g = more_code 3 (plan.frame f % 2 ^ 32) ++ (if plan.frameless g then [] else more_code 2 (4 * plan.words f))

abbrev pub back_code : Plan → ℕ → ℕ → List Inst
back_code plan f g = less_code 3 (plan.frame f % 2 ^ 32) ++ (if plan.frameless g then [] else less_code 2 (4 * plan.words f))

abbrev pub result_code : (ℕ → Home) → Option ℕ → List Inst
result_code home None = []
result_code home (Some v) = Addi (register_or 5 (home v)) 6 (pos 0) ∷ keep (home v)

-- A counts so much more
abbrev pub count_code : Bool → ℤ → List Inst
count_code by_a more = if by_a then Addi 10 10 more ∷ [] else []

-- the address to return to goes into the first word of the frame, and A counts the function, but a leaf, whose address stays in
-- x1
abbrev pub prologue_code : Bool → Bool → List Inst
prologue_code by_a leaf = if leaf then [] else Sw 2 1 (pos 0) ∷ count_code by_a (pos 1)

-- and the address comes from there into x1
abbrev pub epilogue_code : Bool → Bool → List Inst
epilogue_code by_a leaf = if leaf then [] else Lw 1 2 (pos 0) ∷ count_code by_a (negsuc 0)

abbrev pub leave_code : Bool → Bool → (ℕ → Home) → Option Operand → List Inst
leave_code by_a leaf home None = epilogue_code by_a leaf ++ Jalr 0 1 (pos 0) ∷ []
leave_code by_a leaf home (Some x) = move_code home 6 x ++ (epilogue_code by_a leaf ++ Jalr 0 1 (pos 0) ∷ [])
