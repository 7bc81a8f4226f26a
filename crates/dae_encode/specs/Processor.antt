-- What a processor asks of the queues for its next instruction, and what it becomes.
use Rattle.std.specs.Prelude.{ℕ, ◌+◌, ◌/◌, ◌%◌, Bool, true, false, ◌&&◌, ◌||◌, nat_lt, nat_le, ◌==◌, if◌then◌else◌, List, [], length, Option, Some, None, slice_get, slice_index, slice_set}
use Rattle.dae_base.specs.declared.Side.{Side}
use Rattle.dae_base.specs.declared.Side.TheVariants.{A, E}
use Rattle.dae_base.specs.declared.Width.{Width}
use Rattle.dae_encode.specs.declared.QueueUse.{QueueUse}
use Rattle.dae_encode.specs.declared.QueueUse.TheVariants.{Nothing, Take, Push, Load, StoreAddress}
use Rattle.dae_encode.specs.declared.Fault.{Fault}
use Rattle.dae_encode.specs.declared.Fault.TheVariants.{BadPc, Illegal, Private, Shared, Call}
use Rattle.dae_encode.specs.declared.Halt.{Halt}
use Rattle.dae_encode.specs.declared.Halt.TheVariants.{Plain, Status, Trap}
use Rattle.dae_encode.specs.declared.Inst.{Inst}
use Rattle.dae_encode.specs.declared.Request.{Request}
use Rattle.dae_encode.specs.declared.Request.TheVariants.{Halted, Faulty, Asks}
use Rattle.dae_base.specs.Words.{plus, size, width_of, loaded, stored}
use Rattle.dae_base.specs.Texts.{byte_text, decimal_text, hex_text}
use Rattle.dae_base.specs.declared.Signedness.TheVariants as signedness
use Rattle.dae_encode.specs.declared.InstructionForm.{InstructionForm}
use Rattle.dae_encode.specs.declared.InstructionForm.TheVariants.{Computes, Loads, Stores, Calls}
use Rattle.dae_encode.specs.Instructions.{form, value, next}
use Rattle.dae_encode.specs.Spelling.{decode}
use Rattle.dae_encode.specs.Uses.{queue_use}

pub record Processor : Type 0 where
  pub registers : List ℕ
  pub counter : ℕ
  pub private : List ℕ
  pub halt : Option Halt

-- the processor after an instruction, with what it prints
abbrev pub After : Type 0
After = Processor × List ℕ

-- what a register holds: x0 is 0 (RISC-V unprivileged manual, "Programmers' Model for Base Integer ISA")
abbrev pub held : Processor → ℕ → ℕ
held p r = if r == 0 then 0 else slice_index p.registers r

-- what a source reads, where w is the word that the access gives: registers from 28 on stand for queues
abbrev pub operand : Processor → ℕ → ℕ → ℕ
operand p w r = if nat_lt r 28 then held p r else w

abbrev pub address : Processor → ℕ → ℕ → ℕ → ℕ
address p w base offset = plus (operand p w base) offset

-- the access goes to common memory
abbrev pub is_shared : QueueUse → Bool
is_shared (Load k kind) = true
is_shared (StoreAddress width) = true
is_shared Nothing = false
is_shared (Take k) = false
is_shared (Push k) = false

-- an address that is a multiple of its width, and whose bytes lie from low to just below high
abbrev pub is_within : ℕ → ℕ → Width → ℕ → Bool
is_within low high width addr = addr % size width == 0 && (nat_le low addr && nat_le (addr + size width) high)

abbrev pub is_good_private : Processor → Width → ℕ → Bool
is_good_private p width addr = is_within 0 (length p.private) width addr

-- ---- before the access

-- a bad address, but for a private one that comes from a queue
abbrev pub bad_address : ℕ → Processor → QueueUse → Width → ℕ → ℕ → Option Fault
bad_address memory p u width base addr =
    if is_shared u then (if is_within 16 memory width addr then None else Some Shared)
    else (if nat_le 28 base || is_good_private p width addr then None else Some Private)

abbrev pub bad_call : Side → ℕ → Option Fault
bad_call A what = None
bad_call E what = if nat_lt 5 what then Some Call else None

-- the fault that is found before the queues are looked at
unfoldable pub early_fault : Side → ℕ → Processor → QueueUse → InstructionForm → Option Fault
early_fault side memory p u (Computes rd first second) = None
early_fault side memory p u (Loads kind rd base offset) = bad_address memory p u (width_of kind) base (address p 0 base offset)
early_fault side memory p u (Stores width base source offset) = bad_address memory p u width base (address p 0 base offset)
early_fault side memory p u Calls = bad_call side (slice_index p.registers 17)

-- the word that goes into the queue: a result, what a private load finds, or a shared address
unfoldable pub put_word : Processor → QueueUse → Inst → InstructionForm → ℕ
put_word p u i (Computes rd first second) = value i p.counter (operand p 0 first) (operand p 0 second)
put_word p u i (Loads kind rd base offset) =
    if is_shared u then address p 0 base offset
    else (if is_good_private p (width_of kind) (address p 0 base offset) then loaded kind (address p 0 base offset) p.private else 0)
put_word p u i (Stores width base source offset) = address p 0 base offset
put_word p u i Calls = 0

abbrev pub if_no_fault : Option Fault → Request → Request
if_no_fault None r = r
if_no_fault (Some fault) r = Faulty fault

abbrev pub if_legal : Option QueueUse → (QueueUse → Request) → Request
if_legal None go = Faulty Illegal
if_legal (Some u) go = go u

abbrev pub decoded : Bool → Side → ℕ → Processor → Option Inst → Request
decoded copies side memory p None = Faulty Illegal
decoded copies side memory p (Some i) =
    if_legal (queue_use copies side (form i)) (λ u. if_no_fault (early_fault side memory p u (form i)) (Asks u (put_word p u i (form i)) i))

abbrev pub fetched : Bool → Side → ℕ → Processor → Option ℕ → Request
fetched copies side memory p None = Faulty BadPc
fetched copies side memory p (Some w) = decoded copies side memory p (decode w)

abbrev pub unless_halted : Option Halt → Request → Request
unless_halted None r = r
unless_halted (Some h) r = Halted

-- what the next instruction asks, over this code and a common memory of this size
unfoldable pub request : Bool → Side → List ℕ → ℕ → Processor → Request
request copies side code memory p =
    unless_halted p.halt (fetched copies side memory p (if p.counter % 4 == 0 then slice_get code (p.counter / 4) else None))

-- ---- after it

-- the registers after a result: x0 stays 0, and what is for a queue went there
abbrev pub with_result : ℕ → ℕ → List ℕ → List ℕ
with_result rd v registers = if nat_lt 0 rd && nat_lt rd 28 then slice_set registers rd v else registers

abbrev pub goes_on : Processor → ℕ → ℕ → ℕ → Option After
goes_on p rd v next = Some (record p { registers = with_result rd v p.registers; counter = next }, [])

abbrev pub halts : Processor → Halt → Option After
halts p h = Some (record p { counter = plus p.counter 4; halt = Some h }, [])

abbrev pub prints : Processor → List ℕ → Option After
prints p piece = Some (record p { counter = plus p.counter 4 }, piece)

-- the environment call: on A it halts; on E register 17 selects what it does with register 10
abbrev pub called : Side → Processor → ℕ → ℕ → Option After
called A p what value = halts p Plain
called E p what value =
    if what == 0 then halts p (Status value)
    else (if what == 1 then prints p (byte_text value)
    else (if what == 2 then prints p (decimal_text value signedness.Signed)
    else (if what == 3 then prints p (decimal_text value signedness.Unsigned)
    else (if what == 4 then prints p (hex_text value)
    else halts p (Trap value)))))

-- what comes of the instruction, where w is the word that the access gives: nothing where a private address from a queue is bad
unfoldable pub finish : Side → Processor → QueueUse → Inst → InstructionForm → ℕ → Option After
finish side p u i (Computes rd first second) w =
    goes_on p rd (value i p.counter (operand p w first) (operand p w second)) (next i p.counter (operand p w first) (operand p w second))
finish side p u i (Loads kind rd base offset) w =
    if is_shared u then goes_on p 0 0 (plus p.counter 4)
    else (if is_good_private p (width_of kind) (address p w base offset)
    then goes_on p rd (loaded kind (address p w base offset) p.private) (plus p.counter 4) else None)
finish side p u i (Stores width base source offset) w =
    if is_shared u then goes_on p 0 0 (plus p.counter 4)
    else (if is_good_private p width (address p w base offset)
    then Some (record p { counter = plus p.counter 4; private = stored width (address p w base offset) (operand p w source) p.private }, []) else None)
finish side p u i Calls w = called side p (slice_index p.registers 17) (slice_index p.registers 10)
