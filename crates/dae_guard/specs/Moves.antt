-- What the next pick makes of a node, where it is sure: enabled whatever the words of the ranges are.
use Rattle.std.specs.Prelude.{ℕ, ◌+◌, ◌/◌, ◌%◌, ◌^◌, Bool, true, false, not, ◌&&◌, nat_lt, nat_le, nat_eq, ◌==◌, if◌then◌else◌, List, [], ◌∷◌, map, Option, Some, None, option_map, option_and_then, unwrap_or, slice_get, int_lt}
use Rattle.dae_base.specs.declared.Side.{Side}
use Rattle.dae_base.specs.declared.Side.TheVariants.{A, E}
use Rattle.dae_base.specs.Words.{word, signed, plus, width_of}
use Rattle.dae_encode.specs.declared.QueueUse.{QueueUse}
use Rattle.dae_encode.specs.declared.InstructionForm.{InstructionForm}
use Rattle.dae_encode.specs.declared.InstructionForm.TheVariants.{Computes, Loads, Stores, Calls}
use Rattle.dae_encode.specs.declared.Inst.{Inst}
use Rattle.dae_encode.specs.declared.Inst.TheVariants.{Jalr, Beq, Bne, Blt, Bge, Bltu, Bgeu, Addi, Slti, Sltiu, Andi, Slli, Add, Slt, Sltu}
use Rattle.dae_encode.specs.Instructions.{form, value, next, flag}
use Rattle.dae_encode.specs.Spelling.{decode}
use Rattle.dae_encode.specs.Uses.{queue_use}
use Rattle.dae_encode.specs.Processor.{is_shared, is_within}
use Rattle.dae_machine.specs.Machine.{Setup, code}
use Rattle.dae_ranges.specs.declared.Range.{Range}
use Rattle.dae_ranges.specs.Ranges.{single, any_word, is_single, each, decided, raised, shifted, scaled, below, from, loaded_range}
use Rattle.dae_certificate.specs.declared.SideNode.{SideNode}
use Rattle.dae_guard.specs.Sets.{Node}
use Rattle.dae_guard.specs.Sets.{Waiting}
use Rattle.dae_guard.specs.Nodes.{range_at, source, is_plain, with_range}
use Rattle.dae_guard.specs.Waiting.{allows, given, after_use, fill_al, fill_ld, drain_next}

-- what no step changes, with the sizes of the private memories
pub record Terms : Type 0 where
  pub setup : Setup
  pub private_a : ℕ
  pub private_e : ℕ

abbrev pub private : Terms → Side → ℕ
private t A = t.private_a
private t E = t.private_e

-- ---- what an instruction does with ranges

pub data InstructionKind : Type 0 where
  Tests : InstructionKind
  Jumps : InstructionKind
  Plain : InstructionKind

-- branches and comparisons are decided by a test, a jump to a register by its target
unfoldable pub shape : Inst → InstructionKind
shape (Beq x y imm) = Tests
shape (Bne x y imm) = Tests
shape (Blt x y imm) = Tests
shape (Bge x y imm) = Tests
shape (Bltu x y imm) = Tests
shape (Bgeu x y imm) = Tests
shape (Slti rd x imm) = Tests
shape (Sltiu rd x imm) = Tests
shape (Slt rd x y) = Tests
shape (Sltu rd x y) = Tests
shape (Jalr rd x imm) = Jumps
shape i = Plain

unfoldable pub test : Inst → ℕ → ℕ → Bool
test (Beq x y imm) v w = v == w
test (Bne x y imm) v w = not (v == w)
test (Blt x y imm) v w = int_lt (signed v) (signed w)
test (Bge x y imm) v w = not (int_lt (signed v) (signed w))
test (Bltu x y imm) v w = nat_lt v w
test (Bgeu x y imm) v w = not (nat_lt v w)
test (Slti rd x imm) v w = int_lt (signed v) imm
test (Sltiu rd x imm) v w = nat_lt v (word imm)
test (Slt rd x y) v w = int_lt (signed v) (signed w)
test (Sltu rd x y) v w = nat_lt v w
test i v w = false

-- the counter and the result, by what the test comes to
unfoldable pub goes_to : Inst → ℕ → Bool → ℕ
goes_to (Beq x y imm) c b = plus c (if b then word imm else 4)
goes_to (Bne x y imm) c b = plus c (if b then word imm else 4)
goes_to (Blt x y imm) c b = plus c (if b then word imm else 4)
goes_to (Bge x y imm) c b = plus c (if b then word imm else 4)
goes_to (Bltu x y imm) c b = plus c (if b then word imm else 4)
goes_to (Bgeu x y imm) c b = plus c (if b then word imm else 4)
goes_to i c b = plus c 4

unfoldable pub tells : Inst → Bool → ℕ
tells (Slti rd x imm) b = flag b
tells (Sltiu rd x imm) b = flag b
tells (Slt rd x y) b = flag b
tells (Sltu rd x y) b = flag b
tells i b = 0

-- the second range of a test, which may be an immediate
unfoldable pub against : Inst → Range → Range
against (Slti rd x imm) y = single (word imm)
against (Sltiu rd x imm) y = single (word imm)
against i y = y

-- a result of ranges of which not all are single numbers
unfoldable pub spread : Inst → ℕ → Range → Range → Range
spread (Addi rd first imm) c x y = unwrap_or (shifted (word imm) x) any_word
spread (Add rd first second) c x y =
    if is_single y then unwrap_or (raised y.lo x) any_word
    else (if is_single x then unwrap_or (raised x.lo y) any_word else any_word)
spread (Slli rd first imm) c x y = unwrap_or (scaled (2 ^ (word imm % 32)) x) any_word
spread (Andi rd first imm) c x y =
    if nat_lt (word imm) (2 ^ 31) then record { lo = 0; step = 1; count = word imm } else any_word
spread (Jalr rd first imm) c x y = single (plus c 4)
spread i c x y = any_word

abbrev pub result : Inst → ℕ → Range → Range → Range
result i c x y = if is_single x && is_single y then single (value i c x.lo y.lo) else spread i c x y

-- ---- what a test that is not decided tells of a register

pub data Order : Type 0 where
  Free : Order
  Below : Order
  NotBelow : Order
  Equal : Order
  Unequal : Order

unfoldable pub order : Inst → Order
order (Sltu rd x y) = Below
order (Sltiu rd x imm) = Below
order (Bltu x y imm) = Below
order (Bgeu x y imm) = NotBelow
order (Beq x y imm) = Equal
order (Bne x y imm) = Unequal
order i = Free

-- of the first range, beside a number
abbrev pub first_kept : Order → Bool → ℕ → Range → Range
first_kept Free b n x = x
first_kept Below true n x = below n x
first_kept Below false n x = from n x
first_kept NotBelow true n x = from n x
first_kept NotBelow false n x = below n x
first_kept Equal true n x = single n
first_kept Equal false n x = x
first_kept Unequal true n x = x
first_kept Unequal false n x = single n

-- of the second range, behind a number
abbrev pub second_kept : Order → Bool → ℕ → Range → Range
second_kept Free b n y = y
second_kept Below true n y = from (n + 1) y
second_kept Below false n y = below (n + 1) y
second_kept NotBelow true n y = below (n + 1) y
second_kept NotBelow false n y = from (n + 1) y
second_kept Equal true n y = single n
second_kept Equal false n y = y
second_kept Unequal true n y = y
second_kept Unequal false n y = single n

abbrev pub narrowed : Order → Bool → ℕ → ℕ → Range → Range → List Range → List Range
narrowed o b first second x y rs =
    if is_plain first && is_single y then with_range first (first_kept o b y.lo x) rs
    else (if is_plain second && is_single x then with_range second (second_kept o b x.lo y) rs
    else rs)

-- ---- an instruction

pub record MoveOutcome : Type 0 where
  pub value : Range
  pub counter : ℕ
  pub registers : List Range

abbrev pub told : Inst → ℕ → List Range → Bool → MoveOutcome
told i c rs b = record { value = single (tells i b); counter = goes_to i c b; registers = rs }

abbrev pub either : Inst → ℕ → ℕ → ℕ → Range → Range → List Range → Option Bool
    → List MoveOutcome
either i c first second x y rs (Some b) = told i c rs b ∷ []
either i c first second x y rs None =
    told i c (narrowed (order i) false first second x y rs) false
    ∷ (told i c (narrowed (order i) true first second x y rs) true ∷ [])

abbrev pub outcomes_by : InstructionKind → Inst → ℕ → ℕ → ℕ → Range → Range → List Range
    → Option (List MoveOutcome)
outcomes_by Tests i c first second x y rs =
    Some (either i c first second x (against i y) rs (decided (test i) x (against i y)))
outcomes_by Jumps i c first second x y rs =
    if each (λ v. nat_eq (next i c v 0) (next i c x.lo 0)) x
    then Some (record { value = result i c x y; counter = next i c x.lo 0; registers = rs } ∷ [])
    else None
outcomes_by Plain i c first second x y rs =
    Some (record { value = result i c x y; counter = next i c 0 0; registers = rs } ∷ [])

abbrev pub SideAfter : Type 0
SideAfter = SideNode × Waiting

abbrev pub on : ℕ → List Range → SideNode
on c rs = record { counter = Some c; registers = rs }

-- what comes of an instruction of a side, where it is sure
abbrev pub did : Terms → Side → List Range → ℕ → Waiting → QueueUse → Inst → InstructionForm
    → Option (List SideAfter)
did t side rs c q u i (Computes rd first second) =
    option_map
    (map (λ (o : MoveOutcome).
    (on o.counter (with_range rd o.value o.registers), after_use u o.value q)))
    (outcomes_by (shape i) i c first second
    (source rs (given u q) first) (source rs (given u q) second) rs)
did t side rs c q u i (Loads kind rd base offset) =
    option_and_then (λ addr.
    if is_shared u
    then (if each (is_within 16 t.setup.memory (width_of kind)) addr
    then Some ((on (plus c 4) rs, after_use u addr q) ∷ []) else None)
    else (if each (is_within 0 (private t side) (width_of kind)) addr
    then Some ((
      on (plus c 4) (with_range rd (loaded_range kind) rs),
      after_use u (loaded_range kind) q,
    ) ∷ []) else None))
    (shifted offset (source rs (given u q) base))
did t side rs c q u i (Stores width base second offset) =
    option_and_then (λ addr.
    if is_shared u
    then (if each (is_within 16 t.setup.memory width) addr
    then Some ((on (plus c 4) rs, after_use u addr q) ∷ []) else None)
    else (if each (is_within 0 (private t side) width) addr
    then Some ((on (plus c 4) rs, after_use u addr q) ∷ []) else None))
    (shifted offset (source rs (given u q) base))
did t A rs c q u i Calls = Some ((record { counter = None; registers = rs }, q) ∷ [])
did t E rs c q u i Calls =
    let what = range_at rs 17 in
    if is_single what && nat_le what.lo 5
    then Some ((
      record {
        counter = (if what.lo == 0 then None else (if what.lo == 5 then None else Some (plus c 4)));
        registers = rs;
      },
      q,
    ) ∷ [])
    else None

abbrev pub with_access : Terms → Side → List Range → ℕ → Waiting → Inst → QueueUse
    → Option (List SideAfter)
with_access t side rs c q i u =
    if allows t.setup.depths u q then did t side rs c q u i (form i) else None

abbrev pub with_inst : Terms → Side → List Range → ℕ → Waiting → Inst → Option (List SideAfter)
with_inst t side rs c q i =
    option_and_then (with_access t side rs c q i) (queue_use t.setup.copies side (form i))

abbrev pub with_code_word : Terms → Side → List Range → ℕ → Waiting → ℕ → Option (List SideAfter)
with_code_word t side rs c q w = option_and_then (with_inst t side rs c q) (decode w)

abbrev pub at_counter : Terms → Side → List Range → Waiting → ℕ → Option (List SideAfter)
at_counter t side rs q c =
    option_and_then (with_code_word t side rs c q)
    (if c % 4 == 0 then slice_get (code t.setup side) (c / 4) else None)

-- an instruction of a side, where it is sure
abbrev pub moved : Terms → Side → SideNode → Waiting → Option (List SideAfter)
moved t side n q = option_and_then (at_counter t side n.registers q) n.counter

-- ---- the first sure pick

abbrev pub moved_a : Terms → Node → Option (List Node)
moved_a t n =
    option_map (map (λ (r : SideAfter). record { a = r.0; e = n.e; waiting = r.1 }))
    (moved t A n.a n.waiting)

abbrev pub moved_e : Terms → Node → Option (List Node)
moved_e t n =
    option_map (map (λ (r : SideAfter). record { a = n.a; e = r.0; waiting = r.1 }))
    (moved t E n.e n.waiting)

abbrev pub by_memory : Node → Option Waiting → Option (List Node)
by_memory n o = option_map (λ q. record n { waiting = q } ∷ []) o

abbrev pub or_else : {X : Type 0} → Option X → Option X → Option X
or_else None o = o
or_else (Some x) o = Some x

-- the nodes after the first sure pick of a drain, a fill for A, a fill for E, E and A
unfoldable pub next_nodes : Terms → Node → Option (List Node)
next_nodes t n =
    or_else (by_memory n (drain_next n.waiting))
    (or_else (by_memory n (fill_al n.waiting))
    (or_else (by_memory n (fill_ld n.waiting)) (or_else (moved_e t n) (moved_a t n))))
