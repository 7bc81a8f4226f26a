-- How a back end proves what it owes: by a match on the move, and then on the action. Here the program that halts at once with
-- status 0, whose codes are one environment call each, as the registers begin with 0. Its premises hold together, and so it
-- can only end so.
use Rattle.std.proofs.Common.{◌≡◌, ℕ, ◌*◌, true, false, List, [], ◌∷◌, Some, None, refl, ap, sym, ◌∙◌, arith}
use Rattle.std.specs.Prelude.{slice_index, replicate}
use Rattle.std.specs.List.{AllByRecursion}
use Rattle.dae_base.specs.declared.Place.{Place}
use Rattle.dae_base.specs.Words.{plus}
use Rattle.dae_base.specs.declared.Side.TheVariants.{A, E}
use Rattle.dae_base.specs.declared.Depths.{Depths}
use Rattle.dae_base.proofs.Laws.{zero_bytes}
use Rattle.dae_encode.specs.declared.Halt.TheVariants.{Plain, Status}
use Rattle.dae_encode.specs.declared.Inst.TheVariants.{Ecall}
use Rattle.dae_encode.specs.declared.QueueUse.TheVariants.{Nothing}
use Rattle.dae_encode.specs.declared.Request.TheVariants.{Asks}
use Rattle.dae_encode.specs.Instructions.{form, imm_i, imm_s, imm_b, imm_u, imm_j}
use Rattle.dae_encode.specs.Spelling.{encoded, layout, decode}
use Rattle.dae_encode.specs.Uses.{queue_use}
use Rattle.dae_encode.specs.Processor.{Processor, request, finish, early_fault, put_word}
use Rattle.dae_core.specs.Held.{fresh}
use Rattle.dae_core.specs.Queues.{empty_queues}
use Rattle.dae_machine.specs.Machine.{Setup, State}
use Rattle.dae_meaning.specs.Worlds.{World, ticked}
use Rattle.dae_meaning.specs.Results.{Halted as HaltedWith}
use Rattle.dae_ir.specs.Code.{Done, Do, If, Loop}
use Rattle.dae_ir.specs.Form.{Program, deeper}
use Rattle.dae_ir.specs.Classes.{Classes}
use Rattle.dae_ir.specs.Streams.{Actions}
use Rattle.dae_ir.specs.declared.form.Operand.TheVariants.{Variable, Number}
use Rattle.dae_ir.specs.declared.form.Item.TheVariants.{Halt}
use Rattle.dae_ir.specs.declared.stream.Action.{Action}
use Rattle.dae_ir.specs.declared.stream.Action.TheVariants.{Set, Issue, Own, Receive, Address, Datum, Offer, Accept, Emit, Probe, Tell, Hear, Stop, Break, Continue, Call, Return}
use Rattle.dae_machine.specs.Uses.{Use, Says}
use Rattle.dae_machine_rounds.specs.Follows.{IsFit, halts}
use Rattle.dae_machine_rounds.specs.Spots.{weight, Spot, Came, Moves, acts, goes_behind, ends_body, ends_step, breaks, continues, branches, tells, hears, enters, calls_it, returns, goes_back}
use Rattle.dae_machine.specs.Walks.{Goes, stays, quiet}
use Rattle.dae_machine_rounds.specs.Sides.{SideWalked}
use Rattle.dae_machine_rounds.specs.Promises.{OnlyEnds}
use Rattle.dae_machine_rounds.proofs.Calls.{body_of}
use Rattle.dae_machine_rounds.proofs.Whole.{ends_as}

-- ---- the program, and a machine with its code

abbrev here : Place
here = record { file = 0; line = 1; col = 1 }

abbrev program : Program
program = record { body = λ f. Do here (Halt (Number 0)) Done; frame = λ f. 0; limit = 1 }

abbrev none_needed : ℕ → Classes
none_needed f = record { s = λ v. false; needs = λ v. false }

abbrev zero_depths : Depths
zero_depths = record { ld = 0; al = 0; sa = 0; sd = 0; ab = 0; eb = 0; cq = 0 }

abbrev setup : Setup
setup = record { code_a = 0x73 ∷ []; code_e = 0x73 ∷ []; memory = 16; copies = false; depths = zero_depths }

abbrev start : State
start = record { a = fresh 0 0; e = fresh 0 0; queues = empty_queues; memory = replicate 16 0; printed = []; steps = 0 }

abbrev world : World
world = record { memory = replicate 16 0; printed = []; frame = 16; top = 16; depth = 0; items = 0; loads = 0; stores = 0 }

-- ---- the one instruction

-- before it
abbrev Begun : Processor → Type 0
Begun q = (q.halt ≡ None) × (q.counter ≡ 0) × (slice_index q.registers 17 ≡ 0) × (slice_index q.registers 10 ≡ 0)

decoded_call : decode 0x73 ≡ Some Ecall
unfolding decode encoded layout imm_i imm_s imm_b imm_u imm_j
decoded_call = refl

asks_a : (q : Processor) → Begun q → request false A (0x73 ∷ []) 16 q ≡ Asks Nothing 0 Ecall
unfolding request form queue_use early_fault put_word
asks_a q h = rw (h.0, h.1, decoded_call) refl

asks_e : (q : Processor) → Begun q → request false E (0x73 ∷ []) 16 q ≡ Asks Nothing 0 Ecall
unfolding request form queue_use early_fault put_word
asks_e q h = rw (h.0, h.1, decoded_call, h.2) refl

goes_a : (q : Processor) → Begun q → (next : Processor) × Goes setup A q (Says []) next × (next.halt ≡ Some Plain)
unfolding form finish
goes_a q h = (_, record { word = 0; inst = Ecall; asks = asks_a q h; puts = tt; does = refl }, refl)

goes_e : (q : Processor) → Begun q → (next : Processor) × Goes setup E q (Says []) next × (next.halt ≡ Some (Status 0))
unfolding form finish
goes_e q h =
    let next : Processor = record q { counter = plus q.counter 4; halt = Some (Status 0) } in
    let goes : Goes setup E q (Says []) next = record { word = 0; inst = Ecall; asks = asks_e q h; puts = tt; does = rw (h.2, h.3) refl } in
    (next, goes, refl)

-- ---- what the back end owes

-- an agreement is a function of the code where the side stands, and no indexed data: so a match on the move opens it
abbrev Before_a : Action → Processor → Type 0
Before_a (Stop None) q = Begun q
Before_a action q = ⊥

abbrev Before_e : Action → Processor → Type 0
Before_e (Stop (Some (Number k))) q = Begun q × (k ≡ 0)
Before_e action q = ⊥

abbrev At_code : (Action → Processor → Type 0) → Actions → Processor → Type 0
At_code before Done q = ⊥
At_code before (Do m x k) q = before x q
At_code before (If m x p q k) r = ⊥
At_code before (Loop m x y k) q = ⊥

abbrev At_a : Spot → Processor → Type 0
At_a s q = At_code Before_a s.point.code q

abbrev At_e : Spot → Processor → Type 0
At_e s q = At_code Before_e s.point.code q

moved_a : {n : ℕ} {s : Spot} {uses : List Use} {c : Came} (q : Processor) → At_a s q → Moves program true 16 (body_of setup program none_needed 1 true) n s uses c → AllByRecursion (IsFit 16) uses → SideWalked setup true At_a n (1 * weight s) q uses c
moved_a q at (acts {x = Stop None} w is size halts) fit =
    let f = goes_a q at in record { after = f.0; steps = 1; walks = quiet f.1 stays; agrees = f.2; some = omega arith; few = omega arith; words = tt }
moved_a q at (acts {x = Stop (Some y)} w is size follows) fit = absurd at
moved_a q at (acts {x = Set v y} w is size follows) fit = absurd at
moved_a q at (acts {x = Issue kind y} w is size follows) fit = absurd at
moved_a q at (acts {x = Own v kind y} w is size follows) fit = absurd at
moved_a q at (acts {x = Receive v} w is size follows) fit = absurd at
moved_a q at (acts {x = Address width y} w is size follows) fit = absurd at
moved_a q at (acts {x = Datum y} w is size follows) fit = absurd at
moved_a q at (acts {x = Offer v} w is size follows) fit = absurd at
moved_a q at (acts {x = Accept v} w is size follows) fit = absurd at
moved_a q at (acts {x = Emit spelling y} w is size follows) fit = absurd at
moved_a q at (acts {x = Probe check} w is size follows) fit = absurd at
moved_a q at (acts {x = Tell y} w is size follows) fit = absurd at
moved_a q at (acts {x = Hear only} w is size follows) fit = absurd at
moved_a q at (acts {x = Break} w is size follows) fit = absurd at
moved_a q at (acts {x = Continue} w is size follows) fit = absurd at
moved_a q at (acts {x = Call v f xs} w is size follows) fit = absurd at
moved_a q at (acts {x = Return y} w is size follows) fit = absurd at
moved_a q at (goes_behind w) fit = absurd at
moved_a q at (ends_body w) fit = absurd at
moved_a q at (ends_step w) fit = absurd at
moved_a q at (breaks w) fit = absurd at
moved_a q at (continues w) fit = absurd at
moved_a q at (branches w) fit = absurd at
moved_a q at (tells w) fit = absurd at
moved_a q at (hears w told) fit = absurd at
moved_a q at (enters w) fit = absurd at
moved_a q at (calls_it w size room) fit = absurd at
moved_a q at (returns w) fit = absurd at
moved_a q at (goes_back w) fit = absurd at

moved_e : {n : ℕ} {s : Spot} {uses : List Use} {c : Came} (q : Processor) → At_e s q → Moves program false 16 (body_of setup program none_needed 1 false) n s uses c → AllByRecursion (IsFit 16) uses → SideWalked setup false At_e n (1 * weight s) q uses c
moved_e q at (acts {x = Stop (Some (Number k))} w is size halts) fit =
    let f = goes_e q at.0 in record { after = f.0; steps = 1; walks = quiet f.1 stays; agrees = f.2 ∙ ap (λ (j : ℕ). Some (Status j)) (sym at.1); some = omega arith; few = omega arith; words = tt }
moved_e q at (acts {x = Stop (Some (Variable v))} w is size follows) fit = absurd at
moved_e q at (acts {x = Stop None} w is size follows) fit = absurd at
moved_e q at (acts {x = Set v y} w is size follows) fit = absurd at
moved_e q at (acts {x = Issue kind y} w is size follows) fit = absurd at
moved_e q at (acts {x = Own v kind y} w is size follows) fit = absurd at
moved_e q at (acts {x = Receive v} w is size follows) fit = absurd at
moved_e q at (acts {x = Address width y} w is size follows) fit = absurd at
moved_e q at (acts {x = Datum y} w is size follows) fit = absurd at
moved_e q at (acts {x = Offer v} w is size follows) fit = absurd at
moved_e q at (acts {x = Accept v} w is size follows) fit = absurd at
moved_e q at (acts {x = Emit spelling y} w is size follows) fit = absurd at
moved_e q at (acts {x = Probe check} w is size follows) fit = absurd at
moved_e q at (acts {x = Tell y} w is size follows) fit = absurd at
moved_e q at (acts {x = Hear only} w is size follows) fit = absurd at
moved_e q at (acts {x = Break} w is size follows) fit = absurd at
moved_e q at (acts {x = Continue} w is size follows) fit = absurd at
moved_e q at (acts {x = Call v f xs} w is size follows) fit = absurd at
moved_e q at (acts {x = Return y} w is size follows) fit = absurd at
moved_e q at (goes_behind w) fit = absurd at
moved_e q at (ends_body w) fit = absurd at
moved_e q at (ends_step w) fit = absurd at
moved_e q at (breaks w) fit = absurd at
moved_e q at (continues w) fit = absurd at
moved_e q at (branches w) fit = absurd at
moved_e q at (tells w) fit = absurd at
moved_e q at (hears w told) fit = absurd at
moved_e q at (enters w) fit = absurd at
moved_e q at (calls_it w size room) fit = absurd at
moved_e q at (returns w) fit = absurd at
moved_e q at (goes_back w) fit = absurd at

-- ---- so every run of the machine can only end with status 0

pub only_ends : OnlyEnds setup start 1 (Status 0) (ticked (deeper program 0 world))
only_ends =
    ends_as setup program none_needed 1 1 At_a At_e (record { moves = moved_a }) (record { moves = moved_e }) (omega arith)
    (λ f. record { a = (tt, tt); e = (tt, tt); loads = (tt, tt); copies = (tt, tt) }) 0 world start
    (record { ld_taken = 0; ld_reserved = 0; al_taken = 0; al_reserved = 0; drained = 0; issued = 0 }) refl refl refl (record { size = refl; bytes = zero_bytes 16 })
    (record { after = start.a; steps = 0; walks = stays; agrees = (refl, refl, refl, refl); few = omega arith })
    (record { after = start.e; steps = 0; walks = stays; agrees = ((refl, refl, refl, refl), refl); few = omega arith })
    (record { ld = record { numbers = refl; stamps = tt }; al = record { numbers = refl; stamps = tt }; sa = refl }) 0 1 (HaltedWith 0) (ticked (deeper program 0 world)) refl
