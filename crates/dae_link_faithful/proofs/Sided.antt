-- The code of an action uses the queue of the action and no other, and so does that of a function.
use Rattle.std.proofs.Common.{◌≡◌, ◌≢◌, ◌↔◌, ◌⊎◌, inl, inr, ℕ, zero, suc, ◌+◌, ◌-◌, ◌<◌, ◌*◌, Bool, true, false, List, [], ◌∷◌, ◌++◌, length, Option, Some, None, refl, sym, ap, subst, ◌∙◌, arith, pos, negsuc}
use Rattle.std.specs.Prelude.{◌&&◌, ◌||◌, nat_lt, nat_eq, not, if◌then◌else◌, ℤ}
use Rattle.std.specs.List.{AllByRecursion}
use Rattle.std.proofs.lemmas.Bool.Decides.{nat_tests}
use Rattle.dae_base.specs.Words.{word, size, minus}
use Rattle.dae_base.specs.declared.Queue.{Queue}
use Rattle.dae_base.specs.declared.Queue.TheVariants.{Ld, Al, Sa, Sd, Cq}
use Rattle.dae_base.specs.declared.Width.{Width}
use Rattle.dae_base.specs.declared.Width.TheVariants.{B1, B2, B4}
use Rattle.dae_base.specs.declared.LoadKind.{LoadKind}
use Rattle.dae_base.specs.declared.LoadKind.TheVariants.{I8, U8, I16, U16, I32}
use Rattle.dae_base.proofs.Laws.{and_true}
use Rattle.dae_encode.specs.Instructions.{effect, form_of}
use Rattle.dae_encode.specs.declared.InstructionForm.TheVariants.{Computes, Loads, Stores}
use Rattle.dae_encode.specs.declared.Inst.{Inst}
use Rattle.dae_encode.specs.declared.Inst.TheVariants.{Addi, Add, Sub, Slt, Sltu, Slti, Sltiu, Xori, Slli, Srli, Srai, Andi, Beq, Bne, Bltu, Bgeu, Ecall}
use Rattle.dae_ir.specs.Code.{Done, Do, If, Loop}
use Rattle.dae_ir.specs.Classes.{VariableSet}
use Rattle.dae_ir.specs.Deeds.{told_on, heard_on, failure_code}
use Rattle.dae_ir.specs.Programs.{side}
use Rattle.dae_ir.specs.Streams.{Actions}
use Rattle.dae_ir.specs.declared.form.Operand.{Operand}
use Rattle.dae_ir.specs.declared.form.Operand.TheVariants.{Variable, Number}
use Rattle.dae_ir.specs.declared.form.Test.{Test}
use Rattle.dae_ir.specs.declared.form.Check.{Check}
use Rattle.dae_ir.specs.declared.form.Check.TheVariants.{Place, InBounds, Zero, Room, Frame, Abort}
use Rattle.dae_ir.specs.declared.form.Value.{Value}
use Rattle.dae_ir.specs.declared.form.Value.TheVariants.{Same, Extended, Binary, Holds, FrameAddress}
use Rattle.dae_ir.specs.declared.stream.Mark.{Mark}
use Rattle.dae_ir.specs.declared.stream.Action.{Action}
use Rattle.dae_ir.specs.declared.stream.Action.TheVariants.{Set as Compute, Issue, Own, Receive, Address, Datum, Offer, Accept, Emit, Probe, Tell, Hear, Stop, Break, Continue, Call, Return}
use Rattle.dae_ir.specs.declared.stream.Branch.{Branch}
use Rattle.dae_ir.specs.declared.stream.Branch.TheVariants.{Silent, Tells, Hears}
use Rattle.dae_ir.specs.declared.stream.Failure.{Failure}
use Rattle.dae_meaning.specs.declared.Operator.{Operator}
use Rattle.dae_meaning.specs.declared.Operator.TheVariants.{Add as Plus}
use Rattle.dae_meaning.specs.declared.Comparison.{Comparison}
use Rattle.dae_meaning.specs.declared.Comparison.TheVariants.{Equal, NotEqual, LessSigned, AtLeastSigned, LessUnsigned, AtLeastUnsigned}
use Rattle.dae_select_walks.specs.declared.Home.{Home}
use Rattle.dae_select_walks.specs.declared.Home.TheVariants.{Register}
use Rattle.dae_select_walks.specs.Homes.{IsHome}
use Rattle.dae_select_walks.specs.declared.VariableStanding.{VariableStanding}
use Rattle.dae_select_walks.specs.declared.VariableStanding.TheVariants.{Settled, Early, Late}
use Rattle.dae_select_walks.specs.Live.{LiveWays, none, in_operand, live, behind, body_ways, step_ways, nowhere}
use Rattle.dae_select_walks.specs.Facts.{Facts, unknown, only_leaves, operand_bounds, is_aligned, is_good, tells_within, facts_behind, facts_in_first, facts_in_second, facts_past_if, facts_at_turn, facts_at_step, facts_past_loop, need_of}
use Rattle.dae_select_walks.specs.declared.Need.TheVariants.{All, Ends, Nothing}
use Rattle.dae_select_walks.specs.Agrees.{Plan, counted_depth}
use Rattle.dae_select_blocks.specs.Blocks.{number_code, register_or, source, operation_code, immediate_code, exchanged_code, behind_or, combine_registers, binary_code, value_code, fetch, move_code, keep, test_code, call_number, issue_code, address_code, take_code, fail_code, over, align_code, bounds_code, offset_bounds_code, room_code, check_code, hear_code, jump_over, jump_back, jump_words, branch_inst, opposite, one_way, goes_by, goes_code, frames_room_code, lower, is_immediate, tell_number_code, against_zero, immediate_of, extend_code, compare_code, compare_number_code, compare_registers, compare_operands, back_offset, goes_back, as_immediate}
use Rattle.dae_select_walks.specs.Compiled.{is_told}
use Rattle.dae_select_blocks.specs.Code.{leaves_first, is_near, has_bottom, told_by, branch_by, ahead_by, before_branch, back_branch, either_one, reads_once, with_home, early_code, is_offset_sum, late_code, standing_behind, placed_code, is_dead, needed_code, block_code, action_code, branch_code, code_of, entry_code, function_code, finish_code, start_code, does_nothing, past_code, written_last}
use Rattle.dae_link_faithful.specs.Uses.{queue_in, action_queue, branch_queue, IsOfSide, AreOfSide, IsUntouched, LeavesAlone}
use Rattle.dae_link_faithful.proofs.Access.{IsPlain, plain, loads_for_e, loads_own, gives_address, pushes_datum, pushes_copy, pushes_message, takes_load, takes_own, takes_copy, takes_message, takes_load_left, takes_load_right, takes_copy_left, takes_copy_right, pushes_flag, sends_datum}
use Rattle.dae_link_faithful.proofs.Quiet.{immediate_form, exchanged_form, AllPlain, plain_append, number_plain, register_low, keep_plain, source_low, fetch_plain, move_is, value_plain, system_plain, stop_plain, leave_plain, call_plain, entry_plain, finish_plain, start_plain, over_plain, past_plain, back_jump_plain, branch_form, branch_plain, goes_plain, test_writes, Writes, tell_number_writes, number_fetched, number_low}
use Rattle.dae_select_blocks.specs.Sizes.{is_short}
use Rattle.dae_select_blocks.proofs.LawsOfBlocks.{operation_is, ForAccesses, passed_on, offset_sum, by_pairs, Suits, suits_behind}

no_some : (q : Queue) → None ≢ Some q
no_some q e = absurd (let x : None ≡ Some q = e in cc)

-- ---- lists that use one queue and no other

-- each instruction uses this queue or none, and where there is one, not all of them leave it alone
record Uses (by_a : Bool) (o : Option Queue) (is : List Inst) : Type 0 where
  only : AllByRecursion (λ (i : Inst). (queue_in (side by_a) i ≡ None) ⊎ (queue_in (side by_a) i ≡ o)) is
  some : (q : Queue) → o ≡ Some q → LeavesAlone by_a q is → ⊥

-- the same, but where a message is told behind it, whose queue is the very same, all may leave it alone
record UsesBefore (by_a told : Bool) (o : Option Queue) (is : List Inst) : Type 0 where
  only : AllByRecursion (λ (i : Inst). (queue_in (side by_a) i ≡ None) ⊎ (queue_in (side by_a) i ≡ o)) is
  some : (q : Queue) → o ≡ Some q → (told ≡ true → Some (told_on by_a) ≡ Some q → ⊥) → LeavesAlone by_a q is → ⊥

before_any : {by_a told : Bool} {o : Option Queue} {is : List Inst} → Uses by_a o is → UsesBefore by_a told o is
before_any h = record { only = h.only; some = λ q e no alone. h.some q e alone }

module _ (by_a : Bool) where
  abbrev Only : Option Queue → List Inst → Type 0
  Only o is = AllByRecursion (λ (i : Inst). (queue_in (side by_a) i ≡ None) ⊎ (queue_in (side by_a) i ≡ o)) is

  quiet : (o : Option Queue) (is : List Inst) → AllPlain is → Only o is
  quiet o [] h = tt
  quiet o (i ∷ is) h = (inl (plain (side by_a) i h.0), quiet o is h.1)

  only_append : (o : Option Queue) (is js : List Inst) → Only o is → Only o js → Only o (is ++ js)
  only_append o [] js h k = k
  only_append o (i ∷ is) js h k = (h.0, only_append o is js h.1 k)

  pub alone_append : (q : Queue) (is js : List Inst) → LeavesAlone by_a q is → LeavesAlone by_a q js → LeavesAlone by_a q (is ++ js)
  alone_append q [] js h k = k
  alone_append q (i ∷ is) js h k = (h.0, alone_append q is js h.1 k)

  pub alone_split : (q : Queue) (is js : List Inst) → LeavesAlone by_a q (is ++ js) → LeavesAlone by_a q is × LeavesAlone by_a q js
  alone_split q [] js h = (tt, h)
  alone_split q (i ∷ is) js h = (let rest = alone_split q is js h.1 in ((h.0, rest.0), rest.1))

  behind_plain : (o : Option Queue) (is js : List Inst) → AllPlain is → Uses by_a o js → Uses by_a o (is ++ js)
  behind_plain o is js h k = record { only = only_append o is js (quiet o is h) k.only; some = λ q e alone. k.some q e (alone_split q is js alone).1 }

  before_plain : (o : Option Queue) (is js : List Inst) → Uses by_a o is → AllPlain js → Uses by_a o (is ++ js)
  before_plain o is js h k = record { only = only_append o is js h.only (quiet o js k); some = λ q e alone. h.some q e (alone_split q is js alone).0 }

  first_uses : (o : Option Queue) (i : Inst) (is : List Inst) → queue_in (side by_a) i ≡ o → Only o is → Uses by_a o (i ∷ is)
  first_uses o i is h k = record { only = (inr h, k); some = λ q e alone. alone.0 (h ∙ e) }

  next_uses : (o : Option Queue) (i : Inst) (is : List Inst) → IsPlain (form_of (effect i)) → Uses by_a o is → Uses by_a o (i ∷ is)
  next_uses o i is h k = record { only = (inl (plain (side by_a) i h), k.only); some = λ q e alone. k.some q e alone.1 }

  no_queue : (is : List Inst) → AllPlain is → Uses by_a None is
  no_queue is h = record { only = quiet None is h; some = λ q e alone. absurd (let x : None ≡ Some q = e in cc) }

  -- either of two lists, and both
  either_uses : (o : Option Queue) (b : Bool) (is js : List Inst) → Uses by_a o is → Uses by_a o js → Uses by_a o (if b then is else js)
  either_uses o true is js h k = h
  either_uses o false is js h k = k

  behind_only : (o : Option Queue) (is js : List Inst) → Only o is → Uses by_a o js → Uses by_a o (is ++ js)
  behind_only o is js h k = record { only = only_append o is js h k.only; some = λ q e alone. k.some q e (alone_split q is js alone).1 }

  others_alone : (o : Option Queue) (q : Queue) (is : List Inst) → Only o is → o ≢ Some q → LeavesAlone by_a q is
  others_alone o q [] h ne = tt
  others_alone o q (i ∷ is) h ne = (
    (λ e. elim h.0 [ inl none ↦ absurd (let x : None ≡ Some q = sym none ∙ e in cc) | inr same ↦ absurd (ne (sym same ∙ e)) ]),
    others_alone o q is h.1 ne,
  )

  -- ---- messages

  abbrev Told : Option Queue
  Told = Some (told_on by_a)

  tells : (x : ℕ) (is : List Inst) → x < 28 → Only Told is → (imm : ℤ) → Uses by_a Told (Addi 29 x imm ∷ is)
  tells x is h k imm = first_uses Told (Addi 29 x imm) is (pushes_message by_a (Addi 29 x imm) x refl h) k

  -- the last instruction of such code tells
  writes_uses : (is : List Inst) → Writes 29 is → Uses by_a Told is
  writes_uses is w =
      subst (λ (js : List Inst). Uses by_a Told js) (sym w.same)
      (behind_plain Told w.before' (w.last ∷ []) w.plain (first_uses Told w.last [] (pushes_flag by_a w.last w.first w.second w.form w.low w.low') tt))

  fail_uses : (b : Bool) (code : ℕ) → Uses by_a Told (fail_code b code)
  fail_uses true code = tells 0 (Ecall ∷ []) (omega arith) (quiet Told (Ecall ∷ []) (tt, tt)) (pos code)
  fail_uses false code =
      tells 0 _ (omega arith) (quiet Told (Addi 10 0 (pos code) ∷ (Addi 17 0 (pos 5) ∷ (Ecall ∷ []))) ((omega arith, omega arith, omega arith), ((omega arith, omega arith, omega arith), (tt, tt)))) (pos code)

  align_only : (w : Width) (x : ℕ) → x < 28 → Only Told (align_code w x)
  align_only B1 x h = tt
  align_only B2 x h = (inl (plain (side by_a) (Andi 6 x (pos 1)) (omega arith, h, omega arith)), (inl (plain (side by_a) (Beq 6 0 (pos 12)) (omega arith, omega arith, omega arith)), (fail_uses true 3).only))
  align_only B4 x h = (inl (plain (side by_a) (Andi 6 x (pos 3)) (omega arith, h, omega arith)), (inl (plain (side by_a) (Beq 6 0 (pos 12)) (omega arith, omega arith, omega arith)), (fail_uses true 3).only))

  room_uses : (n : ℕ) → Uses by_a Told (room_code n)
  room_uses n = behind_plain Told (number_code 6 n) (Bgeu 6 3 (pos 12) ∷ fail_code true 4) (number_plain 6 n (omega arith)) (next_uses Told (Bgeu 6 3 (pos 12)) (fail_code true 4) (omega arith, omega arith, omega arith) (fail_uses true 4))

  frames_only : (memory n : ℕ) → Only Told (frames_room_code memory n)
  frames_only memory n = by (nat_eq n 0)
    where
      by : (none : Bool) → Only Told (if none then [] else room_code (memory - n))
      by true = tt
      by false = (room_uses (memory - n)).only

  hear_uses : (b : Bool) (only : Option Failure) → Uses by_a (Some (heard_on by_a)) (hear_code b only)
  hear_uses true only = first_uses _ (Beq 29 0 (pos 8)) (Ecall ∷ []) (takes_message by_a (Beq 29 0 (pos 8)) 0 refl (omega arith)) (quiet _ (Ecall ∷ []) (tt, tt))
  hear_uses false (Some failure) =
      let behind : List Inst = Addi 10 0 (pos (failure_code failure)) ∷ (Addi 17 0 (pos 5) ∷ (Ecall ∷ [])) in
      first_uses _ (Beq 29 0 (pos 16)) behind (takes_message by_a (Beq 29 0 (pos 16)) 0 refl (omega arith)) (quiet _ behind ((omega arith, omega arith, omega arith), ((omega arith, omega arith, omega arith), (tt, tt))))
  hear_uses false None = first_uses _ (Addi 10 29 (pos 0)) (Beq 10 0 (pos 12) ∷ (Addi 17 0 (pos 5) ∷ (Ecall ∷ []))) (takes_message by_a (Addi 10 29 (pos 0)) 10 refl (omega arith)) (quiet _ (Beq 10 0 (pos 12) ∷ (Addi 17 0 (pos 5) ∷ (Ecall ∷ []))) ((omega arith, omega arith, omega arith), ((omega arith, omega arith, omega arith), (tt, tt))))

issue_form : (kind : LoadKind) (q b : ℕ) (offset : ℤ) → form_of (effect (issue_code kind q b offset)) ≡ Loads kind q b (word offset)
issue_form I8 q b offset = refl
issue_form U8 q b offset = refl
issue_form I16 q b offset = refl
issue_form U16 q b offset = refl
issue_form I32 q b offset = refl

address_form : (width : Width) (b : ℕ) (offset : ℤ) → form_of (effect (address_code width b offset)) ≡ Stores width b 30 (word offset)
address_form B1 b offset = refl
address_form B2 b offset = refl
address_form B4 b offset = refl

-- ---- actions

module _ (plan : Plan) (variables : ℕ → ℕ) (good : (f v : ℕ) → IsHome (variables f) (plan.home f v)) where
  abbrev by_a' : Bool
  by_a' = plan.by_a

  -- on A, and on E
  on_a : (i : Inst) (o : Option Queue) → by_a' ≡ true → queue_in (side true) i ≡ o → queue_in (side by_a') i ≡ o
  on_a i o e h = subst (λ (b : Bool). queue_in (side b) i ≡ o) (sym e) h

  on_e : (i : Inst) (o : Option Queue) → by_a' ≡ false → queue_in (side false) i ≡ o → queue_in (side by_a') i ≡ o
  on_e i o e h = subst (λ (b : Bool). queue_in (side b) i ≡ o) (sym e) h

  module _ (f : ℕ) where
    low : (x : Operand) → source (plan.home f) 5 x < 28
    low x = source_low (variables f) (plan.home f) (good f) 5 x (omega arith)

    fetches : (x : Operand) → AllPlain (fetch (plan.home f) 5 x)
    fetches x = fetch_plain (variables f) (plan.home f) (good f) 5 x (omega arith)

    home_low : (v : ℕ) → register_or 5 (plan.home f v) < 28
    home_low v = register_low (variables f) 5 (plan.home f v) (good f v) (omega arith)

    -- behind an operand, one instruction
    one_uses : (o : Option Queue) (x : Operand) (i : Inst) → queue_in (side by_a') i ≡ o → Uses by_a' o (fetch (plan.home f) 5 x ++ i ∷ [])
    one_uses o x i h = behind_plain by_a' o (fetch (plan.home f) 5 x) (i ∷ []) (fetches x) (first_uses by_a' o i [] h tt)

    -- an operand goes into a register that stands for a queue
    move_uses : (o : Option Queue) (t : ℕ) (x : Operand) → ((r : ℕ) (imm : ℤ) → r < 28 → queue_in (side by_a') (Addi t r imm) ≡ o) → Uses by_a' o (move_code (plan.home f) t x)
    move_uses o t x h =
        let m = move_is (variables f) (plan.home f) (good f) t x in
        let all : Uses by_a' o (m.0 ++ Addi t m.1 m.2 ∷ []) = behind_plain by_a' o m.0 (Addi t m.1 m.2 ∷ []) m.3 (first_uses by_a' o (Addi t m.1 m.2) [] (h m.1 m.2 m.4) tt) in
        subst (λ (is : List Inst). Uses by_a' o is) (sym m.5) all

    take_uses : (o : Option Queue) (q v : ℕ) → queue_in (side by_a') (Addi (register_or 5 (plan.home f v)) q (pos 0)) ≡ o → Uses by_a' o (take_code q (plan.home f v))
    take_uses o q v h = first_uses by_a' o (Addi (register_or 5 (plan.home f v)) q (pos 0)) (keep (plan.home f v)) h (quiet by_a' o (keep (plan.home f v)) (keep_plain (plan.home f v)))

    bounds_uses : (width : Width) (x : Operand) → Uses by_a' (Some (told_on by_a')) (bounds_code width (source (plan.home f) 5 x))
    bounds_uses width x =
        next_uses by_a' (Some (told_on by_a')) (Addi 6 (source (plan.home f) 5 x) (negsuc (16 - size width))) (Bltu 6 4 (pos 12) ∷ fail_code true 2) (omega arith, low x, omega arith)
        (next_uses by_a' (Some (told_on by_a')) (Bltu 6 4 (pos 12)) (fail_code true 2) (omega arith, omega arith, omega arith) (fail_uses by_a' true 2))

    placed_uses : (width : Width) (x : Operand) → Uses by_a' (Some (told_on by_a')) (placed_code (plan.home f) (Probe (Place width x)))
    placed_uses width x = behind_plain by_a' (Some (told_on by_a')) (fetch (plan.home f) 5 x) (bounds_code width (source (plan.home f) 5 x)) (fetches x) (bounds_uses width x)

    check_uses : (check : Check) → Uses by_a' (Some (told_on by_a')) (check_code plan f check)
    check_uses (Place width x) =
        let r : ℕ = source (plan.home f) 5 x in
        behind_plain by_a' (Some (told_on by_a')) (fetch (plan.home f) 5 x) (align_code width r ++ bounds_code width r) (fetches x)
        (behind_only by_a' (Some (told_on by_a')) (align_code width r) (bounds_code width r) (align_only by_a' width r (low x)) (bounds_uses width x))
    check_uses (InBounds x offset) =
        let r : ℕ = source (plan.home f) 5 x in
        let compares : (y : ℕ) → y < 28 → Uses by_a' (Some (told_on by_a')) (Bltu y 4 (pos 12) ∷ fail_code true 2)
        = λ y l. next_uses by_a' (Some (told_on by_a')) (Bltu y 4 (pos 12)) (fail_code true 2) (omega arith, l, omega arith) (fail_uses by_a' true 2) in
        behind_plain by_a' (Some (told_on by_a')) (fetch (plan.home f) 5 x) (offset_bounds_code r offset) (fetches x)
        (either_uses by_a' (Some (told_on by_a')) (nat_eq offset 16) (Bltu r 4 (pos 12) ∷ fail_code true 2) (Addi 6 r (lower (minus offset 16)) ∷ (Bltu 6 4 (pos 12) ∷ fail_code true 2)) (compares r (low x))
        (next_uses by_a' (Some (told_on by_a')) (Addi 6 r (lower (minus offset 16))) (Bltu 6 4 (pos 12) ∷ fail_code true 2) (omega arith, low x, omega arith) (compares 6 (omega arith))))
    check_uses (Zero x) =
        behind_plain by_a' (Some (told_on by_a')) (fetch (plan.home f) 5 x) (Bne (source (plan.home f) 5 x) 0 (over by_a') ∷ fail_code by_a' 1) (fetches x)
        (next_uses by_a' (Some (told_on by_a')) (Bne (source (plan.home f) 5 x) 0 (over by_a')) (fail_code by_a' 1) (omega arith, low x, omega arith) (fail_uses by_a' by_a' 1))
    check_uses (Room g) =
        let frames : List Inst = frames_room_code plan.memory (plan.frame f + plan.frame g) in
        either_uses by_a' (Some (told_on by_a')) (nat_lt plan.memory (plan.frame f + plan.frame g)) (fail_code true 4) (frames ++ (number_code 6 (counted_depth plan f plan.limit) ++ Bltu 10 6 (pos 12) ∷ fail_code true 4)) (fail_uses by_a' true 4)
        (behind_only by_a' (Some (told_on by_a')) frames (number_code 6 (counted_depth plan f plan.limit) ++ Bltu 10 6 (pos 12) ∷ fail_code true 4) (frames_only by_a' plan.memory (plan.frame f + plan.frame g))
        (behind_plain by_a' (Some (told_on by_a')) (number_code 6 (counted_depth plan f plan.limit)) (Bltu 10 6 (pos 12) ∷ fail_code true 4) (number_plain 6 (counted_depth plan f plan.limit) (omega arith)) (next_uses by_a' (Some (told_on by_a')) (Bltu 10 6 (pos 12)) (fail_code true 4) (omega arith, omega arith, omega arith) (fail_uses by_a' true 4))))
    check_uses Frame = either_uses by_a' (Some (told_on by_a')) (nat_lt plan.memory (plan.frame f)) (fail_code true 4) (room_code (plan.memory - plan.frame f)) (fail_uses by_a' true 4) (room_uses by_a' (plan.memory - plan.frame f))
    check_uses Abort = fail_uses by_a' true 5

    action_uses : (short : Bool) (a : Action) (live : VariableSet) (leaves skips : ℕ) → IsOfSide by_a' a → Uses by_a' (action_queue by_a' a) (action_code plan variables f a live (jump_over short leaves) (jump_over short skips))
    action_uses short (Compute v x) live leaves skips is = no_queue by_a' _ (plain_append _ _ (value_plain (variables f) (plan.home f) (good f) (register_or 5 (plan.home f v)) x (home_low v)) (keep_plain (plan.home f v)))
    action_uses short (Issue kind x) live leaves skips is =
        let b = source (plan.home f) 5 x in
        one_uses (Some Ld) x (issue_code kind 30 b (pos 0)) (on_a (issue_code kind 30 b (pos 0)) (Some Ld) is (loads_for_e (issue_code kind 30 b (pos 0)) kind b (word (pos 0)) (issue_form kind 30 b (pos 0)) (low x)))
    action_uses short (Own v kind x) live leaves skips is =
        let b = source (plan.home f) 5 x in
        let t = register_or 5 (plan.home f v) in
        let i = issue_code kind 31 b (pos 0) in
        behind_plain by_a' (Some Al) (fetch (plan.home f) 5 x) (i ∷ take_code 31 (plan.home f v)) (fetches x)
        (first_uses by_a' (Some Al) i (take_code 31 (plan.home f v)) (on_a i (Some Al) is (loads_own i kind b (word (pos 0)) (issue_form kind 31 b (pos 0)) (low x)))
        (take_uses (Some Al) 31 v (on_a (Addi t 31 (pos 0)) (Some Al) is (takes_own (Addi t 31 (pos 0)) t refl (home_low v)))).only)
    action_uses short (Receive v) live leaves skips is = let t = register_or 5 (plan.home f v) in take_uses (Some Ld) 30 v (on_e (Addi t 30 (pos 0)) (Some Ld) is (takes_load (Addi t 30 (pos 0)) t refl (home_low v)))
    action_uses short (Address width x) live leaves skips is =
        let b = source (plan.home f) 5 x in
        one_uses (Some Sa) x (address_code width b (pos 0)) (on_a (address_code width b (pos 0)) (Some Sa) is (gives_address (address_code width b (pos 0)) width b (word (pos 0)) (address_form width b (pos 0)) (low x)))
    action_uses short (Datum x) live leaves skips is = move_uses (Some Sd) 30 x (λ r imm l. on_e (Addi 30 r imm) (Some Sd) is (pushes_datum (Addi 30 r imm) r refl l))
    action_uses short (Offer v) live leaves skips is = move_uses (Some Cq) 28 (Variable v) (λ r imm l. on_a (Addi 28 r imm) (Some Cq) is (pushes_copy (Addi 28 r imm) r refl l))
    action_uses short (Accept v) live leaves skips is = let t = register_or 5 (plan.home f v) in take_uses (Some Cq) 28 v (on_e (Addi t 28 (pos 0)) (Some Cq) is (takes_copy (Addi t 28 (pos 0)) t refl (home_low v)))
    action_uses short (Emit spelling x) live leaves skips is = no_queue by_a' _ (system_plain (variables f) (plan.home f) (good f) (call_number spelling) x)
    action_uses short (Probe check) live leaves skips is = check_uses check
    action_uses short (Tell x) live leaves skips is = move_uses (Some (told_on by_a')) 29 x (λ r imm l. pushes_message by_a' (Addi 29 r imm) r refl l)
    action_uses short (Hear only) live leaves skips is = hear_uses by_a' by_a' only
    action_uses short (Stop x) live leaves skips is = no_queue by_a' _ (stop_plain (variables f) (plan.home f) (good f) by_a' x)
    action_uses short Break live leaves skips is = no_queue by_a' _ (over_plain short leaves)
    action_uses short Continue live leaves skips is = no_queue by_a' _ (over_plain short skips)
    action_uses short (Call v g xs) live leaves skips is = no_queue by_a' _ (call_plain plan variables good f v g xs _)
    action_uses short (Return x) live leaves skips is = no_queue by_a' _ (leave_plain (variables f) (plan.home f) (good f) plan.by_a (plan.leaf f) x)

    -- ---- pairs

    -- an access at the sum of a variable and a number
    module _ (v n : ℕ) where
      abbrev base : ℕ
      base = source (plan.home f) 5 (Variable v)

      abbrev at_sum : Action → List Inst
      at_sum a = late_code (plan.home f) a (Binary Plus (Variable v) (Number n))

      issue_uses : (t : ℕ) (kind : LoadKind) → by_a' ≡ true → Uses by_a' (Some Ld) (at_sum (Issue kind (Variable t)))
      issue_uses t kind is =
          let i = issue_code kind 30 base (lower n) in
          one_uses (Some Ld) (Variable v) i (on_a i (Some Ld) is (loads_for_e i kind base (word (lower n)) (issue_form kind 30 base (lower n)) (low (Variable v))))

      address_uses : (t : ℕ) (width : Width) → by_a' ≡ true → Uses by_a' (Some Sa) (at_sum (Address width (Variable t)))
      address_uses t width is =
          let i = address_code width base (lower n) in
          one_uses (Some Sa) (Variable v) i (on_a i (Some Sa) is (gives_address i width base (word (lower n)) (address_form width base (lower n)) (low (Variable v))))

      own_uses : (t d : ℕ) (kind : LoadKind) → by_a' ≡ true → Uses by_a' (Some Al) (at_sum (Own d kind (Variable t)))
      own_uses t d kind is =
          let i = issue_code kind 31 base (lower n) in
          let r = register_or 5 (plan.home f d) in
          behind_plain by_a' (Some Al) (fetch (plan.home f) 5 (Variable v)) (i ∷ take_code 31 (plan.home f d)) (fetches (Variable v))
          (first_uses by_a' (Some Al) i (take_code 31 (plan.home f d)) (on_a i (Some Al) is (loads_own i kind base (word (lower n)) (issue_form kind 31 base (lower n)) (low (Variable v))))
          (take_uses (Some Al) 31 d (on_a (Addi r 31 (pos 0)) (Some Al) is (takes_own (Addi r 31 (pos 0)) r refl (home_low d)))).only)

    reached_uses : (t : ℕ) (y : Value) → is_offset_sum y ≡ true → ForAccesses (λ (a : Action). IsOfSide by_a' a → Uses by_a' (action_queue by_a' a) (late_code (plan.home f) a y)) t
    reached_uses t y adds =
        offset_sum (λ (z : Value). ForAccesses (λ (a : Action). IsOfSide by_a' a → Uses by_a' (action_queue by_a' a) (late_code (plan.home f) a z)) t) y adds
        (λ v n fits. record { issue = λ kind is. issue_uses v n t kind is; own = λ d kind is. own_uses v n t d kind is; address = λ width is. address_uses v n t width is })

    -- a value that goes into the queue of store data
    module _ (is : by_a' ≡ false) where
      send_last : (i : Inst) (x y : ℕ) → form_of (effect i) ≡ Computes 30 x y → x < 28 → y < 28 → Uses by_a' (Some Sd) (i ∷ [])
      send_last i x y form h k = first_uses by_a' (Some Sd) i [] (on_e i (Some Sd) is (sends_datum i x y form h k)) tt

      send_registers : (operator : Operator) (x y : Operand) → Uses by_a' (Some Sd) (combine_registers (plan.home f) 30 operator x y)
      send_registers operator x y =
          let a = source (plan.home f) 5 x in let b = source (plan.home f) 6 y in
          behind_plain by_a' (Some Sd) (fetch (plan.home f) 5 x) _ (fetches x) (behind_plain by_a' (Some Sd) (fetch (plan.home f) 6 y) (operation_code operator 30 a b ∷ []) (fetch_plain (variables f) (plan.home f) (good f) 6 y (omega arith))
          (send_last (operation_code operator 30 a b) a b (ap form_of (operation_is operator 30 a b)) (low x) (source_low (variables f) (plan.home f) (good f) 6 y (omega arith))))

      send_binary : (operator : Operator) (x y : Operand) → Uses by_a' (Some Sd) (binary_code (plan.home f) 30 operator x y)
      send_binary operator x (Number n) = by (immediate_code operator 30 (source (plan.home f) 5 x) n) refl
        where
          by : (i : Option Inst) → immediate_code operator 30 (source (plan.home f) 5 x) n ≡ i → Uses by_a' (Some Sd) (behind_or (fetch (plan.home f) 5 x) i (combine_registers (plan.home f) 30 operator x (Number n)))
          by (Some i) e = behind_plain by_a' (Some Sd) (fetch (plan.home f) 5 x) (i ∷ []) (fetches x) (send_last i (source (plan.home f) 5 x) 0 (immediate_form operator 30 (source (plan.home f) 5 x) n i e) (low x) (omega arith))
          by None e = send_registers operator x (Number n)
      send_binary operator (Number n) (Variable v) = by (exchanged_code operator 30 (source (plan.home f) 5 (Variable v)) n) refl
        where
          by : (i : Option Inst) → exchanged_code operator 30 (source (plan.home f) 5 (Variable v)) n ≡ i → Uses by_a' (Some Sd) (behind_or (fetch (plan.home f) 5 (Variable v)) i (combine_registers (plan.home f) 30 operator (Number n) (Variable v)))
          by (Some i) e = behind_plain by_a' (Some Sd) (fetch (plan.home f) 5 (Variable v)) (i ∷ []) (fetches (Variable v)) (send_last i (source (plan.home f) 5 (Variable v)) 0 (exchanged_form operator 30 (source (plan.home f) 5 (Variable v)) n i e) (low (Variable v)) (omega arith))
          by None e = send_registers operator (Number n) (Variable v)
      send_binary operator (Variable u) (Variable v) = send_registers operator (Variable u) (Variable v)

      send_value : (y : Value) → written_last y ≡ true → Uses by_a' (Some Sd) (value_code (plan.home f) 30 y)
      send_value (Same x) last = move_uses (Some Sd) 30 x (λ r imm l. on_e (Addi 30 r imm) (Some Sd) is (pushes_datum (Addi 30 r imm) r refl l))
      send_value (Binary operator x y) last = send_binary operator x y
      send_value (FrameAddress offset) last =
          either_uses by_a' (Some Sd) (is_immediate offset) (Addi 30 3 (lower offset) ∷ []) (number_code 5 offset ++ Add 30 3 5 ∷ []) (send_last (Addi 30 3 (lower offset)) 3 0 refl (omega arith) (omega arith))
          (behind_plain by_a' (Some Sd) (number_code 5 offset) (Add 30 3 5 ∷ []) (number_plain 5 offset (omega arith)) (send_last (Add 30 3 5) 3 5 refl (omega arith) (omega arith)))
      send_value (Extended kind x) last = absurd (let bad : false ≡ true = last in cc)
      send_value (Holds test) last = absurd (let bad : false ≡ true = last in cc)

    -- a value of the front of a queue, in place of a variable
    module _ (o : Option Queue) (q : ℕ) (left : (i : Inst) (t r : ℕ) → form_of (effect i) ≡ Computes t q r → t < 28 → r < 28 → queue_in (side by_a') i ≡ o) (right : (i : Inst) (t r : ℕ) → form_of (effect i) ≡ Computes t r q → t < 28 → r < 28 → queue_in (side by_a') i ≡ o) where
      abbrev Instead : ℕ → ℕ → Home
      Instead v = with_home v (Register q) (plan.home f)

      low_of : (r : ℕ) (x : Operand) → r < 28 → source (plan.home f) r x < 28
      low_of r x h = source_low (variables f) (plan.home f) (good f) r x h

      left_one : (b : Bool) → either_one b false ≡ true → b ≡ true
      left_one true e = refl
      left_one false e = absurd cc

      left_uses : (t : ℕ) (operator : Operator) (y : Operand) → t < 28 → Uses by_a' o (fetch (plan.home f) 6 y ++ operation_code operator t q (source (plan.home f) 6 y) ∷ [])
      left_uses t operator y low' =
          let i = operation_code operator t q (source (plan.home f) 6 y) in
          behind_plain by_a' o (fetch (plan.home f) 6 y) (i ∷ []) (fetch_plain (variables f) (plan.home f) (good f) 6 y (omega arith)) (first_uses by_a' o i [] (left i t (source (plan.home f) 6 y) (ap form_of (operation_is operator t q (source (plan.home f) 6 y))) low' (low_of 6 y (omega arith))) tt)

      right_uses : (t : ℕ) (operator : Operator) (x : Operand) → t < 28 → Uses by_a' o (fetch (plan.home f) 5 x ++ operation_code operator t (source (plan.home f) 5 x) q ∷ [])
      right_uses t operator x low' =
          let i = operation_code operator t (source (plan.home f) 5 x) q in
          behind_plain by_a' o (fetch (plan.home f) 5 x) (i ∷ []) (fetches x) (first_uses by_a' o i [] (right i t (source (plan.home f) 5 x) (ap form_of (operation_is operator t (source (plan.home f) 5 x) q)) low' (low x)) tt)

      -- a number beside the word
      left_number : (home : ℕ → Home) (t : ℕ) (operator : Operator) (n : ℕ) → t < 28 → Uses by_a' o (fetch home 6 (Number n) ++ operation_code operator t q (source home 6 (Number n)) ∷ [])
      left_number home t operator n low' =
          let r = source home 6 (Number n) in let i = operation_code operator t q r in
          behind_plain by_a' o (fetch home 6 (Number n)) (i ∷ []) (number_fetched home 6 n (omega arith)) (first_uses by_a' o i [] (left i t r (ap form_of (operation_is operator t q r)) low' (number_low home 6 n (omega arith))) tt)

      right_number : (home : ℕ → Home) (t : ℕ) (operator : Operator) (n : ℕ) → t < 28 → Uses by_a' o (fetch home 5 (Number n) ++ operation_code operator t (source home 5 (Number n)) q ∷ [])
      right_number home t operator n low' =
          let r = source home 5 (Number n) in let i = operation_code operator t r q in
          behind_plain by_a' o (fetch home 5 (Number n)) (i ∷ []) (number_fetched home 5 n (omega arith)) (first_uses by_a' o i [] (right i t r (ap form_of (operation_is operator t r q)) low' (number_low home 5 n (omega arith))) tt)

      early_binary : (v t : ℕ) (operator : Operator) (x y : Operand) → either_one (in_operand x v) (in_operand y v) ≡ true → t < 28 → Uses by_a' o (binary_code (Instead v) t operator x y)
      early_binary v t operator (Number n) (Number k) one low' = absurd (let bad : false ≡ true = one in cc)
      early_binary v t operator (Variable a) (Number n) one low' =
          let e : nat_eq v a ≡ true = left_one (nat_eq v a) one in
          let same : nat_eq a v ≡ true = grind (arith, nat_tests) in
          rw same (by (immediate_code operator t q n) refl)
        where
          by : (i : Option Inst) → immediate_code operator t q n ≡ i → Uses by_a' o (behind_or [] i (fetch (Instead v) 6 (Number n) ++ operation_code operator t q (source (Instead v) 6 (Number n)) ∷ []))
          by (Some i) e = first_uses by_a' o i [] (left i t 0 (immediate_form operator t q n i e) low' (omega arith)) tt
          by None e = left_number (Instead v) t operator n low'
      early_binary v t operator (Number n) (Variable b) one low' =
          let same : nat_eq b v ≡ true = grind (arith, nat_tests) in
          rw same (by (exchanged_code operator t q n) refl)
        where
          by : (i : Option Inst) → exchanged_code operator t q n ≡ i → Uses by_a' o (behind_or [] i (fetch (Instead v) 5 (Number n) ++ operation_code operator t (source (Instead v) 5 (Number n)) q ∷ []))
          by (Some i) e = first_uses by_a' o i [] (left i t 0 (exchanged_form operator t q n i e) low' (omega arith)) tt
          by None e = right_number (Instead v) t operator n low'
      early_binary v t operator (Variable a) (Variable b) one low' = by (nat_eq v a) refl one
        where
          by : (z : Bool) → nat_eq v a ≡ z → either_one z (nat_eq v b) ≡ true → Uses by_a' o (combine_registers (Instead v) t operator (Variable a) (Variable b))
          by true e other =
              let same : nat_eq a v ≡ true = grind (arith, nat_tests) in
              let far : nat_eq b v ≡ false = unlike b other in
              rw (same, far) (left_uses t operator (Variable b) low')
            where
              unlike : (b : ℕ) → not (nat_eq v b) ≡ true → nat_eq b v ≡ false
              unlike b e = grind (arith, nat_tests)
          by false e other =
              let same : nat_eq b v ≡ true = grind (arith, nat_tests) in
              let far : nat_eq a v ≡ false = grind (arith, nat_tests) in
              rw (same, far) (right_uses t operator (Variable a) low')

      -- of what is extended or compared only the first instruction reads its sources
      extend_uses : (kind : LoadKind) (t : ℕ) → t < 28 → Uses by_a' o (extend_code kind t q)
      extend_uses I8 t low' = first_uses by_a' o (Slli 7 q (pos 24)) (Srai t 7 (pos 24) ∷ []) (left (Slli 7 q (pos 24)) 7 0 refl (omega arith) (omega arith)) (quiet by_a' o (Srai t 7 (pos 24) ∷ []) ((low', omega arith, omega arith), tt))
      extend_uses U8 t low' = first_uses by_a' o (Andi t q (pos 255)) [] (left (Andi t q (pos 255)) t 0 refl low' (omega arith)) tt
      extend_uses I16 t low' = first_uses by_a' o (Slli 7 q (pos 16)) (Srai t 7 (pos 16) ∷ []) (left (Slli 7 q (pos 16)) 7 0 refl (omega arith) (omega arith)) (quiet by_a' o (Srai t 7 (pos 16) ∷ []) ((low', omega arith, omega arith), tt))
      extend_uses U16 t low' = first_uses by_a' o (Slli 7 q (pos 16)) (Srli t 7 (pos 16) ∷ []) (left (Slli 7 q (pos 16)) 7 0 refl (omega arith) (omega arith)) (quiet by_a' o (Srli t 7 (pos 16) ∷ []) ((low', omega arith, omega arith), tt))
      extend_uses I32 t low' = first_uses by_a' o (Addi t q (pos 0)) [] (left (Addi t q (pos 0)) t 0 refl low' (omega arith)) tt

      left_compares : (relation : Comparison) (t r : ℕ) → t < 28 → r < 28 → Uses by_a' o (compare_code relation t q r)
      left_compares Equal t r low' plain = first_uses by_a' o (Sub 7 q r) (Sltiu t 7 (pos 1) ∷ []) (left (Sub 7 q r) 7 r refl (omega arith) plain) (quiet by_a' o (Sltiu t 7 (pos 1) ∷ []) ((low', omega arith, omega arith), tt))
      left_compares NotEqual t r low' plain = first_uses by_a' o (Sub 7 q r) (Sltu t 0 7 ∷ []) (left (Sub 7 q r) 7 r refl (omega arith) plain) (quiet by_a' o (Sltu t 0 7 ∷ []) ((low', omega arith, omega arith), tt))
      left_compares LessSigned t r low' plain = first_uses by_a' o (Slt t q r) [] (left (Slt t q r) t r refl low' plain) tt
      left_compares AtLeastSigned t r low' plain = first_uses by_a' o (Slt 7 q r) (Xori t 7 (pos 1) ∷ []) (left (Slt 7 q r) 7 r refl (omega arith) plain) (quiet by_a' o (Xori t 7 (pos 1) ∷ []) ((low', omega arith, omega arith), tt))
      left_compares LessUnsigned t r low' plain = first_uses by_a' o (Sltu t q r) [] (left (Sltu t q r) t r refl low' plain) tt
      left_compares AtLeastUnsigned t r low' plain = first_uses by_a' o (Sltu 7 q r) (Xori t 7 (pos 1) ∷ []) (left (Sltu 7 q r) 7 r refl (omega arith) plain) (quiet by_a' o (Xori t 7 (pos 1) ∷ []) ((low', omega arith, omega arith), tt))

      right_compares : (relation : Comparison) (t r : ℕ) → t < 28 → r < 28 → Uses by_a' o (compare_code relation t r q)
      right_compares Equal t r low' plain = first_uses by_a' o (Sub 7 r q) (Sltiu t 7 (pos 1) ∷ []) (right (Sub 7 r q) 7 r refl (omega arith) plain) (quiet by_a' o (Sltiu t 7 (pos 1) ∷ []) ((low', omega arith, omega arith), tt))
      right_compares NotEqual t r low' plain = first_uses by_a' o (Sub 7 r q) (Sltu t 0 7 ∷ []) (right (Sub 7 r q) 7 r refl (omega arith) plain) (quiet by_a' o (Sltu t 0 7 ∷ []) ((low', omega arith, omega arith), tt))
      right_compares LessSigned t r low' plain = first_uses by_a' o (Slt t r q) [] (right (Slt t r q) t r refl low' plain) tt
      right_compares AtLeastSigned t r low' plain = first_uses by_a' o (Slt 7 r q) (Xori t 7 (pos 1) ∷ []) (right (Slt 7 r q) 7 r refl (omega arith) plain) (quiet by_a' o (Xori t 7 (pos 1) ∷ []) ((low', omega arith, omega arith), tt))
      right_compares LessUnsigned t r low' plain = first_uses by_a' o (Sltu t r q) [] (right (Sltu t r q) t r refl low' plain) tt
      right_compares AtLeastUnsigned t r low' plain = first_uses by_a' o (Sltu 7 r q) (Xori t 7 (pos 1) ∷ []) (right (Sltu 7 r q) 7 r refl (omega arith) plain) (quiet by_a' o (Xori t 7 (pos 1) ∷ []) ((low', omega arith, omega arith), tt))

      number_compares : (relation : Comparison) (t n : ℕ) → t < 28 → Uses by_a' o (compare_number_code relation t q n)
      number_compares Equal t n low' = either_uses by_a' o (nat_eq n 0) (Sltiu t q (pos 1) ∷ []) (Addi 7 q (lower (minus 0 n)) ∷ (Sltiu t 7 (pos 1) ∷ [])) (first_uses by_a' o (Sltiu t q (pos 1)) [] (left (Sltiu t q (pos 1)) t 0 refl low' (omega arith)) tt) (first_uses by_a' o (Addi 7 q (lower (minus 0 n))) (Sltiu t 7 (pos 1) ∷ []) (left (Addi 7 q (lower (minus 0 n))) 7 0 refl (omega arith) (omega arith)) (quiet by_a' o (Sltiu t 7 (pos 1) ∷ []) ((low', omega arith, omega arith), tt)))
      number_compares NotEqual t n low' = either_uses by_a' o (nat_eq n 0) (Sltu t 0 q ∷ []) (Addi 7 q (lower (minus 0 n)) ∷ (Sltu t 0 7 ∷ [])) (first_uses by_a' o (Sltu t 0 q) [] (right (Sltu t 0 q) t 0 refl low' (omega arith)) tt) (first_uses by_a' o (Addi 7 q (lower (minus 0 n))) (Sltu t 0 7 ∷ []) (left (Addi 7 q (lower (minus 0 n))) 7 0 refl (omega arith) (omega arith)) (quiet by_a' o (Sltu t 0 7 ∷ []) ((low', omega arith, omega arith), tt)))
      number_compares LessSigned t n low' = first_uses by_a' o (Slti t q (lower n)) [] (left (Slti t q (lower n)) t 0 refl low' (omega arith)) tt
      number_compares AtLeastSigned t n low' = first_uses by_a' o (Slti 7 q (lower n)) (Xori t 7 (pos 1) ∷ []) (left (Slti 7 q (lower n)) 7 0 refl (omega arith) (omega arith)) (quiet by_a' o (Xori t 7 (pos 1) ∷ []) ((low', omega arith, omega arith), tt))
      number_compares LessUnsigned t n low' = first_uses by_a' o (Sltiu t q (lower n)) [] (left (Sltiu t q (lower n)) t 0 refl low' (omega arith)) tt
      number_compares AtLeastUnsigned t n low' = first_uses by_a' o (Sltiu 7 q (lower n)) (Xori t 7 (pos 1) ∷ []) (left (Sltiu 7 q (lower n)) 7 0 refl (omega arith) (omega arith)) (quiet by_a' o (Xori t 7 (pos 1) ∷ []) ((low', omega arith, omega arith), tt))

      left_test : (t : ℕ) (relation : Comparison) (y : Operand) → t < 28 → Uses by_a' o (fetch (plan.home f) 6 y ++ compare_code relation t q (source (plan.home f) 6 y))
      left_test t relation y low' = behind_plain by_a' o (fetch (plan.home f) 6 y) _ (fetch_plain (variables f) (plan.home f) (good f) 6 y (omega arith)) (left_compares relation t (source (plan.home f) 6 y) low' (low_of 6 y (omega arith)))

      right_test : (t : ℕ) (relation : Comparison) (x : Operand) → t < 28 → Uses by_a' o (fetch (plan.home f) 5 x ++ compare_code relation t (source (plan.home f) 5 x) q)
      right_test t relation x low' = behind_plain by_a' o (fetch (plan.home f) 5 x) _ (fetches x) (right_compares relation t (source (plan.home f) 5 x) low' (low x))

      left_number_test : (home : ℕ → Home) (t : ℕ) (relation : Comparison) (n : ℕ) → t < 28 → Uses by_a' o (fetch home 6 (Number n) ++ compare_code relation t q (source home 6 (Number n)))
      left_number_test home t relation n low' = behind_plain by_a' o (fetch home 6 (Number n)) _ (number_fetched home 6 n (omega arith)) (left_compares relation t (source home 6 (Number n)) low' (number_low home 6 n (omega arith)))

      right_number_test : (home : ℕ → Home) (t : ℕ) (relation : Comparison) (n : ℕ) → t < 28 → Uses by_a' o (fetch home 5 (Number n) ++ compare_code relation t (source home 5 (Number n)) q)
      right_number_test home t relation n low' = behind_plain by_a' o (fetch home 5 (Number n)) _ (number_fetched home 5 n (omega arith)) (right_compares relation t (source home 5 (Number n)) low' (number_low home 5 n (omega arith)))

      early_test : (v t : ℕ) (relation : Comparison) (x y : Operand) → either_one (in_operand x v) (in_operand y v) ≡ true → t < 28 → Uses by_a' o (compare_operands (Instead v) t relation x y)
      early_test v t relation (Number n) (Number k) one low' = absurd (let bad : false ≡ true = one in cc)
      early_test v t relation (Variable a) (Number n) one low' =
          let e : nat_eq v a ≡ true = left_one (nat_eq v a) one in
          let same : nat_eq a v ≡ true = grind (arith, nat_tests) in
          rw same (either_uses by_a' o (as_immediate (Instead v) relation n) (compare_number_code relation t q n) (fetch (Instead v) 6 (Number n) ++ compare_code relation t q (source (Instead v) 6 (Number n))) (number_compares relation t n low') (left_number_test (Instead v) t relation n low'))
      early_test v t relation (Number n) (Variable b) one low' = let same : nat_eq b v ≡ true = grind (arith, nat_tests) in rw same (right_number_test (Instead v) t relation n low')
      early_test v t relation (Variable a) (Variable b) one low' = by (nat_eq v a) refl one
        where
          by : (z : Bool) → nat_eq v a ≡ z → either_one z (nat_eq v b) ≡ true → Uses by_a' o (compare_registers (Instead v) t relation (Variable a) (Variable b))
          by true e other =
              let same : nat_eq a v ≡ true = grind (arith, nat_tests) in
              let far : nat_eq b v ≡ false = unlike b other in
              rw (same, far) (left_test t relation (Variable b) low')
            where
              unlike : (b : ℕ) → not (nat_eq v b) ≡ true → nat_eq b v ≡ false
              unlike b e = grind (arith, nat_tests)
          by false e other =
              let same : nat_eq b v ≡ true = grind (arith, nat_tests) in
              let far : nat_eq a v ≡ false = grind (arith, nat_tests) in
              rw (same, far) (right_test t relation (Variable a) low')

      early_value : (v t : ℕ) (y : Value) → reads_once v y ≡ true → t < 28 → Uses by_a' o (value_code (Instead v) t y)
      early_value v t (Same (Variable a)) once low' =
          let same : nat_eq a v ≡ true = grind (arith, nat_tests) in
          rw same (first_uses by_a' o (Addi t q (pos 0)) [] (left (Addi t q (pos 0)) t 0 refl low' (omega arith)) tt)
      early_value v t (Same (Number n)) once low' = absurd (let bad : false ≡ true = once in cc)
      early_value v t (Extended kind (Variable a)) once low' = let same : nat_eq a v ≡ true = grind (arith, nat_tests) in rw same (extend_uses kind t low')
      early_value v t (Extended kind (Number n)) once low' = absurd (let bad : false ≡ true = once in cc)
      early_value v t (Binary operator x y) once low' = early_binary v t operator x y once low'
      early_value v t (Holds test) once low' = early_test v t test.comparison test.left test.right once low'
      early_value v t (FrameAddress offset) once low' = absurd (let bad : false ≡ true = once in cc)

      early_uses : (v d : ℕ) (y : Value) → reads_once v y ≡ true → Uses by_a' o (early_code (plan.home f) q v d y)
      early_uses v d y once = before_plain by_a' o (value_code (Instead v) (register_or 5 (plan.home f d)) y) (keep (plan.home f d)) (early_value v (register_or 5 (plan.home f d)) y once (home_low d)) (keep_plain (plan.home f d))

    -- the block of an action alone
    -- of the test of a place there may be nothing, where a message comes behind it
    needed_uses : (short told good aligned : Bool) (width : Width) (x : Operand) (live : VariableSet) (leaves skips : ℕ) → IsOfSide by_a' (Probe (Place width x)) →
        UsesBefore by_a' told (Some (told_on by_a')) (needed_code plan variables f (if told && good then Nothing else (if aligned then Ends else All)) (Probe (Place width x)) live (jump_over short leaves) (jump_over short skips))
    needed_uses short false good true width x live leaves skips is = before_any (placed_uses width x)
    needed_uses short false good false width x live leaves skips is = before_any (action_uses short (Probe (Place width x)) live leaves skips is)
    needed_uses short true false true width x live leaves skips is = before_any (placed_uses width x)
    needed_uses short true false false width x live leaves skips is = before_any (action_uses short (Probe (Place width x)) live leaves skips is)
    needed_uses short true true aligned width x live leaves skips is = record { only = tt; some = λ q e no alone. no refl e }

    -- a variable that is set to itself uses none
    itself_uses : (short told same : Bool) (v u : ℕ) (live : VariableSet) (leaves skips : ℕ) → IsOfSide by_a' (Compute v (Same (Variable u))) →
        UsesBefore by_a' told None (needed_code plan variables f (if same then Nothing else All) (Compute v (Same (Variable u))) live (jump_over short leaves) (jump_over short skips))
    itself_uses short told true v u live leaves skips is = before_any (no_queue by_a' [] tt)
    itself_uses short told false v u live leaves skips is = before_any (action_uses short (Compute v (Same (Variable u))) live leaves skips is)

    those_uses : (short : Bool) (known : Facts) (a : Action) (k : Actions) (live : VariableSet) (leaves skips : ℕ) → IsOfSide by_a' a →
        UsesBefore by_a' (tells_within 24 k) (action_queue by_a' a) (needed_code plan variables f (need_of plan.memory known a k) a live (jump_over short leaves) (jump_over short skips))
    those_uses short known (Probe (Place width x)) k live leaves skips is =
        needed_uses short (tells_within 24 k) (is_good plan.memory width (operand_bounds known x)) (is_aligned width (operand_bounds known x)) width x live leaves skips is
    those_uses short known (Compute v (Same (Variable u))) k live leaves skips is = itself_uses short (tells_within 24 k) (nat_eq u v) v u live leaves skips is
    those_uses short known a k live leaves skips is = before_any (action_uses short a live leaves skips is)

    -- what computes a variable that isn't live uses none
    dead_uses : (told : Bool) (a : Action) (live : VariableSet) → is_dead a live ≡ true → UsesBefore by_a' told (action_queue by_a' a) []
    dead_uses told (Compute v y) live e = before_any (no_queue by_a' [] tt)
    dead_uses told _ live e = absurd cc

    alone_uses : (short : Bool) (known : Facts) (a : Action) (k : Actions) (live : VariableSet) (leaves skips : ℕ) → IsOfSide by_a' a →
        UsesBefore by_a' (tells_within 24 k) (action_queue by_a' a) (block_code plan variables f (need_of plan.memory known a k) Settled a Settled live (jump_over short leaves) (jump_over short skips))
    alone_uses short known a k live leaves skips is = by (is_dead a live) refl
      where
        by : (b : Bool) → is_dead a live ≡ b
            → UsesBefore by_a' (tells_within 24 k) (action_queue by_a' a) (if b then [] else needed_code plan variables f (need_of plan.memory known a k) a live (jump_over short leaves) (jump_over short skips))
        by true e = dead_uses (tells_within 24 k) a live e
        by false e = those_uses short known a k live leaves skips is

    -- the block of an action, where things stand so before it and so behind it
    block_uses : (short : Bool) (known : Facts) (standing : VariableStanding) (m : Mark) (x : LiveWays) (leaves skips : ℕ) (a : Action) (k : Actions) → Suits standing (Do m a k) x → IsOfSide by_a' a →
        UsesBefore by_a' (tells_within 24 k) (action_queue by_a' a) (block_code plan variables f (need_of plan.memory known a k) standing a (standing_behind a k x) (live k x) (jump_over short leaves) (jump_over short skips))
    block_uses short known Settled m x leaves skips a k suits is =
        by_pairs (λ (a : Action) (k : Actions) (standing : VariableStanding). IsOfSide by_a' a → UsesBefore by_a' (tells_within 24 k) (action_queue by_a' a) (block_code plan variables f (need_of plan.memory known a k) Settled a standing (live k x) (jump_over short leaves) (jump_over short skips))) x
        (λ a k is. alone_uses short known a k (live k x) leaves skips is)
        (λ t y n b k e passes dead is. before_any (no_queue by_a' [] tt))
        (λ v n d y k e once dead is. before_any (early_uses (Some Ld) 30 (λ i t r form a b. on_e i (Some Ld) is (takes_load_left i t r form a b)) (λ i t r form a b. on_e i (Some Ld) is (takes_load_right i t r form a b)) v d y once))
        (λ v n d y k e once dead is. before_any (early_uses (Some Cq) 28 (λ i t r form a b. on_e i (Some Cq) is (takes_copy_left i t r form a b)) (λ i t r form a b. on_e i (Some Cq) is (takes_copy_right i t r form a b)) v d y once))
        a k is
    block_uses short known (Late t y) m x leaves skips a k suits is =
        before_any (passed_on (λ (b : Action). IsOfSide by_a' b → Uses by_a' (action_queue by_a' b) (late_code (plan.home f) b y)) t y a suits.0 (λ d is. action_uses short (Compute d y) none 0 0 tt) (λ last is. send_value is y last) (λ adds. reached_uses t y adds) is)
    block_uses short known (Early v y) m x leaves skips a k suits is = before_any (subst (λ (b : Action). Uses by_a' (action_queue by_a' b) []) (sym suits.0) (no_queue by_a' [] tt))

    -- a branch on what is heard
    hears : (t short : Bool) (relation : Comparison) (n : ℕ) → Uses by_a' (Some (heard_on by_a')) (goes_by t short relation 29 0 n)
    hears true short relation n = first_uses by_a' (Some (heard_on by_a')) (branch_inst relation 29 0 (pos (4 * (n + 1)))) [] (takes_message by_a' (branch_inst relation 29 0 (pos (4 * (n + 1)))) 0 (branch_form relation 29 0 (pos (4 * (n + 1)))) (omega arith)) tt
    hears false short relation n =
        let far : ℤ = pos (4 * (jump_words short + 1)) in
        first_uses by_a' (Some (heard_on by_a')) (branch_inst (opposite relation) 29 0 far) (jump_over short n) (takes_message by_a' (branch_inst (opposite relation) 29 0 far) 0 (branch_form (opposite relation) 29 0 far) (omega arith))
        (quiet by_a' (Some (heard_on by_a')) (jump_over short n) (over_plain short n))

    -- what goes on elsewhere where two registers compare so
    abbrev IsPlainGoing : (Comparison → ℕ → ℕ → List Inst) → Type 0
    IsPlainGoing go = (relation : Comparison) (x y : ℕ) → x < 28 → y < 28 → AllPlain (go relation x y)

    abbrev IsHearing : (Comparison → ℕ → ℕ → List Inst) → Type 0
    IsHearing go = (relation : Comparison) → Uses by_a' (Some (heard_on by_a')) (go relation 29 0)

    told_uses : (o : Option ℕ) (go : Comparison → ℕ → ℕ → List Inst) (t : Test) (way : Bool) → IsPlainGoing go → Uses by_a' (Some (told_on by_a')) (told_by o (plan.home f) go t way)
    told_uses None go t way plain =
        let x : ℕ = source (plan.home f) 5 t.left in let y : ℕ = source (plan.home f) 6 t.right in
        before_plain by_a' (Some (told_on by_a')) (test_code (plan.home f) 29 t) (go (one_way way t.comparison) x y) (writes_uses by_a' (test_code (plan.home f) 29 t) (test_writes (variables f) (plan.home f) (good f) 29 t))
        (plain (one_way way t.comparison) x y (low t.left) (source_low (variables f) (plan.home f) (good f) 6 t.right (omega arith)))
    told_uses (Some k) go t way plain =
        let tell : List Inst = tell_number_code t.comparison (source (plan.home f) 5 t.left) k in
        let last : List Inst = go (one_way way (against_zero t.comparison)) 7 0 in
        behind_plain by_a' (Some (told_on by_a')) (fetch (plan.home f) 5 t.left) (tell ++ last) (fetches t.left)
        (before_plain by_a' (Some (told_on by_a')) tell last (writes_uses by_a' tell (tell_number_writes t.comparison (source (plan.home f) 5 t.left) k (low t.left))) (plain (one_way way (against_zero t.comparison)) 7 0 (omega arith) (omega arith)))

    by_uses : (go : Comparison → ℕ → ℕ → List Inst) (b : Branch) (way : Bool) → IsPlainGoing go → IsHearing go → Uses by_a' (branch_queue by_a' b) (branch_by (plan.home f) go b way)
    by_uses go (Silent t) way plain hearing =
        no_queue by_a' _ (plain_append (fetch (plan.home f) 5 t.left) _ (fetch_plain (variables f) (plan.home f) (good f) 5 t.left (omega arith)) (plain_append (fetch (plan.home f) 6 t.right) _ (fetch_plain (variables f) (plan.home f) (good f) 6 t.right (omega arith))
        (plain (one_way way t.comparison) (source (plan.home f) 5 t.left) (source (plan.home f) 6 t.right) (source_low (variables f) (plan.home f) (good f) 5 t.left (omega arith)) (source_low (variables f) (plan.home f) (good f) 6 t.right (omega arith)))))
    by_uses go (Tells t) way plain hearing = told_uses (immediate_of (plan.home f) t.comparison t.right) go t way plain
    by_uses go Hears way plain hearing = hearing (one_way way NotEqual)

    branch_uses : (short : Bool) (b : Branch) (way : Bool) (n : ℕ) → Uses by_a' (branch_queue by_a' b) (branch_code (plan.home f) short b way n)
    branch_uses short b way n = by_uses (ahead_by short n) b way (λ relation x y h k. goes_plain short relation x y n h k) (λ relation. hears (nat_lt n 1000) short relation n)

    back_uses : (b : Branch) (way : Bool) (n : ℕ) → Uses by_a' (branch_queue by_a' b) (back_branch (plan.home f) b way n)
    back_uses b way n = by_uses (goes_back far) b way (λ relation x y h k. (branch_plain relation x y (back_offset far) h k, tt)) hearing
      where
        far : ℕ
        far = n + before_branch (plan.home f) b way

        hearing : IsHearing (goes_back far)
        hearing relation = first_uses by_a' (Some (heard_on by_a')) (branch_inst relation 29 0 (back_offset far)) [] (takes_message by_a' (branch_inst relation 29 0 (back_offset far)) 0 (branch_form relation 29 0 (back_offset far)) (omega arith)) tt

    -- ---- structured code

    module _ (q : Queue) where
      silent : (is : List Inst) → AllPlain is → LeavesAlone by_a' q is
      silent is h = others_alone by_a' None q is (quiet by_a' None is h) (no_some q)

      abbrev Both : Actions → List Inst → Type 0
      Both code is = (LeavesAlone by_a' q is → IsUntouched by_a' q code) × (IsUntouched by_a' q code → LeavesAlone by_a' q is)

      -- a loop whose turn ends with a jump back
      top_both : (short : Bool) (m : Mark) (body step k : Actions) (turned again rest : List Inst) → Both body turned → Both step again → Both k rest → Both (Loop m body step k) (turned ++ (again ++ (jump_back short (length turned + length again) ++ rest)))
      top_both short m body step k turned again rest one two more =
          let back = jump_back short (length turned + length again) in (
            (λ alone.
                let a = alone_split by_a' q turned (again ++ (back ++ rest)) alone in
                let b = alone_split by_a' q again (back ++ rest) a.1 in
                let c = alone_split by_a' q back rest b.1 in
                (one.0 a.0, two.0 b.0, more.0 c.1)),
            (λ free.
                alone_append by_a' q turned (again ++ (back ++ rest)) (one.1 free.0)
                (alone_append by_a' q again (back ++ rest) (two.1 free.1)
                (alone_append by_a' q back rest (silent back (back_jump_plain short (length turned + length again))) (more.1 free.2)))),
          )

      nothing_untouched : (code : Actions) → does_nothing code ≡ true → IsUntouched by_a' q code
      nothing_untouched Done e = tt
      nothing_untouched (Do m a k) e = absurd cc
      nothing_untouched (If m b p r k) e = absurd cc
      nothing_untouched (Loop m body step k) e = absurd cc

      no_break : action_queue by_a' Break ≢ Some q
      no_break same = absurd cc

      breaks_untouched : (code : Actions) → only_leaves code ≡ true → IsUntouched by_a' q code
      breaks_untouched (Do m Break Done) e = (no_break, tt)
      breaks_untouched code e = absurd cc

      -- a loop whose test stands behind its step
      bottom_both : (short : Bool) (m m' : Mark) (b : Branch) (p r t step k : Actions) (n : ℕ) (jump turned again rest : List Inst) → leaves_first (If m' b p r t) ≡ true → AllPlain jump → Both t turned → Both step again → Both k rest
          → Both (Loop m (If m' b p r t) step k) (jump ++ (turned ++ (again ++ (back_branch (plan.home f) b true n ++ rest))))
      bottom_both short m m' b p r t step k n jump turned again rest is plain one two more =
          let test = back_branch (plan.home f) b true n in
          let uses = back_uses b true n in
          let lists = and_true (does_nothing p) (only_leaves r) (and_true (is_told b) (does_nothing p && only_leaves r) is).1 in (
            (λ alone.
                let a = alone_split by_a' q jump (turned ++ (again ++ (test ++ rest))) alone in
                let c = alone_split by_a' q turned (again ++ (test ++ rest)) a.1 in
                let d = alone_split by_a' q again (test ++ rest) c.1 in
                let e = alone_split by_a' q test rest d.1 in
                (((λ same. uses.some q same e.0), nothing_untouched p lists.0, breaks_untouched r lists.1, one.0 c.0), two.0 d.0, more.0 e.1)),
            (λ free.
                alone_append by_a' q jump (turned ++ (again ++ (test ++ rest))) (silent jump plain)
                (alone_append by_a' q turned (again ++ (test ++ rest)) (one.1 free.0.3)
                (alone_append by_a' q again (test ++ rest) (two.1 free.1)
                (alone_append by_a' q test rest (others_alone by_a' (branch_queue by_a' b) q test uses.only free.0.0) (more.1 free.2))))),
          )

      either_both : (c : Bool) (code : Actions) (xs ys : List Inst) → (c ≡ true → Both code xs) → Both code ys → Both code (if c then xs else ys)
      either_both true code xs ys h k = h refl
      either_both false code xs ys h k = k

      -- a message that is told soon uses its queue
      told_touches : (n : ℕ) (code : Actions) → tells_within n code ≡ true → IsUntouched by_a' q code → Some (told_on by_a') ≡ Some q → ⊥
      told_touches zero code e free same = absurd cc
      told_touches (suc n) Done e free same = absurd cc
      told_touches (suc n) (Do m (Tell x) k) e free same = free.0 same
      told_touches (suc n) (Do m a k) e free same = told_touches n k e free.1 same
      told_touches (suc n) (If m b p r k) e free same = absurd cc
      told_touches (suc n) (Loop m body step k) e free same = absurd cc

      code_both : (short : Bool) (standing : VariableStanding) (known : Facts) (code : Actions) (x : LiveWays) (leaves skips : ℕ) → Suits standing code x → AreOfSide by_a' code → Both code (code_of short plan variables f standing known code x leaves skips)
      code_both short standing known Done x leaves skips suits is = ((λ h. tt), (λ h. tt))
      code_both short standing known (Do m a k) x leaves skips suits is =
          let standing' = standing_behind a k x in
          let rest = code_of short plan variables f standing' (facts_behind plan.memory a known) k x leaves skips in
          let here = block_code plan variables f (need_of plan.memory known a k) standing a standing' (live k x) (jump_over short (length rest + leaves)) (jump_over short (length rest + skips)) in
          let uses = block_uses short known standing m x (length rest + leaves) (length rest + skips) a k suits is.0 in
          let more = code_both short standing' (facts_behind plan.memory a known) k x leaves skips (suits_behind a k x) is.1 in (
            (λ alone.
                let two = alone_split by_a' q here rest alone in
                let free = more.0 two.1 in ((λ e. uses.some q e (λ told same. told_touches 24 k told free same) two.0), free)),
            (λ free. alone_append by_a' q here rest (others_alone by_a' (action_queue by_a' a) q here uses.only free.0) (more.1 free.1)),
          )
      code_both short standing known (If m b p r k) x leaves skips suits is =
          let none = does_nothing p in
          let rest = code_of short plan variables f Settled (facts_past_if b p r known) k x leaves skips in
          let second = code_of short plan variables f Settled (facts_in_second b known) r (behind (live k x) x) (length rest + leaves) (length rest + skips) in
          let past = past_code short (none || does_nothing r) (length second) in
          let far = length past + length second + length rest in
          let first = code_of short plan variables f Settled (facts_in_first b known) p (behind (live k x) x) (far + leaves) (far + skips) in
          let n = if none then length second else length first + length past in
          let decides = branch_code (plan.home f) short b none n in
          let uses = branch_uses short b none n in
          let one = code_both short Settled (facts_in_first b known) p (behind (live k x) x) (far + leaves) (far + skips) tt is.1 in
          let two = code_both short Settled (facts_in_second b known) r (behind (live k x) x) (length rest + leaves) (length rest + skips) tt is.2 in
          let more = code_both short Settled (facts_past_if b p r known) k x leaves skips tt is.3 in (
            (λ alone.
                let a = alone_split by_a' q decides (first ++ (past ++ (second ++ rest))) alone in
                let b = alone_split by_a' q first (past ++ (second ++ rest)) a.1 in
                let c = alone_split by_a' q past (second ++ rest) b.1 in
                let d = alone_split by_a' q second rest c.1 in
                ((λ same. uses.some q same a.0), one.0 b.0, two.0 d.0, more.0 d.1)),
            (λ free.
                alone_append by_a' q decides (first ++ (past ++ (second ++ rest))) (others_alone by_a' (branch_queue by_a' b) q decides uses.only free.0)
                (alone_append by_a' q first (past ++ (second ++ rest)) (one.1 free.1)
                (alone_append by_a' q past (second ++ rest) (silent past (past_plain short (none || does_nothing r) (length second)))
                (alone_append by_a' q second rest (two.1 free.2) (more.1 free.3))))),
          )
      code_both short standing known (Loop m Done step k) x leaves skips suits is =
          let again = code_of short plan variables f Settled (facts_at_step plan.memory Done step known) step (step_ways Done step (live k x)) (jump_words short) 0 in
          top_both short m Done step k (code_of short plan variables f Settled (facts_at_turn plan.memory Done step known) Done (body_ways Done step (live k x)) (length again + jump_words short) 0) again (code_of short plan variables f Settled (facts_past_loop Done step known) k x leaves skips)
          (code_both short Settled (facts_at_turn plan.memory Done step known) Done (body_ways Done step (live k x)) (length again + jump_words short) 0 tt is.0) (code_both short Settled (facts_at_step plan.memory Done step known) step (step_ways Done step (live k x)) (jump_words short) 0 tt is.1) (code_both short Settled (facts_past_loop Done step known) k x leaves skips tt is.2)
      code_both short standing known (Loop m (Do m' a t) step k) x leaves skips suits is =
          let again = code_of short plan variables f Settled (facts_at_step plan.memory (Do m' a t) step known) step (step_ways (Do m' a t) step (live k x)) (jump_words short) 0 in
          top_both short m (Do m' a t) step k (code_of short plan variables f Settled (facts_at_turn plan.memory (Do m' a t) step known) (Do m' a t) (body_ways (Do m' a t) step (live k x)) (length again + jump_words short) 0) again (code_of short plan variables f Settled (facts_past_loop (Do m' a t) step known) k x leaves skips)
          (code_both short Settled (facts_at_turn plan.memory (Do m' a t) step known) (Do m' a t) (body_ways (Do m' a t) step (live k x)) (length again + jump_words short) 0 tt is.0) (code_both short Settled (facts_at_step plan.memory (Do m' a t) step known) step (step_ways (Do m' a t) step (live k x)) (jump_words short) 0 tt is.1) (code_both short Settled (facts_past_loop (Do m' a t) step known) k x leaves skips tt is.2)
      code_both short standing known (Loop m (Loop m' c d t) step k) x leaves skips suits is =
          let again = code_of short plan variables f Settled (facts_at_step plan.memory (Loop m' c d t) step known) step (step_ways (Loop m' c d t) step (live k x)) (jump_words short) 0 in
          top_both short m (Loop m' c d t) step k (code_of short plan variables f Settled (facts_at_turn plan.memory (Loop m' c d t) step known) (Loop m' c d t) (body_ways (Loop m' c d t) step (live k x)) (length again + jump_words short) 0) again (code_of short plan variables f Settled (facts_past_loop (Loop m' c d t) step known) k x leaves skips)
          (code_both short Settled (facts_at_turn plan.memory (Loop m' c d t) step known) (Loop m' c d t) (body_ways (Loop m' c d t) step (live k x)) (length again + jump_words short) 0 tt is.0) (code_both short Settled (facts_at_step plan.memory (Loop m' c d t) step known) step (step_ways (Loop m' c d t) step (live k x)) (jump_words short) 0 tt is.1) (code_both short Settled (facts_past_loop (Loop m' c d t) step known) k x leaves skips tt is.2)
      code_both short standing known (Loop m (If m' b p r t) step k) x leaves skips suits is =
          let ways' = body_ways (If m' b p r t) step (live k x) in
          let rest = code_of short plan variables f Settled (facts_past_loop (If m' b p r t) step known) k x leaves skips in
          let more = code_both short Settled (facts_past_loop (If m' b p r t) step known) k x leaves skips tt is.2 in
          let again = code_of short plan variables f Settled (facts_at_step plan.memory (If m' b p r t) step known) step (step_ways (If m' b p r t) step (live k x)) (jump_words short) 0 in
          let turned = code_of short plan variables f Settled (facts_at_turn plan.memory (If m' b p r t) step known) (If m' b p r t) ways' (length again + jump_words short) 0 in
          let words : ℕ = length (back_branch (plan.home f) b true 0) in
          let again' = code_of short plan variables f Settled (facts_at_step plan.memory (If m' b p r t) step known) step (step_ways (If m' b p r t) step (live k x)) words 0 in
          let tail = code_of short plan variables f Settled (facts_past_if b p r (facts_at_turn plan.memory (If m' b p r t) step known)) t ways' (length again' + words) 0 in
          let n : ℕ = length tail + length again' in
          either_both (has_bottom (If m' b p r t) step) (Loop m (If m' b p r t) step k) (jump_over short n ++ (tail ++ (again' ++ (back_branch (plan.home f) b true n ++ rest)))) (turned ++ (again ++ (jump_back short (length turned + length again) ++ rest)))
          (λ e. bottom_both short m m' b p r t step k n (jump_over short n) tail again' rest (and_true (leaves_first (If m' b p r t)) (is_near (If m' b p r t) step) e).0 (over_plain short n)
          (code_both short Settled (facts_past_if b p r (facts_at_turn plan.memory (If m' b p r t) step known)) t ways' (length again' + words) 0 tt is.0.3) (code_both short Settled (facts_at_step plan.memory (If m' b p r t) step known) step (step_ways (If m' b p r t) step (live k x)) words 0 tt is.1) more)
          (top_both short m (If m' b p r t) step k turned again rest (code_both short Settled (facts_at_turn plan.memory (If m' b p r t) step known) (If m' b p r t) ways' (length again + jump_words short) 0 tt is.0) (code_both short Settled (facts_at_step plan.memory (If m' b p r t) step known) step (step_ways (If m' b p r t) step (live k x)) (jump_words short) 0 tt is.1) more)

      function_both : (code : Actions) → AreOfSide by_a' code → Both code (function_code plan variables f code)
      function_both code is =
          let enters = entry_code plan f in
          let does = code_of (is_short code) plan variables f Settled unknown code nowhere 0 0 in
          let both = code_both (is_short code) Settled unknown code nowhere 0 0 tt is in (
            (λ alone. both.0 (alone_split by_a' q enters does alone).1),
            (λ free. alone_append by_a' q enters does (silent enters (entry_plain plan variables good f)) (both.1 free)),
          )

pub function_uses : (plan : Plan) (variables : ℕ → ℕ) → ((f v : ℕ) → IsHome (variables f) (plan.home f v)) → (f : ℕ) (code : Actions) → AreOfSide plan.by_a code → (q : Queue) → LeavesAlone plan.by_a q (function_code plan variables f code) ↔ IsUntouched plan.by_a q code
function_uses plan variables good f code is q = function_both plan variables good f q code is

pub start_uses : (plan : Plan) (main frames : ℕ) (q : Queue) → LeavesAlone plan.by_a q (start_code plan main frames ++ finish_code plan.by_a)
start_uses plan main frames q =
    let is = start_code plan main frames ++ finish_code plan.by_a in
    others_alone plan.by_a None q is (quiet plan.by_a None is (plain_append (start_code plan main frames) (finish_code plan.by_a) (start_plain plan main frames) (finish_plain plan.by_a))) (no_some q)
