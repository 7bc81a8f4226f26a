-- Checks, messages that may halt, prints and halts.
use Rattle.std.proofs.Common.{◌≡◌, ◌≢◌, ℕ, ◌+◌, ◌-◌, ◌*◌, ◌%◌, ◌^◌, ◌<◌, ◌≤◌, Bool, true, false, not, ◌||◌, List, ◌∷◌, ◌++◌, Option, Some, None, length, refl, sym, ap, ◌∙◌, arith, append-nil, append_assoc, []}
use Rattle.std.specs.Prelude.{nat_lt, nat_eq, if◌then◌else◌, ℤ, pos, negsuc, bit_and}
use Rattle.std.proofs.Common.{◌⊎◌, inl, inr}
use Rattle.std.proofs.lemmas.Bool.Decides.{nat_tests}
use Rattle.std.proofs.lemmas.Nat.{and_mask}
use Rattle.dae_base.specs.Words.{plus, minus, word, size}
use Rattle.dae_base.specs.Texts.{byte_text, decimal_text, hex_text}
use Rattle.dae_base.specs.declared.Signedness.TheVariants as signedness
use Rattle.dae_base.specs.declared.Side.TheVariants.{A, E}
use Rattle.dae_base.specs.declared.Width.{Width}
use Rattle.dae_base.specs.declared.Width.TheVariants.{B1, B2, B4}
use Rattle.dae_base.proofs.Laws.{plus_small}
use Rattle.dae_encode.specs.declared.Inst.{Inst}
use Rattle.dae_encode.specs.declared.Inst.TheVariants.{Addi, Andi, Beq, Bne, Bltu, Bgeu, Ecall}
use Rattle.dae_encode.specs.declared.Halt.TheVariants.{Status, Trap}
use Rattle.dae_encode.specs.Instructions.{effect, branch}
use Rattle.dae_encode.specs.Processor.{Processor, called, prints}
use Rattle.dae_ir.specs.Classes.{VariableSet}
use Rattle.dae_meaning.specs.Operations.{spelled, misplaced, passed}
use Rattle.dae_ir.specs.Form.{value}
use Rattle.dae_ir.specs.Programs.{side}
use Rattle.dae_ir.specs.Deeds.{Plainly, WithStatus, WithTrap, Deed, Went, Take, Push, Say, Halts, told_on, heard_on, trapped, probed, failure_code, heard_code}
use Rattle.dae_ir.specs.declared.form.Operand.{Operand}
use Rattle.dae_ir.specs.declared.form.Check.TheVariants.{Place, Room, Frame, Abort}
use Rattle.dae_ir.specs.declared.stream.Action.TheVariants.{Probe}
use Rattle.dae_ir.specs.declared.stream.Failure.{Failure}
use Rattle.dae_meaning.specs.declared.Spelling.{Spelling}
use Rattle.dae_meaning.specs.declared.Spelling.TheVariants.{Byte, Signed, Unsigned, Hexadecimal}
use Rattle.dae_select_walks.specs.Walks.{WalkSetting}
use Rattle.dae_select_walks.specs.Homes.{Contents}
use Rattle.dae_select_walks.specs.Agrees.{Plan, Moment, depth_of, top_of, counted_depth}
use Rattle.dae_select_walks.proofs.LawsOfWalks.{put, step_prints, step_ends, step_stops}
use Rattle.dae_select_blocks.specs.Blocks.{check_code, source, fetch, number_code, fail_code, over, align_code, bounds_code, offset_bounds_code, in_bounds_code, lower, is_immediate, room_code, frames_room_code, call_number, system_code, hear_code}
use Rattle.dae_select_blocks.specs.Code.{placed_code}
use Rattle.dae_select_blocks.specs.Fits.{Fits}
use Rattle.dae_select_blocks.proofs.Plain.{computes, takes, pushes, put_other, branch_taken, branch_passed, hears_zero, hears_other}
use Rattle.dae_select_blocks.proofs.Frames.{runs_number}
use Rattle.dae_select_blocks.proofs.Halves.{immediate_word}
use Rattle.dae_select_blocks.proofs.Runs.{runs_quiet, runs_push, runs_take, runs_say, runs_halt, runs_over, runs_hear}
use Rattle.dae_select_blocks.proofs.Agreement.{Ready, IsScratch, ready_like}
use Rattle.dae_select_blocks.proofs.Operands.{like_put, runs_move}
use Rattle.dae_select_blocks.specs.Wanted.{IsNumber}
use Rattle.dae_select_blocks.proofs.Computing.{source_plain, source_apart, runs_one, is_scratch}
use Rattle.dae_select_blocks.proofs.Uses.{pushes_message, takes_message, hears_message}
use Rattle.dae_select_blocks.proofs.Actions.{To, Does', Stays, Reads, ends, ready_stays}
use Rattle.dae_select_blocks.proofs.Ranges.{failure_small}

over_length : (b : Bool) (code : ℕ) → word (over b) ≡ 4 * (length (fail_code b code) + 1)
over_length true code = refl
over_length false code = refl

fail_short : (b : Bool) (code : ℕ) → length (fail_code b code) < 1000
fail_short true code = omega arith
fail_short false code = omega arith

-- depths compare as what is counted of them
counted_less : (leaf : Bool) (d l : ℕ) → 1 ≤ d → d ≤ l → nat_lt (if leaf then d - 1 else d) (if leaf then l - 1 else l) ≡ nat_lt d l
counted_less true d l some le = by (nat_lt d l) refl
  where
    by : (b : Bool) → nat_lt d l ≡ b → nat_lt (d - 1) (l - 1) ≡ b
    by true e = grind (arith, nat_tests)
    by false e = grind (arith, nat_tests)
counted_less false d l some le = refl

counted_few : (leaf : Bool) (l : ℕ) → (if leaf then l - 1 else l) ≤ l
counted_few true l = omega arith
counted_few false l = omega arith

-- on E the registers of the environment call have no meaning between blocks
call_scratch : (plan : Plan) (r : ℕ) → plan.by_a ≡ false → r ≡ 10 ⊎ r ≡ 17 → IsScratch plan r
call_scratch plan r by_e (inl e) = rw e (record { zero = (omega arith); two = (omega arith); three = (omega arith); link = (omega arith); home = refl; depth = (λ by_a. absurd cc); addresses = (λ by_a. (omega arith)) })
call_scratch plan r by_e (inr e) = rw e (record { zero = (omega arith); two = (omega arith); three = (omega arith); link = (omega arith); home = refl; depth = (λ by_a. (omega arith)); addresses = (λ by_a. (omega arith)) })

-- 16 less of an offset are 16 less of the sum
less_of_sum : (a offset : ℕ) → a < 2 ^ 32 → offset < 2048 → plus a (minus offset 16) ≡ plus (plus a offset) (word (negsuc 15))
less_of_sum a offset small few = omega arith

less_is_address : (a offset : ℕ) → a < 2 ^ 32 → offset ≡ 16 → a ≡ plus (plus a offset) (word (negsuc 15))
less_is_address a offset small is = omega arith

less_is_immediate : (offset : ℕ) → offset < 2048 → is_immediate (minus offset 16) ≡ true
unfolding is_immediate
less_is_immediate offset few = grind (arith, nat_tests)

module _ (s : WalkSetting) (plan : Plan) (variables : ℕ → ℕ) (fine : Fits s plan variables) (live live' : VariableSet) (m : Moment) where
  by_side : plan.by_a ≡ false → s.side ≡ E
  by_side e = fine.side ∙ ap side e

  a_side : plan.by_a ≡ true → s.side ≡ A
  a_side e = fine.side ∙ ap side e

  -- E calls with an argument
  system : {c : Contents} {d : Deed} (n : ℕ) (x : Operand) (is : List Inst) → plan.by_a ≡ false → n < 2048 → Ready plan live m c → Reads s plan variables fine live live' m x → IsNumber x →
      ((c' : Contents) → Ready plan live m c' → c'.register 17 ≡ n → c'.register 10 ≡ value x m.env → Does' s plan variables fine live live' m (Ecall ∷ is) c' d) → Does' s plan variables fine live live' m (system_code (plan.home m.function) n x ++ is) c d
  system n x is by_e small h reads number run =
      rw append_assoc (runs_move s plan variables fine (To s plan variables fine live live' m) 10 x (Addi 17 0 (pos n) ∷ (Ecall ∷ is)) h reads number (λ c1 r imm like plain same fits.
      let t = To s plan variables fine live live' m in
      let h1 = ready_like s plan variables fine 5 (is_scratch plan 5 (omega arith) (omega arith)) like h in
      let h2 = ready_like s plan variables fine 10 (call_scratch plan 10 by_e (inl refl)) (like_put 10 (value x m.env) c1 fits h1.fits) h1 in
      let c2 : Contents = put 10 (value x m.env) c1 in
      let number_is : plus (c2.register 0) (word (pos n)) ≡ n = rw h2.zero (omega arith) in
      let h3 = ready_like s plan variables fine 17 (call_scratch plan 17 by_e (inr refl)) (like_put 17 n c2 (omega arith) h2.fits) h2 in
      runs_quiet s plan.private t (computes s plan.private t (Addi 10 r imm) 10 r 0 (λ x y. plus x (word imm)) refl (omega arith) plain (omega arith) (plus_small (c1.register r) (word imm))) (rw same (
      runs_quiet s plan.private t (computes s plan.private t (Addi 17 0 (pos n)) 17 0 0 (λ x y. plus x (word (pos n))) refl (omega arith) (omega arith) (omega arith) (plus_small (c2.register 0) n)) (rw number_is (
      run (put 17 n c2) h3 refl refl))))))

  says : {c : Contents} (n : ℕ) (text : ℕ → List ℕ) (x : Operand) → n ≤ 5 → ((q : Processor) (v : ℕ) → called E q n v ≡ prints q (text v)) → plan.by_a ≡ false → Ready plan live m c → Reads s plan variables fine live live' m x → IsNumber x → Stays s plan variables fine live live' m →
      Does' s plan variables fine live live' m (system_code (plan.home m.function) n x) c (Say (text (value x m.env)) (Went m.env))
  says n text x known does by_e h reads number stays =
      let t = To s plan variables fine live live' m in
      let run = system {d = Say (text (value x m.env)) (Went m.env)} n x [] by_e (omega arith) h reads number (λ c1 h1 selects argument.
      runs_say s plan.private t (λ k w small here is p shows. step_prints s plan.private (by_side by_e) w n (text (value x m.env)) shows here is small selects known (λ q. rw argument (does q (value x m.env)))) (ends s plan variables fine live live' m m.env (ready_stays s plan variables fine live live' m stays h1))) in
      rw append-nil at run

  -- Emit
  pub emit_done : {c : Contents} (spelling : Spelling) (x : Operand) → plan.by_a ≡ false → Ready plan live m c → Reads s plan variables fine live live' m x → IsNumber x → Stays s plan variables fine live live' m →
      Does' s plan variables fine live live' m (system_code (plan.home m.function) (call_number spelling) x) c (Say (spelled spelling (value x m.env)) (Went m.env))
  unfolding spelled
  emit_done Byte x by_e h reads number stays = says 1 byte_text x (omega arith) (λ q v. refl) by_e h reads number stays
  emit_done Signed x by_e h reads number stays = says 2 (λ v. decimal_text v signedness.Signed) x (omega arith) (λ q v. refl) by_e h reads number stays
  emit_done Unsigned x by_e h reads number stays = says 3 (λ v. decimal_text v signedness.Unsigned) x (omega arith) (λ q v. refl) by_e h reads number stays
  emit_done Hexadecimal x by_e h reads number stays = says 4 hex_text x (omega arith) (λ q v. refl) by_e h reads number stays

  -- Stop
  pub stop_e_done : {c : Contents} (x : Operand) → plan.by_a ≡ false → Ready plan live m c → Reads s plan variables fine live live' m x → IsNumber x →
      Does' s plan variables fine live live' m (system_code (plan.home m.function) 0 x) c (Halts (WithStatus (value x m.env)))
  stop_e_done x by_e h reads number =
      let t = To s plan variables fine live live' m in
      let run = system {d = Halts (WithStatus (value x m.env))} 0 x [] by_e (omega arith) h reads number (λ c1 h1 selects argument.
      runs_halt s plan.private t (λ k w small here is p shows. step_ends s plan.private (by_side by_e) w 0 (Status (value x m.env)) shows here is selects (omega arith) (λ q. rw argument refl))) in
      rw append-nil at run

  pub stop_a_done : {c : Contents} (is : List Inst) → plan.by_a ≡ true → Does' s plan variables fine live live' m (Ecall ∷ is) c (Halts Plainly)
  stop_a_done is by_a = runs_halt s plan.private (To s plan variables fine live live' m) (λ k w small here is p shows. step_stops s plan.private (a_side by_a) w shows here is)

  -- ---- traps

  -- E calls with the code of a trap
  trap_done : {c : Contents} (code : ℕ) (is : List Inst) → plan.by_a ≡ false → code < 2048 → Ready plan live m c → Does' s plan variables fine live live' m (Addi 10 0 (pos code) ∷ (Addi 17 0 (pos 5) ∷ (Ecall ∷ is))) c (Halts (WithTrap code))
  trap_done {c} code is by_e small h =
      let t = To s plan variables fine live live' m in
      let one : plus (c.register 0) (word (pos code)) ≡ code = rw h.zero (omega arith) in
      let c1 : Contents = put 10 code c in
      let two : plus (c1.register 0) (word (pos 5)) ≡ 5 = rw h.zero refl in
      runs_quiet s plan.private t (computes s plan.private t (Addi 10 0 (pos code)) 10 0 0 (λ x y. plus x (word (pos code))) refl (omega arith) (omega arith) (omega arith) (plus_small (c.register 0) code)) (rw one (
      runs_quiet s plan.private t (computes s plan.private t (Addi 17 0 (pos 5)) 17 0 0 (λ x y. plus x (word (pos 5))) refl (omega arith) (omega arith) (omega arith) (plus_small (c1.register 0) 5)) (rw two (
      runs_halt s plan.private t (λ k w small here is p shows. step_ends s plan.private (by_side by_e) w 5 (Trap code) shows here is refl (omega arith) (λ q. refl))))))

  -- the code of a trap is pushed, and the processor halts with it
  pub fails : {c : Contents} (b : Bool) (code : ℕ) (is : List Inst) → plan.by_a ≡ b → code < 2048 → Ready plan live m c → Does' s plan variables fine live live' m (fail_code b code ++ is) c (Push (told_on b) code (Halts (trapped b code)))
  fails {c} true code is by_a small h =
      let t = To s plan variables fine live live' m in
      let legal = pushes_message s.copies true 0 (omega arith) in
      runs_push s plan.private t (pushes s plan.private t 29 0 (pos code) (told_on true) code (omega arith) refl (rw (a_side by_a) legal) (rw h.zero (omega arith))) (omega arith) (stop_a_done is by_a)
  fails {c} false code is by_e small h =
      let t = To s plan variables fine live live' m in
      let legal = pushes_message s.copies false 0 (omega arith) in
      let one : plus (c.register 0) (word (pos code)) ≡ code = rw h.zero (omega arith) in
      runs_push s plan.private t (pushes s plan.private t 29 0 (pos code) (told_on false) code (omega arith) refl (rw (by_side by_e) legal) one) (omega arith) (trap_done code is by_e small h)

  -- a branch over it, that is taken or passed
  guarded : {c : Contents} {d : Deed} (code : ℕ) (i : Inst) (x y : ℕ) (test : ℕ → ℕ → Bool) (rest : List Inst) → effect i ≡ branch x y (over plan.by_a) test → x < 28 → y < 28 → test (c.register x) (c.register y) ≡ true → Does' s plan variables fine live live' m rest c d →
      Does' s plan variables fine live live' m (i ∷ (fail_code plan.by_a code ++ rest)) c d
  guarded code i x y test rest does a b passes run =
      let t = To s plan variables fine live live' m in
      runs_over s plan.private t (fail_code plan.by_a code) rest (branch_taken s plan.private t i x y (over plan.by_a) test (length (fail_code plan.by_a code)) does a b passes (over_length plan.by_a code) (fail_short plan.by_a code)) run

  caught : {c : Contents} (code : ℕ) (i : Inst) (x y : ℕ) (test : ℕ → ℕ → Bool) (rest : List Inst) → effect i ≡ branch x y (over plan.by_a) test → x < 28 → y < 28 → test (c.register x) (c.register y) ≡ false → code < 2048 → Ready plan live m c →
      Does' s plan variables fine live live' m (i ∷ (fail_code plan.by_a code ++ rest)) c (Push (told_on plan.by_a) code (Halts (trapped plan.by_a code)))
  caught code i x y test rest does a b no' small h =
      let t = To s plan variables fine live live' m in
      runs_quiet s plan.private t (branch_passed s plan.private t i x y (over plan.by_a) test does a b no') (fails plan.by_a code rest refl small h)

  -- Probe(Zero), on both sides
  pub zero_done : {c : Contents} (x : Operand) → Ready plan live m c → Reads s plan variables fine live live' m x → IsNumber x → Stays s plan variables fine live live' m →
      Does' s plan variables fine live live' m (fetch (plan.home m.function) 5 x ++ Bne (source (plan.home m.function) 5 x) 0 (over plan.by_a) ∷ fail_code plan.by_a 1) c (probed plan.by_a (if nat_eq (value x m.env) 0 then Some 1 else None) m.env)
  zero_done x h reads number stays =
      let t = To s plan variables fine live live' m in
      let r = source (plan.home m.function) 5 x in let plain = source_plain s plan variables fine t m.function 5 x (omega arith) in
      runs_one s plan variables fine t x (Bne r 0 (over plan.by_a) ∷ fail_code plan.by_a 1) h reads number (λ c1 h1 got. by c1 h1 got (nat_eq (value x m.env) 0) refl)
    where
      by : (c1 : Contents) → Ready plan live m c1 → c1.register (source (plan.home m.function) 5 x) ≡ value x m.env → (b : Bool) → nat_eq (value x m.env) 0 ≡ b →
          Does' s plan variables fine live live' m (Bne (source (plan.home m.function) 5 x) 0 (over plan.by_a) ∷ fail_code plan.by_a 1) c1 (probed plan.by_a (if b then Some 1 else None) m.env)
      by c1 h1 got true e =
          let t = To s plan variables fine live live' m in
          let r = source (plan.home m.function) 5 x in let plain = source_plain s plan variables fine t m.function 5 x (omega arith) in
          let fails' : not (nat_eq (c1.register r) (c1.register 0)) ≡ false = rw (got, h1.zero, e) refl in
          rw append-nil at (caught 1 (Bne r 0 (over plan.by_a)) r 0 (λ x y. not (nat_eq x y)) [] refl plain (omega arith) fails' (omega arith) h1)
      by c1 h1 got false e =
          let t = To s plan variables fine live live' m in
          let r = source (plan.home m.function) 5 x in let plain = source_plain s plan variables fine t m.function 5 x (omega arith) in
          let passes : not (nat_eq (c1.register r) (c1.register 0)) ≡ true = rw (got, h1.zero, e) refl in
          rw append-nil at (guarded 1 (Bne r 0 (over plan.by_a)) r 0 (λ x y. not (nat_eq x y)) [] refl plain (omega arith) passes (ends s plan variables fine live live' m m.env (ready_stays s plan variables fine live live' m stays h1)))

  module _ (by_a : plan.by_a ≡ true) where
    guarded_a : {c : Contents} {d : Deed} (code : ℕ) (i : Inst) (x y : ℕ) (test : ℕ → ℕ → Bool) (rest : List Inst) → effect i ≡ branch x y (pos 12) test → x < 28 → y < 28 → test (c.register x) (c.register y) ≡ true → Does' s plan variables fine live live' m rest c d →
        Does' s plan variables fine live live' m (i ∷ (fail_code true code ++ rest)) c d
    guarded_a code i x y test rest does a b passes run =
        let t = To s plan variables fine live live' m in
        runs_over s plan.private t (fail_code true code) rest (branch_taken s plan.private t i x y (pos 12) test 2 does a b passes refl (omega arith)) run

    caught_a : {c : Contents} (code : ℕ) (i : Inst) (x y : ℕ) (test : ℕ → ℕ → Bool) (rest : List Inst) → effect i ≡ branch x y (pos 12) test → x < 28 → y < 28 → test (c.register x) (c.register y) ≡ false → code < 2048 → Ready plan live m c →
        Does' s plan variables fine live live' m (i ∷ (fail_code true code ++ rest)) c (probed true (Some code) m.env)
    caught_a code i x y test rest does a b no' small h =
        let t = To s plan variables fine live live' m in
        runs_quiet s plan.private t (branch_passed s plan.private t i x y (pos 12) test does a b no') (fails true code rest by_a small h)

    -- passes or fails by a test, where nothing follows
    tested : {c : Contents} (code : ℕ) (i : Inst) (x y : ℕ) (test : ℕ → ℕ → Bool) (bad : Bool) → effect i ≡ branch x y (pos 12) test → x < 28 → y < 28 → test (c.register x) (c.register y) ≡ not bad → code < 2048 → Ready plan live m c → Stays s plan variables fine live live' m →
        Does' s plan variables fine live live' m (i ∷ fail_code true code) c (probed true (if bad then Some code else None) m.env)
    tested code i x y test true does a b e small h stays = rw append-nil at (caught_a code i x y test [] does a b e small h)
    tested code i x y test false does a b e small h stays = rw append-nil at (guarded_a code i x y test [] does a b e (ends s plan variables fine live live' m m.env (ready_stays s plan variables fine live live' m stays h)))

    -- of an aligned address the last byte tells both ends
    abbrev IsRange : ℕ → ℕ → Type 0
    IsRange a n = nat_lt (plus a (word (negsuc (16 - n)))) (plan.memory - 16) ≡ not (nat_lt a 16 || nat_lt plan.memory (a + n))

    range_one : (a : ℕ) → a < 2 ^ 32 → IsRange a 1
    range_one a l = let most = fine.common in let least = fine.least in grind (arith, nat_tests)

    range_two : (a : ℕ) → a < 2 ^ 32 → a % 2 ≡ 0 → IsRange a 2
    range_two a l even = let most = fine.common in let least = fine.least in grind (arith, nat_tests)

    range_four : (a : ℕ) → a < 2 ^ 32 → a % 4 ≡ 0 → IsRange a 4
    range_four a l whole = let most = fine.common in let least = fine.least in grind (arith, nat_tests)

    abbrev range_code : ℕ → ℕ → List Inst
    range_code r n = Addi 6 r (negsuc (16 - n)) ∷ (Bltu 6 4 (pos 12) ∷ fail_code true 2)

    -- the address lies in common memory
    range_done : {c : Contents} (r a n : ℕ) → r < 28 → Ready plan live m c → c.register r ≡ a → IsRange a n → Stays s plan variables fine live live' m →
        Does' s plan variables fine live live' m (range_code r n) c (probed true (if nat_lt a 16 || nat_lt plan.memory (a + n) then Some 2 else None) m.env)
    range_done {c} r a n plain h got is stays =
        let t = To s plan variables fine live live' m in
        let v : ℕ = plus (c.register r) (word (negsuc (16 - n))) in
        let fits : v < 2 ^ 32 = plus_small (c.register r) (word (negsuc (16 - n))) in
        let h1 = ready_like s plan variables fine 6 (is_scratch plan 6 (omega arith) (omega arith)) (like_put 6 v c fits h.fits) h in
        let c1 : Contents = put 6 v c in
        let same : nat_lt (c1.register 6) (c1.register 4) ≡ not (nat_lt a 16 || nat_lt plan.memory (a + n)) = rw (h1.agrees.addresses by_a, got) is in
        runs_quiet s plan.private t (computes s plan.private t (Addi 6 r (negsuc (16 - n))) 6 r 0 (λ x y. plus x (word (negsuc (16 - n)))) refl (omega arith) plain (omega arith) fits) (
        tested 2 (Bltu 6 4 (pos 12)) 6 4 (λ x y. nat_lt x y) (nat_lt a 16 || nat_lt plan.memory (a + n)) refl (omega arith) (omega arith) same (omega arith) h1 stays)

    abbrev range_code_fault : ℕ → ℕ → Option ℕ
    range_code_fault a n = if nat_lt a 16 || nat_lt plan.memory (a + n) then Some 2 else None

    aligned : {c : Contents} (r a n mask : ℕ) → ((x : ℕ) → bit_and x mask ≡ x % n) → 0 < n → n ≤ 4 → (a % n ≡ 0 → IsRange a n) → r < 28 → r ≢ 6 → Ready plan live m c → c.register r ≡ a → Stays s plan variables fine live live' m →
        Does' s plan variables fine live live' m (Andi 6 r (pos mask) ∷ (Beq 6 0 (pos 12) ∷ (fail_code true 3 ++ range_code r n))) c (probed true (if not (nat_eq (a % n) 0) then Some 3 else range_code_fault a n) m.env)
    aligned {c} r a n mask masks some short is_range plain apart h got stays = by (nat_eq (a % n) 0) refl
      where
        last : (c1 : Contents) (b : Bool) → nat_eq (a % n) 0 ≡ b → Ready plan live m c1 → c1.register r ≡ a → nat_eq (c1.register 6) (c1.register 0) ≡ b → Does' s plan variables fine live live' m (Beq 6 0 (pos 12) ∷ (fail_code true 3 ++ range_code r n)) c1 (probed true (if not b then Some 3 else range_code_fault a n) m.env)
        last c1 true e h1 still same =
            let whole : a % n ≡ 0 = grind (arith, nat_tests) in
            guarded_a 3 (Beq 6 0 (pos 12)) 6 0 (λ x y. nat_eq x y) (range_code r n) refl (omega arith) (omega arith) same (range_done r a n plain h1 still (is_range whole) stays)
        last c1 false e h1 still same = caught_a 3 (Beq 6 0 (pos 12)) 6 0 (λ x y. nat_eq x y) (range_code r n) refl (omega arith) (omega arith) same (omega arith) h1

        by : (b : Bool) → nat_eq (a % n) 0 ≡ b → Does' s plan variables fine live live' m (Andi 6 r (pos mask) ∷ (Beq 6 0 (pos 12) ∷ (fail_code true 3 ++ range_code r n))) c (probed true (if not b then Some 3 else range_code_fault a n) m.env)
        by b e =
            let t = To s plan variables fine live live' m in
            let v : ℕ = bit_and (c.register r) mask in
            let is : v ≡ a % n = rw got (masks a) in
            let fits : v < 2 ^ 32 = omega arith in
            let c1 : Contents = put 6 v c in
            let h1 = ready_like s plan variables fine 6 (is_scratch plan 6 (omega arith) (omega arith)) (like_put 6 v c fits h.fits) h in
            let still : c1.register r ≡ a = put_other 6 v r c apart ∙ got in
            let same : nat_eq (c1.register 6) (c1.register 0) ≡ b = rw (h1.zero, is) e in
            runs_quiet s plan.private t (computes s plan.private t (Andi 6 r (pos mask)) 6 r 0 (λ x y. bit_and x (word (pos mask))) refl (omega arith) plain (omega arith) fits) (last c1 b e h1 still same)

    place_at : {c : Contents} (width : Width) (r a : ℕ) → r < 28 → r ≢ 6 → Ready plan live m c → c.register r ≡ a → Stays s plan variables fine live live' m →
        Does' s plan variables fine live live' m (align_code width r ++ range_code r (size width)) c (probed true (misplaced width a plan.memory) m.env)
    unfolding misplaced
    place_at B1 r a plain apart h got stays =
        let fits : a < 2 ^ 32 = (let f = h.fits r in rw got at f) in
        let whole : nat_eq (a % 1) 0 ≡ true = grind (arith, nat_tests) in rw whole (range_done r a 1 plain h got (range_one a fits) stays)
    place_at B2 r a plain apart h got stays =
        let fits : a < 2 ^ 32 = (let f = h.fits r in rw got at f) in
        aligned r a 2 1 (λ x. and_mask x 1) (omega arith) (omega arith) (range_two a fits) plain apart h got stays
    place_at B4 r a plain apart h got stays =
        let fits : a < 2 ^ 32 = (let f = h.fits r in rw got at f) in
        aligned r a 4 3 (λ x. and_mask x 2) (omega arith) (omega arith) (range_four a fits) plain apart h got stays

    -- Probe(Place)
    pub place_done : {c : Contents} (f : ℕ) (width : Width) (x : Operand) → m.function ≡ f → Ready plan live m c → Reads s plan variables fine live live' m x → IsNumber x → Stays s plan variables fine live live' m →
        Does' s plan variables fine live live' m (check_code plan m.function (Place width x)) c (probed true (misplaced width (value x m.env) plan.memory) m.env)
    place_done f width x is h reads number stays =
        let t = To s plan variables fine live live' m in
        let r = source (plan.home m.function) 5 x in
        runs_one s plan variables fine t x (align_code width r ++ range_code r (size width)) h reads number (λ c1 h1 got.
        place_at width r (value x m.env) (source_plain s plan variables fine t m.function 5 x (omega arith)) (source_apart s plan variables fine t m.function 5 6 x (omega arith) (omega arith) (omega arith)) h1 got stays)

    -- the byte lies in common memory whose address less 16 is in a register
    byte_done : {c : Contents} (r a : ℕ) → r < 28 → a < 2 ^ 32 → Ready plan live m c → c.register r ≡ plus a (word (negsuc 15)) → Stays s plan variables fine live live' m →
        Does' s plan variables fine live live' m (Bltu r 4 (pos 12) ∷ fail_code true 2) c (probed true (misplaced B1 a plan.memory) m.env)
    unfolding misplaced
    byte_done {c} r a plain small h got stays =
        let whole : nat_eq (a % 1) 0 ≡ true = grind (arith, nat_tests) in
        let same : nat_lt (c.register r) (c.register 4) ≡ not (nat_lt a 16 || nat_lt plan.memory (a + 1)) = rw (h.agrees.addresses by_a, got) (range_one a small) in
        rw whole (tested 2 (Bltu r 4 (pos 12)) r 4 (λ x y. nat_lt x y) (nat_lt a 16 || nat_lt plan.memory (a + 1)) refl plain (omega arith) same (omega arith) h stays)

    -- the byte so many bytes behind the address in a register does
    offset_done : {c : Contents} (r a offset : ℕ) → r < 28 → offset < 2048 → Ready plan live m c → c.register r ≡ a → Stays s plan variables fine live live' m →
        Does' s plan variables fine live live' m (offset_bounds_code r offset) c (probed true (misplaced B1 (plus a offset) plan.memory) m.env)
    offset_done {c} r a offset plain few h got stays = by (nat_eq offset 16) refl
      where
        small : a < 2 ^ 32
        small = let f = h.fits r in rw got at f

        by : (b : Bool) → nat_eq offset 16 ≡ b → Does' s plan variables fine live live' m (if b then Bltu r 4 (pos 12) ∷ fail_code true 2 else Addi 6 r (lower (minus offset 16)) ∷ (Bltu 6 4 (pos 12) ∷ fail_code true 2)) c (probed true (misplaced B1 (plus a offset) plan.memory) m.env)
        by true e =
            let is : offset ≡ 16 = grind (arith, nat_tests) in
            byte_done r (plus a offset) plain (plus_small a offset) h (got ∙ less_is_address a offset small is) stays
        by false e =
            let t = To s plan variables fine live live' m in
            let imm : ℤ = lower (minus offset 16) in
            let is : word (lower (minus offset 16)) ≡ minus offset 16 = immediate_word (minus offset 16) (plus_small offset (2 ^ 32 - 16)) (less_is_immediate offset few) in
            let v : ℕ = plus (c.register r) (word imm) in
            let fits : v < 2 ^ 32 = plus_small (c.register r) (word imm) in
            let h1 = ready_like s plan variables fine 6 (is_scratch plan 6 (omega arith) (omega arith)) (like_put 6 v c fits h.fits) h in
            let same : plus (c.register r) (word (lower (minus offset 16))) ≡ plus (plus a offset) (word (negsuc 15)) = rw (got, is) (less_of_sum a offset small few) in
            runs_quiet s plan.private t (computes s plan.private t (Addi 6 r imm) 6 r 0 (λ x y. plus x (word imm)) refl (omega arith) plain (omega arith) fits) (
            byte_done 6 (plus a offset) (omega arith) (plus_small a offset) h1 same stays)

    -- Probe(InBounds)
    pub in_bounds_done : {c : Contents} (x : Operand) (offset : ℕ) → Ready plan live m c → Reads s plan variables fine live live' m x → IsNumber x → offset < 2048 → Stays s plan variables fine live live' m →
        Does' s plan variables fine live live' m (in_bounds_code (plan.home m.function) x offset) c (probed true (misplaced B1 (plus (value x m.env) offset) plan.memory) m.env)
    in_bounds_done x offset h reads number few stays =
        let t = To s plan variables fine live live' m in
        let r = source (plan.home m.function) 5 x in
        runs_one s plan variables fine t x (offset_bounds_code r offset) h reads number (λ c1 h1 got.
        offset_done r (value x m.env) offset (source_plain s plan variables fine t m.function 5 x (omega arith)) few h1 got stays)

    bounds_at : {c : Contents} (width : Width) (r a : ℕ) → a % size width ≡ 0 → r < 28 → Ready plan live m c → c.register r ≡ a → Stays s plan variables fine live live' m →
        Does' s plan variables fine live live' m (bounds_code width r) c (probed true (misplaced width a plan.memory) m.env)
    unfolding misplaced
    bounds_at B1 r a four plain h got stays =
        let fits : a < 2 ^ 32 = (let f = h.fits r in rw got at f) in
        let whole : nat_eq (a % 1) 0 ≡ true = grind (arith, nat_tests) in rw whole (range_done r a 1 plain h got (range_one a fits) stays)
    bounds_at B2 r a four plain h got stays =
        let fits : a < 2 ^ 32 = (let f = h.fits r in rw got at f) in
        let even : a % 2 ≡ 0 = four in let whole : nat_eq (a % 2) 0 ≡ true = grind (arith, nat_tests) in rw whole (range_done r a 2 plain h got (range_two a fits even) stays)
    bounds_at B4 r a four plain h got stays =
        let fits : a < 2 ^ 32 = (let f = h.fits r in rw got at f) in
        let whole : nat_eq (a % 4) 0 ≡ true = grind (arith, nat_tests) in rw whole (range_done r a 4 plain h got (range_four a fits four) stays)

    -- the same of an address that is aligned
    pub bounds_done : {c : Contents} (width : Width) (x : Operand) → value x m.env % size width ≡ 0 → Ready plan live m c → Reads s plan variables fine live live' m x → IsNumber x → Stays s plan variables fine live live' m →
        Does' s plan variables fine live live' m (placed_code (plan.home m.function) (Probe (Place width x))) c (probed true (misplaced width (value x m.env) plan.memory) m.env)
    bounds_done width x four h reads number stays =
        let t = To s plan variables fine live live' m in
        let r = source (plan.home m.function) 5 x in
        runs_one s plan variables fine t x (bounds_code width r) h reads number (λ c1 h1 got.
        bounds_at width r (value x m.env) four (source_plain s plan variables fine t m.function 5 x (omega arith)) h1 got stays)

    -- the frame must begin at most at n
    room_done : {c : Contents} {d : Deed} (n : ℕ) (rest : List Inst) (bad : Bool) → n < 2 ^ 32 → bad ≡ nat_lt n m.frame → Ready plan live m c → (bad ≡ false → (c' : Contents) → Ready plan live m c' → Does' s plan variables fine live live' m rest c' d) → (bad ≡ true → d ≡ probed true (Some 4) m.env) →
        Does' s plan variables fine live live' m (room_code n ++ rest) c d
    room_done {c} {d} n rest bad fits is h run trap =
        let t = To s plan variables fine live live' m in
        let h1 = ready_like s plan variables fine 6 (is_scratch plan 6 (omega arith) (omega arith)) (like_put 6 n c fits h.fits) h in
        rw append_assoc (runs_number s plan.private t 6 n (Bgeu 6 3 (pos 12) ∷ (fail_code true 4 ++ rest)) h.zero (omega arith) (omega arith) fits (by bad refl (put 6 n c) h1 (rw h.agrees.frame refl)))
      where
        by : (b : Bool) → bad ≡ b → (c1 : Contents) → Ready plan live m c1 → not (nat_lt (c1.register 6) (c1.register 3)) ≡ not (nat_lt n m.frame) → Does' s plan variables fine live live' m (Bgeu 6 3 (pos 12) ∷ (fail_code true 4 ++ rest)) c1 d
        by true e c1 h1 same =
            let down : not (nat_lt (c1.register 6) (c1.register 3)) ≡ false = same ∙ ap not (sym is ∙ e) in
            rw (trap e) (caught_a 4 (Bgeu 6 3 (pos 12)) 6 3 (λ x y. not (nat_lt x y)) rest refl (omega arith) (omega arith) down (omega arith) h1)
        by false e c1 h1 same =
            let up : not (nat_lt (c1.register 6) (c1.register 3)) ≡ true = same ∙ ap not (sym is ∙ e) in
            guarded_a 4 (Bgeu 6 3 (pos 12)) 6 3 (λ x y. not (nat_lt x y)) rest refl (omega arith) (omega arith) up (run e c1 h1)

    -- Probe(Room)
    pub check_room_done : {c : Contents} (g : ℕ) → Ready plan live m c → Stays s plan variables fine live live' m →
        Does' s plan variables fine live live' m (check_code plan m.function (Room g)) c (probed true (passed (nat_lt plan.limit (depth_of m + 1) || nat_lt plan.memory (top_of plan m + plan.frame g))) m.env)
    check_room_done {c} g h stays = by (nat_lt plan.memory (plan.frame m.function + plan.frame g)) refl
      where
        left : ℕ
        left = plan.memory - (plan.frame m.function + plan.frame g)

        deep : (c1 : Contents) → nat_lt left m.frame ≡ false → nat_lt plan.memory (plan.frame m.function + plan.frame g) ≡ false → Ready plan live m c1 →
            Does' s plan variables fine live live' m (number_code 6 (counted_depth plan m.function plan.limit) ++ Bltu 10 6 (pos 12) ∷ fail_code true 4) c1 (probed true (passed (nat_lt plan.limit (depth_of m + 1) || nat_lt plan.memory (top_of plan m + plan.frame g))) m.env)
        deep c1 low fits h1 =
            let t = To s plan variables fine live live' m in
            let most = fine.limit in
            let limit : ℕ = counted_depth plan m.function plan.limit in
            let few : limit ≤ plan.limit = counted_few (plan.leaf m.function) plan.limit in
            let h2 = ready_like s plan variables fine 6 (is_scratch plan 6 (omega arith) (omega arith)) (like_put 6 limit c1 (omega arith) h1.fits) h1 in
            let ok : nat_lt plan.memory (top_of plan m + plan.frame g) ≡ false = grind (arith, nat_tests) in
            let less : nat_lt (c1.register 10) limit ≡ nat_lt (depth_of m) plan.limit = ap (λ (n : ℕ). nat_lt n limit) (h1.agrees.depth by_a) ∙ counted_less (plan.leaf m.function) (depth_of m) plan.limit (omega arith) h1.agrees.within.depth in
            let same : nat_lt (c1.register 10) limit ≡ not (nat_lt plan.limit (depth_of m + 1) || nat_lt plan.memory (top_of plan m + plan.frame g)) = rw (less, ok) (grind (arith, nat_tests)) in
            runs_number s plan.private t 6 limit (Bltu 10 6 (pos 12) ∷ fail_code true 4) h1.zero (omega arith) (omega arith) (omega arith) (
            tested 4 (Bltu 10 6 (pos 12)) 10 6 (λ x y. nat_lt x y) (nat_lt plan.limit (depth_of m + 1) || nat_lt plan.memory (top_of plan m + plan.frame g)) refl (omega arith) (omega arith) same (omega arith) h2 stays)

        -- a frame begins in common memory: where both frames are empty there is room for them
        roomy : (none : Bool) → nat_eq (plan.frame m.function + plan.frame g) 0 ≡ none → nat_lt plan.memory (plan.frame m.function + plan.frame g) ≡ false →
            Does' s plan variables fine live live' m ((if none then [] else room_code left) ++ (number_code 6 (counted_depth plan m.function plan.limit) ++ Bltu 10 6 (pos 12) ∷ fail_code true 4)) c (probed true (passed (nat_lt plan.limit (depth_of m + 1) || nat_lt plan.memory (top_of plan m + plan.frame g))) m.env)
        roomy true none e = let inside = h.agrees.within.frame in deep c (grind (arith, nat_tests)) e h
        roomy false some e =
            let most = fine.common in
            room_done left (number_code 6 (counted_depth plan m.function plan.limit) ++ Bltu 10 6 (pos 12) ∷ fail_code true 4) (nat_lt left m.frame) (omega arith) refl h (λ low c1 h1. deep c1 low e h1)
            (λ high. (let trap : (nat_lt plan.limit (depth_of m + 1) || nat_lt plan.memory (top_of plan m + plan.frame g)) ≡ true = grind (arith, nat_tests) in rw trap refl))

        by : (big : Bool) → nat_lt plan.memory (plan.frame m.function + plan.frame g) ≡ big →
            Does' s plan variables fine live live' m (if big then fail_code true 4 else frames_room_code plan.memory (plan.frame m.function + plan.frame g) ++ (number_code 6 (counted_depth plan m.function plan.limit) ++ Bltu 10 6 (pos 12) ∷ fail_code true 4)) c (probed true (passed (nat_lt plan.limit (depth_of m + 1) || nat_lt plan.memory (top_of plan m + plan.frame g))) m.env)
        by true e =
            let trap : (nat_lt plan.limit (depth_of m + 1) || nat_lt plan.memory (top_of plan m + plan.frame g)) ≡ true = grind (arith, nat_tests) in
            rw trap (rw append-nil at (fails true 4 [] by_a (omega arith) h))
        by false e = roomy (nat_eq (plan.frame m.function + plan.frame g) 0) refl e

    -- Probe(Frame)
    pub frame_done : {c : Contents} → Ready plan live m c → Stays s plan variables fine live live' m →
        Does' s plan variables fine live live' m (check_code plan m.function Frame) c (probed true (passed (nat_lt plan.memory (top_of plan m))) m.env)
    frame_done {c} h stays = by (nat_lt plan.memory (plan.frame m.function)) refl
      where
        by : (big : Bool) → nat_lt plan.memory (plan.frame m.function) ≡ big → Does' s plan variables fine live live' m (if big then fail_code true 4 else room_code (plan.memory - plan.frame m.function)) c (probed true (passed (nat_lt plan.memory (top_of plan m))) m.env)
        by true e =
            let trap : nat_lt plan.memory (top_of plan m) ≡ true = grind (arith, nat_tests) in
            rw trap (rw append-nil at (fails true 4 [] by_a (omega arith) h))
        by false e =
            let most = fine.common in
            let run = room_done {d = probed true (passed (nat_lt plan.memory (top_of plan m))) m.env} (plan.memory - plan.frame m.function) [] (nat_lt plan.memory (top_of plan m)) (omega arith) (grind (arith, nat_tests)) h
            (λ low c1 h1. rw low (ends s plan variables fine live live' m m.env (ready_stays s plan variables fine live live' m stays h1))) (λ high. rw high refl) in
            rw append-nil at run

    -- Probe(Abort)
    pub abort_done : {c : Contents} → Ready plan live m c → Does' s plan variables fine live live' m (check_code plan m.function Abort) c (probed true (Some 5) m.env)
    abort_done h = rw append-nil at (fails true 5 [] by_a (omega arith) h)

  -- Hear: for a code the processor halts
  pub hear_done : {c : Contents} (only : Option Failure) → Ready plan live m c → Stays s plan variables fine live live' m →
      Does' s plan variables fine live live' m (hear_code plan.by_a only) c (Take (heard_on plan.by_a) (λ y. if nat_eq y 0 then Went m.env else Halts (trapped plan.by_a (heard_code only y))))
  hear_done {c} only h stays = by plan.by_a refl only
    where
      -- where the word is 0, nothing is left to do
      none : Does' s plan variables fine live live' m [] c (Went m.env)
      none = ends s plan variables fine live live' m m.env (ready_stays s plan variables fine live live' m stays h)

      by : (b : Bool) → plan.by_a ≡ b → (o : Option Failure) → Does' s plan variables fine live live' m (hear_code b o) c (Take (heard_on b) (λ y. if nat_eq y 0 then Went m.env else Halts (trapped b (heard_code o y))))
      by true e o =
          runs_hear s plan.private (To s plan variables fine live live' m) (Went m.env) (λ y. Halts Plainly) (Ecall ∷ [])
          (hears_zero s plan.private (To s plan variables fine live live' m) (heard_on true) (pos 8) 1 (rw (a_side e) (hears_message s.copies true)) h.zero refl (omega arith))
          (λ x some. hears_other s plan.private (To s plan variables fine live live' m) (heard_on true) (pos 8) x (rw (a_side e) (hears_message s.copies true)) h.zero some)
          none (λ x some. stop_a_done [] e)
      by false e (Some failure) =
          runs_hear s plan.private (To s plan variables fine live live' m) (Went m.env) (λ y. Halts (WithTrap (failure_code failure))) (Addi 10 0 (pos (failure_code failure)) ∷ (Addi 17 0 (pos 5) ∷ (Ecall ∷ [])))
          (hears_zero s plan.private (To s plan variables fine live live' m) (heard_on false) (pos 16) 3 (rw (by_side e) (hears_message s.copies false)) h.zero refl (omega arith))
          (λ x some. hears_other s plan.private (To s plan variables fine live live' m) (heard_on false) (pos 16) x (rw (by_side e) (hears_message s.copies false)) h.zero some)
          none (λ x some. trap_done (failure_code failure) [] e (failure_small failure) h)
      by false e None = runs_take s plan.private (To s plan variables fine live live' m) (λ x. put 10 x c) (λ x fits. takes s plan.private (To s plan variables fine live live' m) 10 29 (heard_on false) (omega arith) refl (rw (by_side e) (takes_message s.copies false 10 (omega arith))) x fits)
          (λ x fits. one x fits (nat_eq x 0) refl)
        where
          one : (x : ℕ) → x < 2 ^ 32 → (z : Bool) → nat_eq x 0 ≡ z → Does' s plan variables fine live live' m (Beq 10 0 (pos 12) ∷ (Addi 17 0 (pos 5) ∷ (Ecall ∷ []))) (put 10 x c) (if z then Went m.env else Halts (WithTrap x))
          one x fits true z =
              let h1 = ready_like s plan variables fine 10 (call_scratch plan 10 e (inl refl)) (like_put 10 x c fits h.fits) h in
              let zero : nat_eq ((put 10 x c).register 10) ((put 10 x c).register 0) ≡ true = rw (h.zero, z) refl in
              runs_over s plan.private (To s plan variables fine live live' m) (Addi 17 0 (pos 5) ∷ (Ecall ∷ [])) [] (branch_taken s plan.private (To s plan variables fine live live' m) (Beq 10 0 (pos 12)) 10 0 (pos 12) (λ x y. nat_eq x y) 2 refl (omega arith) (omega arith) zero refl (omega arith)) (ends s plan variables fine live live' m m.env (ready_stays s plan variables fine live live' m stays h1))
          one x fits false z =
              let some : nat_eq ((put 10 x c).register 10) ((put 10 x c).register 0) ≡ false = rw (h.zero, z) refl in
              let five : plus ((put 10 x c).register 0) (word (pos 5)) ≡ 5 = rw h.zero refl in
              runs_quiet s plan.private (To s plan variables fine live live' m) (branch_passed s plan.private (To s plan variables fine live live' m) (Beq 10 0 (pos 12)) 10 0 (pos 12) (λ x y. nat_eq x y) refl (omega arith) (omega arith) some) (
              runs_quiet s plan.private (To s plan variables fine live live' m) (computes s plan.private (To s plan variables fine live live' m) (Addi 17 0 (pos 5)) 17 0 0 (λ x y. plus x (word (pos 5))) refl (omega arith) (omega arith) (omega arith) (plus_small ((put 10 x c).register 0) 5)) (rw five (
              runs_halt s plan.private (To s plan variables fine live live' m) (λ k w small here is p shows. step_ends s plan.private (by_side e) w 5 (Trap x) shows here is refl (omega arith) (λ q. refl)))))
