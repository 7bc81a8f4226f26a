-- A value goes into a queue by the instruction that computes it: the target of that is the register that stands for the queue.
use Rattle.std.proofs.Common.{◌≡◌, ℕ, ◌+◌, ◌^◌, ◌<◌, Bool, true, false, ◌&&◌, [], ◌∷◌, ◌++◌, Option, Some, None, refl, arith, append-nil}
use Rattle.std.specs.Prelude.{nat_lt, if◌then◌else◌}
use Rattle.dae_base.specs.Words.{plus, word}
use Rattle.dae_base.specs.declared.Queue.{Queue}
use Rattle.dae_base.proofs.Laws.{plus_small, or_true}
use Rattle.dae_encode.specs.declared.QueueUse.TheVariants.{Push as Pushes}
use Rattle.dae_encode.specs.declared.InstructionForm.TheVariants.{Computes}
use Rattle.dae_encode.specs.declared.Inst.{Inst}
use Rattle.dae_encode.specs.declared.Inst.TheVariants.{Addi, Add}
use Rattle.dae_encode.specs.Instructions.{effect, on_two}
use Rattle.dae_encode.specs.Uses.{queue_use}
use Rattle.dae_encode.specs.Processor.{Processor}
use Rattle.dae_ir.specs.Classes.{VariableSet}
use Rattle.dae_ir.specs.Deeds.{Deed, Push}
use Rattle.dae_ir.specs.Form.{value, computed}
use Rattle.dae_ir.specs.declared.form.Operand.{Operand}
use Rattle.dae_ir.specs.declared.form.Operand.TheVariants.{Variable, Number}
use Rattle.dae_ir.specs.declared.form.Value.{Value}
use Rattle.dae_ir.specs.declared.form.Value.TheVariants.{Same, Extended, Binary, Holds, FrameAddress}
use Rattle.dae_meaning.specs.Operations.{combined}
use Rattle.dae_meaning.specs.Variables.{Env}
use Rattle.dae_meaning.specs.declared.Operator.{Operator}
use Rattle.dae_select_walks.specs.Walks.{WalkSetting}
use Rattle.dae_select_walks.specs.Live.{in_operand, in_value}
use Rattle.dae_select_walks.specs.Homes.{Contents}
use Rattle.dae_select_walks.specs.Agrees.{Plan, Moment}
use Rattle.dae_select_walks.proofs.LawsOfWalks.{read, step}
use Rattle.dae_select_blocks.specs.Blocks.{lower, is_immediate, number_code, register_or, source, fetch, operation_code, immediate_code, exchanged_code, behind_or, combine_registers, binary_code, frame_code, value_code}
use Rattle.dae_select_blocks.specs.Code.{written_last}
use Rattle.dae_select_blocks.specs.Fits.{Fits}
use Rattle.dae_select_blocks.specs.Wanted.{IsNumber, AreNumbers}
use Rattle.dae_select_blocks.proofs.Halves.{immediate_word}
use Rattle.dae_select_blocks.proofs.Plain.{plain_read, put_nowhere}
use Rattle.dae_select_blocks.proofs.Frames.{runs_number}
use Rattle.dae_select_blocks.proofs.Runs.{Runs, runs_push}
use Rattle.dae_select_blocks.proofs.Agreement.{Ready, ready_like}
use Rattle.dae_select_blocks.proofs.Operands.{like_put, runs_move}
use Rattle.dae_select_blocks.proofs.Values.{operation_is, operation_fits, DoesWith, immediate_does, exchanged_does}
use Rattle.dae_select_blocks.proofs.Computing.{is_scratch, source_plain, runs_one, runs_two}

module _ (s : WalkSetting) (plan : Plan) (variables : ℕ → ℕ) (fine : Fits s plan variables) (to : ℕ → Env → Processor → Type 0) (q : ℕ) (queue : Queue) (high : (nat_lt 0 q && nat_lt q 28) ≡ false)
    (legal : (x y : ℕ) → x < 28 → y < 28 → queue_use s.copies s.side (Computes q x y) ≡ Some (Pushes queue)) where
  -- behind the last instruction nothing in the processor has changed but scratch registers
  abbrev SentOff : VariableSet → Moment → Deed → Type 0
  SentOff live m d = (c : Contents) → Ready plan live m c → Runs s plan.private to [] c d

  -- an instruction on two plain registers into the queue
  send_last : {live : VariableSet} {m : Moment} {c : Contents} {d : Deed} (i : Inst) (x y : ℕ) (f : ℕ → ℕ → ℕ) (v : ℕ) → effect i ≡ on_two q x y f → x < 28 → y < 28 → f (c.register x) (c.register y) ≡ v → v < 2 ^ 32 → Ready plan live m c → SentOff live m d →
      Runs s plan.private to (i ∷ []) c (Push queue v d)
  send_last {c = c} i x y f v does low_x low_y same fits h ends =
      runs_push s plan.private to (λ k w small here is p shows.
      let ex = plain_read c 0 x low_x in let ey = plain_read c 0 y low_y in
      let value : f (read c 0 x) (read c 0 y) ≡ v = rw (ex, ey) same in
      let one = step s plan.private i q x y 0 (k + 1) w (λ pc x y. f x y) (λ pc x y. plus pc 4) (Pushes queue) shows here is does (legal x y low_x low_y) (rw value fits) (omega arith) in
      rw (value, put_nowhere q v c high) at one) fits (ends c h)

  send_registers : {live : VariableSet} {m : Moment} {c : Contents} {d : Deed} (o : Operator) (x y : Operand) → Ready plan live m c → ((u : ℕ) → in_operand x u ≡ true → live u ≡ true) → ((u : ℕ) → in_operand y u ≡ true → live u ≡ true) → IsNumber x → IsNumber y → SentOff live m d →
      Runs s plan.private to (combine_registers (plan.home m.function) q o x y) c (Push queue (combined o (value x m.env) (value y m.env)) d)
  send_registers {m = m} o x y h reads_x reads_y number_x number_y ends =
      let a = source (plan.home m.function) 5 x in let b = source (plan.home m.function) 6 y in
      runs_two s plan variables fine to x y (operation_code o q a b ∷ []) h reads_x reads_y number_x number_y (λ c1 h1 got_x got_y.
      let fits = operation_fits o (c1.register a) (c1.register b) (h1.fits a) (h1.fits b) in
      let same : combined o (c1.register a) (c1.register b) ≡ combined o (value x m.env) (value y m.env) = rw (got_x, got_y) refl in
      send_last (operation_code o q a b) a b (combined o) (combined o (value x m.env) (value y m.env)) (operation_is o q a b) (source_plain s plan variables fine to m.function 5 x (omega arith)) (source_plain s plan variables fine to m.function 6 y (omega arith)) same (rw same at fits) h1 ends)

  send_with : {live : VariableSet} {m : Moment} {c : Contents} {d : Deed} (x : Operand) (i : Inst) (operation : ℕ → ℕ) → Ready plan live m c → ((u : ℕ) → in_operand x u ≡ true → live u ≡ true) → IsNumber x →
      DoesWith i q (source (plan.home m.function) 5 x) operation → ((a : ℕ) → a < 2 ^ 32 → operation a < 2 ^ 32) → SentOff live m d → Runs s plan.private to (fetch (plan.home m.function) 5 x ++ i ∷ []) c (Push queue (operation (value x m.env)) d)
  send_with {m = m} x i operation h reads number with' fits ends =
      let r = source (plan.home m.function) 5 x in
      runs_one s plan variables fine to x (i ∷ []) h reads number (λ c1 h1 got.
      let small : value x m.env < 2 ^ 32 = (let a = h1.fits r in rw got at a) in
      let same : with'.function (c1.register r) ≡ operation (value x m.env) = rw got (with'.same (value x m.env)) in
      send_last i r 0 (λ a b. with'.function a) (operation (value x m.env)) with'.does (source_plain s plan variables fine to m.function 5 x (omega arith)) (omega arith) same (fits (value x m.env) small) h1 ends)

  send_binary : {live : VariableSet} {m : Moment} {c : Contents} {d : Deed} (o : Operator) (x y : Operand) → Ready plan live m c → ((u : ℕ) → in_operand x u ≡ true → live u ≡ true) → ((u : ℕ) → in_operand y u ≡ true → live u ≡ true) → IsNumber x → IsNumber y → SentOff live m d →
      Runs s plan.private to (binary_code (plan.home m.function) q o x y) c (Push queue (combined o (value x m.env) (value y m.env)) d)
  send_binary {m = m} {c} {d} o x (Number n) h reads_x reads_y number_x number_y ends = by (immediate_code o q (source (plan.home m.function) 5 x) n) refl
    where
      by : (i : Option Inst) → immediate_code o q (source (plan.home m.function) 5 x) n ≡ i → Runs s plan.private to (behind_or (fetch (plan.home m.function) 5 x) i (combine_registers (plan.home m.function) q o x (Number n))) c (Push queue (combined o (value x m.env) n) d)
      by (Some i) e = send_with x i (λ a. combined o a n) h reads_x number_x (immediate_does o q (source (plan.home m.function) 5 x) n i number_y e) (λ a l. operation_fits o a n l number_y) ends
      by None e = send_registers o x (Number n) h reads_x reads_y number_x number_y ends
  send_binary {m = m} {c} {d} o (Number n) (Variable v) h reads_x reads_y number_x number_y ends = by (exchanged_code o q (register_or 5 (plan.home m.function v)) n) refl
    where
      by : (i : Option Inst) → exchanged_code o q (register_or 5 (plan.home m.function v)) n ≡ i → Runs s plan.private to (behind_or (fetch (plan.home m.function) 5 (Variable v)) i (combine_registers (plan.home m.function) q o (Number n) (Variable v))) c (Push queue (combined o n (m.env v)) d)
      by (Some i) e = send_with (Variable v) i (λ a. combined o n a) h reads_y number_y (exchanged_does o q (register_or 5 (plan.home m.function v)) n i number_x e) (λ a l. operation_fits o n a number_x l) ends
      by None e = send_registers o (Number n) (Variable v) h reads_x reads_y number_x number_y ends
  send_binary o (Variable u) (Variable v) h reads_x reads_y number_x number_y ends = send_registers o (Variable u) (Variable v) h reads_x reads_y number_x number_y ends

  send_frame : {live : VariableSet} {m : Moment} {c : Contents} {d : Deed} (offset : ℕ) → Ready plan live m c → offset < 2 ^ 32 → SentOff live m d → Runs s plan.private to (frame_code q offset) c (Push queue (plus m.frame offset) d)
  send_frame {m = m} {c} {d} offset h number ends = by (is_immediate offset) refl
    where
      by : (b : Bool) → is_immediate offset ≡ b → Runs s plan.private to (if b then Addi q 3 (lower offset) ∷ [] else number_code 5 offset ++ Add q 3 5 ∷ []) c (Push queue (plus m.frame offset) d)
      by true e =
          let same : plus (c.register 3) (word (lower offset)) ≡ plus m.frame offset = rw (h.agrees.frame, immediate_word offset number e) refl in
          send_last (Addi q 3 (lower offset)) 3 0 (λ x y. plus x (word (lower offset))) (plus m.frame offset) refl (omega arith) (omega arith) same (plus_small m.frame offset) h ends
      by false e =
          runs_number s plan.private to 5 offset (Add q 3 5 ∷ []) h.zero (omega arith) (omega arith) number (
          let h1 = ready_like s plan variables fine 5 (is_scratch plan 5 (omega arith) (omega arith)) (like_put 5 offset c number h.fits) h in
          let same : plus (c.register 3) offset ≡ plus m.frame offset = rw h.agrees.frame refl in
          send_last (Add q 3 5) 3 5 plus (plus m.frame offset) refl (omega arith) (omega arith) same (plus_small m.frame offset) h1 ends)

  pub send_value : {live : VariableSet} {m : Moment} {c : Contents} {d : Deed} (x : Value) → written_last x ≡ true → Ready plan live m c → ((u : ℕ) → in_value x u ≡ true → live u ≡ true) → AreNumbers x → SentOff live m d →
      Runs s plan.private to (value_code (plan.home m.function) q x) c (Push queue (computed x m.frame m.env) d)
  send_value {m = m} {d = d} (Same x) is h reads number ends =
      let run = runs_move s plan variables fine to {d = Push queue (value x m.env) d} q x [] h reads number (λ c1 r imm like plain same small.
      send_last (Addi q r imm) r 0 (λ x y. plus x (word imm)) (value x m.env) refl plain (omega arith) same small (ready_like s plan variables fine 5 (is_scratch plan 5 (omega arith) (omega arith)) like h) ends) in
      rw append-nil at run
  send_value (Binary o x y) is h reads number ends = send_binary o x y h (λ u e. reads u (rw e refl)) (λ u e. reads u (rw e (or_true (in_operand x u)))) number.0 number.1 ends
  send_value (FrameAddress offset) is h reads number ends = send_frame offset h number ends
  send_value (Extended kind x) is h reads number ends = absurd (let bad : false ≡ true = is in cc)
  send_value (Holds test) is h reads number ends = absurd (let bad : false ≡ true = is in cc)
