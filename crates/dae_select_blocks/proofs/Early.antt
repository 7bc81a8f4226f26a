-- A word is taken by the instruction that computes with it: one source of that is the register that stands for the queue.
use Rattle.std.proofs.Common.{◌≡◌, ◌≢◌, ◌⊎◌, inl, inr, ℕ, ◌+◌, ◌^◌, ◌<◌, Bool, true, false, not, ◌&&◌, ◌||◌, List, [], ◌∷◌, ◌++◌, Option, Some, None, refl, sym, subst, ◌∙◌, arith, append_assoc, append-nil}
use Rattle.std.specs.Prelude.{nat_lt, nat_eq, if◌then◌else◌, is_some, pos, bit_and, bit_xor, int_lt}
use Rattle.std.proofs.lemmas.Bool.Decides.{nat_tests}
use Rattle.dae_base.specs.Words.{plus, minus, word, signed, extended}
use Rattle.dae_base.specs.declared.LoadKind.{LoadKind}
use Rattle.dae_base.specs.declared.LoadKind.TheVariants.{I8, U8, I16, U16, I32}
use Rattle.dae_base.specs.declared.Queue.{Queue}
use Rattle.dae_base.proofs.Laws.{plus_small, or_true, and_true}
use Rattle.dae_encode.specs.declared.QueueUse.TheVariants.{Take as Takes}
use Rattle.dae_encode.specs.declared.InstructionForm.TheVariants.{Computes}
use Rattle.dae_encode.specs.declared.Inst.{Inst}
use Rattle.dae_encode.specs.declared.Inst.TheVariants.{Addi, Sub, Slt, Sltu, Slti, Sltiu, Xori, Andi, Slli, Srli, Srai}
use Rattle.dae_encode.specs.Instructions.{effect, on_two, flag, shift_left, shift_right, shift_signed}
use Rattle.dae_encode.specs.Uses.{queue_use}
use Rattle.dae_encode.specs.Processor.{Processor}
use Rattle.dae_encode.proofs.Laws.{flag_small}
use Rattle.dae_ir.specs.Classes.{VariableSet}
use Rattle.dae_ir.specs.Deeds.{Deed, Went, Take}
use Rattle.dae_ir.specs.Form.{value, computed}
use Rattle.dae_ir.specs.declared.form.Operand.{Operand}
use Rattle.dae_ir.specs.declared.form.Operand.TheVariants.{Variable, Number}
use Rattle.dae_ir.specs.declared.form.Value.{Value}
use Rattle.dae_ir.specs.declared.form.Value.TheVariants.{Same, Extended, Binary, Holds, FrameAddress}
use Rattle.dae_meaning.specs.Operations.{combined, compared}
use Rattle.dae_meaning.specs.Variables.{Env}
use Rattle.dae_meaning.specs.Variables as form
use Rattle.dae_meaning.specs.declared.Operator.{Operator}
use Rattle.dae_meaning.specs.declared.Comparison.{Comparison}
use Rattle.dae_meaning.specs.declared.Comparison.TheVariants.{Equal, NotEqual, LessSigned, AtLeastSigned, LessUnsigned, AtLeastUnsigned}
use Rattle.dae_select_walks.specs.declared.Home.{Home}
use Rattle.dae_select_walks.specs.declared.Home.TheVariants.{Register}
use Rattle.dae_select_walks.specs.Walks.{WalkSetting}
use Rattle.dae_select_walks.specs.Live.{in_operand, in_value}
use Rattle.dae_select_walks.specs.Homes.{Contents, number_key, resident_register}
use Rattle.dae_select_walks.specs.Agrees.{Plan, Moment, Stands}
use Rattle.dae_select_walks.specs.Compiled.{with_env}
use Rattle.dae_select_walks.proofs.LawsOfWalks.{put, read, step}
use Rattle.dae_select_blocks.specs.Blocks.{register_or, source, fetch, keep, operation_code, immediate_code, exchanged_code, behind_or, combine_registers, binary_code, lower, is_immediate, extend_code, compare_code, takes_number, compare_number_code, as_immediate, compare_registers, compare_operands, value_code}
use Rattle.dae_select_blocks.specs.Code.{either_one, reads_once, with_home, early_code}
use Rattle.dae_select_blocks.specs.Fits.{Fits}
use Rattle.dae_select_blocks.specs.Wanted.{IsNumber, AreNumbers}
use Rattle.dae_select_blocks.proofs.Halves.{immediate_word, immediate_signed}
use Rattle.dae_select_blocks.proofs.Plain.{plain_read, computes, put_same}
use Rattle.dae_select_blocks.proofs.Runs.{Runs, runs_nothing, runs_quiet, runs_take}
use Rattle.dae_select_blocks.proofs.Agreement.{Ready, ready_like, ready_gets, key_apart, slot_framed}
use Rattle.dae_select_blocks.proofs.Operands.{like_put, runs_fetch, runs_keep}
use Rattle.dae_select_blocks.proofs.Values.{operation_is, operation_fits, DoesWith, immediate_does, exchanged_does, equal_flag, different_flag, opposite_flag, low_byte, low_half, signed_byte, signed_half}
use Rattle.dae_select_blocks.proofs.Computing.{plus_zero, is_scratch, is_work, extended_fits, register_plain, source_plain}

left_one : (b : Bool) → either_one b false ≡ true → b ≡ true
left_one true e = refl
left_one false e = absurd cc

-- ---- extensions and comparisons

module _ (s : WalkSetting) (plan : Plan) (variables : ℕ → ℕ) (fine : Fits s plan variables) (to : ℕ → Env → Processor → Type 0) where
  -- this code works on the registers x and y, and only its first instruction reads them
  record Splits (code : List Inst) (x y t : ℕ) (operation : ℕ → ℕ → ℕ) : Type 0 where
    first : Inst
    rest : List Inst
    work : ℕ
    function : ℕ → ℕ → ℕ
    is : code ≡ first ∷ rest
    does : effect first ≡ on_two work x y function
    low : work < 28
    fits : (a b : ℕ) → a < 2 ^ 32 → b < 2 ^ 32 → function a b < 2 ^ 32
    ends : (live : VariableSet) (m : Moment) (c : Contents) (d : Deed) (a b : ℕ) (is : List Inst) → a < 2 ^ 32 → b < 2 ^ 32 → Ready plan live m c → ((c' : Contents) → Ready plan live m c' → Runs s plan.private to is (put t (operation a b) c') d) →
        Runs s plan.private to (rest ++ is) (put work (function a b) c) d

  -- one instruction
  splits_one : (i : Inst) (x y t : ℕ) (function operation : ℕ → ℕ → ℕ) → effect i ≡ on_two t x y function → t < 28 → ((a b : ℕ) → a < 2 ^ 32 → b < 2 ^ 32 → function a b ≡ operation a b) → ((a b : ℕ) → a < 2 ^ 32 → b < 2 ^ 32 → operation a b < 2 ^ 32) → Splits (i ∷ []) x y t operation
  splits_one i x y t function operation does low same fits = record {
    first = i;
    rest = [];
    work = t;
    function = function;
    is = refl;
    does = does;
    low = low;
    fits = λ a b sa sb. rw (same a b sa sb) (fits a b sa sb);
    ends = λ live m c d a b is sa sb h run. rw (same a b sa sb) (run c h);
  }

  -- and one more, of the first one's result, which x7 holds in between
  splits_two : (i j : Inst) (x y t : ℕ) (function operation : ℕ → ℕ → ℕ) (second : ℕ → ℕ) → effect i ≡ on_two 7 x y function → effect j ≡ on_two t 7 0 (λ a b. second a) → t < 28 → ((a b : ℕ) → a < 2 ^ 32 → b < 2 ^ 32 → function a b < 2 ^ 32) →
      ((a b : ℕ) → a < 2 ^ 32 → b < 2 ^ 32 → second (function a b) ≡ operation a b) → ((a b : ℕ) → a < 2 ^ 32 → b < 2 ^ 32 → operation a b < 2 ^ 32) → Splits (i ∷ (j ∷ [])) x y t operation
  splits_two i j x y t function operation second does does' low fits same ends = record {
    first = i;
    rest = j ∷ [];
    work = 7;
    function = function;
    is = refl;
    does = does;
    low = omega arith;
    fits = fits;
    ends = λ live m c d a b is sa sb h run.
        let v : ℕ = function a b in
        let h1 = ready_like s plan variables fine 7 (is_scratch plan 7 (omega arith) (omega arith)) (like_put 7 v c (fits a b sa sb) h.fits) h in
        let all : second ((put 7 v c).register 7) ≡ operation a b = rw (put_same 7 v c (omega arith) (omega arith)) (same a b sa sb) in
        runs_quiet s plan.private to (computes s plan.private to j t 7 0 (λ x y. second x) does' low (omega arith) (omega arith) (rw all (ends a b sa sb))) (rw all (run (put 7 v c) h1));
  }

  -- or one that finds whether it is 0
  splits_zero : (i : Inst) (x y t : ℕ) (function operation : ℕ → ℕ → ℕ) → effect i ≡ on_two 7 x y function → t < 28 → ((a b : ℕ) → a < 2 ^ 32 → b < 2 ^ 32 → function a b < 2 ^ 32) →
      ((a b : ℕ) → a < 2 ^ 32 → b < 2 ^ 32 → flag (nat_lt 0 (function a b)) ≡ operation a b) → ((a b : ℕ) → a < 2 ^ 32 → b < 2 ^ 32 → operation a b < 2 ^ 32) → Splits (i ∷ (Sltu t 0 7 ∷ [])) x y t operation
  splits_zero i x y t function operation does low fits same ends = record {
    first = i;
    rest = Sltu t 0 7 ∷ [];
    work = 7;
    function = function;
    is = refl;
    does = does;
    low = omega arith;
    fits = fits;
    ends = λ live m c d a b is sa sb h run.
        let v : ℕ = function a b in
        let h1 = ready_like s plan variables fine 7 (is_scratch plan 7 (omega arith) (omega arith)) (like_put 7 v c (fits a b sa sb) h.fits) h in
        let all : flag (nat_lt ((put 7 v c).register 0) ((put 7 v c).register 7)) ≡ operation a b = rw (h1.zero, put_same 7 v c (omega arith) (omega arith)) (same a b sa sb) in
        runs_quiet s plan.private to (computes s plan.private to (Sltu t 0 7) t 0 7 (λ x y. flag (nat_lt x y)) refl low (omega arith) (omega arith) (rw all (ends a b sa sb))) (rw all (run (put 7 v c) h1));
  }

  extend_splits : (kind : LoadKind) (t x : ℕ) → t < 28 → Splits (extend_code kind t x) x 0 t (λ a b. extended kind a)
  extend_splits I8 t x low = splits_two (Slli 7 x (pos 24)) (Srai t 7 (pos 24)) x 0 t (λ a b. shift_left a (word (pos 24))) (λ a b. extended I8 a) (λ a. shift_signed a (word (pos 24))) refl refl low (λ a b sa sb. omega arith) (λ a b sa sb. signed_byte a) (λ a b sa sb. extended_fits I8 a sa)
  extend_splits U8 t x low = splits_one (Andi t x (pos 255)) x 0 t (λ a b. bit_and a (word (pos 255))) (λ a b. extended U8 a) refl low (λ a b sa sb. low_byte a) (λ a b sa sb. extended_fits U8 a sa)
  extend_splits I16 t x low = splits_two (Slli 7 x (pos 16)) (Srai t 7 (pos 16)) x 0 t (λ a b. shift_left a (word (pos 16))) (λ a b. extended I16 a) (λ a. shift_signed a (word (pos 16))) refl refl low (λ a b sa sb. omega arith) (λ a b sa sb. signed_half a) (λ a b sa sb. extended_fits I16 a sa)
  extend_splits U16 t x low = splits_two (Slli 7 x (pos 16)) (Srli t 7 (pos 16)) x 0 t (λ a b. shift_left a (word (pos 16))) (λ a b. extended U16 a) (λ a. shift_right a (word (pos 16))) refl refl low (λ a b sa sb. omega arith) (λ a b sa sb. low_half a) (λ a b sa sb. extended_fits U16 a sa)
  extend_splits I32 t x low = splits_one (Addi t x (pos 0)) x 0 t (λ a b. plus a (word (pos 0))) (λ a b. extended I32 a) refl low (λ a b sa sb. plus_zero a sa) (λ a b sa sb. extended_fits I32 a sa)

  compare_splits : (relation : Comparison) (t x y : ℕ) → t < 28 → Splits (compare_code relation t x y) x y t (λ a b. flag (compared relation a b))
  unfolding compared
  compare_splits Equal t x y low = splits_two (Sub 7 x y) (Sltiu t 7 (pos 1)) x y t minus (λ a b. flag (nat_eq a b)) (λ a. flag (nat_lt a (word (pos 1)))) refl refl low (λ a b sa sb. omega arith) (λ a b sa sb. equal_flag a b sa sb) (λ a b sa sb. flag_small (nat_eq a b))
  compare_splits NotEqual t x y low = splits_zero (Sub 7 x y) x y t minus (λ a b. flag (not (nat_eq a b))) refl low (λ a b sa sb. omega arith) (λ a b sa sb. different_flag a b sa sb) (λ a b sa sb. flag_small (not (nat_eq a b)))
  compare_splits LessSigned t x y low = splits_one (Slt t x y) x y t (λ a b. flag (int_lt (signed a) (signed b))) (λ a b. flag (int_lt (signed a) (signed b))) refl low (λ a b sa sb. refl) (λ a b sa sb. flag_small (int_lt (signed a) (signed b)))
  compare_splits AtLeastSigned t x y low =
      splits_two (Slt 7 x y) (Xori t 7 (pos 1)) x y t (λ a b. flag (int_lt (signed a) (signed b))) (λ a b. flag (not (int_lt (signed a) (signed b)))) (λ a. bit_xor a (word (pos 1))) refl refl low
      (λ a b sa sb. flag_small (int_lt (signed a) (signed b))) (λ a b sa sb. opposite_flag (int_lt (signed a) (signed b))) (λ a b sa sb. flag_small (not (int_lt (signed a) (signed b))))
  compare_splits LessUnsigned t x y low = splits_one (Sltu t x y) x y t (λ a b. flag (nat_lt a b)) (λ a b. flag (nat_lt a b)) refl low (λ a b sa sb. refl) (λ a b sa sb. flag_small (nat_lt a b))
  compare_splits AtLeastUnsigned t x y low =
      splits_two (Sltu 7 x y) (Xori t 7 (pos 1)) x y t (λ a b. flag (nat_lt a b)) (λ a b. flag (not (nat_lt a b))) (λ a. bit_xor a (word (pos 1))) refl refl low
      (λ a b sa sb. flag_small (nat_lt a b)) (λ a b sa sb. opposite_flag (nat_lt a b)) (λ a b sa sb. flag_small (not (nat_lt a b)))

  -- the difference from a number
  less_is : (a n : ℕ) → a < 2 ^ 32 → n < 2 ^ 32 → is_immediate (minus 0 n) ≡ true → plus a (word (lower (minus 0 n))) ≡ minus a n
  less_is a n sa sn takes = rw (immediate_word (minus 0 n) (omega arith) takes) (omega arith)

  -- the source is the left one; or it is found whether 0 is less
  abbrev NumberSplits : Comparison → List Inst → ℕ → ℕ → ℕ → Type 0
  NumberSplits relation code t x n = Splits code x 0 t (λ a b. flag (compared relation a n)) ⊎ (Splits code 0 x t (λ a b. flag (nat_lt a b)) × ((a : ℕ) → flag (nat_lt 0 a) ≡ flag (compared relation a n)))

  number_splits : (relation : Comparison) (t x n : ℕ) → t < 28 → n < 2 ^ 32 → takes_number relation n ≡ true → NumberSplits relation (compare_number_code relation t x n) t x n
  unfolding compared
  number_splits Equal t x n low sn takes = by (nat_eq n 0) refl
    where
      by : (z : Bool) → nat_eq n 0 ≡ z → NumberSplits Equal (if z then Sltiu t x (pos 1) ∷ [] else Addi 7 x (lower (minus 0 n)) ∷ (Sltiu t 7 (pos 1) ∷ [])) t x n
      by true e =
          let none : n ≡ 0 = grind (arith, nat_tests) in
          inl (splits_one (Sltiu t x (pos 1)) x 0 t (λ a b. flag (nat_lt a (word (pos 1)))) (λ a b. flag (nat_eq a n)) refl low (λ a b sa sb. rw none (grind (arith, nat_tests))) (λ a b sa sb. flag_small (nat_eq a n)))
      by false e =
          inl (splits_two (Addi 7 x (lower (minus 0 n))) (Sltiu t 7 (pos 1)) x 0 t (λ a b. plus a (word (lower (minus 0 n)))) (λ a b. flag (nat_eq a n)) (λ a. flag (nat_lt a (word (pos 1)))) refl refl low
          (λ a b sa sb. plus_small a (word (lower (minus 0 n)))) (λ a b sa sb. rw (less_is a n sa sn takes) (equal_flag a n sa sn)) (λ a b sa sb. flag_small (nat_eq a n)))
  number_splits NotEqual t x n low sn takes = by (nat_eq n 0) refl
    where
      by : (z : Bool) → nat_eq n 0 ≡ z → NumberSplits NotEqual (if z then Sltu t 0 x ∷ [] else Addi 7 x (lower (minus 0 n)) ∷ (Sltu t 0 7 ∷ [])) t x n
      by true e =
          let none : n ≡ 0 = grind (arith, nat_tests) in
          inr (splits_one (Sltu t 0 x) 0 x t (λ a b. flag (nat_lt a b)) (λ a b. flag (nat_lt a b)) refl low (λ a b sa sb. refl) (λ a b sa sb. flag_small (nat_lt a b)), (λ a. rw none (grind (arith, nat_tests))))
      by false e =
          inl (splits_zero (Addi 7 x (lower (minus 0 n))) x 0 t (λ a b. plus a (word (lower (minus 0 n)))) (λ a b. flag (not (nat_eq a n))) refl low
          (λ a b sa sb. plus_small a (word (lower (minus 0 n)))) (λ a b sa sb. rw (less_is a n sa sn takes) (different_flag a n sa sn)) (λ a b sa sb. flag_small (not (nat_eq a n))))
  number_splits LessSigned t x n low sn takes =
      let is = immediate_signed n sn takes in
      inl (splits_one (Slti t x (lower n)) x 0 t (λ a b. flag (int_lt (signed a) (lower n))) (λ a b. flag (int_lt (signed a) (signed n))) refl low (λ a b sa sb. rw is refl) (λ a b sa sb. flag_small (int_lt (signed a) (signed n))))
  number_splits AtLeastSigned t x n low sn takes =
      let is = immediate_signed n sn takes in
      inl (splits_two (Slti 7 x (lower n)) (Xori t 7 (pos 1)) x 0 t (λ a b. flag (int_lt (signed a) (lower n))) (λ a b. flag (not (int_lt (signed a) (signed n)))) (λ a. bit_xor a (word (pos 1))) refl refl low
      (λ a b sa sb. flag_small (int_lt (signed a) (lower n))) (λ a b sa sb. rw is (opposite_flag (int_lt (signed a) (signed n)))) (λ a b sa sb. flag_small (not (int_lt (signed a) (signed n)))))
  number_splits LessUnsigned t x n low sn takes =
      let is = immediate_word n sn takes in
      inl (splits_one (Sltiu t x (lower n)) x 0 t (λ a b. flag (nat_lt a (word (lower n)))) (λ a b. flag (nat_lt a n)) refl low (λ a b sa sb. rw is refl) (λ a b sa sb. flag_small (nat_lt a n)))
  number_splits AtLeastUnsigned t x n low sn takes =
      let is = immediate_word n sn takes in
      inl (splits_two (Sltiu 7 x (lower n)) (Xori t 7 (pos 1)) x 0 t (λ a b. flag (nat_lt a (word (lower n)))) (λ a b. flag (not (nat_lt a n))) (λ a. bit_xor a (word (pos 1))) refl refl low
      (λ a b sa sb. flag_small (nat_lt a (word (lower n)))) (λ a b sa sb. rw is (opposite_flag (nat_lt a n))) (λ a b sa sb. flag_small (not (nat_lt a n))))

module _ (s : WalkSetting) (plan : Plan) (variables : ℕ → ℕ) (fine : Fits s plan variables) (to : ℕ → Env → Processor → Type 0) (q : ℕ) (queue : Queue) (go : ℕ → Deed) (high : nat_lt q 28 ≡ false)
    (left : (t r : ℕ) → t < 28 → r < 28 → queue_use s.copies s.side (Computes t q r) ≡ Some (Takes queue)) (right : (t r : ℕ) → t < 28 → r < 28 → queue_use s.copies s.side (Computes t r q) ≡ Some (Takes queue)) where
  -- with what is computed of the word in t, and whatever in scratch registers, this runs on
  abbrev OnWord : VariableSet → Moment → List Inst → ℕ → (ℕ → ℕ) → Type 0
  OnWord live m is t f = (w : ℕ) (c : Contents) → w < 2 ^ 32 → Ready plan live m c → f w < 2 ^ 32 → Runs s plan.private to is (put t (f w) c) (go w)

  -- an instruction whose left source takes the word, and one whose right source does
  takes_left : {c : Contents} (i : Inst) (t r : ℕ) (f : ℕ → ℕ → ℕ) (is : List Inst) → effect i ≡ on_two t q r f → t < 28 → r < 28 → ((w : ℕ) → w < 2 ^ 32 → f w (c.register r) < 2 ^ 32) →
      ((w : ℕ) → w < 2 ^ 32 → Runs s plan.private to is (put t (f w (c.register r)) c) (go w)) → Runs s plan.private to (i ∷ is) c (Take queue go)
  takes_left {c} i t r f is does low plain fits run =
      runs_take s plan.private to (λ w. put t (f w (c.register r)) c) (λ w word_fits k j small here is p h.
      let a : read c w q ≡ w = rw high refl in
      let b = plain_read c w r plain in
      let same : f (read c w q) (read c w r) ≡ f w (c.register r) = rw (a, b) refl in
      let one = step s plan.private i t q r w (k + 1) j (λ pc x y. f x y) (λ pc x y. plus pc 4) (Takes queue) h here is does (left t r low plain) (rw same (fits w word_fits)) (omega arith) in
      (f (read c 0 q) (read c 0 r), rw same at one)) run

  takes_right : {c : Contents} (i : Inst) (t r : ℕ) (f : ℕ → ℕ → ℕ) (is : List Inst) → effect i ≡ on_two t r q f → t < 28 → r < 28 → ((w : ℕ) → w < 2 ^ 32 → f (c.register r) w < 2 ^ 32) →
      ((w : ℕ) → w < 2 ^ 32 → Runs s plan.private to is (put t (f (c.register r) w) c) (go w)) → Runs s plan.private to (i ∷ is) c (Take queue go)
  takes_right {c} i t r f is does low plain fits run =
      runs_take s plan.private to (λ w. put t (f (c.register r) w) c) (λ w word_fits k j small here is p h.
      let a : read c w q ≡ w = rw high refl in
      let b = plain_read c w r plain in
      let same : f (read c w r) (read c w q) ≡ f (c.register r) w = rw (a, b) refl in
      let one = step s plan.private i t r q w (k + 1) j (λ pc x y. f x y) (λ pc x y. plus pc 4) (Takes queue) h here is does (right t r low plain) (rw same (fits w word_fits)) (omega arith) in
      (f (read c 0 r) (read c 0 q), rw same at one)) run

  -- ---- the word with another operand, or with a number

  left_operation : {live : VariableSet} {m : Moment} {c : Contents} (t : ℕ) (o : Operator) (y : Operand) (is : List Inst) → t < 28 → Ready plan live m c → ((u : ℕ) → in_operand y u ≡ true → live u ≡ true) → IsNumber y → OnWord live m is t (λ w. combined o w (value y m.env)) →
      Runs s plan.private to (fetch (plan.home m.function) 6 y ++ operation_code o t q (source (plan.home m.function) 6 y) ∷ is) c (Take queue go)
  left_operation {m = m} t o y is low h reads number run =
      let r = source (plan.home m.function) 6 y in
      runs_fetch s plan variables fine to 6 y (operation_code o t q r ∷ is) (is_work 6 (omega arith) (omega arith)) h reads number (λ c1 like got.
      let h1 = ready_like s plan variables fine 6 (is_scratch plan 6 (omega arith) (omega arith)) like h in
      takes_left (operation_code o t q r) t r (combined o) is (operation_is o t q r) low (source_plain s plan variables fine to m.function 6 y (omega arith)) (λ w small. operation_fits o w (c1.register r) small (h1.fits r))
      (λ w small. let fits = operation_fits o w (c1.register r) small (h1.fits r) in rw got (run w c1 small h1 (rw got at fits))))

  right_operation : {live : VariableSet} {m : Moment} {c : Contents} (t : ℕ) (o : Operator) (x : Operand) (is : List Inst) → t < 28 → Ready plan live m c → ((u : ℕ) → in_operand x u ≡ true → live u ≡ true) → IsNumber x → OnWord live m is t (λ w. combined o (value x m.env) w) →
      Runs s plan.private to (fetch (plan.home m.function) 5 x ++ operation_code o t (source (plan.home m.function) 5 x) q ∷ is) c (Take queue go)
  right_operation {m = m} t o x is low h reads number run =
      let r = source (plan.home m.function) 5 x in
      runs_fetch s plan variables fine to 5 x (operation_code o t r q ∷ is) (is_work 5 (omega arith) (omega arith)) h reads number (λ c1 like got.
      let h1 = ready_like s plan variables fine 5 (is_scratch plan 5 (omega arith) (omega arith)) like h in
      takes_right (operation_code o t r q) t r (combined o) is (operation_is o t r q) low (source_plain s plan variables fine to m.function 5 x (omega arith)) (λ w small. operation_fits o (c1.register r) w (h1.fits r) small)
      (λ w small. let fits = operation_fits o (c1.register r) w (h1.fits r) small in rw got (run w c1 small h1 (rw got at fits))))

  with_number : {live : VariableSet} {m : Moment} {c : Contents} (t : ℕ) (i : Inst) (operation : ℕ → ℕ) (is : List Inst) → t < 28 → Ready plan live m c → DoesWith i t q operation → ((a : ℕ) → a < 2 ^ 32 → operation a < 2 ^ 32) → OnWord live m is t operation →
      Runs s plan.private to (i ∷ is) c (Take queue go)
  with_number {c = c} t i operation is low h with' fits run =
      takes_left i t 0 (λ a b. with'.function a) is with'.does low (omega arith) (λ w small. rw (with'.same w) (fits w small)) (λ w small. rw (with'.same w) (run w c small h (fits w small)))

  -- ---- code of which only the first instruction reads its sources

  left_splits : {live : VariableSet} {m : Moment} {c : Contents} (code : List Inst) (t r : ℕ) (operation : ℕ → ℕ → ℕ) (is : List Inst) → Splits s plan variables fine to code q r t operation → r < 28 → Ready plan live m c → ((w : ℕ) → w < 2 ^ 32 → operation w (c.register r) < 2 ^ 32) → OnWord live m is t (λ w. operation w (c.register r)) →
      Runs s plan.private to (code ++ is) c (Take queue go)
  left_splits {live} {m} {c} code t r operation is h plain ready fits run =
      subst (λ (k : List Inst). Runs s plan.private to (k ++ is) c (Take queue go)) (sym h.is)
      (takes_left h.first h.work r h.function (h.rest ++ is) h.does h.low plain (λ w small. h.fits w (c.register r) small (ready.fits r))
      (λ w small. h.ends live m c (go w) w (c.register r) is small (ready.fits r) ready (λ c1 h1. run w c1 small h1 (fits w small))))

  right_splits : {live : VariableSet} {m : Moment} {c : Contents} (code : List Inst) (t r : ℕ) (operation : ℕ → ℕ → ℕ) (is : List Inst) → Splits s plan variables fine to code r q t operation → r < 28 → Ready plan live m c → ((w : ℕ) → w < 2 ^ 32 → operation (c.register r) w < 2 ^ 32) → OnWord live m is t (λ w. operation (c.register r) w) →
      Runs s plan.private to (code ++ is) c (Take queue go)
  right_splits {live} {m} {c} code t r operation is h plain ready fits run =
      subst (λ (k : List Inst). Runs s plan.private to (k ++ is) c (Take queue go)) (sym h.is)
      (takes_right h.first h.work r h.function (h.rest ++ is) h.does h.low plain (λ w small. h.fits (c.register r) w (ready.fits r) small)
      (λ w small. h.ends live m c (go w) (c.register r) w is (ready.fits r) small ready (λ c1 h1. run w c1 small h1 (fits w small))))

  left_compare : {live : VariableSet} {m : Moment} {c : Contents} (t : ℕ) (relation : Comparison) (y : Operand) (is : List Inst) → t < 28 → Ready plan live m c → ((u : ℕ) → in_operand y u ≡ true → live u ≡ true) → IsNumber y → OnWord live m is t (λ w. flag (compared relation w (value y m.env))) →
      Runs s plan.private to (fetch (plan.home m.function) 6 y ++ (compare_code relation t q (source (plan.home m.function) 6 y) ++ is)) c (Take queue go)
  left_compare {m = m} t relation y is low h reads number run =
      let r = source (plan.home m.function) 6 y in
      runs_fetch s plan variables fine to 6 y (compare_code relation t q r ++ is) (is_work 6 (omega arith) (omega arith)) h reads number (λ c1 like got.
      let h1 = ready_like s plan variables fine 6 (is_scratch plan 6 (omega arith) (omega arith)) like h in
      left_splits (compare_code relation t q r) t r (λ a b. flag (compared relation a b)) is (compare_splits s plan variables fine to relation t q r low) (source_plain s plan variables fine to m.function 6 y (omega arith)) h1 (λ w small. flag_small (compared relation w (c1.register r))) (rw got run))

  right_compare : {live : VariableSet} {m : Moment} {c : Contents} (t : ℕ) (relation : Comparison) (x : Operand) (is : List Inst) → t < 28 → Ready plan live m c → ((u : ℕ) → in_operand x u ≡ true → live u ≡ true) → IsNumber x → OnWord live m is t (λ w. flag (compared relation (value x m.env) w)) →
      Runs s plan.private to (fetch (plan.home m.function) 5 x ++ (compare_code relation t (source (plan.home m.function) 5 x) q ++ is)) c (Take queue go)
  right_compare {m = m} t relation x is low h reads number run =
      let r = source (plan.home m.function) 5 x in
      runs_fetch s plan variables fine to 5 x (compare_code relation t r q ++ is) (is_work 5 (omega arith) (omega arith)) h reads number (λ c1 like got.
      let h1 = ready_like s plan variables fine 5 (is_scratch plan 5 (omega arith) (omega arith)) like h in
      right_splits (compare_code relation t r q) t r (λ a b. flag (compared relation a b)) is (compare_splits s plan variables fine to relation t r q low) (source_plain s plan variables fine to m.function 5 x (omega arith)) h1 (λ w small. flag_small (compared relation (c1.register r) w)) (rw got run))

  number_compare : {live : VariableSet} {m : Moment} {c : Contents} (t : ℕ) (relation : Comparison) (n : ℕ) (is : List Inst) → t < 28 → Ready plan live m c → n < 2 ^ 32 → takes_number relation n ≡ true → OnWord live m is t (λ w. flag (compared relation w n)) →
      Runs s plan.private to (compare_number_code relation t q n ++ is) c (Take queue go)
  number_compare {live} {m} {c} t relation n is low h number takes run = by (number_splits s plan variables fine to relation t q n low number takes)
    where
      by : NumberSplits s plan variables fine to relation (compare_number_code relation t q n) t q n → Runs s plan.private to (compare_number_code relation t q n ++ is) c (Take queue go)
      by (inl k) = left_splits (compare_number_code relation t q n) t 0 (λ a b. flag (compared relation a n)) is k (omega arith) h (λ w small. flag_small (compared relation w n)) run
      by (inr k) =
          right_splits (compare_number_code relation t q n) t 0 (λ a b. flag (nat_lt a b)) is k.0 (omega arith) h (λ w small. flag_small (nat_lt (c.register 0) w))
          (λ w c1 small h1 fits. (let same : flag (nat_lt (c.register 0) w) ≡ flag (compared relation w n) = rw h.zero (k.1 w) in rw same (run w c1 small h1 (flag_small (compared relation w n)))))

  -- ---- values

  -- where v stands for the word
  abbrev Instead : ℕ → Moment → ℕ → Home
  Instead v m = with_home v (Register q) (plan.home m.function)

  -- no number's place is that of v
  abbrev IsFar : ℕ → Type 0
  IsFar v = (n : ℕ) → nat_eq (number_key n) v ≡ false

  early_binary : {live : VariableSet} {m : Moment} {c : Contents} (v t : ℕ) (o : Operator) (x y : Operand) (is : List Inst) → IsFar v → either_one (in_operand x v) (in_operand y v) ≡ true → t < 28 → Ready plan live m c →
      ((u : ℕ) → in_operand x u ≡ true → nat_eq u v ≡ false → live u ≡ true) → ((u : ℕ) → in_operand y u ≡ true → nat_eq u v ≡ false → live u ≡ true) → IsNumber x → IsNumber y →
      OnWord live m is t (λ w. combined o (value x (form.put true v w m.env)) (value y (form.put true v w m.env))) → Runs s plan.private to (binary_code (Instead v m) t o x y ++ is) c (Take queue go)
  early_binary v t o (Number n) (Number k) is far one low h reads_x reads_y number_x number_y run = absurd (let bad : false ≡ true = one in cc)
  early_binary {live} {m} {c} v t o (Variable a) (Number n) is far one low h reads_x reads_y number_x number_y run =
      let e : nat_eq v a ≡ true = left_one (nat_eq v a) one in
      let f : nat_eq a v ≡ true = grind (arith, nat_tests) in
      let on : OnWord live m is t (λ w. combined o w n) = λ w c1 small h1 fits. (let same : combined o (form.put true v w m.env a) n ≡ combined o w n = rw f refl in let r = run w c1 small h1 (rw same fits) in rw same at r) in
      rw (f, far n) (by on (immediate_code o t q n) refl)
    where
      by : OnWord live m is t (λ w. combined o w n) → (i : Option Inst) → immediate_code o t q n ≡ i → Runs s plan.private to (behind_or [] i (fetch (plan.home m.function) 6 (Number n) ++ operation_code o t q (source (plan.home m.function) 6 (Number n)) ∷ []) ++ is) c (Take queue go)
      by on (Some i) e = with_number t i (λ a. combined o a n) is low h (immediate_does o t q n i number_y e) (λ a l. operation_fits o a n l number_y) on
      by on None e = rw append_assoc (left_operation t o (Number n) is low h (λ u e. absurd (let bad : false ≡ true = e in cc)) number_y on)
  early_binary {live} {m} {c} v t o (Number n) (Variable b) is far one low h reads_x reads_y number_x number_y run =
      let f : nat_eq b v ≡ true = grind (arith, nat_tests) in
      let on : OnWord live m is t (λ w. combined o n w) = λ w c1 small h1 fits. (let same : combined o n (form.put true v w m.env b) ≡ combined o n w = rw f refl in let r = run w c1 small h1 (rw same fits) in rw same at r) in
      rw (f, far n) (by on (exchanged_code o t q n) refl)
    where
      by : OnWord live m is t (λ w. combined o n w) → (i : Option Inst) → exchanged_code o t q n ≡ i → Runs s plan.private to (behind_or [] i (fetch (plan.home m.function) 5 (Number n) ++ operation_code o t (source (plan.home m.function) 5 (Number n)) q ∷ []) ++ is) c (Take queue go)
      by on (Some i) e = with_number t i (λ a. combined o n a) is low h (exchanged_does o t q n i number_x e) (λ a l. operation_fits o n a number_x l) on
      by on None e = rw append_assoc (right_operation t o (Number n) is low h (λ u e. absurd (let bad : false ≡ true = e in cc)) number_x on)
  early_binary {live} {m} {c} v t o (Variable a) (Variable b) is far one low h reads_x reads_y number_x number_y run = by (nat_eq v a) refl one
    where
      by : (z : Bool) → nat_eq v a ≡ z → either_one z (nat_eq v b) ≡ true → Runs s plan.private to (combine_registers (Instead v m) t o (Variable a) (Variable b) ++ is) c (Take queue go)
      by true e other =
          let f : nat_eq a v ≡ true = grind (arith, nat_tests) in
          let g : nat_eq b v ≡ false = unlike b other in
          let on : OnWord live m is t (λ w. combined o w (m.env b)) = λ w c1 small h1 fits. (let same : combined o (form.put true v w m.env a) (form.put true v w m.env b) ≡ combined o w (m.env b) = rw (f, g) refl in let r = run w c1 small h1 (rw same fits) in rw same at r) in
          rw (f, g, append_assoc) (left_operation t o (Variable b) is low h (λ u e. reads_y u e (let same : u ≡ b = grind (arith, nat_tests) in rw same g)) tt on)
        where
          unlike : (b : ℕ) → not (nat_eq v b) ≡ true → nat_eq b v ≡ false
          unlike b e = grind (arith, nat_tests)
      by false e other =
          let f : nat_eq b v ≡ true = grind (arith, nat_tests) in
          let g : nat_eq a v ≡ false = grind (arith, nat_tests) in
          let on : OnWord live m is t (λ w. combined o (m.env a) w) = λ w c1 small h1 fits. (let same : combined o (form.put true v w m.env a) (form.put true v w m.env b) ≡ combined o (m.env a) w = rw (f, g) refl in let r = run w c1 small h1 (rw same fits) in rw same at r) in
          rw (f, g, append_assoc) (right_operation t o (Variable a) is low h (λ u e. reads_x u e (let same : u ≡ a = grind (arith, nat_tests) in rw same g)) tt on)

  early_test : {live : VariableSet} {m : Moment} {c : Contents} (v t : ℕ) (relation : Comparison) (x y : Operand) (is : List Inst) → IsFar v → either_one (in_operand x v) (in_operand y v) ≡ true → t < 28 → Ready plan live m c →
      ((u : ℕ) → in_operand x u ≡ true → nat_eq u v ≡ false → live u ≡ true) → ((u : ℕ) → in_operand y u ≡ true → nat_eq u v ≡ false → live u ≡ true) → IsNumber x → IsNumber y →
      OnWord live m is t (λ w. flag (compared relation (value x (form.put true v w m.env)) (value y (form.put true v w m.env)))) → Runs s plan.private to (compare_operands (Instead v m) t relation x y ++ is) c (Take queue go)
  early_test v t relation (Number n) (Number k) is far one low h reads_x reads_y number_x number_y run = absurd (let bad : false ≡ true = one in cc)
  early_test {live} {m} {c} v t relation (Variable a) (Number n) is far one low h reads_x reads_y number_x number_y run =
      let e : nat_eq v a ≡ true = left_one (nat_eq v a) one in
      let f : nat_eq a v ≡ true = grind (arith, nat_tests) in
      let on : OnWord live m is t (λ w. flag (compared relation w n)) = λ w c1 small h1 fits. (let same : flag (compared relation (form.put true v w m.env a) n) ≡ flag (compared relation w n) = rw f refl in let r = run w c1 small h1 (rw same fits) in rw same at r) in
      rw (f, far n) (by on (as_immediate (plan.home m.function) relation n) refl)
    where
      by : OnWord live m is t (λ w. flag (compared relation w n)) → (b : Bool) → as_immediate (plan.home m.function) relation n ≡ b →
          Runs s plan.private to ((if b then compare_number_code relation t q n else fetch (plan.home m.function) 6 (Number n) ++ compare_code relation t q (source (plan.home m.function) 6 (Number n))) ++ is) c (Take queue go)
      by on true e = number_compare t relation n is low h number_y (and_true (takes_number relation n) (not (is_some (resident_register (plan.home m.function (number_key n))))) e).0 on
      by on false e = rw append_assoc (left_compare t relation (Number n) is low h (λ u e. absurd (let bad : false ≡ true = e in cc)) number_y on)
  early_test {live} {m} {c} v t relation (Number n) (Variable b) is far one low h reads_x reads_y number_x number_y run =
      let f : nat_eq b v ≡ true = grind (arith, nat_tests) in
      let on : OnWord live m is t (λ w. flag (compared relation n w)) = λ w c1 small h1 fits. (let same : flag (compared relation n (form.put true v w m.env b)) ≡ flag (compared relation n w) = rw f refl in let r = run w c1 small h1 (rw same fits) in rw same at r) in
      rw (f, far n, append_assoc) (right_compare t relation (Number n) is low h (λ u e. absurd (let bad : false ≡ true = e in cc)) number_x on)
  early_test {live} {m} {c} v t relation (Variable a) (Variable b) is far one low h reads_x reads_y number_x number_y run = by (nat_eq v a) refl one
    where
      by : (z : Bool) → nat_eq v a ≡ z → either_one z (nat_eq v b) ≡ true → Runs s plan.private to (compare_registers (Instead v m) t relation (Variable a) (Variable b) ++ is) c (Take queue go)
      by true e other =
          let f : nat_eq a v ≡ true = grind (arith, nat_tests) in
          let g : nat_eq b v ≡ false = unlike b other in
          let on : OnWord live m is t (λ w. flag (compared relation w (m.env b))) = λ w c1 small h1 fits. (let same : flag (compared relation (form.put true v w m.env a) (form.put true v w m.env b)) ≡ flag (compared relation w (m.env b)) = rw (f, g) refl in let r = run w c1 small h1 (rw same fits) in rw same at r) in
          rw (f, g, append_assoc) (left_compare t relation (Variable b) is low h (λ u e. reads_y u e (let same : u ≡ b = grind (arith, nat_tests) in rw same g)) tt on)
        where
          unlike : (b : ℕ) → not (nat_eq v b) ≡ true → nat_eq b v ≡ false
          unlike b e = grind (arith, nat_tests)
      by false e other =
          let f : nat_eq b v ≡ true = grind (arith, nat_tests) in
          let g : nat_eq a v ≡ false = grind (arith, nat_tests) in
          let on : OnWord live m is t (λ w. flag (compared relation (m.env a) w)) = λ w c1 small h1 fits. (let same : flag (compared relation (form.put true v w m.env a) (form.put true v w m.env b)) ≡ flag (compared relation (m.env a) w) = rw (f, g) refl in let r = run w c1 small h1 (rw same fits) in rw same at r) in
          rw (f, g, append_assoc) (right_compare t relation (Variable a) is low h (λ u e. reads_x u e (let same : u ≡ a = grind (arith, nat_tests) in rw same g)) tt on)

  early_value : {live : VariableSet} {m : Moment} {c : Contents} (v t : ℕ) (y : Value) (is : List Inst) → IsFar v → reads_once v y ≡ true → t < 28 → Ready plan live m c → ((u : ℕ) → in_value y u ≡ true → nat_eq u v ≡ false → live u ≡ true) → AreNumbers y →
      OnWord live m is t (λ w. computed y m.frame (form.put true v w m.env)) → Runs s plan.private to (value_code (Instead v m) t y ++ is) c (Take queue go)
  early_value {m = m} {c = c} v t (Same (Variable a)) is far once low h reads numbers run =
      let f : nat_eq a v ≡ true = grind (arith, nat_tests) in
      rw f (takes_left (Addi t q (pos 0)) t 0 (λ x y. plus x (word (pos 0))) is refl low (omega arith) (λ w small. omega arith)
      (λ w small. let none = plus_zero w small in let same : form.put true v w m.env a ≡ w = rw f refl in let r = run w c small h (rw same small) in rw none (rw same at r)))
  early_value v t (Same (Number n)) is far once low h reads numbers run = absurd (let bad : false ≡ true = once in cc)
  early_value {live} {m} {c} v t (Extended kind (Variable a)) is far once low h reads numbers run =
      let f : nat_eq a v ≡ true = grind (arith, nat_tests) in
      let on : OnWord live m is t (λ w. extended kind w) = λ w c1 small h1 fits. (let same : extended kind (form.put true v w m.env a) ≡ extended kind w = rw f refl in let r = run w c1 small h1 (rw same fits) in rw same at r) in
      rw f (left_splits (extend_code kind t q) t 0 (λ a b. extended kind a) is (extend_splits s plan variables fine to kind t q low) (omega arith) h (λ w small. extended_fits kind w small) on)
  early_value v t (Extended kind (Number n)) is far once low h reads numbers run = absurd (let bad : false ≡ true = once in cc)
  early_value v t (Binary o x y) is far once low h reads numbers run =
      early_binary v t o x y is far once low h (λ u e ne. reads u (rw e refl) ne) (λ u e ne. reads u (rw e (or_true (in_operand x u))) ne) numbers.0 numbers.1 run
  early_value v t (Holds test) is far once low h reads numbers run =
      early_test v t test.comparison test.left test.right is far once low h (λ u e ne. reads u (rw e refl) ne) (λ u e ne. reads u (rw e (or_true (in_operand test.left u))) ne) numbers.0 numbers.1 run
  early_value v t (FrameAddress offset) is far once low h reads numbers run = absurd (let bad : false ≡ true = once in cc)

module _ (s : WalkSetting) (plan : Plan) (variables : ℕ → ℕ) (fine : Fits s plan variables) (live live' : VariableSet) (m : Moment) (v d : ℕ) (y : Value) where
  -- the processor holds what it is to hold behind the next action
  abbrev pub ToNext : ℕ → Env → Processor → Type 0
  ToNext k env p = Stands plan live' (with_env (form.put true d (computed y m.frame env) env) m) k p

  -- it doesn't matter that v is set, where it isn't live or is set again
  kept_same : (w x u : ℕ) → (nat_eq v d || not (live' v)) ≡ true → live' u ≡ true → form.put true d x m.env u ≡ form.put true d x (form.put true v w m.env) u
  kept_same w x u dead l = by (nat_eq u d) (nat_eq u v) refl refl
    where
      by : (a b : Bool) → nat_eq u d ≡ a → nat_eq u v ≡ b → (if (true && a) then x else m.env u) ≡ (if (true && a) then x else (if (true && b) then w else m.env u))
      by true b e f = refl
      by false true e f =
          let same : u ≡ v = grind (arith, nat_tests) in
          let kept : live' v ≡ true = subst (λ (n : ℕ). live' n ≡ true) same l in
          let far : nat_eq v d ≡ false = grind (arith, nat_tests) in
          absurd (let bad : (false || not true) ≡ true = rw (far, kept) at dead in cc)
      by false false e f = refl

  early_ends : {c : Contents} (w : ℕ) → d < variables m.function → (nat_eq v d || not (live' v)) ≡ true → Ready plan live m c → ((u : ℕ) → live' u ≡ true → u ≢ d → (live u ≡ true) × (plan.home m.function u ≢ plan.home m.function d)) → computed y m.frame (form.put true v w m.env) < 2 ^ 32 →
      Runs s plan.private ToNext (keep (plan.home m.function d)) (put (register_or 5 (plan.home m.function d)) (computed y m.frame (form.put true v w m.env)) c) (Went (form.put true v w m.env))
  early_ends w scope dead h apart fits =
      let x : ℕ = computed y m.frame (form.put true v w m.env) in
      let run = runs_keep s plan variables fine ToNext {d = Went (form.put true v w m.env)} (plan.home m.function d) x [] h (fine.homes m.function d) (λ i e. slot_framed s plan variables fine m.function d i e) fits
      (λ c1 got. runs_nothing s plan.private ToNext (λ k p shows.
      let a = (ready_gets s plan variables fine d x scope h got apart).agrees in
      record { contents = c1; shows = shows; agrees = record { base = a.base; variables = λ u l. a.variables u l ∙ kept_same w x u dead l; pointer = a.pointer; frame = a.frame; depth = a.depth; addresses = a.addresses; residents = a.residents; waiting = a.waiting; room = a.room; within = record { depth = a.within.depth; frame = a.within.frame } } })) in
      rw append-nil at run

  pub early_runs : {c : Contents} (q : ℕ) (queue : Queue) → nat_lt q 28 ≡ false →
      ((t r : ℕ) → t < 28 → r < 28 → queue_use s.copies s.side (Computes t q r) ≡ Some (Takes queue)) → ((t r : ℕ) → t < 28 → r < 28 → queue_use s.copies s.side (Computes t r q) ≡ Some (Takes queue)) →
      Ready plan live m c → v < 2 ^ 32 → d < variables m.function → reads_once v y ≡ true → (nat_eq v d || not (live' v)) ≡ true → AreNumbers y → ((u : ℕ) → in_value y u ≡ true → nat_eq u v ≡ false → live u ≡ true) →
      ((u : ℕ) → live' u ≡ true → u ≢ d → (live u ≡ true) × (plan.home m.function u ≢ plan.home m.function d)) → Runs s plan.private ToNext (early_code (plan.home m.function) q v d y) c (Take queue (λ w. Went (form.put true v w m.env)))
  early_runs q queue high left right h own scope once dead numbers reads apart =
      let home = plan.home m.function d in
      early_value s plan variables fine ToNext q queue (λ w. Went (form.put true v w m.env)) high left right v (register_or 5 home) y (keep home) (λ n. key_apart n v own) once (register_plain s plan variables fine ToNext (variables m.function) 5 home (fine.homes m.function d) (omega arith)) h reads numbers
      (λ w c1 small h1 fits. early_ends w scope dead h1 apart fits)
