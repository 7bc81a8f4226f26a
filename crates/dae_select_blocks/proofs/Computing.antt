-- The code of a value leaves the value in its register.
use Rattle.std.proofs.Common.{◌≡◌, ◌≢◌, ℕ, ◌^◌, ◌<◌, Bool, true, false, not, ◌&&◌, List, [], ◌∷◌, ◌++◌, Option, Some, None, refl, sym, ap, ◌∙◌, subst, arith, append_assoc}
use Rattle.std.specs.Prelude.{nat_lt, nat_eq, if◌then◌else◌, pos, bit_and, bit_xor, int_lt, is_some}
use Rattle.std.proofs.lemmas.Bool.Decides.{nat_tests}
use Rattle.std.proofs.lemmas.Option.{same_Some}
use Rattle.dae_base.specs.Words.{plus, minus, word, signed, extended}
use Rattle.dae_base.specs.declared.LoadKind.{LoadKind}
use Rattle.dae_base.specs.declared.LoadKind.TheVariants.{I8, U8, I16, U16, I32}
use Rattle.dae_base.proofs.Laws.{plus_small, and_true}
use Rattle.dae_encode.specs.declared.Inst.{Inst}
use Rattle.dae_encode.specs.declared.Inst.TheVariants.{Addi, Add, Sub, Slt, Sltu, Slti, Sltiu, Xori, Andi, Slli, Srli, Srai}
use Rattle.dae_encode.specs.Instructions.{flag, shift_left, shift_right, shift_signed}
use Rattle.dae_encode.specs.Processor.{Processor}
use Rattle.dae_encode.proofs.Laws.{flag_small}
use Rattle.dae_ir.specs.Classes.{VariableSet}
use Rattle.dae_meaning.specs.Variables.{Env}
use Rattle.dae_ir.specs.Form.{value, computed}
use Rattle.dae_meaning.specs.Operations.{combined, compared}
use Rattle.dae_ir.specs.Deeds.{Deed}
use Rattle.dae_ir.specs.declared.form.Operand.{Operand}
use Rattle.dae_ir.specs.declared.form.Operand.TheVariants.{Variable, Number}
use Rattle.dae_meaning.specs.declared.Operator.{Operator}
use Rattle.dae_meaning.specs.declared.Comparison.{Comparison}
use Rattle.dae_meaning.specs.declared.Comparison.TheVariants.{Equal, NotEqual, LessSigned, AtLeastSigned, LessUnsigned, AtLeastUnsigned}
use Rattle.dae_ir.specs.declared.form.Value.{Value}
use Rattle.dae_ir.specs.declared.form.Value.TheVariants.{Same, Extended, Binary, Holds, FrameAddress}
use Rattle.dae_select_walks.specs.declared.Home.{Home}
use Rattle.dae_select_walks.specs.declared.Home.TheVariants.{Register, Slot}
use Rattle.dae_select_walks.specs.Walks.{WalkSetting}
use Rattle.dae_select_walks.specs.Live.{in_operand, in_value}
use Rattle.dae_select_walks.specs.Homes.{Contents, IsHome, number_key, resident_register}
use Rattle.dae_select_walks.specs.Agrees.{Plan, Moment}
use Rattle.dae_select_walks.proofs.LawsOfWalks.{put}
use Rattle.dae_select_blocks.specs.Blocks.{lower, is_immediate, number_code, register_or, source, fetch, immediate_code, exchanged_code, behind_or, combine_registers, binary_code, compare_code, takes_number, compare_number_code, compare_registers, compare_operands, tell_number_code, against_zero, immediate_of, extend_code, operation_code, frame_code, value_code, number_or, as_immediate}
use Rattle.dae_select_blocks.specs.Fits.{Fits}
use Rattle.dae_select_blocks.specs.Wanted.{IsNumber, AreNumbers}
use Rattle.dae_select_blocks.proofs.Halves.{immediate_word, immediate_signed}
use Rattle.dae_select_blocks.proofs.Plain.{computes, Computed, computes_word}
use Rattle.dae_select_blocks.proofs.Frames.{runs_number}
use Rattle.dae_select_blocks.proofs.Runs.{Runs, runs_quiet}
use Rattle.dae_select_blocks.proofs.Agreement.{Ready, IsScratch, Like, ready_like, home_register}
use Rattle.dae_select_blocks.proofs.Operands.{IsWork, like_put, like_itself, home_plain, runs_fetch, runs_move, number_below}
use Rattle.dae_select_blocks.proofs.Values.{operation_is, operation_fits, DoesWith, immediate_does, exchanged_does, equal_flag, equal_left, different_flag, opposite_flag, low_byte, low_half, signed_byte, signed_half}

flag_differs : (b : Bool) → compared NotEqual (flag b) 0 ≡ b
unfolding compared
flag_differs true = refl
flag_differs false = refl

flag_equals : (b : Bool) → compared Equal (flag b) 0 ≡ not b
unfolding compared
flag_equals true = refl
flag_equals false = refl

pub plus_zero : (x : ℕ) → x < 2 ^ 32 → plus x 0 ≡ x
plus_zero x h = omega arith

pub extended_fits : (kind : LoadKind) (x : ℕ) → x < 2 ^ 32 → extended kind x < 2 ^ 32
extended_fits I8 x h = grind (arith, nat_tests)
extended_fits U8 x h = omega arith
extended_fits I16 x h = grind (arith, nat_tests)
extended_fits U16 x h = omega arith
extended_fits I32 x h = h

module _ (s : WalkSetting) (private : ℕ) (to : ℕ → Env → Processor → Type 0) where
  -- so it runs on from an instruction that computes a word into t, whatever t is. Before it only x7 may be another
  abbrev RunsLast : Contents → ℕ → ℕ → List Inst → Deed → Type 0
  RunsLast c t v is d = (c' : Contents) (i : Inst) → Like 7 c c' → Computed i t v c' → Runs s private to (i ∷ is) c' d

  -- a flag in x7 turns over
  flips : {c : Contents} {d : Deed} (t : ℕ) (less : Bool) (is : List Inst) → ((r : ℕ) → c.register r < 2 ^ 32) → RunsLast c t (flag (not less)) is d → Runs s private to (Xori t 7 (pos 1) ∷ is) (put 7 (flag less) c) d
  flips {c} t less is fits run =
      run (put 7 (flag less) c) (Xori t 7 (pos 1)) (like_put 7 (flag less) c (flag_small less) fits)
      (record { first = 7; second = 0; function = (λ x y. bit_xor x (word (pos 1))); does = refl; low = (omega arith); low' = (omega arith); same = opposite_flag less })

  signed_less : (t x y : ℕ) (c : Contents) → x < 28 → y < 28 → Computed (Slt t x y) t (flag (int_lt (signed (c.register x)) (signed (c.register y)))) c
  signed_less t x y c a b = record { first = x; second = y; function = (λ x y. flag (int_lt (signed x) (signed y))); does = refl; low = a; low' = b; same = refl }

  unsigned_less : (t x y : ℕ) (c : Contents) → x < 28 → y < 28 → Computed (Sltu t x y) t (flag (nat_lt (c.register x) (c.register y))) c
  unsigned_less t x y c a b = record { first = x; second = y; function = (λ x y. flag (nat_lt x y)); does = refl; low = a; low' = b; same = refl }

  pub runs_compare : {c : Contents} {d : Deed} (relation : Comparison) (t x y : ℕ) (is : List Inst) → c.register 0 ≡ 0 → ((r : ℕ) → c.register r < 2 ^ 32) → x < 28 → y < 28 →
      RunsLast c t (flag (compared relation (c.register x) (c.register y))) is d → Runs s private to (compare_code relation t x y ++ is) c d
  unfolding compared
  runs_compare {c} Equal t x y is zero fits a b run =
      let v : ℕ = minus (c.register x) (c.register y) in
      runs_quiet s private to (computes s private to (Sub 7 x y) 7 x y minus refl (omega arith) a b (omega arith))
      (run (put 7 v c) (Sltiu t 7 (pos 1)) (like_put 7 v c (omega arith) fits)
      (record { first = 7; second = 0; function = (λ x y. flag (nat_lt x (word (pos 1)))); does = refl; low = (omega arith); low' = (omega arith); same = equal_flag (c.register x) (c.register y) (fits x) (fits y) }))
  runs_compare {c} NotEqual t x y is zero fits a b run =
      let v : ℕ = minus (c.register x) (c.register y) in
      runs_quiet s private to (computes s private to (Sub 7 x y) 7 x y minus refl (omega arith) a b (omega arith))
      (run (put 7 v c) (Sltu t 0 7) (like_put 7 v c (omega arith) fits)
      (record { first = 0; second = 7; function = (λ x y. flag (nat_lt x y)); does = refl; low = (omega arith); low' = (omega arith); same = rw zero (different_flag (c.register x) (c.register y) (fits x) (fits y)) }))
  runs_compare {c} LessSigned t x y is zero fits a b run = run c (Slt t x y) (like_itself 7 c fits) (signed_less t x y c a b)
  runs_compare {c} AtLeastSigned t x y is zero fits a b run =
      let less : Bool = int_lt (signed (c.register x)) (signed (c.register y)) in
      runs_quiet s private to (computes_word s private to (Slt 7 x y) 7 (flag less) (signed_less 7 x y c a b) (omega arith) (flag_small less)) (flips t less is fits run)
  runs_compare {c} LessUnsigned t x y is zero fits a b run = run c (Sltu t x y) (like_itself 7 c fits) (unsigned_less t x y c a b)
  runs_compare {c} AtLeastUnsigned t x y is zero fits a b run =
      let less : Bool = nat_lt (c.register x) (c.register y) in
      runs_quiet s private to (computes_word s private to (Sltu 7 x y) 7 (flag less) (unsigned_less 7 x y c a b) (omega arith) (flag_small less)) (flips t less is fits run)

  -- ---- comparisons of a register with a number

  -- x less n, in x7
  less_number : {c : Contents} {d : Deed} (x n : ℕ) (is : List Inst) → x < 28 → n < 2 ^ 32 → is_immediate (minus 0 n) ≡ true →
      Runs s private to is (put 7 (minus (c.register x) n) c) d → Runs s private to (Addi 7 x (lower (minus 0 n)) ∷ is) c d
  less_number {c} x n is a small takes run =
      let added : plus (c.register x) (word (lower (minus 0 n))) ≡ minus (c.register x) n = rw (immediate_word (minus 0 n) (omega arith) takes) (omega arith) in
      runs_quiet s private to (computes s private to (Addi 7 x (lower (minus 0 n))) 7 x 0 (λ x y. plus x (word (lower (minus 0 n)))) refl (omega arith) a (omega arith) (plus_small (c.register x) (word (lower (minus 0 n))))) (rw added run)

  equal_number : {c : Contents} {d : Deed} (t x n : ℕ) (is : List Inst) → ((r : ℕ) → c.register r < 2 ^ 32) → x < 28 → n < 2 ^ 32 → is_immediate (minus 0 n) ≡ true → (b : Bool) → nat_eq n 0 ≡ b →
      RunsLast c t (flag (nat_eq (c.register x) n)) is d → Runs s private to ((if b then Sltiu t x (pos 1) ∷ [] else Addi 7 x (lower (minus 0 n)) ∷ (Sltiu t 7 (pos 1) ∷ [])) ++ is) c d
  equal_number {c} t x n is fits a small takes true e run =
      let none : n ≡ 0 = grind (arith, nat_tests) in
      let same : flag (nat_lt (c.register x) (word (pos 1))) ≡ flag (nat_eq (c.register x) n) = rw none (grind (arith, nat_tests)) in
      run c (Sltiu t x (pos 1)) (like_itself 7 c fits) (record { first = x; second = 0; function = (λ x y. flag (nat_lt x (word (pos 1)))); does = refl; low = a; low' = (omega arith); same = same })
  equal_number {c} t x n is fits a small takes false e run =
      let v : ℕ = minus (c.register x) n in
      less_number x n (Sltiu t 7 (pos 1) ∷ is) a small takes
      (run (put 7 v c) (Sltiu t 7 (pos 1)) (like_put 7 v c (omega arith) fits)
      (record { first = 7; second = 0; function = (λ x y. flag (nat_lt x (word (pos 1)))); does = refl; low = (omega arith); low' = (omega arith); same = equal_flag (c.register x) n (fits x) small }))

  different_number : {c : Contents} {d : Deed} (t x n : ℕ) (is : List Inst) → c.register 0 ≡ 0 → ((r : ℕ) → c.register r < 2 ^ 32) → x < 28 → n < 2 ^ 32 → is_immediate (minus 0 n) ≡ true → (b : Bool) → nat_eq n 0 ≡ b →
      RunsLast c t (flag (not (nat_eq (c.register x) n))) is d → Runs s private to ((if b then Sltu t 0 x ∷ [] else Addi 7 x (lower (minus 0 n)) ∷ (Sltu t 0 7 ∷ [])) ++ is) c d
  different_number {c} t x n is zero fits a small takes true e run =
      let none : n ≡ 0 = grind (arith, nat_tests) in
      let same : flag (nat_lt (c.register 0) (c.register x)) ≡ flag (not (nat_eq (c.register x) n)) = rw (none, zero) (grind (arith, nat_tests)) in
      run c (Sltu t 0 x) (like_itself 7 c fits) (record { first = 0; second = x; function = (λ x y. flag (nat_lt x y)); does = refl; low = (omega arith); low' = a; same = same })
  different_number {c} t x n is zero fits a small takes false e run =
      let v : ℕ = minus (c.register x) n in
      less_number x n (Sltu t 0 7 ∷ is) a small takes
      (run (put 7 v c) (Sltu t 0 7) (like_put 7 v c (omega arith) fits)
      (record { first = 0; second = 7; function = (λ x y. flag (nat_lt x y)); does = refl; low = (omega arith); low' = (omega arith); same = rw zero (different_flag (c.register x) n (fits x) small) }))

  signed_number : (t x n : ℕ) (c : Contents) → x < 28 → n < 2 ^ 32 → is_immediate n ≡ true → Computed (Slti t x (lower n)) t (flag (int_lt (signed (c.register x)) (signed n))) c
  signed_number t x n c a small takes =
      record { first = x; second = 0; function = (λ x y. flag (int_lt (signed x) (lower n))); does = refl; low = a; low' = (omega arith); same = rw (immediate_signed n small takes) refl }

  unsigned_number : (t x n : ℕ) (c : Contents) → x < 28 → n < 2 ^ 32 → is_immediate n ≡ true → Computed (Sltiu t x (lower n)) t (flag (nat_lt (c.register x) n)) c
  unsigned_number t x n c a small takes =
      record { first = x; second = 0; function = (λ x y. flag (nat_lt x (word (lower n)))); does = refl; low = a; low' = (omega arith); same = rw (immediate_word n small takes) refl }

  pub runs_compare_number : {c : Contents} {d : Deed} (relation : Comparison) (t x n : ℕ) (is : List Inst) → c.register 0 ≡ 0 → ((r : ℕ) → c.register r < 2 ^ 32) → x < 28 → n < 2 ^ 32 → takes_number relation n ≡ true →
      RunsLast c t (flag (compared relation (c.register x) n)) is d → Runs s private to (compare_number_code relation t x n ++ is) c d
  unfolding compared
  runs_compare_number Equal t x n is zero fits a small takes run = equal_number t x n is fits a small takes (nat_eq n 0) refl run
  runs_compare_number NotEqual t x n is zero fits a small takes run = different_number t x n is zero fits a small takes (nat_eq n 0) refl run
  runs_compare_number {c} LessSigned t x n is zero fits a small takes run = run c (Slti t x (lower n)) (like_itself 7 c fits) (signed_number t x n c a small takes)
  runs_compare_number {c} AtLeastSigned t x n is zero fits a small takes run =
      let less : Bool = int_lt (signed (c.register x)) (signed n) in
      runs_quiet s private to (computes_word s private to (Slti 7 x (lower n)) 7 (flag less) (signed_number 7 x n c a small takes) (omega arith) (flag_small less)) (flips t less is fits run)
  runs_compare_number {c} LessUnsigned t x n is zero fits a small takes run = run c (Sltiu t x (lower n)) (like_itself 7 c fits) (unsigned_number t x n c a small takes)
  runs_compare_number {c} AtLeastUnsigned t x n is zero fits a small takes run =
      let less : Bool = nat_lt (c.register x) n in
      runs_quiet s private to (computes_word s private to (Sltiu 7 x (lower n)) 7 (flag less) (unsigned_number 7 x n c a small takes) (omega arith) (flag_small less)) (flips t less is fits run)

  -- a flag in x7 is told, or its opposite
  tells_less : {c : Contents} {d : Deed} (less : Bool) (is : List Inst) → ((r : ℕ) → c.register r < 2 ^ 32) → ((c' : Contents) (i : Inst) → Like 7 c c' → Computed i 29 (flag less) c' → compared NotEqual (c'.register 7) 0 ≡ less → Runs s private to (i ∷ is) c' d) →
      Runs s private to (Addi 29 7 (pos 0) ∷ is) (put 7 (flag less) c) d
  tells_less {c} less is fits run =
      run (put 7 (flag less) c) (Addi 29 7 (pos 0)) (like_put 7 (flag less) c (flag_small less) fits)
      (record { first = 7; second = 0; function = (λ x y. plus x (word (pos 0))); does = refl; low = (omega arith); low' = (omega arith); same = plus_zero (flag less) (flag_small less) }) (flag_differs less)

  tells_at_least : {c : Contents} {d : Deed} (less : Bool) (is : List Inst) → ((r : ℕ) → c.register r < 2 ^ 32) → ((c' : Contents) (i : Inst) → Like 7 c c' → Computed i 29 (flag (not less)) c' → compared Equal (c'.register 7) 0 ≡ not less → Runs s private to (i ∷ is) c' d) →
      Runs s private to (Xori 29 7 (pos 1) ∷ is) (put 7 (flag less) c) d
  tells_at_least {c} less is fits run =
      run (put 7 (flag less) c) (Xori 29 7 (pos 1)) (like_put 7 (flag less) c (flag_small less) fits)
      (record { first = 7; second = 0; function = (λ x y. bit_xor x (word (pos 1))); does = refl; low = (omega arith); low' = (omega arith); same = opposite_flag less }) (flag_equals less)

  -- the comparison with a number is told, and then x7 compares with 0 so where it holds
  pub runs_tell_number : {c : Contents} {d : Deed} (relation : Comparison) (x n : ℕ) (is : List Inst) → c.register 0 ≡ 0 → ((r : ℕ) → c.register r < 2 ^ 32) → x < 28 → n < 2 ^ 32 → takes_number relation n ≡ true → nat_eq n 0 ≡ false →
      ((c' : Contents) (i : Inst) → Like 7 c c' → Computed i 29 (flag (compared relation (c.register x) n)) c' → compared (against_zero relation) (c'.register 7) 0 ≡ compared relation (c.register x) n → Runs s private to (i ∷ is) c' d) →
      Runs s private to (tell_number_code relation x n ++ is) c d
  unfolding compared
  runs_tell_number {c} Equal x n is zero fits a small takes some run =
      let v : ℕ = minus (c.register x) n in
      rw some (less_number x n (Sltiu 29 7 (pos 1) ∷ is) a small takes
      (run (put 7 v c) (Sltiu 29 7 (pos 1)) (like_put 7 v c (omega arith) fits)
      (record { first = 7; second = 0; function = (λ x y. flag (nat_lt x (word (pos 1)))); does = refl; low = (omega arith); low' = (omega arith); same = equal_flag (c.register x) n (fits x) small })
      (equal_left (c.register x) n (fits x) small)))
  runs_tell_number {c} NotEqual x n is zero fits a small takes some run =
      let v : ℕ = minus (c.register x) n in
      rw some (less_number x n (Sltu 29 0 7 ∷ is) a small takes
      (run (put 7 v c) (Sltu 29 0 7) (like_put 7 v c (omega arith) fits)
      (record { first = 0; second = 7; function = (λ x y. flag (nat_lt x y)); does = refl; low = (omega arith); low' = (omega arith); same = rw zero (different_flag (c.register x) n (fits x) small) })
      (ap not (equal_left (c.register x) n (fits x) small))))
  runs_tell_number {c} LessSigned x n is zero fits a small takes some run =
      let less : Bool = int_lt (signed (c.register x)) (signed n) in
      runs_quiet s private to (computes_word s private to (Slti 7 x (lower n)) 7 (flag less) (signed_number 7 x n c a small takes) (omega arith) (flag_small less)) (tells_less less is fits run)
  runs_tell_number {c} AtLeastSigned x n is zero fits a small takes some run =
      let less : Bool = int_lt (signed (c.register x)) (signed n) in
      runs_quiet s private to (computes_word s private to (Slti 7 x (lower n)) 7 (flag less) (signed_number 7 x n c a small takes) (omega arith) (flag_small less)) (tells_at_least less is fits run)
  runs_tell_number {c} LessUnsigned x n is zero fits a small takes some run =
      let less : Bool = nat_lt (c.register x) n in
      runs_quiet s private to (computes_word s private to (Sltiu 7 x (lower n)) 7 (flag less) (unsigned_number 7 x n c a small takes) (omega arith) (flag_small less)) (tells_less less is fits run)
  runs_tell_number {c} AtLeastUnsigned x n is zero fits a small takes some run =
      let less : Bool = nat_lt (c.register x) n in
      runs_quiet s private to (computes_word s private to (Sltiu 7 x (lower n)) 7 (flag less) (unsigned_number 7 x n c a small takes) (omega arith) (flag_small less)) (tells_at_least less is fits run)

  -- ---- extensions

  pub runs_extend : {c : Contents} {d : Deed} (kind : LoadKind) (t x : ℕ) (is : List Inst) → ((r : ℕ) → c.register r < 2 ^ 32) → x < 28 → RunsLast c t (extended kind (c.register x)) is d → Runs s private to (extend_code kind t x ++ is) c d
  runs_extend {c} I8 t x is fits a run =
      let v : ℕ = shift_left (c.register x) 24 in
      runs_quiet s private to (computes s private to (Slli 7 x (pos 24)) 7 x 0 (λ x y. shift_left x (word (pos 24))) refl (omega arith) a (omega arith) (omega arith))
      (run (put 7 v c) (Srai t 7 (pos 24)) (like_put 7 v c (omega arith) fits)
      (record { first = 7; second = 0; function = (λ x y. shift_signed x (word (pos 24))); does = refl; low = (omega arith); low' = (omega arith); same = signed_byte (c.register x) }))
  runs_extend {c} U8 t x is fits a run =
      run c (Andi t x (pos 255)) (like_itself 7 c fits) (record { first = x; second = 0; function = (λ x y. bit_and x (word (pos 255))); does = refl; low = a; low' = (omega arith); same = low_byte (c.register x) })
  runs_extend {c} I16 t x is fits a run =
      let v : ℕ = shift_left (c.register x) 16 in
      runs_quiet s private to (computes s private to (Slli 7 x (pos 16)) 7 x 0 (λ x y. shift_left x (word (pos 16))) refl (omega arith) a (omega arith) (omega arith))
      (run (put 7 v c) (Srai t 7 (pos 16)) (like_put 7 v c (omega arith) fits)
      (record { first = 7; second = 0; function = (λ x y. shift_signed x (word (pos 16))); does = refl; low = (omega arith); low' = (omega arith); same = signed_half (c.register x) }))
  runs_extend {c} U16 t x is fits a run =
      let v : ℕ = shift_left (c.register x) 16 in
      runs_quiet s private to (computes s private to (Slli 7 x (pos 16)) 7 x 0 (λ x y. shift_left x (word (pos 16))) refl (omega arith) a (omega arith) (omega arith))
      (run (put 7 v c) (Srli t 7 (pos 16)) (like_put 7 v c (omega arith) fits)
      (record { first = 7; second = 0; function = (λ x y. shift_right x (word (pos 16))); does = refl; low = (omega arith); low' = (omega arith); same = low_half (c.register x) }))
  runs_extend {c} I32 t x is fits a run =
      run c (Addi t x (pos 0)) (like_itself 7 c fits) (record { first = x; second = 0; function = (λ x y. plus x (word (pos 0))); does = refl; low = a; low' = (omega arith); same = plus_zero (c.register x) (fits x) })

-- 5, 6 and 7 are for work on both sides
pub is_scratch : (plan : Plan) (r : ℕ) → 4 < r → r < 8 → IsScratch plan r
is_scratch plan r a b = record { zero = (omega arith); two = (omega arith); three = (omega arith); link = (omega arith); home = grind (arith, nat_tests); depth = λ by_a. (omega arith); addresses = λ by_a. (omega arith) }

pub is_work : (r : ℕ) → 4 < r → r < 8 → IsWork r
is_work r a b = (omega arith, omega arith, omega arith)

-- what is no immediate behind a test where it could be one is 0
not_immediate : (takes none : Bool) (n : ℕ) → takes ≡ true → (if takes && not none then Some n else None) ≡ None → none ≡ true
not_immediate true true n e f = refl
not_immediate true false n e f = absurd (let some : Some n ≡ None = f in cc)
not_immediate false none n e f = absurd cc

-- an immediate behind a test is the right operand, and not 0
pub immediate_is : (home : ℕ → Home) (relation : Comparison) (y : Operand) (k : ℕ) → immediate_of home relation y ≡ Some k → (y ≡ Number k) × (takes_number relation k ≡ true) × (nat_eq k 0 ≡ false)
immediate_is home relation (Variable v) k e = absurd (let none : None ≡ Some k = e in cc)
immediate_is home relation (Number n) k e = by (as_immediate home relation n) (nat_eq n 0) refl refl e
  where
    by : (takes none : Bool) → as_immediate home relation n ≡ takes → nat_eq n 0 ≡ none → (if takes && not none then Some n else None) ≡ Some k → (Number n ≡ Number k) × (takes_number relation k ≡ true) × (nat_eq k 0 ≡ false)
    by true true f g e = absurd (let none : None ≡ Some k = e in cc)
    by true false f g e = subst (λ (j : ℕ). (Number n ≡ Number j) × (takes_number relation j ≡ true) × (nat_eq j 0 ≡ false)) (same_Some n k e) (refl, (and_true (takes_number relation n) (not (is_some (resident_register (home (number_key n))))) f).0, g)
    by false none f g e = absurd (let none : None ≡ Some k = e in cc)

-- before the last instruction of a comparison, which computes the flag into t, the operands are in their registers
pub record Compares (plan : Plan) (live : VariableSet) (m : Moment) (t : ℕ) (relation : Comparison) (x y : Operand) (i : Inst) (c : Contents) : Type 0 where
  pub ready : Ready plan live m c
  pub last : Computed i t (flag (compared relation (value x m.env) (value y m.env))) c
  pub left : c.register (source (plan.home m.function) 5 x) ≡ value x m.env
  pub right : immediate_of (plan.home m.function) relation y ≡ None → c.register (source (plan.home m.function) 6 y) ≡ value y m.env

module _ (s : WalkSetting) (plan : Plan) (variables : ℕ → ℕ) (fine : Fits s plan variables) (to : ℕ → Env → Processor → Type 0) where
  -- the register of a home, or the scratch register, is none that stands for a queue; and it is not another scratch register
  pub register_plain : (n r : ℕ) (home : Home) → IsHome n home → r < 28 → register_or r home < 28
  register_plain n r home is l = home_plain n r home is l

  register_apart : (n r q : ℕ) (home : Home) → IsHome n home → q < 8 → r ≢ q → register_or r home ≢ q
  register_apart n r q (Register h) is l ne = (let k = home_register h is in omega arith)
  register_apart n r q (Slot i) is l ne = ne

  pub source_plain : (f r : ℕ) (x : Operand) → r < 28 → source (plan.home f) r x < 28
  source_plain f r (Variable v) l = register_plain (variables f) r (plan.home f v) (fine.homes f v) l
  source_plain f r (Number k) l = by (nat_eq k 0)
    where
      by : (b : Bool) → (if b then 0 else number_or r (resident_register (plan.home f (number_key k)))) < 28
      by true = omega arith
      by false = number_below 28 r (plan.home f (number_key k)) (omega arith) l

  pub source_apart : (f r q : ℕ) (x : Operand) → 0 < q → q < 8 → r ≢ q → source (plan.home f) r x ≢ q
  source_apart f r q (Variable v) some l ne = register_apart (variables f) r q (plan.home f v) (fine.homes f v) l ne
  source_apart f r q (Number k) some l ne = by (nat_eq k 0)
    where
      by : (b : Bool) → (if b then 0 else number_or r (resident_register (plan.home f (number_key k)))) ≢ q
      by true = λ same. omega arith
      by false = from (plan.home f (number_key k))
        where
          from : (g : Home) → number_or r (resident_register g) ≢ q
          from (Register h) = high (nat_lt 24 h && nat_lt h 28) refl
            where
              high : (b : Bool) → (nat_lt 24 h && nat_lt h 28) ≡ b → number_or r (if b then Some h else None) ≢ q
              high true t = let above : 24 < h = grind (arith, nat_tests) in λ same. omega arith
              high false t = ne
          from (Slot i) = ne

  -- one operand, and two
  pub runs_one : {live : VariableSet} {m : Moment} {c : Contents} {d : Deed} (x : Operand) (is : List Inst) → Ready plan live m c → ((u : ℕ) → in_operand x u ≡ true → live u ≡ true) → IsNumber x →
      ((c' : Contents) → Ready plan live m c' → c'.register (source (plan.home m.function) 5 x) ≡ value x m.env → Runs s plan.private to is c' d) → Runs s plan.private to (fetch (plan.home m.function) 5 x ++ is) c d
  runs_one {live} {m} {c} x is h reads number run =
      runs_fetch s plan variables fine to 5 x is (is_work 5 (omega arith) (omega arith)) h reads number
      (λ c' like got. run c' (ready_like s plan variables fine 5 (is_scratch plan 5 (omega arith) (omega arith)) like h) got)

  pub runs_two : {live : VariableSet} {m : Moment} {c : Contents} {d : Deed} (x y : Operand) (is : List Inst) → Ready plan live m c → ((u : ℕ) → in_operand x u ≡ true → live u ≡ true) → ((u : ℕ) → in_operand y u ≡ true → live u ≡ true) → IsNumber x → IsNumber y →
      ((c' : Contents) → Ready plan live m c' → c'.register (source (plan.home m.function) 5 x) ≡ value x m.env → c'.register (source (plan.home m.function) 6 y) ≡ value y m.env → Runs s plan.private to is c' d) → Runs s plan.private to (fetch (plan.home m.function) 5 x ++ (fetch (plan.home m.function) 6 y ++ is)) c d
  runs_two {live} {m} {c} x y is h reads_x reads_y number_x number_y run =
      runs_one x (fetch (plan.home m.function) 6 y ++ is) h reads_x number_x (λ c1 h1 got_x.
      runs_fetch s plan variables fine to 6 y is (is_work 6 (omega arith) (omega arith)) h1 reads_y number_y
      (λ c2 like got_y. run c2 (ready_like s plan variables fine 6 (is_scratch plan 6 (omega arith) (omega arith)) like h1) (like.registers (source (plan.home m.function) 5 x) (source_apart m.function 5 6 x (omega arith) (omega arith) (omega arith)) ∙ got_x) got_y))

  -- ---- operations

  -- so it runs on from the instruction that computes a value into t, whatever t is. What else was written were scratch registers
  abbrev pub RunsOn : VariableSet → Moment → List Inst → Deed → ℕ → ℕ → Type 0
  RunsOn live m is d t v = (c' : Contents) (i : Inst) → Ready plan live m c' → v < 2 ^ 32 → Computed i t v c' → Runs s plan.private to (i ∷ is) c' d

  -- of two registers
  runs_registers : {live : VariableSet} {m : Moment} {c : Contents} {d : Deed} (t : ℕ) (o : Operator) (x y : Operand) (is : List Inst) → Ready plan live m c → ((u : ℕ) → in_operand x u ≡ true → live u ≡ true) → ((u : ℕ) → in_operand y u ≡ true → live u ≡ true) → IsNumber x → IsNumber y →
      RunsOn live m is d t (combined o (value x m.env) (value y m.env)) → Runs s plan.private to (combine_registers (plan.home m.function) t o x y ++ is) c d
  runs_registers {m = m} t o x y is h reads_x reads_y number_x number_y run =
      let r : ℕ = source (plan.home m.function) 5 x in let q : ℕ = source (plan.home m.function) 6 y in
      rw (append_assoc, append_assoc) (runs_two x y (operation_code o t r q ∷ is) h reads_x reads_y number_x number_y (λ c1 h1 got_x got_y.
      let fits = operation_fits o (c1.register r) (c1.register q) (h1.fits r) (h1.fits q) in
      let same : combined o (c1.register r) (c1.register q) ≡ combined o (value x m.env) (value y m.env) = rw (got_x, got_y) refl in
      run c1 (operation_code o t r q) h1 (rw same at fits)
      (record { first = r; second = q; function = combined o; does = operation_is o t r q; low = source_plain m.function 5 x (omega arith); low' = source_plain m.function 6 y (omega arith); same = same })))

  -- of a register and a number
  runs_with : {live : VariableSet} {m : Moment} {c : Contents} {d : Deed} (t : ℕ) (x : Operand) (i : Inst) (operation : ℕ → ℕ) (is : List Inst) → Ready plan live m c → ((u : ℕ) → in_operand x u ≡ true → live u ≡ true) → IsNumber x →
      DoesWith i t (source (plan.home m.function) 5 x) operation → ((a : ℕ) → a < 2 ^ 32 → operation a < 2 ^ 32) → RunsOn live m is d t (operation (value x m.env)) → Runs s plan.private to ((fetch (plan.home m.function) 5 x ++ i ∷ []) ++ is) c d
  runs_with {m = m} t x i operation is h reads number with' fits run =
      rw append_assoc (runs_one x (i ∷ is) h reads number (λ c1 h1 got.
      let r : ℕ = source (plan.home m.function) 5 x in
      let small : value x m.env < 2 ^ 32 = (let a = h1.fits r in rw got at a) in
      run c1 i h1 (fits (value x m.env) small)
      (record { first = r; second = 0; function = (λ a b. with'.function a); does = with'.does; low = source_plain m.function 5 x (omega arith); low' = (omega arith); same = rw got (with'.same (value x m.env)) })))

  runs_binary : {live : VariableSet} {m : Moment} {c : Contents} {d : Deed} (t : ℕ) (o : Operator) (x y : Operand) (is : List Inst) → Ready plan live m c → ((u : ℕ) → in_operand x u ≡ true → live u ≡ true) → ((u : ℕ) → in_operand y u ≡ true → live u ≡ true) → IsNumber x → IsNumber y →
      RunsOn live m is d t (combined o (value x m.env) (value y m.env)) → Runs s plan.private to (binary_code (plan.home m.function) t o x y ++ is) c d
  runs_binary {m = m} {c} {d} t o x (Number n) is h reads_x reads_y number_x number_y run = by (immediate_code o t (source (plan.home m.function) 5 x) n) refl
    where
      by : (i : Option Inst) → immediate_code o t (source (plan.home m.function) 5 x) n ≡ i → Runs s plan.private to (behind_or (fetch (plan.home m.function) 5 x) i (combine_registers (plan.home m.function) t o x (Number n)) ++ is) c d
      by (Some i) e = runs_with t x i (λ a. combined o a n) is h reads_x number_x (immediate_does o t (source (plan.home m.function) 5 x) n i number_y e) (λ a l. operation_fits o a n l number_y) run
      by None e = runs_registers t o x (Number n) is h reads_x reads_y number_x number_y run
  runs_binary {m = m} {c} {d} t o (Number n) (Variable v) is h reads_x reads_y number_x number_y run = by (exchanged_code o t (register_or 5 (plan.home m.function v)) n) refl
    where
      by : (i : Option Inst) → exchanged_code o t (register_or 5 (plan.home m.function v)) n ≡ i → Runs s plan.private to (behind_or (fetch (plan.home m.function) 5 (Variable v)) i (combine_registers (plan.home m.function) t o (Number n) (Variable v)) ++ is) c d
      by (Some i) e = runs_with t (Variable v) i (λ a. combined o n a) is h reads_y number_y (exchanged_does o t (register_or 5 (plan.home m.function v)) n i number_x e) (λ a l. operation_fits o n a number_x l) run
      by None e = runs_registers t o (Number n) (Variable v) is h reads_x reads_y number_x number_y run
  runs_binary t o (Variable u) (Variable v) is h reads_x reads_y number_x number_y run = runs_registers t o (Variable u) (Variable v) is h reads_x reads_y number_x number_y run

  -- ---- comparisons

  -- so it runs on from the last instruction of a comparison
  abbrev pub RunsCompared : VariableSet → Moment → ℕ → Comparison → Operand → Operand → List Inst → Deed → Type 0
  RunsCompared live m t relation x y is d = (c' : Contents) (i : Inst) → Compares plan live m t relation x y i c' → Runs s plan.private to (i ∷ is) c' d

  runs_compare_registers : {live : VariableSet} {m : Moment} {c : Contents} {d : Deed} (t : ℕ) (relation : Comparison) (x y : Operand) (is : List Inst) → Ready plan live m c → ((u : ℕ) → in_operand x u ≡ true → live u ≡ true) → ((u : ℕ) → in_operand y u ≡ true → live u ≡ true) → IsNumber x → IsNumber y →
      RunsCompared live m t relation x y is d → Runs s plan.private to (compare_registers (plan.home m.function) t relation x y ++ is) c d
  runs_compare_registers {m = m} t relation x y is h reads_x reads_y number_x number_y run =
      let r : ℕ = source (plan.home m.function) 5 x in let q : ℕ = source (plan.home m.function) 6 y in
      rw (append_assoc, append_assoc) (runs_two x y (compare_code relation t r q ++ is) h reads_x reads_y number_x number_y (λ c1 h1 got_x got_y.
      let same : flag (compared relation (c1.register r) (c1.register q)) ≡ flag (compared relation (value x m.env) (value y m.env)) = rw (got_x, got_y) refl in
      runs_compare s plan.private to relation t r q is h1.zero h1.fits (source_plain m.function 5 x (omega arith)) (source_plain m.function 6 y (omega arith)) (λ c2 i like last.
      run c2 i (record {
        ready = ready_like s plan variables fine 7 (is_scratch plan 7 (omega arith) (omega arith)) like h1;
        last = subst (λ (v : ℕ). Computed i t v c2) same last;
        left = like.registers r (source_apart m.function 5 7 x (omega arith) (omega arith) (omega arith)) ∙ got_x;
        right = λ e. like.registers q (source_apart m.function 6 7 y (omega arith) (omega arith) (omega arith)) ∙ got_y;
      }))))

  pub runs_compare_operands : {live : VariableSet} {m : Moment} {c : Contents} {d : Deed} (t : ℕ) (relation : Comparison) (x y : Operand) (is : List Inst) → Ready plan live m c → ((u : ℕ) → in_operand x u ≡ true → live u ≡ true) → ((u : ℕ) → in_operand y u ≡ true → live u ≡ true) → IsNumber x → IsNumber y →
      RunsCompared live m t relation x y is d → Runs s plan.private to (compare_operands (plan.home m.function) t relation x y ++ is) c d
  runs_compare_operands t relation x (Variable v) is h reads_x reads_y number_x number_y run = runs_compare_registers t relation x (Variable v) is h reads_x reads_y number_x number_y run
  runs_compare_operands {m = m} {c} {d} t relation x (Number n) is h reads_x reads_y number_x number_y run =
      let r : ℕ = source (plan.home m.function) 5 x in
      by (as_immediate (plan.home m.function) relation n) refl
      (λ e. rw append_assoc (runs_one x (compare_number_code relation t r n ++ is) h reads_x number_x (λ c1 h1 got.
      let same : flag (compared relation (c1.register r) n) ≡ flag (compared relation (value x m.env) n) = rw got refl in
      runs_compare_number s plan.private to relation t r n is h1.zero h1.fits (source_plain m.function 5 x (omega arith)) number_y (and_true (takes_number relation n) (not (is_some (resident_register (plan.home m.function (number_key n))))) e).0 (λ c2 i like last.
      let h2 = ready_like s plan variables fine 7 (is_scratch plan 7 (omega arith) (omega arith)) like h1 in
      run c2 i (record {
        ready = h2;
        last = subst (λ (v : ℕ). Computed i t v c2) same last;
        left = like.registers r (source_apart m.function 5 7 x (omega arith) (omega arith) (omega arith)) ∙ got;
        right = λ f. (let z = not_immediate (as_immediate (plan.home m.function) relation n) (nat_eq n 0) n e f in let none : n ≡ 0 = grind (arith, nat_tests) in rw z (h2.zero ∙ sym none));
      })))))
      (runs_compare_registers t relation x (Number n) is h reads_x reads_y number_x number_y run)
    where
      by : (b : Bool) → as_immediate (plan.home m.function) relation n ≡ b → (as_immediate (plan.home m.function) relation n ≡ true → Runs s plan.private to ((fetch (plan.home m.function) 5 x ++ compare_number_code relation t (source (plan.home m.function) 5 x) n) ++ is) c d) →
          Runs s plan.private to (compare_registers (plan.home m.function) t relation x (Number n) ++ is) c d → Runs s plan.private to ((if b then fetch (plan.home m.function) 5 x ++ compare_number_code relation t (source (plan.home m.function) 5 x) n else compare_registers (plan.home m.function) t relation x (Number n)) ++ is) c d
      by true e short long = short e
      by false e short long = long

  -- a comparison with an immediate is told
  pub runs_told_number : {live : VariableSet} {m : Moment} {c : Contents} {d : Deed} (relation : Comparison) (x : Operand) (n : ℕ) (is : List Inst) → Ready plan live m c → ((u : ℕ) → in_operand x u ≡ true → live u ≡ true) → IsNumber x → n < 2 ^ 32 → takes_number relation n ≡ true → nat_eq n 0 ≡ false →
      ((c' : Contents) (i : Inst) → Ready plan live m c' → Computed i 29 (flag (compared relation (value x m.env) n)) c' → compared (against_zero relation) (c'.register 7) 0 ≡ compared relation (value x m.env) n → Runs s plan.private to (i ∷ is) c' d) →
      Runs s plan.private to ((fetch (plan.home m.function) 5 x ++ tell_number_code relation (source (plan.home m.function) 5 x) n) ++ is) c d
  runs_told_number {m = m} relation x n is h reads number small takes some run =
      let r : ℕ = source (plan.home m.function) 5 x in
      rw append_assoc (runs_one x (tell_number_code relation r n ++ is) h reads number (λ c1 h1 got.
      let same : compared relation (c1.register r) n ≡ compared relation (value x m.env) n = ap (λ (a : ℕ). compared relation a n) got in
      runs_tell_number s plan.private to relation r n is h1.zero h1.fits (source_plain m.function 5 x (omega arith)) small takes some (λ c2 i like last left.
      run c2 i (ready_like s plan variables fine 7 (is_scratch plan 7 (omega arith) (omega arith)) like h1) (subst (λ (b : Bool). Computed i 29 (flag b) c2) same last) (left ∙ same))))

  -- the address of a byte of the frame in common memory
  runs_frame : {live : VariableSet} {m : Moment} {c : Contents} {d : Deed} (t offset : ℕ) (is : List Inst) → Ready plan live m c → offset < 2 ^ 32 → RunsOn live m is d t (plus m.frame offset) → Runs s plan.private to (frame_code t offset ++ is) c d
  runs_frame {m = m} {c} {d} t offset is h number run =
      by (is_immediate offset) refl
      (λ e. run c (Addi t 3 (lower offset)) h (plus_small m.frame offset)
      (record { first = 3; second = 0; function = (λ x y. plus x (word (lower offset))); does = refl; low = (omega arith); low' = (omega arith); same = rw (h.agrees.frame, immediate_word offset number e) refl }))
      (rw append_assoc (runs_number s plan.private to 5 offset (Add t 3 5 ∷ is) h.zero (omega arith) (omega arith) number (
      let h1 = ready_like s plan variables fine 5 (is_scratch plan 5 (omega arith) (omega arith)) (like_put 5 offset c number h.fits) h in
      run (put 5 offset c) (Add t 3 5) h1 (plus_small m.frame offset)
      (record { first = 3; second = 5; function = plus; does = refl; low = (omega arith); low' = (omega arith); same = rw (h.agrees.frame) refl }))))
    where
      by : (b : Bool) → is_immediate offset ≡ b → (is_immediate offset ≡ true → Runs s plan.private to (Addi t 3 (lower offset) ∷ is) c d) → Runs s plan.private to ((number_code 5 offset ++ Add t 3 5 ∷ []) ++ is) c d →
          Runs s plan.private to ((if b then Addi t 3 (lower offset) ∷ [] else number_code 5 offset ++ Add t 3 5 ∷ []) ++ is) c d
      by true e short long = short e
      by false e short long = long

  -- the value of the moment, into t, whatever t is
  pub runs_computed : {live : VariableSet} {m : Moment} {c : Contents} {d : Deed} (t : ℕ) (x : Value) (is : List Inst) → Ready plan live m c → ((u : ℕ) → in_value x u ≡ true → live u ≡ true) → AreNumbers x →
      RunsOn live m is d t (computed x m.frame m.env) → Runs s plan.private to (value_code (plan.home m.function) t x ++ is) c d
  runs_computed {m = m} t (Same x) is h reads number run =
      runs_move s plan variables fine to t x is h reads number (λ c1 r imm like plain same small.
      let h1 = ready_like s plan variables fine 5 (is_scratch plan 5 (omega arith) (omega arith)) like h in
      run c1 (Addi t r imm) h1 small (record { first = r; second = 0; function = (λ x y. plus x (word imm)); does = refl; low = plain; low' = (omega arith); same = same }))
  runs_computed {m = m} t (Extended kind x) is h reads number run =
      let r : ℕ = source (plan.home m.function) 5 x in
      rw append_assoc (runs_one x (extend_code kind t r ++ is) h reads number (λ c1 h1 got.
      let small : value x m.env < 2 ^ 32 = (let a = h1.fits r in rw got at a) in
      let same : extended kind (c1.register r) ≡ extended kind (value x m.env) = ap (extended kind) got in
      runs_extend s plan.private to kind t r is h1.fits (source_plain m.function 5 x (omega arith)) (λ c2 i like last.
      run c2 i (ready_like s plan variables fine 7 (is_scratch plan 7 (omega arith) (omega arith)) like h1) (extended_fits kind (value x m.env) small) (subst (λ (v : ℕ). Computed i t v c2) same last))))
  runs_computed t (Binary o x y) is h reads number run =
      runs_binary t o x y is h (λ u e. reads u (grind (arith, nat_tests))) (λ u e. reads u (grind (arith, nat_tests))) number.0 number.1 run
  runs_computed {m = m} t (Holds test) is h reads number run =
      runs_compare_operands t test.comparison test.left test.right is h (λ u e. reads u (grind (arith, nat_tests))) (λ u e. reads u (grind (arith, nat_tests))) number.0 number.1
      (λ c1 i k. run c1 i k.ready (flag_small (compared test.comparison (value test.left m.env) (value test.right m.env))) k.last)
  runs_computed t (FrameAddress offset) is h reads number run = runs_frame t offset is h number run

  -- the same, in a plain register
  pub runs_value : {live : VariableSet} {m : Moment} {c : Contents} {d : Deed} (t : ℕ) (x : Value) (is : List Inst) → t < 28 → Ready plan live m c → ((u : ℕ) → in_value x u ≡ true → live u ≡ true) → AreNumbers x →
      ((c' : Contents) → Ready plan live m c' → computed x m.frame m.env < 2 ^ 32 → Runs s plan.private to is (put t (computed x m.frame m.env) c') d) → Runs s plan.private to (value_code (plan.home m.function) t x ++ is) c d
  runs_value {m = m} t x is high h reads number run =
      runs_computed t x is h reads number (λ c1 i h1 fits last. runs_quiet s plan.private to (computes_word s plan.private to i t (computed x m.frame m.env) last high fits) (run c1 h1 fits))
