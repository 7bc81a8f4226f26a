-- Plain instructions, and what they change.
use Rattle.std.proofs.Common.{◌≡◌, ◌≢◌, ℕ, ◌+◌, ◌*◌, ◌^◌, ◌<◌, Bool, true, false, ◌&&◌, [], refl, ap, subst, arith}
use Rattle.std.specs.Prelude.{nat_lt, nat_eq, if◌then◌else◌, Some, ℤ, pos}
use Rattle.std.proofs.lemmas.Bool.Decides.{nat_tests}
use Rattle.dae_base.specs.Words.{plus, word}
use Rattle.dae_base.specs.declared.Side.{Side}
use Rattle.dae_base.specs.declared.Side.TheVariants.{A, E}
use Rattle.dae_base.specs.declared.LoadKind.TheVariants.{I32}
use Rattle.dae_base.specs.declared.Width.TheVariants.{B4}
use Rattle.dae_encode.specs.declared.QueueUse.TheVariants.{Nothing, Take, Push}
use Rattle.dae_encode.specs.declared.Inst.{Inst}
use Rattle.dae_encode.specs.declared.InstructionForm.TheVariants.{Computes, Loads, Stores}
use Rattle.dae_encode.specs.declared.Inst.TheVariants.{Lw, Sw, Addi, Beq}
use Rattle.std.proofs.Math.Path.{fun_ext}
use Rattle.dae_encode.specs.Instructions.{effect, on_two, branch}
use Rattle.dae_encode.specs.Uses.{queue_use}
use Rattle.dae_encode.specs.Processor.{Processor}
use Rattle.dae_meaning.specs.Variables.{Env}
use Rattle.dae_base.specs.declared.Queue.{Queue}
use Rattle.dae_select_walks.specs.Walks.{WalkSetting, Acts}
use Rattle.dae_select_walks.specs.Does.{event}
use Rattle.dae_select_walks.specs.Agrees.{Shows}
use Rattle.dae_select_walks.specs.Homes.{Contents}
use Rattle.dae_select_walks.proofs.LawsOfWalks.{put, store, read, step, step_load, step_store}
use Rattle.dae_select_blocks.proofs.Runs.{Quiet, Here}

-- ---- no access where all registers are plain

pub plain_computes : (copies : Bool) (side : Side) (rd x y : ℕ) → rd < 28 → x < 28 → y < 28 → queue_use copies side (Computes rd x y) ≡ Some Nothing
unfolding queue_use
plain_computes copies A rd x y a b c = grind (arith, nat_tests)
plain_computes copies E rd x y a b c = grind (arith, nat_tests)

pub plain_loads : (copies : Bool) (side : Side) (rd base offset : ℕ) → rd < 28 → base < 28 → queue_use copies side (Loads I32 rd base offset) ≡ Some Nothing
unfolding queue_use
plain_loads copies A rd base offset a b = grind (arith, nat_tests)
plain_loads copies E rd base offset a b = grind (arith, nat_tests)

pub plain_stores : (copies : Bool) (side : Side) (base source offset : ℕ) → base < 28 → source < 28 → queue_use copies side (Stores B4 base source offset) ≡ Some Nothing
unfolding queue_use
plain_stores copies A base source offset a b = grind (arith, nat_tests)
plain_stores copies E base source offset a b = grind (arith, nat_tests)

pub plain_read : (c : Contents) (w r : ℕ) → r < 28 → read c w r ≡ c.register r
plain_read c w r h = let e : nat_lt r 28 ≡ true = grind (arith, nat_tests) in rw e refl

module _ (s : WalkSetting) (private : ℕ) (to : ℕ → Env → Processor → Type 0) where
  -- an instruction on two plain registers
  pub computes : {c : Contents} (i : Inst) (rd x y : ℕ) (f : ℕ → ℕ → ℕ) → effect i ≡ on_two rd x y f → rd < 28 → x < 28 → y < 28 → f (c.register x) (c.register y) < 2 ^ 32 → Quiet s private to i c (put rd (f (c.register x) (c.register y)) c)
  computes {c} i rd x y f does a b d fits = λ k w small here is p h.
      let ex = plain_read c 0 x b in let ey = plain_read c 0 y d in
      let fine : f (read c 0 x) (read c 0 y) < 2 ^ 32 = rw (ex, ey) fits in
      let one = step s private i rd x y 0 (k + 1) w (λ pc x y. f x y) (λ pc x y. plus pc 4) Nothing h here is does (plain_computes s.copies s.side rd x y a b d) fine (omega arith) in
      (f (c.register x) (c.register y), rw (ex, ey) at one)

  -- a word of private memory into a register, and back
  pub loads_word : {c : Contents} (rd base : ℕ) (imm : ℤ) (i : ℕ) → rd < 28 → base < 28 → plus (c.register base) (word imm) ≡ 4 * i → i < private → Quiet s private to (Lw rd base imm) c (put rd (c.word i) c)
  loads_word {c} rd base imm i a b found inside = λ k w small here is p h.
      (c.word i, step_load s private rd base imm i w h here is small (plain_loads s.copies s.side rd base (word imm) a b) b found inside)

  pub stores_word : {c : Contents} (base source : ℕ) (imm : ℤ) (i : ℕ) → base < 28 → source < 28 → plus (c.register base) (word imm) ≡ 4 * i → i < private → Quiet s private to (Sw base source imm) c (store i (c.register source) c)
  stores_word {c} base source imm i a b found inside = λ k w small here is p h.
      (4 * i, step_store s private base source imm i w h here is small (plain_stores s.copies s.side base source (word imm) a b) a b found inside)

-- ---- contents

pub put_same : (r v : ℕ) (c : Contents) → 0 < r → r < 28 → (put r v c).register r ≡ v
put_same r v c a b = grind (arith, nat_tests)

pub put_other : (r v j : ℕ) (c : Contents) → j ≢ r → (put r v c).register j ≡ c.register j
put_other r v j c h = grind (arith, nat_tests)

-- a register that gets two words has the second
pub put_twice : (r u v : ℕ) (c : Contents) → put r v (put r u c) ≡ put r v c
put_twice r u v c = ap (λ (f : ℕ → ℕ). record c { register = f }) (fun_ext (λ j. by j (nat_eq j r && (nat_lt 0 r && nat_lt r 28))))
  where
    by : (j : ℕ) (b : Bool) → (if b then v else (if b then u else c.register j)) ≡ (if b then v else c.register j)
    by j true = refl
    by j false = refl

-- a register that gets what it has
pub put_itself : (r : ℕ) (c : Contents) → put r (c.register r) c ≡ c
put_itself r c = ap (λ (f : ℕ → ℕ). record c { register = f }) (fun_ext (λ j. by j (nat_eq j r) (nat_lt 0 r && nat_lt r 28) refl))
  where
    by : (j : ℕ) (a b : Bool) → nat_eq j r ≡ a → (if a && b then c.register r else c.register j) ≡ c.register j
    by j true true e = let same : j ≡ r = grind (arith, nat_tests) in rw same refl
    by j true false e = refl
    by j false b e = refl

-- x0 and the registers that stand for queues keep nothing
pub put_nowhere : (r v : ℕ) (c : Contents) → (nat_lt 0 r && nat_lt r 28) ≡ false → put r v c ≡ c
put_nowhere r v c e = rw e (ap (λ (f : ℕ → ℕ). record c { register = f }) (fun_ext (λ j. by j (nat_eq j r))))
  where
    by : (j : ℕ) (a : Bool) → (if a && false then v else c.register j) ≡ c.register j
    by j true = refl
    by j false = refl

module _ (s : WalkSetting) (private : ℕ) (to : ℕ → Env → Processor → Type 0) where
  -- a branch that is taken, over n words behind it, and one that is not
  pub branch_taken : {c : Contents} (i : Inst) (x y : ℕ) (imm : ℤ) (test : ℕ → ℕ → Bool) (n : ℕ) → effect i ≡ branch x y imm test → x < 28 → y < 28 → test (c.register x) (c.register y) ≡ true → word imm ≡ 4 * (n + 1) → n < 1000 →
      Here s private to i c (λ k p. (v : ℕ) × Acts s p (event Nothing v 0 []) (Shows private c (k + 1 + n)))
  branch_taken {c} i x y imm test n does a b taken far short = λ k w small here is p h.
      let ex = plain_read c 0 x a in let ey = plain_read c 0 y b in
      let lands : plus (4 * k) (if test (read c 0 x) (read c 0 y) then word imm else 4) ≡ 4 * (k + 1 + n) = rw (ex, ey, taken, far) (omega arith) in
      let one = step s private i 0 x y 0 (k + 1 + n) w (λ pc x y. 0) (λ pc x y. plus pc (if test x y then word imm else 4)) Nothing h here is does (plain_computes s.copies s.side 0 x y (omega arith) a b) (omega arith) lands in
      (0, rw (put_nowhere 0 0 c refl) at one)

  pub branch_passed : {c : Contents} (i : Inst) (x y : ℕ) (imm : ℤ) (test : ℕ → ℕ → Bool) → effect i ≡ branch x y imm test → x < 28 → y < 28 → test (c.register x) (c.register y) ≡ false → Quiet s private to i c c
  branch_passed {c} i x y imm test does a b passed = λ k w small here is p h.
      let ex = plain_read c 0 x a in let ey = plain_read c 0 y b in
      let lands : plus (4 * k) (if test (read c 0 x) (read c 0 y) then word imm else 4) ≡ 4 * (k + 1) = rw (ex, ey, passed) (omega arith) in
      let one = step s private i 0 x y 0 (k + 1) w (λ pc x y. 0) (λ pc x y. plus pc (if test x y then word imm else 4)) Nothing h here is does (plain_computes s.copies s.side 0 x y (omega arith) a b) (omega arith) lands in
      (0, rw (put_nowhere 0 0 c refl) at one)

  -- the front of a queue into a register, and a register into a queue
  pub takes : {c : Contents} (t q : ℕ) (queue : Queue) → t < 28 → nat_lt q 28 ≡ false → queue_use s.copies s.side (Computes t q 0) ≡ Some (Take queue) → (x : ℕ) → x < 2 ^ 32 →
      Here s private to (Addi t q (pos 0)) c (λ k p. (v : ℕ) × Acts s p (event (Take queue) v x []) (Shows private (put t x c) (k + 1)))
  takes {c} t q queue low high legal x fits = λ k w small here is p h.
      let given : read c x q ≡ x = rw high refl in
      let same : plus (read c x q) (word (pos 0)) ≡ x = rw given (omega arith) in
      let one = step s private (Addi t q (pos 0)) t q 0 x (k + 1) w (λ pc x y. plus x (word (pos 0))) (λ pc x y. plus pc 4) (Take queue) h here is refl legal (rw same fits) (omega arith) in
      (plus (read c 0 q) (word (pos 0)), rw same at one)

  -- a branch on the message at the front of a queue: where that is 0 over n words behind it, and else on
  pub hears_zero : {c : Contents} (queue : Queue) (imm : ℤ) (n : ℕ) → queue_use s.copies s.side (Computes 0 29 0) ≡ Some (Take queue) → c.register 0 ≡ 0 → word imm ≡ 4 * (n + 1) → n < 1000 →
      Here s private to (Beq 29 0 imm) c (λ k p. (v : ℕ) × Acts s p (event (Take queue) v 0 []) (Shows private c (k + 1 + n)))
  hears_zero {c} queue imm n legal zero far short = λ k w small here is p h.
      let test : nat_eq (read c 0 29) (read c 0 0) ≡ true = rw zero refl in
      let lands : plus (4 * k) (if nat_eq (read c 0 29) (read c 0 0) then word imm else 4) ≡ 4 * (k + 1 + n) = rw (test, far) (omega arith) in
      let one = step s private (Beq 29 0 imm) 0 29 0 0 (k + 1 + n) w (λ pc x y. 0) (λ pc x y. plus pc (if nat_eq x y then word imm else 4)) (Take queue) h here is refl legal (omega arith) lands in
      (0, rw (put_nowhere 0 0 c refl) at one)

  pub hears_other : {c : Contents} (queue : Queue) (imm : ℤ) (x : ℕ) → queue_use s.copies s.side (Computes 0 29 0) ≡ Some (Take queue) → c.register 0 ≡ 0 → nat_eq x 0 ≡ false →
      Here s private to (Beq 29 0 imm) c (λ k p. (v : ℕ) × Acts s p (event (Take queue) v x []) (Shows private c (k + 1)))
  hears_other {c} queue imm x legal zero some = λ k w small here is p h.
      let test : nat_eq (read c x 29) (read c x 0) ≡ false = rw (zero, some) refl in
      let lands : plus (4 * k) (if nat_eq (read c x 29) (read c x 0) then word imm else 4) ≡ 4 * (k + 1) = rw test (omega arith) in
      let one = step s private (Beq 29 0 imm) 0 29 0 x (k + 1) w (λ pc x y. 0) (λ pc x y. plus pc (if nat_eq x y then word imm else 4)) (Take queue) h here is refl legal (omega arith) lands in
      (0, rw (put_nowhere 0 0 c refl) at one)

  pub pushes : {c : Contents} (q x : ℕ) (imm : ℤ) (queue : Queue) (v : ℕ) → x < 28 → (nat_lt 0 q && nat_lt q 28) ≡ false → queue_use s.copies s.side (Computes q x 0) ≡ Some (Push queue) → plus (c.register x) (word imm) ≡ v →
      Here s private to (Addi q x imm) c (λ k p. Acts s p (event (Push queue) v 0 []) (Shows private c (k + 1)))
  pushes {c} q x imm queue v low high legal same = λ k w small here is p h.
      let ex = plain_read c 0 x low in
      let value : plus (read c 0 x) (word imm) ≡ v = rw ex same in
      let fits : plus (read c 0 x) (word imm) < 2 ^ 32 = omega arith in
      let one = step s private (Addi q x imm) q x 0 0 (k + 1) w (λ pc x y. plus x (word imm)) (λ pc x y. plus pc 4) (Push queue) h here is refl legal fits (omega arith) in
      rw (value, put_nowhere q v c high) at one

-- ---- an instruction that computes a word from plain registers, into a plain register or one that stands for a queue

pub record Computed (i : Inst) (t v : ℕ) (c : Contents) : Type 0 where
  pub first : ℕ
  pub second : ℕ
  pub function : ℕ → ℕ → ℕ
  pub does : effect i ≡ on_two t first second function
  pub low : first < 28
  pub low' : second < 28
  pub same : function (c.register first) (c.register second) ≡ v

module _ (s : WalkSetting) (private : ℕ) (to : ℕ → Env → Processor → Type 0) where
  pub computes_word : {c : Contents} (i : Inst) (t v : ℕ) → Computed i t v c → t < 28 → v < 2 ^ 32 → Quiet s private to i c (put t v c)
  computes_word {c} i t v w high fits =
      subst (λ (n : ℕ). Quiet s private to i c (put t n c)) w.same (computes s private to {c = c} i t w.first w.second w.function w.does high w.low w.low' (rw (w.same) fits))

  pub pushes_word : {c : Contents} (i : Inst) (q v : ℕ) (queue : Queue) (w : Computed i q v c) → (nat_lt 0 q && nat_lt q 28) ≡ false → queue_use s.copies s.side (Computes q w.first w.second) ≡ Some (Push queue) → v < 2 ^ 32 →
      Here s private to i c (λ k p. Acts s p (event (Push queue) v 0 []) (Shows private c (k + 1)))
  pushes_word {c} i q v queue w high legal fits = λ k n small here is p h.
      let ex = plain_read c 0 w.first w.low in let ey = plain_read c 0 w.second w.low' in
      let value : w.function (read c 0 w.first) (read c 0 w.second) ≡ v = rw (ex, ey) w.same in
      let one = step s private i q w.first w.second 0 (k + 1) n (λ pc x y. w.function x y) (λ pc x y. plus pc 4) (Push queue) h here is w.does legal (rw value fits) (omega arith) in
      rw (value, put_nowhere q v c high) at one
