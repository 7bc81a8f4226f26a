-- What an instruction gives of the words of its ranges is a word of the range that is kept for it.
use Rattle.std.proofs.Common.{◌≡◌, ℕ, zero, suc, ◌+◌, ◌-◌, ◌*◌, ◌/◌, ◌%◌, ◌^◌, ◌<◌, ◌≤◌, ℤ, pos, negsuc, Bool, true, false, not, ◌&&◌, refl, subst, arith}
use Rattle.std.specs.Prelude.{Option, Some, None, nat_lt, ◌==◌, if◌then◌else◌, unwrap_or, int_lt, int_div, int_rem, bit_and, unsigned_abs, neg_ℤ, ◌*ℤ◌, ◌≢◌}
use Rattle.std.specs.Int.{int_shr}
use Rattle.std.proofs.lemmas.Bool.Decides.{nat_tests}
use Rattle.std.proofs.lemmas.Int.{ints, unsigned_abs-mul, rem_below}
use Rattle.std.proofs.lemmas.Nat.{and_le_l, and_le_r, xor_of_32, or_of_32, mul-le}
use Rattle.std.proofs.Math.Nat.{div-le_self, mod-le}
use Rattle.dae_base.proofs.Laws.{and_true}
use Rattle.dae_base.specs.Words.{word, signed, plus}
use Rattle.dae_encode.specs.declared.Inst.{Inst}
use Rattle.dae_encode.specs.declared.Inst.TheVariants.{Lui, Auipc, Jal, Jalr, Beq, Bne, Blt, Bge, Bltu, Bgeu, Lb, Lh, Lw, Lbu, Lhu, Sb, Sh, Sw, Addi, Slti, Sltiu, Xori, Ori, Andi, Slli, Srli, Srai, Add, Sub, Sll, Slt, Sltu, Xor, Srl, Sra, Or, And, Mul, Mulh, Mulhsu, Mulhu, Div, Divu, Rem, Remu, Ecall}
use Rattle.dae_encode.specs.Instructions.{value, next, quotient, remainder, shift_left}
use Rattle.dae_encode.specs.Spelling.{InRange, layout, IsSigned}
use Rattle.dae_encode.proofs.Laws.{flag_small}
use Rattle.dae_ranges.specs.declared.Range.{Range}
use Rattle.dae_ranges.specs.Ranges.{Has, single, any_word, is_single, raised, shifted, scaled}
use Rattle.dae_ranges.proofs.Laws.{single_is, has_single, has_any, raised_has, shifted_has, scaled_has}
use Rattle.dae_guard.specs.Moves.{Tests, Jumps, Plain, shape, test, goes_to, tells, against, spread, result, Order, Free, Below, NotBelow, Equal, Unequal, order}

-- ---- words

abs_neg : (n : ℕ) → unsigned_abs (neg_ℤ (pos n)) ≡ n
abs_neg zero = refl
abs_neg (suc n) = refl

word_abs : (z : ℤ) → unsigned_abs z < 2 ^ 32 → word z < 2 ^ 32
word_abs (pos n) h = h
word_abs (negsuc n) h = omega arith

word_shr : (z : ℤ) (k : ℕ) → unsigned_abs z / 2 ^ k < 2 ^ 32 → word (int_shr z k) < 2 ^ 32
word_shr (pos n) k h = h
word_shr (negsuc n) k h = omega arith

abs_signed : (x : ℕ) → x < 2 ^ 32 → unsigned_abs (signed x) ≤ 2 ^ 31
abs_signed x h = grind (arith, ints)

div_abs : (a d : ℤ) → unsigned_abs (int_div a d) ≤ unsigned_abs a
div_abs (pos a) (pos b) = div-le_self a b
div_abs (pos a) (negsuc b) = rw abs_neg (div-le_self a (suc b))
div_abs (negsuc a) (pos b) = rw abs_neg (div-le_self (suc a) b)
div_abs (negsuc a) (negsuc b) = div-le_self (suc a) (suc b)

signed_some : (x : ℕ) → x < 2 ^ 32 → x ≢ 0 → 0 < unsigned_abs (signed x)
signed_some x h n = grind (arith, ints)

-- an immediate is a word
pub imm_12 : (imm : ℤ) → IsSigned 12 imm → word imm < 2 ^ 32
imm_12 (pos n) h = let u = h.1 in omega (arith, ints)
imm_12 (negsuc n) h = omega arith

imm_32 : (imm : ℤ) → IsSigned 32 imm → word imm < 2 ^ 32
imm_32 (pos n) h = let u = h.1 in omega (arith, ints)
imm_32 (negsuc n) h = omega arith

quotient_small : (v w : ℕ) → v < 2 ^ 32 → quotient v w < 2 ^ 32
quotient_small v w p = by (w == 0) where
  by : (b : Bool) → (if b then 2 ^ 32 - 1 else word (int_div (signed v) (signed w))) < 2 ^ 32
  by true = omega arith
  by false = word_abs (int_div (signed v) (signed w)) (let a = div_abs (signed v) (signed w) in let b = abs_signed v p in omega arith)

remainder_small : (v w : ℕ) → v < 2 ^ 32 → w < 2 ^ 32 → remainder v w < 2 ^ 32
remainder_small v w p q = by (w == 0) refl where
  by : (b : Bool) → (w == 0) ≡ b → (if b then v else word (int_rem (signed v) (signed w))) < 2 ^ 32
  by true e = p
  by false e =
      let n : w ≢ 0 = grind (arith, nat_tests) in
      let a = rem_below (signed v) (signed w) (signed_some w q n) in let b = abs_signed w q in
      word_abs (int_rem (signed v) (signed w)) (omega arith)

divu_small : (v w : ℕ) → v < 2 ^ 32 → (if w == 0 then 2 ^ 32 - 1 else v / w) < 2 ^ 32
divu_small v w p = by (w == 0) where
  by : (b : Bool) → (if b then 2 ^ 32 - 1 else v / w) < 2 ^ 32
  by true = omega arith
  by false = let a = div-le_self v w in omega arith

remu_small : (v w : ℕ) → v < 2 ^ 32 → (if w == 0 then v else v % w) < 2 ^ 32
remu_small v w p = by (w == 0) where
  by : (b : Bool) → (if b then v else v % w) < 2 ^ 32
  by true = p
  by false = let a = mod-le v w in omega arith

product_small : (a b : ℤ) (m n : ℕ) → unsigned_abs a ≤ m → unsigned_abs b ≤ n → m * n < 2 ^ 64 → word (int_shr (a *ℤ b) 32) < 2 ^ 32
product_small a b m n p q l =
    let e = unsigned_abs-mul a b in
    let k : unsigned_abs a * unsigned_abs b ≤ m * n = mul-le (unsigned_abs a) (unsigned_abs b) m n p q in
    word_shr (a *ℤ b) 32 (omega arith)

mulhu_small : (v w : ℕ) → v < 2 ^ 32 → w < 2 ^ 32 → v * w / 2 ^ 32 < 2 ^ 32
mulhu_small v w p q =
    let k : v * w ≤ (2 ^ 32 - 1) * (2 ^ 32 - 1) = mul-le v w (2 ^ 32 - 1) (2 ^ 32 - 1) (omega arith) (omega arith) in
    omega arith

shr_small : (v w : ℕ) → v < 2 ^ 32 → word (int_shr (signed v) (w % 32)) < 2 ^ 32
shr_small v w p =
    let a = abs_signed v p in
    let b = div-le_self (unsigned_abs (signed v)) (2 ^ (w % 32)) in
    word_shr (signed v) (w % 32) (omega arith)

-- a result is a word
pub value_small : (i : Inst) (c v w : ℕ) → InRange i → v < 2 ^ 32 → w < 2 ^ 32 → value i c v w < 2 ^ 32
unfolding value InRange layout
value_small (Lui rd imm) c v w r p q = imm_32 imm r.1.0
value_small (Auipc rd imm) c v w r p q = omega arith
value_small (Jal rd imm) c v w r p q = omega arith
value_small (Jalr rd x imm) c v w r p q = omega arith
value_small (Beq x y imm) c v w r p q = omega arith
value_small (Bne x y imm) c v w r p q = omega arith
value_small (Blt x y imm) c v w r p q = omega arith
value_small (Bge x y imm) c v w r p q = omega arith
value_small (Bltu x y imm) c v w r p q = omega arith
value_small (Bgeu x y imm) c v w r p q = omega arith
value_small (Lb rd x imm) c v w r p q = omega arith
value_small (Lh rd x imm) c v w r p q = omega arith
value_small (Lw rd x imm) c v w r p q = omega arith
value_small (Lbu rd x imm) c v w r p q = omega arith
value_small (Lhu rd x imm) c v w r p q = omega arith
value_small (Sb x y imm) c v w r p q = omega arith
value_small (Sh x y imm) c v w r p q = omega arith
value_small (Sw x y imm) c v w r p q = omega arith
value_small (Addi rd x imm) c v w r p q = omega arith
value_small (Slti rd x imm) c v w r p q = flag_small (int_lt (signed v) imm)
value_small (Sltiu rd x imm) c v w r p q = flag_small (nat_lt v (word imm))
value_small (Xori rd x imm) c v w r p q = xor_of_32 v (word imm) p (imm_12 imm r.2)
value_small (Ori rd x imm) c v w r p q = or_of_32 v (word imm) p (imm_12 imm r.2)
value_small (Andi rd x imm) c v w r p q = let a = and_le_l v (word imm) in omega arith
value_small (Slli rd x imm) c v w r p q = omega arith
value_small (Srli rd x imm) c v w r p q = let a = div-le_self v (2 ^ (word imm % 32)) in omega arith
value_small (Srai rd x imm) c v w r p q = shr_small v (word imm) p
value_small (Add rd x y) c v w r p q = omega arith
value_small (Sub rd x y) c v w r p q = omega arith
value_small (Sll rd x y) c v w r p q = omega arith
value_small (Slt rd x y) c v w r p q = flag_small (int_lt (signed v) (signed w))
value_small (Sltu rd x y) c v w r p q = flag_small (nat_lt v w)
value_small (Xor rd x y) c v w r p q = xor_of_32 v w p q
value_small (Srl rd x y) c v w r p q = let a = div-le_self v (2 ^ (w % 32)) in omega arith
value_small (Sra rd x y) c v w r p q = shr_small v w p
value_small (Or rd x y) c v w r p q = or_of_32 v w p q
value_small (And rd x y) c v w r p q = let a = and_le_l v w in omega arith
value_small (Mul rd x y) c v w r p q = omega arith
value_small (Mulh rd x y) c v w r p q = product_small (signed v) (signed w) (2 ^ 31) (2 ^ 31) (abs_signed v p) (abs_signed w q) (omega arith)
value_small (Mulhsu rd x y) c v w r p q = product_small (signed v) (pos w) (2 ^ 31) (2 ^ 32) (abs_signed v p) (omega arith) (omega arith)
value_small (Mulhu rd x y) c v w r p q = mulhu_small v w p q
value_small (Div rd x y) c v w r p q = quotient_small v w p
value_small (Divu rd x y) c v w r p q = divu_small v w p
value_small (Rem rd x y) c v w r p q = remainder_small v w p q
value_small (Remu rd x y) c v w r p q = remu_small v w p
value_small Ecall c v w r p q = omega arith

-- the immediate of an instruction that adds is a word
pub imm_small : (rd x : ℕ) (imm : ℤ) → InRange (Addi rd x imm) → word imm < 2 ^ 32
unfolding InRange layout
imm_small rd x imm r = imm_12 imm r.2

-- ---- results

or_any : (o : Option Range) (v : ℕ) → v < 2 ^ 32 → ((s : Range) → o ≡ Some s → Has s v) → Has (unwrap_or o any_word) v
or_any None v l h = has_any v l
or_any (Some s) v l h = h s refl

spread_has : (i : Inst) (c v w : ℕ) (x y : Range) → InRange i → Has x v → Has y w → Has (spread i c x y) (value i c v w)
unfolding spread value
spread_has (Addi rd first imm) c v w x y r p q = or_any (shifted (word imm) x) (plus v (word imm)) (omega arith) (λ z e. shifted_has (word imm) x z v (imm_small rd first imm r) e p)
spread_has (Add rd first second) c v w x y r p q = by (is_single y) refl (is_single x) refl where
  by : (a : Bool) → is_single y ≡ a → (b : Bool) → is_single x ≡ b → Has (if a then unwrap_or (raised y.lo x) any_word else (if b then unwrap_or (raised x.lo y) any_word else any_word)) (plus v w)
  by true e b f = or_any (raised y.lo x) (plus v w) (omega arith) (λ z g. (
      let k = raised_has y.lo x z v g p in
      let is : w ≡ y.lo = single_is y w e q in
      let small = k.1 in
      let same : v + y.lo ≡ plus v w = omega arith in
      subst (Has z) same k.0))
  by false e true f = or_any (raised x.lo y) (plus v w) (omega arith) (λ z g. (
      let k = raised_has x.lo y z w g q in
      let is : v ≡ x.lo = single_is x v f p in
      let small = k.1 in
      let same : w + x.lo ≡ plus v w = omega arith in
      subst (Has z) same k.0))
  by false e false f = has_any (plus v w) (omega arith)
spread_has (Slli rd first imm) c v w x y r p q = or_any (scaled (2 ^ (word imm % 32)) x) (shift_left v (word imm)) (omega arith) (λ z g. (
    let k = scaled_has (2 ^ (word imm % 32)) x z v g p in
    let small = k.1 in
    let same : v * 2 ^ (word imm % 32) ≡ shift_left v (word imm) = omega arith in
    subst (Has z) same k.0))
spread_has (Andi rd first imm) c v w x y r p q = by (nat_lt (word imm) (2 ^ 31)) where
  by : (a : Bool) → Has (if a then record { lo = 0; step = 1; count = word imm } else any_word) (bit_and v (word imm))
  by true = let a = and_le_r v (word imm) in let b = and_le_l v (word imm) in let l = p.small in record { at = bit_and v (word imm); fits = a; is = (omega arith); small = (omega arith) }
  by false = let b = and_le_l v (word imm) in let l = p.small in has_any _ (omega arith)
spread_has (Jalr rd first imm) c v w x y r p q = has_single (plus c 4) (omega arith)
spread_has i c v w x y r p q = has_any (value i c v w) (value_small i c v w r p.small q.small)

pub result_has : (i : Inst) (c v w : ℕ) (x y : Range) → InRange i → Has x v → Has y w → Has (result i c x y) (value i c v w)
result_has i c v w x y r p q = by (is_single x && is_single y) refl where
  by : (b : Bool) → (is_single x && is_single y) ≡ b → Has (if b then single (value i c x.lo y.lo) else spread i c x y) (value i c v w)
  by true e =
      let both = and_true (is_single x) (is_single y) e in
      let ev = single_is x v both.0 p in let ew = single_is y w both.1 q in
      rw (← ev, ← ew) (has_single (value i c v w) (value_small i c v w r p.small q.small))
  by false e = spread_has i c v w x y r p q

-- ---- counters

pub plain_next : (i : Inst) (c v w : ℕ) → shape i ≡ Plain → next i c v w ≡ next i c 0 0
unfolding next shape
plain_next (Beq x y imm) c v w s = cc
plain_next (Bne x y imm) c v w s = cc
plain_next (Blt x y imm) c v w s = cc
plain_next (Bge x y imm) c v w s = cc
plain_next (Bltu x y imm) c v w s = cc
plain_next (Bgeu x y imm) c v w s = cc
plain_next (Slti rd x imm) c v w s = cc
plain_next (Sltiu rd x imm) c v w s = cc
plain_next (Slt rd x y) c v w s = cc
plain_next (Sltu rd x y) c v w s = cc
plain_next (Jalr rd x imm) c v w s = cc
plain_next i c v w s = refl

pub jump_next : (i : Inst) (c v w : ℕ) → shape i ≡ Jumps → next i c v w ≡ next i c v 0
unfolding next shape
jump_next (Jalr rd x imm) c v w s = refl
jump_next i c v w s = cc

-- what a test that came out so says of two words
abbrev pub Meets : Order → Bool → ℕ → ℕ → Type 0
Meets Free b v w = Unit {0}
Meets Below b v w = nat_lt v w ≡ b
Meets NotBelow b v w = not (nat_lt v w) ≡ b
Meets Equal b v w = (v == w) ≡ b
Meets Unequal b v w = not (v == w) ≡ b

-- the second word of a test, which may be an immediate
abbrev pub other : Inst → ℕ → ℕ
other (Slti rd x imm) w = word imm
other (Sltiu rd x imm) w = word imm
other i w = w

-- what a test says of the words, of the counter and of the result
pub record Tested (i : Inst) (c v w : ℕ) (y : Range) : Type 0 where
  pub has : Has (against i y) (other i w)
  pub same : test i v (other i w) ≡ test i v w
  pub counter : next i c v w ≡ goes_to i c (test i v w)
  pub result' : value i c v w ≡ tells i (test i v w)
  pub meets : Meets (order i) (test i v w) v (other i w)

pub tested : (i : Inst) (c v w : ℕ) (y : Range) → shape i ≡ Tests → InRange i → Has y w → Tested i c v w y
unfolding shape test next value goes_to tells order against InRange layout
tested (Beq x y imm) c v w z s r h = record { has = h; same = refl; counter = refl; result' = refl; meets = refl }
tested (Bne x y imm) c v w z s r h = record { has = h; same = refl; counter = refl; result' = refl; meets = refl }
tested (Blt x y imm) c v w z s r h = record { has = h; same = refl; counter = refl; result' = refl; meets = tt }
tested (Bge x y imm) c v w z s r h = record { has = h; same = refl; counter = refl; result' = refl; meets = tt }
tested (Bltu x y imm) c v w z s r h = record { has = h; same = refl; counter = refl; result' = refl; meets = refl }
tested (Bgeu x y imm) c v w z s r h = record { has = h; same = refl; counter = refl; result' = refl; meets = refl }
tested (Slti rd x imm) c v w z s r h = record { has = has_single (word imm) (imm_12 imm r.2); same = refl; counter = refl; result' = refl; meets = tt }
tested (Sltiu rd x imm) c v w z s r h = record { has = has_single (word imm) (imm_12 imm r.2); same = refl; counter = refl; result' = refl; meets = refl }
tested (Slt rd x y) c v w z s r h = record { has = h; same = refl; counter = refl; result' = refl; meets = tt }
tested (Sltu rd x y) c v w z s r h = record { has = h; same = refl; counter = refl; result' = refl; meets = refl }
tested i c v w y s r h = cc

pub tells_small : (i : Inst) (b : Bool) → tells i b < 2 ^ 32
unfolding tells
tells_small (Slti rd x imm) b = flag_small b
tells_small (Sltiu rd x imm) b = flag_small b
tells_small (Slt rd x y) b = flag_small b
tells_small (Sltu rd x y) b = flag_small b
tells_small i b = omega arith
