-- The fields of the words of each format, and the words of their fields.
use Rattle.std.proofs.Common.{◌≡◌, ℕ, ◌+◌, ◌*◌, ◌/◌, ◌%◌, ◌^◌, ◌<◌, arith, ℤ, pos, ◌≤ℤ◌, ◌<ℤ◌, ◌∙◌}
use Rattle.std.proofs.lemmas.Int.{ints}
use Rattle.dae_base.specs.Words.{word}
use Rattle.dae_encode.specs.Instructions.{field, signed_in, imm_i, imm_s, imm_b, imm_u, imm_j}
use Rattle.dae_encode.specs.Spelling.{InstructionLayout, R, I, Shift, S, B, U, J, bits, in_places, IsSigned, Fits}

-- ---- signed numbers of fewer bits

back_12 : (z : ℤ) → IsSigned 12 z → signed_in 12 (bits 0 12 z) ≡ z
back_12 z h = grind (arith, ints)

back_13 : (z : ℤ) → IsSigned 13 z → signed_in 13 (bits 0 13 z) ≡ z
back_13 z h = grind (arith, ints)

back_21 : (z : ℤ) → IsSigned 21 z → signed_in 21 (bits 0 21 z) ≡ z
back_21 z h = grind (arith, ints)

back_32 : (z : ℤ) → IsSigned 32 z → signed_in 32 (word z) ≡ z
back_32 z h = grind (arith, ints)

-- ---- the fields of a word

pub fields_r : (op rd f3 x y f7 w : ℕ) → op < 128 → rd < 32 → f3 < 8 → x < 32 → y < 32 → f7 < 128 → w ≡ in_places (R op rd f3 x y f7)
    → (field 0 7 w ≡ op) × (field 7 5 w ≡ rd) × (field 12 3 w ≡ f3) × (field 15 5 w ≡ x) × (field 20 5 w ≡ y) × (field 25 7 w ≡ f7)
fields_r op rd f3 x y f7 w a b c d e f g = (omega arith, omega arith, omega arith, omega arith, omega arith, omega arith)

pub fields_i : (op rd f3 x : ℕ) (z : ℤ) (w : ℕ) → op < 128 → rd < 32 → f3 < 8 → x < 32 → IsSigned 12 z → w ≡ in_places (I op rd f3 x z)
    → (field 0 7 w ≡ op) × (field 7 5 w ≡ rd) × (field 12 3 w ≡ f3) × (field 15 5 w ≡ x) × (field 20 12 w ≡ bits 0 12 z)
fields_i op rd f3 x z w a b c d s e = (omega arith, omega arith, omega arith, omega arith, omega arith)

pub fields_shift : (op rd f3 x : ℕ) (z : ℤ) (f7 w : ℕ) → op < 128 → rd < 32 → f3 < 8 → x < 32 → f7 < 128 → w ≡ in_places (Shift op rd f3 x z f7)
    → (field 0 7 w ≡ op) × (field 7 5 w ≡ rd) × (field 12 3 w ≡ f3) × (field 15 5 w ≡ x) × (field 20 5 w ≡ bits 0 5 z) × (field 25 7 w ≡ f7)
fields_shift op rd f3 x z f7 w a b c d f e = (omega arith, omega arith, omega arith, omega arith, omega arith, omega arith)

pub fields_s : (op f3 x y : ℕ) (z : ℤ) (w : ℕ) → op < 128 → f3 < 8 → x < 32 → y < 32 → w ≡ in_places (S op f3 x y z)
    → (field 0 7 w ≡ op) × (field 12 3 w ≡ f3) × (field 15 5 w ≡ x) × (field 20 5 w ≡ y) × (field 7 5 w ≡ bits 0 5 z) × (field 25 7 w ≡ bits 5 7 z)
fields_s op f3 x y z w a b c d e = (omega arith, omega arith, omega arith, omega arith, omega arith, omega arith)

pub fields_b : (op f3 x y : ℕ) (z : ℤ) (w : ℕ) → op < 128 → f3 < 8 → x < 32 → y < 32 → w ≡ in_places (B op f3 x y z)
    → (field 0 7 w ≡ op) × (field 12 3 w ≡ f3) × (field 15 5 w ≡ x) × (field 20 5 w ≡ y) × (field 7 1 w ≡ bits 11 1 z) × (field 8 4 w ≡ bits 1 4 z) × (field 25 6 w ≡ bits 5 6 z) × (field 31 1 w ≡ bits 12 1 z)
fields_b op f3 x y z w a b c d e = (omega arith, omega arith, omega arith, omega arith, omega arith, omega arith, omega arith, omega arith)

pub fields_u : (op rd : ℕ) (z : ℤ) (w : ℕ) → op < 128 → rd < 32 → w ≡ in_places (U op rd z)
    → (field 0 7 w ≡ op) × (field 7 5 w ≡ rd) × (field 12 20 w ≡ bits 12 20 z)
fields_u op rd z w a b e = (omega arith, omega arith, omega arith)

pub fields_j : (op rd : ℕ) (z : ℤ) (w : ℕ) → op < 128 → rd < 32 → w ≡ in_places (J op rd z)
    → (field 0 7 w ≡ op) × (field 7 5 w ≡ rd) × (field 12 8 w ≡ bits 12 8 z) × (field 20 1 w ≡ bits 11 1 z) × (field 21 10 w ≡ bits 1 10 z) × (field 31 1 w ≡ bits 20 1 z)
fields_j op rd z w a b e = (omega arith, omega arith, omega arith, omega arith, omega arith, omega arith)

-- ---- the bits of an immediate, put together

joined_s : (z : ℤ) → bits 5 7 z * 32 + bits 0 5 z ≡ bits 0 12 z
joined_s z = omega arith

joined_b : (z : ℤ) → word z % 2 ≡ 0 → bits 12 1 z * 2 ^ 12 + bits 11 1 z * 2 ^ 11 + bits 5 6 z * 32 + bits 1 4 z * 2 ≡ bits 0 13 z
joined_b z h = omega arith

joined_j : (z : ℤ) → word z % 2 ≡ 0 → bits 20 1 z * 2 ^ 20 + bits 12 8 z * 2 ^ 12 + bits 11 1 z * 2 ^ 11 + bits 1 10 z * 2 ≡ bits 0 21 z
joined_j z h = omega arith

joined_u : (z : ℤ) → IsSigned 32 z → word z % 2 ^ 12 ≡ 0 → bits 12 20 z * 2 ^ 12 ≡ word z
joined_u z s h = omega (arith, ints)

-- ---- the immediates of a word

pub imm_i-is : (op rd f3 x : ℕ) (z : ℤ) (w : ℕ) → op < 128 → rd < 32 → f3 < 8 → x < 32 → IsSigned 12 z → w ≡ in_places (I op rd f3 x z) → imm_i w ≡ z
unfolding imm_i
imm_i-is op rd f3 x z w a b c d s e =
    let f = fields_i op rd f3 x z w a b c d s e in
    rw (f.4) (back_12 z s)

pub imm_s-is : (op f3 x y : ℕ) (z : ℤ) (w : ℕ) → op < 128 → f3 < 8 → x < 32 → y < 32 → IsSigned 12 z → w ≡ in_places (S op f3 x y z) → imm_s w ≡ z
unfolding imm_s
imm_s-is op f3 x y z w a b c d s e =
    let f = fields_s op f3 x y z w a b c d e in
    rw (f.4, f.5, joined_s z) (back_12 z s)

pub imm_b-is : (op f3 x y : ℕ) (z : ℤ) (w : ℕ) → op < 128 → f3 < 8 → x < 32 → y < 32 → IsSigned 13 z → word z % 2 ≡ 0 → w ≡ in_places (B op f3 x y z) → imm_b w ≡ z
unfolding imm_b
imm_b-is op f3 x y z w a b c d s even e =
    let f = fields_b op f3 x y z w a b c d e in
    rw (f.4, f.5, f.6, f.7, joined_b z even) (back_13 z s)

pub imm_u-is : (op rd : ℕ) (z : ℤ) (w : ℕ) → op < 128 → rd < 32 → IsSigned 32 z → word z % 2 ^ 12 ≡ 0 → w ≡ in_places (U op rd z) → imm_u w ≡ z
unfolding imm_u
imm_u-is op rd z w a b s low e =
    let f = fields_u op rd z w a b e in
    rw (f.2, joined_u z s low) (back_32 z s)

pub imm_j-is : (op rd : ℕ) (z : ℤ) (w : ℕ) → op < 128 → rd < 32 → IsSigned 21 z → word z % 2 ≡ 0 → w ≡ in_places (J op rd z) → imm_j w ≡ z
unfolding imm_j
imm_j-is op rd z w a b s even e =
    let f = fields_j op rd z w a b e in
    rw (f.5, f.2, f.3, f.4, joined_j z even) (back_21 z s)

-- ---- the other way: a word is its fields in their places

-- a layout whose fields are in range, and whose word this is
abbrev pub Lays : InstructionLayout → ℕ → Type 0
Lays l w = Fits l × (in_places l ≡ w)

there_12 : (n : ℕ) → n < 2 ^ 12 → IsSigned 12 (signed_in 12 n) × (bits 0 12 (signed_in 12 n) ≡ n)
there_12 n h = grind (arith, ints)

there_13 : (n : ℕ) → n < 2 ^ 13 → IsSigned 13 (signed_in 13 n) × (bits 0 13 (signed_in 13 n) ≡ n)
there_13 n h = grind (arith, ints)

there_21 : (n : ℕ) → n < 2 ^ 21 → IsSigned 21 (signed_in 21 n) × (bits 0 21 (signed_in 21 n) ≡ n)
there_21 n h = grind (arith, ints)

there_32 : (n : ℕ) → n < 2 ^ 32 → IsSigned 32 (signed_in 32 n) × (word (signed_in 32 n) ≡ n)
there_32 n h = grind (arith, ints)

pub lays_r : (w op f7 : ℕ) → w < 2 ^ 32 → field 0 7 w ≡ op → field 25 7 w ≡ f7 → Lays (R op (field 7 5 w) (field 12 3 w) (field 15 5 w) (field 20 5 w) f7) w
lays_r w op f7 h e f = ((omega arith, omega arith, omega arith), omega arith)

pub lays_i : (w op : ℕ) → w < 2 ^ 32 → field 0 7 w ≡ op → Lays (I op (field 7 5 w) (field 12 3 w) (field 15 5 w) (imm_i w)) w
unfolding imm_i
lays_i w op h e =
    let t = there_12 (field 20 12 w) (omega arith) in
    ((omega arith, omega arith, t.0), rw (t.1) (omega arith))

pub lays_shift : (w op f7 : ℕ) → w < 2 ^ 32 → field 0 7 w ≡ op → field 25 7 w ≡ f7 → Lays (Shift op (field 7 5 w) (field 12 3 w) (field 15 5 w) (pos (field 20 5 w)) f7) w
lays_shift w op f7 h e f =
    let n = field 20 5 w in
    let small : n < 32 = omega arith in
    let positive : pos 0 ≤ℤ pos n = grind (arith, ints) in
    let below : pos n <ℤ pos 32 = grind (arith, ints) in
    let same : bits 0 5 (pos n) ≡ n = omega arith in
    ((omega arith, omega arith, (positive, below)), rw same (omega arith))

-- the parts of an immediate whose low bits are put together
parts_s : (z : ℤ) (n : ℕ) → bits 0 12 z ≡ n → (bits 0 5 z ≡ n % 32) × (bits 5 7 z ≡ n / 32)
parts_s z n e = (omega arith, omega arith)

parts_b : (z : ℤ) (n : ℕ) → bits 0 13 z ≡ n → (bits 11 1 z ≡ n / 2 ^ 11 % 2) × (bits 1 4 z ≡ n / 2 % 16) × (bits 5 6 z ≡ n / 32 % 64) × (bits 12 1 z ≡ n / 2 ^ 12) × (word z % 2 ≡ n % 2)
parts_b z n e = (omega arith, omega arith, omega arith, omega arith, omega arith)

parts_j : (z : ℤ) (n : ℕ) → bits 0 21 z ≡ n → (bits 12 8 z ≡ n / 2 ^ 12 % 2 ^ 8) × (bits 11 1 z ≡ n / 2 ^ 11 % 2) × (bits 1 10 z ≡ n / 2 % 2 ^ 10) × (bits 20 1 z ≡ n / 2 ^ 20) × (word z % 2 ≡ n % 2)
parts_j z n e = (omega arith, omega arith, omega arith, omega arith, omega arith)

pub lays_s : (w op : ℕ) → w < 2 ^ 32 → field 0 7 w ≡ op → Lays (S op (field 12 3 w) (field 15 5 w) (field 20 5 w) (imm_s w)) w
unfolding imm_s
lays_s w op h e =
    let n = field 25 7 w * 32 + field 7 5 w in
    let t = there_12 n (omega arith) in
    let p = parts_s (signed_in 12 n) n (t.1) in
    ((omega arith, omega arith, t.0), rw (p.0, p.1) (omega arith))

pub lays_b : (w op : ℕ) → w < 2 ^ 32 → field 0 7 w ≡ op → Lays (B op (field 12 3 w) (field 15 5 w) (field 20 5 w) (imm_b w)) w
unfolding imm_b
lays_b w op h e =
    let n = field 31 1 w * 2 ^ 12 + field 7 1 w * 2 ^ 11 + field 25 6 w * 32 + field 8 4 w * 2 in
    let t = there_13 n (omega arith) in
    let p = parts_b (signed_in 13 n) n (t.1) in
    ((omega arith, omega arith, (t.0, p.4 ∙ omega arith)), rw (p.0, p.1, p.2, p.3) (omega arith))

pub lays_u : (w op : ℕ) → w < 2 ^ 32 → field 0 7 w ≡ op → Lays (U op (field 7 5 w) (imm_u w)) w
unfolding imm_u
lays_u w op h e =
    let n = field 12 20 w * 2 ^ 12 in
    let t = there_32 n (omega arith) in
    ((omega arith, (t.0, rw (t.1) (omega arith))), rw (t.1) (omega arith))

pub lays_j : (w op : ℕ) → w < 2 ^ 32 → field 0 7 w ≡ op → Lays (J op (field 7 5 w) (imm_j w)) w
unfolding imm_j
lays_j w op h e =
    let n = field 31 1 w * 2 ^ 20 + field 12 8 w * 2 ^ 12 + field 20 1 w * 2 ^ 11 + field 21 10 w * 2 in
    let t = there_21 n (omega arith) in
    let p = parts_j (signed_in 21 n) n (t.1) in
    ((omega arith, (t.0, p.4 ∙ omega arith)), rw (p.0, p.1, p.2, p.3) (omega arith))
