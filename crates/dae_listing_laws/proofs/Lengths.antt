-- How long the lines of a listing are.
use Rattle.std.proofs.Common.{◌≡◌, ℕ, suc, ◌+◌, ◌*◌, ◌/◌, ◌<◌, ◌≤◌, ◌^◌, ℤ, pos, negsuc, neg_ℤ, ◌≤ℤ◌, ◌<ℤ◌, List, [], ◌∷◌, ◌++◌, length, codes, refl, arith, length-append}
use Rattle.std.specs.Prelude.{Option, Some, None, decimal}
use Rattle.std.specs.Fmt.{signed_decimal}
use Rattle.std.specs.List.{AllByRecursion}
use Rattle.std.proofs.lemmas.Int.{ints}
use Rattle.std.proofs.lemmas.Fmt.{length-decimal-le}
use Rattle.dae_base.specs.Words.{word}
use Rattle.dae_encode.specs.Spelling.{InRange, IsSigned, layout, decode}
use Rattle.dae_encode.specs.declared.Inst.{Inst}
use Rattle.dae_encode.specs.declared.Inst.TheVariants.{Lui, Auipc, Jal, Jalr, Beq, Bne, Blt, Bge, Bltu, Bgeu, Lb, Lh, Lw, Lbu, Lhu, Sb, Sh, Sw, Addi, Slti, Sltiu, Xori, Ori, Andi, Slli, Srli, Srai, Add, Sub, Sll, Slt, Sltu, Xor, Srl, Sra, Or, And, Mul, Mulh, Mulhsu, Mulhu, Div, Divu, Rem, Remu, Ecall}
use Rattle.dae_encode.proofs.Laws.{encoded_decode}
use Rattle.dae_asm_lines.specs.declared.Operands.TheVariants.{Registers, Immediate, Based, Branch, Upper, Jump}
use Rattle.dae_asm_lines.specs.Names.{name_of, operands_of}
use Rattle.dae_listing.specs.Canon.{row, register_text, spelled_operands, instruction_text, word_or_instruction, word_text}
use Rattle.dae_listing_laws.proofs.Rows.{AreFew}
use Rattle.dae_listing_laws.proofs.Small.{word_is_small}

-- ---- numbers

register_long : (r : ℕ) → r < 32 → length (register_text (pos r)) ≤ 3
register_long r h = let d = length-decimal-le 2 r (omega arith) (omega arith) (omega arith) in omega arith

-- a number with so many bytes
five : (z : ℤ) → neg_ℤ (pos 4096) ≤ℤ z → z <ℤ pos 4096 → length (signed_decimal z) ≤ 5
five (pos n) low high = let d = length-decimal-le 4 n (omega arith) (omega (arith, ints)) (omega (arith, ints)) in omega arith
five (negsuc n) low high = let d = length-decimal-le 4 (suc n) (omega arith) (omega (arith, ints)) (omega (arith, ints)) in omega arith

eight : (z : ℤ) → neg_ℤ (pos 1048576) ≤ℤ z → z <ℤ pos 1048576 → length (signed_decimal z) ≤ 8
eight (pos n) low high = let d = length-decimal-le 7 n (omega arith) (omega (arith, ints)) (omega (arith, ints)) in omega arith
eight (negsuc n) low high = let d = length-decimal-le 7 (suc n) (omega arith) (omega (arith, ints)) (omega (arith, ints)) in omega arith

twelve : (z : ℤ) → IsSigned 12 z → length (signed_decimal z) ≤ 5
twelve z h = five z (omega (arith, ints, h.0)) (omega (arith, ints, h.1))

thirteen : (z : ℤ) → IsSigned 13 z → length (signed_decimal z) ≤ 5
thirteen z h = five z (omega (arith, ints, h.0)) (omega (arith, ints, h.1))

shift : (z : ℤ) → pos 0 ≤ℤ z → z <ℤ pos 32 → length (signed_decimal z) ≤ 5
shift z low high = five z (omega (arith, ints)) (omega (arith, ints))

upper : (z : ℤ) → IsSigned 32 z → length (signed_decimal (pos (word z / 2 ^ 12))) ≤ 7
upper z h = let small = word_is_small z h in length-decimal-le 7 (word z / 2 ^ 12) (omega arith) (omega arith) (omega arith)

-- ---- instructions

-- texts with signs between
three : (w a b c : List ℕ) (x y : ℕ) → length (w ++ (32 ∷ (a ++ (x ∷ (b ++ (y ∷ c)))))) ≡ length w + (length a + (length b + (length c + 3)))
three w a b c x y =
    let p = length-append w (32 ∷ (a ++ (x ∷ (b ++ (y ∷ c))))) in
    let q = length-append a (x ∷ (b ++ (y ∷ c))) in
    let r = length-append b (y ∷ c) in
    omega arith

two : (w a b : List ℕ) (x : ℕ) → length (w ++ (32 ∷ (a ++ (x ∷ b)))) ≡ length w + (length a + (length b + 2))
two w a b x =
    let p = length-append w (32 ∷ (a ++ (x ∷ b))) in
    let q = length-append a (x ∷ b) in
    omega arith

registers : (w : List ℕ) (a b c : ℕ) → length w ≤ 6 → a < 32 → b < 32 → c < 32 → length (w ++ spelled_operands (Registers (pos a) (pos b) (pos c))) ≤ 19
registers w a b c named x y z =
    let all = three w (register_text (pos a)) (register_text (pos b)) (register_text (pos c)) 44 44 in
    let p = register_long a x in let q = register_long b y in let r = register_long c z in
    omega arith

immediate : (w : List ℕ) (a b : ℕ) (n : ℤ) → length w ≤ 5 → a < 32 → b < 32 → length (signed_decimal n) ≤ 5 → length (w ++ spelled_operands (Immediate (pos a) (pos b) n)) ≤ 19
immediate w a b n named x y z =
    let all = three w (register_text (pos a)) (register_text (pos b)) (signed_decimal n) 44 44 in
    let p = register_long a x in let q = register_long b y in
    omega arith

based : (w : List ℕ) (a b : ℕ) (n : ℤ) → length w ≤ 4 → a < 32 → b < 32 → length (signed_decimal n) ≤ 5 → length (w ++ spelled_operands (Based (pos a) n (pos b))) ≤ 19
based w a b n named x y z =
    let all = three w (register_text (pos a)) (signed_decimal n) (register_text (pos b) ++ 41 ∷ []) 44 40 in
    let last = length-append (register_text (pos b)) (41 ∷ []) in
    let p = register_long a x in let q = register_long b y in
    omega arith

branch : (w : List ℕ) (a b : ℕ) (n : ℤ) → length w ≤ 4 → a < 32 → b < 32 → length (signed_decimal n) ≤ 5 → length (w ++ spelled_operands (Branch (pos a) (pos b) n)) ≤ 19
branch w a b n named x y z =
    let all = three w (register_text (pos a)) (register_text (pos b)) (signed_decimal n) 44 44 in
    let p = register_long a x in let q = register_long b y in
    omega arith

upper_bits : (w : List ℕ) (a n : ℕ) → length w ≤ 5 → a < 32 → length (signed_decimal (pos n)) ≤ 7 → length (w ++ spelled_operands (Upper (pos a) (pos n))) ≤ 19
upper_bits w a n named x z =
    let all = two w (register_text (pos a)) (signed_decimal (pos n)) 44 in
    let p = register_long a x in
    omega arith

jump : (w : List ℕ) (a : ℕ) (n : ℤ) → length w ≤ 3 → a < 32 → length (signed_decimal n) ≤ 8 → length (w ++ spelled_operands (Jump (pos a) n)) ≤ 19
jump w a n named x z =
    let all = two w (register_text (pos a)) (signed_decimal n) 44 in
    let p = register_long a x in
    omega arith

instruction_long : (i : Inst) → InRange i → length (instruction_text i) ≤ 19
unfolding InRange layout operands_of name_of
instruction_long (Lui x y) h = upper_bits (codes "lui") x (word y / 2 ^ 12) (omega arith) h.0 (upper y h.1.0)
instruction_long (Auipc x y) h = upper_bits (codes "auipc") x (word y / 2 ^ 12) (omega arith) h.0 (upper y h.1.0)
instruction_long (Jal x y) h = jump (codes "jal") x y (omega arith) h.0 (eight y h.1.0.0 h.1.0.1)
instruction_long (Jalr x y z) h = based (codes "jalr") x y z (omega arith) h.0 h.1 (twelve z h.2)
instruction_long (Beq x y z) h = branch (codes "beq") x y z (omega arith) h.0 h.1 (thirteen z h.2.0)
instruction_long (Bne x y z) h = branch (codes "bne") x y z (omega arith) h.0 h.1 (thirteen z h.2.0)
instruction_long (Blt x y z) h = branch (codes "blt") x y z (omega arith) h.0 h.1 (thirteen z h.2.0)
instruction_long (Bge x y z) h = branch (codes "bge") x y z (omega arith) h.0 h.1 (thirteen z h.2.0)
instruction_long (Bltu x y z) h = branch (codes "bltu") x y z (omega arith) h.0 h.1 (thirteen z h.2.0)
instruction_long (Bgeu x y z) h = branch (codes "bgeu") x y z (omega arith) h.0 h.1 (thirteen z h.2.0)
instruction_long (Lb x y z) h = based (codes "lb") x y z (omega arith) h.0 h.1 (twelve z h.2)
instruction_long (Lh x y z) h = based (codes "lh") x y z (omega arith) h.0 h.1 (twelve z h.2)
instruction_long (Lw x y z) h = based (codes "lw") x y z (omega arith) h.0 h.1 (twelve z h.2)
instruction_long (Lbu x y z) h = based (codes "lbu") x y z (omega arith) h.0 h.1 (twelve z h.2)
instruction_long (Lhu x y z) h = based (codes "lhu") x y z (omega arith) h.0 h.1 (twelve z h.2)
instruction_long (Sb x y z) h = based (codes "sb") y x z (omega arith) h.1 h.0 (twelve z h.2)
instruction_long (Sh x y z) h = based (codes "sh") y x z (omega arith) h.1 h.0 (twelve z h.2)
instruction_long (Sw x y z) h = based (codes "sw") y x z (omega arith) h.1 h.0 (twelve z h.2)
instruction_long (Addi x y z) h = immediate (codes "addi") x y z (omega arith) h.0 h.1 (twelve z h.2)
instruction_long (Slti x y z) h = immediate (codes "slti") x y z (omega arith) h.0 h.1 (twelve z h.2)
instruction_long (Sltiu x y z) h = immediate (codes "sltiu") x y z (omega arith) h.0 h.1 (twelve z h.2)
instruction_long (Xori x y z) h = immediate (codes "xori") x y z (omega arith) h.0 h.1 (twelve z h.2)
instruction_long (Ori x y z) h = immediate (codes "ori") x y z (omega arith) h.0 h.1 (twelve z h.2)
instruction_long (Andi x y z) h = immediate (codes "andi") x y z (omega arith) h.0 h.1 (twelve z h.2)
instruction_long (Slli x y z) h = immediate (codes "slli") x y z (omega arith) h.0 h.1 (shift z h.2.0 h.2.1)
instruction_long (Srli x y z) h = immediate (codes "srli") x y z (omega arith) h.0 h.1 (shift z h.2.0 h.2.1)
instruction_long (Srai x y z) h = immediate (codes "srai") x y z (omega arith) h.0 h.1 (shift z h.2.0 h.2.1)
instruction_long (Add x y z) h = registers (codes "add") x y z (omega arith) h.0 h.1 h.2
instruction_long (Sub x y z) h = registers (codes "sub") x y z (omega arith) h.0 h.1 h.2
instruction_long (Sll x y z) h = registers (codes "sll") x y z (omega arith) h.0 h.1 h.2
instruction_long (Slt x y z) h = registers (codes "slt") x y z (omega arith) h.0 h.1 h.2
instruction_long (Sltu x y z) h = registers (codes "sltu") x y z (omega arith) h.0 h.1 h.2
instruction_long (Xor x y z) h = registers (codes "xor") x y z (omega arith) h.0 h.1 h.2
instruction_long (Srl x y z) h = registers (codes "srl") x y z (omega arith) h.0 h.1 h.2
instruction_long (Sra x y z) h = registers (codes "sra") x y z (omega arith) h.0 h.1 h.2
instruction_long (Or x y z) h = registers (codes "or") x y z (omega arith) h.0 h.1 h.2
instruction_long (And x y z) h = registers (codes "and") x y z (omega arith) h.0 h.1 h.2
instruction_long (Mul x y z) h = registers (codes "mul") x y z (omega arith) h.0 h.1 h.2
instruction_long (Mulh x y z) h = registers (codes "mulh") x y z (omega arith) h.0 h.1 h.2
instruction_long (Mulhsu x y z) h = registers (codes "mulhsu") x y z (omega arith) h.0 h.1 h.2
instruction_long (Mulhu x y z) h = registers (codes "mulhu") x y z (omega arith) h.0 h.1 h.2
instruction_long (Div x y z) h = registers (codes "div") x y z (omega arith) h.0 h.1 h.2
instruction_long (Divu x y z) h = registers (codes "divu") x y z (omega arith) h.0 h.1 h.2
instruction_long (Rem x y z) h = registers (codes "rem") x y z (omega arith) h.0 h.1 h.2
instruction_long (Remu x y z) h = registers (codes "remu") x y z (omega arith) h.0 h.1 h.2
instruction_long Ecall h = (omega arith)

-- ---- rows

ten : (n : ℕ) → n < 2 ^ 32 → length (decimal n) ≤ 10
ten n h = length-decimal-le 10 n (omega arith) (omega arith) (omega arith)

pub numbers_long : (w ns : List ℕ) → AreFew ns → length (row w ns) ≤ length w + 11 * length ns
numbers_long w [] few = let p = length-append w [] in omega arith
numbers_long w (n ∷ ns) few =
    let p = length-append w (32 ∷ row (decimal n) ns) in
    let q = numbers_long (decimal n) ns few.1 in
    let r = ten n few.0 in
    omega arith

pub bytes_long : (w bs : List ℕ) → AllByRecursion (λ b. b < 256) bs → length (row w bs) ≤ length w + 4 * length bs
bytes_long w [] small = let p = length-append w [] in omega arith
bytes_long w (b ∷ bs) small =
    let p = length-append w (32 ∷ row (decimal b) bs) in
    let q = bytes_long (decimal b) bs small.1 in
    let r = length-decimal-le 3 b (omega arith) (omega (arith, small.0)) (omega (arith, small.0)) in
    omega arith

text_long : (w : ℕ) (o : Option Inst) → w < 2 ^ 32 → decode w ≡ o → length (word_or_instruction w o) ≤ 19
text_long w (Some i) h e = let d = encoded_decode w i h e in instruction_long i d.0
text_long w None h e = let r = numbers_long (codes ".word") (w ∷ []) (h, tt) in omega arith

pub word_long : (w : ℕ) → w < 2 ^ 32 → length (word_text w) ≤ 19
unfolding word_text
word_long w h = text_long w (decode w) h refl
