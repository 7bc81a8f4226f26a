-- By its fields the word of an instruction gives the instruction back.
use Rattle.std.proofs.Common.{◌≡◌, ℕ, ◌^◌, ◌<◌, ℤ, pos, Bool, true, ◌&&◌, nat_lt, Some, refl, ap, ◌∙◌, lit<, arith, ◌≤ℤ◌, ◌<ℤ◌}
use Rattle.std.proofs.lemmas.Int.{ints}
use Rattle.dae_encode.specs.Instructions.{field, imm_i, imm_s, imm_b, imm_u, imm_j}
use Rattle.dae_encode.specs.Decoding.{branches, loads, stores, immediates, shifts, registers_only, by_fields, by_opcode}
use Rattle.dae_encode.specs.Spelling.{InstructionLayout, R, I, Shift, S, B, U, J, bits, in_places, Fits, layout, encoded, InRange}
use Rattle.dae_encode.specs.declared.Inst.{Inst}
use Rattle.dae_encode.specs.declared.Inst.TheVariants.{Lui, Auipc, Jal, Jalr, Beq, Bne, Blt, Bge, Bltu, Bgeu, Lb, Lh, Lw, Lbu, Lhu, Sb, Sh, Sw, Addi, Slti, Sltiu, Xori, Ori, Andi, Slli, Srli, Srai, Add, Sub, Sll, Slt, Sltu, Xor, Srl, Sra, Or, And, Mul, Mulh, Mulhsu, Mulhu, Div, Divu, Rem, Remu, Ecall}
use Rattle.dae_encode.proofs.Fields.{fields_r, fields_i, fields_shift, fields_s, fields_b, fields_u, fields_j, imm_i-is, imm_s-is, imm_b-is, imm_u-is, imm_j-is}

found_r : (op rd f3 x y f7 w : ℕ) → op < 128 → f3 < 8 → f7 < 128 → Fits (R op rd f3 x y f7) → w ≡ in_places (R op rd f3 x y f7)
    → by_fields w ≡ by_opcode w op rd f3 x y f7 (imm_i w) (imm_s w) (imm_b w) (imm_u w) (imm_j w)
unfolding by_fields
found_r op rd f3 x y f7 w a c d (p, q, r) e =
    let f = fields_r op rd f3 x y f7 w a p c q r d e in
    rw (f.0, f.1, f.2, f.3, f.4, f.5)

found_i : (op rd f3 x : ℕ) (z : ℤ) (w : ℕ) → op < 128 → f3 < 8 → Fits (I op rd f3 x z) → w ≡ in_places (I op rd f3 x z)
    → by_fields w ≡ by_opcode w op rd f3 x (field 20 5 w) (field 25 7 w) z (imm_s w) (imm_b w) (imm_u w) (imm_j w)
unfolding by_fields
found_i op rd f3 x z w a c (p, q, s) e =
    let f = fields_i op rd f3 x z w a p c q s e in
    rw (f.0, f.1, f.2, f.3, imm_i-is op rd f3 x z w a p c q s e)

found_shift : (op rd f3 x : ℕ) (z : ℤ) (f7 w : ℕ) → op < 128 → f3 < 8 → f7 < 128 → Fits (Shift op rd f3 x z f7) → w ≡ in_places (Shift op rd f3 x z f7)
    → by_fields w ≡ by_opcode w op rd f3 x (bits 0 5 z) f7 (imm_i w) (imm_s w) (imm_b w) (imm_u w) (imm_j w)
unfolding by_fields
found_shift op rd f3 x z f7 w a c d (p, q, s) e =
    let f = fields_shift op rd f3 x z f7 w a p c q d e in
    rw (f.0, f.1, f.2, f.3, f.4, f.5)

found_s : (op f3 x y : ℕ) (z : ℤ) (w : ℕ) → op < 128 → f3 < 8 → Fits (S op f3 x y z) → w ≡ in_places (S op f3 x y z)
    → by_fields w ≡ by_opcode w op (field 7 5 w) f3 x y (field 25 7 w) (imm_i w) z (imm_b w) (imm_u w) (imm_j w)
unfolding by_fields
found_s op f3 x y z w a c (p, q, s) e =
    let f = fields_s op f3 x y z w a c p q e in
    rw (f.0, f.1, f.2, f.3, imm_s-is op f3 x y z w a c p q s e)

found_b : (op f3 x y : ℕ) (z : ℤ) (w : ℕ) → op < 128 → f3 < 8 → Fits (B op f3 x y z) → w ≡ in_places (B op f3 x y z)
    → by_fields w ≡ by_opcode w op (field 7 5 w) f3 x y (field 25 7 w) (imm_i w) (imm_s w) z (imm_u w) (imm_j w)
unfolding by_fields
found_b op f3 x y z w a c (p, q, s) e =
    let f = fields_b op f3 x y z w a c p q e in
    rw (f.0, f.1, f.2, f.3, imm_b-is op f3 x y z w a c p q (s.0) (s.1) e)

found_u : (op rd : ℕ) (z : ℤ) (w : ℕ) → op < 128 → Fits (U op rd z) → w ≡ in_places (U op rd z)
    → by_fields w ≡ by_opcode w op rd (field 12 3 w) (field 15 5 w) (field 20 5 w) (field 25 7 w) (imm_i w) (imm_s w) (imm_b w) z (imm_j w)
unfolding by_fields
found_u op rd z w a (p, s) e =
    let f = fields_u op rd z w a p e in
    rw (f.0, f.1, imm_u-is op rd z w a p (s.0) (s.1) e)

found_j : (op rd : ℕ) (z : ℤ) (w : ℕ) → op < 128 → Fits (J op rd z) → w ≡ in_places (J op rd z)
    → by_fields w ≡ by_opcode w op rd (field 12 3 w) (field 15 5 w) (field 20 5 w) (field 25 7 w) (imm_i w) (imm_s w) (imm_b w) (imm_u w) z
unfolding by_fields
found_j op rd z w a (p, s) e =
    let f = fields_j op rd z w a p e in
    rw (f.0, f.1, imm_j-is op rd z w a p (s.0) (s.1) e)

amount_back : (z : ℤ) → (pos 0 ≤ℤ z) × (z <ℤ pos 32) → pos (bits 0 5 z) ≡ z
amount_back z h = grind (arith, ints)

spelled : (i : Inst) (w : ℕ) → Fits (layout i) → w ≡ in_places (layout i) → by_fields w ≡ Some i
unfolding layout by_fields branches loads stores immediates shifts registers_only imm_i imm_s imm_b imm_u imm_j
spelled (Lui rd imm) w h e = found_u 0b0110111 rd imm w (lit< tt) h e
spelled (Auipc rd imm) w h e = found_u 0b0010111 rd imm w (lit< tt) h e
spelled (Jal rd imm) w h e = found_j 0b1101111 rd imm w (lit< tt) h e
spelled (Jalr rd rs1 imm) w h e = found_i 0b1100111 rd 0b000 rs1 imm w (lit< tt) (lit< tt) h e
spelled (Beq rs1 rs2 imm) w h e = found_b 0b1100011 0b000 rs1 rs2 imm w (lit< tt) (lit< tt) h e
spelled (Bne rs1 rs2 imm) w h e = found_b 0b1100011 0b001 rs1 rs2 imm w (lit< tt) (lit< tt) h e
spelled (Blt rs1 rs2 imm) w h e = found_b 0b1100011 0b100 rs1 rs2 imm w (lit< tt) (lit< tt) h e
spelled (Bge rs1 rs2 imm) w h e = found_b 0b1100011 0b101 rs1 rs2 imm w (lit< tt) (lit< tt) h e
spelled (Bltu rs1 rs2 imm) w h e = found_b 0b1100011 0b110 rs1 rs2 imm w (lit< tt) (lit< tt) h e
spelled (Bgeu rs1 rs2 imm) w h e = found_b 0b1100011 0b111 rs1 rs2 imm w (lit< tt) (lit< tt) h e
spelled (Lb rd rs1 imm) w h e = found_i 0b0000011 rd 0b000 rs1 imm w (lit< tt) (lit< tt) h e
spelled (Lh rd rs1 imm) w h e = found_i 0b0000011 rd 0b001 rs1 imm w (lit< tt) (lit< tt) h e
spelled (Lw rd rs1 imm) w h e = found_i 0b0000011 rd 0b010 rs1 imm w (lit< tt) (lit< tt) h e
spelled (Lbu rd rs1 imm) w h e = found_i 0b0000011 rd 0b100 rs1 imm w (lit< tt) (lit< tt) h e
spelled (Lhu rd rs1 imm) w h e = found_i 0b0000011 rd 0b101 rs1 imm w (lit< tt) (lit< tt) h e
spelled (Sb rs1 rs2 imm) w h e = found_s 0b0100011 0b000 rs1 rs2 imm w (lit< tt) (lit< tt) h e
spelled (Sh rs1 rs2 imm) w h e = found_s 0b0100011 0b001 rs1 rs2 imm w (lit< tt) (lit< tt) h e
spelled (Sw rs1 rs2 imm) w h e = found_s 0b0100011 0b010 rs1 rs2 imm w (lit< tt) (lit< tt) h e
spelled (Addi rd rs1 imm) w h e = found_i 0b0010011 rd 0b000 rs1 imm w (lit< tt) (lit< tt) h e
spelled (Slti rd rs1 imm) w h e = found_i 0b0010011 rd 0b010 rs1 imm w (lit< tt) (lit< tt) h e
spelled (Sltiu rd rs1 imm) w h e = found_i 0b0010011 rd 0b011 rs1 imm w (lit< tt) (lit< tt) h e
spelled (Xori rd rs1 imm) w h e = found_i 0b0010011 rd 0b100 rs1 imm w (lit< tt) (lit< tt) h e
spelled (Ori rd rs1 imm) w h e = found_i 0b0010011 rd 0b110 rs1 imm w (lit< tt) (lit< tt) h e
spelled (Andi rd rs1 imm) w h e = found_i 0b0010011 rd 0b111 rs1 imm w (lit< tt) (lit< tt) h e
spelled (Slli rd rs1 amount) w h e = found_shift 0b0010011 rd 0b001 rs1 amount 0b0000000 w (lit< tt) (lit< tt) (lit< tt) h e ∙ ap (λ z. Some (Slli rd rs1 z)) (amount_back amount (h.2))
spelled (Srli rd rs1 amount) w h e = found_shift 0b0010011 rd 0b101 rs1 amount 0b0000000 w (lit< tt) (lit< tt) (lit< tt) h e ∙ ap (λ z. Some (Srli rd rs1 z)) (amount_back amount (h.2))
spelled (Srai rd rs1 amount) w h e = found_shift 0b0010011 rd 0b101 rs1 amount 0b0100000 w (lit< tt) (lit< tt) (lit< tt) h e ∙ ap (λ z. Some (Srai rd rs1 z)) (amount_back amount (h.2))
spelled (Add rd rs1 rs2) w h e = found_r 0b0110011 rd 0b000 rs1 rs2 0b0000000 w (lit< tt) (lit< tt) (lit< tt) h e
spelled (Sub rd rs1 rs2) w h e = found_r 0b0110011 rd 0b000 rs1 rs2 0b0100000 w (lit< tt) (lit< tt) (lit< tt) h e
spelled (Sll rd rs1 rs2) w h e = found_r 0b0110011 rd 0b001 rs1 rs2 0b0000000 w (lit< tt) (lit< tt) (lit< tt) h e
spelled (Slt rd rs1 rs2) w h e = found_r 0b0110011 rd 0b010 rs1 rs2 0b0000000 w (lit< tt) (lit< tt) (lit< tt) h e
spelled (Sltu rd rs1 rs2) w h e = found_r 0b0110011 rd 0b011 rs1 rs2 0b0000000 w (lit< tt) (lit< tt) (lit< tt) h e
spelled (Xor rd rs1 rs2) w h e = found_r 0b0110011 rd 0b100 rs1 rs2 0b0000000 w (lit< tt) (lit< tt) (lit< tt) h e
spelled (Srl rd rs1 rs2) w h e = found_r 0b0110011 rd 0b101 rs1 rs2 0b0000000 w (lit< tt) (lit< tt) (lit< tt) h e
spelled (Sra rd rs1 rs2) w h e = found_r 0b0110011 rd 0b101 rs1 rs2 0b0100000 w (lit< tt) (lit< tt) (lit< tt) h e
spelled (Or rd rs1 rs2) w h e = found_r 0b0110011 rd 0b110 rs1 rs2 0b0000000 w (lit< tt) (lit< tt) (lit< tt) h e
spelled (And rd rs1 rs2) w h e = found_r 0b0110011 rd 0b111 rs1 rs2 0b0000000 w (lit< tt) (lit< tt) (lit< tt) h e
spelled (Mul rd rs1 rs2) w h e = found_r 0b0110011 rd 0b000 rs1 rs2 0b0000001 w (lit< tt) (lit< tt) (lit< tt) h e
spelled (Mulh rd rs1 rs2) w h e = found_r 0b0110011 rd 0b001 rs1 rs2 0b0000001 w (lit< tt) (lit< tt) (lit< tt) h e
spelled (Mulhsu rd rs1 rs2) w h e = found_r 0b0110011 rd 0b010 rs1 rs2 0b0000001 w (lit< tt) (lit< tt) (lit< tt) h e
spelled (Mulhu rd rs1 rs2) w h e = found_r 0b0110011 rd 0b011 rs1 rs2 0b0000001 w (lit< tt) (lit< tt) (lit< tt) h e
spelled (Div rd rs1 rs2) w h e = found_r 0b0110011 rd 0b100 rs1 rs2 0b0000001 w (lit< tt) (lit< tt) (lit< tt) h e
spelled (Divu rd rs1 rs2) w h e = found_r 0b0110011 rd 0b101 rs1 rs2 0b0000001 w (lit< tt) (lit< tt) (lit< tt) h e
spelled (Rem rd rs1 rs2) w h e = found_r 0b0110011 rd 0b110 rs1 rs2 0b0000001 w (lit< tt) (lit< tt) (lit< tt) h e
spelled (Remu rd rs1 rs2) w h e = found_r 0b0110011 rd 0b111 rs1 rs2 0b0000001 w (lit< tt) (lit< tt) (lit< tt) h e
spelled Ecall w h e = rw e refl

-- the word of an instruction whose fields are in range gives that instruction
pub fields_encoded : (i : Inst) → InRange i → by_fields (encoded i) ≡ Some i
unfolding InRange encoded
fields_encoded i h = spelled i (in_places (layout i)) h refl

-- the fields that an instruction's name gives are as wide as their places
abbrev is_narrow : InstructionLayout → Bool
is_narrow (R op rd f3 x y f7) = nat_lt op 128 && (nat_lt f3 8 && nat_lt f7 128)
is_narrow (I op rd f3 x z) = nat_lt op 128 && nat_lt f3 8
is_narrow (Shift op rd f3 x z f7) = nat_lt op 128 && (nat_lt f3 8 && nat_lt f7 128)
is_narrow (S op f3 x y z) = nat_lt op 128 && nat_lt f3 8
is_narrow (B op f3 x y z) = nat_lt op 128 && nat_lt f3 8
is_narrow (U op rd z) = nat_lt op 128
is_narrow (J op rd z) = nat_lt op 128

narrow : (i : Inst) → is_narrow (layout i) ≡ true
unfolding layout
narrow Ecall = refl
narrow i = refl

below : (l : InstructionLayout) → Fits l → is_narrow l ≡ true → in_places l < 2 ^ 32
below (R op rd f3 x y f7) f n = grind arith
below (I op rd f3 x z) f n = grind arith
below (Shift op rd f3 x z f7) f n = grind arith
below (S op f3 x y z) f n = grind arith
below (B op f3 x y z) f n = grind arith
below (U op rd z) f n = grind arith
below (J op rd z) f n = grind arith

-- it is a word of 32 bits
pub encoded_below : (i : Inst) → InRange i → encoded i < 2 ^ 32
unfolding InRange encoded
encoded_below i h = below (layout i) h (narrow i)
