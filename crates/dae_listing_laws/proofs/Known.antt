-- The names of the instructions, as the lines that listings have of them.
use Rattle.std.proofs.Common.{◌≡◌, true, refl, lit<}
use Rattle.std.specs.Prelude.{Option, Some, None}
use Rattle.std.specs.List.{list_all}
use Rattle.dae_encode.specs.declared.Inst.{Inst}
use Rattle.dae_encode.specs.declared.Inst.TheVariants.{Lui, Auipc, Jal, Jalr, Beq, Bne, Blt, Bge, Bltu, Bgeu, Lb, Lh, Lw, Lbu, Lhu, Sb, Sh, Sw, Addi, Slti, Sltiu, Xori, Ori, Andi, Slli, Srli, Srai, Add, Sub, Sll, Slt, Sltu, Xor, Srl, Sra, Or, And, Mul, Mulh, Mulhsu, Mulhu, Div, Divu, Rem, Remu, Ecall}
use Rattle.dae_asm_lines.specs.Names.{name_of, operands_of, named, AreAlike}
use Rattle.dae_asm_lines.specs.Tokens.{Word, is_blank, is_sign, token_of}
use Rattle.dae_listing_laws.proofs.Digits.{is_plain}
use Rattle.dae_listing_laws.proofs.Words.{IsWord}

abbrev or_it : Option Inst → Inst → Inst
or_it (Some like) i = like
or_it None i = i

-- the instruction of the table with the name of this one
unfoldable pub like_of : Inst → Inst
like_of i = or_it (named (name_of i)) i

pub record IsKnown (i : Inst) : Type 0 where
  pub known : named (name_of (like_of i)) ≡ Some (like_of i)
  pub name : name_of i ≡ name_of (like_of i)
  pub alike : AreAlike (operands_of (like_of i)) (operands_of i)
  pub word : IsWord (name_of (like_of i))
  pub token : token_of (name_of (like_of i)) ≡ Word (name_of (like_of i))
  pub plain : list_all is_plain (name_of (like_of i)) ≡ true

pub is_known : (i : Inst) → IsKnown i
unfolding like_of named name_of operands_of is_blank is_sign
is_known (Lui x y) = record { known = refl; name = refl; alike = tt; word = record { some = lit< tt; inner = refl }; token = refl; plain = refl }
is_known (Auipc x y) = record { known = refl; name = refl; alike = tt; word = record { some = lit< tt; inner = refl }; token = refl; plain = refl }
is_known (Jal x y) = record { known = refl; name = refl; alike = tt; word = record { some = lit< tt; inner = refl }; token = refl; plain = refl }
is_known (Jalr x y z) = record { known = refl; name = refl; alike = tt; word = record { some = lit< tt; inner = refl }; token = refl; plain = refl }
is_known (Beq x y z) = record { known = refl; name = refl; alike = tt; word = record { some = lit< tt; inner = refl }; token = refl; plain = refl }
is_known (Bne x y z) = record { known = refl; name = refl; alike = tt; word = record { some = lit< tt; inner = refl }; token = refl; plain = refl }
is_known (Blt x y z) = record { known = refl; name = refl; alike = tt; word = record { some = lit< tt; inner = refl }; token = refl; plain = refl }
is_known (Bge x y z) = record { known = refl; name = refl; alike = tt; word = record { some = lit< tt; inner = refl }; token = refl; plain = refl }
is_known (Bltu x y z) = record { known = refl; name = refl; alike = tt; word = record { some = lit< tt; inner = refl }; token = refl; plain = refl }
is_known (Bgeu x y z) = record { known = refl; name = refl; alike = tt; word = record { some = lit< tt; inner = refl }; token = refl; plain = refl }
is_known (Lb x y z) = record { known = refl; name = refl; alike = tt; word = record { some = lit< tt; inner = refl }; token = refl; plain = refl }
is_known (Lh x y z) = record { known = refl; name = refl; alike = tt; word = record { some = lit< tt; inner = refl }; token = refl; plain = refl }
is_known (Lw x y z) = record { known = refl; name = refl; alike = tt; word = record { some = lit< tt; inner = refl }; token = refl; plain = refl }
is_known (Lbu x y z) = record { known = refl; name = refl; alike = tt; word = record { some = lit< tt; inner = refl }; token = refl; plain = refl }
is_known (Lhu x y z) = record { known = refl; name = refl; alike = tt; word = record { some = lit< tt; inner = refl }; token = refl; plain = refl }
is_known (Sb x y z) = record { known = refl; name = refl; alike = tt; word = record { some = lit< tt; inner = refl }; token = refl; plain = refl }
is_known (Sh x y z) = record { known = refl; name = refl; alike = tt; word = record { some = lit< tt; inner = refl }; token = refl; plain = refl }
is_known (Sw x y z) = record { known = refl; name = refl; alike = tt; word = record { some = lit< tt; inner = refl }; token = refl; plain = refl }
is_known (Addi x y z) = record { known = refl; name = refl; alike = tt; word = record { some = lit< tt; inner = refl }; token = refl; plain = refl }
is_known (Slti x y z) = record { known = refl; name = refl; alike = tt; word = record { some = lit< tt; inner = refl }; token = refl; plain = refl }
is_known (Sltiu x y z) = record { known = refl; name = refl; alike = tt; word = record { some = lit< tt; inner = refl }; token = refl; plain = refl }
is_known (Xori x y z) = record { known = refl; name = refl; alike = tt; word = record { some = lit< tt; inner = refl }; token = refl; plain = refl }
is_known (Ori x y z) = record { known = refl; name = refl; alike = tt; word = record { some = lit< tt; inner = refl }; token = refl; plain = refl }
is_known (Andi x y z) = record { known = refl; name = refl; alike = tt; word = record { some = lit< tt; inner = refl }; token = refl; plain = refl }
is_known (Slli x y z) = record { known = refl; name = refl; alike = tt; word = record { some = lit< tt; inner = refl }; token = refl; plain = refl }
is_known (Srli x y z) = record { known = refl; name = refl; alike = tt; word = record { some = lit< tt; inner = refl }; token = refl; plain = refl }
is_known (Srai x y z) = record { known = refl; name = refl; alike = tt; word = record { some = lit< tt; inner = refl }; token = refl; plain = refl }
is_known (Add x y z) = record { known = refl; name = refl; alike = tt; word = record { some = lit< tt; inner = refl }; token = refl; plain = refl }
is_known (Sub x y z) = record { known = refl; name = refl; alike = tt; word = record { some = lit< tt; inner = refl }; token = refl; plain = refl }
is_known (Sll x y z) = record { known = refl; name = refl; alike = tt; word = record { some = lit< tt; inner = refl }; token = refl; plain = refl }
is_known (Slt x y z) = record { known = refl; name = refl; alike = tt; word = record { some = lit< tt; inner = refl }; token = refl; plain = refl }
is_known (Sltu x y z) = record { known = refl; name = refl; alike = tt; word = record { some = lit< tt; inner = refl }; token = refl; plain = refl }
is_known (Xor x y z) = record { known = refl; name = refl; alike = tt; word = record { some = lit< tt; inner = refl }; token = refl; plain = refl }
is_known (Srl x y z) = record { known = refl; name = refl; alike = tt; word = record { some = lit< tt; inner = refl }; token = refl; plain = refl }
is_known (Sra x y z) = record { known = refl; name = refl; alike = tt; word = record { some = lit< tt; inner = refl }; token = refl; plain = refl }
is_known (Or x y z) = record { known = refl; name = refl; alike = tt; word = record { some = lit< tt; inner = refl }; token = refl; plain = refl }
is_known (And x y z) = record { known = refl; name = refl; alike = tt; word = record { some = lit< tt; inner = refl }; token = refl; plain = refl }
is_known (Mul x y z) = record { known = refl; name = refl; alike = tt; word = record { some = lit< tt; inner = refl }; token = refl; plain = refl }
is_known (Mulh x y z) = record { known = refl; name = refl; alike = tt; word = record { some = lit< tt; inner = refl }; token = refl; plain = refl }
is_known (Mulhsu x y z) = record { known = refl; name = refl; alike = tt; word = record { some = lit< tt; inner = refl }; token = refl; plain = refl }
is_known (Mulhu x y z) = record { known = refl; name = refl; alike = tt; word = record { some = lit< tt; inner = refl }; token = refl; plain = refl }
is_known (Div x y z) = record { known = refl; name = refl; alike = tt; word = record { some = lit< tt; inner = refl }; token = refl; plain = refl }
is_known (Divu x y z) = record { known = refl; name = refl; alike = tt; word = record { some = lit< tt; inner = refl }; token = refl; plain = refl }
is_known (Rem x y z) = record { known = refl; name = refl; alike = tt; word = record { some = lit< tt; inner = refl }; token = refl; plain = refl }
is_known (Remu x y z) = record { known = refl; name = refl; alike = tt; word = record { some = lit< tt; inner = refl }; token = refl; plain = refl }
is_known Ecall = record { known = refl; name = refl; alike = tt; word = record { some = lit< tt; inner = refl }; token = refl; plain = refl }
