-- What tokens say is what reading finds.
use Rattle.std.proofs.Common.{◌≡◌, ℕ, ◌≤◌, nat_le, ℤ, true, List, [], ◌∷◌, map, length, codes, Option, Some, None, refl, ◌∙◌, arith}
use Rattle.std.proofs.lemmas.Bool.Decides.{nat_tests}
use Rattle.dae_base.specs.declared.Side.{Side}
use Rattle.dae_base.specs.declared.Side.TheVariants.{A, E}
use Rattle.dae_encode.specs.declared.Inst.{Inst}
use Rattle.dae_encode.specs.declared.Inst.TheVariants.{Lui, Auipc, Jal, Jalr, Beq, Bne, Blt, Bge, Bltu, Bgeu, Lb, Lh, Lw, Lbu, Lhu, Sb, Sh, Sw, Addi, Slti, Sltiu, Xori, Ori, Andi, Slli, Srli, Srai, Add, Sub, Sll, Slt, Sltu, Xor, Srl, Sra, Or, And, Mul, Mulh, Mulhsu, Mulhu, Div, Divu, Rem, Remu, Ecall}
use Rattle.dae_asm_lines.specs.declared.Operands.{Operands}
use Rattle.dae_asm_lines.specs.declared.Operands.TheVariants.{Registers, Immediate, Based, Branch, Upper, Jump, Alone}
use Rattle.dae_asm_lines.specs.Targets.{JumpTarget, Given, Named}
use Rattle.dae_asm_lines.specs.Names.{name_of, operands_of, named, AreAlike}
use Rattle.dae_asm_lines.specs.Tokens.{LineToken, Word, Number}
use Rattle.dae_asm_lines.specs.Items as items
use Rattle.dae_asm_lines.specs.Items.{Says, SayOperands, IsRegister}
use Rattle.dae_asm_lines.specs.Reading.{register, first, end, all_numbers, two_registers_at, registers_at, immediate_at, based_at, branch_at, upper_at, jump_at, alone_at, operands_at, seven_at, one_at, private_at, entry_at, nothing_at, mark_at, if_few, bytes_at, name_at, instruction_at, behind_name, colon_at, item_of}
use Rattle.dae_asm_lines.proofs.Steps.{is_register, is_target}

-- ---- operands

operands_read : (form : Operands ℤ) (ts : List LineToken) (o : Operands JumpTarget) → AreAlike form o → SayOperands ts o → operands_at form ts ≡ Some o
unfolding operands_at registers_at immediate_at based_at branch_at upper_at jump_at alone_at two_registers_at first end
operands_read (Registers _ _ _) ts (Registers a b c) alike h =
    let e = h.whole in let x = is_register h.x a h.one in let y = is_register h.y b h.two in let z = is_register h.z c h.three in rw (e, x, y, z) refl
operands_read (Immediate _ _ _) ts (Immediate a b n) alike h =
    let e = h.whole in let x = is_register h.x a h.one in let y = is_register h.y b h.two in rw (e, x, y) refl
operands_read (Based _ _ _) ts (Based a n b) alike h =
    let e = h.whole in let x = is_register h.x a h.one in let y = is_register h.y b h.two in rw (e, x, y) refl
operands_read (Branch _ _ _) ts (Branch a b t) alike h =
    let e = h.whole in let x = is_register h.x a h.one in let y = is_register h.y b h.two in let z = is_target h.z t h.goes in rw (e, x, y, z) refl
operands_read (Upper _ _) ts (Upper a n) alike h = let e = h.whole in let x = is_register h.x a h.one in rw (e, x) refl
operands_read (Jump _ _) ts (Jump a t) alike h =
    let e = h.whole in let x = is_register h.x a h.one in let z = is_target h.z t h.goes in rw (e, x, z) refl
operands_read Alone ts Alone alike e = rw e refl
operands_read _ ts _ alike say = absurd alike

-- a register is no colon
no_colon : (x : LineToken) (r : ℤ) (ts : List LineToken) → IsRegister x r → colon_at (x ∷ ts) ≡ None
unfolding colon_at first
no_colon x r ts h = let e = h.whole in rw e refl

nothing : colon_at [] ≡ None
unfolding colon_at first
nothing = refl

operands_no_colon : (ts : List LineToken) (o : Operands JumpTarget) → SayOperands ts o → colon_at ts ≡ None
operands_no_colon ts (Registers a b c) h = let e = h.whole in rw e (no_colon h.x a _ h.one)
operands_no_colon ts (Immediate a b n) h = let e = h.whole in rw e (no_colon h.x a _ h.one)
operands_no_colon ts (Based a n b) h = let e = h.whole in rw e (no_colon h.x a _ h.one)
operands_no_colon ts (Branch a b t) h = let e = h.whole in rw e (no_colon h.x a _ h.one)
operands_no_colon ts (Upper a n) h = let e = h.whole in rw e (no_colon h.x a _ h.one)
operands_no_colon ts (Jump a t) h = let e = h.whole in rw e (no_colon h.x a _ h.one)
operands_no_colon ts Alone e = rw e nothing

-- the name of an instruction is no other word
only_instruction : (i : Inst) (ts : List LineToken) → behind_name (name_of i) ts ≡ instruction_at (name_of i) ts
unfolding behind_name name_of
only_instruction (Lui a b) ts = refl
only_instruction (Auipc a b) ts = refl
only_instruction (Jal a b) ts = refl
only_instruction (Jalr a b c) ts = refl
only_instruction (Beq a b c) ts = refl
only_instruction (Bne a b c) ts = refl
only_instruction (Blt a b c) ts = refl
only_instruction (Bge a b c) ts = refl
only_instruction (Bltu a b c) ts = refl
only_instruction (Bgeu a b c) ts = refl
only_instruction (Lb a b c) ts = refl
only_instruction (Lh a b c) ts = refl
only_instruction (Lw a b c) ts = refl
only_instruction (Lbu a b c) ts = refl
only_instruction (Lhu a b c) ts = refl
only_instruction (Sb a b c) ts = refl
only_instruction (Sh a b c) ts = refl
only_instruction (Sw a b c) ts = refl
only_instruction (Addi a b c) ts = refl
only_instruction (Slti a b c) ts = refl
only_instruction (Sltiu a b c) ts = refl
only_instruction (Xori a b c) ts = refl
only_instruction (Ori a b c) ts = refl
only_instruction (Andi a b c) ts = refl
only_instruction (Slli a b c) ts = refl
only_instruction (Srli a b c) ts = refl
only_instruction (Srai a b c) ts = refl
only_instruction (Add a b c) ts = refl
only_instruction (Sub a b c) ts = refl
only_instruction (Sll a b c) ts = refl
only_instruction (Slt a b c) ts = refl
only_instruction (Sltu a b c) ts = refl
only_instruction (Xor a b c) ts = refl
only_instruction (Srl a b c) ts = refl
only_instruction (Sra a b c) ts = refl
only_instruction (Or a b c) ts = refl
only_instruction (And a b c) ts = refl
only_instruction (Mul a b c) ts = refl
only_instruction (Mulh a b c) ts = refl
only_instruction (Mulhsu a b c) ts = refl
only_instruction (Mulhu a b c) ts = refl
only_instruction (Div a b c) ts = refl
only_instruction (Divu a b c) ts = refl
only_instruction (Rem a b c) ts = refl
only_instruction (Remu a b c) ts = refl
only_instruction Ecall ts = refl

instruction_read : (i : Inst) (ts : List LineToken) (o : Operands JumpTarget) → named (name_of i) ≡ Some i → AreAlike (operands_of i) o → SayOperands ts o → instruction_at (name_of i) ts ≡ Some (items.Instruction i o)
unfolding instruction_at
instruction_read i ts o known alike say = let read = operands_read (operands_of i) ts o alike say in rw (known, read) refl

-- ---- numbers

seven_read : (ns : List ℤ) → length ns ≡ 7 → seven_at (map Number ns) ≡ Some (items.Budget ns)
unfolding seven_at first end
seven_read [] h = absurd (omega arith)
seven_read (a ∷ []) h = absurd (omega arith)
seven_read (a ∷ b ∷ []) h = absurd (omega arith)
seven_read (a ∷ b ∷ c ∷ []) h = absurd (omega arith)
seven_read (a ∷ b ∷ c ∷ d ∷ []) h = absurd (omega arith)
seven_read (a ∷ b ∷ c ∷ d ∷ e ∷ []) h = absurd (omega arith)
seven_read (a ∷ b ∷ c ∷ d ∷ e ∷ f ∷ []) h = absurd (omega arith)
seven_read (a ∷ b ∷ c ∷ d ∷ e ∷ f ∷ g ∷ []) h = refl
seven_read (a ∷ b ∷ c ∷ d ∷ e ∷ f ∷ g ∷ x ∷ ns) h = absurd (omega arith)

numbers_read : (ns : List ℤ) → all_numbers (map Number ns) ≡ Some ns
numbers_read [] = refl
numbers_read (n ∷ ns) = let rest = numbers_read ns in rw rest refl

few_read : (ns : List ℤ) → 1 ≤ length ns → length ns ≤ 16 → if_few ns ≡ Some (items.Bytes ns)
few_read ns low high =
    let one : nat_le 1 (length ns) ≡ true = grind (arith, nat_tests) in
    let two : nat_le (length ns) 16 ≡ true = grind (arith, nat_tests) in
    rw (one, two) refl

bytes_read : (ns : List ℤ) → 1 ≤ length ns → length ns ≤ 16 → bytes_at (map Number ns) ≡ Some (items.Bytes ns)
unfolding bytes_at
bytes_read ns low high = let all = numbers_read ns in let few = few_read ns low high in rw (all, few) refl

name_read : (ns : List ℤ) → name_at (map Number ns) ≡ Some (items.Name ns)
unfolding name_at
name_read ns = let all = numbers_read ns in rw all refl

numbers_no_colon : (ns : List ℤ) → colon_at (map Number ns) ≡ None
unfolding colon_at first
numbers_no_colon [] = refl
numbers_no_colon (n ∷ ns) = refl

-- ---- a line

behind : (w : List ℕ) (ts : List LineToken) (o : Option items.LineItem) → colon_at ts ≡ None → behind_name w ts ≡ o → item_of (Word w ∷ ts) ≡ o
unfolding item_of first
behind w ts o none e = rw none e

by_seven : (ts : List LineToken) → behind_name (codes ".budget") ts ≡ seven_at ts
unfolding behind_name
by_seven ts = refl

by_bytes : (ts : List LineToken) → behind_name (codes ".byte") ts ≡ bytes_at ts
unfolding behind_name
by_bytes ts = refl

by_name : (ts : List LineToken) → behind_name (codes ".name") ts ≡ name_at ts
unfolding behind_name
by_name ts = refl

code_read : (side : Side) → item_of (Word (items.beginning side) ∷ []) ≡ Some (items.Code side)
unfolding item_of colon_at behind_name nothing_at first end
code_read A = refl
code_read E = refl

mark_read : (side : Side) (w f l : ℤ) → item_of (Word (codes ".line") ∷ Word (items.letter side) ∷ Number w ∷ Number f ∷ Number l ∷ []) ≡ Some (items.Mark side w f l)
unfolding item_of colon_at behind_name mark_at first end
mark_read A w f l = refl
mark_read E w f l = refl

target_no_colon : (x : LineToken) (t : JumpTarget) (ts : List LineToken) → items.IsTarget x t → colon_at (x ∷ ts) ≡ None
unfolding colon_at first
target_no_colon x (Given z) ts e = rw e refl
target_no_colon x (Named w) ts (e, l) = rw e refl

entry_read : (x y : LineToken) (a e : JumpTarget) → items.IsTarget x a → items.IsTarget y e → behind_name (codes ".entry") (x ∷ y ∷ []) ≡ Some (items.Entry a e)
unfolding behind_name entry_at first end
entry_read x y a e hx hy = let one = is_target x a hx in let two = is_target y e hy in rw (one, two) refl

pub read : (ts : List LineToken) (i : items.LineItem) → Says ts i → item_of ts ≡ Some i
unfolding item_of colon_at behind_name one_at private_at nothing_at first end
read ts (items.Budget ns) (e, seven) = rw e (behind (codes ".budget") (map Number ns) _ (numbers_no_colon ns) (by_seven (map Number ns) ∙ seven_read ns seven))
read ts (items.Memory n) e = rw e refl
read ts (items.Calls n) e = rw e refl
read ts (items.Private a b) e = rw e refl
read ts (items.Entry a b) h = let e = h.whole in rw e (behind (codes ".entry") (h.x ∷ h.y ∷ []) _ (target_no_colon h.x a (h.y ∷ []) h.one) (entry_read h.x h.y a b h.one h.two))
read ts (items.Code side) e = rw e (code_read side)
read ts items.Data e = rw e refl
read ts (items.Label name) (e, l) = rw (e, l) refl
read ts (items.Instruction i o) h = let e = h.whole in rw e (behind (name_of i) h.rest _ (operands_no_colon h.rest o h.say) (only_instruction i h.rest ∙ instruction_read i h.rest o h.known h.alike h.say))
read ts (items.Plain n) e = rw e refl
read ts (items.Bytes ns) (e, low, high) = rw e (behind (codes ".byte") (map Number ns) _ (numbers_no_colon ns) (by_bytes (map Number ns) ∙ bytes_read ns low high))
read ts (items.Mark side w f l) e = rw e (mark_read side w f l)
read ts (items.Name ns) e = rw e (behind (codes ".name") (map Number ns) _ (numbers_no_colon ns) (by_name (map Number ns) ∙ name_read ns))
