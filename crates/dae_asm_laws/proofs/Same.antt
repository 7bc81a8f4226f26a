-- A text says one image.
use Rattle.std.proofs.Common.{◌≡◌, ℕ, ℤ, pos, List, [], ◌∷◌, map, refl, sym, ap, ◌∙◌, subst}
use Rattle.dae_base.specs.declared.Depths.{Depths}
use Rattle.dae_base.specs.declared.Side.{Side}
use Rattle.dae_encode.specs.declared.Inst.{Inst}
use Rattle.dae_encode.specs.Spelling.{encoded}
use Rattle.dae_image.specs.declared.Image.{Image}
use Rattle.dae_image.specs.declared.LineMark.{LineMark}
use Rattle.dae_image.specs.Contents.{ImageContents}
use Rattle.dae_image.specs.Images.{contents}
use Rattle.dae_image.proofs.Laws.{same_image}
use Rattle.dae_asm_lines.specs.declared.Operands.{Operands}
use Rattle.dae_asm_lines.specs.declared.Operands.TheVariants.{Registers, Immediate, Based, Branch, Upper, Jump, Alone}
use Rattle.dae_asm_lines.specs.Targets.{JumpTarget, Given, Named}
use Rattle.dae_asm_lines.proofs.Laws.{one_instruction}
use Rattle.dae_asm_order.specs.Sheets.{Sheet}
use Rattle.dae_asm_labels.specs.Labels.{Look}
use Rattle.dae_asm_values.specs.Values.{depths, IsAddress, IsOffset, AreOperands, IsInstruction}
use Rattle.dae_asm_values.specs.Claims.{Claim, Spells, Does, Meets, AreMet}
use Rattle.dae_asm.specs.Assembly.{Says, Asm}
use Rattle.dae_asm_laws.proofs.Ordered.{one_sheet}

-- ---- numbers

same_number : (z : ℤ) (n m : ℕ) → z ≡ pos n → z ≡ pos m → n ≡ m
same_number z n m e f = cc

same_numbers : (ns ms : List ℕ) → map (λ n. pos n) ns ≡ map (λ n. pos n) ms → ns ≡ ms
same_numbers [] [] e = refl
same_numbers [] (m ∷ ms) e = absurd cc
same_numbers (n ∷ ns) [] e = absurd cc
same_numbers (n ∷ ns) (m ∷ ms) e =
    let rest : map (λ k. pos k) ns ≡ map (λ k. pos k) ms = cc in
    let more = same_numbers ns ms rest in
    cc

same_names : (ns ms : List (List ℕ)) → map (λ name. map (λ b. pos b) name) ns ≡ map (λ name. map (λ b. pos b) name) ms → ns ≡ ms
same_names [] [] e = refl
same_names [] (m ∷ ms) e = absurd cc
same_names (n ∷ ns) [] e = absurd cc
same_names (n ∷ ns) (m ∷ ms) e =
    let first : map (λ b. pos b) n ≡ map (λ b. pos b) m = cc in
    let rest : map (λ name. map (λ b. pos b) name) ns ≡ map (λ name. map (λ b. pos b) name) ms = cc in
    let one = same_numbers n m first in
    let more = same_names ns ms rest in
    cc

same_mark : (m k : LineMark) → m.side ≡ k.side → m.word ≡ k.word → m.file ≡ k.file → m.line ≡ k.line → m ≡ k
same_mark m k a b c d =
    let e : record { side = m.side; word = m.word; file = m.file; line = m.line } ≡ record { side = k.side; word = k.word; file = k.file; line = k.line } = cc in
    e

abbrev pub mark_place : LineMark → Side × ℤ × ℤ × ℤ
mark_place m = (m.side, pos m.word, pos m.file, pos m.line)

one_place : (m k : LineMark) → mark_place m ≡ mark_place k → m ≡ k
one_place m k e =
    let s : m.side ≡ k.side = ap (λ (p : Side × ℤ × ℤ × ℤ). p.0) e in
    let w : pos m.word ≡ pos k.word = ap (λ (p : Side × ℤ × ℤ × ℤ). p.1) e in
    let f : pos m.file ≡ pos k.file = ap (λ (p : Side × ℤ × ℤ × ℤ). p.2) e in
    let l : pos m.line ≡ pos k.line = ap (λ (p : Side × ℤ × ℤ × ℤ). p.3) e in
    let word : m.word ≡ k.word = cc in
    let file : m.file ≡ k.file = cc in
    let line : m.line ≡ k.line = cc in
    same_mark m k s word file line

same_marks : (ms ks : List LineMark) → map (λ m. mark_place m) ms ≡ map (λ m. mark_place m) ks → ms ≡ ks
same_marks [] [] e = refl
same_marks [] (k ∷ ks) e = absurd cc
same_marks (m ∷ ms) [] e = absurd cc
same_marks (m ∷ ms) (k ∷ ks) e =
    let first : mark_place m ≡ mark_place k = cc in
    let rest : map (λ x. mark_place x) ms ≡ map (λ x. mark_place x) ks = cc in
    let one = one_place m k first in
    let more = same_marks ms ks rest in
    cc

same_depths : (c d : Depths) → map (λ n. pos n) (depths c) ≡ map (λ n. pos n) (depths d) → c ≡ d
same_depths c d e =
    let all : depths c ≡ depths d = same_numbers (depths c) (depths d) e in
    let f : record { ld = c.ld; al = c.al; sa = c.sa; sd = c.sd; ab = c.ab; eb = c.eb; cq = c.cq } ≡ record { ld = d.ld; al = d.al; sa = d.sa; sd = d.sd; ab = d.ab; eb = d.eb; cq = d.cq } = cc in
    f

-- ---- code

one_address : (labels : Look) (t : JumpTarget) (n m : ℕ) → IsAddress labels t n → IsAddress labels t m → n ≡ m
one_address labels (Given z) n m e f = cc
one_address labels (Named name) n m e f = cc

one_offset : (labels : Look) (here : ℕ) (t : JumpTarget) (y z : ℤ) → IsOffset labels here t y → IsOffset labels here t z → y ≡ z
one_offset labels here (Given x) y z e f = sym e ∙ f
one_offset labels here (Named name) y z e f =
    let a = e.1.0 in let b = f.1.0 in let c = e.1.1 in let d = f.1.1 in
    let same : e.0 ≡ f.0 = cc in
    cc

one_resolved : (labels : Look) (here : ℕ) (os : Operands JumpTarget) (p q : Operands ℤ) → AreOperands labels here os p → AreOperands labels here os q → p ≡ q
one_resolved labels here (Registers a b c) p q e f = e ∙ sym f
one_resolved labels here (Immediate a b c) p q e f = e ∙ sym f
one_resolved labels here (Based a b c) p q e f = e ∙ sym f
one_resolved labels here (Branch a b t) p q e f = let same = one_offset labels here t e.0 f.0 e.1.1 f.1.1 in e.1.0 ∙ ap (λ (z : ℤ). Branch a b z) same ∙ sym f.1.0
one_resolved labels here (Upper a b) p q e f = e ∙ sym f
one_resolved labels here (Jump a t) p q e f = let same = one_offset labels here t e.0 f.0 e.1.1 f.1.1 in e.1.0 ∙ ap (λ (z : ℤ). Jump a z) same ∙ sym f.1.0
one_resolved labels here Alone p q e f = e ∙ sym f

one_said : (labels : Look) (here : ℕ) (like : Inst) (os : Operands JumpTarget) (i j : Inst) → IsInstruction labels here like os i → IsInstruction labels here like os j → i ≡ j
one_said labels here like os i j h k =
    let same : k.its ≡ h.its = one_resolved labels here os k.its h.its k.are h.are in
    one_instruction like i j h.its h.filled (rw (sym same) k.filled)

one_word : (c : Claim) (w v : ℕ) → Meets c w → Meets c v → w ≡ v
one_word (Spells z) w v h k = same_number z w v h.0 k.0
one_word (Does labels here like os) w v h k = h.1.0 ∙ ap encoded (one_said labels here like os h.0 k.0 h.1.1 k.1.1) ∙ sym k.1.0

one_code : (cs : List (ℕ × Claim)) (ws vs : List ℕ) → AreMet cs ws → AreMet cs vs → ws ≡ vs
one_code [] ws vs e f = e ∙ sym f
one_code (c ∷ cs) ws vs h k =
    let first = one_word c.1 h.0 k.0 h.1.1.1 k.1.1.1 in
    let more = one_code cs h.1.0 k.1.0 h.1.1.2 k.1.1.2 in
    let a = h.1.1.0 in let b = k.1.1.0 in
    cc

-- ---- images

same_contents : (s : Sheet) (c d : ImageContents) → Says s c → Says s d → c ≡ d
same_contents s c d h k =
    let budget = same_depths c.budget d.budget (sym h.budget ∙ k.budget) in
    let memory = same_number s.memory.1 c.memory d.memory h.memory k.memory in
    let calls = same_number s.calls.1 c.calls d.calls h.calls k.calls in
    let private_a = same_number s.private.1 c.private_a d.private_a h.private_a k.private_a in
    let private_e = same_number s.private.2 c.private_e d.private_e h.private_e k.private_e in
    let entry_a = one_address _ s.entry.1 c.entry_a d.entry_a h.entry_a k.entry_a in
    let entry_e = one_address _ s.entry.2 c.entry_e d.entry_e h.entry_e k.entry_e in
    let code_a = one_code _ c.code_a d.code_a h.code_a k.code_a in
    let code_e = one_code _ c.code_e d.code_e h.code_e k.code_e in
    let content = same_numbers c.content d.content (sym h.content ∙ k.content) in
    let lines = same_marks c.lines d.lines (sym h.marks ∙ k.marks) in
    let names = same_names c.names d.names (sym h.names ∙ k.names) in
    by_fields c d budget memory calls private_a private_e entry_a entry_e code_a code_e content lines names
  where
    by_fields : (c d : ImageContents) → c.budget ≡ d.budget → c.memory ≡ d.memory → c.calls ≡ d.calls → c.private_a ≡ d.private_a → c.private_e ≡ d.private_e → c.entry_a ≡ d.entry_a → c.entry_e ≡ d.entry_e
        → c.code_a ≡ d.code_a → c.code_e ≡ d.code_e → c.content ≡ d.content → c.lines ≡ d.lines → c.names ≡ d.names → c ≡ d
    by_fields c d e0 e1 e2 e3 e4 e5 e6 e7 e8 e9 e10 e11 =
        let e : record { budget = c.budget; memory = c.memory; calls = c.calls; private_a = c.private_a; private_e = c.private_e; entry_a = c.entry_a; entry_e = c.entry_e; code_a = c.code_a; code_e = c.code_e; content = c.content; lines = c.lines; names = c.names } ≡ record { budget = d.budget; memory = d.memory; calls = d.calls; private_a = d.private_a; private_e = d.private_e; entry_a = d.entry_a; entry_e = d.entry_e; code_a = d.code_a; code_e = d.code_e; content = d.content; lines = d.lines; names = d.names } = cc in
        e

pub one_image : (text : List ℕ) (i j : Image) → Asm text i → Asm text j → i ≡ j
one_image text i j h k =
    let same : k.sheet ≡ h.sheet = one_sheet text k.sheet h.sheet k.ordered h.ordered in
    let says : Says h.sheet (contents j) = subst (λ (s : Sheet). Says s (contents j)) same k.says in
    same_image i j (same_contents h.sheet (contents i) (contents j) h.says says)
