-- A line that says a word of code has at least four bytes, so a text has few of them.
use Rattle.std.proofs.Common.{◌≡◌, ℕ, suc, ◌+◌, ◌*◌, ◌≤◌, ℤ, Bool, true, false, ◌==◌, if◌then◌else◌, List, [], ◌∷◌, ◌++◌, map, length, codes, Option, Some, None, ap, arith, lit≤, length-append}
use Rattle.std.proofs.lemmas.List.{length-map}
use Rattle.dae_encode.specs.declared.Inst.{Inst}
use Rattle.dae_encode.specs.declared.Inst.TheVariants.{Ecall}
use Rattle.dae_asm_lines.specs.declared.Operands.{Operands}
use Rattle.dae_asm_lines.specs.declared.Operands.TheVariants.{Registers, Immediate, Based, Branch, Upper, Jump, Alone}
use Rattle.dae_asm_lines.specs.Targets.{JumpTarget}
use Rattle.dae_asm_lines.specs.Names.{name_of, operands_of, AreAlike}
use Rattle.dae_asm_lines.specs.Tokens.{LineToken, Word, Number, Sign, Other, is_blank, is_sign, is_name, number_of, number_or_other, token_of, word_then, tokens_behind, tokens_of, before_comment}
use Rattle.dae_asm_lines.specs.Items as items
use Rattle.dae_asm_lines.specs.Items.{LineItem, IsRegister, SayOperands, SayInstruction}
use Rattle.dae_asm_lines.specs.Lines as lines
use Rattle.dae_asm_lines.specs.Lines.{IsLine, spoken}
use Rattle.dae_asm_order.specs.Sheets.{Row, Sheet, AreItems, none, skips, says, IsSheet, line_then, lines_behind, lines_of, rows_of}
use Rattle.dae_asm_labels.specs.Labels.{words}
use Rattle.dae_asm_values.proofs.Formed.{behind_a, behind_e}

abbrev size : LineToken → ℕ
size (Word w) = length w
size (Number z) = 1
size (Sign b) = 1
size Other = 1

abbrev total : List LineToken → ℕ
total [] = 0
total (t ∷ ts) = size t + total ts

by_kind : (w : List ℕ) (t : Bool) (o : Option ℤ) → 1 ≤ length w → size (if t then Word w else number_or_other o) ≤ length w
by_kind w true o h = omega arith
by_kind w false None h = h
by_kind w false (Some z) h = h

then_fits : (w : List ℕ) (ts : List LineToken) → total (word_then w ts) ≤ length w + total ts
then_fits [] ts = omega arith
then_fits (b ∷ bs) ts =
    let some : 1 ≤ length (b ∷ bs) = omega arith in
    let one = by_kind (b ∷ bs) (is_name (b ∷ bs)) (number_of (b ∷ bs)) some in
    omega arith

by_byte : (w : List ℕ) (b : ℕ) (bs : List ℕ) (t u : Bool) → total (tokens_behind [] bs) ≤ length bs → total (tokens_behind (w ++ b ∷ []) bs) ≤ length (w ++ b ∷ []) + length bs
    → total (if t then word_then w (tokens_behind [] bs) else (if u then word_then w (Sign b ∷ tokens_behind [] bs) else tokens_behind (w ++ b ∷ []) bs)) ≤ length w + length (b ∷ bs)
by_byte w b bs true u h g = let f = then_fits w (tokens_behind [] bs) in omega arith
by_byte w b bs false true h g = let f = then_fits w (Sign b ∷ tokens_behind [] bs) in omega arith
by_byte w b bs false false h g = let f = length-append w (b ∷ []) in omega arith

none_before : (n : ℕ) (bs : List ℕ) → n ≤ length {A = ℕ} [] + length bs → n ≤ length bs
none_before n bs h = omega arith

behind_fits : (w bs : List ℕ) → total (tokens_behind w bs) ≤ length w + length bs
behind_fits w [] = let f = then_fits w [] in omega arith
behind_fits w (b ∷ bs) = by_byte w b bs (is_blank b) (is_sign b) (none_before (total (tokens_behind [] bs)) bs (behind_fits [] bs)) (behind_fits (w ++ b ∷ []) bs)

by_semicolon : (b : ℕ) (bs : List ℕ) (t : Bool) → length (before_comment bs) ≤ length bs → length (if t then [] else b ∷ before_comment bs) ≤ length (b ∷ bs)
by_semicolon b bs true h = omega arith
by_semicolon b bs false h = omega arith

comment_fits : (line : List ℕ) → length (before_comment line) ≤ length line
comment_fits [] = omega arith
comment_fits (b ∷ bs) = by_semicolon b bs (b == 59) (comment_fits bs)

spoken_fits : (line : List ℕ) → total (spoken line) ≤ length line
unfolding tokens_of
spoken_fits line =
    let f = none_before (total (tokens_behind [] (before_comment line))) (before_comment line) (behind_fits [] (before_comment line)) in
    let g = comment_fits line in
    omega arith

-- ---- instructions

name_long : (i : Inst) → 2 ≤ length (name_of i)
unfolding name_of
name_long Ecall = lit≤ tt
name_long i = lit≤ tt

alone_long : (i : Inst) → AreAlike {T = JumpTarget} (operands_of i) Alone → 4 ≤ length (name_of i)
unfolding name_of operands_of
alone_long Ecall h = lit≤ tt
alone_long i h = absurd h

register_long : (t : LineToken) (r : ℤ) → IsRegister t r → 1 ≤ size t
register_long t r h = let e = ap size h.whole in omega arith

first_long : (ts : List LineToken) (x : LineToken) → 1 ≤ size x → (rest : List LineToken) → ts ≡ x ∷ Sign 44 ∷ rest → 2 ≤ total ts
first_long ts x h rest e = let f = ap total e in omega arith

operands_long : (ts : List LineToken) (i : Inst) (o : Operands JumpTarget) → AreAlike (operands_of i) o → SayOperands ts o → 4 ≤ length (name_of i) + total ts
operands_long ts i (Registers a b c) h s = let n = name_long i in let f : 2 ≤ total ts = first_long ts s.x (register_long s.x a s.one) _ s.whole in omega arith
operands_long ts i (Immediate a b c) h s = let n = name_long i in let f : 2 ≤ total ts = first_long ts s.x (register_long s.x a s.one) _ s.whole in omega arith
operands_long ts i (Based a b c) h s = let n = name_long i in let f : 2 ≤ total ts = first_long ts s.x (register_long s.x a s.one) _ s.whole in omega arith
operands_long ts i (Branch a b c) h s = let n = name_long i in let f : 2 ≤ total ts = first_long ts s.x (register_long s.x a s.one) _ s.whole in omega arith
operands_long ts i (Upper a b) h s = let n = name_long i in let f : 2 ≤ total ts = first_long ts s.x (register_long s.x a s.one) _ s.whole in omega arith
operands_long ts i (Jump a b) h s = let n = name_long i in let f : 2 ≤ total ts = first_long ts s.x (register_long s.x a s.one) _ s.whole in omega arith
operands_long ts i Alone h s = let n = alone_long i h in omega arith

-- ---- lines

-- how many words an item makes
abbrev weight : LineItem → ℕ
weight (items.Instruction i operands) = 1
weight (items.Plain z) = 1
weight item = 0

four_each : (line : List ℕ) (item : LineItem) → IsLine line (Some item) → 4 * weight item ≤ length line
four_each line (items.Instruction i o) (lines.says j ascii s) =
    let f = operands_long s.rest i o s.alike s.say in
    let e = ap total s.whole in
    let g = spoken_fits line in
    omega arith
four_each line (items.Plain z) (lines.says j ascii s) =
    let e = ap total s in
    let g = spoken_fits line in
    omega arith
four_each line item l = omega arith

weigh : (n : ℕ) (item : LineItem) (rows : List Row) → words ((n, item) ∷ rows) ≡ weight item + words rows
weigh n (items.Instruction i o) rows = omega arith
weigh n (items.Plain z) rows = omega arith
weigh n item rows = omega arith

abbrev lengths : List (List ℕ) → ℕ
lengths [] = 0
lengths (line ∷ text) = length line + lengths text

four_all : (n : ℕ) (text : List (List ℕ)) (rows : List Row) → AreItems n text rows → 4 * words rows ≤ lengths text
four_all n [] [] none = omega arith
four_all n [] (row ∷ rows) h = elim h [ ]
four_all n (line ∷ text) rows (skips l h) = let f = four_all (suc n) text rows h in omega arith
four_all n (line ∷ text) ((m, item) ∷ rows) (says l h) =
    let f = four_all (suc n) text rows h in
    let g = four_each line item l in
    let w = weigh m item rows in
    omega arith

then_short : (line : List ℕ) (text : List (List ℕ)) → lengths (line_then line text) ≤ length line + lengths text
then_short [] text = omega arith
then_short (b ∷ bs) text = omega arith

by_feed : (w : List ℕ) (b : ℕ) (bs : List ℕ) (t : Bool) → lengths (lines_behind [] bs) ≤ length {A = ℕ} [] + length bs → lengths (lines_behind (w ++ b ∷ []) bs) ≤ length (w ++ b ∷ []) + length bs
    → lengths (if t then w ∷ lines_behind [] bs else lines_behind (w ++ b ∷ []) bs) ≤ length w + length (b ∷ bs)
by_feed w b bs true h g = omega arith
by_feed w b bs false h g = let f = length-append w (b ∷ []) in omega arith

lines_fit : (w bs : List ℕ) → lengths (lines_behind w bs) ≤ length w + length bs
lines_fit w [] = let f = then_short w [] in omega arith
lines_fit w (b ∷ bs) = by_feed w b bs (b == 10) (lines_fit [] bs) (lines_fit (w ++ b ∷ []) bs)

text_fits : (text : List ℕ) → lengths (lines_of text) ≤ length text
unfolding lines_of
text_fits text = let f = lines_fit [] text in omega arith

words_join : (xs ys : List Row) → words (xs ++ ys) ≡ words xs + words ys
words_join [] ys = omega arith
words_join ((n, item) ∷ xs) ys = let r = words_join xs ys in let f = weigh n item (xs ++ ys) in let g = weigh n item xs in omega arith

-- both codes of a text
pub words_are_few : (text : List ℕ) (s : Sheet) → IsSheet text s → (4 * words s.code_a ≤ length text) × (4 * words s.code_e ≤ length text)
words_are_few text s h =
    let all = four_all 1 (lines_of text) (rows_of s) h.items in
    let fit = text_fits text in
    let a = words_join s.code_a (behind_a s) in
    let e = words_join s.code_e (behind_e s) in
    (omega (arith, a, all, fit), omega (arith, a, e, all, fit))

-- ---- names

count_then : (line : List ℕ) → length (line_then line []) ≤ length line
count_then [] = omega arith
count_then (b ∷ bs) = omega arith

count_by_feed : (w : List ℕ) (b : ℕ) (bs : List ℕ) (t : Bool) → length (lines_behind [] bs) ≤ length {A = ℕ} [] + length bs → length (lines_behind (w ++ b ∷ []) bs) ≤ length (w ++ b ∷ []) + length bs
    → length (if t then w ∷ lines_behind [] bs else lines_behind (w ++ b ∷ []) bs) ≤ length w + length (b ∷ bs)
count_by_feed w b bs true h g = omega arith
count_by_feed w b bs false h g = let f = length-append w (b ∷ []) in omega arith

lines_are_few : (w bs : List ℕ) → length (lines_behind w bs) ≤ length w + length bs
lines_are_few w [] = let f = count_then w in omega arith
lines_are_few w (b ∷ bs) = count_by_feed w b bs (b == 10) (lines_are_few [] bs) (lines_are_few (w ++ b ∷ []) bs)

rows_are_few : (n : ℕ) (text : List (List ℕ)) (rows : List Row) → AreItems n text rows → length rows ≤ length text
rows_are_few n [] [] none = omega arith
rows_are_few n [] (row ∷ rows) h = elim h [ ]
rows_are_few n (line ∷ text) rows (skips l h) = let f = rows_are_few (suc n) text rows h in omega arith
rows_are_few n (line ∷ text) ((m, item) ∷ rows) (says l h) = let f = rows_are_few (suc n) text rows h in omega arith

text_lines : (text : List ℕ) → length (lines_of text) ≤ length text
unfolding lines_of
text_lines text = let f = lines_are_few [] text in omega arith

-- a text has no more names than bytes
pub names_are_few : (text : List ℕ) (s : Sheet) → IsSheet text s → length s.names ≤ length text
names_are_few text s h =
    let all = rows_are_few 1 (lines_of text) (rows_of s) h.items in
    let fit = text_lines text in
    let names : List Row = map (λ n. (n.0, items.Name n.1)) s.names in
    let marks : List Row = map (λ m. (m.0, items.Mark m.1 m.2 m.3 m.4)) s.marks in
    let bytes : List Row = map (λ b. (b.0, items.Bytes b.1)) s.bytes in
    let a = length-append s.code_a (behind_a s) in
    let e = length-append s.code_e (behind_e s) in
    let b = length-append bytes (marks ++ names) in
    let m = length-append marks names in
    let n : length names ≡ length s.names = length-map s.names (λ (n : ℕ × List ℤ). (n.0, items.Name n.1)) in
    omega (arith, a, e, b, m, n, all, fit)
