-- The sheet that a listing is, and that it says the image.
use Rattle.std.proofs.Common.{◌≡◌, ℕ, suc, ◌+◌, ◌<◌, ◌≤◌, ◌^◌, ℤ, pos, Bool, true, ◌&&◌, List, ◌∷◌, ◌++◌, map, length, codes, refl, sym, ap, ◌∙◌, arith, []}
use Rattle.std.specs.Prelude.{Option, Some, None, nat_lt}
use Rattle.std.specs.List.{list_all, AllByRecursion}
use Rattle.std.proofs.lemmas.Bool.{and_parts}
use Rattle.std.proofs.lemmas.Bool.Decides.{nat_tests}
use Rattle.std.proofs.lemmas.List.{append-nil}
use Rattle.dae_base.specs.declared.Side.{Side}
use Rattle.dae_base.specs.declared.Side.TheVariants.{A, E}
use Rattle.dae_encode.specs.declared.Inst.{Inst}
use Rattle.dae_encode.specs.Spelling.{decode}
use Rattle.dae_encode.proofs.Laws.{encoded_decode}
use Rattle.dae_image.specs.declared.LineMark.{LineMark}
use Rattle.dae_image.specs.declared.header.ImageHeader.{ImageHeader}
use Rattle.dae_image.specs.Contents.{code_length, follows, is_line, are_lines, is_name}
use Rattle.dae_image.specs.Ranges.{is_in, name_range}
use Rattle.std.specs.Str.{is_utf8}
use Rattle.dae_asm_lines.specs.declared.Operands.{Operands}
use Rattle.dae_asm_lines.specs.declared.Operands.TheVariants.{Registers, Immediate, Based, Branch, Upper, Jump, Alone}
use Rattle.dae_asm_lines.specs.Names.{operands_of}
use Rattle.dae_asm_lines.specs.Items as items
use Rattle.dae_asm_lines.specs.Items.{LineItem}
use Rattle.dae_asm_order.specs.Sheets.{Row, AreItems, none, says, is_code}
use Rattle.dae_asm_labels.specs.Labels.{Look, operands_known, label_tests, first_false}
use Rattle.dae_asm_values.specs.Values.{AreOperands}
use Rattle.dae_asm_values.specs.Claims.{code_claims, AreMet}
use Rattle.dae_asm_data.specs.Data.{NumberRow, numbers, MarkRow}
use Rattle.dae_asm_data.specs.Parts.{places, spelled}
use Rattle.dae_asm_laws.proofs.Laws.{text_bytes, mark_place}
use Rattle.dae_listing.specs.Canon.{row, word_text, byte_row, content_rows, mark_row, rows}
use Rattle.dae_listing_laws.proofs.Digits.{is_plain}
use Rattle.dae_listing_laws.proofs.Known.{is_known}
use Rattle.dae_listing_laws.proofs.Rows.{AreFew, given}
use Rattle.dae_listing_laws.proofs.Lines.{Reads, is_line as line_is}
use Rattle.dae_listing_laws.proofs.Items.{bytes_read, name_reads, mark_reads, item_for, word_reads}

-- numbered from n on
abbrev pub number_from : {X : Type 0} → ℕ → List X → List (ℕ × X)
number_from n [] = []
number_from n (x ∷ xs) = (n, x) ∷ number_from (suc n) xs

abbrev pub ArePlain : List (List ℕ) → Type 0
ArePlain text = AllByRecursion (λ line. list_all is_plain line ≡ true) text

pub plain_join : (xs ys : List (List ℕ)) → ArePlain xs → ArePlain ys → ArePlain (xs ++ ys)
plain_join [] ys h k = k
plain_join (x ∷ xs) ys h k = (h.0, plain_join xs ys h.1 k)

-- ---- codes

abbrev pub code_item : ℕ → LineItem
code_item w = item_for w (decode w)

word_is : (w : ℕ) → w < 2 ^ 32 → Reads (word_text w) (code_item w)
unfolding word_text
word_is w h = word_reads w (decode w) h refl

pub words_items : (n : ℕ) (ws : List ℕ) → AreFew ws → AreItems n (map word_text ws) (number_from n (map code_item ws))
words_items n [] few = none
words_items n (w ∷ ws) few = says (line_is (word_text w) (code_item w) (word_is w few.0)) (words_items (suc n) ws few.1)

pub words_plain : (ws : List ℕ) → AreFew ws → ArePlain (map word_text ws)
words_plain [] few = tt
words_plain (w ∷ ws) few = (let r = word_is w few.0 in r.plain, words_plain ws few.1)

for_code : (w : ℕ) (o : Option Inst) → is_code (item_for w o) ≡ true
for_code w (Some i) = refl
for_code w None = refl

pub all_code : (n : ℕ) (ws : List ℕ) → list_all (λ r. is_code r.1) (number_from n (map code_item ws)) ≡ true
all_code n [] = refl
all_code n (w ∷ ws) = let a = for_code w (decode w) in let b = all_code (suc n) ws in rw (a, b) refl

given_operands : (labels : Look) (here : ℕ) (os : Operands ℤ) → AreOperands labels here (given os) os
given_operands labels here (Registers a b c) = refl
given_operands labels here (Immediate a b c) = refl
given_operands labels here (Based a b c) = refl
given_operands labels here (Branch a b n) = (n, (refl, refl))
given_operands labels here (Upper a b) = refl
given_operands labels here (Jump a n) = (n, (refl, refl))
given_operands labels here Alone = refl

one_met : (labels : Look) (here n w : ℕ) (o : Option Inst) (rows : List Row) (ws : List ℕ) → w < 2 ^ 32 → decode w ≡ o → AreMet (code_claims labels (here + 4) rows) ws → AreMet (code_claims labels here ((n, item_for w o) ∷ rows)) (w ∷ ws)
one_met labels here n w (Some i) rows ws h e rest =
    let d = encoded_decode w i h e in
    let k = is_known i in
    (w, (ws, (refl, (i, (sym d.1, record { its = operands_of i; are = given_operands labels here (operands_of i); filled = record { name = k.name; same = refl; range = d.0 } })), rest)))
one_met labels here n w None rows ws h e rest = (w, (ws, (refl, (refl, h), rest)))

pub all_met : (labels : Look) (here n : ℕ) (ws : List ℕ) → AreFew ws → AreMet (code_claims labels here (number_from n (map code_item ws))) ws
all_met labels here n [] few = refl
all_met labels here n (w ∷ ws) few = one_met labels here n w (decode w) (number_from (suc n) (map code_item ws)) ws few.0 refl (all_met labels (here + 4) (suc n) ws few.1)

known_given : (labels : Look) (os : Operands ℤ) → operands_known labels (given os) ≡ true
known_given labels (Registers a b c) = refl
known_given labels (Immediate a b c) = refl
known_given labels (Based a b c) = refl
known_given labels (Branch a b n) = refl
known_given labels (Upper a b) = refl
known_given labels (Jump a n) = refl
known_given labels Alone = refl

one_passes : (labels : Look) (n w : ℕ) (o : Option Inst) (rows : List Row) (rest : List (ℕ × Bool)) → first_false (label_tests labels rows ++ rest) ≡ None → first_false (label_tests labels ((n, item_for w o) ∷ rows) ++ rest) ≡ None
one_passes labels n w (Some i) rows rest h = let e = known_given labels (operands_of i) in rw e h
one_passes labels n w None rows rest h = h

pub all_pass : (labels : Look) (n : ℕ) (ws : List ℕ) (rest : List (ℕ × Bool)) → first_false rest ≡ None → first_false (label_tests labels (number_from n (map code_item ws)) ++ rest) ≡ None
all_pass labels n [] rest h = h
all_pass labels n (w ∷ ws) rest h = one_passes labels n w (decode w) (number_from (suc n) (map code_item ws)) rest (all_pass labels (suc n) ws rest h)

-- ---- data

few_bytes : (bs : List ℕ) → AllByRecursion (λ b. b < 256) bs → AreFew bs
few_bytes [] h = tt
few_bytes (b ∷ bs) h = (omega (arith, h.0), few_bytes bs h.1)

-- lines of data
pub record Chunks (n : ℕ) (bs : List ℕ) (text : List (List ℕ)) : Type 0 where
  pub chunks : List NumberRow
  pub items : AreItems n text (map (λ b. (b.0, items.Bytes b.1)) chunks)
  pub plain : ArePlain text
  pub said : numbers chunks ≡ map (λ b. pos b) bs

one_chunk : (n : ℕ) (bs : List ℕ) → 1 ≤ length bs → length bs ≤ 16 → AllByRecursion (λ b. b < 256) bs → Chunks n bs (byte_row bs ∷ [])
one_chunk n bs some few small =
    let r = bytes_read bs some few (few_bytes bs small) in
    record { chunks = (n, map (λ b. pos b) bs) ∷ []; items = says (line_is (byte_row bs) (items.Bytes (map (λ b. pos b) bs)) r) none; plain = (r.plain, tt); said = append-nil (map (λ b. pos b) bs) }

more_chunks : (n : ℕ) (first bs : List ℕ) (text : List (List ℕ)) → 1 ≤ length first → length first ≤ 16 → AllByRecursion (λ b. b < 256) first → Chunks (suc n) bs text → Chunks n (first ++ bs) (byte_row first ∷ text)
more_chunks n first bs text some few small c =
    let r = bytes_read first some few (few_bytes first small) in
    record {
      chunks = (n, map (λ b. pos b) first) ∷ c.chunks;
      items = says (line_is (byte_row first) (items.Bytes (map (λ b. pos b) first)) r) c.items;
      plain = (r.plain, c.plain);
      said = ap (λ (zs : List ℤ). map (λ b. pos b) first ++ zs) c.said ∙ map_join first bs;
    }
  where
    map_join : (xs ys : List ℕ) → map (λ b. pos b) xs ++ map (λ b. pos b) ys ≡ map (λ b. pos b) (xs ++ ys)
    map_join [] ys = refl
    map_join (x ∷ xs) ys = ap (λ (zs : List ℤ). pos x ∷ zs) (map_join xs ys)

pub chunks_of : (n : ℕ) (bs : List ℕ) → AllByRecursion (λ b. b < 256) bs → Chunks n bs (content_rows bs)
chunks_of n [] small = record { chunks = []; items = none; plain = tt; said = refl }
chunks_of n (a ∷ b ∷ c ∷ d ∷ e ∷ f ∷ g ∷ h ∷ i ∷ j ∷ k ∷ l ∷ m ∷ n' ∷ o ∷ p ∷ bs) small =
    more_chunks n (a ∷ b ∷ c ∷ d ∷ e ∷ f ∷ g ∷ h ∷ i ∷ j ∷ k ∷ l ∷ m ∷ n' ∷ o ∷ p ∷ []) bs (content_rows bs) (omega arith) (omega arith)
    (small.0, (small.1.0, (small.1.1.0, (small.1.1.1.0, (small.1.1.1.1.0, (small.1.1.1.1.1.0, (small.1.1.1.1.1.1.0, (small.1.1.1.1.1.1.1.0, (small.1.1.1.1.1.1.1.1.0, (small.1.1.1.1.1.1.1.1.1.0, (small.1.1.1.1.1.1.1.1.1.1.0, (small.1.1.1.1.1.1.1.1.1.1.1.0, (small.1.1.1.1.1.1.1.1.1.1.1.1.0, (small.1.1.1.1.1.1.1.1.1.1.1.1.1.0, (small.1.1.1.1.1.1.1.1.1.1.1.1.1.1.0, (small.1.1.1.1.1.1.1.1.1.1.1.1.1.1.1.0, tt))))))))))))))))
    (chunks_of (suc n) bs small.1.1.1.1.1.1.1.1.1.1.1.1.1.1.1.1)
chunks_of n bs small = one_chunk n bs (omega arith) (omega arith) small

-- ---- marks

abbrev pub marks_from : ℕ → List LineMark → List MarkRow
marks_from n [] = []
marks_from n (m ∷ ms) = (n, m.side, pos m.word, pos m.file, pos m.line) ∷ marks_from (suc n) ms

-- marks whose numbers are of 32 bits
abbrev pub MarksFew : List LineMark → Type 0
MarksFew ms = AllByRecursion (λ m. (m.word < 2 ^ 32) × (m.file < 2 ^ 32) × (m.line < 2 ^ 32)) ms

pub marks_items : (n : ℕ) (ms : List LineMark) → MarksFew ms → AreItems n (map mark_row ms) (map (λ m. (m.0, items.Mark m.1 m.2 m.3 m.4)) (marks_from n ms))
marks_items n [] few = none
marks_items n (m ∷ ms) few = says (line_is (mark_row m) _ (mark_reads m.side m.word m.file m.line few.0.0 few.0.1 few.0.2)) (marks_items (suc n) ms few.1)

pub marks_plain : (ms : List LineMark) → MarksFew ms → ArePlain (map mark_row ms)
marks_plain [] few = tt
marks_plain (m ∷ ms) few = (let r = mark_reads m.side m.word m.file m.line few.0.0 few.0.1 few.0.2 in r.plain, marks_plain ms few.1)

pub marks_said : (n : ℕ) (ms : List LineMark) → places (marks_from n ms) ≡ spelled ms
marks_said n [] = refl
marks_said n (m ∷ ms) = ap (λ (ps : List (Side × ℤ × ℤ × ℤ)). mark_place m ∷ ps) (marks_said (suc n) ms)

below : (n m : ℕ) → nat_lt n m ≡ true → m ≤ 33554432 → n < 2 ^ 32
below n m t h = let l : n < m = grind (arith, nat_tests) in omega arith

side_few : (h : ImageHeader) (side : Side) → h.words_a ≤ 33554432 → h.words_e ≤ 33554432 → code_length h side ≤ 33554432
side_few h A a e = a
side_few h E a e = e

pub marks_few : (h : ImageHeader) (last : Option LineMark) (ms : List LineMark) → h.words_a ≤ 33554432 → h.words_e ≤ 33554432 → h.names ≤ 33554432 → are_lines h last ms ≡ true → AllByRecursion (λ m. m.line < 2 ^ 32) ms → MarksFew ms
marks_few h last [] a e n good small = tt
marks_few h last (m ∷ ms) a e n good small =
    let parts = and_parts (is_line h last m) (are_lines h (Some m) ms) good in
    let p = and_parts (follows last m) (nat_lt m.word (code_length h m.side) && (nat_lt m.file h.names && nat_lt 0 m.line)) parts.0 in
    let q = and_parts (nat_lt m.word (code_length h m.side)) (nat_lt m.file h.names && nat_lt 0 m.line) p.1 in
    let s = and_parts (nat_lt m.file h.names) (nat_lt 0 m.line) q.1 in
    ((below m.word (code_length h m.side) q.0 (side_few h m.side a e), below m.file h.names s.0 n, small.0), marks_few h (Some m) ms a e n parts.1 small.1)

-- ---- names

abbrev pub names_from : ℕ → List (List ℕ) → List NumberRow
names_from n [] = []
names_from n (name ∷ names) = (n, map (λ b. pos b) name) ∷ names_from (suc n) names

abbrev pub NamesFew : List (List ℕ) → Type 0
NamesFew names = AllByRecursion AreFew names

pub names_few : (names : List (List ℕ)) → list_all is_name names ≡ true → NamesFew names
names_few [] h = tt
names_few (name ∷ names) h =
    let parts = and_parts (is_name name) (list_all is_name names) h in
    let text = and_parts (is_in name_range (length name)) (is_utf8 name) parts.0 in
    (few_bytes name (text_bytes name text.1), names_few names parts.1)

pub names_items : (n : ℕ) (names : List (List ℕ)) → NamesFew names → AreItems n (map (row (codes ".name")) names) (map (λ m. (m.0, items.Name m.1)) (names_from n names))
names_items n [] few = none
names_items n (name ∷ names) few = says (line_is (row (codes ".name") name) _ (name_reads name few.0)) (names_items (suc n) names few.1)

pub names_plain : (names : List (List ℕ)) → NamesFew names → ArePlain (map (row (codes ".name")) names)
names_plain [] few = tt
names_plain (name ∷ names) few = (let r = name_reads name few.0 in r.plain, names_plain names few.1)

pub names_said : (n : ℕ) (names : List (List ℕ)) → map (λ r. r.1) (names_from n names) ≡ map (λ name. map (λ b. pos b) name) names
names_said n [] = refl
names_said n (name ∷ names) = ap (λ (zs : List (List ℤ)). map (λ b. pos b) name ∷ zs) (names_said (suc n) names)
