-- A listing has at most five times as many bytes as its image.
use Rattle.std.proofs.Common.{◌≡◌, inl, inr, ℕ, ◌+◌, ◌*◌, ◌<◌, ◌≤◌, ◌^◌, true, List, [], ◌∷◌, ◌++◌, map, length, codes, refl, ap, ◌∙◌, arith, length-append}
use Rattle.std.specs.List.{flat_map, list_all, AllByRecursion}
use Rattle.std.specs.Str.{is_utf8}
use Rattle.std.proofs.lemmas.Bool.{and_parts}
use Rattle.std.proofs.lemmas.Grind.{flat_map-append}
use Rattle.dae_base.specs.declared.Side.{Side}
use Rattle.dae_base.specs.declared.Side.TheVariants.{A, E}
use Rattle.dae_image.specs.declared.Image.{Image}
use Rattle.dae_image.specs.declared.LineMark.{LineMark}
use Rattle.dae_image.specs.Contents.{ImageContents, header, is_name}
use Rattle.dae_image.specs.Ranges.{is_in, name_range}
use Rattle.dae_image.specs.Images.{contents}
use Rattle.dae_image.specs.Spelling.{number, numbers, line, name, head_1, head_2, body, Spells}
use Rattle.dae_asm_lines.specs.Items.{letter}
use Rattle.dae_listing.specs.Canon.{row, word_text, seven_depths, head_rows, byte_row, content_rows, mark_row, ended, canon}
use Rattle.dae_asm_laws.proofs.Laws.{text_bytes}
use Rattle.dae_listing_laws.proofs.Rows.{AreFew}
use Rattle.dae_listing_laws.proofs.Lengths.{numbers_long, bytes_long, word_long}
use Rattle.dae_listing_laws.proofs.Sheet.{MarksFew}
use Rattle.dae_listing_laws.proofs.Listed.{Few, few_of}

-- how many bytes these lines have
abbrev size : List (List ℕ) → ℕ
size text = length (flat_map ended text)

joined : (xs ys : List (List ℕ)) → size (xs ++ ys) ≡ size xs + size ys
joined xs ys = ap length (flat_map-append ended xs ys) ∙ length-append (flat_map ended xs) (flat_map ended ys)

begun : (x : List ℕ) (xs : List (List ℕ)) → size (x ∷ xs) ≡ length x + (1 + size xs)
begun x xs = let p = length-append (ended x) (flat_map ended xs) in let q = length-append x (10 ∷ []) in omega arith

-- lines that each have at most five times as many bytes as what they tell
each : {X : Type 0} (P : X → Type 0) (text bytes : X → List ℕ) → ((x : X) → P x → length (text x) + 1 ≤ 5 * length (bytes x)) → (xs : List X) → AllByRecursion P xs → size (map text xs) ≤ 5 * length (flat_map bytes xs)
each P text bytes h [] all = omega arith
each P text bytes h (x ∷ xs) all =
    let one = h x all.0 in
    let more = each P text bytes h xs all.1 in
    let p = begun (text x) (map text xs) in
    let q = length-append (bytes x) (flat_map bytes xs) in
    omega arith

four : (n : ℕ) → length (number n) ≡ 4
four n = refl

words_long : (ws : List ℕ) → AreFew ws → size (map word_text ws) ≤ 5 * length (numbers ws)
words_long = each (λ w. w < 2 ^ 32) word_text number (λ w few. let p = word_long w few in let q = four w in omega arith)

letter_long : (side : Side) → length (codes ".line " ++ letter side) ≡ 7
letter_long A = refl
letter_long E = refl

mark_long : (m : LineMark) → (m.word < 2 ^ 32) × (m.file < 2 ^ 32) × (m.line < 2 ^ 32) → length (mark_row m) + 1 ≤ 5 * length (line m)
mark_long m few =
    let p = numbers_long (codes ".line " ++ letter m.side) (m.word ∷ m.file ∷ m.line ∷ []) (few.0, (few.1, (few.2, tt))) in
    let q = letter_long m.side in
    let r : length (line m) ≡ 16 = refl in
    omega arith

marks_long : (ms : List LineMark) → MarksFew ms → size (map mark_row ms) ≤ 5 * length (flat_map line ms)
marks_long = each (λ m. (m.word < 2 ^ 32) × (m.file < 2 ^ 32) × (m.line < 2 ^ 32)) mark_row line mark_long

name_long : (bytes : List ℕ) → AllByRecursion (λ b. b < 256) bytes → length (row (codes ".name") bytes) + 1 ≤ 5 * length (name bytes)
name_long bytes small =
    let p = bytes_long (codes ".name") bytes small in
    let q = length-append (number (length bytes)) bytes in
    let r = four (length bytes) in
    omega arith

abbrev AreNames : List (List ℕ) → Type 0
AreNames names = AllByRecursion (λ bytes. AllByRecursion (λ b. b < 256) bytes) names

names_bytes : (names : List (List ℕ)) → list_all is_name names ≡ true → AreNames names
names_bytes [] h = tt
names_bytes (bytes ∷ names) h =
    let parts = and_parts (is_name bytes) (list_all is_name names) h in
    let text = and_parts (is_in name_range (length bytes)) (is_utf8 bytes) parts.0 in
    (text_bytes bytes text.1, names_bytes names parts.1)

names_long : (names : List (List ℕ)) → AreNames names → size (map (row (codes ".name")) names) ≤ 5 * length (flat_map name names)
names_long = each (λ bytes. AllByRecursion (λ b. b < 256) bytes) (row (codes ".name")) name name_long

-- ---- data

one_row : (bs : List ℕ) → AllByRecursion (λ b. b < 256) bs → size (byte_row bs ∷ []) ≤ 4 * length bs + 6
one_row bs small = let p = begun (byte_row bs) [] in let q = bytes_long (codes ".byte") bs small in omega arith

more_rows : (first bs : List ℕ) (text : List (List ℕ)) → length first ≡ 16 → AllByRecursion (λ b. b < 256) first → size text ≤ 5 * length bs + 6 → size (byte_row first ∷ text) ≤ 5 * length (first ++ bs) + 6
more_rows first bs text e small h =
    let p = begun (byte_row first) text in
    let q = bytes_long (codes ".byte") first small in
    let r = length-append first bs in
    omega arith

content_long : (bs : List ℕ) → AllByRecursion (λ b. b < 256) bs → size (content_rows bs) ≤ 5 * length bs + 6
content_long [] small = omega arith
content_long (a ∷ b ∷ c ∷ d ∷ e ∷ f ∷ g ∷ h ∷ i ∷ j ∷ k ∷ l ∷ m ∷ n ∷ o ∷ p ∷ bs) small =
    more_rows (a ∷ b ∷ c ∷ d ∷ e ∷ f ∷ g ∷ h ∷ i ∷ j ∷ k ∷ l ∷ m ∷ n ∷ o ∷ p ∷ []) bs (content_rows bs) refl
    (small.0, (small.1.0, (small.1.1.0, (small.1.1.1.0, (small.1.1.1.1.0, (small.1.1.1.1.1.0, (small.1.1.1.1.1.1.0, (small.1.1.1.1.1.1.1.0, (small.1.1.1.1.1.1.1.1.0, (small.1.1.1.1.1.1.1.1.1.0, (small.1.1.1.1.1.1.1.1.1.1.0, (small.1.1.1.1.1.1.1.1.1.1.1.0, (small.1.1.1.1.1.1.1.1.1.1.1.1.0, (small.1.1.1.1.1.1.1.1.1.1.1.1.1.0, (small.1.1.1.1.1.1.1.1.1.1.1.1.1.1.0, (small.1.1.1.1.1.1.1.1.1.1.1.1.1.1.1.0, tt))))))))))))))))
    (content_long bs small.1.1.1.1.1.1.1.1.1.1.1.1.1.1.1.1)
content_long bs small = let p = one_row bs small in omega arith

-- ---- the head

first_row : (w ns : List ℕ) (text : List (List ℕ)) → AreFew ns → size (row w ns ∷ text) ≤ length w + (11 * length ns + (1 + size text))
first_row w ns text few = let p = begun (row w ns) text in let q = numbers_long w ns few in omega arith

head_long : (c : ImageContents) → Few c → size (head_rows c) ≤ 182
head_long c few =
    let entry = first_row (codes ".entry") (c.entry_a ∷ c.entry_e ∷ []) [] (few.entry_a, (few.entry_e, tt)) in
    let privates = first_row (codes ".private") (c.private_a ∷ c.private_e ∷ []) (row (codes ".entry") (c.entry_a ∷ c.entry_e ∷ []) ∷ []) (few.private_a, (few.private_e, tt)) in
    let calls = first_row (codes ".calls") (c.calls ∷ []) (row (codes ".private") (c.private_a ∷ c.private_e ∷ []) ∷ row (codes ".entry") (c.entry_a ∷ c.entry_e ∷ []) ∷ []) (few.calls, tt) in
    let memory = first_row (codes ".memory") (c.memory ∷ []) (row (codes ".calls") (c.calls ∷ []) ∷ row (codes ".private") (c.private_a ∷ c.private_e ∷ []) ∷ row (codes ".entry") (c.entry_a ∷ c.entry_e ∷ []) ∷ []) (few.memory, tt) in
    let budget = first_row (codes ".budget") (seven_depths c.budget) (row (codes ".memory") (c.memory ∷ []) ∷ row (codes ".calls") (c.calls ∷ []) ∷ row (codes ".private") (c.private_a ∷ c.private_e ∷ []) ∷ row (codes ".entry") (c.entry_a ∷ c.entry_e ∷ []) ∷ []) few.budget in
    omega arith

-- ---- all

pieces : (c : ImageContents) → length (canon c) ≡ size (head_rows c) + (3 + (size (map word_text c.code_a) + (3 + (size (map word_text c.code_e) + (6 + (size (content_rows c.content) + (size (map mark_row c.lines) + size (map (row (codes ".name")) c.names))))))))
unfolding canon
pieces c =
    let names = map (row (codes ".name")) c.names in
    let g = joined (map mark_row c.lines) names in
    let f = joined (content_rows c.content) (map mark_row c.lines ++ names) in
    let e = begun (codes ".data") (content_rows c.content ++ (map mark_row c.lines ++ names)) in
    let d = joined (map word_text c.code_e) (codes ".data" ∷ (content_rows c.content ++ (map mark_row c.lines ++ names))) in
    let b = begun (codes ".e") (map word_text c.code_e ++ (codes ".data" ∷ (content_rows c.content ++ (map mark_row c.lines ++ names)))) in
    let a = joined (map word_text c.code_a) (codes ".e" ∷ (map word_text c.code_e ++ (codes ".data" ∷ (content_rows c.content ++ (map mark_row c.lines ++ names))))) in
    let h = begun (codes ".a") (map word_text c.code_a ++ (codes ".e" ∷ (map word_text c.code_e ++ (codes ".data" ∷ (content_rows c.content ++ (map mark_row c.lines ++ names)))))) in
    let k = joined (head_rows c) (codes ".a" ∷ (map word_text c.code_a ++ (codes ".e" ∷ (map word_text c.code_e ++ (codes ".data" ∷ (content_rows c.content ++ (map mark_row c.lines ++ names))))))) in
    omega arith

body_size : (c : ImageContents) → length (body c) ≡ length (numbers c.code_a) + (length (numbers c.code_e) + (length c.content + (length (flat_map line c.lines) + length (flat_map name c.names))))
body_size c =
    let d = length-append (flat_map line c.lines) (flat_map name c.names) in
    let b = length-append c.content (flat_map line c.lines ++ flat_map name c.names) in
    let a = length-append (numbers c.code_e) (c.content ++ (flat_map line c.lines ++ flat_map name c.names)) in
    let h = length-append (numbers c.code_a) (numbers c.code_e ++ (c.content ++ (flat_map line c.lines ++ flat_map name c.names))) in
    omega arith

-- without the heads, which take less
by_body : (i : Image) → length (canon (contents i)) ≤ 200 + 5 * length (body (contents i))
by_body i =
    let c = contents i in
    let few = few_of i in
    let fits = i.fits in
    let p = pieces c in
    let q = body_size c in
    let h = head_long c few in
    let a = words_long c.code_a few.code_a in
    let e = words_long c.code_e few.code_e in
    let d = content_long c.content few.content in
    let m = marks_long c.lines few.marks in
    let n = names_long c.names (names_bytes i.names fits.names) in
    omega arith

head_1_size : (c : ImageContents) → length (numbers (head_1 (header c))) ≡ 76
head_1_size c = refl

head_2_size : (c : ImageContents) → length (numbers (head_2 (header c))) ≡ 80
head_2_size c = refl

by_parts : (text head rest : List ℕ) (n : ℕ) → length text ≤ 200 + 5 * length rest → length head ≡ n → 40 ≤ n → length text ≤ 5 * length (head ++ rest)
by_parts text head rest n h e few = let p = length-append head rest in omega arith

pub short : (i : Image) (bytes : List ℕ) → Spells bytes (contents i) → length (canon (contents i)) ≤ 5 * length bytes
short i bytes (inl e) =
    let c = contents i in
    rw e (by_parts (canon c) (numbers (head_2 (header c))) (body c) 80 (by_body i) (head_2_size c) (omega arith))
short i bytes (inr h) =
    let c = contents i in
    let e = h.1 in
    rw e (by_parts (canon c) (numbers (head_1 (header c))) (body c) 76 (by_body i) (head_1_size c) (omega arith))
