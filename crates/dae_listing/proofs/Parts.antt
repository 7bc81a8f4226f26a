-- The parts of a listing.
use Rattle.std.proofs.Common.{◌≡◌, ◌==◌, false, ℕ, ◌≤◌, ◌<◌, List, ◌∷◌, ◌++◌, map, take, drop, length, codes, refl, sym, ap, ◌∙◌, append_assoc, arith, []}
use Rattle.std.specs.List.{flat_map}
use Rattle.std.proofs.lemmas.List.{append-nil}
use Rattle.std.proofs.lemmas.List.Concat.{flat_map-append}
use Rattle.dae_image.specs.Contents.{ImageContents}
use Rattle.dae_listing.specs.Canon.{ended, row, word_text, head_rows, content_rows, mark_row, rows, canon}

mapped : {X : Type 0} (f : X → List ℕ) (xs : List X) → flat_map ended (map f xs) ≡ flat_map (λ x. ended (f x)) xs
mapped f [] = refl
mapped f (x ∷ xs) = ap (λ r. ended (f x) ++ r) (mapped f xs)

then_more : (xs ys : List (List ℕ)) (x y : List ℕ) → flat_map ended xs ≡ x → flat_map ended ys ≡ y → flat_map ended (xs ++ ys) ≡ x ++ y
then_more xs ys x y e f = flat_map-append ended xs ys ∙ ap (λ (l : List ℕ). l ++ flat_map ended ys) e ∙ ap (λ (l : List ℕ). x ++ l) f

section : (first : List ℕ) (xs ys : List (List ℕ)) (x y : List ℕ) → flat_map ended xs ≡ x → flat_map ended ys ≡ y → flat_map ended (first ∷ (xs ++ ys)) ≡ (ended first ++ x) ++ y
section first xs ys x y e f = ap (λ (l : List ℕ). ended first ++ l) (then_more xs ys x y e f) ∙ sym (append_assoc (ended first) x y)

abbrev marks_and_names : ImageContents → List (List ℕ)
marks_and_names c = map mark_row c.lines ++ map (row (codes ".name")) c.names

abbrev data_rows : ImageContents → List (List ℕ)
data_rows c = codes ".data" ∷ (content_rows c.content ++ marks_and_names c)

abbrev code_e_rows : ImageContents → List (List ℕ)
code_e_rows c = codes ".e" ∷ (map word_text c.code_e ++ data_rows c)

abbrev code_a_rows : ImageContents → List (List ℕ)
code_a_rows c = codes ".a" ∷ (map word_text c.code_a ++ code_e_rows c)

abbrev tail_text : ImageContents → List ℕ
tail_text c = flat_map (λ m. ended (mark_row m)) c.lines ++ flat_map (λ n. ended (row (codes ".name") n)) c.names

abbrev data_text : ImageContents → List ℕ
data_text c = (ended (codes ".data") ++ flat_map ended (content_rows c.content)) ++ tail_text c

abbrev code_e_text : ImageContents → List ℕ
code_e_text c = (ended (codes ".e") ++ flat_map (λ w. ended (word_text w)) c.code_e) ++ data_text c

abbrev code_a_text : ImageContents → List ℕ
code_a_text c = (ended (codes ".a") ++ flat_map (λ w. ended (word_text w)) c.code_a) ++ code_e_text c

tail_is : (c : ImageContents) → flat_map ended (marks_and_names c) ≡ tail_text c
tail_is c = then_more (map mark_row c.lines) (map (row (codes ".name")) c.names) (flat_map (λ m. ended (mark_row m)) c.lines) (flat_map (λ n. ended (row (codes ".name") n)) c.names) (mapped mark_row c.lines) (mapped (row (codes ".name")) c.names)

data_is : (c : ImageContents) → flat_map ended (data_rows c) ≡ data_text c
data_is c = section (codes ".data") (content_rows c.content) (marks_and_names c) (flat_map ended (content_rows c.content)) (tail_text c) refl (tail_is c)

code_e_is : (c : ImageContents) → flat_map ended (code_e_rows c) ≡ code_e_text c
code_e_is c = section (codes ".e") (map word_text c.code_e) (data_rows c) (flat_map (λ w. ended (word_text w)) c.code_e) (data_text c) (mapped word_text c.code_e) (data_is c)

code_a_is : (c : ImageContents) → flat_map ended (code_a_rows c) ≡ code_a_text c
code_a_is c = section (codes ".a") (map word_text c.code_a) (code_e_rows c) (flat_map (λ w. ended (word_text w)) c.code_a) (code_e_text c) (mapped word_text c.code_a) (code_e_is c)

-- the listing part by part
parts : (c : ImageContents) → canon c ≡ flat_map ended (head_rows c) ++ code_a_text c
unfolding canon
parts c = then_more (head_rows c) (code_a_rows c) (flat_map ended (head_rows c)) (code_a_text c) refl (code_a_is c)

six : (h a e d m n v0 v1 v2 v3 v4 v5 v6 : List ℕ) → v0 ≡ [] → v1 ≡ v0 ++ h → v2 ≡ v1 ++ a → v3 ≡ v2 ++ e → v4 ≡ v3 ++ d → v5 ≡ v4 ++ m → v6 ≡ v5 ++ n → v6 ≡ h ++ (a ++ (e ++ (d ++ (m ++ n))))
six h a e d m n v0 v1 v2 v3 v4 v5 v6 e0 e1 e2 e3 e4 e5 e6 =
    let f1 : v1 ≡ h = e1 ∙ ap (λ (l : List ℕ). l ++ h) e0 in
    let f2 : v2 ≡ h ++ a = e2 ∙ ap (λ (l : List ℕ). l ++ a) f1 in
    let f3 : v3 ≡ (h ++ a) ++ e = e3 ∙ ap (λ (l : List ℕ). l ++ e) f2 in
    let f4 : v4 ≡ ((h ++ a) ++ e) ++ d = e4 ∙ ap (λ (l : List ℕ). l ++ d) f3 in
    let f5 : v5 ≡ (((h ++ a) ++ e) ++ d) ++ m = e5 ∙ ap (λ (l : List ℕ). l ++ m) f4 in
    let f6 : v6 ≡ ((((h ++ a) ++ e) ++ d) ++ m) ++ n = e6 ∙ ap (λ (l : List ℕ). l ++ n) f5 in
    f6 ∙ simp append_assoc

-- what is put part by part is the listing
pub whole : (c : ImageContents) (v0 v1 v2 v3 v4 v5 v6 : List ℕ) → v0 ≡ [] → v1 ≡ v0 ++ flat_map ended (head_rows c) → v2 ≡ v1 ++ (ended (codes ".a") ++ flat_map (λ w. ended (word_text w)) c.code_a) → v3 ≡ v2 ++ (ended (codes ".e") ++ flat_map (λ w. ended (word_text w)) c.code_e) → v4 ≡ v3 ++ (ended (codes ".data") ++ flat_map ended (content_rows c.content)) → v5 ≡ v4 ++ flat_map (λ m. ended (mark_row m)) c.lines → v6 ≡ v5 ++ flat_map (λ n. ended (row (codes ".name") n)) c.names → v6 ≡ canon c
whole c v0 v1 v2 v3 v4 v5 v6 e0 e1 e2 e3 e4 e5 e6 =
    six (flat_map ended (head_rows c)) (ended (codes ".a") ++ flat_map (λ w. ended (word_text w)) c.code_a) (ended (codes ".e") ++ flat_map (λ w. ended (word_text w)) c.code_e) (ended (codes ".data") ++ flat_map ended (content_rows c.content)) (flat_map (λ m. ended (mark_row m)) c.lines) (flat_map (λ n. ended (row (codes ".name") n)) c.names) v0 v1 v2 v3 v4 v5 v6 e0 e1 e2 e3 e4 e5 e6
    ∙ sym (parts c)

-- sixteen bytes make a line, and fewer the last
pub sixteen : (bytes : List ℕ) → 16 ≤ length bytes → content_rows bytes ≡ row (codes ".byte") (take 16 bytes) ∷ content_rows (drop 16 bytes)
sixteen [] many = absurd (omega arith)
sixteen (a ∷ []) many = absurd (omega arith)
sixteen (a ∷ b ∷ []) many = absurd (omega arith)
sixteen (a ∷ b ∷ c ∷ []) many = absurd (omega arith)
sixteen (a ∷ b ∷ c ∷ d ∷ []) many = absurd (omega arith)
sixteen (a ∷ b ∷ c ∷ d ∷ e ∷ []) many = absurd (omega arith)
sixteen (a ∷ b ∷ c ∷ d ∷ e ∷ f ∷ []) many = absurd (omega arith)
sixteen (a ∷ b ∷ c ∷ d ∷ e ∷ f ∷ g ∷ []) many = absurd (omega arith)
sixteen (a ∷ b ∷ c ∷ d ∷ e ∷ f ∷ g ∷ h ∷ []) many = absurd (omega arith)
sixteen (a ∷ b ∷ c ∷ d ∷ e ∷ f ∷ g ∷ h ∷ i ∷ []) many = absurd (omega arith)
sixteen (a ∷ b ∷ c ∷ d ∷ e ∷ f ∷ g ∷ h ∷ i ∷ j ∷ []) many = absurd (omega arith)
sixteen (a ∷ b ∷ c ∷ d ∷ e ∷ f ∷ g ∷ h ∷ i ∷ j ∷ k ∷ []) many = absurd (omega arith)
sixteen (a ∷ b ∷ c ∷ d ∷ e ∷ f ∷ g ∷ h ∷ i ∷ j ∷ k ∷ l ∷ []) many = absurd (omega arith)
sixteen (a ∷ b ∷ c ∷ d ∷ e ∷ f ∷ g ∷ h ∷ i ∷ j ∷ k ∷ l ∷ m ∷ []) many = absurd (omega arith)
sixteen (a ∷ b ∷ c ∷ d ∷ e ∷ f ∷ g ∷ h ∷ i ∷ j ∷ k ∷ l ∷ m ∷ n ∷ []) many = absurd (omega arith)
sixteen (a ∷ b ∷ c ∷ d ∷ e ∷ f ∷ g ∷ h ∷ i ∷ j ∷ k ∷ l ∷ m ∷ n ∷ o ∷ []) many = absurd (omega arith)
sixteen (a ∷ b ∷ c ∷ d ∷ e ∷ f ∷ g ∷ h ∷ i ∷ j ∷ k ∷ l ∷ m ∷ n ∷ o ∷ p ∷ bytes) many = refl

pub fewer : (bytes : List ℕ) → 0 < length bytes → length bytes < 16 → content_rows bytes ≡ row (codes ".byte") bytes ∷ []
fewer [] some few = absurd (omega arith)
fewer (a ∷ []) some few = refl
fewer (a ∷ b ∷ []) some few = refl
fewer (a ∷ b ∷ c ∷ []) some few = refl
fewer (a ∷ b ∷ c ∷ d ∷ []) some few = refl
fewer (a ∷ b ∷ c ∷ d ∷ e ∷ []) some few = refl
fewer (a ∷ b ∷ c ∷ d ∷ e ∷ f ∷ []) some few = refl
fewer (a ∷ b ∷ c ∷ d ∷ e ∷ f ∷ g ∷ []) some few = refl
fewer (a ∷ b ∷ c ∷ d ∷ e ∷ f ∷ g ∷ h ∷ []) some few = refl
fewer (a ∷ b ∷ c ∷ d ∷ e ∷ f ∷ g ∷ h ∷ i ∷ []) some few = refl
fewer (a ∷ b ∷ c ∷ d ∷ e ∷ f ∷ g ∷ h ∷ i ∷ j ∷ []) some few = refl
fewer (a ∷ b ∷ c ∷ d ∷ e ∷ f ∷ g ∷ h ∷ i ∷ j ∷ k ∷ []) some few = refl
fewer (a ∷ b ∷ c ∷ d ∷ e ∷ f ∷ g ∷ h ∷ i ∷ j ∷ k ∷ l ∷ []) some few = refl
fewer (a ∷ b ∷ c ∷ d ∷ e ∷ f ∷ g ∷ h ∷ i ∷ j ∷ k ∷ l ∷ m ∷ []) some few = refl
fewer (a ∷ b ∷ c ∷ d ∷ e ∷ f ∷ g ∷ h ∷ i ∷ j ∷ k ∷ l ∷ m ∷ n ∷ []) some few = refl
fewer (a ∷ b ∷ c ∷ d ∷ e ∷ f ∷ g ∷ h ∷ i ∷ j ∷ k ∷ l ∷ m ∷ n ∷ o ∷ []) some few = refl
fewer (a ∷ b ∷ c ∷ d ∷ e ∷ f ∷ g ∷ h ∷ i ∷ j ∷ k ∷ l ∷ m ∷ n ∷ o ∷ p ∷ bytes) some few = absurd (omega arith)

-- ---- a line behind others

pub line_behind : (old new bytes : List ℕ) → 16 ≤ length bytes → new ≡ old ++ ended (row (codes ".byte") (take 16 bytes)) → new ++ flat_map ended (content_rows (drop 16 bytes)) ≡ old ++ flat_map ended (content_rows bytes)
line_behind old new bytes some e =
    let rest : List ℕ = flat_map ended (content_rows (drop 16 bytes)) in
    let more : flat_map ended (content_rows bytes) ≡ ended (row (codes ".byte") (take 16 bytes)) ++ rest = ap (λ (rows : List (List ℕ)). flat_map ended rows) (sixteen bytes some) in
    ap (λ (front : List ℕ). front ++ rest) e ∙ append_assoc old (ended (row (codes ".byte") (take 16 bytes))) rest ∙ ap (λ (back : List ℕ). old ++ back) (sym more)

pub last_behind : (old new bytes : List ℕ) → 0 < length bytes → length bytes < 16 → new ≡ old ++ ended (row (codes ".byte") bytes) → new ≡ old ++ flat_map ended (content_rows bytes)
last_behind old new bytes some few e =
    let one : flat_map ended (content_rows bytes) ≡ ended (row (codes ".byte") bytes) ++ [] = ap (λ (rows : List (List ℕ)). flat_map ended rows) (fewer bytes some few) in
    e ∙ ap (λ (back : List ℕ). old ++ back) (sym (one ∙ append-nil (ended (row (codes ".byte") bytes))))

pub some_left : (bytes : List ℕ) → false ≡ (length bytes == 0) → 0 < length bytes
some_left [] e = absurd cc
some_left (b ∷ bytes) e = omega arith
