-- The first token of a line.
use Rattle.std.proofs.Common.{◌≡◌, ℕ, suc, ◌+◌, Bool, true, false, not, ◌&&◌, ◌==◌, cond, if◌then◌else◌, List, [], ◌∷◌, ◌++◌, take, drop, refl, ap, ◌∙◌, append_assoc, arith}
use Rattle.std.specs.List.{prefix_len}
use Rattle.std.proofs.lemmas.List.{append-nil}
use Rattle.dae_asm_lines.specs.Tokens.{LineToken, Sign, is_blank, is_sign, token_of, word_then, tokens_behind, tokens_of, before_comment}
use Rattle.dae_asm_lines.specs.Scanning.{is_word_byte, is_spoken}

-- what a word that has begun comes to, where the next byte is of this kind
abbrev behind : Bool → Bool → List ℕ → ℕ → List ℕ → List LineToken
behind blank sign w b bs = if blank then word_then w (tokens_behind [] bs) else (if sign then word_then w (Sign b ∷ tokens_behind [] bs) else tokens_behind (w ++ b ∷ []) bs)

abbrev run : Bool → Bool → List ℕ → ℕ
run blank sign bs = cond (not blank && not sign) (1 + prefix_len is_word_byte bs) 0

-- the word ends before the first blank or sign
abbrev Ends : List ℕ → List ℕ → ℕ → List LineToken → Type 0
Ends w bs n tokens = tokens ≡ word_then (w ++ take n bs) (tokens_behind [] (drop n bs))

by_kind : (w : List ℕ) (b : ℕ) (bs : List ℕ) (blank sign : Bool) → is_blank b ≡ blank → is_sign b ≡ sign → Ends (w ++ b ∷ []) bs (prefix_len is_word_byte bs) (tokens_behind (w ++ b ∷ []) bs) → Ends w (b ∷ bs) (run blank sign bs) (behind blank sign w b bs)
by_kind w b bs true sign e f rest =
    let front : w ++ [] ≡ w = append-nil w in
    let same : tokens_behind [] (b ∷ bs) ≡ tokens_behind [] bs = rw e refl in
    rw (front, same) refl
by_kind w b bs false true e f rest =
    let front : w ++ [] ≡ w = append-nil w in
    let same : tokens_behind [] (b ∷ bs) ≡ Sign b ∷ tokens_behind [] bs = rw (e, f) refl in
    rw (front, same) refl
by_kind w b bs false false e f rest =
    let one : 1 + prefix_len is_word_byte bs ≡ suc (prefix_len is_word_byte bs) = omega arith in
    rw one (rest ∙ simp append_assoc)

pub word_ends : (w bs : List ℕ) → Ends w bs (prefix_len is_word_byte bs) (tokens_behind w bs)
word_ends w [] = let front : w ++ [] ≡ w = append-nil w in rw front refl
word_ends w (b ∷ bs) = by_kind w b bs (is_blank b) (is_sign b) refl refl (word_ends (w ++ b ∷ []) bs)

pub no_token : tokens_of [] ≡ []
unfolding tokens_of
no_token = refl

pub sign_first : (b : ℕ) (bs : List ℕ) → is_blank b ≡ false → is_sign b ≡ true → tokens_of (b ∷ bs) ≡ Sign b ∷ tokens_of bs
unfolding tokens_of
sign_first b bs e f = rw (e, f) refl

pub word_first : (b : ℕ) (bs : List ℕ) → is_blank b ≡ false → is_sign b ≡ false → tokens_of (b ∷ bs) ≡ token_of (take (1 + prefix_len is_word_byte bs) (b ∷ bs)) ∷ tokens_of (drop (1 + prefix_len is_word_byte bs) (b ∷ bs))
unfolding tokens_of
word_first b bs e f =
    let one : 1 + prefix_len is_word_byte bs ≡ suc (prefix_len is_word_byte bs) = omega arith in
    rw (one, e, f) (word_ends (b ∷ []) bs)

-- ---- comments

spoken_by : (b : ℕ) (bs : List ℕ) (t : Bool) → (b == 59) ≡ t → take (prefix_len is_spoken bs) bs ≡ before_comment bs → take (cond (not t) (1 + prefix_len is_spoken bs) 0) (b ∷ bs) ≡ (if t then [] else b ∷ before_comment bs)
spoken_by b bs true e rest = refl
spoken_by b bs false e rest =
    let one : 1 + prefix_len is_spoken bs ≡ suc (prefix_len is_spoken bs) = omega arith in
    rw one (ap (λ (r : List ℕ). b ∷ r) rest)

pub spoken_part : (line : List ℕ) → take (prefix_len is_spoken line) line ≡ before_comment line
spoken_part [] = refl
spoken_part (b ∷ bs) = spoken_by b bs (b == 59) refl (spoken_part bs)
