-- The first line of a text.
use Rattle.std.proofs.Common.{◌≡◌, ℕ, suc, ◌+◌, ◌<◌, Bool, true, false, not, ◌==◌, cond, if◌then◌else◌, List, [], ◌∷◌, ◌++◌, length, take, drop, refl, sym, ap, ◌∙◌, append_assoc, arith}
use Rattle.std.specs.List.{prefix_len}
use Rattle.std.proofs.lemmas.List.{append-nil}
use Rattle.dae_asm_order.specs.Sheets.{line_then, lines_behind, lines_of}
use Rattle.dae_asm_order.specs.Walking.{is_inner}

-- a line that is ended by what follows, and the lines behind it
abbrev ends : List ℕ → List ℕ → List (List ℕ)
ends line [] = line_then line []
ends line (b ∷ after) = line ∷ lines_behind [] after

by_feed : (w : List ℕ) (b : ℕ) (bs : List ℕ) (t : Bool) → (b == 10) ≡ t → lines_behind (w ++ b ∷ []) bs ≡ ends ((w ++ b ∷ []) ++ take (prefix_len is_inner bs) bs) (drop (prefix_len is_inner bs) bs) → (if t then w ∷ lines_behind [] bs else lines_behind (w ++ b ∷ []) bs) ≡ ends (w ++ take (cond (not t) (1 + prefix_len is_inner bs) 0) (b ∷ bs)) (drop (cond (not t) (1 + prefix_len is_inner bs) 0) (b ∷ bs))
by_feed w b bs true e rest = let front : w ++ [] ≡ w = append-nil w in rw front refl
by_feed w b bs false e rest =
    let one : 1 + prefix_len is_inner bs ≡ suc (prefix_len is_inner bs) = omega arith in
    rw one (rest ∙ simp append_assoc)

line_ends : (w text : List ℕ) → lines_behind w text ≡ ends (w ++ take (prefix_len is_inner text) text) (drop (prefix_len is_inner text) text)
line_ends w [] = let front : w ++ [] ≡ w = append-nil w in rw front refl
line_ends w (b ∷ bs) = by_feed w b bs (b == 10) refl (line_ends (w ++ b ∷ []) bs)

one_line : (line : List ℕ) → 0 < length line → line_then line [] ≡ line ∷ []
one_line [] some = absurd (omega arith)
one_line (b ∷ bs) some = refl

nothing : lines_of [] ≡ []
unfolding lines_of
nothing = refl

-- the text is one line
pub last_line : (text line rest : List ℕ) → 0 < length line → line ≡ take (prefix_len is_inner text) text → rest ≡ drop (prefix_len is_inner text) text → rest ≡ [] → lines_of text ≡ line ∷ lines_of rest
unfolding lines_of
last_line text line rest some front back none =
    let e : lines_of text ≡ ends line rest = line_ends [] text ∙ ap (λ (l : List ℕ). ends l (drop (prefix_len is_inner text) text)) (sym front) ∙ ap (ends line) (sym back) in
    e ∙ ap (ends line) none ∙ one_line line some ∙ ap (λ (ls : List (List ℕ)). line ∷ ls) (ap lines_of (sym none))

-- a line feed ends the first line
pub next_line : (text line rest : List ℕ) (b : ℕ) (after : List ℕ) → line ≡ take (prefix_len is_inner text) text → rest ≡ drop (prefix_len is_inner text) text → rest ≡ b ∷ after → lines_of text ≡ line ∷ lines_of after
unfolding lines_of
next_line text line rest b after front back some =
    let e : lines_of text ≡ ends line rest = line_ends [] text ∙ ap (λ (l : List ℕ). ends l (drop (prefix_len is_inner text) text)) (sym front) ∙ ap (ends line) (sym back) in
    e ∙ ap (ends line) some
