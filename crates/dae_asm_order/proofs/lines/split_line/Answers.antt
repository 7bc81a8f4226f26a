use Rattle.std.proofs.Common.{◌≡◌, ℕ, ◌-◌, ◌<◌, ◌≤◌, List, [], ◌∷◌, length, take, drop, refl, ap, ◌∙◌, arith}
use Rattle.std.specs.List.{prefix_len}
use Rattle.std.proofs.lemmas.List.{take_rest}
use Rattle.dae_asm_order.specs.Sheets.{lines_of}
use Rattle.dae_asm_order.specs.Walking.{is_inner}
use Rattle.dae_asm_order.proofs.Split.{last_line, next_line}
use Rattle.dae_asm_order.proofs.lines.split_line.Goals as goal

none_left : (rest : List ℕ) → length rest < 1 → rest ≡ []
none_left [] few = refl
none_left (b ∷ bs) few = absurd (omega arith)

-- what code calls the bytes behind the first
some_left : (text line rest : List ℕ) → line ≡ take (prefix_len is_inner text) text → rest ≡ drop (prefix_len is_inner text) text → 1 ≤ length rest → lines_of text ≡ line ∷ lines_of (take (length rest - 1) (drop 1 rest))
some_left text line [] front back some = absurd (omega arith)
some_left text line (b ∷ bs) front back some =
    let after : take (length (b ∷ bs) - 1) (drop 1 (b ∷ bs)) ≡ bs = take_rest (b ∷ bs) 1 in
    rw after (next_line text line (b ∷ bs) b bs front back refl)

counted : (text l : List ℕ) (n : ℕ) → n ≡ prefix_len is_inner text → l ≡ take n text → l ≡ take (prefix_len is_inner text) text
counted text l n e h = h ∙ ap (λ (k : ℕ). take k text) e

counted_back : (text l : List ℕ) (n : ℕ) → n ≡ prefix_len is_inner text → l ≡ drop n text → l ≡ drop (prefix_len is_inner text) text
counted_back text l n e h = h ∙ ap (λ (k : ℕ). drop k text) e

pub returns-in-empty-clause-parts : goal.returns-in-empty-clause-parts
returns-in-empty-clause-parts c =
    let text = c.args.text.now in
    let line = c.split_at.result.0.now in
    let rest = c.split_at.result.1.now in
    last_line text line rest (omega arith)
    (counted text line c.line_length.result c.line_length.ensures.counted c.split_at.ensures.front)
    (counted_back text rest c.line_length.result c.line_length.ensures.counted c.split_at.ensures.back)
    (none_left rest c.in-empty.len_below)

pub returns-in-len1-up-clause-parts : goal.returns-in-len1-up-clause-parts
returns-in-len1-up-clause-parts c =
    let text = c.args.text.now in
    let line = c.split_at.result.0.now in
    let rest = c.split_at.result.1.now in
    some_left text line rest
    (counted text line c.line_length.result c.line_length.ensures.counted c.split_at.ensures.front)
    (counted_back text rest c.line_length.result c.line_length.ensures.counted c.split_at.ensures.back)
    c.in-len1-up.len_at_least
