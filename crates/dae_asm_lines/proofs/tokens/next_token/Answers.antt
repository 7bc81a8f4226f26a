use Rattle.std.proofs.Common.{◌≡◌, ℕ, ◌+◌, ◌-◌, ◌≤◌, true, false, length, List, [], ◌∷◌, take, drop, get_or, sym, ap, ◌∙◌, refl, arith, Some}
use Rattle.std.specs.List.{prefix_len}
use Rattle.std.proofs.lemmas.List.{take_rest}
use Rattle.dae_asm_lines.specs.Tokens.{LineToken, Sign, is_sign, token_of, tokens_of}
use Rattle.dae_asm_lines.specs.Scanning.{first_token, is_word_byte, BeginsNoBlank}
use Rattle.dae_asm_lines.proofs.Words.{sign_first, word_first}
use Rattle.dae_asm_lines.proofs.tokens.next_token.Goals as goal

-- what code calls the rest of a line behind its first byte
sign_read : (line : List ℕ) → 1 ≤ length line → BeginsNoBlank line → is_sign (get_or line 0 0) ≡ true → tokens_of line ≡ Sign (get_or line 0 0) ∷ tokens_of (take (length line - 1) (drop 1 line))
sign_read [] some blank sign = absurd (omega arith)
sign_read (b ∷ bs) some blank sign =
    let rest : take (length (b ∷ bs) - 1) (drop 1 (b ∷ bs)) ≡ bs = take_rest (b ∷ bs) 1 in
    rw rest (sign_first b bs blank sign)

word_read : (line rest : List ℕ) (n : ℕ) → 1 ≤ length line → BeginsNoBlank line → is_sign (get_or line 0 0) ≡ false → rest ≡ take (length line - 1) (drop 1 line) → n ≡ prefix_len is_word_byte rest → tokens_of line ≡ token_of (take (1 + n) line) ∷ tokens_of (drop (1 + n) line)
word_read [] rest n some blank sign is counted = absurd (omega arith)
word_read (b ∷ bs) rest n some blank sign is counted =
    let same : rest ≡ bs = is ∙ take_rest (b ∷ bs) 1 in
    let all : n ≡ prefix_len is_word_byte bs = counted ∙ ap (prefix_len is_word_byte) same in
    rw all (word_first b bs blank sign)

pub returns-then-is_sign : goal.returns-then-is_sign
returns-then-is_sign c =
    let line = c.after_blanks-rest.result.now in
    let read = sign_read line c.in-len1-up.len_at_least c.after_blanks-rest.ensures.begins (sym c.if-is_sign.ensures) in
    let same = c.after_blanks-rest.ensures.same in
    ap first_token (sym same ∙ read)

joined : (l line w b : List ℕ) (t : LineToken) (n : ℕ) → tokens_of line ≡ tokens_of l → tokens_of line ≡ token_of (take (1 + n) line) ∷ tokens_of (drop (1 + n) line) → w ≡ take (1 + n) line → b ≡ drop (1 + n) line → t ≡ token_of w → first_token (tokens_of l) ≡ Some (t, tokens_of b)
joined l line w b t n same read front back token =
    let tokens : tokens_of l ≡ t ∷ tokens_of b = cc in
    ap first_token tokens

pub returns : goal.returns
returns c =
    let line = c.after_blanks-rest.result.now in
    let read = word_read line _ c.word_length.result c.in-len1-up.len_at_least c.after_blanks-rest.ensures.begins (sym c.if-is_sign.ensures) refl c.word_length.ensures.counted in
    joined c.args.line.now line c.split_at.result.0.now c.split_at.result.1.now _ c.word_length.result c.after_blanks-rest.ensures.same read c.split_at.ensures.front c.split_at.ensures.back c.token_of.ensures
