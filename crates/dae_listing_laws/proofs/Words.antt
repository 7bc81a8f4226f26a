-- A line read word by word.
use Rattle.std.proofs.Common.{◌≡◌, ℕ, ◌<◌, Bool, true, false, not, ◌&&◌, List, [], ◌∷◌, ◌++◌, length, refl, sym, ap, ◌∙◌, append_assoc, arith}
use Rattle.std.specs.List.{list_all}
use Rattle.std.proofs.lemmas.Bool.{and_parts}
use Rattle.std.proofs.lemmas.List.{append-nil}
use Rattle.dae_asm_lines.specs.Tokens.{Sign, is_blank, is_sign, token_of, tokens_behind, tokens_of}
use Rattle.dae_asm_lines.specs.Scanning.{is_word_byte}

-- bytes of a word
pub record IsWord (w : List ℕ) : Type 0 where
  pub some : 0 < length w
  pub inner : list_all is_word_byte w ≡ true

by_kind : (w : List ℕ) (b : ℕ) (bs : List ℕ) (blank sign : Bool) → is_blank b ≡ blank → is_sign b ≡ sign → (not blank && not sign) ≡ true → tokens_behind w (b ∷ bs) ≡ tokens_behind (w ++ b ∷ []) bs
by_kind w b bs false false e f h = rw (e, f) refl
by_kind w b bs false true e f h = absurd cc
by_kind w b bs true sign e f h = absurd cc

run_on : (w ds rest : List ℕ) → list_all is_word_byte ds ≡ true → tokens_behind w (ds ++ rest) ≡ tokens_behind (w ++ ds) rest
run_on w [] rest h = let e : w ++ [] ≡ w = append-nil w in rw e refl
run_on w (d ∷ ds) rest h =
    let parts = and_parts (is_word_byte d) (list_all is_word_byte ds) h in
    by_kind w d (ds ++ rest) (is_blank d) (is_sign d) refl refl parts.0 ∙ run_on (w ++ d ∷ []) ds rest parts.1 ∙ ap (λ (x : List ℕ). tokens_behind x rest) (append_assoc w (d ∷ []) ds)

pub word_end : (w : List ℕ) → IsWord w → tokens_of w ≡ token_of w ∷ []
unfolding tokens_of
word_end [] h = absurd (let some = h.some in omega arith)
word_end (b ∷ bs) h = ap (λ (x : List ℕ). tokens_behind [] x) (sym (append-nil (b ∷ bs))) ∙ run_on [] (b ∷ bs) [] h.inner

pub word_blank : (w rest : List ℕ) → IsWord w → tokens_of (w ++ 32 ∷ rest) ≡ token_of w ∷ tokens_of rest
unfolding tokens_of is_blank
word_blank [] rest h = absurd (let some = h.some in omega arith)
word_blank (b ∷ bs) rest h = run_on [] (b ∷ bs) (32 ∷ rest) h.inner

pub word_sign : (w rest : List ℕ) (s : ℕ) → is_blank s ≡ false → is_sign s ≡ true → IsWord w → tokens_of (w ++ s ∷ rest) ≡ token_of w ∷ Sign s ∷ tokens_of rest
unfolding tokens_of
word_sign [] rest s e f h = absurd (let some = h.some in omega arith)
word_sign (b ∷ bs) rest s e f h = run_on [] (b ∷ bs) (s ∷ rest) h.inner ∙ rw (e, f) refl
