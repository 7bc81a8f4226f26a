-- The first place of a word among words, and the words that have numbers.
use Rattle.std.proofs.Common.{◌≡◌, ℕ, ◌+◌, ◌<◌, ◌≤◌, Bool, true, false, not, cond, ◌||◌, if◌then◌else◌, List, [], ◌∷◌, ◌++◌, get_or, length, refl, ap, sym, subst, ◌∙◌, arith, nat_eq}
use Rattle.std.specs.List.{list_any, position_or_len}
use Rattle.std.specs.Str.{bytes_eq}
use Rattle.std.proofs.lemmas.List.{length-append}
use Rattle.std.proofs.lemmas.List.Sums.{passes_at_first}
use Rattle.std.proofs.lemmas.Bool.Decides.{same_from_decides, Decides-like, Decides-eqb}
use Rattle.std.proofs.lemmas.Slice.Eq.{bytes_eq-Decides}
use Rattle.dae_lex.specs.declared.numbers.WordNumbers.{WordNumbers}
use Rattle.dae_lex.specs.Numbers.{words_of, IsName}

position_one : (b : Bool) (k n : ℕ) → k ≤ n → cond (not b) (1 + k) 0 ≤ n + 1
position_one true k n h = omega arith
position_one false k n h = omega arith

pub position_most : (p : List ℕ → Bool) (ns : List (List ℕ)) → position_or_len p ns ≤ length ns
position_most p [] = omega arith
position_most p (n ∷ ns) = omega (arith, position_one (p n) (position_or_len p ns) (length ns) (position_most p ns))

found_one : (b c : Bool) (k n : ℕ) → (c ≡ true → k < n) → (b || c) ≡ true → cond (not b) (1 + k) 0 < n + 1
found_one true c k n h e = omega arith
found_one false c k n h e = let l = h e in omega arith

pub position_found : (p : List ℕ → Bool) (ns : List (List ℕ)) → list_any p ns ≡ true → position_or_len p ns < length ns
position_found p [] h = absurd (cc)
position_found p (n ∷ ns) h = omega (arith, found_one (p n) (list_any p ns) (position_or_len p ns) (length ns) (position_found p ns) h)

-- a word that is found keeps its place when another goes last, and one that goes last is found
found_first : (b : Bool) (k n : ℕ) → cond (not b) (1 + k) 0 < n + 1 → b ≡ false → k < n
found_first true k n h e = absurd (cc)
found_first false k n h e = omega arith

again : (b : Bool) (k j : ℕ) → (b ≡ false → k ≡ j) → cond (not b) (1 + k) 0 ≡ cond (not b) (1 + j) 0
again true k j h = refl
again false k j h = ap (λ n. 1 + n) (h refl)

pub place_kept : (p : List ℕ → Bool) (ns ms : List (List ℕ)) → position_or_len p ns < length ns → position_or_len p (ns ++ ms) ≡ position_or_len p ns
place_kept p [] ms h = absurd (omega arith)
place_kept p (n ∷ ns) ms h =
    again (p n) (position_or_len p (ns ++ ms)) (position_or_len p ns)
    (λ e. place_kept p ns ms (found_first (p n) (position_or_len p ns) (length ns) (omega (arith, h)) e))

pub place_last : (p : List ℕ → Bool) (ns : List (List ℕ)) (n : List ℕ) → p n ≡ true → position_or_len p (ns ++ n ∷ []) ≡ position_or_len p ns
place_last p [] n h = ap (λ b. cond (not b) 1 0) h
place_last p (m ∷ ns) n h = ap (λ k. cond (not (p m)) (1 + k) 0) (place_last p ns n h)

-- the words with one more
abbrev pub with_word : List (List ℕ) → List ℕ → List (List ℕ)
with_word ns n = if list_any (bytes_eq n) ns then ns else ns ++ n ∷ []

abbrev pub IsAt : List (List ℕ) → ℕ → List ℕ → Type 0
IsAt ns k n = (k ≡ position_or_len (bytes_eq n) ns) × (k < length ns)

at_by : (ns : List (List ℕ)) (n : List ℕ) (b : Bool) → list_any (bytes_eq n) ns ≡ b → IsAt (if b then ns else ns ++ n ∷ []) (position_or_len (bytes_eq n) ns) n
at_by ns n true e = (refl, position_found (bytes_eq n) ns e)
at_by ns n false e =
    (sym (place_last (bytes_eq n) ns n ((bytes_eq-Decides n n).1 refl)), omega (arith, position_most (bytes_eq n) ns, length-append ns (n ∷ [])))

pub at_word : (ns : List (List ℕ)) (n : List ℕ) → IsAt (with_word ns n) (position_or_len (bytes_eq n) ns) n
at_word ns n = at_by ns n (list_any (bytes_eq n) ns) refl

kept_by : (ns : List (List ℕ)) (n : List ℕ) (b : Bool) (k : ℕ) (m : List ℕ) → IsAt ns k m → IsAt (if b then ns else ns ++ n ∷ []) k m
kept_by ns n true k m h = h
kept_by ns n false k m h =
    let within = subst (λ i. i < length ns) h.0 h.1 in
    (h.0 ∙ sym (place_kept (bytes_eq m) ns (n ∷ []) within), omega (arith, h.1, length-append ns (n ∷ [])))

pub kept_word : (ns : List (List ℕ)) (n : List ℕ) (k : ℕ) (m : List ℕ) → IsAt ns k m → IsAt (with_word ns n) k m
kept_word ns n k m h = kept_by ns n (list_any (bytes_eq n) ns) k m h

-- what stands at a word's place
word_at : (ns : List (List ℕ)) (k : ℕ) (n : List ℕ) → IsAt ns k n → get_or ns k [] ≡ n
word_at ns k n h =
    let within = subst (λ i. i < length ns) h.0 h.1 in
    ap (λ i. get_or ns i []) h.0 ∙ sym ((bytes_eq-Decides n _).0 (passes_at_first (bytes_eq n) ns [] within))

-- numbers of words are equal where the words are
pub same_word : (w : WordNumbers) (j k : ℕ) (m n : List ℕ) → IsName w j m → IsName w k n → nat_eq j k ≡ bytes_eq m n
same_word w j k m n a b =
    let ws = words_of w in
    same_from_decides {P = m ≡ n} (nat_eq j k) (bytes_eq m n)
    (Decides-like (nat_eq j k)
    (λ e. sym (word_at ws j m a) ∙ ap (λ i. get_or ws i []) e ∙ word_at ws k n b)
    (λ e. a.0 ∙ ap (λ s. position_or_len (bytes_eq s) ws) e ∙ sym b.0)
    (Decides-eqb j k))
    (bytes_eq-Decides m n)
