-- What stands before and behind a byte, and words with one blank between.
use Rattle.std.proofs.Common.{◌≡◌, ◌≢◌, ℕ, suc, ◌+◌, ◌<◌, List, [], ◌∷◌, ◌++◌, length, get_or, take, drop, refl, ap, sym, ◌∙◌, arith, drop-cons, length-take}
use Rattle.std.specs.Prelude.{Option, None, Some}
use Rattle.std.proofs.lemmas.List.{append-nil, take-append-drop, get_or-take}
use Rattle.dae_certificate.specs.Cuts.{Lacks, onward, IsCut}
use Rattle.dae_certificate.specs.Lines.{spaced}

-- ---- a cut

-- at the first such byte
pub cut_at : (byte : ℕ) (bytes : List ℕ) (place : ℕ) → place < length bytes → get_or bytes place 0 ≡ byte
    → ((k : ℕ) → k < place → get_or bytes k 0 ≢ byte) → IsCut byte bytes (take place bytes) (Some (drop (place + 1) bytes))
cut_at byte bytes place l is before = record {
  whole = sym (take-append-drop place bytes) ∙ ap (λ z. take place bytes ++ z) (drop-cons bytes place 0 l ∙ rw (is, add) refl);
  first = λ k m e. before k (omega (arith, length-take place bytes)) (sym (get_or-take place bytes k 0 (omega (arith, length-take place bytes))) ∙ e);
}
  where
    add : suc place ≡ place + 1
    add = omega arith

-- where there is none
pub cut_whole : (byte : ℕ) (bytes : List ℕ) → Lacks byte bytes → IsCut byte bytes bytes None
cut_whole byte bytes lacks = record { whole = sym (append-nil bytes); first = lacks }

-- bytes are cut in one way
onward_once : (byte : ℕ) (b c : Option (List ℕ)) → onward byte b ≡ onward byte c → b ≡ c
onward_once byte None None e = refl
onward_once byte None (Some c) e = absurd cc
onward_once byte (Some b) None e = absurd cc
onward_once byte (Some b) (Some c) e = cc

not_here : (byte x : ℕ) (xs : List ℕ) (b : Option (List ℕ)) (ys : List ℕ) → Lacks byte (x ∷ xs) → onward byte b ≡ x ∷ ys → ⊥
not_here byte x xs None ys lacks e = cc
not_here byte x xs (Some b) ys lacks e = let same : x ≡ byte = cc in lacks 0 (omega arith) same

later : (byte x : ℕ) (xs : List ℕ) → Lacks byte (x ∷ xs) → Lacks byte xs
later byte x xs lacks k l e = lacks (suc k) (omega arith) e

pub cut_once : (byte : ℕ) (front w : List ℕ) (b c : Option (List ℕ)) → Lacks byte front → Lacks byte w
    → front ++ onward byte b ≡ w ++ onward byte c → (front ≡ w) × (b ≡ c)
cut_once byte [] [] b c l m e = (refl, onward_once byte b c e)
cut_once byte [] (x ∷ xs) b c l m e = absurd (not_here byte x xs b (xs ++ onward byte c) m e)
cut_once byte (x ∷ xs) [] b c l m e = absurd (not_here byte x xs c (xs ++ onward byte b) l (sym e))
cut_once byte (x ∷ xs) (y ∷ ys) b c l m e =
    let head : x ≡ y = cc in
    let tail : xs ++ onward byte b ≡ ys ++ onward byte c = cc in
    let r = cut_once byte xs ys b c (later byte x xs l) (later byte y ys m) tail in
    let r0 = r.0 in
    (cc, r.1)

-- ---- words with blanks between

-- the words behind the first
abbrev pub others : List (List ℕ) → Option (List ℕ)
others [] = None
others (v ∷ vs) = Some (spaced (v ∷ vs))

pub spaced_parts : (w : List ℕ) (ws : List (List ℕ)) → spaced (w ∷ ws) ≡ w ++ onward 32 (others ws)
spaced_parts w [] = sym (append-nil w)
spaced_parts w (v ∷ vs) = refl

-- the first word and the others, by a cut
pub first_word : (bytes front w : List ℕ) (ws : List (List ℕ)) (back : Option (List ℕ)) → IsCut 32 bytes front back → Lacks 32 w
    → bytes ≡ spaced (w ∷ ws) → (front ≡ w) × (back ≡ others ws)
first_word bytes front w ws back cut lacks e = cut_once 32 front w back (others ws) cut.first lacks (sym cut.whole ∙ (e ∙ spaced_parts w ws))

-- and back
pub words_join : (bytes front w : List ℕ) (ws : List (List ℕ)) (back : Option (List ℕ)) → IsCut 32 bytes front back
    → front ≡ w → back ≡ others ws → bytes ≡ spaced (w ∷ ws)
words_join bytes front w ws back cut e f = cut.whole ∙ (rw (e, f) refl ∙ sym (spaced_parts w ws))
