-- The words in front that begin with a dash, and those behind them.
use Rattle.std.proofs.Common.{◌≡◌, ℕ, zero, suc, ◌+◌, ◌-◌, ◌≤◌, Bool, true, false, not, cond, List, [], ◌∷◌, ◌++◌, length, get_or, take, drop, take_all, map, refl, sym, ap, ◌∙◌, subst, arith}
use Rattle.std.specs.List.{list_all, prefix_len}
use Rattle.std.proofs.lemmas.Bool.{and_parts, not-true}
use Rattle.dae_base.proofs.Laws.{is_true}
use Rattle.dae_cli_options.specs.Names.{AreFiles, begins_with_dash, is_file_name}
use Rattle.dae_cli_words.specs.Parts.{AreDashed, IsPlain}

pub same_middle : (m n f g : List (List ℕ)) → AreDashed m → AreDashed n → IsPlain f → IsPlain g → m ++ f ≡ n ++ g → (m ≡ n) × (f ≡ g)
same_middle [] [] f g d d' p p' e = (refl, e)
same_middle [] (y ∷ ys) [] g d d' p p' e = absurd (cc)
same_middle [] (y ∷ ys) (w ∷ ws) g d d' p p' e =
    let first : w ≡ y = cc in
    let both : false ≡ true = sym p ∙ (ap begins_with_dash first ∙ d'.0) in
    absurd (cc)
same_middle (x ∷ xs) [] f [] d d' p p' e = absurd (cc)
same_middle (x ∷ xs) [] f (w ∷ ws) d d' p p' e =
    let first : w ≡ x = cc in
    let both : false ≡ true = sym p' ∙ (ap begins_with_dash first ∙ d.0) in
    absurd (cc)
same_middle (x ∷ xs) (y ∷ ys) f g d d' p p' e =
    let rest = same_middle xs ys f g d.1 d'.1 p p' (cc) in
    let first : x ≡ y = cc in
    (rw (first, rest.0) refl, rest.1)

pub files_plain : (files : List (List ℕ)) → AreFiles files → IsPlain files
files_plain [] h = tt
files_plain (w ∷ ws) h = not-true (begins_with_dash w) (and_parts (not (begins_with_dash w)) _ (and_parts (is_file_name w) (list_all is_file_name ws) (is_true _ h.named)).0).0

-- ---- where the dashed words end

abbrev IsFront : List (List ℕ) → ℕ → Type 0
IsFront ws n = AreDashed (take n ws) × IsPlain (drop n ws)

front_next : (w : List ℕ) (ws : List (List ℕ)) (n : ℕ) (t : Bool) → begins_with_dash w ≡ t → IsFront ws n → IsFront (w ∷ ws) (cond t (1 + n) 0)
front_next w ws n true e rest =
    let more : suc n ≡ 1 + n = omega arith in
    subst (λ (k : ℕ). IsFront (w ∷ ws) k) more ((e, rest.0), rest.1)
front_next w ws n false e rest = (tt, e)

pub dashed_front : (ws : List (List ℕ)) → IsFront ws (prefix_len begins_with_dash ws)
dashed_front [] = (tt, tt)
dashed_front (w ∷ ws) = front_next w ws (prefix_len begins_with_dash ws) (begins_with_dash w) refl (dashed_front ws)

pub front_short : {X : Type 0} (text : X → List ℕ) (ws : List X) → prefix_len begins_with_dash (map text ws) ≤ length ws
front_short text [] = omega arith
front_short text (w ∷ ws) = by_test (begins_with_dash (text w)) (front_short text ws) where
  by_test : (t : Bool) → prefix_len begins_with_dash (map text ws) ≤ length ws → cond t (1 + prefix_len begins_with_dash (map text ws)) 0 ≤ suc (length ws)
  by_test true h = omega (arith, h)
  by_test false h = omega arith

take_texts : {X : Type 0} (text : X → List ℕ) (n : ℕ) (ws : List X) → map text (take n ws) ≡ take n (map text ws)
take_texts text zero ws = refl
take_texts text (suc n) [] = refl
take_texts text (suc n) (w ∷ ws) = ap (λ ts. text w ∷ ts) (take_texts text n ws)

drop_texts : {X : Type 0} (text : X → List ℕ) (n : ℕ) (ws : List X) → map text (drop n ws) ≡ drop n (map text ws)
drop_texts text zero ws = refl
drop_texts text (suc n) [] = refl
drop_texts text (suc n) (w ∷ ws) = drop_texts text n ws

pub texts_dashed : {X : Type 0} (text : X → List ℕ) (ws : List X) → AreDashed (map text (take (prefix_len begins_with_dash (map text ws)) ws))
texts_dashed text ws = subst AreDashed (sym (take_texts text _ ws)) (dashed_front (map text ws)).0

pub texts_plain : {X : Type 0} (text : X → List ℕ) (ws : List X) → IsPlain (map text (drop (prefix_len begins_with_dash (map text ws)) ws))
texts_plain text ws = subst IsPlain (sym (drop_texts text _ ws)) (dashed_front (map text ws)).1

pub first_and : {X : Type 0} (text : X → List ℕ) (ws : List X) (a : X) → 1 ≤ length ws → a ≡ get_or ws 0 a → map text ws ≡ text a ∷ map text (take (length ws - 1) (drop 1 ws))
first_and text [] a h e = absurd (omega arith)
first_and text (w ∷ ws) a h e = rw e (ap (λ ts. text w ∷ map text ts) (sym (take_all (length (w ∷ ws) - 1) ws (omega arith))))
