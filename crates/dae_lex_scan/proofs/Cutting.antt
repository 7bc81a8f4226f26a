-- A text cut piece by piece.
use Rattle.std.proofs.Common.{◌≡◌, ℕ, zero, suc, pred, ◌+◌, ◌-◌, ◌<◌, ◌≤◌, List, [], ◌∷◌, map, take, drop, get_or, length, ◌++◌, refl, ap, sym, ◌∙◌, append_assoc, append-nil, arith, add-zero}
use Rattle.std.proofs.lemmas.List.{get_or-drop, drop_all, drop-drop, length-drop, length-map, take-append-drop}
use Rattle.dae_tree.specs.declared.pieces.TextSpot.{TextSpot}
use Rattle.dae_tree.specs.declared.pieces.Lexeme.{Lexeme}
use Rattle.dae_tree.specs.Lines.{Char, bytes_of, spots_of, start_of}
use Rattle.dae_tree.specs.Forms.{form}
use Rattle.dae_tree.specs.Pieces.{Cut, cut, piece}
use Rattle.dae_lex_scan.specs.Cuts.{chars}

drop_map : {A B : Type 0} (f : A → B) (n : ℕ) (xs : List A) → map f (drop n xs) ≡ drop n (map f xs)
drop_map f zero xs = refl
drop_map f (suc n) [] = refl
drop_map f (suc n) (x ∷ xs) = drop_map f n xs

bytes_chars : (bytes : List ℕ) (spots : List TextSpot) → length bytes ≡ length spots → bytes_of (chars bytes spots) ≡ bytes
bytes_chars [] spots h = refl
bytes_chars (b ∷ bs) [] h = absurd (cc)
bytes_chars (b ∷ bs) (s ∷ ss) h = ap (λ xs. b ∷ xs) (bytes_chars bs ss (cc))

spots_chars : (bytes : List ℕ) (spots : List TextSpot) → length bytes ≡ length spots → spots_of (chars bytes spots) ≡ spots
spots_chars [] [] h = refl
spots_chars [] (s ∷ ss) h = absurd (cc)
spots_chars (b ∷ bs) [] h = absurd (cc)
spots_chars (b ∷ bs) (s ∷ ss) h = ap (λ xs. s ∷ xs) (spots_chars bs ss (cc))

pub chars_of : (cs : List Char) → chars (bytes_of cs) (spots_of cs) ≡ cs
chars_of [] = refl
chars_of (c ∷ cs) = ap (λ xs. c ∷ xs) (chars_of cs)

cut_on : (n : ℕ) (cs : List Char) → cut n cs ≡ cut 0 (drop n cs)
cut_on zero cs = refl
cut_on (suc n) [] = refl
cut_on (suc n) (c ∷ cs) = cut_on n cs

drop_pred : {A : Type 0} (n : ℕ) (x : A) (xs : List A) → 0 < n → drop (pred n) xs ≡ drop n (x ∷ xs)
drop_pred zero x xs h = absurd (omega arith)
drop_pred (suc n) x xs h = refl

-- the first piece, and the rest
front : (cs : List Char) (f : Lexeme) → 0 < length cs → f ≡ form (bytes_of cs) → 0 < f.length
    → cut 0 cs ≡ piece f cs ∷ cut 0 (drop f.length cs)
front [] f h e w = absurd (omega arith)
front (c ∷ cs) f h e w =
    ap (λ g. piece g (c ∷ cs) ∷ cut (pred g.length) cs) (sym e)
    ∙ ap (λ rest. piece f (c ∷ cs) ∷ rest) (cut_on (pred f.length) cs ∙ ap (cut 0) (drop_pred f.length c cs w))

-- a piece by the bytes and the spots
abbrev of_lists : Lexeme → List ℕ → List TextSpot → Cut
of_lists f bytes spots = record {
  kind = f.kind;
  spelling = take f.length bytes;
  start = (get_or spots 0 (start_of 0)).offset;
  end = (get_or spots (f.length - 1) (start_of 0)).offset + 1;
  place = (get_or spots f.at (start_of 0)).place;
}

module _ (bytes : List ℕ) (spots : List TextSpot) (same : length bytes ≡ length spots) (at : ℕ) where
  bytes_from : bytes_of (drop at (chars bytes spots)) ≡ drop at bytes
  bytes_from = drop_map (λ (c : Char). c.byte) at (chars bytes spots) ∙ ap (drop at) (bytes_chars bytes spots same)

  spots_from : spots_of (drop at (chars bytes spots)) ≡ drop at spots
  spots_from = drop_map (λ (c : Char). c.spot) at (chars bytes spots) ∙ ap (drop at) (spots_chars bytes spots same)

  pub piece_from : (f : Lexeme) (spelling : List ℕ) (first last faulty : TextSpot)
      → spelling ≡ take f.length (drop at bytes) → first ≡ get_or spots at (start_of 0)
      → last ≡ get_or spots (at + (f.length - 1)) (start_of 0) → faulty ≡ get_or spots (at + f.at) (start_of 0)
      → record { kind = f.kind; spelling = spelling; start = first.offset; end = last.offset + 1; place = faulty.place }
      ≡ piece f (drop at (chars bytes spots))
  piece_from f spelling first last faulty p a b c =
      let zeroth : get_or spots at (start_of 0) ≡ get_or (drop at spots) 0 (start_of 0) =
      ap (λ i. get_or spots i (start_of 0)) (sym (add-zero at)) ∙ sym (get_or-drop at spots 0 (start_of 0)) in
      let lists : of_lists f (bytes_of (drop at (chars bytes spots))) (spots_of (drop at (chars bytes spots))) ≡ of_lists f (drop at bytes) (drop at spots) =
      rw (bytes_from, spots_from) refl in
      rw (p, a, b, c, zeroth, ← get_or-drop at spots (f.length - 1) (start_of 0), ← get_or-drop at spots f.at (start_of 0)) (sym lists)

  length_chars : length (chars bytes spots) ≡ length bytes
  length_chars = sym (length-map (chars bytes spots) (λ c. c.byte)) ∙ ap length (bytes_chars bytes spots same)

  -- the next piece, and the rest
  pub cut_more : (f : Lexeme) → at < length bytes → f ≡ form (drop at bytes) → 0 < f.length
      → cut 0 (drop at (chars bytes spots)) ≡ piece f (drop at (chars bytes spots)) ∷ cut 0 (drop (at + f.length) (chars bytes spots))
  cut_more f h e w =
      front (drop at (chars bytes spots)) f (omega (arith, length-drop at (chars bytes spots), length_chars)) (e ∙ ap form (sym bytes_from)) w
      ∙ ap (λ rest. piece f (drop at (chars bytes spots)) ∷ cut 0 rest) (drop-drop f.length at (chars bytes spots))

  pub cut_all : length bytes ≤ at → cut 0 (drop at (chars bytes spots)) ≡ []
  cut_all h = ap (cut 0) (drop_all at (chars bytes spots) (omega (arith, length_chars)))

  -- what the pieces so far spell, and one more
  pub spelled_more : (f : Lexeme) (out : List ℕ) → out ++ drop at bytes ≡ bytes → (out ++ (piece f (drop at (chars bytes spots))).spelling) ++ drop (at + f.length) bytes ≡ bytes
  spelled_more f out h =
      append_assoc out (take f.length (bytes_of (drop at (chars bytes spots)))) (drop (at + f.length) bytes)
      ∙ (ap (λ xs. out ++ (take f.length xs ++ drop (at + f.length) bytes)) bytes_from
      ∙ (ap (λ ys. out ++ (take f.length (drop at bytes) ++ ys)) (sym (drop-drop f.length at bytes))
      ∙ (ap (λ ys. out ++ ys) (take-append-drop f.length (drop at bytes)) ∙ h)))

  pub spelled_all : (out : List ℕ) → length bytes ≤ at → out ++ drop at bytes ≡ bytes → out ≡ bytes
  spelled_all out h k = sym (append-nil out) ∙ (ap (λ ys. out ++ ys) (sym (drop_all at bytes h)) ∙ k)

  -- where it starts and ends
  pub piece_span : (f : Lexeme) → ((piece f (drop at (chars bytes spots))).start ≡ (get_or spots at (start_of 0)).offset)
      × ((piece f (drop at (chars bytes spots))).end ≡ (get_or spots (at + (f.length - 1)) (start_of 0)).offset + 1)
  piece_span f =
      let from = λ (i : ℕ). ap (λ ss. (get_or ss i (start_of 0)).offset) spots_from ∙ ap (λ (s : TextSpot). s.offset) (get_or-drop at spots i (start_of 0)) in
      (from 0 ∙ ap (λ i. (get_or spots i (start_of 0)).offset) (add-zero at), ap (λ n. n + 1) (from (f.length - 1)))

  pub piece_place : (f : Lexeme) → (piece f (drop at (chars bytes spots))).place ≡ (get_or spots (at + f.at) (start_of 0)).place
  piece_place f =
      ap (λ ss. (get_or ss f.at (start_of 0)).place) spots_from ∙ ap (λ (s : TextSpot). s.place) (get_or-drop at spots f.at (start_of 0))
