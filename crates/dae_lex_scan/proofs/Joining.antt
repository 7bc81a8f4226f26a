-- Joining lines a byte at a time.
use Rattle.std.proofs.Common.{◌≡◌, ℕ, zero, suc, ◌+◌, ◌^◌, ◌<◌, subst, List, [], ◌∷◌, ◌++◌, map, ◌≤◌, inl, inr, refl, ap, sym, ◌∙◌, length, drop, get_or, arith, append_assoc}
use Rattle.std.proofs.lemmas.List.{drop_more, drop_all}
use Rattle.std.proofs.lemmas.Bool.Decides.{eqb_tells}
use Rattle.std.specs.List.{AllByRecursion}
use Rattle.std.specs.Prelude.{All}
use Rattle.std.proofs.lemmas.List.Elements.{All-from_recursion}
use Rattle.dae_tree.specs.declared.pieces.TextSpot.{TextSpot}
use Rattle.dae_tree.specs.Lines.{Char, bytes_of, spots_of, start_of, joined_lines, spot_after, placed, join_left, without_joins}

pub bytes_placed : (s : TextSpot) (bs : List ℕ) → bytes_of (placed s bs) ≡ bs
bytes_placed s [] = refl
bytes_placed s (b ∷ bs) = ap (λ xs. b ∷ xs) (bytes_placed (spot_after b s) bs)

-- what stands at the front: a character of its own, or a byte of a join
abbrev pub next : ℕ → Char → List Char → List Char
next k c cs = elim k [ zero ↦ c ∷ without_joins 0 cs | suc m ↦ without_joins m cs ]

pub front : (n k : ℕ) (s : TextSpot) (b : ℕ) (bs : List ℕ) → join_left n (b ∷ bs) ≡ k
    → without_joins n (placed s (b ∷ bs)) ≡ next k (record { byte = b; spot = s }) (placed (spot_after b s) bs)
front n k s b bs h =
    ap (λ j. next j (record { byte = b; spot = s }) (placed (spot_after b s) bs))
    (ap (λ xs. join_left n (b ∷ xs)) (bytes_placed (spot_after b s) bs) ∙ h)

-- what is left from place i on, as the loop meets it
unfoldable pub from : ℕ → TextSpot → ℕ → List ℕ → List Char
from n s i text = without_joins n (placed s (drop i text))

module _ (n : ℕ) (s : TextSpot) (i : ℕ) (text : List ℕ) (h : i < length text) where
  at_front : (k : ℕ) → join_left n (drop i text) ≡ k
      → from n s i text ≡ next k (record { byte = get_or text i 0; spot = s }) (placed (spot_after (get_or text i 0) s) (drop (i + 1) text))
  unfolding from
  at_front k e =
      let d = drop_more text i 0 h in
      ap (λ xs. without_joins n (placed s xs)) d
      ∙ front n k s (get_or text i 0) (drop (i + 1) text) (ap (λ xs. join_left n xs) (sym d) ∙ e)

  pub kept : join_left n (drop i text) ≡ 0
      → from n s i text ≡ record { byte = get_or text i 0; spot = s } ∷ from 0 (spot_after (get_or text i 0) s) (i + 1) text
  unfolding from
  kept e = at_front 0 e

  pub skipped : (m : ℕ) → join_left n (drop i text) ≡ suc m
      → from n s i text ≡ from m (spot_after (get_or text i 0) s) (i + 1) text
  unfolding from
  skipped m e = at_front (suc m) e

  -- one step of a loop that has put out into a list of its own, by f
  pub keeps : {A : Type 0} (f : Char → A) (out all : List A) → join_left n (drop i text) ≡ 0
      → out ++ map f (from n s i text) ≡ all
      → (out ++ f (record { byte = get_or text i 0; spot = s }) ∷ []) ++ map f (from 0 (spot_after (get_or text i 0) s) (i + 1) text) ≡ all
  keeps f out all e so_far = rw append_assoc (ap (λ cs. out ++ map f cs) (sym (kept e)) ∙ so_far)

  pub skips : {A : Type 0} (f : Char → A) (out all : List A) (m : ℕ) → join_left n (drop i text) ≡ suc m
      → out ++ map f (from n s i text) ≡ all
      → out ++ map f (from m (spot_after (get_or text i 0) s) (i + 1) text) ≡ all
  skips f out all m e so_far = ap (λ cs. out ++ map f cs) (sym (skipped m e)) ∙ so_far

-- where a spot stands after i bytes
pub record Within (s : TextSpot) (i : ℕ) : Type 0 where
  pub offset : s.offset ≡ i
  pub line : s.place.line ≤ i + 1
  pub col : s.place.col ≤ i + 1

pub within_more : (b : ℕ) (s : TextSpot) (i : ℕ) → Within s i → Within (spot_after b s) (i + 1)
within_more b s i w =
    elim (eqb_tells b 10) [
      | inl e ↦ record { offset = ap (λ n. n + 1) w.offset; line = rw (e.0) (omega arith); col = rw (e.0) (omega arith) }
      | inr e ↦ record { offset = ap (λ n. n + 1) w.offset; line = rw (e.0) (omega arith); col = rw (e.0) (omega arith) }
    ]

pub from_start : (file : ℕ) (text : List ℕ) → from 0 (start_of file) 0 text ≡ joined_lines file text
unfolding from
from_start file text = refl

pub at_end : (n : ℕ) (s : TextSpot) (i : ℕ) (text : List ℕ) → length text ≤ i → from n s i text ≡ []
unfolding from
at_end n s i text h = ap (λ xs. without_joins n (placed s xs)) (drop_all i text h)

-- spots are small
small_next : (s : TextSpot) (b k : ℕ) (cs : List Char) → s.offset < 2 ^ 31
    → ((m : ℕ) → AllByRecursion (λ (t : TextSpot). t.offset < 2 ^ 31) (spots_of (without_joins m cs)))
    → AllByRecursion (λ (t : TextSpot). t.offset < 2 ^ 31) (spots_of (next k (record { byte = b; spot = s }) cs))
small_next s b zero cs h rest = (h, rest 0)
small_next s b (suc m) cs h rest = rest m

small_from : (text : List ℕ) (n : ℕ) (s : TextSpot) → s.offset + length text < 2 ^ 31
    → AllByRecursion (λ (t : TextSpot). t.offset < 2 ^ 31) (spots_of (without_joins n (placed s text)))
small_from [] n s h = tt
small_from (b ∷ bs) n s h =
    let all : AllByRecursion (λ (t : TextSpot). t.offset < 2 ^ 31) (spots_of (next (join_left n (b ∷ bs)) (record { byte = b; spot = s }) (placed (spot_after b s) bs))) =
    small_next s b (join_left n (b ∷ bs)) (placed (spot_after b s) bs) (omega arith) (λ m. small_from bs m (spot_after b s) (omega arith)) in
    subst (λ cs. AllByRecursion (λ (t : TextSpot). t.offset < 2 ^ 31) (spots_of cs)) (sym (front n (join_left n (b ∷ bs)) s b bs refl)) all

pub all_small : (file : ℕ) (text : List ℕ) → length text ≤ 1048576 → All (λ (s : TextSpot). s.offset < 2 ^ 31) (spots_of (joined_lines file text))
all_small file text h = All-from_recursion (λ (s : TextSpot). s.offset < 2 ^ 31) (spots_of (joined_lines file text)) (small_from text 0 (start_of file) (omega arith))
