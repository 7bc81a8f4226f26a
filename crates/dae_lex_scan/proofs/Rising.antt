-- The offsets of a text's characters rise.
use Rattle.std.proofs.Common.{◌≡◌, ℕ, zero, suc, ◌+◌, ◌-◌, ◌<◌, ◌≤◌, List, [], ◌∷◌, get_or, length, refl, ap, sym, subst, arith}
use Rattle.dae_tree.specs.declared.pieces.TextSpot.{TextSpot}
use Rattle.dae_tree.specs.Lines.{Char, spots_of, start_of, spot_after, placed, join_left, without_joins, joined_lines}
use Rattle.dae_lex_scan.specs.Cuts.{Rise}
use Rattle.dae_lex_scan.proofs.Joining.{next, front}

rise_end : (ss : List TextSpot) (e b : ℕ) → Rise e ss b → e ≤ b
rise_end [] e b h = h
rise_end (s ∷ ss) e b h = let u = h.0 in omega (arith, rise_end ss (s.offset + 1) b h.1)

rise_below : (ss : List TextSpot) (e b j : ℕ) → Rise e ss b → j < length ss → (get_or ss j (start_of 0)).offset < b
rise_below [] e b j h k = absurd (omega arith)
rise_below (s ∷ ss) e b zero h k = omega (arith, rise_end ss (s.offset + 1) b h.1)
rise_below (s ∷ ss) e b (suc j) h k = rise_below ss (s.offset + 1) b j h.1 (omega arith)

rise_low : (ss : List TextSpot) (e b j : ℕ) → Rise e ss b → j < length ss → e ≤ (get_or ss j (start_of 0)).offset
rise_low [] e b j h k = absurd (omega arith)
rise_low (s ∷ ss) e b zero h k = h.0
rise_low (s ∷ ss) e b (suc j) h k = let u = h.0 in omega (arith, rise_low ss (s.offset + 1) b j h.1 (omega arith))

rise_less : (ss : List TextSpot) (e b i j : ℕ) → Rise e ss b → i < j → j < length ss → (get_or ss i (start_of 0)).offset < (get_or ss j (start_of 0)).offset
rise_less [] e b i j h k l = absurd (omega arith)
rise_less (s ∷ ss) e b i zero h k l = absurd (omega arith)
rise_less (s ∷ ss) e b zero (suc j) h k l = omega (arith, rise_low ss (s.offset + 1) b j h.1 (omega arith))
rise_less (s ∷ ss) e b (suc i) (suc j) h k l = rise_less ss (s.offset + 1) b i j h.1 (omega arith) (omega arith)

pub rise_within : (ss : List TextSpot) (e b i j : ℕ) → Rise e ss b → i ≤ j → j < length ss → (get_or ss i (start_of 0)).offset ≤ (get_or ss j (start_of 0)).offset
rise_within [] e b i j h k l = absurd (omega arith)
rise_within (s ∷ ss) e b zero zero h k l = omega arith
rise_within (s ∷ ss) e b (suc i) zero h k l = absurd (omega arith)
rise_within (s ∷ ss) e b zero (suc j) h k l = omega (arith, rise_low ss (s.offset + 1) b j h.1 (omega arith))
rise_within (s ∷ ss) e b (suc i) (suc j) h k l = rise_within ss (s.offset + 1) b i j h.1 (omega arith) (omega arith)

-- where the characters before place i end
abbrev pub bound : List TextSpot → ℕ → ℕ
bound ss zero = 0
bound ss (suc k) = (get_or ss k (start_of 0)).offset + 1

pub bound_below : (ss : List TextSpot) (b i : ℕ) → Rise 0 ss b → i < length ss → bound ss i ≤ (get_or ss i (start_of 0)).offset
bound_below ss b zero h k = omega arith
bound_below ss b (suc i) h k = omega (arith, rise_less ss 0 b i (suc i) h (omega arith) k)

pub bound_next : (ss : List TextSpot) (i n : ℕ) → 0 < n → (get_or ss (i + (n - 1)) (start_of 0)).offset + 1 ≡ bound ss (i + n)
bound_next ss i n h = let e : i + n ≡ suc (i + (n - 1)) = omega arith in ap (bound ss) (sym e)

pub bound_end : (ss : List TextSpot) (b i : ℕ) → Rise 0 ss b → i ≤ length ss → bound ss i ≤ b
bound_end ss b zero h k = rise_end ss 0 b h
bound_end ss b (suc i) h k = omega (arith, rise_below ss 0 b i h (omega arith))

rise_earlier : (ss : List TextSpot) (e f b : ℕ) → f ≤ e → Rise e ss b → Rise f ss b
rise_earlier [] e f b k h = omega arith
rise_earlier (s ∷ ss) e f b k h = let u = h.0 in (omega arith, h.1)

rise_next : (s : TextSpot) (c k b : ℕ) (cs : List Char) → ((m : ℕ) → Rise (s.offset + 1) (spots_of (without_joins m cs)) b)
    → Rise s.offset (spots_of (next k (record { byte = c; spot = s }) cs)) b
rise_next s c zero b cs rest = (omega arith, rest 0)
rise_next s c (suc m) b cs rest = rise_earlier (spots_of (without_joins m cs)) (s.offset + 1) s.offset b (omega arith) (rest m)

rise_from : (text : List ℕ) (n b : ℕ) (s : TextSpot) → s.offset + length text ≤ b → Rise s.offset (spots_of (without_joins n (placed s text))) b
rise_from [] n b s h = omega arith
rise_from (c ∷ cs) n b s h =
    subst (λ xs. Rise s.offset (spots_of xs) b) (sym (front n (join_left n (c ∷ cs)) s c cs refl))
    (rise_next s c (join_left n (c ∷ cs)) b (placed (spot_after c s) cs) (λ m. rise_from cs m b (spot_after c s) (omega arith)))

pub all_rise : (file : ℕ) (text : List ℕ) → Rise 0 (spots_of (joined_lines file text)) (length text)
all_rise file text = rise_from text 0 (length text) (start_of file) (omega arith)
