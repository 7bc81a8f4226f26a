-- The places of a text's characters, pieces and items don't fall.
use Rattle.std.proofs.Common.{◌≡◌, ℕ, zero, suc, ◌+◌, ◌-◌, ◌<◌, ◌≤◌, inl, inr, List, [], ◌∷◌, ◌++◌, get_or, length, refl, ap, sym, ◌∙◌, subst, arith}
use Rattle.std.specs.List.{AllByRecursion}
use Rattle.std.proofs.lemmas.Bool.Decides.{eqb_tells}
use Rattle.dae_base.specs.declared.Place.{Place}
use Rattle.dae_tree.specs.declared.pieces.TextSpot.{TextSpot}
use Rattle.dae_tree.specs.Lines.{Char, spots_of, start_of, spot_after, placed, join_left, without_joins, joined_lines}
use Rattle.dae_tree.specs.Order.{IsNoLater}
use Rattle.dae_lex_scan.specs.Cuts.{SpotsFrom, PlacesFrom}
use Rattle.dae_lex_scan.proofs.Joining.{next, front}

pub same_place : (p : Place) → IsNoLater p p
same_place p = inr (refl, omega arith)

pub later : (p q r : Place) → IsNoLater p q → IsNoLater q r → IsNoLater p r
later p q r (inl h) (inl k) = inl (omega arith)
later p q r (inl h) (inr k) = let e = k.0 in inl (omega arith)
later p q r (inr h) (inl k) = let e = h.0 in inl (omega arith)
later p q r (inr h) (inr k) = let e = h.1 in let f = k.1 in inr (h.0 ∙ k.0, omega arith)

pub places_earlier : (p q : Place) (qs : List Place) → IsNoLater p q → PlacesFrom q qs → PlacesFrom p qs
places_earlier p q [] h w = tt
places_earlier p q (r ∷ qs) h w = (later p q r h w.0, w.1)

pub places_all : (p : Place) (qs : List Place) → PlacesFrom p qs → AllByRecursion (IsNoLater p) qs
places_all p [] w = tt
places_all p (q ∷ qs) w = (w.0, places_all p qs (places_earlier p q qs w.0 w.1))

-- characters
spots_earlier : (p q : Place) (ss : List TextSpot) → IsNoLater p q → SpotsFrom q ss → SpotsFrom p ss
spots_earlier p q [] h w = tt
spots_earlier p q (s ∷ ss) h w = (later p q s.place h w.0, w.1)

pub spots_low : (ss : List TextSpot) (p : Place) (j : ℕ) → SpotsFrom p ss → j < length ss → IsNoLater p (get_or ss j (start_of 0)).place
spots_low [] p j w h = absurd (omega arith)
spots_low (s ∷ ss) p zero w h = w.0
spots_low (s ∷ ss) p (suc j) w h = later p s.place (get_or ss j (start_of 0)).place w.0 (spots_low ss s.place j w.1 (omega arith))

pub spots_within : (ss : List TextSpot) (p : Place) (i j : ℕ) → SpotsFrom p ss → i ≤ j → j < length ss
    → IsNoLater (get_or ss i (start_of 0)).place (get_or ss j (start_of 0)).place
spots_within [] p i j w h k = absurd (omega arith)
spots_within (s ∷ ss) p zero zero w h k = same_place s.place
spots_within (s ∷ ss) p (suc i) zero w h k = absurd (omega arith)
spots_within (s ∷ ss) p zero (suc j) w h k = spots_low ss s.place j w.1 (omega arith)
spots_within (s ∷ ss) p (suc i) (suc j) w h k = spots_within ss s.place i j w.1 (omega arith) (omega arith)

after_later : (b : ℕ) (s : TextSpot) → IsNoLater s.place (spot_after b s).place
after_later b s =
    elim (eqb_tells b 10) [
      | inl e ↦ rw (e.0) (inl (omega arith))
      | inr e ↦ rw (e.0) (inr (refl, omega arith))
    ]

spots_next : (s t : TextSpot) (c k : ℕ) (cs : List Char) → IsNoLater s.place t.place → ((m : ℕ) → SpotsFrom t.place (spots_of (without_joins m cs)))
    → SpotsFrom s.place (spots_of (next k (record { byte = c; spot = s }) cs))
spots_next s t c zero cs h rest = (same_place s.place, spots_earlier s.place t.place (spots_of (without_joins 0 cs)) h (rest 0))
spots_next s t c (suc m) cs h rest = spots_earlier s.place t.place (spots_of (without_joins m cs)) h (rest m)

spots_from : (text : List ℕ) (n : ℕ) (s : TextSpot) → SpotsFrom s.place (spots_of (without_joins n (placed s text)))
spots_from [] n s = tt
spots_from (c ∷ cs) n s =
    subst (λ xs. SpotsFrom s.place (spots_of xs)) (sym (front n (join_left n (c ∷ cs)) s c cs refl))
    (spots_next s (spot_after c s) c (join_left n (c ∷ cs)) (placed (spot_after c s) cs) (after_later c s) (λ m. spots_from cs m (spot_after c s)))

pub all_spots : (file : ℕ) (text : List ℕ) → SpotsFrom (start_of file).place (spots_of (joined_lines file text))
all_spots file text = spots_from text 0 (start_of file)

-- pieces, up to a place
abbrev pub PlacesTo : Place → List Place → Place → Type 0
PlacesTo p [] b = IsNoLater p b
PlacesTo p (q ∷ qs) b = IsNoLater p q × PlacesTo q qs b

pub places_push : (p : Place) (qs : List Place) (b q : Place) → PlacesTo p qs b → IsNoLater b q → PlacesTo p (qs ++ q ∷ []) q
places_push p [] b q w h = (later p b q w h, same_place q)
places_push p (r ∷ qs) b q w h = (w.0, places_push r qs b q w.1 h)

pub places_wider : (p : Place) (qs : List Place) (b c : Place) → PlacesTo p qs b → IsNoLater b c → PlacesTo p qs c
places_wider p [] b c w h = later p b c w h
places_wider p (q ∷ qs) b c w h = (w.0, places_wider q qs b c w.1 h)

pub places_from : (p : Place) (qs : List Place) (b : Place) → PlacesTo p qs b → PlacesFrom p qs
places_from p [] b w = tt
places_from p (q ∷ qs) b w = (w.0, places_from q qs b w.1)

-- the place of the character before place i
abbrev pub place_before : Place → List TextSpot → ℕ → Place
place_before p ss zero = p
place_before p ss (suc k) = (get_or ss k (start_of 0)).place

pub before_low : (ss : List TextSpot) (p : Place) (i j : ℕ) → SpotsFrom p ss → i ≤ j → j < length ss → IsNoLater (place_before p ss i) (get_or ss j (start_of 0)).place
before_low ss p zero j w h k = spots_low ss p j w k
before_low ss p (suc i) j w h k = spots_within ss p i j w (omega arith) k

pub before_next : (ss : List TextSpot) (p : Place) (i n : ℕ) → 0 < n → (get_or ss (i + (n - 1)) (start_of 0)).place ≡ place_before p ss (i + n)
before_next ss p i n h = let e : i + n ≡ suc (i + (n - 1)) = omega arith in ap (place_before p ss) (sym e)
