-- Lists of first places, of a node over parts and of parts side by side.
use Rattle.std.proofs.Common.{◌≡◌, ℕ, zero, suc, ◌≤◌, ◌<◌, min, List, [], ◌∷◌, length, take, Option, Some, None, refl, sym, ap, subst, ◌∙◌, arith}
use Rattle.std.specs.Prelude.{slice_get}
use Rattle.dae_base.specs.declared.Place.{Place}
use Rattle.dae_parse_grammar.specs.FirstPlaces.{Places, over}
use Rattle.dae_parse_parts.specs.declared.reading.Read.{Read}
use Rattle.dae_parse_parts.specs.Shown.{Lists, IsKept, Holds, IsFrom}

get_take : (xs : List Place) (n i : ℕ) → i < n → slice_get (take n xs) i ≡ slice_get xs i
get_take [] zero i h = refl
get_take [] (suc n) i h = refl
get_take (x ∷ xs) zero i h = absurd (omega arith)
get_take (x ∷ xs) (suc n) zero h = refl
get_take (x ∷ xs) (suc n) (suc i) h = get_take xs n i (omega arith)

pub length_take : (n : ℕ) (xs : List Place) → length (take n xs) ≡ min n (length xs)
length_take zero xs = omega arith
length_take (suc n) [] = omega arith
length_take (suc n) (x ∷ xs) = ap suc (length_take n xs) ∙ omega arith

entries_over : (xs : List Place) (f : Places) (p : Place) → Lists xs f → (i : ℕ) → i < 201 → slice_get (p ∷ take 200 xs) i ≡ over p f i
entries_over xs f p h zero k = refl
entries_over xs f p h (suc i) k = get_take xs 200 i (omega arith) ∙ h.entries i (omega arith)

pub lists_over : (xs ys : List Place) (f : Places) (p : Place) → ys ≡ p ∷ take 200 xs → Lists xs f → Lists ys (over p f)
lists_over xs ys f p e h =
    let l = length_take 200 xs in
    subst (λ (zs : List Place). Lists zs (over p f)) (sym e) (record { short = omega arith; entries = entries_over xs f p h })

pub kept_over : {T : Type 0} (o : Option T) (n m : ℕ) → IsKept o n → m ≡ suc (min 200 n) → m ≤ 200 → IsKept o m
kept_over None n m k e h = absurd (omega arith)
kept_over (Some t) n m k e h = h

pub over_is_kept : {T : Type 0} (o : Option T) (xs ys : List Place) (p : Place) → IsKept o (length xs) → ys ≡ p ∷ take 200 xs → length ys ≤ 200 → IsKept o (length ys)
over_is_kept o xs ys p k e h = kept_over o (length xs) (length ys) k (ap length e ∙ ap suc (length_take 200 xs)) h

pub from_itself : {T : Type 0} (o : Option T) → IsFrom o o
from_itself None = tt
from_itself (Some t) = refl

-- another tree in its place
pub holds_some : {T U : Type 0} (r : Read U) (f : Places) (tree : Option T) (u : U) (t : T) → Holds r f → r.tree ≡ Some u → tree ≡ Some t → Holds (record { tree = tree; depths = r.depths }) f
holds_some r f tree u t h e d = record {
  places = h.places;
  kept = subst (λ (o : Option _). IsKept o (length r.depths.places.items)) (sym d) (subst (λ (o : Option _). IsKept o (length r.depths.places.items)) e h.kept);
}

pub holds_none : {T U : Type 0} (r : Read U) (f : Places) (tree : Option T) → Holds r f → r.tree ≡ None → tree ≡ None → Holds (record { tree = tree; depths = r.depths }) f
holds_none r f tree h e d = record {
  places = h.places;
  kept = subst (λ (o : Option _). IsKept o (length r.depths.places.items)) (sym d) (subst (λ (o : Option _). IsKept o (length r.depths.places.items)) e h.kept);
}
