-- Each place suits its object, and lies before the end.
use Rattle.std.proofs.Common.{◌≡◌, ℕ, zero, suc, ◌+◌, ◌-◌, ◌*◌, ◌/◌, ◌%◌, ◌<◌, ◌≤◌, Bool, true, false, List, [], ◌∷◌, ◌++◌, length, Some, refl, sym, ap, subst, ◌∙◌, arith}
use Rattle.std.proofs.lemmas.Bool.Decides.{nat_tests}
use Rattle.std.proofs.lemmas.List.{append_assoc}
use Rattle.std.proofs.Math.Nat.{mul-mod_left, lt-div-mul-add}
use Rattle.std.specs.Prelude.{nat_eq, nat_le, if◌then◌else◌, slice_index, slice_get}
use Rattle.std.specs.List.{AllByRecursion}
use Rattle.dae_types_kinds.specs.declared.types.Layout.{Layout}
use Rattle.dae_unit.specs.Placing.{rounded_up, place_behind, places_from, end_from, last_place}

-- a multiple of a number from another on
pub record IsRounded (n to at : ℕ) : Type 0 where
  pub from : n ≤ at
  pub multiple : at % to ≡ 0

pub rounded_at : (n to : ℕ) → 1 ≤ to → rounded_up n to < last_place → IsRounded n to (rounded_up n to)
rounded_at n to one small = by (nat_eq to 0) refl (nat_le (n + (to - 1)) last_place) refl small
  where
    by : (b : Bool) → nat_eq to 0 ≡ b → (c : Bool) → nat_le (n + (to - 1)) last_place ≡ c → (if b then n else (if c then ((n + (to - 1)) / to) * to else last_place)) < last_place → IsRounded n to (if b then n else (if c then ((n + (to - 1)) / to) * to else last_place))
    by true p c q s = absurd (grind (arith, nat_tests))
    by false p true q s = let above : n + (to - 1) < ((n + (to - 1)) / to) * to + to = lt-div-mul-add one in record { from = omega arith; multiple = mul-mod_left ((n + (to - 1)) / to) to }
    by false p false q s = absurd (omega arith)

-- where an object of this layout ends
pub behind_at : (at : ℕ) (l : Layout) → 1 ≤ l.align → place_behind at l < last_place → IsRounded at l.align (rounded_up at l.align) × (place_behind at l ≡ rounded_up at l.align + l.size)
behind_at at l one small = let sum : place_behind at l ≡ rounded_up at l.align + l.size = omega arith in (rounded_at at l.align one (omega arith), sum)

abbrev pub Aligns : Layout → Type 0
Aligns l = 1 ≤ l.align

pub end_behind : (at : ℕ) (ls : List Layout) → AllByRecursion Aligns ls → end_from at ls < last_place → at ≤ end_from at ls
end_behind at [] all small = omega arith
end_behind at (l ∷ ls) all small =
    let later : place_behind at l ≤ end_from (place_behind at l) ls = end_behind (place_behind at l) ls all.1 small in
    let here = behind_at at l all.0 (omega arith) in
    let first = here.0.from in
    omega arith

-- places without those so far
abbrev pub places_behind : ℕ → List Layout → List ℕ
places_behind at [] = []
places_behind at (l ∷ ls) = rounded_up at l.align ∷ places_behind (place_behind at l) ls

pub places_apart : (at : ℕ) (done : List ℕ) (ls : List Layout) → places_from at done ls ≡ done ++ places_behind at ls
places_apart at done [] = sym (none done)
  where
    none : (xs : List ℕ) → xs ++ [] ≡ xs
    none [] = refl
    none (x ∷ xs) = ap (λ ys. x ∷ ys) (none xs)
places_apart at done (l ∷ ls) = places_apart (place_behind at l) (done ++ rounded_up at l.align ∷ []) ls ∙ append_assoc done (rounded_up at l.align ∷ []) (places_behind (place_behind at l) ls)

pub length-places : (at : ℕ) (ls : List Layout) → length (places_behind at ls) ≡ length ls
length-places at [] = refl
length-places at (l ∷ ls) = ap suc (length-places (place_behind at l) ls)

-- a place is a multiple, from a number on, and its object ends before another
pub record HasPlace (from' at end : ℕ) (l : Layout) : Type 0 where
  pub aligned : at % l.align ≡ 0
  pub low : from' ≤ at
  pub fits : at + l.size ≤ end

abbrev lower : (from' low at end : ℕ) (l : Layout) → from' ≤ low → HasPlace low at end l → HasPlace from' at end l
lower from' low at end l h p = let low' = p.low in record { aligned = p.aligned; low = omega arith; fits = p.fits }

pub placed_at : (at : ℕ) (ls : List Layout) (i : ℕ) (l : Layout) → AllByRecursion Aligns ls → end_from at ls < last_place → slice_get ls i ≡ Some l → HasPlace at (slice_index (places_behind at ls) i) (end_from at ls) l
placed_at at [] i l all small h = absurd cc
placed_at at (x ∷ xs) zero l all small h =
    let e : x ≡ l = cc in
    let later : place_behind at x ≤ end_from (place_behind at x) xs = end_behind (place_behind at x) xs all.1 small in
    let here = behind_at at x all.0 (omega arith) in
    let first = here.0.from in
    let sum = here.1 in
    subst (HasPlace at (rounded_up at x.align) (end_from (place_behind at x) xs)) e (record { aligned = here.0.multiple; low = first; fits = omega arith })
placed_at at (x ∷ xs) (suc i) l all small h =
    let later : place_behind at x ≤ end_from (place_behind at x) xs = end_behind (place_behind at x) xs all.1 small in
    let here = behind_at at x all.0 (omega arith) in
    let first = here.0.from in
    let sum = here.1 in
    lower at (place_behind at x) (slice_index (places_behind (place_behind at x) xs) i) (end_from (place_behind at x) xs) l (omega arith) (placed_at (place_behind at x) xs i l all.1 small h)
