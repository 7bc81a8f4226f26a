-- No place lies behind the end.
use Rattle.std.proofs.Common.{◌≡◌, ℕ, ◌+◌, ◌-◌, ◌*◌, ◌/◌, ◌^◌, ◌<◌, ◌≤◌, Bool, true, false, List, [], ◌∷◌, ◌++◌, refl, arith}
use Rattle.std.proofs.lemmas.Bool.Decides.{nat_tests}
use Rattle.std.proofs.lemmas.List.Elements.{All-push, All-nil}
use Rattle.std.proofs.Math.Nat.{lt-div-mul-add, div-mul-le_self}
use Rattle.std.specs.Prelude.{nat_eq, nat_le, if◌then◌else◌}
use Rattle.std.specs.List.{All}
use Rattle.dae_types_kinds.specs.declared.types.Layout.{Layout}
use Rattle.dae_unit.specs.Placing.{rounded_up, place_behind, places_from, end_from, last_place}

rounded_within : (n to : ℕ) → n ≤ last_place → (n ≤ rounded_up n to) × (rounded_up n to ≤ last_place)
rounded_within n to small = by (nat_eq to 0) refl (nat_le (n + (to - 1)) last_place) refl
  where
    by : (b : Bool) → nat_eq to 0 ≡ b → (c : Bool) → nat_le (n + (to - 1)) last_place ≡ c → (n ≤ (if b then n else (if c then ((n + (to - 1)) / to) * to else last_place))) × ((if b then n else (if c then ((n + (to - 1)) / to) * to else last_place)) ≤ last_place)
    by true p c q = (omega arith, small)
    by false p true q =
        let one : 1 ≤ to = grind (arith, nat_tests) in
        let whole : n + (to - 1) ≤ last_place = grind (arith, nat_tests) in
        let above : n + (to - 1) < ((n + (to - 1)) / to) * to + to = lt-div-mul-add one in
        let below : ((n + (to - 1)) / to) * to ≤ n + (to - 1) = div-mul-le_self (n + (to - 1)) to in
        (omega arith, omega arith)
    by false p false q = (small, omega arith)

behind_within : (n : ℕ) (l : Layout) → n ≤ last_place → (rounded_up n l.align ≤ place_behind n l) × (place_behind n l ≤ last_place)
behind_within n l small = let r = (rounded_within n l.align small).1 in (omega arith, omega arith)

end_above : (at : ℕ) (ls : List Layout) → at ≤ last_place → at ≤ end_from at ls
end_above at [] small = omega arith
end_above at (l ∷ ls) small =
    let r = (rounded_within at l.align small).0 in
    let b = behind_within at l small in
    let here = b.0 in
    let later = end_above (place_behind at l) ls b.1 in
    omega arith

pub places_within : (end at : ℕ) (done : List ℕ) (ls : List Layout) → at ≤ last_place → end_from at ls ≤ end → All (λ (p : ℕ). p ≤ end) done → All (λ (p : ℕ). p ≤ end) (places_from at done ls)
places_within end at done [] small last all = all
places_within end at done (l ∷ ls) small last all =
    let b = behind_within at l small in
    let here = b.0 in
    let later = end_above (place_behind at l) ls b.1 in
    places_within end (place_behind at l) (done ++ rounded_up at l.align ∷ []) ls b.1 last (All-push (λ (p : ℕ). p ≤ end) done (rounded_up at l.align) all (omega arith))

end_within : (at : ℕ) (ls : List Layout) → at ≤ last_place → end_from at ls ≤ last_place
end_within at [] small = small
end_within at (l ∷ ls) small = end_within (place_behind at l) ls (behind_within at l small).1

-- frames begin behind each place
pub places_below : (memory : ℕ) (ls : List Layout) → memory < 2 ^ 32 → rounded_up (end_from 16 ls) 4 ≤ memory → All (λ (p : ℕ). p < 2 ^ 32) (places_from 16 [] ls)
places_below memory ls small fits =
    let r = (rounded_within (end_from 16 ls) 4 (end_within 16 ls (omega arith))).0 in
    let all = places_within memory 16 [] ls (omega arith) (omega arith) (All-nil (λ (p : ℕ). p ≤ memory)) in
    λ k d h. (let one = all k d h in omega arith)
