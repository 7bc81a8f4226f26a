-- Keys of a map that are texts behind references, by their bytes.
use Rattle.std.proofs.Common.{ℕ, Bool, List, map, ◌≡◌, ◌||◌, [], ◌∷◌, refl, ap, true, false, ◌++◌, if◌then◌else◌}
use Rattle.std.proofs.lemmas.List.{map-append}
use Rattle.std.specs.List.{list_any}
use Rattle.std.specs.Str.{bytes_eq}
use Rattle.std.specs.Borrow.{Bor}

-- keys are equal by their bytes
abbrev pub same_key : Bor (List ℕ) → Bor (List ℕ) → Bool
same_key a b = bytes_eq a.now b.now

abbrev pub now_of : List (Bor (List ℕ)) → List (List ℕ)
now_of ks = map (λ k. k.now) ks

pub any_mapped : (name : List ℕ) (ks : List (Bor (List ℕ))) → list_any (λ k. bytes_eq name k.now) ks ≡ list_any (bytes_eq name) (now_of ks)
any_mapped name [] = refl
any_mapped name (k ∷ ks) = ap (λ b. bytes_eq name k.now || b) (any_mapped name ks)

pub choose_mapped : (k : Bor (List ℕ)) (ks : List (Bor (List ℕ))) (b : Bool)
    → now_of (if b then ks else ks ++ k ∷ []) ≡ (if b then now_of ks else now_of ks ++ k.now ∷ [])
choose_mapped k ks true = refl
choose_mapped k ks false = map-append (λ (k : Bor (List ℕ)). k.now) ks (k ∷ [])
