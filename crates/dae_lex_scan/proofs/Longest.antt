-- In a table whose rows don't grow, the first row that begins some bytes is the longest.
use Rattle.std.proofs.Common.{◌≡◌, ℕ, ◌≤◌, Bool, true, false, List, [], ◌∷◌, length, refl, arith}
use Rattle.std.specs.Prelude.{◌&&◌, nat_le, nat_eq, if◌then◌else◌, Option, Some, None, IfSome}
use Rattle.std.specs.List.{starts_with}
use Rattle.std.proofs.lemmas.Bool.Decides.{nat_tests}
use Rattle.dae_tree.specs.Tables.{first_row, IsLongestRow}

-- no row is longer than n or than a row before it
abbrev pub falls_from : {A : Type 0} → ℕ → List (List ℕ × A) → Bool
falls_from n [] = true
falls_from n (r ∷ rs) = nat_le (length r.0) n && falls_from (length r.0) rs

record Falls {A : Type 0} (n : ℕ) (r : List ℕ × A) (rs : List (List ℕ × A)) : Type 0 where
  pub first : length r.0 ≤ n
  pub others : falls_from (length r.0) rs ≡ true

falls : {A : Type 0} (n : ℕ) (r : List ℕ × A) (rs : List (List ℕ × A)) → falls_from n (r ∷ rs) ≡ true → Falls n r rs
falls n r rs h = by_test (nat_le (length r.0) n) (falls_from (length r.0) rs) refl refl h where
  by_test : (b c : Bool) → nat_le (length r.0) n ≡ b → falls_from (length r.0) rs ≡ c → b && c ≡ true → Falls n r rs
  by_test true true e f k = record { first = grind (arith, nat_tests); others = f }
  by_test true false e f k = absurd (cc)
  by_test false c e f k = absurd (cc)

below : {A : Type 0} (n m : ℕ) (rows : List (List ℕ × A)) (bytes : List ℕ) → n ≤ m → falls_from n rows ≡ true → IsLongestRow rows bytes m
below n m [] bytes h k = tt
below n m (r ∷ rs) bytes h k =
    let f = falls n r rs k in
    let first = f.first in
    ((λ starts. omega arith), below (length r.0) m rs bytes (omega arith) f.others)

pub longest : {A : Type 0} (n : ℕ) (rows : List (List ℕ × A)) (bytes : List ℕ) → falls_from n rows ≡ true → IfSome (first_row rows bytes) (λ found. IsLongestRow rows bytes found.0)
longest n [] bytes h = tt
longest {A} n (r ∷ rs) bytes h = by_test (starts_with nat_eq bytes r.0) refl (longest (length r.0) rs bytes (falls n r rs h).others) where
  later : starts_with nat_eq bytes r.0 ≡ false → (found : Option (ℕ × A)) → IfSome found (λ f. IsLongestRow rs bytes f.0) → IfSome found (λ f. IsLongestRow (r ∷ rs) bytes f.0)
  later e None k = tt
  later e (Some f) k = ((λ starts. absurd (cc)), k)

  by_test : (b : Bool) → starts_with nat_eq bytes r.0 ≡ b → IfSome (first_row rs bytes) (λ f. IsLongestRow rs bytes f.0) →
      IfSome (if b then Some (length r.0, r.1) else first_row rs bytes) (λ f. IsLongestRow (r ∷ rs) bytes f.0)
  by_test true e k = ((λ starts. omega arith), below (length r.0) (length r.0) rs bytes (omega arith) (falls n r rs h).others)
  by_test false e k = later e (first_row rs bytes) k
