-- The ticks of issue rise.
use Rattle.std.proofs.Common.{ℕ, zero, suc, ◌+◌, ◌≤◌, ◌≡◌, Bool, true, false, List, [], ◌∷◌, ◌++◌, drop, arith}
use Rattle.std.proofs.lemmas.Bool.Decides.{nat_tests}
use Rattle.std.specs.Prelude.{nat_lt, nat_le, if◌then◌else◌}
use Rattle.std.specs.List.{AllByRecursion}
use Rattle.dae_queues.specs.Lists.{rest}
use Rattle.dae_timing.specs.Clocks.{issues_after}
use Rattle.dae_timing.specs.Held.{RiseTo}

pub rise_drop : (now i : ℕ) (ts : List ℕ) → RiseTo now ts → RiseTo now (drop i ts)
rise_drop now zero ts r = r
rise_drop now (suc i) [] r = tt
rise_drop now (suc i) (t ∷ ts) r = rise_drop now i ts r.2

rise_rest : (now : ℕ) (ts : List ℕ) → RiseTo now ts → RiseTo now (rest ts)
rise_rest now [] r = tt
rise_rest now (t ∷ ts) r = r.2

all_last : (t now : ℕ) (ts : List ℕ) → t ≤ now → AllByRecursion (λ (u : ℕ). t ≤ u) ts → AllByRecursion (λ (u : ℕ). t ≤ u) (ts ++ now ∷ [])
all_last t now [] h a = (h, tt)
all_last t now (u ∷ us) h a = (a.0, all_last t now us h a.1)

rise_last : (now : ℕ) (ts : List ℕ) → RiseTo now ts → RiseTo now (ts ++ now ∷ [])
rise_last now [] r = (omega arith, tt, tt)
rise_last now (t ∷ ts) r = (r.0, all_last t now ts r.0 r.1, rise_last now ts r.2)

pub rise_after : (now m n : ℕ) (ts : List ℕ) → RiseTo now ts → RiseTo now (issues_after now m n ts)
rise_after now m n ts r = by_tests (nat_lt m n) (nat_lt n m) where
  by_tests : (x y : Bool) → RiseTo now (if x then ts ++ now ∷ [] else (if y then rest ts else ts))
  by_tests true y = rise_last now ts r
  by_tests false true = rise_rest now ts r
  by_tests false false = r

pub rise_later : (now : ℕ) (ts : List ℕ) → RiseTo now ts → RiseTo (now + 1) ts
rise_later now [] r = tt
rise_later now (t ∷ ts) r = ((let h = r.0 in omega (arith, h)), r.1, rise_later now ts r.2)

-- what is no older than a slot that is too young is too young
pub all_young : (t load now : ℕ) (ts : List ℕ) → nat_le (t + load) now ≡ false → AllByRecursion (λ (u : ℕ). t ≤ u) ts → AllByRecursion (λ (u : ℕ). nat_le (u + load) now ≡ false) ts
all_young t load now [] h a = tt
all_young t load now (u ∷ us) h a = ((let later = a.0 in grind (arith, nat_tests)), all_young t load now us h a.1)

pub young_not : (x now : ℕ) → nat_lt now x ≡ true → nat_le x now ≡ false
young_not x now h = grind (arith, nat_tests)

pub old_is : (x now : ℕ) → nat_lt now x ≡ false → nat_le x now ≡ true
old_is x now h = grind (arith, nat_tests)
