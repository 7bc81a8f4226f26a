-- What writes to a table of numbers do.
use Rattle.std.proofs.Common.{◌≡◌, ℕ, zero, suc, ◌<◌, ◌≤◌, false, List, [], ◌∷◌, ◌++◌, length, get_or, Option, Some, None, refl, arith}
use Rattle.std.proofs.Math.Path.{fun_ext}
use Rattle.std.specs.Prelude.{nat_eq, slice_set}
use Rattle.std.proofs.lemmas.Bool.Decides.{nat_tests}
use Rattle.dae_regalloc.specs.Seen.{number_in, with_number}

pushed_at : (ns : List (Option ℕ)) (u : ℕ) → number_in (ns ++ None ∷ []) u ≡ number_in ns u
pushed_at [] zero = refl
pushed_at [] (suc u) = refl
pushed_at (n ∷ ns) zero = refl
pushed_at (n ∷ ns) (suc u) = pushed_at ns u

pub number_pushed : (ns : List (Option ℕ)) → number_in (ns ++ None ∷ []) ≡ number_in ns
number_pushed ns = fun_ext (λ u. pushed_at ns u)

pub number_inside : (ns : List (Option ℕ)) (v : ℕ) (other : Option ℕ) → v < length ns → get_or ns v other ≡ number_in ns v
number_inside [] v other lt = absurd (omega arith)
number_inside (n ∷ ns) zero other lt = refl
number_inside (n ∷ ns) (suc v) other lt = number_inside ns v other (omega arith)

pub number_beyond : (ns : List (Option ℕ)) (v : ℕ) → length ns ≤ v → None ≡ number_in ns v
number_beyond [] v le = refl
number_beyond (n ∷ ns) zero le = absurd (omega arith)
number_beyond (n ∷ ns) (suc v) le = number_beyond ns v (omega arith)

zero_suc : (v : ℕ) → nat_eq 0 (suc v) ≡ false
zero_suc v = grind (arith, nat_tests)

suc_zero : (v : ℕ) → nat_eq (suc v) 0 ≡ false
suc_zero v = grind (arith, nat_tests)

suc_suc : (u v : ℕ) → nat_eq (suc u) (suc v) ≡ nat_eq u v
suc_suc u v = grind (arith, nat_tests)

set_at : (ns : List (Option ℕ)) (v i u : ℕ) → v < length ns → number_in (slice_set ns v (Some i)) u ≡ with_number v i (number_in ns) u
set_at [] v i u lt = absurd (omega arith)
set_at (n ∷ ns) zero i zero lt = refl
set_at (n ∷ ns) zero i (suc u) lt = rw (suc_zero u) refl
set_at (n ∷ ns) (suc v) i zero lt = rw (zero_suc v) refl
set_at (n ∷ ns) (suc v) i (suc u) lt = rw (suc_suc u v) (set_at ns v i u (omega arith))

pub number_set : (ns : List (Option ℕ)) (v i : ℕ) → v < length ns → number_in (slice_set ns v (Some i)) ≡ with_number v i (number_in ns)
number_set ns v i lt = fun_ext (λ u. set_at ns v i u lt)
