-- The search for the exponent of a power of 2, from the largest down.
use Rattle.std.proofs.Common.{◌≡◌, ℕ, zero, suc, ◌-◌, ◌*◌, ◌%◌, ◌^◌, ◌<◌, ◌≤◌, true, false, Some, refl, ap, ◌∙◌, arith}
use Rattle.std.specs.Prelude.{nat_eq}
use Rattle.std.proofs.lemmas.Bool.Decides.{nat_tests}
use Rattle.std.proofs.lemmas.Nat.{pow_below}
use Rattle.dae_select_blocks.specs.Blocks.{exponent_below}

-- 1, shifted by one less than this
pub one_shifted : (above by shifted : ℕ) → 0 < above → above ≤ 32 → by ≡ above - 1 → shifted ≡ 1 * 2 ^ (by % 32) % 4294967296 → shifted ≡ 2 ^ (above - 1)
one_shifted above by shifted some most is same =
    let low : by % 32 ≡ above - 1 = omega arith in
    let small : 2 ^ (above - 1) < 2 ^ 32 = pow_below (above - 1) 32 (omega arith) in
    let whole : 1 * 2 ^ (above - 1) % 4294967296 ≡ 2 ^ (above - 1) = omega arith in
    same ∙ ap (λ (k : ℕ). 1 * 2 ^ k % 4294967296) low ∙ whole

pub found_here : (above n : ℕ) → 0 < above → n ≡ 2 ^ (above - 1) → exponent_below above n ≡ Some (above - 1)
found_here zero n some is = absurd (omega arith)
found_here (suc k) n some is =
    let less : suc k - 1 ≡ k = omega arith in
    let here : n ≡ 2 ^ k = is ∙ ap (λ (j : ℕ). 2 ^ j) less in
    let test : nat_eq n (2 ^ k) ≡ true = grind (arith, nat_tests) in
    rw (test, less) refl

pub found_below : (above n : ℕ) → 0 < above → (n ≡ 2 ^ (above - 1) → ⊥) → exponent_below above n ≡ exponent_below (above - 1) n
found_below zero n some no' = absurd (omega arith)
found_below (suc k) n some no' =
    let less : suc k - 1 ≡ k = omega arith in
    let other : n ≡ 2 ^ k → ⊥ = λ e. no' (e ∙ ap (λ (j : ℕ). 2 ^ j) (omega arith)) in
    let test : nat_eq n (2 ^ k) ≡ false = grind (arith, nat_tests) in
    rw (test, less) refl
