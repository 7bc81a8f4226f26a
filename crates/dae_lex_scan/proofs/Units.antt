-- The values of a literal's inside, byte by byte.
use Rattle.std.proofs.Common.{◌≡◌, ℕ, zero, suc, pred, ◌+◌, ◌-◌, ◌<◌, List, ◌∷◌, drop, get_or, length, refl, ap, sym, ◌∙◌, arith}
use Rattle.std.proofs.lemmas.List.{drop_more}
use Rattle.std.specs.Prelude.{unwrap_or}
use Rattle.dae_tree.specs.Literals.{unit_of, values_from}

at_zero : (b : ℕ) (bs all : List ℕ) → all ≡ b ∷ bs → values_from 0 all ≡ unwrap_or (unit_of all).0 0 ∷ values_from (pred (unit_of all).1) bs
at_zero b bs all e = rw e refl

module _ (inside : List ℕ) (i : ℕ) (h : i < length inside) where
  pub values_begin : (left : ℕ) → left ≡ 0
      → values_from left (drop i inside) ≡ unwrap_or (unit_of (drop i inside)).0 0 ∷ values_from (pred (unit_of (drop i inside)).1) (drop (i + 1) inside)
  values_begin left e =
      ap (λ n. values_from n (drop i inside)) e ∙ at_zero (get_or inside i 0) (drop (i + 1) inside) (drop i inside) (drop_more inside i 0 h)

  pub values_skip : (left : ℕ) → 0 < left → values_from left (drop i inside) ≡ values_from (left - 1) (drop (i + 1) inside)
  values_skip zero w = absurd (omega arith)
  values_skip (suc n) w =
      let e : suc n - 1 ≡ n = omega arith in
      ap (values_from (suc n)) (drop_more inside i 0 h) ∙ ap (λ k. values_from k (drop (i + 1) inside)) (sym e)

pub pred_is : (n : ℕ) → pred n ≡ n - 1
pred_is zero = omega arith
pred_is (suc n) = omega arith
