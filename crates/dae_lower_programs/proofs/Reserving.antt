-- Variables that are left to what is written, which sets them.
use Rattle.std.proofs.Common.{◌≡◌, ◌⊎◌, ℕ, ◌+◌, ◌-◌, ◌^◌, ◌<◌, ◌≤◌, inl, inr, ap, ◌∙◌, subst, arith}
use Rattle.dae_lower.specs.Lowering.{Made}
use Rattle.dae_lower_maker.proofs.Laws.{after_fits, after_full, after_grows, after_most, below_or_last, late_there}
use Rattle.dae_lower_maker.specs.Making.{CodeSoFar, Writes, Wrote}
use Rattle.dae_lower_maker.specs.Numbers.{late, late_in, number_after}

-- one
pub one_reserved : {Y : Type 0} (second : Made (Unit {0})) (all : Made Y) (a b e : CodeSoFar) (v : ℕ) (y : Y) → v ≡ a.next → b ≡ record { code = a.code; next = number_after v } → Writes second b e tt
    → (b.next ≡ v + 1 → b.code ≡ a.code → Wrote second b e tt → Wrote all a e y) → (0 < late_in second.code → 0 < late_in all.code) → late v ≤ late_in all.code → Writes all a e y
one_reserved {Y} second all a b e v y is begun w join there sets = record {
  grows = let g = after_grows v in omega (arith, is, number, g, w.grows);
  fits = λ lt. join (number ∙ after_fits v (omega (arith, number, w.grows, lt))) (ap (λ (s : CodeSoFar). s.code) begun) (w.fits lt);
  full = λ start over. by (below_or_last b.next) over;
} where
  number : b.next ≡ number_after v
  number = ap (λ (s : CodeSoFar). s.next) begun

  by : (b.next < 2 ^ 32 - 1) ⊎ (2 ^ 32 - 1 ≤ b.next) → 2 ^ 32 - 1 ≤ e.next → 0 < late_in all.code
  by (inl lt) over = there (w.full lt over)
  by (inr le) over =
      let more = after_full v (subst (λ (n : ℕ). 2 ^ 32 - 1 ≤ n) number le) in
      let one = late_there v (omega (arith, more)) in omega (arith, one, sets)

-- two
pub two_reserved : {Y : Type 0} (second : Made (Unit {0})) (all : Made Y) (a b c e : CodeSoFar) (v u : ℕ) (y : Y) → v ≡ a.next → b ≡ record { code = a.code; next = number_after v } → u ≡ b.next → c ≡ record { code = b.code; next = number_after u }
    → Writes second c e tt → (u ≡ v + 1 → c.next ≡ v + 2 → c.code ≡ a.code → Wrote second c e tt → Wrote all a e y) → (u ≡ v + 1 → 0 < late_in second.code → 0 < late_in all.code) → late v ≤ late_in all.code → Writes all a e y
two_reserved {Y} second all a b c e v u y is begun next after w join there sets = record {
  grows = let g = after_grows v in let h = after_grows u in omega (arith, is, first, next, last, g, h, w.grows);
  fits = λ lt. joined (omega (arith, w.grows, lt)) (w.fits lt);
  full = λ start over. by (below_or_last c.next) over;
} where
  first : b.next ≡ number_after v
  first = ap (λ (s : CodeSoFar). s.next) begun

  last : c.next ≡ number_after u
  last = ap (λ (s : CodeSoFar). s.next) after

  one : c.next < 2 ^ 32 - 1 → u ≡ v + 1
  one lt = let h = after_grows u in next ∙ first ∙ after_fits v (omega (arith, first, next, last, h, lt))

  joined : c.next < 2 ^ 32 - 1 → Wrote second c e tt → Wrote all a e y
  joined lt h =
      let more = one lt in
      let two = last ∙ after_fits u (subst (λ (n : ℕ). n < 2 ^ 32 - 1) last lt) in
      join more (omega (arith, more, two)) (ap (λ (s : CodeSoFar). s.code) after ∙ ap (λ (s : CodeSoFar). s.code) begun) h

  by : (c.next < 2 ^ 32 - 1) ⊎ (2 ^ 32 - 1 ≤ c.next) → 2 ^ 32 - 1 ≤ e.next → 0 < late_in all.code
  by (inl lt) over = there (one lt) (w.full lt over)
  by (inr le) over =
      let more = after_full u (subst (λ (n : ℕ). 2 ^ 32 - 1 ≤ n) last le) in
      let most = after_most v in
      let set = late_there v (omega (arith, more, next, first, most)) in omega (arith, set, sets)
