-- A test turned round, and what the laws of other crates need of decided tests.
use Rattle.std.proofs.Common.{◌≡◌, ℕ, ◌^◌, ◌<◌, Bool, true, false, not, refl, sym, ◌∙◌, arith}
use Rattle.std.specs.Prelude.{Some, None, option_map, if◌then◌else◌}
use Rattle.std.proofs.lemmas.Bool.{false≢true}
use Rattle.dae_base.proofs.Laws.{not_true}
use Rattle.dae_ranges.specs.declared.Range.{Range}
use Rattle.dae_ranges.specs.Ranges.{Has, each, decided}
use Rattle.dae_ranges.proofs.Members.{each_has}
use Rattle.dae_ranges.proofs.Closed.{same_each}

pub least_has : (r : Range) → r.lo < 2 ^ 32 → Has r r.lo
least_has r small = record { at = 0; fits = omega arith; is = omega arith; small = small }

twice : (b : Bool) → not (not b) ≡ b
twice true = refl
twice false = refl

-- the test turned round is decided the other way round
pub decided_not : (test : ℕ → ℕ → Bool) (x y : Range) → x.lo < 2 ^ 32 → y.lo < 2 ^ 32
    → decided (λ v w. not (test v w)) x y ≡ option_map not (decided test x y)
decided_not test x y p q =
    rw again (by (each (λ v. each (test v) y) x) (each (λ v. each (λ w. not (test v w)) y) x) never)
  where
    again : each (λ v. each (λ w. not (not (test v w))) y) x ≡ each (λ v. each (test v) y) x
    again = same_each (λ v. each (λ w. not (not (test v w))) y) (λ v. each (test v) y) x.lo x.step x.count
        (λ v. same_each (λ w. not (not (test v w))) (test v) y.lo y.step y.count (λ w. twice (test v w)))

    met : (t : ℕ → ℕ → Bool) → each (λ v. each (t v) y) x ≡ true → t x.lo y.lo ≡ true
    met t h = each_has (t x.lo) y y.lo (each_has (λ v. each (t v) y) x x.lo h (least_has x p)) (least_has y q)

    never : each (λ v. each (test v) y) x ≡ true → each (λ v. each (λ w. not (test v w)) y) x ≡ true → ⊥
    never e f = false≢true (sym (not_true (test x.lo y.lo) (met (λ v w. not (test v w)) f)) ∙ met test e)

    by : (a n : Bool) → (a ≡ true → n ≡ true → ⊥) → (if n then Some true else (if a then Some false else None)) ≡ option_map not (if a then Some true else (if n then Some false else None))
    by true true h = absurd (h refl refl)
    by true false h = refl
    by false true h = refl
    by false false h = refl
