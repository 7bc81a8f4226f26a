-- At most one answer is due, but for want of memory.
use Rattle.std.proofs.Common.{◌≡◌, ℕ, List, refl, ap, sym, ◌∙◌}
use Rattle.std.specs.Prelude.{◌≢◌, Option, Some, None}
use Rattle.dae_base.specs.declared.Depths.{Depths}
use Rattle.dae_base.specs.declared.Queue.{Queue}
use Rattle.dae_base.specs.Budgets.{depth, first_below}
use Rattle.dae_image.specs.declared.Image.{Image}
use Rattle.dae_certificate.proofs.LawsOfTexts.{not_both, one_bad_line, one_certificate}
use Rattle.dae_guard.specs.Walk as walks
use Rattle.dae_guard.specs.Walk.{Verdict, guarded}
use Rattle.dae_guard_walk.specs.declared.guarding.GuardAnswer.{GuardAnswer}
use Rattle.dae_guard_walk.specs.declared.guarding.GuardAnswer.TheVariants.{Yes, Depth, BadLine, NoStep, TooLong, Memory}
use Rattle.dae_guard_walk.specs.Answers.{ComesTo, Due}

no_queue : (o : Option Queue) (q : Queue) → o ≡ None → o ≡ Some q → ⊥
no_queue o q e f = cc

same_queue : (o : Option Queue) (q r : Queue) → o ≡ Some q → o ≡ Some r → q ≡ r
same_queue o q r e f = cc

-- the walks come to one verdict
one_verdict : (image : Image) (d : Depths) (text : List ℕ) (v w : Verdict) → ComesTo image d text v → ComesTo image d text w → v ≡ w
one_verdict image d text v w x y =
    let c = x.1 in let e = y.1 in
    sym c.2 ∙ (ap (guarded image d) (one_certificate text c.0 e.0 c.1 e.1) ∙ e.2)

not_ended : (image : Image) (d : Depths) (text : List ℕ) (k : ℕ) (v : Verdict) → Due image d text (BadLine k) → ComesTo image d text v → ⊥
not_ended image d text k v x y = let c = y.1 in not_both text c.0 k c.1 x.1

same_depth : (image : Image) (d : Depths) (text : List ℕ) (q r : Queue) (n h m g : ℕ) → Due image d text (Depth q n h) → Due image d text (Depth r m g) → Depth q n h ≡ Depth r m g
same_depth image d text q r n h m g x y =
    let same : q ≡ r = same_queue (first_below d image.budget) q r x.0 y.0 in
    ap (λ (k : ℕ). Depth q k h) x.1 ∙ (ap (λ (k : ℕ). Depth q (depth q image.budget) k) x.2
    ∙ (ap (λ (z : Queue). Depth z (depth z image.budget) (depth z d)) same
    ∙ sym (ap (λ (k : ℕ). Depth r k g) y.1 ∙ ap (λ (k : ℕ). Depth r (depth r image.budget) k) y.2)))

same_step : (k j : ℕ) (a e b f : Option ℕ) → walks.NoStep k a e ≡ walks.NoStep j b f → NoStep k a e ≡ NoStep j b f
same_step k j a e b f h = cc

same_long : (k j : ℕ) → walks.TooLong k ≡ walks.TooLong j → TooLong k ≡ TooLong j
same_long k j h = cc

pub one_due : (image : Image) (d : Depths) (text : List ℕ) (a b : GuardAnswer) → Due image d text a → Due image d text b → a ≢ Memory → b ≢ Memory → a ≡ b
one_due image d text Memory b x y n m = absurd (n refl)
one_due image d text a Memory x y n m = absurd (m refl)
one_due image d text (Depth q n h) (Depth r m g) x y o p = same_depth image d text q r n h m g x y
one_due image d text (Depth q n h) (BadLine k) x y o p = absurd (no_queue (first_below d image.budget) q y.0 x.0)
one_due image d text (Depth q n h) (NoStep k a e) x y o p = absurd (no_queue (first_below d image.budget) q y.0 x.0)
one_due image d text (Depth q n h) (TooLong k) x y o p = absurd (no_queue (first_below d image.budget) q y.0 x.0)
one_due image d text (Depth q n h) Yes x y o p = absurd (no_queue (first_below d image.budget) q y.0 x.0)
one_due image d text (BadLine k) (Depth q n h) x y o p = absurd (no_queue (first_below d image.budget) q x.0 y.0)
one_due image d text (NoStep k a e) (Depth q n h) x y o p = absurd (no_queue (first_below d image.budget) q x.0 y.0)
one_due image d text (TooLong k) (Depth q n h) x y o p = absurd (no_queue (first_below d image.budget) q x.0 y.0)
one_due image d text Yes (Depth q n h) x y o p = absurd (no_queue (first_below d image.budget) q x.0 y.0)
one_due image d text (BadLine k) (BadLine j) x y o p = ap BadLine (one_bad_line text k j x.1 y.1)
one_due image d text (BadLine k) (NoStep j a e) x y o p = absurd (not_ended image d text k (walks.NoStep j a e) x y)
one_due image d text (BadLine k) (TooLong j) x y o p = absurd (not_ended image d text k (walks.TooLong j) x y)
one_due image d text (BadLine k) Yes x y o p = absurd (not_ended image d text k walks.Yes x y)
one_due image d text (NoStep j a e) (BadLine k) x y o p = absurd (not_ended image d text k (walks.NoStep j a e) y x)
one_due image d text (TooLong j) (BadLine k) x y o p = absurd (not_ended image d text k (walks.TooLong j) y x)
one_due image d text Yes (BadLine k) x y o p = absurd (not_ended image d text k walks.Yes y x)
one_due image d text (NoStep k a e) (NoStep j b f) x y o p = same_step k j a e b f (one_verdict image d text (walks.NoStep k a e) (walks.NoStep j b f) x y)
one_due image d text (NoStep k a e) (TooLong j) x y o p = let h = one_verdict image d text (walks.NoStep k a e) (walks.TooLong j) x y in absurd cc
one_due image d text (NoStep k a e) Yes x y o p = let h = one_verdict image d text (walks.NoStep k a e) walks.Yes x y in absurd cc
one_due image d text (TooLong j) (NoStep k a e) x y o p = let h = one_verdict image d text (walks.TooLong j) (walks.NoStep k a e) x y in absurd cc
one_due image d text (TooLong k) (TooLong j) x y o p = same_long k j (one_verdict image d text (walks.TooLong k) (walks.TooLong j) x y)
one_due image d text (TooLong k) Yes x y o p = let h = one_verdict image d text (walks.TooLong k) walks.Yes x y in absurd cc
one_due image d text Yes (NoStep k a e) x y o p = let h = one_verdict image d text walks.Yes (walks.NoStep k a e) x y in absurd cc
one_due image d text Yes (TooLong k) x y o p = let h = one_verdict image d text walks.Yes (walks.TooLong k) x y in absurd cc
one_due image d text Yes Yes x y o p = refl
