-- What follows for whole programs from the order of bounds on turns.
use Rattle.std.proofs.Common.{◌≡◌, ◌≢◌, ◌⊎◌, inl, inr, ℕ, zero, suc, ◌+◌, ◌-◌, ◌≤◌, ◌<◌, false, [], refl, ap, sym, ◌∙◌, subst, arith}
use Rattle.std.proofs.lemmas.Bool.{cases_lt}
use Rattle.dae_meaning.specs.Worlds.{World}
use Rattle.dae_meaning.specs.Results.{End, Going}
use Rattle.dae_meaning.specs.Alike.{IsFront}
use Rattle.dae_meaning.proofs.Laws.{front_same, front_on}
use Rattle.dae_program.specs.Calls.{call}
use Rattle.dae_program.specs.Outcomes.{Outcome, last_world}
use Rattle.dae_program.specs.Programs.{run, program_end, EndsSo}
use Rattle.dae_program.specs.Turns.{IsBelow, Same, Fewer, EndsStay, OutputGrows, GoingBefore, OneEnd}
use Rattle.dae_program.specs.Trees.{Program}
use Rattle.dae_program.proofs.Order.{turns_in_order}

below_on : (r q t : Outcome ℕ) → IsBelow r q → IsBelow q t → IsBelow r t
below_on r q t (Same s) h = h
below_on r q t (Fewer w s f) (Same u) = Fewer w u f
below_on r q t (Fewer w s f) (Fewer u v g) = Fewer w v (front_on w.printed u.printed (last_world v).printed f g)

below_end : (r q : Outcome ℕ) → IsBelow r q → program_end r ≢ Going → q ≡ r
below_end r q (Same s) h = refl
below_end r q (Fewer w s f) h = absurd (h refl)

below_front : (r q : Outcome ℕ) → IsBelow r q → IsFront (last_world r).printed (last_world q).printed
below_front r q (Same s) = front_same (last_world s).printed
below_front r q (Fewer w s f) = f

below_going : (r q : Outcome ℕ) → IsBelow r q → program_end q ≡ Going → program_end r ≡ Going
below_going r q (Same s) h = h
below_going r q (Fewer w s f) h = refl

module _ (p : Program) (main : ℕ) (w : World) where
  abbrev meaning : ℕ → Outcome ℕ
  meaning n = run p n main w

  next : (n : ℕ) → IsBelow (meaning n) (meaning (suc n))
  next n = below_on (meaning n) (call p false (suc n) p.limit main [] w) (meaning (suc n)) (turns_in_order p n p.limit main [] w).1 (turns_in_order p (suc n) p.limit main [] w).0

  further : (k n m : ℕ) → k + n ≡ m → IsBelow (meaning n) (meaning m)
  further zero n m e = let same : n ≡ m = omega arith in subst (λ (i : ℕ). IsBelow (meaning n) (meaning i)) same (Same (meaning n))
  further (suc k) n m e =
      let last : suc (k + n) ≡ m = omega arith in
      subst (λ (i : ℕ). IsBelow (meaning n) (meaning i)) last
      (below_on (meaning n) (meaning (k + n)) (meaning (suc (k + n))) (further k n (k + n) refl) (next (k + n)))

  upwards : (n m : ℕ) → n ≤ m → IsBelow (meaning n) (meaning m)
  upwards n m h = further (m - n) n m (omega arith)

  stays : (n m : ℕ) → n ≤ m → program_end (meaning n) ≢ Going → meaning m ≡ meaning n
  stays n m h = below_end (meaning n) (meaning m) (upwards n m h)

  -- where one of two bounds is no less than the other
  meets : (end other : End) (n m : ℕ) → n ≤ m → program_end (meaning n) ≡ end → end ≢ Going → program_end (meaning m) ≡ other → end ≡ other
  meets end other n m h a b c = sym a ∙ (sym (ap program_end (stays n m h (λ g. b (sym a ∙ g)))) ∙ c)

  one_only : (end other : End) → EndsSo meaning end → EndsSo meaning other → end ≡ other
  one_only end other (n, a, b) (m, c, d) = by (cases_lt n m) where
    by : (n < m) ⊎ (m ≤ n) → end ≡ other
    by (inl h) = meets end other n m (omega arith) a b c
    by (inr h) = sym (meets other end m n h c d a)

pub ends_stay : EndsStay
ends_stay p main w n m h = stays p main w n m h

pub output_grows : OutputGrows
output_grows p main w n m h = below_front (run p n main w) (run p m main w) (upwards p main w n m h)

pub going_before : GoingBefore
going_before p main w n m h = below_going (run p n main w) (run p m main w) (upwards p main w n m h)

pub one_end : OneEnd
one_end p main w = (one_only p main w, λ end e g. e.2 (sym e.1 ∙ g e.0))
