-- The tries of a turn, one kind after the other.
use Rattle.std.proofs.Common.{◌≡◌, ℕ, ◌+◌, ◌%◌, ◌/◌, List, ap, sym, subst}
use Rattle.std.specs.Prelude.{Option, Some, None}
use Rattle.dae_machine.specs.declared.Pick.{Pick}
use Rattle.dae_machine.specs.Held.{HeldMachine}
use Rattle.dae_machine.specs.Tries.{Tried}
use Rattle.dae_machine.specs.Turns.{chosen, kind_at, pick_of}
use Rattle.dae_machine.proofs.Turns.{or_first, pick_by}

abbrev first_kind : ℕ → HeldMachine → Option Pick
first_kind word m = chosen (word / 4) (kind_at m.setup m.state (word % 4))

abbrev kind_behind : ℕ → ℕ → HeldMachine → Option Pick
kind_behind word i m = chosen (word / 4) (kind_at m.setup m.state (word % 4 + i))

got : (o r : Option (Pick × List ℕ)) (k : Option Pick) (m n : HeldMachine) → o ≡ r → Tried o k m n → Tried r k m n
got o r k m n e t = subst (λ (z : Option (Pick × List ℕ)). Tried z k m n) e t

here : (r : Pick × List ℕ) (o o' : Option Pick) (m n : HeldMachine) → Tried (Some r) o m n → Tried (Some r) (or_first m.setup m.state o o') m n
here r o o' m n t = (ap (λ (z : Option Pick). or_first m.setup m.state z o') t.0, t.1)

past : (r : Option (Pick × List ℕ)) (o : Option Pick) (behind : HeldMachine → Option Pick) (m m' n : HeldMachine) → Tried None o m m' → Tried r (behind m') m' n → Tried r (or_first m.setup m.state o (behind m)) m n
past r o behind m m' n none t =
    subst (λ (z : Option Pick). Tried r (or_first m.setup m.state z (behind m)) m n) (sym none.0) (subst (λ (z : HeldMachine). Tried r (behind z) z n) none.1 t)

module _ (word : ℕ) (m : HeldMachine) where
  whole : (r : Option (Pick × List ℕ)) (n : HeldMachine) → Tried r (or_first m.setup m.state (first_kind word m) (or_first m.setup m.state (kind_behind word 1 m) (or_first m.setup m.state (kind_behind word 2 m) (kind_behind word 3 m)))) m n → Tried r (pick_of m.setup m.state word) m n
  whole r n t = subst (λ (z : Option Pick). Tried r z m n) (sym (pick_by m.setup m.state word)) t

  pub tried_first : (o : Option (Pick × List ℕ)) (r : Pick × List ℕ) (n : HeldMachine) → Tried o (first_kind word m) m n → o ≡ Some r → Tried (Some r) (pick_of m.setup m.state word) m n
  tried_first o r n t e = whole (Some r) n (here r (first_kind word m) _ m n (got o (Some r) (first_kind word m) m n e t))

  abbrev third_on : HeldMachine → Option Pick
  third_on z = or_first z.setup z.state (kind_behind word 2 z) (kind_behind word 3 z)

  abbrev second_on : HeldMachine → Option Pick
  second_on z = or_first z.setup z.state (kind_behind word 1 z) (third_on z)

  pub tried_second : (o o1 : Option (Pick × List ℕ)) (r : Pick × List ℕ) (m1 n : HeldMachine) → Tried o (first_kind word m) m m1 → o ≡ None → Tried o1 (kind_behind word 1 m1) m1 n → o1 ≡ Some r → Tried (Some r) (pick_of m.setup m.state word) m n
  tried_second o o1 r m1 n t e t1 e1 =
      whole (Some r) n (past (Some r) (first_kind word m) second_on m m1 n (got o None (first_kind word m) m m1 e t)
      (here r (kind_behind word 1 m1) (third_on m1) m1 n (got o1 (Some r) (kind_behind word 1 m1) m1 n e1 t1)))

  pub tried_third : (o o1 o2 : Option (Pick × List ℕ)) (r : Pick × List ℕ) (m1 m2 n : HeldMachine) → Tried o (first_kind word m) m m1 → o ≡ None → Tried o1 (kind_behind word 1 m1) m1 m2 → o1 ≡ None → Tried o2 (kind_behind word 2 m2) m2 n → o2 ≡ Some r → Tried (Some r) (pick_of m.setup m.state word) m n
  tried_third o o1 o2 r m1 m2 n t e t1 e1 t2 e2 =
      whole (Some r) n (past (Some r) (first_kind word m) second_on m m1 n (got o None (first_kind word m) m m1 e t)
      (past (Some r) (kind_behind word 1 m1) third_on m1 m2 n (got o1 None (kind_behind word 1 m1) m1 m2 e1 t1)
      (here r (kind_behind word 2 m2) (kind_behind word 3 m2) m2 n (got o2 (Some r) (kind_behind word 2 m2) m2 n e2 t2))))

  pub tried_last : (o o1 o2 r : Option (Pick × List ℕ)) (m1 m2 m3 n : HeldMachine) → Tried o (first_kind word m) m m1 → o ≡ None → Tried o1 (kind_behind word 1 m1) m1 m2 → o1 ≡ None → Tried o2 (kind_behind word 2 m2) m2 m3 → o2 ≡ None → Tried r (kind_behind word 3 m3) m3 n → Tried r (pick_of m.setup m.state word) m n
  tried_last o o1 o2 r m1 m2 m3 n t e t1 e1 t2 e2 t3 =
      whole r n (past r (first_kind word m) second_on m m1 n (got o None (first_kind word m) m m1 e t)
      (past r (kind_behind word 1 m1) third_on m1 m2 n (got o1 None (kind_behind word 1 m1) m1 m2 e1 t1)
      (past r (kind_behind word 2 m2) (kind_behind word 3) m2 m3 n (got o2 None (kind_behind word 2 m2) m2 m3 e2 t2) t3)))
