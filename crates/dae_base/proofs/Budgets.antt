-- No queue is below the budget exactly where each depth reaches it.
use Rattle.std.proofs.Common.{◌≡◌, ◌↔◌, ℕ, ◌≤◌, false, arith, refl}
use Rattle.std.specs.Prelude.{None, nat_lt}
use Rattle.std.specs.List.{AllByRecursion}
use Rattle.std.proofs.lemmas.Bool.Decides.{nat_tests}
use Rattle.dae_base.specs.declared.Queue.{Queue}
use Rattle.dae_base.specs.declared.Queue.TheVariants.{Ld, Al, Sa, Sd, Ab, Eb, Cq}
use Rattle.dae_base.specs.declared.Depths.{Depths}
use Rattle.dae_base.proofs.Lists.{none_passes}
use Rattle.dae_base.specs.Budgets.{depth, Reaches, is_below, queues, first_below}

not_below : (n m : ℕ) → nat_lt n m ≡ false → m ≤ n
not_below n m h = grind (arith, nat_tests)

reaches : (n m : ℕ) → m ≤ n → nat_lt n m ≡ false
reaches n m h = grind (arith, nat_tests)

all_reach : (depths budget : Depths) → first_below depths budget ≡ None → Reaches depths budget
all_reach depths budget h queue = at queue (none_passes (is_below depths budget) queues h) where
  at : (queue : Queue) → AllByRecursion (λ (k : Queue). is_below depths budget k ≡ false) queues → depth queue budget ≤ depth queue depths
  at Ld all = not_below depths.ld budget.ld all.0
  at Al all = not_below depths.al budget.al all.1.0
  at Sa all = not_below depths.sa budget.sa all.1.1.0
  at Sd all = not_below depths.sd budget.sd all.1.1.1.0
  at Ab all = not_below depths.ab budget.ab all.1.1.1.1.0
  at Eb all = not_below depths.eb budget.eb all.1.1.1.1.1.0
  at Cq all = not_below depths.cq budget.cq all.1.1.1.1.1.1.0

none_where : (depths budget : Depths) → Reaches depths budget → first_below depths budget ≡ None
none_where depths budget h =
    rw (reaches depths.ld budget.ld (h Ld), reaches depths.al budget.al (h Al), reaches depths.sa budget.sa (h Sa), reaches depths.sd budget.sd (h Sd), reaches depths.ab budget.ab (h Ab), reaches depths.eb budget.eb (h Eb), reaches depths.cq budget.cq (h Cq)) refl

pub none_below : (depths budget : Depths) → (first_below depths budget ≡ None) ↔ Reaches depths budget
none_below depths budget = (all_reach depths budget, none_where depths budget)
