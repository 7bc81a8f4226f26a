-- The depths of the queues against a program's budget.
use Rattle.std.specs.Prelude.{ℕ, ◌≤◌, Bool, nat_lt, List, [], ◌∷◌, Option}
use Rattle.std.specs.List.{find}
use Rattle.dae_base.specs.declared.Queue.{Queue}
use Rattle.dae_base.specs.declared.Queue.TheVariants.{Ld, Al, Sa, Sd, Ab, Eb, Cq}
use Rattle.dae_base.specs.declared.Depths.{Depths}

-- how many items a queue can hold
abbrev pub depth : Queue → Depths → ℕ
depth Ld d = d.ld
depth Al d = d.al
depth Sa d = d.sa
depth Sd d = d.sd
depth Ab d = d.ab
depth Eb d = d.eb
depth Cq d = d.cq

-- no depth is below the budget
abbrev pub Reaches : Depths → Depths → Type 0
Reaches depths budget = (queue : Queue) → depth queue budget ≤ depth queue depths

abbrev pub is_below : Depths → Depths → Queue → Bool
is_below depths budget queue = nat_lt (depth queue depths) (depth queue budget)

-- the queues, in their order
abbrev pub queues : List Queue
queues = Ld ∷ (Al ∷ (Sa ∷ (Sd ∷ (Ab ∷ (Eb ∷ (Cq ∷ []))))))

-- the first of the queues whose depth is below the budget
abbrev pub first_below : Depths → Depths → Option Queue
first_below depths budget = find (is_below depths budget) queues
