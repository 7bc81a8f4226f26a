-- Where a switch begins (C90 6.6.4.2). Its statements are parted into arms, each with the labels before its first statement.
use Rattle.std.specs.Prelude.{ℕ, suc, ◌+◌, Bool, true, false, ◌||◌, nat_eq, if◌then◌else◌, List, [], ◌∷◌, length, Option, Some, None}
use Rattle.dae_meaning.specs.Worlds.{World}
use Rattle.dae_meaning.specs.Results.{Result, At, Over, Next, Leaves, Skips, Returns}
use Rattle.dae_meaning.specs.Variables.{Env}
use Rattle.dae_program.specs.Trees.{Arms, no_arms, arm_then}

abbrev pub count_arms : Arms → ℕ
count_arms no_arms = 0
count_arms (arm_then labels t rest) = suc (count_arms rest)

-- the labels, and one for each arm
abbrev pub count_labels : Arms → ℕ
count_labels no_arms = 0
count_labels (arm_then labels t rest) = suc (length labels) + count_labels rest

-- whether a label is among these; `None` is `default`
abbrev pub has_label : Option ℕ → List (Option ℕ) → Bool
has_label x [] = false
has_label None (None ∷ labels) = true
has_label None (Some k ∷ labels) = has_label None labels
has_label (Some x) (None ∷ labels) = has_label (Some x) labels
has_label (Some x) (Some k ∷ labels) = nat_eq x k || has_label (Some x) labels

-- the first arm with this label, where the first of all has number k, and else the other
abbrev pub arm_with : Option ℕ → ℕ → Arms → ℕ → ℕ
arm_with x k no_arms other = other
arm_with x k (arm_then labels t rest) other = if has_label x labels then k else arm_with x (suc k) rest other

-- where a switch of this value begins: at the equal label, else at the default, else behind all
abbrev pub first_arm : ℕ → Arms → ℕ
first_arm x arms = arm_with (Some x) 0 arms (arm_with None 0 arms (count_arms arms))

-- a break leaves the switch (6.6.6.3); a continue is one of the loop outside (6.6.6.2)
abbrev pub leave_switch : Result Env → Result Env
leave_switch (At Next env w) = At Next env w
leave_switch (At Leaves env w) = At Next env w
leave_switch (At Skips env w) = At Skips env w
leave_switch (At Returns env w) = At Returns env w
leave_switch (Over end w) = Over end w

-- so much work more
abbrev pub with_work : ℕ → World → World
with_work count w = record w { items = w.items + count }
