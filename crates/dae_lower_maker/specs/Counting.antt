-- How often variables are assigned: a number for each.
use Rattle.std.specs.Prelude.{◌≡◌, ℕ, ◌+◌, not, nat_eq, if◌then◌else◌, List, [], ◌∷◌}
use Rattle.dae_ir.specs.Classes.{VariableSet}
use Rattle.dae_lower_maker.specs.declared.later.Later.{Later}
use Rattle.dae_lower_maker.specs.declared.later.Change.{Change}
use Rattle.dae_lower_maker.specs.declared.later.Change.TheVariants.{Add, Remove}

abbrev pub MarkCounts : Type 0
MarkCounts = ℕ → ℕ

abbrev pub never : MarkCounts
never v = 0

abbrev pub once : ℕ → MarkCounts
once u v = if nat_eq v u then 1 else 0

-- together
abbrev pub both : MarkCounts → MarkCounts → MarkCounts
both c d v = c v + d v

-- the variables that are assigned at all
abbrev pub is_counted : MarkCounts → VariableSet
is_counted c v = not (nat_eq (c v) 0)

-- how often each stands in a list
abbrev pub count_in : List ℕ → MarkCounts
count_in [] v = 0
count_in (u ∷ us) v = once u v + count_in us v

abbrev pub counts_of : Later → MarkCounts
counts_of later = count_in later.assigned.items

-- some assignments are added to those before, or are removed from those before, among which they are
abbrev pub Changes : Change → MarkCounts → MarkCounts → MarkCounts → Type 0
Changes Add some old new = new ≡ both old some
Changes Remove some old new = (rest : MarkCounts) → old ≡ both rest some → new ≡ rest
