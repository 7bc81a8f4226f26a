-- What holds of each form's pair.
use Rattle.std.specs.Prelude.{ℕ, ◌<◌, ◌^◌, List}
use Rattle.dae_base.specs.declared.Depths.{Depths}
use Rattle.dae_ir.specs.Budgets.{AllLists, IsBudgetOf}
use Rattle.dae_ir.specs.Programs.{IsPairOf}
use Rattle.dae_ir.specs.declared.form.Ir.{Ir}
use Rattle.dae_ir.specs.declared.stream.Class.{Class}
use Rattle.dae_ir.specs.declared.stream.Pair.{Pair}
use Rattle.dae_split_pair.specs.Tallies.{IsOrdered, HasSmallGroups}

-- the numbers of the groups of each list of A's stream don't fall
abbrev pub PairsAreOrdered : Type 0
PairsAreOrdered = (ir : Ir) (tables : List (List Class)) (cap : ℕ) (pair : Pair) → IsPairOf ir tables cap pair → AllLists (IsOrdered 0) pair.a.functions

-- groups in order are small where the numbers of each budget of the pair are
abbrev pub SmallBudgetsSmallGroups : Type 0
SmallBudgetsSmallGroups = (pair : Pair) → AllLists (IsOrdered 0) pair.a.functions → ((b : Depths) → IsBudgetOf pair b → (b.ld < 2 ^ 16) × (b.cq < 2 ^ 16)) → HasSmallGroups pair
