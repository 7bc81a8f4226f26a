-- Forms that passes make by the least classes of the form before.
use Rattle.std.specs.Prelude.{◌≡◌, ◌⊎◌, true, false, List}
use Rattle.std.specs.List.{list_all}
use Rattle.dae_ir.specs.Programs.{AreClassesOf}
use Rattle.dae_ir.specs.declared.form.Ir.{Ir}
use Rattle.dae_ir.specs.declared.stream.Class.{Class}
use Rattle.dae_commons.specs.Forms.{IsCommoningOf}
use Rattle.dae_commons.specs.SelfSets.{function_has_no_self_set}
use Rattle.dae_hoist.specs.Forms.{IsHoistOf}

-- New is the form without its common subexpressions, where what doesn't change in loops is computed before them.
pub record IsWithoutCommons (ir new : Ir) : Type 0 where
  pub tables : List (List Class)
  pub least : AreClassesOf ir tables
  pub rows : List (List Class)
  pub hoisted : Ir
  pub hoist : IsHoistOf tables rows ir hoisted
  pub commoning : IsCommoningOf rows hoisted new

-- New is the form without its common subexpressions once more.
pub record IsCommonedAgain (ir new : Ir) : Type 0 where
  pub tables : List (List Class)
  pub least : AreClassesOf ir tables
  pub commoning : IsCommoningOf tables ir new

-- New is the form with sums computed where accesses add them up, and without the common subexpressions that this makes. Such a sum is
-- computed where a variable is set to itself; where the form sets none to itself, it stays as it is.
abbrev pub HasSumsAtAccesses : (ir new : Ir) → Type 0
HasSumsAtAccesses ir new =
    (list_all function_has_no_self_set ir.functions ≡ false × IsCommonedAgain ir new)
    ⊎ (list_all function_has_no_self_set ir.functions ≡ true × (new ≡ ir))
