-- What a check of a file promises.
use Rattle.std.specs.Prelude.{List}
use Rattle.dae_tree.specs.Trees.{External}
use Rattle.dae_types_kinds.specs.Tables.{Tables}
use Rattle.dae_types_rules.specs.Plan.{IsChecked, check_of}
use Rattle.dae_types_file_plans.specs.Files.{plan_file}

-- whatever is declared before, stopping at the first broken rule answers what all of the table says
abbrev pub FilesAreChecked : Type 0
FilesAreChecked = (xs : List External) (s : Tables) → IsChecked (plan_file xs) s (check_of (plan_file xs) s)
