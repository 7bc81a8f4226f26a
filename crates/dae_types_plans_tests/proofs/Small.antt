-- Places, names and constants of small files, and the rule that the check of a file finds broken, if there is one.
use Rattle.std.proofs.Common.{ℕ, List, Option, Some, None, Result, Ok, Err, Bool}
use Rattle.dae_base.specs.declared.Place.{Place}
use Rattle.dae_tree.specs.declared.constants.Constant.{Constant}
use Rattle.dae_tree.specs.declared.expressions.Name.{Name}
use Rattle.dae_tree.specs.Trees as tree
use Rattle.dae_types_kinds.specs.declared.rules.Rule.{Rule}
use Rattle.dae_types_kinds.specs.declared.rules.Breach.{Breach}
use Rattle.dae_types_kinds.specs.Tables.{Tables}
use Rattle.dae_types_rules.specs.Plan.{check_of}
use Rattle.dae_types_file_plans.specs.Files.{plan_file}

abbrev pub at : ℕ → Place
at n = record { file = 0; line = 1; col = n }

abbrev pub name : ℕ → ℕ → Name
name n k = record { place = at n; number = k }

abbrev pub constant : ℕ → Bool → Constant
constant w u = record { value = w; unsigned = u }

abbrev pub breach : Rule → ℕ → Option Breach
breach r n = Some (record { rule = r; place = at n })

-- the rule that a check finds, if there is one
abbrev pub found : {A : Type 0} → Result (Tables × A) Breach → Option Breach
found (Ok x) = None
found (Err f) = Some f

abbrev pub check : List tree.External → Tables → Option Breach
check xs s = found (check_of (plan_file xs) s)
