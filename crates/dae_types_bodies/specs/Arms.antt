-- Arms of a switch in memory, as plain data.
use Rattle.std.specs.Prelude.{ℕ, List, [], ◌∷◌, Option}
use Rattle.dae_program.specs.Trees as program
use Rattle.dae_program.specs.Views.{view_statements}
use Rattle.dae_program.specs.declared.statements.Arm.{Arm}
use Rattle.dae_types_file_plans.specs.Statements.{Armed, Arming}
use Rattle.dae_types_bodies.specs.declared.switches.Arming.{Arming as ArmingInMemory}

abbrev pub view_armed : Arm → Armed
view_armed a = record { labels = a.labels.items; statements = view_statements a.statements.items }

abbrev pub armed : List Arm → List Armed
armed [] = []
armed (a ∷ arms) = view_armed a ∷ armed arms

abbrev pub view_arming : ArmingInMemory → Arming
view_arming a = record { seen = a.seen.keys; arms = armed a.arms.items }

-- an arm of one label, without statements
abbrev pub arm_of : Option ℕ → Armed
arm_of l = record { labels = l ∷ []; statements = program.Done }
