-- Statements in memory, as plain data, and functions that make them.
use Rattle.std.specs.Prelude.{Vec, Result, Ok}
use Rattle.std.specs.declared.alloc.Global.{Global}
use Rattle.dae_program.specs.Trees as program
use Rattle.dae_program.specs.Views.{view_statements}
use Rattle.dae_program.specs.declared.statements.Statement.{Statement}
use Rattle.dae_types_kinds.specs.declared.rules.CheckError.{CheckError}
use Rattle.dae_types_rules.specs.Plan.{CheckPlan, Gives}
use Rattle.dae_types_tables.specs.declared.checker.Checker.{Checker}
use Rattle.dae_types_tables.specs.Seen.{FollowsBy}

abbrev pub as_statements : Vec Statement Global → program.Statements
as_statements list = view_statements list.items

-- a function makes these statements, unless memory ran out
abbrev pub MakesStatements : Result (Vec Statement Global) CheckError → program.Statements → Type 0
MakesStatements r x = Gives as_statements r (Ok x)

-- the statements that a plan says, up to the first broken rule
abbrev pub GivesStatements : Checker → Result (Vec Statement Global) CheckError → CheckPlan program.Statements → Checker → Type 0
GivesStatements new r m old = FollowsBy as_statements new r m old
