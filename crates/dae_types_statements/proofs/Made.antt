-- A switch in memory, whose arms stand in a list, as plain data.
use Rattle.std.proofs.Common.{◌≡◌, List, [], ◌∷◌, refl, ap, ◌∙◌}
use Rattle.std.specs.Prelude.{Box, Vec}
use Rattle.std.specs.declared.alloc.Global.{Global}
use Rattle.dae_base.specs.declared.Place.{Place}
use Rattle.dae_program.proofs.LawsOfTrees.{view_switch}
use Rattle.dae_program.specs.declared.expressions.Expression.{Expression}
use Rattle.dae_program.specs.declared.statements.Arm.{Arm}
use Rattle.dae_program.specs.declared.statements.Statement.TheVariants as statement
use Rattle.dae_program.specs.Trees as tree
use Rattle.dae_program.specs.Views.{arms_of, statement_then, view, view_statements}
use Rattle.dae_types_file_plans.specs.Statements.{arms_of as made_of}
use Rattle.dae_types_bodies.specs.Arms.{armed}

same_arms : (arms : List Arm) → arms_of arms ≡ made_of (armed arms)
same_arms [] = refl
same_arms (arm ∷ arms) = ap (tree.arm_then arm.labels.items (view_statements arm.statements.items)) (same_arms arms)

pub view_armed_switch : (p : Place) (e : Box Expression Global) (arms : Vec Arm Global) (k : tree.Statements)
    → statement_then (statement.Switch p e arms) k ≡ tree.Switch p (view e.value) (made_of (armed arms.items)) k
view_armed_switch p e arms k = view_switch p e arms k ∙ ap (λ u. tree.Switch p (view e.value) u k) (same_arms arms.items)
