-- Statements in memory that are blocks: what the plan of the block gives is what the plan of the statement gives.
use Rattle.std.proofs.Common.{◌≡◌, List, Result, sym, ap, subst, ◌∙◌}
use Rattle.dae_tree.specs.declared.statements.Block.{Block}
use Rattle.dae_tree.specs.declared.statements.Statement.{Statement}
use Rattle.dae_tree.specs.declared.statements.Statement.TheVariants as statement
use Rattle.dae_tree.specs.Trees as tree
use Rattle.dae_tree.specs.FileViews.{view_declarations, view_statement, views_statements}
use Rattle.dae_tree.proofs.Laws.{view_block}
use Rattle.dae_program.specs.Trees as program
use Rattle.dae_types_kinds.specs.declared.rules.CheckError.{CheckError}
use Rattle.dae_types_kinds.specs.Tables.{Tables}
use Rattle.dae_types_rules.specs.Plan.{Gives, check_of}
use Rattle.dae_types_file_plans.specs.declared.surroundings.Surrounding.{Surrounding}
use Rattle.dae_types_file_plans.specs.Statements.{Armed, plan_statement}
use Rattle.dae_types_statements.specs.Plans.{plan_scope, plan_switch_block, plan_switch_body}

seen_block : (t : Statement) (b : Block) → t ≡ statement.Block b → tree.Block b.place (view_declarations b.declarations.items) (views_statements b.statements.items) ≡ view_statement t
seen_block t b is = sym (ap view_statement is ∙ view_block b)

pub block_gives : {X : Type 0} (see : X → Tables × program.Statements) (r : Result X CheckError) (c : Surrounding) (t : Statement) (b : Block) (s : Tables) → t ≡ statement.Block b → Gives see r (check_of (plan_scope c b) s) → Gives see r (check_of (plan_statement c (view_statement t)) s)
block_gives see r c t b s is g = subst (λ x. Gives see r (check_of (plan_statement c x) s)) (seen_block t b is) g

pub switch_block_gives : {X : Type 0} (see : X → Tables × List Armed) (r : Result X CheckError) (c : Surrounding) (t : Statement) (b : Block) (s : Tables) → t ≡ statement.Block b → Gives see r (check_of (plan_switch_block c b) s) → Gives see r (check_of (plan_switch_body c (view_statement t)) s)
switch_block_gives see r c t b s is g = subst (λ x. Gives see r (check_of (plan_switch_body c x) s)) (seen_block t b is) g
