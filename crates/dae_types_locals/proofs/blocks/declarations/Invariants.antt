use Rattle.std.proofs.Common.{◌≡◌, drop}
use Rattle.dae_tree.specs.FileViews.{view_declarations}
use Rattle.dae_program.specs.Trees.{Done}
use Rattle.dae_types_rules.specs.Plan.{check_of}
use Rattle.dae_types_file_plans.specs.Statements.{plan_declarations}
use Rattle.dae_types_tables.specs.Seen.{tables}
use Rattle.dae_types_bodies.specs.Written.{as_statements}
use Rattle.dae_types_locals.proofs.blocks.declarations.Given as goal

abbrev pub invariant-loop-one : goal.invariant-loop-one
invariant-loop-one l = check_of (plan_declarations (as_statements l.done) (view_declarations (drop l.one-index l.list))) (tables l.checker) ≡ check_of (plan_declarations Done (view_declarations l.list)) (tables l.fn.checker)
