use Rattle.std.proofs.Common.{◌≡◌, drop}
use Rattle.dae_tree.specs.FileViews.{views_statements}
use Rattle.dae_types_rules.specs.Plan.{check_of}
use Rattle.dae_types_file_plans.specs.Statements.{plan_arms, plan_statements}
use Rattle.dae_types_tables.specs.Seen.{tables}
use Rattle.dae_types_bodies.specs.Arms.{view_arming}
use Rattle.dae_types_bodies.specs.Written.{as_statements}
use Rattle.dae_types_statements.specs.Plans.{unarmed}
use Rattle.dae_types_statements.proofs.statements.+statement.Given as goal

abbrev pub invariant-sequence-loop-one : goal.invariant-sequence-loop-one
invariant-sequence-loop-one l = check_of (plan_statements l.around (as_statements l.done.statements) (views_statements (drop l.one-index l.list))) (tables l.checker) ≡ check_of (plan_statements l.around (as_statements l.fn.done.statements) (views_statements l.list)) (tables l.fn.checker)

abbrev pub invariant-arms-loop-one : goal.invariant-arms-loop-one
invariant-arms-loop-one l = check_of (plan_arms l.around (view_arming l.arming) (views_statements (drop l.one-index l.list))) (tables l.checker) ≡ check_of (plan_arms l.around unarmed (views_statements l.list)) (tables l.fn.checker)
