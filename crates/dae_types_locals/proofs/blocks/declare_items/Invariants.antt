use Rattle.std.proofs.Common.{◌≡◌, drop}
use Rattle.dae_tree.specs.FileViews.{view_items}
use Rattle.dae_tree.specs.Names.{has_typedef}
use Rattle.dae_tree.specs.Views.{views_specifiers}
use Rattle.dae_types_rules.specs.Plan.{check_of}
use Rattle.dae_types_file_plans.specs.Statements.{plan_items}
use Rattle.dae_types_tables.specs.Seen.{tables}
use Rattle.dae_types_bodies.specs.Written.{as_statements}
use Rattle.dae_types_locals.proofs.blocks.declare_items.Given as goal

abbrev pub invariant-loop-one : goal.invariant-loop-one
invariant-loop-one l = check_of (plan_items l.place (has_typedef (views_specifiers l.list)) l.base (as_statements l.done) (view_items (drop l.one-index l.items))) (tables l.checker) ≡ check_of (plan_items l.place (has_typedef (views_specifiers l.list)) l.base (as_statements l.fn.done) (view_items l.items)) (tables l.fn.checker)
