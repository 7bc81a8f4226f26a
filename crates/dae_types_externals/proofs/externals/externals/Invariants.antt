use Rattle.std.proofs.Common.{◌≡◌, [], drop}
use Rattle.dae_tree.specs.FileViews.{view_externals}
use Rattle.dae_types_rules.specs.Plan.{check_of}
use Rattle.dae_types_file_plans.specs.Files.{plan_externals}
use Rattle.dae_types_tables.specs.Seen.{tables}
use Rattle.dae_types_products.specs.Products.{as_products}
use Rattle.dae_types_externals.proofs.externals.externals.Given as goal

abbrev pub invariant-loop-external : goal.invariant-loop-external
invariant-loop-external l = check_of (plan_externals (as_products l.done) (view_externals (drop l.external-index l.list))) (tables l.checker) ≡ check_of (plan_externals [] (view_externals l.list)) (tables l.fn.checker)
