use Rattle.std.proofs.Common.{◌≡◌, drop}
use Rattle.dae_tree.specs.FileViews.{view_items}
use Rattle.dae_tree.specs.Names.{has_typedef}
use Rattle.dae_tree.specs.Views.{views_specifiers}
use Rattle.dae_types_rules.specs.Plan.{check_of}
use Rattle.dae_types_file_plans.specs.Files.{plan_items, storage_of}
use Rattle.dae_types_tables.specs.Seen.{tables}
use Rattle.dae_types_products.specs.Products.{as_products}
use Rattle.dae_types_externals.proofs.declarations.add_items.Given as goal

abbrev pub invariant-loop-one : goal.invariant-loop-one
invariant-loop-one l = check_of (plan_items (has_typedef (views_specifiers l.list)) l.place (storage_of (views_specifiers l.list)) l.base (as_products l.done) (view_items (drop l.one-index l.items))) (tables l.checker) ≡ check_of (plan_items (has_typedef (views_specifiers l.list)) l.place (storage_of (views_specifiers l.list)) l.base (as_products l.fn.done) (view_items l.items)) (tables l.fn.checker)
