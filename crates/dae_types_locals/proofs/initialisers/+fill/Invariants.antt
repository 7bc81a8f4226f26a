use Rattle.std.proofs.Common.{◌≡◌, drop}
use Rattle.dae_tree.specs.FileViews.{views_initialisers}
use Rattle.dae_types_rules.specs.Plan.{check_of}
use Rattle.dae_types_file_plans.specs.Initialisers.{plan_initialisers}
use Rattle.dae_types_tables.specs.Seen.{tables}
use Rattle.dae_types_fills.specs.Fillings.{view_filling}
use Rattle.dae_types_locals.proofs.initialisers.+fill.Given as goal

abbrev pub invariant-fill_all-loop-one : goal.invariant-fill_all-loop-one
invariant-fill_all-loop-one l = check_of (plan_initialisers (view_filling l.filling) (views_initialisers (drop l.one-index l.all))) (tables l.checker) ≡ check_of (plan_initialisers (view_filling l.fn.filling) (views_initialisers l.all)) (tables l.fn.checker)
