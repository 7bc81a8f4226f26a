use Rattle.std.proofs.Common.{◌≡◌, [], drop}
use Rattle.dae_tree.specs.Views.{views}
use Rattle.dae_types_rules.specs.Plan.{check_of}
use Rattle.dae_types_file_plans.specs.Statements.{plan_printed}
use Rattle.dae_types_tables.specs.Seen.{tables}
use Rattle.dae_types_values.specs.Results.{views as views_of_arguments}
use Rattle.dae_types_statements.proofs.evaluating.printed.Given as goal

abbrev pub invariant-loop-e : goal.invariant-loop-e
invariant-loop-e l = record {
  numbered : l.number ≡ l.e-index;
  rest : check_of (plan_printed l.kinds l.number (views_of_arguments l.done) (views (drop l.e-index l.list))) (tables l.checker) ≡ check_of (plan_printed l.kinds 0 [] (views l.list)) (tables l.fn.checker);
}
