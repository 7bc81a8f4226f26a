use Rattle.std.proofs.Common.{◌≡◌, drop, Ok}
use Rattle.dae_types_kinds.specs.Tables.{Tables}
use Rattle.dae_types_rules.specs.Plan.{ask_all}
use Rattle.dae_types_file_plans.specs.Files.{end_sites}
use Rattle.dae_types_tables.specs.Seen.{tables}
use Rattle.dae_types_externals.proofs.externals.check_end.Given as goal

abbrev pub invariant-loop-object : goal.invariant-loop-object
invariant-loop-object l = ask_all {A = Tables × Unit {0}} (end_sites (tables l.checker) (drop l.object-index l.object-items)) (Ok (tables l.checker, tt {0})) ≡ ask_all {A = Tables × Unit {0}} (end_sites (tables l.checker) (tables l.checker).objects) (Ok (tables l.checker, tt {0}))
