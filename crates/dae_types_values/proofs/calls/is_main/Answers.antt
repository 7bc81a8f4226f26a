use Rattle.std.proofs.Common.{sym, ◌∙◌}
use Rattle.dae_types_tables.specs.Seen.{tables}
use Rattle.dae_types_values.proofs.Rows.{main_is}
use Rattle.dae_types_values.proofs.calls.is_main.Goals as goal

pub returns-in-Some : goal.returns-in-Some
returns-in-Some c = main_is (tables c.args.checker.now) c.args.name c.in-Some.main (sym c.main.ensures ∙ c.in-Some.is)
