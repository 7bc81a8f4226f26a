use Rattle.std.proofs.Common.{◌≡◌, drop}
use Rattle.std.specs.List.{list_all}
use Rattle.dae_report.specs.Counting.{is_countable}
use Rattle.dae_report.proofs.fitting.can_count.Given as goal

abbrev pub invariant-loop-function : goal.invariant-loop-function
invariant-loop-function l = list_all is_countable (drop l.function-index l.ir.functions) ≡ list_all is_countable l.ir.functions
