use Rattle.std.proofs.Common.{◌≡◌, map, take}
use Rattle.serde_json.specs.View.{view}
use Rattle.dae_report.specs.Lines.{function_data}
use Rattle.dae_report.proofs.lines.report_value.Given as goal

abbrev pub invariant-loop-function : goal.invariant-loop-function
invariant-loop-function l = map view l.functions.items ≡ map function_data (take l.function-index l.function-items)
