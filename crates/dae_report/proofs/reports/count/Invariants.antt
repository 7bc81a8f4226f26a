use Rattle.std.proofs.Common.{◌≡◌, take}
use Rattle.dae_report.specs.Reports.{reports_from}
use Rattle.dae_report.proofs.reports.count.Given as goal

abbrev pub invariant-loop-number : goal.invariant-loop-number
invariant-loop-number l = l.reports ≡ reports_from l.tables 0 (take l.number l.functions)
