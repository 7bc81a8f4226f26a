use Rattle.std.proofs.Common.{List, ap, ◌∙◌}
use Rattle.dae_ir.specs.Classes.{classes_in}
use Rattle.dae_ir.specs.declared.stream.Class.{Class}
use Rattle.dae_report.specs.Reports.{function_report}
use Rattle.dae_report.proofs.Entries.{countable_at, reports_next}
use Rattle.dae_report.proofs.reports.count.Goals as goal

pub count_in_function-requires : goal.count_in_function-requires
count_in_function-requires c =
    let fs = c.args.ir.now.functions in
    countable_at fs c.as_slice-functions.result.now c.loop-number.number c.index-functions-number.result c.as_slice-functions.ensures c.requires
    c.loop-number-test.true c.index-functions-number.is

pub loop-number-preserved : goal.loop-number-preserved
loop-number-preserved c =
    let f = c.index-functions-number.result in
    reports_next c.args.tables.now c.as_slice-functions.result.now c.loop-number.number f c.loop-number.reports c.push.new.self c.in_ok-count_in_function.field-0 c.loop-number-test.true c.index-functions-number.is
    (c.in_ok-count_in_function.ensures ∙ ap (λ (xs : List Class). function_report (classes_in xs) f) c.row_of.ensures) c.loop-number.invariant c.in_ok-push.ensures.ok
