-- The line of a report is that of its data, which have no float.
use Rattle.std.proofs.Common.{◌≡◌, false, List, [], ◌∷◌, ◌++◌, ℕ, map, refl, ap, ◌∙◌}
use Rattle.serde_json.specs.Data.{Data}
use Rattle.serde_json.specs.View.{items_of}
use Rattle.serde_json.specs.Written.{compact_text, has_float, items_have_float}
use Rattle.dae_base.specs.declared.Depths.{Depths}
use Rattle.dae_report.specs.Lines.{function_data, report_data, report_line}
use Rattle.dae_report.specs.declared.reports.FunctionReport.{FunctionReport}
use Rattle.dae_report.specs.declared.reports.Report.{Report}

functions_whole : (fs : List FunctionReport) → items_have_float (items_of (map function_data fs)) ≡ false
functions_whole [] = refl
functions_whole (f ∷ fs) = functions_whole fs

pub report_whole : (budget : Depths) (report : Report) → has_float (report_data budget report) ≡ false
report_whole budget report = rw (functions_whole report.functions) refl

pub line_of : (budget : Depths) (report : Report) (value : Data) (line new : List ℕ) → value ≡ report_data budget report
    → (has_float value ≡ false → line ≡ compact_text value) → new ≡ line ++ (10 ∷ []) → new ≡ report_line budget report
line_of budget report value line new is text more =
    more ∙ ap (λ (xs : List ℕ). xs ++ (10 ∷ [])) (text (ap has_float is ∙ report_whole budget report) ∙ ap compact_text is)
