-- The report of a form: for each function, in order, its name, the loads that A needs and those that E alone needs, the
-- stores, and the conditions that A and that E decides, by the classes of its variables.
use Rattle.std.specs.Prelude.{◌≡◌, ℕ, suc, List, [], ◌∷◌}
use Rattle.dae_ir.specs.Form.{form_of}
use Rattle.dae_ir.specs.Classes.{Classes, classes_of}
use Rattle.dae_ir.specs.Programs.{AreClassesOf}
use Rattle.dae_ir.specs.Sizes.{own_loads, loads_for_e, stores, conditions_a, conditions_e}
use Rattle.dae_ir.specs.declared.form.Function.{Function}
use Rattle.dae_ir.specs.declared.form.Ir.{Ir}
use Rattle.dae_ir.specs.declared.stream.Class.{Class}
use Rattle.dae_report.specs.declared.reports.FunctionReport.{FunctionReport}
use Rattle.dae_report.specs.declared.reports.Report.{Report}

abbrev pub function_report : Classes → Function → FunctionReport
function_report c f = record {
  name = f.name;
  loads_a = own_loads c (form_of f.body);
  loads_e = loads_for_e c (form_of f.body);
  stores = stores (form_of f.body);
  conditions_a = conditions_a c (form_of f.body);
  conditions_e = conditions_e c (form_of f.body);
}

-- where the first function has the k-th row of the tables
abbrev pub reports_from : List (List Class) → ℕ → List Function → List FunctionReport
reports_from tables k [] = []
reports_from tables k (f ∷ fs) =
    function_report (classes_of tables k) f ∷ reports_from tables (suc k) fs

abbrev pub report_of : List (List Class) → Ir → Report
report_of tables ir = record { functions = reports_from tables 0 ir.functions }

-- it counts by the least classes of the form's variables
pub record IsReportOf (ir : Ir) (report : Report) : Type 0 where
  pub tables : List (List Class)
  pub classes : AreClassesOf ir tables
  pub counts : report ≡ report_of tables ir
