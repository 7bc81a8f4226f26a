-- The line of a report: a budget, and what is counted of each function, as JSON without blanks, with the keys in the order
-- of their bytes.
use Rattle.std.specs.Prelude.{ℕ, List, [], ◌∷◌, ◌++◌, codes, map}
use Rattle.serde_json.specs.Data.{Data, array, member, no_members, number, object, string, unsigned}
use Rattle.serde_json.specs.View.{items_of}
use Rattle.serde_json.specs.Written.{compact_text}
use Rattle.dae_base.specs.declared.Depths.{Depths}
use Rattle.dae_report.specs.declared.reports.FunctionReport.{FunctionReport}
use Rattle.dae_report.specs.declared.reports.Report.{Report}

abbrev pub budget_data : Depths → Data
budget_data d =
    object (
    member (codes "ab") (number (unsigned d.ab)) (
    member (codes "al") (number (unsigned d.al)) (
    member (codes "cq") (number (unsigned d.cq)) (
    member (codes "eb") (number (unsigned d.eb)) (
    member (codes "ld") (number (unsigned d.ld)) (
    member (codes "sa") (number (unsigned d.sa)) (
    member (codes "sd") (number (unsigned d.sd)) no_members)))))))

abbrev pub function_data : FunctionReport → Data
function_data f =
    object (
    member (codes "conditions_a") (number (unsigned f.conditions_a)) (
    member (codes "conditions_e") (number (unsigned f.conditions_e)) (
    member (codes "loads_a") (number (unsigned f.loads_a)) (
    member (codes "loads_e") (number (unsigned f.loads_e)) (
    member (codes "name") (string f.name) (
    member (codes "stores") (number (unsigned f.stores)) no_members))))))

abbrev pub report_data : Depths → Report → Data
report_data budget report =
    object (
    member (codes "budget") (budget_data budget) (
    member (codes "functions") (array (items_of (map function_data report.functions))) no_members))

-- with a line feed
abbrev pub report_line : Depths → Report → List ℕ
report_line budget report = compact_text (report_data budget report) ++ (10 ∷ [])
