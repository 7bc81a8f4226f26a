use Rattle.std.proofs.Common.{◌≡◌, ◌∷◌, [], ◌++◌, string_bytes, rules}
use Rattle.serde_json.specs.View.{view}
use Rattle.dae_report.proofs.Texts.{line_of}
use Rattle.dae_report.proofs.lines.report_line.Goals as goal

pub returns : goal.returns
returns c =
    let more : string_bytes c.push.new.self ≡ string_bytes c.in_ok-line.line ++ (10 ∷ []) = search rules in
    line_of c.args.budget.now c.args.report.now (view c.in_ok-value.value) (string_bytes c.in_ok-line.line) (string_bytes c.push.new.self)
    c.in_ok-value.ensures c.in_ok-line.ensures.text more
