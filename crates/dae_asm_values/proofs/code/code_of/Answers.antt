use Rattle.std.proofs.Common.{◌≡◌, List, [], drop, ap, ◌∙◌, subst}
use Rattle.std.proofs.lemmas.List.{drop_all}
use Rattle.dae_asm_order.specs.Sheets.{Row}
use Rattle.dae_asm_sheet.specs.Rows.{rows_seen}
use Rattle.dae_asm_labels.specs.Labels.{looks}
use Rattle.dae_asm_values.proofs.Walked.{Walk, whole}
use Rattle.dae_asm_values.proofs.Sayings.{moved, go_past, go_on}
use Rattle.dae_asm_values.proofs.code.code_of.Goals as goal
use Rattle.dae_asm_values.proofs.code.code_of.Goals.{in-Nothing, in-Word+in_ok-push-in-Word}

pub loop-row-preserved : goal.loop-row-preserved
loop-row-preserved c =
    elim c.match-read_row.branch [
      | in-Nothing w ↦
          moved _ _ _ _ _ _ _ w.here-is (ap (λ v. v.items) w.code-is)
          (go_past (looks c.args.table.now) c.args.rows.now c.loop-row.row-index _ c.loop-row.here c.loop-row.code.items c.loop-row-test.true c.loop-row.invariant w.in-Nothing.ensures)
      | in-Word+in_ok-push-in-Word w ↦
          moved _ _ _ _ _ _ _ w.here-is (ap (λ v. v.items) w.code-is ∙ w.in_ok-push-in-Word.ensures.items)
          (go_on (looks c.args.table.now) c.args.rows.now c.loop-row.row-index _ c.loop-row.here c.loop-row.code.items w.in-Word.word c.loop-row-test.true c.loop-row.invariant w.in-Word.ensures)
    ]

pub returns-clause-ok : goal.returns-clause-ok
returns-clause-ok c =
    let rows = c.args.rows.now in
    let over : rows_seen (drop c.loop-row.row-index rows) ≡ [] = ap rows_seen (drop_all c.loop-row.row-index rows c.loop-row-test.false) in
    let w = subst (λ (rest : List Row). Walk (looks c.args.table.now) (rows_seen rows) rest c.loop-row.here c.loop-row.code.items) over c.loop-row.invariant in
    whole (looks c.args.table.now) (rows_seen rows) c.loop-row.here c.loop-row.code.items w
