use Rattle.std.proofs.Common.{◌<◌, ◌≤◌, ◌^◌, List, ℕ, All, subst, arith}
use Rattle.dae_asm_sheet.specs.Rows.{rows_seen}
use Rattle.dae_asm_labels.specs.Labels.{looks, words}
use Rattle.dae_asm.proofs.Coded.{code_made, code_broken}
use Rattle.dae_asm.proofs.image.code_from.Goals as goal

pub returns-in-Ok-clause-ok : goal.returns-in-Ok-clause-ok
returns-in-Ok-clause-ok c =
    let rows = rows_seen c.args.rows.now in
    let some : 1 ≤ words rows = omega arith in
    let small = subst (λ (ws : List ℕ). All (λ w. w < 2 ^ 32) ws) c.as_slice.ensures.value c.see_words.ensures in
    code_made c.args.line (looks c.args.table.now) rows c.in-Ok.code.items some c.in-Ok.ensures.ok small

pub returns-in-Err-Unmet-clause-err : goal.returns-in-Err-Unmet-clause-err
returns-in-Err-Unmet-clause-err c =
    let rows = rows_seen c.args.rows.now in
    let some : 1 ≤ words rows = omega arith in
    code_broken c.args.line (looks c.args.table.now) rows c.in-Err-Unmet.field-0 c.in-Err-Unmet.line c.in-Err-Unmet.field-0-is some c.in-Err-Unmet.ensures.err
