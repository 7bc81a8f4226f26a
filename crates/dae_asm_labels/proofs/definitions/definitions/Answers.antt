use Rattle.std.proofs.Common.{◌≡◌, ℕ, ◌≤◌, List, [], ◌∷◌, length, drop, sym, ap, ◌∙◌}
use Rattle.std.proofs.Math.Path.{fun_ext}
use Rattle.std.proofs.lemmas.List.{drop_all}
use Rattle.dae_asm_order.specs.Sheets.{Row}
use Rattle.dae_asm_sheet.specs.declared.rows.Row as code
use Rattle.dae_asm_sheet.specs.Rows.{rows_seen}
use Rattle.dae_asm_labels.specs.Labels.{looks}
use Rattle.dae_asm_labels.specs.Tables.{found_or}
use Rattle.dae_asm_labels.proofs.Filled.{nothing_left}
use Rattle.dae_asm_labels.proofs.definitions.definitions.Goals as goal

pub returns : goal.returns
returns c =
    let rows = c.args.rows.now in
    let over : rows_seen (drop c.loop-row.row-index rows) ≡ [] = ap rows_seen (drop_all c.loop-row.row-index rows c.loop-row-test.false) in
    fun_ext (λ name.
    sym (nothing_left (looks c.loop-row.table name))
    ∙ ap (λ (rs : List Row). found_or name c.loop-row.table c.loop-row.address rs) (sym over)
    ∙ c.loop-row.invariant.same name)
