use Rattle.std.proofs.Common.{◌≡◌, Option, Some, None, ℕ, sym, ap, ◌∙◌}
use Rattle.dae_asm_sheet.specs.Rows.{rows_seen, sheet_seen}
use Rattle.dae_asm_labels.specs.Labels.{looks, first_false, label_tests}
use Rattle.dae_asm_labels.specs.Tables.{or_else}
use Rattle.dae_asm_labels.proofs.Tested.{behind_entries}
use Rattle.dae_asm_labels.proofs.faults.label_fault.Goals as goal

pub returns-in-Some : goal.returns-in-Some
returns-in-Some c =
    let s = sheet_seen c.args.sheet.now in
    sym (behind_entries s (looks c.args.labels.now.a) (looks c.args.labels.now.e) c.requires.a c.requires.e
    (sym c.is_known.ensures ∙ c.if-not-is_known.false)
    (sym c.is_known-else-not-is_known.ensures ∙ c.if-not-is_known-2.false)
    c.code_fault.result c.code_fault.ensures
    ∙ ap (λ (o : Option ℕ). or_else o (first_false (label_tests (looks c.args.labels.now.e) s.code_e))) c.in-Some.is)

pub returns-in-None : goal.returns-in-None
returns-in-None c =
    let s = sheet_seen c.args.sheet.now in
    c.code_fault-in-None.ensures
    ∙ sym (behind_entries s (looks c.args.labels.now.a) (looks c.args.labels.now.e) c.requires.a c.requires.e
    (sym c.is_known.ensures ∙ c.if-not-is_known.false)
    (sym c.is_known-else-not-is_known.ensures ∙ c.if-not-is_known-2.false)
    c.code_fault.result c.code_fault.ensures
    ∙ ap (λ (o : Option ℕ). or_else o (first_false (label_tests (looks c.args.labels.now.e) s.code_e))) c.in-None.is)
