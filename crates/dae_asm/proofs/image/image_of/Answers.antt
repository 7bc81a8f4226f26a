use Rattle.std.proofs.lemmas.Result.{err_from_is_err_and}
use Rattle.dae_asm_sheet.specs.Rows.{sheet_seen}
use Rattle.dae_asm_labels.specs.Labels.{labels_a}
use Rattle.dae_asm.proofs.Headed.{head_kept}
use Rattle.dae_asm.proofs.Parted.{head_fault, a_fault, e_fault, data_fault, marks_fault, names_fault}
use Rattle.dae_asm.proofs.Fitting.{same_counts, code_is, kept_of, marks_are, parts_of, parts_fit, parts_said, holds_data}
use Rattle.dae_asm.proofs.image.image_of.Goals as goal

pub head_of-requires-clause-counted : goal.head_of-requires-clause-counted
head_of-requires-clause-counted c = same_counts (sheet_seen c.args.sheet.now) _ _ _ c.count_words.ensures c.count_words-2.ensures c.count_names.ensures

pub content_of-requires : goal.content_of-requires
content_of-requires c = holds_data (sheet_seen c.args.sheet.now) c.in_ok-head.head c.in_ok-head.ensures.ok

pub returns-in_err-head-clause-err : goal.returns-in_err-head-clause-err
returns-in_err-head-clause-err c =
    let s = sheet_seen c.args.sheet.now in
    let p = err_from_is_err_and c.from_residual.result c.from_residual.ensures.1 in
    rw (p.1, p.2) (head_fault s _ c.in_err-head.ensures.err)

pub returns-in_err-code_a-clause-err : goal.returns-in_err-code_a-clause-err
returns-in_err-code_a-clause-err c =
    let s = sheet_seen c.args.sheet.now in
    let p = err_from_is_err_and c.from_residual-in_err-code_a.result c.from_residual-in_err-code_a.ensures.1 in
    rw (p.1, p.2) (a_fault s _ _ c.requires.tables.a (head_kept s c.in_ok-head.head c.in_ok-head.ensures.ok) c.in_err-code_a.ensures.err)

pub returns-in_err-code_e-clause-err : goal.returns-in_err-code_e-clause-err
returns-in_err-code_e-clause-err c =
    let s = sheet_seen c.args.sheet.now in
    let p = err_from_is_err_and c.from_residual-in_err-code_e.result c.from_residual-in_err-code_e.ensures.1 in
    let a = code_is s.begin_a _ (labels_a s) s.code_a _ c.requires.tables.a c.in_ok-code_a.ensures.ok in
    rw (p.1, p.2) (e_fault s _ _ c.requires.tables.e (head_kept s c.in_ok-head.head c.in_ok-head.ensures.ok) a.kept c.in_err-code_e.ensures.err)

pub returns-in_err-content-clause-err : goal.returns-in_err-content-clause-err
returns-in_err-content-clause-err c =
    let s = sheet_seen c.args.sheet.now in
    let p = err_from_is_err_and c.from_residual-in_err-content.result c.from_residual-in_err-content.ensures.1 in
    let h = c.in_ok-head.ensures.ok in
    let k = kept_of s _ _ _ _ _ h c.requires.tables.a c.requires.tables.e c.in_ok-code_a.ensures.ok c.in_ok-code_e.ensures.ok in
    rw (p.1, p.2) (data_fault s _ _ k h.memory.0 c.in_err-content.ensures.err)

pub returns-in_err-lines-clause-err : goal.returns-in_err-lines-clause-err
returns-in_err-lines-clause-err c =
    let s = sheet_seen c.args.sheet.now in
    let p = err_from_is_err_and c.from_residual-in_err-lines.result c.from_residual-in_err-lines.ensures.1 in
    let h = c.in_ok-head.ensures.ok in
    let k = kept_of s _ _ _ _ _ h c.requires.tables.a c.requires.tables.e c.in_ok-code_a.ensures.ok c.in_ok-code_e.ensures.ok in
    let n = same_counts s _ _ _ c.count_words.ensures c.count_words-2.ensures c.count_names.ensures in
    rw (p.1, p.2) (marks_fault s _ _ _ n k h.memory.0 c.in_ok-content.ensures.ok.kept c.in_err-lines.ensures.err)

pub returns-in_err-names-clause-err : goal.returns-in_err-names-clause-err
returns-in_err-names-clause-err c =
    let s = sheet_seen c.args.sheet.now in
    let p = err_from_is_err_and c.from_residual-in_err-names.result c.from_residual-in_err-names.ensures.1 in
    let h = c.in_ok-head.ensures.ok in
    let k = kept_of s _ _ _ _ _ h c.requires.tables.a c.requires.tables.e c.in_ok-code_a.ensures.ok c.in_ok-code_e.ensures.ok in
    let n = same_counts s _ _ _ c.count_words.ensures c.count_words-2.ensures c.count_names.ensures in
    let m = marks_are _ _ s.marks _ n c.in_ok-lines.ensures.ok in
    rw (p.1, p.2) (names_fault s _ _ k h.memory.0 c.in_ok-content.ensures.ok.kept m.kept c.in_err-names.ensures.err)

pub invariant_of-result : goal.invariant_of-result
invariant_of-result c =
    let s = sheet_seen c.args.sheet.now in
    let n = same_counts s _ _ _ c.count_words.ensures c.count_words-2.ensures c.count_names.ensures in
    let p = parts_of s c.in_ok-head.head _ _ _ _ _ _ _ _ _ _ _ _ _ c.requires.tables.a c.requires.tables.e n c.from_vec.ensures c.from_vec-2.ensures c.from_vec-3.ensures c.from_vec-4.ensures c.from_vec-5.ensures c.requires.few c.in_ok-head.ensures.ok c.in_ok-code_a.ensures.ok c.in_ok-code_e.ensures.ok c.in_ok-content.ensures.ok c.in_ok-lines.ensures.ok c.in_ok-names.ensures.ok in
    record { fits = parts_fit s c.in_ok-head.head _ _ _ _ _ p }

pub returns-clause-ok : goal.returns-clause-ok
returns-clause-ok c =
    let s = sheet_seen c.args.sheet.now in
    let n = same_counts s _ _ _ c.count_words.ensures c.count_words-2.ensures c.count_names.ensures in
    let p = parts_of s c.in_ok-head.head _ _ _ _ _ _ _ _ _ _ _ _ _ c.requires.tables.a c.requires.tables.e n c.from_vec.ensures c.from_vec-2.ensures c.from_vec-3.ensures c.from_vec-4.ensures c.from_vec-5.ensures c.requires.few c.in_ok-head.ensures.ok c.in_ok-code_a.ensures.ok c.in_ok-code_e.ensures.ok c.in_ok-content.ensures.ok c.in_ok-lines.ensures.ok c.in_ok-names.ensures.ok in
    parts_said s c.in_ok-head.head _ _ _ _ _ p
