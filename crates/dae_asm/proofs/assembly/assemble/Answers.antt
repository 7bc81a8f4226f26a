use Rattle.std.proofs.Common.{sym, ◌∙◌}
use Rattle.dae_asm_sheet.specs.Rows.{sheet_seen}
use Rattle.dae_asm.specs.Assembly.{bounds}
use Rattle.dae_asm.proofs.Parted.{first_line}
use Rattle.dae_asm.proofs.Sheeted.{sheet_of_text, no_sheet, are_few, are_formed}
use Rattle.dae_asm.proofs.assembly.assemble.Goals as goal

pub unreachable-requires : goal.unreachable-requires
unreachable-requires c = no_sheet c.args.text.now _ _ c.in_default.ensures.ok c.in_ok-rows.ensures c.as_slice.ensures.value c.in_default-sheet_of.ensures

pub labels_of-requires-clause-few_a : goal.labels_of-requires-clause-few_a
labels_of-requires-clause-few_a c =
    let ordered = sheet_of_text c.args.text.now _ _ c.in-Some.sheet c.in_default.ensures.ok c.in_ok-rows.ensures c.as_slice.ensures.value c.in-Some.ensures in
    (are_few c.args.text.now (sheet_seen c.in-Some.sheet) ordered c.requires).a

pub labels_of-requires-clause-few_e : goal.labels_of-requires-clause-few_e
labels_of-requires-clause-few_e c =
    let ordered = sheet_of_text c.args.text.now _ _ c.in-Some.sheet c.in_default.ensures.ok c.in_ok-rows.ensures c.as_slice.ensures.value c.in-Some.ensures in
    (are_few c.args.text.now (sheet_seen c.in-Some.sheet) ordered c.requires).e

pub returns-in-Some-label_fault-clause-err : goal.returns-in-Some-label_fault-clause-err
returns-in-Some-label_fault-clause-err c =
    let ordered = sheet_of_text c.args.text.now _ _ c.in-Some.sheet c.in_default.ensures.ok c.in_ok-rows.ensures c.as_slice.ensures.value c.in-Some.ensures in
    record { sheet = sheet_seen c.in-Some.sheet; ordered = ordered; first = sym c.label_fault.ensures ∙ c.in-Some-label_fault.is }

pub image_of-requires-clause-few : goal.image_of-requires-clause-few
image_of-requires-clause-few c =
    let ordered = sheet_of_text c.args.text.now _ _ c.in-Some.sheet c.in_default.ensures.ok c.in_ok-rows.ensures c.as_slice.ensures.value c.in-Some.ensures in
    are_few c.args.text.now (sheet_seen c.in-Some.sheet) ordered c.requires

pub image_of-requires-clause-formed : goal.image_of-requires-clause-formed
image_of-requires-clause-formed c =
    let ordered = sheet_of_text c.args.text.now _ _ c.in-Some.sheet c.in_default.ensures.ok c.in_ok-rows.ensures c.as_slice.ensures.value c.in-Some.ensures in
    are_formed c.args.text.now (sheet_seen c.in-Some.sheet) ordered

pub returns-in-Ok-clause-ok : goal.returns-in-Ok-clause-ok
returns-in-Ok-clause-ok c =
    let ordered = sheet_of_text c.args.text.now _ _ c.in-Some.sheet c.in_default.ensures.ok c.in_ok-rows.ensures c.as_slice.ensures.value c.in-Some.ensures in
    record { sheet = sheet_seen c.in-Some.sheet; ordered = ordered; labelled = sym c.label_fault.ensures ∙ c.in_default-label_fault.is; says = c.in-Ok.ensures.ok }

pub returns-in-Err-Line-clause-err : goal.returns-in-Err-Line-clause-err
returns-in-Err-Line-clause-err c =
    let ordered = sheet_of_text c.args.text.now _ _ c.in-Some.sheet c.in_default.ensures.ok c.in_ok-rows.ensures c.as_slice.ensures.value c.in-Some.ensures in
    record {
      sheet = sheet_seen c.in-Some.sheet;
      ordered = ordered;
      labelled = sym c.label_fault.ensures ∙ c.in_default-label_fault.is;
      first = first_line (bounds (sheet_seen c.in-Some.sheet)) c.in-Err-Line.field-0 c.in-Err-Line.line c.in-Err-Line.field-0-is c.in-Err-Line.ensures.err;
    }
