use Rattle.std.proofs.Common.{◌≡◌, ℕ, ℤ, to_z, of_z, w64, IfSome, IfNone, sym, ap, subst, rules, arith}
use Rattle.std.proofs.lemmas.Int.{ints, to_z-of_z}
use Rattle.dae_asm_lines.specs.declared.LineItem as code_item
use Rattle.dae_asm_lines.specs.Items as items
use Rattle.dae_asm_lines.specs.Lines.{seen, operands_seen}
use Rattle.dae_asm_order.specs.Sheets.{Row}
use Rattle.dae_asm_sheet.specs.Rows.{row_seen}
use Rattle.dae_asm_labels.specs.Labels.{looks}
use Rattle.dae_asm_values.specs.declared.code.Said.{Said}
use Rattle.dae_asm_values.specs.Values.{IsWord}
use Rattle.dae_asm_values.specs.Claims.{IsSaid}
use Rattle.dae_asm_values.proofs.Sayings.{plain_says, instruction_says}
use Rattle.dae_asm_values.proofs.code.read_row.Goals as goal

pub returns-in-Plain : goal.returns-in-Plain
returns-in-Plain c =
    let row = c.args.row.now in
    let line : row_seen row ≡ (row.line, items.Plain c.in-Plain.number) = ap (λ (i : code_item.LineItem). (row.line, seen i)) c.in-Plain.is in
    let z = c.in-Plain.number in
    let same : to_z w64 (of_z w64 z) ≡ z = first_of (cc, search (rules, to_z-of_z), grind (arith, ints, to_z-of_z)) in
    let some = subst (λ (y : ℤ). IfSome c.word_of.result (λ w. IsWord y w)) same c.word_of.ensures.some in
    let none = subst (λ (y : ℤ). IfNone c.word_of.result ((w : ℕ) → IsWord y w → ⊥)) same c.word_of.ensures.none in
    let said = plain_says (looks c.args.table.now) c.args.here row.line z c.word_of.result some none in
    let here = subst (λ (s : Said). IsSaid (looks c.args.table.now) c.args.here (row.line, items.Plain c.in-Plain.number) s) (sym c.said_of.ensures) said in
    subst (λ (r : Row). IsSaid (looks c.args.table.now) c.args.here r c.said_of.result) (sym line) here

pub returns-in-Instruction : goal.returns-in-Instruction
returns-in-Instruction c =
    let row = c.args.row.now in
    let like = c.in-Instruction.like in
    let operands = operands_seen c.in-Instruction.operands in
    let line : row_seen row ≡ (row.line, items.Instruction like operands) = ap (λ (i : code_item.LineItem). (row.line, seen i)) c.in-Instruction.is in
    let said = instruction_says (looks c.args.table.now) c.args.here row.line like operands c.instruction_at.result c.instruction_at.ensures.some c.instruction_at.ensures.none in
    let here = subst (λ (s : Said). IsSaid (looks c.args.table.now) c.args.here (row.line, items.Instruction like operands) s) (sym c.said_of-in-Instruction.ensures) said in
    subst (λ (r : Row). IsSaid (looks c.args.table.now) c.args.here r c.said_of-in-Instruction.result) (sym line) here
