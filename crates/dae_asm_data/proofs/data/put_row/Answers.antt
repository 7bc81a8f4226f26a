use Rattle.std.proofs.Common.{◌≤◌, refl, arith}
use Rattle.dae_asm_lines.specs.Tokens.{tokens_of}
use Rattle.dae_asm_lines.specs.Lines.{numbers_in}
use Rattle.dae_asm_sheet.specs.Rows.{row_seen}
use Rattle.dae_asm_data.proofs.Bytes.{was_put, no_data, row_put}
use Rattle.dae_asm_data.proofs.data.put_row.Goals as goal

pub returns-in_default : goal.returns-in_default
returns-in_default c = no_data c.args.memory c.args.content.now.items (row_seen c.args.row.now) c.in_default.ensures.none c.requires

pub returns-then-are_bytes : goal.returns-then-are_bytes
returns-then-are_bytes c =
    let zs = numbers_in (tokens_of c.in-Some.line.now) in
    let old = c.args.content.now.items in
    let new = c.put_bytes.new.out.items in
    let some : 16 ≤ c.args.memory = omega arith in
    row_put c.args.memory old new (row_seen c.args.row.now) (c.args.row.now.line, zs) c.len.result c.in-Some.ensures.some refl
    (was_put old new zs c.in_ok-are_bytes.are_bytes c.in_ok-are_bytes.ensures c.if-are_bytes.true) (first_of (cc, omega arith)) some
