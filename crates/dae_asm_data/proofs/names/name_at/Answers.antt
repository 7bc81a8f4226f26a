use Rattle.std.proofs.Common.{refl, arith}
use Rattle.dae_asm_lines.specs.Tokens.{tokens_of}
use Rattle.dae_asm_lines.specs.Lines.{numbers_in}
use Rattle.dae_asm_data.proofs.Naming.{none_found, some_found}
use Rattle.dae_asm_data.proofs.names.name_at.Goals as goal

pub returns-in_default-2 : goal.returns-in_default-2
returns-in_default-2 c =
    let zs = numbers_in (tokens_of c.in-Some.line.now) in
    ((c.args.row.now.line, zs), (record { is = c.in-Some.ensures.some; line = refl }, λ name n. none_found zs c.in_ok-name.field-0 c.in_ok-name.ensures c.in_default-2.is name n.said))

pub returns-then-before-lt1024 : goal.returns-then-before-lt1024
returns-then-before-lt1024 c =
    let zs = numbers_in (tokens_of c.in-Some.line.now) in
    ((c.args.row.now.line, zs), (record { is = c.in-Some.ensures.some; line = refl }, record { said = some_found zs c.in_ok-name.field-0 c.in-Some-2.name c.in_ok-name.ensures c.in-Some-2.is; few = c.if-before-lt1024.true }))

pub returns-else-before-lt1024 : goal.returns-else-before-lt1024
returns-else-before-lt1024 c =
    let zs = numbers_in (tokens_of c.in-Some.line.now) in
    ((c.args.row.now.line, zs), (record { is = c.in-Some.ensures.some; line = refl }, λ name n. let few = n.few in absurd (omega arith)))
