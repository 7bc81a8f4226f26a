use Rattle.std.proofs.Common.{rules, arith}
use Rattle.std.proofs.lemmas.Int.{ints, to_z-of_z}
use Rattle.dae_asm_sheet.specs.Rows.{sheet_seen}
use Rattle.dae_asm.proofs.Headed.{bad_entry_e}
use Rattle.dae_asm.proofs.head.head_of.Goals as goal

pub returns-in_default-entry_of-2-clause-err : goal.returns-in_default-entry_of-2-clause-err
returns-in_default-entry_of-2-clause-err c =
    bad_entry_e (sheet_seen c.args.sheet.now) _ _ c.args.counts c.in-Some.budget c.in-Some-memory_of.memory c.in-Some-calls_of.calls c.in-Some-private_of.private_a c.in-Some-private_of-2.private_e c.in-Some-entry_of.entry_a _ _ _ _
    c.requires.tables.a c.requires.tables.e c.requires.counted c.in-Some.ensures.some c.in-Some-memory_of.ensures.some c.in-Some-calls_of.ensures.some c.in-Some-private_of.ensures.some c.in-Some-private_of-2.ensures.some
    (first_of (cc, search (rules, to_z-of_z), grind (arith, ints, to_z-of_z))) (first_of (cc, search (rules, to_z-of_z), grind (arith, ints, to_z-of_z))) (first_of (cc, search (rules, to_z-of_z), grind (arith, ints, to_z-of_z))) (first_of (cc, search (rules, to_z-of_z), grind (arith, ints, to_z-of_z)))
    c.in-Some-entry_of.ensures.some c.in_default-entry_of-2.ensures.none
