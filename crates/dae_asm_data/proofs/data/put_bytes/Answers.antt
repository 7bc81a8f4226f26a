use Rattle.std.proofs.Common.{rules, arith}
use Rattle.std.proofs.lemmas.Int.{ints, to_z-of_z}
use Rattle.dae_asm_data.proofs.Bytes.{no_byte_at}
use Rattle.dae_asm_data.proofs.data.put_bytes.Goals as goal

pub returns-in_default-byte_of : goal.returns-in_default-byte_of
returns-in_default-byte_of c =
    no_byte_at _ _ _ _ _ _ _ c.loop-number.invariant c.in-Some.ensures.some c.in_default-byte_of.ensures.none (first_of (cc, search (rules, to_z-of_z), grind (arith, ints, to_z-of_z)))
