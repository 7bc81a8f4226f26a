use Rattle.std.proofs.Common.{◌≡◌, Some, slice_index, ap, ◌∙◌, arith}
use Rattle.dae_lex_scan.specs.Lone.{lone_sign}
use Rattle.dae_lex_scan.proofs.Alone.{alone_at}
use Rattle.dae_lex_scan.proofs.tables.lone_sign_at.Goals as goal

pub returns-in-Some : goal.returns-in-Some
returns-in-Some c =
    let e : Some c.in-Some.sign ≡ lone_sign (slice_index c.args.bytes.now 0) = c.in-Some.ensures ∙ ap lone_sign c.byte_at.ensures in
    let alone = alone_at c.args.bytes.now c.in-Some.sign e in
    record { value = alone.value; within = (omega arith, alone.within); longest = alone.longest }
