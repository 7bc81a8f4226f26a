use Rattle.std.proofs.Common.{◌≡◌, Some, slice_index, ap, ◌∙◌, arith}
use Rattle.dae_lex_scan.specs.Lone.{spaced_sign}
use Rattle.dae_lex_scan.proofs.Alone.{spaced_at}
use Rattle.dae_lex_scan.proofs.tables.spaced_sign_at.Goals as goal

pub returns-in-Some : goal.returns-in-Some
returns-in-Some c =
    let e : Some c.in-Some.sign ≡ spaced_sign (slice_index c.args.bytes.now 0) = c.in-Some.ensures ∙ ap spaced_sign c.byte_at.ensures in
    let blank : slice_index c.args.bytes.now 1 ≡ 32 = omega arith in
    let alone = spaced_at c.args.bytes.now c.in-Some.sign blank e in
    record { value = alone.value; within = (omega arith, alone.within); longest = alone.longest }
