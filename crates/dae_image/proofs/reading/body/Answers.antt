use Rattle.std.proofs.Common.{arith}
use Rattle.dae_image.proofs.ImageLaws.{body_takes, body_of}
use Rattle.dae_image.proofs.reading.body.Goals as goal

pub invariant_of-image : goal.invariant_of-image
invariant_of-image c =
    let bytes = c.args.bytes.now in
    let read = body_of c.args.whole c.args.header bytes (c.in_ok-code_a.code_a, c.in_ok-code_a.rest.now) (c.in_ok-code_e.code_e, c.in_ok-code_e.rest.now) (c.in_ok-content.content, c.in_ok-content.rest.now) (c.in_ok-lines.lines, c.in_ok-lines.rest.now) (c.in_ok-names.names, c.in_ok-names.rest.now) c.in_ok-code_a.ensures c.in_ok-code_e.ensures c.in_ok-content.ensures c.in_ok-lines.ensures c.in_ok-names.ensures in
    record { fits = (body_takes c.args.whole c.args.header bytes _ c.requires (λ i. omega (arith, c.type_inv.bytes i)) read).fits }
