use Rattle.std.proofs.Common.{arith, length}
use Rattle.dae_image.proofs.HeaderLaws.{header_takes}
use Rattle.dae_image.proofs.reading.all.Goals as goal

pub body-requires : goal.body-requires
body-requires c = (header_takes (length c.args.bytes.now) c.args.bytes.now (c.in_ok-header.header, c.in_ok-header.rest.now) (λ i. omega (arith, c.type_inv.bytes i)) c.in_ok-header.ensures.gives).fits
