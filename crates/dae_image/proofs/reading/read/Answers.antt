use Rattle.std.proofs.Common.{arith}
use Rattle.dae_image.proofs.ReadLaws.{is_found, is_only, is_short, is_trailing, is_only_trailing}
use Rattle.dae_image.proofs.reading.read.Goals as goal

pub returns-clause-found : goal.returns-clause-found
returns-clause-found c = is_found c.args.bytes.now c.all.result (λ i. omega (arith, c.type_inv.bytes i)) c.all.ensures.gives

pub returns-clause-only : goal.returns-clause-only
returns-clause-only c = λ image spelled. is_only c.args.bytes.now c.all.result image c.all.ensures.gives spelled

pub returns-clause-short : goal.returns-clause-short
returns-clause-short c = is_short c.args.bytes.now c.all.result (λ i. omega (arith, c.type_inv.bytes i)) c.all.ensures.gives

pub returns-clause-trailing : goal.returns-clause-trailing
returns-clause-trailing c = is_trailing c.args.bytes.now c.all.result (λ i. omega (arith, c.type_inv.bytes i)) c.all.ensures.gives

pub returns-clause-only_trailing : goal.returns-clause-only_trailing
returns-clause-only_trailing c = is_only_trailing c.args.bytes.now c.all.result c.all.ensures.gives
