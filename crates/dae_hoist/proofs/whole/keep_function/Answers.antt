use Rattle.std.proofs.Common.{List, inl, refl, ap}
use Rattle.dae_ir.specs.declared.stream.Class.{Class}
use Rattle.dae_hoist.specs.Forms.{addresses_in}
use Rattle.dae_hoist.proofs.whole.keep_function.Goals as goal

pub returns : goal.returns
returns c = inl (refl, ap (λ (row : List Class). addresses_in row) c.in_ok-same.ensures)
