use Rattle.std.specs.Prelude.{◌≡◌, drop}
use Rattle.dae_commons.specs.Equations.{is_among}
use Rattle.dae_commons.proofs.equations.is_among.Given as goal

abbrev pub invariant-loop-other : goal.invariant-loop-other
invariant-loop-other l = is_among l.equation (drop l.other-index l.known) ≡ is_among l.equation l.known
