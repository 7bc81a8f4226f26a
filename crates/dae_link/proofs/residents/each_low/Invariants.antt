use Rattle.std.specs.Prelude.{◌≡◌, drop}
use Rattle.dae_link.specs.Residents.{each_low}
use Rattle.dae_link.proofs.residents.each_low.Given as goal

abbrev pub invariant-loop-layout : goal.invariant-loop-layout
invariant-loop-layout l = each_low (drop l.layout-index l.layouts) ≡ each_low l.layouts
