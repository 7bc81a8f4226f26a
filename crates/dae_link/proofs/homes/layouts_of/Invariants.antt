use Rattle.std.specs.Prelude.{take}
use Rattle.std.specs.List.{AllZip}
use Rattle.dae_link.specs.Settled.{IsLayoutOf}
use Rattle.dae_link.proofs.homes.layouts_of.Given as goal

abbrev pub invariant-loop-index : goal.invariant-loop-index
invariant-loop-index l = AllZip IsLayoutOf (take l.index l.functions) l.layouts.items
