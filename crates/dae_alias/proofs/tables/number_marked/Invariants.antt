use Rattle.std.proofs.Common.{take}
use Rattle.dae_alias.proofs.Numbered.{IsNumbered}
use Rattle.dae_alias.proofs.tables.number_marked.Given as goal

abbrev pub invariant-loop-mark : goal.invariant-loop-mark
invariant-loop-mark l = IsNumbered l.first (take l.mark-index l.marks) l.holders.items l.variables
