use Rattle.std.proofs.Common.{take}
use Rattle.dae_types_kinds.specs.declared.tables.Entity.TheVariants as entity
use Rattle.dae_types_sound.specs.Used.{AreUsed}
use Rattle.dae_types_sound.proofs.used.used_functions.Given as goal

abbrev pub invariant-loop-used : goal.invariant-loop-used
invariant-loop-used l = AreUsed (take l.used-index l.uses) entity.Function l.numbers
