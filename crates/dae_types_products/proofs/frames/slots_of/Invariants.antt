use Rattle.std.proofs.Common.{◌≡◌, ◌++◌, drop}
use Rattle.dae_types_tables.specs.Seen.{tables}
use Rattle.dae_types_typed.specs.Frames.{slots_of}
use Rattle.dae_types_products.proofs.frames.slots_of.Given as goal

abbrev pub invariant-loop-local : goal.invariant-loop-local
invariant-loop-local l = l.slots.items ++ slots_of (tables l.checker) l.left (drop l.local-index l.locals) l.rest ≡ slots_of (tables l.checker) l.parameters l.locals l.storages
