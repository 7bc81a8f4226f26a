use Rattle.std.proofs.Common.{◌≡◌, ◌<◌, ◌^◌, drop, max}
use Rattle.dae_types_tables.specs.Seen.{tables}
use Rattle.dae_types_typed.specs.Frames.{last_end}
use Rattle.dae_types_products.proofs.frames.last_end.Given as goal

abbrev pub invariant-loop-local : goal.invariant-loop-local
invariant-loop-local l = (max l.last (last_end (tables l.checker) (drop l.local-index l.locals) l.rest) ≡ last_end (tables l.checker) l.locals l.storages) × (l.last < 2 ^ 33)
