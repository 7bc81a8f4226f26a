use Rattle.std.proofs.Common.{◌≡◌, ◌++◌, drop}
use Rattle.dae_types_file_plans.specs.Files.{kept_from}
use Rattle.dae_types_tables.specs.Seen.{tables}
use Rattle.dae_types_linkage.specs.Rooms.{kept_in}
use Rattle.dae_types_linkage.proofs.frames.storages_of.Given as goal

abbrev pub invariant-loop-local : goal.invariant-loop-local
invariant-loop-local l = l.storages.items ++ kept_in (tables l.checker) l.room (drop l.local-index l.local-items) ≡ kept_from (tables l.checker) 1 0 l.parameters (tables l.checker).locals
