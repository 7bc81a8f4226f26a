use Rattle.std.proofs.Common.{◌≡◌, ◌++◌, drop}
use Rattle.dae_program.specs.Views.{view_settings}
use Rattle.dae_types_file_plans.specs.Initialisers.{byte_settings}
use Rattle.dae_types_fills.proofs.items.push_bytes.Given as goal

abbrev pub invariant-loop-byte : goal.invariant-loop-byte
invariant-loop-byte l =
    view_settings l.items.items ++ byte_settings l.next l.kind (drop l.byte-index l.bytes) ≡ view_settings l.fn.items.items ++ byte_settings l.fn.offset l.kind l.bytes
