use Rattle.std.proofs.Common.{◌≡◌, ◌+◌, ◌*◌, ◌++◌, length, drop}
use Rattle.std.specs.List.{flat_map}
use Rattle.dae_cli_drive.specs.Notes.{shown_byte}
use Rattle.dae_cli_drive.proofs.notes.push_bytes.Given as goal

abbrev pub invariant-loop-byte : goal.invariant-loop-byte
invariant-loop-byte l = record {
  text : l.line ++ flat_map shown_byte (drop l.byte-index l.bytes) ≡ l.initial.line ++ flat_map shown_byte l.bytes;
  size : length l.line ≡ length l.initial.line + 3 * l.byte-index;
}
