-- Three characters for each byte so far.
use Rattle.std.proofs.Common.{◌≡◌, ◌+◌, ◌*◌, ◌++◌, length, drop}
use Rattle.std.specs.List.{flat_map}
use Rattle.dae_cli_drive.specs.Notes.{shown_byte}
use Rattle.dae_debug.proofs.texts.push_bytes.Given as goal

abbrev pub invariant-loop-byte : goal.invariant-loop-byte
invariant-loop-byte l = record {
  text : l.reply ++ flat_map shown_byte (drop l.byte-index l.bytes) ≡ l.initial.reply ++ flat_map shown_byte l.bytes;
  size : length l.reply ≡ length l.initial.reply + 3 * l.byte-index;
}
