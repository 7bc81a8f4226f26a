use Rattle.std.proofs.Common.{◌≡◌, drop}
use Rattle.dae_types_file_plans.specs.Formats.{InText, pieces_from}
use Rattle.dae_types_fills.specs.Filled.{behind_pieces, pieces_at}
use Rattle.dae_types_fills.proofs.formats.format_pieces.Given as goal

abbrev pub invariant-loop-byte : goal.invariant-loop-byte
invariant-loop-byte l = behind_pieces l.pieces.items (pieces_at l.spot (drop l.byte-index l.format)) ≡ pieces_from InText 0 l.fn.format
