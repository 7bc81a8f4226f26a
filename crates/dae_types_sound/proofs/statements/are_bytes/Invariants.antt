use Rattle.std.proofs.Common.{◌≡◌, drop}
use Rattle.std.specs.List.{list_all}
use Rattle.dae_program.specs.Lawful.{is_byte}
use Rattle.dae_types_sound.proofs.statements.are_bytes.Given as goal

abbrev pub invariant-loop-piece : goal.invariant-loop-piece
invariant-loop-piece l = list_all is_byte (drop l.piece-index l.pieces) ≡ list_all is_byte l.pieces
