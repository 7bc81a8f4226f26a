-- Formats and stacks of what is to be filled, in memory, as plain data.
use Rattle.std.specs.Prelude.{ℕ, List, ◌++◌, Option, Some, None}
use Rattle.dae_program.specs.declared.statements.FormatPiece.{FormatPiece}
use Rattle.dae_types_file_plans.specs.Formats.{ConversionPart, InText, BehindPercent, BehindLong, with_piece, pieces_from}
use Rattle.dae_types_fills.specs.declared.formats.ConversionPart.{ConversionPart as PartInMemory}
use Rattle.dae_types_fills.specs.declared.formats.ConversionPart.TheVariants as parts
use Rattle.dae_types_fills.specs.declared.formats.FormatSpot.{FormatSpot}

abbrev pub view_part : PartInMemory → ConversionPart
view_part parts.InText = InText
view_part parts.BehindPercent = BehindPercent
view_part parts.BehindLong = BehindLong

abbrev pub seen : {X Y : Type 0} → (X → Y) → Option X → Option Y
seen view None = None
seen view (Some x) = Some (view x)

-- the pieces of the bytes behind a spot in a format
abbrev pub pieces_at : FormatSpot → List ℕ → Option (List FormatPiece)
pieces_at x bs = pieces_from (view_part x.part) x.argument bs

-- pieces that are read, and those behind them
abbrev pub behind_pieces : List FormatPiece → Option (List FormatPiece) → Option (List FormatPiece)
behind_pieces ps None = None
behind_pieces ps (Some qs) = Some (ps ++ qs)

-- a piece or none, and the pieces behind a spot; or a format that is refused
abbrev pub read_on : Option (FormatSpot × Option FormatPiece) → List ℕ → Option (List FormatPiece)
read_on None bs = None
read_on (Some x) bs = elim x.1 [ None ↦ pieces_at x.0 bs | Some p ↦ with_piece p (pieces_at x.0 bs) ]
