-- The formats of printf (C90 7.9.6.1): `%d`, `%i`, `%u`, `%x`, each also with `l`, `%c`, `%s` and `%%`.
use Rattle.std.specs.Prelude.{ℕ, suc, List, [], ◌∷◌, Option, Some, None, Bool, true, false, nat_eq, if◌then◌else◌}
use Rattle.dae_meaning.specs.declared.Spelling.TheVariants as spelling
use Rattle.dae_program.specs.declared.statements.FormatPiece.{FormatPiece}
use Rattle.dae_program.specs.declared.statements.FormatPiece.TheVariants as piece
use Rattle.dae_types_kinds.specs.Types.{word_for}

-- where in a conversion a byte stands
pub data ConversionPart : Type 0 where
  InText : ConversionPart
  BehindPercent : ConversionPart
  BehindLong : ConversionPart

abbrev pub with_piece : FormatPiece → Option (List FormatPiece) → Option (List FormatPiece)
with_piece x None = None
with_piece x (Some xs) = Some (x ∷ xs)

-- the conversion of argument k that a letter says
abbrev pub number_piece : ℕ → ℕ → Option FormatPiece
number_piece k b =
    if nat_eq b 100 then Some (piece.Word spelling.Signed k)
    else if nat_eq b 105 then Some (piece.Word spelling.Signed k)
    else if nat_eq b 117 then Some (piece.Word spelling.Unsigned k)
    else if nat_eq b 120 then Some (piece.Word spelling.Hexadecimal k)
    else None

abbrev pub letter_piece : ℕ → ℕ → Option FormatPiece
letter_piece k b = if nat_eq b 99 then Some (piece.Word spelling.Byte k) else if nat_eq b 115 then Some (piece.String k) else number_piece k b

abbrev pub converted_with : Option FormatPiece → Option (List FormatPiece) → Option (List FormatPiece)
converted_with None rest = None
converted_with (Some x) rest = with_piece x rest

-- the pieces of a format, from argument k on
abbrev pub pieces_from : ConversionPart → ℕ → List ℕ → Option (List FormatPiece)
pieces_from InText k [] = Some []
pieces_from _ k [] = None
pieces_from InText k (b ∷ bs) = if nat_eq b 0 then None else if nat_eq b 37 then pieces_from BehindPercent k bs else with_piece (piece.Byte b) (pieces_from InText k bs)
pieces_from BehindPercent k (b ∷ bs) =
    if nat_eq b 37 then with_piece (piece.Byte 37) (pieces_from InText k bs)
    else if nat_eq b 108 then pieces_from BehindLong k bs
    else converted_with (letter_piece k b) (pieces_from InText (word_for (suc k)) bs)
pieces_from BehindLong k (b ∷ bs) = converted_with (number_piece k b) (pieces_from InText (word_for (suc k)) bs)

-- what each argument must be, in their order: whether it is text
abbrev pub letters : List FormatPiece → List Bool
letters [] = []
letters (piece.Byte b ∷ xs) = letters xs
letters (piece.Word s k ∷ xs) = false ∷ letters xs
letters (piece.String k ∷ xs) = true ∷ letters xs
