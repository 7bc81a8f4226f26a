-- The texts that the environment call of the execute processor prints.
use Rattle.std.specs.Prelude.{ℕ, ◌%◌, ◌^◌, Bool, true, false, List, [], ◌∷◌}
use Rattle.std.specs.Fmt.{decimal, signed_decimal, radix_digits}
use Rattle.dae_base.specs.Words.{signed}
use Rattle.dae_base.specs.declared.Signedness.{Signedness}
use Rattle.dae_base.specs.declared.Signedness.TheVariants.{Signed, Unsigned}
use Rattle.dae_base.specs.declared.pieces.PieceSpelling.{PieceSpelling}
use Rattle.dae_base.specs.declared.pieces.PieceSpelling.TheVariants.{Nothing, Byte, Decimal, Hexadecimal}

-- the low byte of a word
abbrev pub byte_text : ℕ → List ℕ
byte_text w = w % 2 ^ 8 ∷ []

-- a word in decimal, as a signed or an unsigned number
abbrev pub decimal_text : ℕ → Signedness → List ℕ
decimal_text w Signed = signed_decimal (signed w)
decimal_text w Unsigned = decimal w

-- a word in lower-case hexadecimal, without leading zeros
abbrev pub hex_text : ℕ → List ℕ
hex_text w = radix_digits 16 false w

-- a word as it is spelled
abbrev pub spelled : PieceSpelling → ℕ → List ℕ
spelled Nothing w = []
spelled Byte w = byte_text w
spelled (Decimal s) w = decimal_text w s
spelled Hexadecimal w = hex_text w

abbrev pub is_nothing : PieceSpelling → Bool
is_nothing Nothing = true
is_nothing Byte = false
is_nothing (Decimal s) = false
is_nothing Hexadecimal = false
