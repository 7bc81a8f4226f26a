-- What stands at the front of a text whose lines are joined: a blank, a word, a number, a literal, a sign, or a fault
-- (C90 6.1, where the longest piece counts).
use Rattle.std.specs.Prelude.{take, ◌==◌, ℕ, suc, ◌+◌, ◌<◌, ◌≤◌, List, [], ◌∷◌, Bool, false, not, if◌then◌else◌, ◌&&◌, ◌||◌, nat_lt, nat_le, length, drop, slice_index, Option, Some, None, Ok, Err}
use Rattle.std.specs.List.{prefix_len}
use Rattle.std.specs.Char.{is_ascii_alphabetic, is_ascii_digit}
use Rattle.dae_tree.specs.Tables.{sign_of}
use Rattle.dae_tree.specs.Constants.{is_exponent, is_plus_or_minus, constant_of}
use Rattle.dae_tree.specs.Literals.{is_nowhere, is_trigraph, values_of, fault_from}
use Rattle.dae_tree.specs.declared.pieces.Lexeme.{Lexeme}
use Rattle.dae_tree.specs.declared.pieces.PieceKind.{PieceKind}
use Rattle.dae_tree.specs.declared.pieces.PieceKind.TheVariants.{Blank, LineEnd, Word, Constant, Text, Late, Faulty, FaultyComment}
use Rattle.dae_tree.specs.declared.faults.TextFault.{TextFault}
use Rattle.dae_tree.specs.declared.faults.TextFault.TheVariants.{BadByte, Named}
use Rattle.dae_tree.specs.declared.faults.Construct.TheVariants.{Trigraph, WideLiteral, LongCharacter, Unterminated}

-- bytes of words, and blanks
abbrev pub is_letter : ℕ → Bool
is_letter b = is_ascii_alphabetic b || (b == 95)

abbrev pub is_word : ℕ → Bool
is_word b = is_letter b || is_ascii_digit b

abbrev pub is_blank : ℕ → Bool
is_blank b = (b == 32) || (b == 9) || (b == 11) || (b == 12) || (b == 13)

-- the first place from which the rest passes p, or the length where there is none
abbrev pub place_of : (List ℕ → Bool) → List ℕ → ℕ
place_of p [] = 0
place_of p (b ∷ bs) = if p (b ∷ bs) then 0 else suc (place_of p bs)

-- the kinds of what stands at the front, with its length; a fault stands at a place of its own, and takes all the rest
abbrev pub plain : PieceKind → ℕ → Lexeme
plain kind n = record { kind = kind; length = n; at = 0 }

abbrev pub wrong : TextFault → ℕ → List ℕ → Lexeme
wrong fault at bytes = record { kind = Faulty fault; length = length bytes; at = at }

abbrev pub wrong_comment : TextFault → ℕ → List ℕ → Lexeme
wrong_comment fault at bytes = record { kind = FaultyComment fault; length = length bytes; at = at }

-- a word is the longest run of letters and digits, and no L stands before a quote
unfoldable pub word_form : List ℕ → Lexeme
word_form bytes =
    if (prefix_len is_word bytes == 1) && (slice_index bytes 0 == 76)
    && ((slice_index bytes 1 == 34) || (slice_index bytes 1 == 39))
    then wrong (Named WideLiteral) 0 bytes
    else plain Word (prefix_len is_word bytes)

-- how far a number goes on, where a sign behind an e belongs to it (C90 6.1.8)
abbrev pub number_rest : Bool → List ℕ → ℕ
number_rest e [] = 0
number_rest e (b ∷ bs) =
    if is_word b || (b == 46) || (e && is_plus_or_minus b) then suc (number_rest (is_exponent b) bs) else 0

abbrev pub begins_number : List ℕ → Bool
begins_number bytes = is_ascii_digit (slice_index bytes 0) || ((slice_index bytes 0 == 46) && is_ascii_digit (slice_index bytes 1))

unfoldable pub number_kind : List ℕ → PieceKind
number_kind spelling = elim (constant_of spelling) [ Ok constant ↦ Constant constant | Err construct ↦ Late construct ]

unfoldable pub number_form : List ℕ → Lexeme
number_form bytes = plain (number_kind (take (number_rest false bytes) bytes)) (number_rest false bytes)

-- where a literal stops: at its quote, at the end of its line or of the text; after a backslash a quote is no end
abbrev pub literal_stop : Bool → ℕ → List ℕ → ℕ
literal_stop escaped quote [] = 0
literal_stop escaped quote (b ∷ bs) =
    if (b == 10) || ((b == quote) && not escaped) then 0
    else suc (literal_stop ((b == 92) && not escaped) quote bs)

-- what is wrong between the quotes: a character constant has one character; else the first fault that stands there
abbrev pub literal_fault : ℕ → List ℕ → Option (TextFault × ℕ)
literal_fault quote inside =
    if (quote == 39) && not (length (values_of inside) == 1) then Some (Named LongCharacter, 0)
    else elim (fault_from 0 inside) [ None ↦ None | Some found ↦ Some (found.0, 1 + found.1) ]

abbrev pub literal_kind : ℕ → List ℕ → PieceKind
literal_kind quote inside =
    if quote == 39 then Constant (record { value = slice_index (values_of inside) 0; unsigned = false }) else Text

-- a literal, with its quote at the front
unfoldable pub literal_form : List ℕ → Lexeme
literal_form bytes =
    let quote = slice_index bytes 0 in
    let stop = literal_stop false quote (drop 1 bytes) in
    let inside = take stop (drop 1 bytes) in
    if not (slice_index bytes (1 + stop) == quote) then wrong (Named Unterminated) 0 bytes
    else elim (literal_fault quote inside) [
      | None ↦ plain (literal_kind quote inside) (stop + 2)
      | Some found ↦ wrong found.0 found.1 bytes
    ]

-- comments are blanks
abbrev pub closes_comment : List ℕ → Bool
closes_comment (a ∷ b ∷ bs) = (a == 42) && (b == 47)
closes_comment _ = false

abbrev pub front_nowhere : List ℕ → Bool
front_nowhere bytes = is_nowhere (slice_index bytes 0)

unfoldable pub comment_form : List ℕ → Lexeme
comment_form bytes =
    let close = place_of closes_comment (drop 2 bytes) in
    let at = place_of front_nowhere (take (close + 4) bytes) in
    if nat_le (length bytes) (2 + close) then wrong_comment (Named Unterminated) 0 bytes
    else (if nat_lt at (close + 4) then wrong_comment BadByte at bytes else plain Blank (close + 4))

abbrev pub ends_line : List ℕ → Bool
ends_line bytes = slice_index bytes 0 == 10

-- a comment to the end of its line, behind two slashes
unfoldable pub line_comment_form : List ℕ → Lexeme
line_comment_form bytes =
    let end = place_of ends_line bytes in
    let at = place_of front_nowhere (take end bytes) in
    if nat_lt at end then wrong_comment BadByte at bytes else plain Blank end

unfoldable pub sign_form : List ℕ → Lexeme
sign_form bytes = elim (sign_of bytes) [ None ↦ wrong BadByte 0 bytes | Some found ↦ plain found.1 found.0 ]

-- what stands at the front
unfoldable pub form : List ℕ → Lexeme
form bytes =
    let a = slice_index bytes 0 in
    let b = slice_index bytes 1 in
    if a == 10 then plain LineEnd 1
    else (if is_blank a then plain Blank 1
    else (if is_letter a then word_form bytes
    else (if begins_number bytes then number_form bytes
    else (if (a == 34) || (a == 39) then literal_form bytes
    else (if (a == 47) && (b == 42) then comment_form bytes
    else (if (a == 47) && (b == 47) then line_comment_form bytes
    else (if is_trigraph bytes then wrong (Named Trigraph) 0 bytes
    else sign_form bytes)))))))

-- a form has at least one byte, and a fault stands at one of its bytes
abbrev pub IsWithin : Lexeme → List ℕ → Type 0
IsWithin f bytes = (0 < f.length) × (f.length ≤ length bytes) × (f.at < f.length)
