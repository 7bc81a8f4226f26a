-- The tokens of a line of assembly text: signs, and the words between signs and blanks. A word is a
-- name, a number or neither.
use Rattle.std.specs.Prelude.{ℕ, ◌^◌, ℤ, pos, neg_ℤ, min, Bool, true, false, not, ◌&&◌, ◌||◌, ◌==◌, if◌then◌else◌, List, [], ◌∷◌, ◌++◌, Option, Some, None}
use Rattle.std.specs.Option.{option_map}
use Rattle.std.specs.List.{list_all}
use Rattle.std.specs.Char.{is_ascii_alphabetic, is_ascii_digit}
use Rattle.std.specs.Str.Parse.{digits_value}

pub data LineToken : Type 0 where
  Word : List ℕ → LineToken
  Number : ℤ → LineToken
  Sign : ℕ → LineToken
  Other : LineToken

-- a space or a tab
unfoldable pub is_blank : ℕ → Bool
is_blank b = b == 32 || b == 9

-- a comma, a parenthesis or a colon
unfoldable pub is_sign : ℕ → Bool
is_sign b = b == 44 || (b == 40 || (b == 41 || b == 58))

-- ---- words

abbrev pub is_letter : ℕ → Bool
is_letter b = is_ascii_alphabetic b || b == 95

abbrev pub is_letter_or_digit : ℕ → Bool
is_letter_or_digit b = is_letter b || is_ascii_digit b

-- a letter or `_`, and then letters, digits and `_`
abbrev pub is_label : List ℕ → Bool
is_label [] = false
is_label (b ∷ bs) = is_letter b && list_all is_letter_or_digit bs

-- a label, maybe behind a point
abbrev pub is_name : List ℕ → Bool
is_name [] = false
is_name (b ∷ bs) = if b == 46 then is_label bs else is_label (b ∷ bs)

abbrev pub is_empty : List ℕ → Bool
is_empty [] = true
is_empty (b ∷ bs) = false

-- decimal digits without a leading zero
abbrev pub are_digits : List ℕ → Bool
are_digits [] = false
are_digits (d ∷ ds) = (not (d == 48) || is_empty ds) && list_all is_ascii_digit (d ∷ ds)

-- the number that they spell; from 10 ^ 12 on, which is past each range, one counts as that
abbrev pub size_of : List ℕ → Option ℕ
size_of ds = if are_digits ds then Some (min (digits_value 10 ds) (10 ^ 12)) else None

-- the number that a word spells, maybe behind a minus sign
abbrev pub number_of : List ℕ → Option ℤ
number_of [] = None
number_of (b ∷ bs) =
    if b == 45 then option_map (λ n. neg_ℤ (pos n)) (size_of bs)
    else option_map (λ n. pos n) (size_of (b ∷ bs))

abbrev pub number_or_other : Option ℤ → LineToken
number_or_other None = Other
number_or_other (Some z) = Number z

abbrev pub token_of : List ℕ → LineToken
token_of word = if is_name word then Word word else number_or_other (number_of word)

-- ---- lines

-- a word, if it has bytes, and the tokens behind it
abbrev pub word_then : List ℕ → List LineToken → List LineToken
word_then [] tokens = tokens
word_then (b ∷ bs) tokens = token_of (b ∷ bs) ∷ tokens

-- the tokens of a word that has begun and of the bytes behind it
abbrev pub tokens_behind : List ℕ → List ℕ → List LineToken
tokens_behind word [] = word_then word []
tokens_behind word (b ∷ bs) =
    if is_blank b then word_then word (tokens_behind [] bs)
    else (if is_sign b then word_then word (Sign b ∷ tokens_behind [] bs)
    else tokens_behind (word ++ b ∷ []) bs)

unfoldable pub tokens_of : List ℕ → List LineToken
tokens_of line = tokens_behind [] line

-- a line up to its comment
abbrev pub before_comment : List ℕ → List ℕ
before_comment [] = []
before_comment (b ∷ bs) = if b == 59 then [] else b ∷ before_comment bs
