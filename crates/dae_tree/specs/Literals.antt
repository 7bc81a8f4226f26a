-- What stands between the quotes of a literal: bytes for themselves, and escapes (C90 6.1.3.4 and 6.1.4).
use Rattle.std.specs.Prelude.{◌==◌, ℕ, zero, suc, pred, ◌+◌, ◌-◌, List, [], ◌∷◌, Bool, false, not, if◌then◌else◌, ◌&&◌, ◌||◌, nat_lt, length, take, drop, min, Option, Some, None, Result, Ok, Err, option_map, unwrap_or, slice_index}
use Rattle.std.specs.List.{prefix_len}
use Rattle.dae_tree.specs.Constants.{is_digit_in, value_from, limited}
use Rattle.dae_tree.specs.declared.literals.TheConstants.{ESCAPES}
use Rattle.dae_tree.specs.declared.faults.TextFault.{TextFault}
use Rattle.dae_tree.specs.declared.faults.TextFault.TheVariants.{BadByte, Named}
use Rattle.dae_tree.specs.declared.faults.Construct.TheVariants.{Trigraph, BadEscape}

-- a control byte that is no blank, which may not stand anywhere
abbrev pub is_nowhere : ℕ → Bool
is_nowhere b = (nat_lt b 32 && not ((b == 9) || (b == 10) || (b == 11) || (b == 12) || (b == 13))) || (b == 127)

-- two question marks before one of nine signs (C90 5.2.1.1)
abbrev pub is_trigraph : List ℕ → Bool
is_trigraph (a ∷ b ∷ c ∷ bs) = (a == 63) && (b == 63)
    && ((c == 61) || (c == 47) || (c == 39) || (c == 40) || (c == 41) || (c == 33) || (c == 60) || (c == 62) || (c == 45))
is_trigraph _ = false

-- the byte that a letter stands for behind a backslash
abbrev pub letter_in : List (ℕ × ℕ) → ℕ → Option ℕ
letter_in [] b = None
letter_in (r ∷ rs) b = if b == r.0 then Some r.1 else letter_in rs b

unfoldable pub letter_of : ℕ → Option ℕ
letter_of b = letter_in ESCAPES b

-- An escape, with its backslash at the front: one to three octal digits, an x with hexadecimal ones, or a letter. Its
-- value, none where it is bad, and its length.
unfoldable pub escape_of : List ℕ → Option ℕ × ℕ
escape_of bytes =
    let octal = min 3 (prefix_len (is_digit_in 8) (drop 1 bytes)) in
    let hex = prefix_len (is_digit_in 16) (drop 2 bytes) in
    if slice_index bytes 1 == 120
    then (if hex == 0 then (None, 2) else (limited 255 (value_from 16 0 (take hex (drop 2 bytes))), 2 + hex))
    else (if octal == 0 then (letter_of (slice_index bytes 1), 2)
    else (limited 255 (value_from 8 0 (take octal (drop 1 bytes))), 1 + octal))

-- the unit at the front: a byte for itself, or an escape
abbrev pub unit_of : List ℕ → Option ℕ × ℕ
unit_of bytes = if slice_index bytes 0 == 92 then escape_of bytes else (Some (slice_index bytes 0), 1)

-- the values of the units, with 0 for a bad escape, where the first n bytes are of a unit before
abbrev pub values_from : ℕ → List ℕ → List ℕ
values_from n [] = []
values_from (suc n) (b ∷ bs) = values_from n bs
values_from zero (b ∷ bs) = unwrap_or (unit_of (b ∷ bs)).0 0 ∷ values_from (pred (unit_of (b ∷ bs)).1) bs

abbrev pub values_of : List ℕ → List ℕ
values_of inside = values_from 0 inside

-- What is wrong at the front, where n bytes are left of a unit before: a trigraph, a byte that may not stand anywhere or
-- a bad escape. Else how many bytes are left of the unit then.
abbrev pub unit_left : Option ℕ → ℕ → Result ℕ TextFault
unit_left None n = Err (Named BadEscape)
unit_left (Some value) n = Ok (pred n)

abbrev pub left_of : ℕ → List ℕ → Result ℕ TextFault
left_of zero bytes = unit_left (unit_of bytes).0 (unit_of bytes).1
left_of (suc n) bytes = Ok n

abbrev pub checked : ℕ → List ℕ → Result ℕ TextFault
checked n bytes =
    if is_trigraph bytes then Err (Named Trigraph)
    else (if is_nowhere (slice_index bytes 0) then Err BadByte else left_of n bytes)

-- the first fault, and how far on it stands
abbrev pub one_on : Option (TextFault × ℕ) → Option (TextFault × ℕ)
one_on found = option_map (λ f. (f.0, suc f.1)) found

abbrev pub fault_from : ℕ → List ℕ → Option (TextFault × ℕ)
fault_from n [] = None
fault_from n (b ∷ bs) = elim (checked n (b ∷ bs)) [ Ok m ↦ one_on (fault_from m bs) | Err f ↦ Some (f, 0) ]

-- what stands between the quotes of a literal's spelling
abbrev pub inside : List ℕ → List ℕ
inside spelling = take (length spelling - 2) (drop 1 spelling)
