-- What a number's spelling says (C90 6.1.3.2).
use Rattle.std.specs.Prelude.{◌==◌, ℕ, ◌+◌, ◌*◌, ◌-◌, List, [], ◌∷◌, Bool, not, if◌then◌else◌, ◌&&◌, ◌||◌, nat_lt, nat_le, take, drop, Option, Some, None, Result, Ok, Err, slice_index}
use Rattle.std.specs.List.{prefix_len, list_any}
use Rattle.std.specs.Char.{is_ascii_digit}
use Rattle.dae_tree.specs.Tables.{suffix_of}
use Rattle.dae_tree.specs.declared.faults.Construct.{Construct}
use Rattle.dae_tree.specs.declared.faults.Construct.TheVariants.{FloatConstant, BadConstant, NumberTooLarge}
use Rattle.dae_tree.specs.declared.constants.Constant.{Constant}

-- what a byte counts as a digit, and 99 for one that is none
abbrev pub digit : ℕ → ℕ
digit b =
    if nat_le 48 b && nat_le b 57 then b - 48
    else (if nat_le 97 b && nat_le b 102 then b - 87
    else (if nat_le 65 b && nat_le b 70 then b - 55 else 99))

abbrev pub is_digit_in : ℕ → ℕ → Bool
is_digit_in base b = nat_lt (digit b) base

-- the value of digits in a base, behind digits with the value n
abbrev pub value_from : ℕ → ℕ → List ℕ → ℕ
value_from base n [] = n
value_from base n (d ∷ ds) = value_from base (n * base + digit d) ds

-- a value up to a limit
abbrev pub limited : ℕ → ℕ → Option ℕ
limited limit n = if nat_le n limit then Some n else None

abbrev pub is_hex : List ℕ → Bool
is_hex bytes = (slice_index bytes 0 == 48) && ((slice_index bytes 1 == 120) || (slice_index bytes 1 == 88))

abbrev pub is_exponent : ℕ → Bool
is_exponent b = (b == 101) || (b == 69)

abbrev pub is_plus_or_minus : ℕ → Bool
is_plus_or_minus b = (b == 43) || (b == 45)

-- an exponent: an e, then digits that may have a sign before them
abbrev pub begins_exponent : List ℕ → Bool
begins_exponent bytes =
    is_exponent (slice_index bytes 0)
    && (is_ascii_digit (slice_index bytes 1)
    || (is_plus_or_minus (slice_index bytes 1) && is_ascii_digit (slice_index bytes 2)))

-- a number with a point, or with an exponent behind its digits
abbrev pub is_float : List ℕ → Bool
is_float bytes =
    list_any (λ b. b == 46) bytes
    || (not (is_hex bytes) && begins_exponent (drop (prefix_len is_ascii_digit bytes) bytes))

-- the base, and where the digits begin: a leading 0 is a digit itself
abbrev pub base_of : List ℕ → ℕ × ℕ
base_of bytes = if is_hex bytes then (16, 2) else (if slice_index bytes 0 == 48 then (8, 0) else (10, 0))

-- a constant is unsigned by its suffix, or where int doesn't hold it
abbrev pub constant_by : Option Bool → Option ℕ → Result Constant Construct
constant_by None value = Err BadConstant
constant_by (Some unsigned) None = Err NumberTooLarge
constant_by (Some unsigned) (Some value) = Ok (record { value = value; unsigned = unsigned || nat_le 2147483648 value })

-- digits of the base, at least one, and a suffix
unfoldable pub constant_of : List ℕ → Result Constant Construct
constant_of bytes =
    let rest = drop (base_of bytes).1 bytes in
    let n = prefix_len (is_digit_in (base_of bytes).0) rest in
    if is_float bytes then Err FloatConstant
    else (if n == 0 then Err BadConstant
    else constant_by (suffix_of (drop n rest)) (limited 4294967295 (value_from (base_of bytes).0 0 (take n rest))))
