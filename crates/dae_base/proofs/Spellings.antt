-- Each text that isn't nothing has a byte.
use Rattle.std.proofs.Common.{◌≡◌, ℕ, zero, suc, ◌/◌, ◌%◌, ◌<◌, Bool, true, false, List, [], ◌∷◌, length, refl, arith}
use Rattle.std.specs.Prelude.{ℤ, pos, negsuc, ◌==◌, nat_eq, if◌then◌else◌}
use Rattle.std.specs.Fmt.{digits_onto, digit_glyph, digits, signed_decimal}
use Rattle.std.proofs.lemmas.Bool.Decides.{nat_tests}
use Rattle.dae_base.specs.Words.{signed}
use Rattle.dae_base.specs.Texts.{spelled, is_nothing}
use Rattle.dae_base.specs.declared.Signedness.TheVariants.{Signed, Unsigned}
use Rattle.dae_base.specs.declared.pieces.PieceSpelling.{PieceSpelling}
use Rattle.dae_base.specs.declared.pieces.PieceSpelling.TheVariants.{Nothing, Byte, Decimal, Hexadecimal}

if_some : (b : Bool) (xs ys : List ℕ) → 0 < length xs → 0 < length ys → 0 < length (if b then xs else ys)
if_some true xs ys h k = h
if_some false xs ys h k = k

one_some : (x : ℕ) (xs : List ℕ) → 0 < length (x ∷ xs)
one_some x xs = omega arith

onto_some : (k base : ℕ) (upper : Bool) (n : ℕ) (later : List ℕ) → 0 < length later → 0 < length (digits_onto k base upper n later)
onto_some zero base upper n later h = h
onto_some (suc k) base upper n later h =
    if_some (n / base == 0) _ _ (one_some (digit_glyph upper (n % base)) later) (onto_some k base upper (n / base) _ (one_some (digit_glyph upper (n % base)) later))

digits_some : (base : ℕ) (upper : Bool) (n : ℕ) → 0 < length (digits base upper n)
unfolding digits
digits_some base upper n =
    if_some (n / base == 0) _ _ (one_some (digit_glyph upper (n % base)) []) (onto_some 63 base upper (n / base) _ (one_some (digit_glyph upper (n % base)) []))

signed_some : (z : ℤ) → 0 < length (signed_decimal z)
signed_some (pos n) = digits_some 10 false n
signed_some (negsuc n) = one_some 45 _

not_zero : (n : ℕ) → 0 < n → nat_eq n 0 ≡ false
not_zero n h = grind (arith, nat_tests)

pub none_of_nothing : (s : PieceSpelling) (w : ℕ) → nat_eq (length (spelled s w)) 0 ≡ is_nothing s
none_of_nothing Nothing w = refl
none_of_nothing Byte w = refl
none_of_nothing (Decimal Signed) w = not_zero _ (signed_some (signed w))
none_of_nothing (Decimal Unsigned) w = not_zero _ (digits_some 10 false w)
none_of_nothing Hexadecimal w = not_zero _ (digits_some 16 false w)
