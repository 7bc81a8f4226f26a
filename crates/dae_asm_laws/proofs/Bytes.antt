-- The bytes of UTF-8 are bytes.
use Rattle.std.proofs.Common.{◌≡◌, ℕ, ◌+◌, ◌/◌, ◌%◌, ◌<◌, Bool, true, false, ◌&&◌, cond, List, [], ◌∷◌, refl, subst, arith}
use Rattle.std.specs.Prelude.{nat_lt, nat_le}
use Rattle.std.specs.Char.{encode_utf8, IsScalar}
use Rattle.std.specs.Str.{is_utf8, encode_utf8_all}
use Rattle.std.proofs.Math.Utf8.{scalars}
use Rattle.std.proofs.lemmas.Bool.{and_parts}
use Rattle.std.proofs.lemmas.Bool.Decides.{nat_tests}
use Rattle.std.proofs.lemmas.Str.{IsUtf8-from_is_utf8}
use Rattle.dae_base.specs.Words.{AreBytes}
use Rattle.dae_base.proofs.Laws.{bytes-append}

one_byte : (c : ℕ) → nat_lt c 128 ≡ true → c < 256
one_byte c e = grind (arith, nat_tests)

two_bytes : (c : ℕ) → nat_lt c 2048 ≡ true → 192 + c / 64 < 256
two_bytes c e = let h : c < 2048 = grind (arith, nat_tests) in omega arith

three_bytes : (c : ℕ) → nat_lt c 65536 ≡ true → 224 + c / 4096 < 256
three_bytes c e = let h : c < 65536 = grind (arith, nat_tests) in omega arith

by_size : (c : ℕ) (x y z : Bool) → nat_lt c 128 ≡ x → nat_lt c 2048 ≡ y → nat_lt c 65536 ≡ z → c < 1114112
    → AreBytes (cond x (c ∷ []) (cond y ((192 + c / 64) ∷ (128 + c % 64) ∷ []) (cond z ((224 + c / 4096) ∷ (128 + c / 64 % 64) ∷ (128 + c % 64) ∷ []) ((240 + c / 262144) ∷ (128 + c / 4096 % 64) ∷ (128 + c / 64 % 64) ∷ (128 + c % 64) ∷ []))))
by_size c true y z e f g h = (one_byte c e, tt)
by_size c false true z e f g h = (two_bytes c f, (omega arith, tt))
by_size c false false true e f g h = (three_bytes c g, (omega arith, (omega arith, tt)))
by_size c false false false e f g h = (omega arith, (omega arith, (omega arith, (omega arith, tt))))

below : (c : ℕ) (x y z : Bool) → nat_lt c 55296 ≡ x → nat_le 57344 c ≡ y → nat_lt c 1114112 ≡ z → cond x true (y && z) ≡ true → c < 1114112
below c true y z e f g h = grind (arith, nat_tests)
below c false true true e f g h = grind (arith, nat_tests)
below c false true false e f g h = absurd cc
below c false false z e f g h = absurd cc

of_char : (c : ℕ) → IsScalar c → AreBytes (encode_utf8 c)
unfolding encode_utf8
of_char c h = by_size c (nat_lt c 128) (nat_lt c 2048) (nat_lt c 65536) refl refl refl (below c (nat_lt c 55296) (nat_le 57344 c) (nat_lt c 1114112) refl refl refl h)

of_chars : (cs : List ℕ) → scalars cs ≡ true → AreBytes (encode_utf8_all cs)
of_chars [] h = tt
of_chars (c ∷ cs) h = let parts = and_parts _ (scalars cs) h in bytes-append (encode_utf8 c) (encode_utf8_all cs) (of_char c parts.0) (of_chars cs parts.1)

pub text_bytes : (bs : List ℕ) → is_utf8 bs ≡ true → AreBytes bs
text_bytes bs e = let t = IsUtf8-from_is_utf8 bs e in let same = t.1 in subst AreBytes same.1 (of_chars t.0 same.0)
