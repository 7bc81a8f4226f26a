use Rattle.std.proofs.Common.{◌≡◌, ℕ, ◌+◌, ◌*◌, ◌^◌, ◌<◌, Bool, true, false, min, length, List, take, get_or, refl, arith}
use Rattle.std.specs.List.{list_all}
use Rattle.std.specs.Char.{is_ascii_digit, digit_value}
use Rattle.std.specs.Str.Parse.{digits_value}
use Rattle.std.proofs.lemmas.Bool.Decides.{nat_tests}
use Rattle.std.proofs.lemmas.Int.Digits.{digits_value_more}
use Rattle.std.proofs.lemmas.List.Folds.{list_all_at}
use Rattle.std.proofs.lemmas.Str.{digit_value_digit}
use Rattle.dae_asm_lines.proofs.tokens.value.Goals as goal

digit_spelled : (c : ℕ) (t : Bool) → is_ascii_digit c ≡ t → t ≡ true → digit_value c + 48 ≡ c
digit_spelled c true e h = digit_value_digit c (grind (arith, nat_tests), grind (arith, nat_tests))
digit_spelled c false e h = absurd cc

is_digit_at : (ds : List ℕ) (i : ℕ) → list_all is_ascii_digit ds ≡ true → i < length ds → (t : Bool) → is_ascii_digit (get_or ds i 0) ≡ t → is_ascii_digit (get_or ds i 0) ≡ true
is_digit_at ds i all within true e = e
is_digit_at ds i all within false e = let no = list_all_at is_ascii_digit ds i 0 within e in absurd cc

clipped : (v d n : ℕ) → n ≡ v * 10 + d → min (min v (10 ^ 12) * 10 + d) (10 ^ 12) ≡ min n (10 ^ 12)
clipped v d n e = omega arith

pub loop-digit-preserved : goal.loop-digit-preserved
loop-digit-preserved c =
    let ds = c.args.digits.now in
    let i = c.loop-digit.digit-index in
    let more = digits_value_more 10 ds i c.loop-digit-test.true in
    let digit = is_digit_at ds i c.requires c.loop-digit-test.true _ refl in
    let spelled = digit_spelled (get_or ds i 0) _ digit refl in
    let clip = clipped (digits_value 10 (take i ds)) (digit_value (get_or ds i 0)) _ more in
    grind arith
