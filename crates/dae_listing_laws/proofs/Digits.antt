-- Decimal digits, and the tokens of numbers and registers.
use Rattle.std.proofs.Common.{◌≡◌, ℕ, zero, suc, ◌+◌, ◌-◌, ◌<◌, ◌^◌, pos, negsuc, Bool, true, false, not, ◌&&◌, ◌==◌, List, [], ◌∷◌, get_or, Some, refl, subst, arith}
use Rattle.std.specs.Prelude.{min, decimal, nat_lt}
use Rattle.std.specs.List.{list_all}
use Rattle.std.specs.Char.{is_ascii_digit}
use Rattle.std.specs.Str.Parse.{AllDigits}
use Rattle.std.proofs.lemmas.Bool.{ne_eqb}
use Rattle.std.proofs.lemmas.Fmt.{decimal_is_IsNumeral, decimal_digit, first_decimal}
use Rattle.std.proofs.lemmas.Str.Parse.{tells_digits}
use Rattle.std.specs.Int.{IsInRange}
use Rattle.dae_asm_lines.specs.Tokens.{Word, Number, is_blank, is_sign, is_letter, is_letter_or_digit, are_digits, size_of, token_of}
use Rattle.dae_asm_lines.specs.Scanning.{is_word_byte}

-- a byte that no line ends at and that begins no comment
abbrev pub is_plain : ℕ → Bool
is_plain b = nat_lt b 128 && (not (b == 59) && not (b == 10))

-- what holds of a decimal digit
pub record Digit (b : ℕ) : Type 0 where
  pub digit : is_ascii_digit b ≡ true
  pub inner : is_word_byte b ≡ true
  pub plain : is_plain b ≡ true
  pub follows : is_letter_or_digit b ≡ true
  pub letter : is_letter b ≡ false
  pub point : (b == 46) ≡ false
  pub minus : (b == 45) ≡ false

ten : (k : ℕ) → k < 10 → Digit (48 + k)
unfolding is_blank is_sign
ten zero h = record { digit = refl; inner = refl; plain = refl; follows = refl; letter = refl; point = refl; minus = refl }
ten (suc zero) h = record { digit = refl; inner = refl; plain = refl; follows = refl; letter = refl; point = refl; minus = refl }
ten (suc (suc zero)) h = record { digit = refl; inner = refl; plain = refl; follows = refl; letter = refl; point = refl; minus = refl }
ten (suc (suc (suc zero))) h = record { digit = refl; inner = refl; plain = refl; follows = refl; letter = refl; point = refl; minus = refl }
ten (suc (suc (suc (suc zero)))) h = record { digit = refl; inner = refl; plain = refl; follows = refl; letter = refl; point = refl; minus = refl }
ten (suc (suc (suc (suc (suc zero))))) h = record { digit = refl; inner = refl; plain = refl; follows = refl; letter = refl; point = refl; minus = refl }
ten (suc (suc (suc (suc (suc (suc zero)))))) h = record { digit = refl; inner = refl; plain = refl; follows = refl; letter = refl; point = refl; minus = refl }
ten (suc (suc (suc (suc (suc (suc (suc zero))))))) h = record { digit = refl; inner = refl; plain = refl; follows = refl; letter = refl; point = refl; minus = refl }
ten (suc (suc (suc (suc (suc (suc (suc (suc zero)))))))) h = record { digit = refl; inner = refl; plain = refl; follows = refl; letter = refl; point = refl; minus = refl }
ten (suc (suc (suc (suc (suc (suc (suc (suc (suc zero))))))))) h = record { digit = refl; inner = refl; plain = refl; follows = refl; letter = refl; point = refl; minus = refl }
ten (suc (suc (suc (suc (suc (suc (suc (suc (suc (suc k)))))))))) h = absurd (omega arith)

digit_is : (b : ℕ) → IsInRange 48 57 b → Digit b
digit_is b h = let e : 48 + (b - 48) ≡ b = omega (arith, h.0) in subst Digit e (ten (b - 48) (omega (arith, h.0, h.1)))

pub data Digits : List ℕ → Type 0 where
  no_digits : Digits []
  more_digits : {b : ℕ} {bs : List ℕ} → Digit b → Digits bs → Digits (b ∷ bs)

digits_are : (ds : List ℕ) → AllDigits 10 ds → Digits ds
digits_are [] h = no_digits
digits_are (d ∷ ds) h = let p = tells_digits.parts d ds h in more_digits (digit_is d p.0) (digits_are ds p.1)

pub of_decimal : (n : ℕ) → n < 2 ^ 32 → Digits (decimal n)
of_decimal n h = digits_are (decimal n) (decimal_is_IsNumeral n (omega arith)).0.1

pub all_of : (p : ℕ → Bool) → ((b : ℕ) → Digit b → p b ≡ true) → (ds : List ℕ) → Digits ds → list_all p ds ≡ true
all_of p f [] no_digits = refl
all_of p f (d ∷ ds) (more_digits h hs) = let e = f d h in let es = all_of p f ds hs in rw (e, es) refl

-- ---- numbers

leads : (ds : List ℕ) → Digits ds → 48 < get_or ds 0 0 → are_digits ds ≡ true
leads [] no_digits h = absurd (omega arith)
leads (d ∷ ds) (more_digits x xs) h =
    let e : (d == 48) ≡ false = ne_eqb d 48 (λ same. omega arith) in
    let all = all_of is_ascii_digit (λ b y. y.digit) (d ∷ ds) (more_digits x xs) in
    rw (e, all) refl

spells : (n : ℕ) → n < 2 ^ 32 → are_digits (decimal n) ≡ true
spells zero h = let e = decimal_digit 0 (omega arith) in rw e refl
spells (suc n) h = leads (decimal (suc n)) (of_decimal (suc n) h) (first_decimal (suc n) (omega arith) (omega arith))

pub size_is : (n : ℕ) → n < 2 ^ 32 → size_of (decimal n) ≡ Some n
size_is n h =
    let e = spells n h in
    let v = (decimal_is_IsNumeral n (omega arith)).1 in
    let m : min n (10 ^ 12) ≡ n = omega arith in
    rw (e, v, m) refl

number_is : (ds : List ℕ) (n : ℕ) → Digits ds → size_of ds ≡ Some n → token_of ds ≡ Number (pos n)
number_is [] n no_digits e = absurd cc
number_is (d ∷ ds) n (more_digits x xs) e = let a = x.point in let b = x.letter in let c = x.minus in rw (a, b, c, e) refl

pub number_token : (n : ℕ) → n < 2 ^ 32 → token_of (decimal n) ≡ Number (pos n)
number_token n h = number_is (decimal n) n (of_decimal n h) (size_is n h)

pub minus_token : (n : ℕ) → suc n < 2 ^ 32 → token_of (45 ∷ decimal (suc n)) ≡ Number (negsuc n)
minus_token n h = let e = size_is (suc n) h in rw e refl

-- ---- registers

pub register_token : (n : ℕ) → n < 2 ^ 32 → token_of (120 ∷ decimal n) ≡ Word (120 ∷ decimal n)
register_token n h = let e = all_of is_letter_or_digit (λ b y. y.follows) (decimal n) (of_decimal n h) in rw e refl
