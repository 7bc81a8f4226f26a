-- What a word of a setting, and one that names a file, looks like to clap.
use Rattle.std.proofs.Common.{◌≡◌, ℕ, suc, ◌+◌, Bool, true, false, not, ◌&&◌, ◌||◌, cond, List, [], ◌∷◌, ◌++◌, length, take, drop, refl, ap, ap₂, ◌∙◌, arith}
use Rattle.std.specs.Prelude.{Some, None, is_some, ◌==◌}
use Rattle.std.specs.List.{position_or_len, before_first, after_first}
use Rattle.std.specs.Str.{bytes_eq}
use Rattle.std.proofs.Math.Seq.{take-append_seam}
use Rattle.std.proofs.lemmas.Bool.{and_parts, not-true}
use Rattle.clap.specs.Lexer.{has_byte, long_of, name_and_value, short_of}
use Rattle.dae_cli_settings.specs.Settings.{OptionSetting, files_id, is_name, is_plain, text_of}

at_equals : (xs ys : List ℕ) → has_byte 61 xs ≡ false → position_or_len (λ x. x == 61) (xs ++ 61 ∷ ys) ≡ length xs
at_equals [] ys h = refl
at_equals (x ∷ xs) ys h = by_first (x == 61) refl h (at_equals xs ys) where
  by_first : (b : Bool) → (x == 61) ≡ b → (b || has_byte 61 xs) ≡ false → (has_byte 61 xs ≡ false → position_or_len (λ y. y == 61) (xs ++ 61 ∷ ys) ≡ length xs)
      → position_or_len (λ y. y == 61) (x ∷ (xs ++ 61 ∷ ys)) ≡ suc (length xs)
  by_first true e k more = absurd (cc)
  by_first false e k more = rw e (let rest = more k in omega (arith, rest))

has_equals : (xs ys : List ℕ) → has_byte 61 (xs ++ 61 ∷ ys) ≡ true
has_equals [] ys = refl
has_equals (x ∷ xs) ys = by_first (x == 61) (has_equals xs ys) where
  by_first : (b : Bool) → has_byte 61 (xs ++ 61 ∷ ys) ≡ true → (b || has_byte 61 (xs ++ 61 ∷ ys)) ≡ true
  by_first true e = refl
  by_first false e = e

behind : (c : ℕ) (xs ys : List ℕ) → drop (suc (length xs)) (xs ++ c ∷ ys) ≡ ys
behind c [] ys = refl
behind c (x ∷ xs) ys = behind c xs ys

pub parts_of : (name value : List ℕ) → has_byte 61 name ≡ false → name_and_value (name ++ 61 ∷ value) ≡ (name, Some value)
parts_of name value lacks =
    let at = at_equals name value lacks in
    let before : before_first (λ x. x == 61) (name ++ 61 ∷ value) ≡ name = ap (λ (n : ℕ). take n (name ++ 61 ∷ value)) at ∙ take-append_seam name (61 ∷ value) in
    let more : length name + 1 ≡ suc (length name) = omega arith in
    let after : after_first (λ x. x == 61) (name ++ 61 ∷ value) ≡ value = ap (λ (n : ℕ). drop (n + 1) (name ++ 61 ∷ value)) at ∙ (ap (λ (n : ℕ). drop n (name ++ 61 ∷ value)) more ∙ behind 61 name value) in
    rw (has_equals name value) (ap₂ (λ (a b : List ℕ). (a, Some b)) before after)

pub long_is : (s : OptionSetting) → is_name s.name ≡ true → long_of (text_of s) ≡ Some (s.name, Some s.value)
long_is s h = by_name s.name h where
  by_name : (name : List ℕ) → is_name name ≡ true → long_of (45 ∷ 45 ∷ (name ++ 61 ∷ s.value)) ≡ Some (name, Some s.value)
  by_name [] k = absurd (cc)
  by_name (x ∷ xs) k =
      let lacks = and_parts (not (bytes_eq (x ∷ xs) [])) (not (has_byte 61 (x ∷ xs)) && not (bytes_eq (x ∷ xs) files_id)) k in
      let first = and_parts (not (has_byte 61 (x ∷ xs))) (not (bytes_eq (x ∷ xs) files_id)) lacks.1 in
      ap Some (parts_of (x ∷ xs) s.value (not-true (has_byte 61 (x ∷ xs)) first.0))

pub no_end : (s : OptionSetting) → is_name s.name ≡ true → bytes_eq (text_of s) (45 ∷ 45 ∷ []) ≡ false
no_end s h = by_name s.name h where
  by_name : (name : List ℕ) → is_name name ≡ true → bytes_eq (45 ∷ 45 ∷ (name ++ 61 ∷ s.value)) (45 ∷ 45 ∷ []) ≡ false
  by_name [] k = absurd (cc)
  by_name (x ∷ xs) k = refl

-- a word with no dash in front is no option
pub record IsOther (word : List ℕ) : Type 0 where
  pub no_end : bytes_eq word (45 ∷ 45 ∷ []) ≡ false
  pub no_long : long_of word ≡ None
  pub no_short : short_of word ≡ None

pub is_other : (word : List ℕ) → is_plain word ≡ true → IsOther word
is_other [] h = record { no_end = refl; no_long = refl; no_short = refl }
is_other (x ∷ xs) h = by_first (x == 45) refl h where
  by_first : (b : Bool) → (x == 45) ≡ b → not (is_some (cond b (Some xs) None)) ≡ true → IsOther (x ∷ xs)
  by_first true e k = absurd (cc)
  by_first false e k = record { no_end = rw e refl; no_long = rw e refl; no_short = rw e refl }
