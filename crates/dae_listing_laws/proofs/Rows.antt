-- Rows of a word and numbers, and of a word and operands, read token by token.
use Rattle.std.proofs.Common.{◌≡◌, ℕ, suc, ◌<◌, ◌^◌, ℤ, pos, negsuc, Bool, true, ◌&&◌, List, [], ◌∷◌, ◌++◌, map, refl, ap, ◌∙◌, arith}
use Rattle.std.specs.Prelude.{decimal}
use Rattle.std.specs.Fmt.{signed_decimal}
use Rattle.std.specs.List.{list_all, AllByRecursion}
use Rattle.std.proofs.lemmas.Fmt.{decimal_is_IsNumeral}
use Rattle.std.proofs.lemmas.List.{append-nil}
use Rattle.std.proofs.lemmas.List.Folds.{list_all-append}
use Rattle.dae_asm_lines.specs.declared.Operands.{Operands}
use Rattle.dae_asm_lines.specs.declared.Operands.TheVariants.{Registers, Immediate, Based, Branch, Upper, Jump, Alone}
use Rattle.dae_asm_lines.specs.Targets.{JumpTarget, Given}
use Rattle.dae_asm_lines.specs.Tokens.{LineToken, Word, Number, Sign, is_blank, is_sign, token_of, tokens_of}
use Rattle.dae_asm_lines.specs.Scanning.{is_word_byte}
use Rattle.dae_asm_lines.specs.Items.{comma, IsRegister, SayOperands}
use Rattle.dae_listing.specs.Canon.{row, register_text, spelled_operands}
use Rattle.dae_listing_laws.proofs.Digits.{is_plain, of_decimal, all_of, number_token, minus_token, register_token, size_is}
use Rattle.dae_listing_laws.proofs.Words.{IsWord, word_end, word_blank, word_sign}
use Rattle.dae_listing_laws.proofs.Small.{IsSmallRegister, IsSmallNumber, AreSmall}

abbrev pub AreFew : List ℕ → Type 0
AreFew ns = AllByRecursion (λ n. n < 2 ^ 32) ns

both : (a b : Bool) → a ≡ true → b ≡ true → (a && b) ≡ true
both a b e f = rw (e, f) refl

pub plain_join : (xs ys : List ℕ) → list_all is_plain xs ≡ true → list_all is_plain ys ≡ true → list_all is_plain (xs ++ ys) ≡ true
plain_join xs ys e f = list_all-append is_plain xs ys ∙ both (list_all is_plain xs) (list_all is_plain ys) e f

-- ---- numbers

decimal_word : (n : ℕ) → n < 2 ^ 32 → IsWord (decimal n)
decimal_word n h = record { some = (decimal_is_IsNumeral n (omega arith)).0.0; inner = all_of is_word_byte (λ b y. y.inner) (decimal n) (of_decimal n h) }

decimal_plain : (n : ℕ) → n < 2 ^ 32 → list_all is_plain (decimal n) ≡ true
decimal_plain n h = all_of is_plain (λ b y. y.plain) (decimal n) (of_decimal n h)

-- a word, and numbers behind it
pub row_tokens : (w : List ℕ) (ns : List ℕ) → IsWord w → AreFew ns → tokens_of (row w ns) ≡ token_of w ∷ map Number (map (λ n. pos n) ns)
row_tokens w [] h few = ap tokens_of (append-nil w) ∙ word_end w h
row_tokens w (n ∷ ns) h few =
    word_blank w (row (decimal n) ns) h
    ∙ ap (λ (ts : List LineToken). token_of w ∷ ts) (row_tokens (decimal n) ns (decimal_word n few.0) few.1)
    ∙ ap (λ (t : LineToken). token_of w ∷ t ∷ map Number (map (λ m. pos m) ns)) (number_token n few.0)

pub row_plain : (w : List ℕ) (ns : List ℕ) → list_all is_plain w ≡ true → AreFew ns → list_all is_plain (row w ns) ≡ true
row_plain w [] h few = ap (list_all is_plain) (append-nil w) ∙ h
row_plain w (n ∷ ns) h few =
    plain_join w (32 ∷ row (decimal n) ns) h (row_plain (decimal n) ns (decimal_plain n few.0) few.1)

-- ---- operands

pub record ReadsRegister (z : ℤ) : Type 0 where
  pub word : IsWord (register_text z)
  pub token : token_of (register_text z) ≡ Word (register_text z)
  pub is : IsRegister (Word (register_text z)) z
  pub plain : list_all is_plain (register_text z) ≡ true

of_register : (r : ℕ) → r < 32 → ReadsRegister (pos r)
unfolding is_blank is_sign
of_register r h =
    let small : r < 2 ^ 32 = omega arith in
    let w = decimal_word r small in
    let inner = w.inner in
    let p = decimal_plain r small in
    let size = size_is r small in
    record {
      word = record { some = omega arith; inner = rw inner refl };
      token = register_token r small;
      is = record { digits = decimal r; whole = refl; number = rw size refl };
      plain = rw p refl;
    }

reads_register : (z : ℤ) → IsSmallRegister z → ReadsRegister z
reads_register z h = rw h.1.0 (of_register h.0 h.1.1)

pub record ReadsNumber (z : ℤ) : Type 0 where
  pub word : IsWord (signed_decimal z)
  pub token : token_of (signed_decimal z) ≡ Number z
  pub plain : list_all is_plain (signed_decimal z) ≡ true

reads_number : (z : ℤ) → IsSmallNumber z → ReadsNumber z
unfolding is_blank is_sign
reads_number (pos n) h = let small : n < 2 ^ 32 = omega arith in record { word = decimal_word n small; token = number_token n small; plain = decimal_plain n small }
reads_number (negsuc n) h =
    let small : suc n < 2 ^ 32 = omega arith in
    let w = decimal_word (suc n) small in
    let inner = w.inner in
    let p = decimal_plain (suc n) small in
    record {
      word = record { some = omega arith; inner = rw inner refl };
      token = minus_token n small;
      plain = rw p refl;
    }

register_comma : (z : ℤ) (rest : List ℕ) → ReadsRegister z → tokens_of (register_text z ++ 44 ∷ rest) ≡ Word (register_text z) ∷ comma ∷ tokens_of rest
unfolding is_blank is_sign
register_comma z rest h = word_sign (register_text z) rest 44 refl refl h.word ∙ ap (λ (t : LineToken). t ∷ comma ∷ tokens_of rest) h.token

register_last : (z : ℤ) → ReadsRegister z → tokens_of (register_text z) ≡ Word (register_text z) ∷ []
register_last z h = word_end (register_text z) h.word ∙ ap (λ (t : LineToken). t ∷ []) h.token

number_last : (z : ℤ) → ReadsNumber z → tokens_of (signed_decimal z) ≡ Number z ∷ []
number_last z h = word_end (signed_decimal z) h.word ∙ ap (λ (t : LineToken). t ∷ []) h.token

base_last : (z y : ℤ) → ReadsNumber z → ReadsRegister y → tokens_of (signed_decimal z ++ (40 ∷ (register_text y ++ 41 ∷ []))) ≡ Number z ∷ Sign 40 ∷ Word (register_text y) ∷ Sign 41 ∷ []
unfolding is_blank is_sign tokens_of
base_last z y h k =
    word_sign (signed_decimal z) (register_text y ++ 41 ∷ []) 40 refl refl h.word
    ∙ ap (λ (t : LineToken). t ∷ Sign 40 ∷ tokens_of (register_text y ++ 41 ∷ [])) h.token
    ∙ ap (λ (ts : List LineToken). Number z ∷ Sign 40 ∷ ts) (word_sign (register_text y) [] 41 refl refl k.word ∙ ap (λ (t : LineToken). t ∷ Sign 41 ∷ []) k.token)

two_commas : (a b : ℤ) (rest : List ℕ) → ReadsRegister a → ReadsRegister b → tokens_of (register_text a ++ (44 ∷ (register_text b ++ (44 ∷ rest)))) ≡ Word (register_text a) ∷ comma ∷ Word (register_text b) ∷ comma ∷ tokens_of rest
two_commas a b rest h k =
    register_comma a (register_text b ++ (44 ∷ rest)) h
    ∙ ap (λ (ts : List LineToken). Word (register_text a) ∷ comma ∷ ts) (register_comma b rest k)

-- operands with numbers where there are targets
abbrev pub given : Operands ℤ → Operands JumpTarget
given (Registers a b c) = Registers a b c
given (Immediate a b n) = Immediate a b n
given (Based a n b) = Based a n b
given (Branch a b n) = Branch a b (Given n)
given (Upper a n) = Upper a n
given (Jump a n) = Jump a (Given n)
given Alone = Alone

-- a word and operands
pub record ReadsOperands (w : List ℕ) (o : Operands ℤ) : Type 0 where
  pub rest : List LineToken
  pub tokens : tokens_of (w ++ spelled_operands o) ≡ token_of w ∷ rest
  pub say : SayOperands rest (given o)
  pub plain : list_all is_plain (spelled_operands o) ≡ true

behind : (w text : List ℕ) (ts : List LineToken) → IsWord w → tokens_of text ≡ ts → tokens_of (w ++ 32 ∷ text) ≡ token_of w ∷ ts
behind w text ts h e = word_blank w text h ∙ ap (λ (t : List LineToken). token_of w ∷ t) e

plain_then : (xs ys : List ℕ) (b : ℕ) → is_plain b ≡ true → list_all is_plain xs ≡ true → list_all is_plain ys ≡ true → list_all is_plain (xs ++ b ∷ ys) ≡ true
plain_then xs ys b e f g = plain_join xs (b ∷ ys) f (both (is_plain b) (list_all is_plain ys) e g)

pub reads_operands : (w : List ℕ) (o : Operands ℤ) → IsWord w → AreSmall o → ReadsOperands w o
reads_operands w (Registers a b c) h s =
    let x = reads_register a s.0 in
    let y = reads_register b s.1 in
    let z = reads_register c s.2 in
    record {
      rest = Word (register_text a) ∷ comma ∷ Word (register_text b) ∷ comma ∷ Word (register_text c) ∷ [];
      tokens = behind w _ _ h (two_commas a b (register_text c) x y ∙ ap (λ (ts : List LineToken). Word (register_text a) ∷ comma ∷ Word (register_text b) ∷ comma ∷ ts) (register_last c z));
      say = record { x = _; y = _; z = _; whole = refl; one = x.is; two = y.is; three = z.is };
      plain = plain_then (register_text a) _ 44 refl x.plain (plain_then (register_text b) _ 44 refl y.plain z.plain);
    }
reads_operands w (Immediate a b n) h s =
    let x = reads_register a s.0 in
    let y = reads_register b s.1 in
    let z = reads_number n s.2 in
    record {
      rest = Word (register_text a) ∷ comma ∷ Word (register_text b) ∷ comma ∷ Number n ∷ [];
      tokens = behind w _ _ h (two_commas a b (signed_decimal n) x y ∙ ap (λ (ts : List LineToken). Word (register_text a) ∷ comma ∷ Word (register_text b) ∷ comma ∷ ts) (number_last n z));
      say = record { x = _; y = _; whole = refl; one = x.is; two = y.is };
      plain = plain_then (register_text a) _ 44 refl x.plain (plain_then (register_text b) _ 44 refl y.plain z.plain);
    }
reads_operands w (Based a n b) h s =
    let x = reads_register a s.0 in
    let z = reads_number n s.1 in
    let y = reads_register b s.2 in
    record {
      rest = Word (register_text a) ∷ comma ∷ Number n ∷ Sign 40 ∷ Word (register_text b) ∷ Sign 41 ∷ [];
      tokens = behind w _ _ h (register_comma a _ x ∙ ap (λ (ts : List LineToken). Word (register_text a) ∷ comma ∷ ts) (base_last n b z y));
      say = record { x = _; y = _; whole = refl; one = x.is; two = y.is };
      plain = plain_then (register_text a) _ 44 refl x.plain (plain_then (signed_decimal n) _ 40 refl z.plain (plain_then (register_text b) [] 41 refl y.plain refl));
    }
reads_operands w (Branch a b n) h s =
    let x = reads_register a s.0 in
    let y = reads_register b s.1 in
    let z = reads_number n s.2 in
    record {
      rest = Word (register_text a) ∷ comma ∷ Word (register_text b) ∷ comma ∷ Number n ∷ [];
      tokens = behind w _ _ h (two_commas a b (signed_decimal n) x y ∙ ap (λ (ts : List LineToken). Word (register_text a) ∷ comma ∷ Word (register_text b) ∷ comma ∷ ts) (number_last n z));
      say = record { x = _; y = _; z = _; whole = refl; one = x.is; two = y.is; goes = refl };
      plain = plain_then (register_text a) _ 44 refl x.plain (plain_then (register_text b) _ 44 refl y.plain z.plain);
    }
reads_operands w (Upper a n) h s =
    let x = reads_register a s.0 in
    let z = reads_number n s.1 in
    record {
      rest = Word (register_text a) ∷ comma ∷ Number n ∷ [];
      tokens = behind w _ _ h (register_comma a _ x ∙ ap (λ (ts : List LineToken). Word (register_text a) ∷ comma ∷ ts) (number_last n z));
      say = record { x = _; whole = refl; one = x.is };
      plain = plain_then (register_text a) _ 44 refl x.plain z.plain;
    }
reads_operands w (Jump a n) h s =
    let x = reads_register a s.0 in
    let z = reads_number n s.1 in
    record {
      rest = Word (register_text a) ∷ comma ∷ Number n ∷ [];
      tokens = behind w _ _ h (register_comma a _ x ∙ ap (λ (ts : List LineToken). Word (register_text a) ∷ comma ∷ ts) (number_last n z));
      say = record { x = _; z = _; whole = refl; one = x.is; goes = refl };
      plain = plain_then (register_text a) _ 44 refl x.plain z.plain;
    }
reads_operands w Alone h s = record { rest = []; tokens = ap tokens_of (append-nil w) ∙ word_end w h; say = refl; plain = refl }
