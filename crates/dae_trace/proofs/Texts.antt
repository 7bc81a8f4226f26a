-- The digits of words and of numbers, and the one line feed of a line.
use Rattle.std.proofs.Common.{◌≡◌, ◌≢◌, inl, inr, ⊎_elim, ℕ, zero, suc, ◌+◌, ◌*◌, ◌/◌, ◌%◌, ◌<◌, ◌≤◌, ◌^◌, false, List, [], ◌∷◌, ◌++◌, length, take, drop, get_or, refl, ap, sym, ◌∙◌, subst, add-one, append_assoc, length-append, arith}
use Rattle.std.specs.Prelude.{codes, decimal}
use Rattle.std.specs.List.{AllByRecursion}
use Rattle.std.specs.Fmt.{digit_glyph}
use Rattle.std.specs.Char.{digit_value}
use Rattle.std.specs.Str.Parse.{digits_value}
use Rattle.std.proofs.lemmas.Bool.{cases_lt}
use Rattle.std.proofs.lemmas.Bool.Decides.{nat_tests}
use Rattle.std.proofs.lemmas.Fmt.{digits_decimal}
use Rattle.std.proofs.lemmas.Int.Digits.{digits_value_more}
use Rattle.std.proofs.lemmas.List.{drop_all, get_or-take, length-take-le, take-append-drop, take_more, take_all, take_at}
use Rattle.std.proofs.lemmas.Str.Parse.{numerals_by_value, tells_digits, not_in_digits}
use Rattle.dae_base.proofs.Laws.{all_join}
use Rattle.dae_trace.specs.Lines.{hex_digits, word_text}
use Rattle.dae_trace.specs.Parts.{IsHex}
use Rattle.dae_trace.specs.Traces.{IsFirstLine}

-- ---- a word's eight digits

glyph_low : (d : ℕ) → d < 10 → digit_glyph false d ≡ 48 + d
glyph_low d h = grind (arith, nat_tests)

glyph_high : (d : ℕ) → 10 ≤ d → digit_glyph false d ≡ 87 + d
glyph_high d h = grind (arith, nat_tests)

glyph_hex : (d : ℕ) → d < 16 → IsHex (digit_glyph false d)
glyph_hex d h = elim (cases_lt d 10) [
  | inl low ↦ let e = glyph_low d low in inl (omega arith, omega arith)
  | inr high ↦ let e = glyph_high d high in inr (omega arith, omega arith)
]

value_low : (b : ℕ) → 48 ≤ b → b ≤ 57 → digit_value b + 48 ≡ b
value_low b h k = grind (arith, nat_tests)

value_high : (b : ℕ) → 97 ≤ b → b ≤ 102 → digit_value b + 87 ≡ b
value_high b h k = grind (arith, nat_tests)

-- what a digit stands for is below sixteen, and is written by that digit
value_hex : (b : ℕ) → IsHex b → (digit_value b < 16) × (digit_glyph false (digit_value b) ≡ b)
value_hex b (inl h) =
    let e = value_low b h.0 h.1 in
    let g = glyph_low (digit_value b) (omega (arith, h.0, h.1)) in
    (omega (arith, h.0, h.1), omega arith)
value_hex b (inr h) =
    let e = value_high b h.0 h.1 in
    let g = glyph_high (digit_value b) (omega (arith, h.0, h.1)) in
    (omega (arith, h.0, h.1), omega arith)

hex_all : (k w : ℕ) → AllByRecursion IsHex (hex_digits k w)
hex_all zero w = tt
hex_all (suc k) w =
    all_join IsHex (hex_digits k (w / 16)) _ (hex_all k (w / 16)) (glyph_hex (w % 16) (omega arith), tt)

hex_length : (k w : ℕ) → length (hex_digits k w) ≡ k
hex_length zero w = refl
hex_length (suc k) w =
    let d : List ℕ = digit_glyph false (w % 16) ∷ [] in
    length-append (hex_digits k (w / 16)) d ∙ (let e = hex_length k (w / 16) in omega arith)

pub word_all : (w : ℕ) → AllByRecursion IsHex (word_text w)
unfolding word_text
word_all w = hex_all 8 w

pub word_length : (w : ℕ) → length (word_text w) ≡ 8
unfolding word_text
word_length w = hex_length 8 w

pub hex_at : (xs : List ℕ) (k : ℕ) → AllByRecursion IsHex xs → k < length xs → IsHex (get_or xs k 0)
hex_at [] k h lt = absurd (omega arith)
hex_at (x ∷ xs) zero h lt = h.0
hex_at (x ∷ xs) (suc k) h lt = hex_at xs k h.1 (omega arith)

last_digit : (v d : ℕ) → d < 16 → ((v * 16 + d) / 16 ≡ v) × ((v * 16 + d) % 16 ≡ d)
last_digit v d h = (omega arith, omega arith)

-- digits are those of their value
digits_back : (bs : List ℕ) → ((k : ℕ) → k < length bs → IsHex (get_or bs k 0)) → (i : ℕ) → i ≤ length bs
    → hex_digits i (digits_value 16 (take i bs)) ≡ take i bs
digits_back bs hex zero h = refl
digits_back bs hex (suc i) h =
    let b = get_or bs i 0 in
    let lt : i < length bs = omega arith in
    let one = value_hex b (hex i lt) in
    let v = digits_value 16 (take i bs) in
    let more : digits_value 16 (take (suc i) bs) ≡ v * 16 + digit_value b = rw add-one at (digits_value_more 16 bs i lt) in
    let parts = last_digit v (digit_value b) one.0 in
    let whole : take (suc i) bs ≡ take i bs ++ b ∷ [] = rw add-one at (take_more bs i 0 lt) in
    ap (hex_digits (suc i)) more
    ∙ ap (λ (w : ℕ). hex_digits i w ++ digit_glyph false ((v * 16 + digit_value b) % 16) ∷ []) parts.0
    ∙ ap (λ (d : ℕ). hex_digits i v ++ digit_glyph false d ∷ []) parts.1
    ∙ ap (λ (d : ℕ). hex_digits i v ++ d ∷ []) one.1
    ∙ ap (λ (ds : List ℕ). ds ++ b ∷ []) (digits_back bs hex i (omega arith))
    ∙ sym whole

-- eight hexadecimal digits are those of some word
pub word_of : (bs : List ℕ) → length bs ≡ 8 → ((k : ℕ) → k < length bs → IsHex (get_or bs k 0))
    → (w : ℕ) × (bs ≡ word_text w)
unfolding word_text
word_of bs long hex =
    let w = digits_value 16 (take 8 bs) in
    let same : take 8 bs ≡ bs = take_all 8 bs (omega arith) in
    (w, sym (digits_back bs hex 8 (omega arith) ∙ same))

-- ---- the one line feed

abbrev pub NoFeed : List ℕ → Type 0
NoFeed xs = AllByRecursion (λ b. b ≢ 10) xs

-- a text that ends with its only line feed
pub record IsWhole (text : List ℕ) : Type 0 where
  pub front : List ℕ
  pub no_feed : NoFeed front
  pub is : text ≡ front ++ 10 ∷ []

pub feed_alone : IsWhole (codes "\n")
feed_alone = record { front = []; no_feed = tt; is = refl }

pub whole_more : (xs text : List ℕ) → NoFeed xs → IsWhole text → IsWhole (xs ++ text)
whole_more xs text h whole = record {
  front = xs ++ whole.front;
  no_feed = all_join (λ b. b ≢ 10) xs whole.front h whole.no_feed;
  is = ap (λ (ys : List ℕ). xs ++ ys) whole.is ∙ sym (append_assoc xs whole.front (10 ∷ []));
}

all_other : (xs : List ℕ) → AllByRecursion IsHex xs → NoFeed xs
all_other [] h = tt
all_other (x ∷ xs) h = ((λ e. ⊎_elim (λ k. omega (arith, k.0, k.1)) (λ k. omega (arith, k.0, k.1)) h.0), all_other xs h.1)

pub word_no_feed : (w : ℕ) → NoFeed (word_text w)
word_no_feed w = all_other (word_text w) (word_all w)

no_feed_by_place : (xs : List ℕ) → ((i : ℕ) → i < length xs → get_or xs i 0 ≢ 10) → NoFeed xs
no_feed_by_place [] h = tt
no_feed_by_place (x ∷ xs) h = (h 0 (omega arith), no_feed_by_place xs (λ i lt. h (suc i) (omega arith)))

pub decimal_no_feed : (n : ℕ) → n < 2 ^ 64 → NoFeed (decimal n)
decimal_no_feed n small =
    let own = numerals_by_value _ tells_digits in
    no_feed_by_place (decimal n) (not_in_digits own (decimal n) 10 (digits_decimal own n small) (λ h. omega (arith, h.0, h.1)))

-- where texts that end with their only line feed stand at the head of one list, they are one
same_behind : (xs ys us vs : List ℕ) → NoFeed xs → NoFeed us → xs ++ 10 ∷ ys ≡ us ++ 10 ∷ vs → (xs ≡ us) × (ys ≡ vs)
same_behind [] ys [] vs h k e = (refl, cc)
same_behind [] ys (u ∷ us) vs h k e = absurd (k.0 (sym (cc)))
same_behind (x ∷ xs) ys [] vs h k e = absurd (h.0 (cc))
same_behind (x ∷ xs) ys (u ∷ us) vs h k e =
    let head : x ≡ u = cc in
    let tail : xs ++ 10 ∷ ys ≡ us ++ 10 ∷ vs = cc in
    let rest = same_behind xs ys us vs h.1 k.1 tail in
    (cc, rest.1)

pub whole_same : (a b xs ys : List ℕ) → IsWhole a → IsWhole b → a ++ xs ≡ b ++ ys → (a ≡ b) × (xs ≡ ys)
whole_same a b xs ys whole other e =
    let left : a ++ xs ≡ whole.front ++ 10 ∷ xs = ap (λ (t : List ℕ). t ++ xs) whole.is ∙ append_assoc whole.front (10 ∷ []) xs in
    let right : b ++ ys ≡ other.front ++ 10 ∷ ys = ap (λ (t : List ℕ). t ++ ys) other.is ∙ append_assoc other.front (10 ∷ []) ys in
    let both = same_behind whole.front xs other.front ys whole.no_feed other.no_feed (sym left ∙ e ∙ right) in
    (whole.is ∙ ap (λ (t : List ℕ). t ++ 10 ∷ []) both.0 ∙ sym other.is, both.1)

-- a text without a line feed doesn't begin with a text that ends with one
pub no_whole_in : (xs a ys : List ℕ) → NoFeed xs → IsWhole a → xs ≢ a ++ ys
no_whole_in xs a ys h whole e = by xs whole.front h (e ∙ ap (λ (t : List ℕ). t ++ ys) whole.is ∙ append_assoc whole.front (10 ∷ []) ys) where
  by : (xs front : List ℕ) → NoFeed xs → xs ≢ front ++ 10 ∷ ys
  by [] [] h e = cc
  by [] (f ∷ front) h e = cc
  by (x ∷ xs) [] h e = h.0 (cc)
  by (x ∷ xs) (f ∷ front) h e = by xs front h.1 (cc)

-- texts before endings of one length
pub fronts_same : (xs ys us vs : List ℕ) → length ys ≡ length vs → xs ++ ys ≡ us ++ vs → xs ≡ us
fronts_same xs ys us vs long e =
    let left = length-append xs ys in
    let right = length-append us vs in
    let total = ap length e in
    let same : length us ≡ length xs = omega arith in
    sym (take_at xs ys (length xs) refl) ∙ ap (take (length xs)) e ∙ take_at us vs (length xs) same

-- ---- the first line

not_nothing : (xs : List ℕ) → 0 < length xs → xs ≢ []
not_nothing xs long e = let l = ap length e in omega arith

lacks_front : (bytes : List ℕ) (i : ℕ) → i ≤ length bytes → ((k : ℕ) → k < i → get_or bytes k 0 ≢ 10) → NoFeed (take i bytes)
lacks_front bytes i within before =
    let l = length-take-le i bytes within in
    no_feed_by_place (take i bytes) (λ k lt e. before k (omega arith) (sym (get_or-take i bytes k 0 (omega arith)) ∙ e))

pub first_at : (bytes : List ℕ) (i : ℕ) → i < length bytes → ((k : ℕ) → k < i → get_or bytes k 0 ≢ 10) → get_or bytes i 0 ≡ 10
    → IsFirstLine bytes (take (i + 1) bytes) (drop (i + 1) bytes)
first_at bytes i lt before here =
    let l = length-take-le (i + 1) bytes (omega arith) in
    record {
      bytes_are = sym (take-append-drop (i + 1) bytes);
      some = not_nothing (take (i + 1) bytes) (omega arith);
      front = take i bytes;
      no_feed = lacks_front bytes i (omega arith) before;
      ends = inl (take_more bytes i 0 lt ∙ ap (λ (b : ℕ). take i bytes ++ b ∷ []) here);
    }

pub first_whole : (bytes : List ℕ) → 0 < length bytes → ((k : ℕ) → k < length bytes → get_or bytes k 0 ≢ 10)
    → IsFirstLine bytes (take (length bytes) bytes) (drop (length bytes) bytes)
first_whole bytes long none =
    let same = take_all (length bytes) bytes (omega arith) in
    record {
      bytes_are = sym (take-append-drop (length bytes) bytes);
      some = subst (λ (t : List ℕ). t ≢ []) (sym same) (not_nothing bytes long);
      front = take (length bytes) bytes;
      no_feed = lacks_front bytes (length bytes) (omega arith) none;
      ends = inr (refl, drop_all (length bytes) bytes (omega arith));
    }
