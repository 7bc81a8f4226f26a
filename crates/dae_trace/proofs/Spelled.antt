-- What is read of a line: words, numbers, widths, and the parts that they make up.
use Rattle.std.proofs.Common.{◌≡◌, ◌≢◌, ℕ, ◌+◌, ◌-◌, ◌<◌, ◌^◌, Bool, true, false, List, ◌∷◌, ◌++◌, length, take, drop, get_or, refl, ap, sym, ◌∙◌, subst, append_assoc, length-append, arith, []}
use Rattle.std.specs.Prelude.{nat_eq, codes, decimal, Result, Ok, Err, Option, Some, None, MatchOption, MatchBool}
use Rattle.std.specs.Cmp.Lexicographic.{pointwise}
use Rattle.std.specs.List.{AllByRecursion}
use Rattle.std.specs.Str.{IsUtf8}
use Rattle.std.specs.Str.Parse.{ParsesUnsigned}
use Rattle.std.proofs.lemmas.Bool.Decides.{Decides-eqb}
use Rattle.std.proofs.lemmas.Slice.Eq.{slice_eq-Decides}
use Rattle.std.proofs.lemmas.Fmt.{IsAscii-decimal, decimal_digit, parse-decimal}
use Rattle.std.proofs.lemmas.List.{take-append-drop, take_at, drop_at}
use Rattle.std.proofs.lemmas.Str.{IsUtf8-from_ascii}
use Rattle.dae_base.specs.declared.Side.{Side}
use Rattle.dae_base.specs.declared.Side.TheVariants.{E}
use Rattle.dae_base.specs.declared.Width.{Width}
use Rattle.dae_base.specs.declared.Width.TheVariants.{B1, B2, B4}
use Rattle.dae_base.specs.Words.{size}
use Rattle.dae_machine.specs.declared.Pick.{Pick}
use Rattle.dae_machine.specs.declared.Pick.TheVariants.{Fill}
use Rattle.dae_trace.specs.Lines.{Names, side_text, word_text}
use Rattle.dae_trace.specs.Parts.{IsDrained, IsFilling, IsHex, IsWidth}
use Rattle.dae_trace.proofs.Texts.{hex_at, word_all, word_length}
use Rattle.dae_trace.proofs.Naming.{ending_length, no_fill}

-- ---- numbers

pub not_utf8 : (digits : List ℕ) → ¬ (IsUtf8 digits) → (n : ℕ) → n < 2 ^ 40 → digits ≢ decimal n
not_utf8 digits other n small e =
    other (subst IsUtf8 (sym e) (IsUtf8-from_ascii (decimal n) (IsAscii-decimal n (omega arith))))

pub not_parsed : {E : Type 0} (digits text : List ℕ) (r : Result ℕ E) (error : E) → text ≡ digits → ParsesUnsigned 64 10 text r → r ≡ Err error
    → (n : ℕ) → n < 2 ^ 40 → digits ≢ decimal n
not_parsed digits text r error same parses err n small e =
    let ok = parse-decimal 64 n text r (omega arith) (omega arith) (same ∙ e) parses in
    cc

pub other_number : {E : Type 0} (digits text : List ℕ) (r : Result ℕ E) (number : ℕ) → text ≡ digits → ParsesUnsigned 64 10 text r → r ≡ Ok number
    → (number < 2 ^ 40 → decimal number ≢ text) → (n : ℕ) → n < 2 ^ 40 → digits ≢ decimal n
other_number digits text r number same parses ok other n small e =
    let read = parse-decimal 64 n text r (omega arith) (omega arith) (same ∙ e) parses in
    let is : n ≡ number = cc in
    other (subst (λ (k : ℕ). k < 2 ^ 40) is small) (ap decimal (sym is) ∙ sym (same ∙ e))

-- ---- words

-- at a place stands no digit
pub not_hex : (bytes : List ℕ) (k : ℕ) → k < length bytes → ¬ (IsHex (get_or bytes k 0)) → (w : ℕ) → bytes ≢ word_text w
not_hex bytes k lt other w e = other (hex_at bytes k (subst (λ (t : List ℕ). AllByRecursion IsHex t) (sym e) (word_all w)) lt)

pub other_word : (bytes word : List ℕ) → bytes ≡ word ++ codes "\n" → ((w : ℕ) → word ≢ word_text w) → (w : ℕ) → bytes ≢ word_text w ++ codes "\n"
other_word bytes word is none w e = none w (front_is word (word_text w) (sym is ∙ e)) where
  front_is : (xs ys : List ℕ) → xs ++ codes "\n" ≡ ys ++ codes "\n" → xs ≡ ys
  front_is xs ys e =
      let left = length-append xs (codes "\n") in
      let right = length-append ys (codes "\n") in
      let total = ap length e in
      let same : length ys ≡ length xs = omega arith in
      sym (take_at xs (codes "\n") (length xs) refl) ∙ ap (take (length xs)) e ∙ take_at ys (codes "\n") (length xs) same

pub word_line_read : (bytes word : List ℕ) (b : Bool) → bytes ≡ word ++ codes "\n" → MatchBool b ((w : ℕ) × (word ≡ word_text w)) ((w : ℕ) → word ≢ word_text w)
    → MatchBool b ((w : ℕ) × (bytes ≡ word_text w ++ codes "\n")) ((w : ℕ) → bytes ≢ word_text w ++ codes "\n")
word_line_read bytes word true is h = (h.0, is ∙ ap (λ (t : List ℕ). t ++ codes "\n") h.1)
word_line_read bytes word false is h = other_word bytes word is h

pub not_eight : (bytes : List ℕ) → length bytes ≢ 8 → (w : ℕ) → bytes ≢ word_text w
not_eight bytes other w e = other (ap length e ∙ word_length w)

-- ---- fills

pub short_filling : (rest : List ℕ) → length rest < 10 → (n : ℕ) → ¬ (IsFilling rest n)
short_filling rest short n h =
    let l = length-append (decimal n) (codes " " ++ (word_text h.0 ++ codes "\n")) in
    let k = ending_length h.0 in
    let e = ap length h.2 in
    omega arith

-- what stands before and in the last ten bytes
parts_of : (rest : List ℕ) (n : ℕ) (h : IsFilling rest n)
    → (take (length rest - 10) rest ≡ decimal n) × (drop (length rest - 10) rest ≡ codes " " ++ (word_text h.0 ++ codes "\n"))
parts_of rest n h =
    let tail = codes " " ++ (word_text h.0 ++ codes "\n") in
    let l = length-append (decimal n) tail in
    let k = ending_length h.0 in
    let e = ap length h.2 in
    let at : length (decimal n) ≡ length rest - 10 = omega arith in (
      ap (take (length rest - 10)) h.2 ∙ take_at (decimal n) tail (length rest - 10) at,
      ap (drop (length rest - 10)) h.2 ∙ drop_at (decimal n) tail (length rest - 10) at,
    )

pub no_word_behind : (rest behind : List ℕ) → behind ≡ drop (length rest - 10) rest
    → ((w : ℕ) → behind ≢ codes " " ++ (word_text w ++ codes "\n")) → (n : ℕ) → ¬ (IsFilling rest n)
no_word_behind rest behind is none n h = none h.0 (is ∙ (parts_of rest n h).1)

pub no_number_before : (rest digits : List ℕ) → digits ≡ take (length rest - 10) rest
    → ((n : ℕ) → n < 2 ^ 40 → digits ≢ decimal n) → (n : ℕ) → ¬ (IsFilling rest n)
no_number_before rest digits is none n h = none n h.1 (is ∙ (parts_of rest n h).0)

-- ---- drains

width_text : (width : Width) → codes " " ++ (decimal (size width) ++ codes " ") ≡ 32 ∷ (48 + size width) ∷ 32 ∷ []
width_text B1 = ap (λ (t : List ℕ). 32 ∷ (t ++ 32 ∷ [])) (decimal_digit 1 (omega arith))
width_text B2 = ap (λ (t : List ℕ). 32 ∷ (t ++ 32 ∷ [])) (decimal_digit 2 (omega arith))
width_text B4 = ap (λ (t : List ℕ). 32 ∷ (t ++ 32 ∷ [])) (decimal_digit 4 (omega arith))

pub width_one : (bytes : List ℕ) → bytes ≡ codes " 1 " → IsWidth bytes
width_one bytes e = (B1, e ∙ sym (width_text B1))

pub width_two : (bytes : List ℕ) → bytes ≡ codes " 2 " → IsWidth bytes
width_two bytes e = (B2, e ∙ sym (width_text B2))

pub width_four : (bytes : List ℕ) → bytes ≡ codes " 4 " → IsWidth bytes
width_four bytes e = (B4, e ∙ sym (width_text B4))

pub no_width : (bytes : List ℕ) → bytes ≢ codes " 1 " → bytes ≢ codes " 2 " → bytes ≢ codes " 4 " → ¬ (IsWidth bytes)
no_width bytes one two four h = by h.0 h.1 where
  by : (width : Width) → bytes ≢ codes " " ++ (decimal (size width) ++ codes " ")
  by B1 e = one (e ∙ width_text B1)
  by B2 e = two (e ∙ width_text B2)
  by B4 e = four (e ∙ width_text B4)

-- the three parts of what stands behind the letter of a drain
drain_parts : (addr : ℕ) (width : Width) (datum : ℕ)
    → word_text addr ++ (codes " " ++ (decimal (size width) ++ (codes " " ++ (word_text datum ++ codes "\n"))))
    ≡ word_text addr ++ ((codes " " ++ (decimal (size width) ++ codes " ")) ++ (word_text datum ++ codes "\n"))
drain_parts addr width datum =
    ap (λ (t : List ℕ). word_text addr ++ (32 ∷ t)) (sym (append_assoc (decimal (size width)) (codes " ") (word_text datum ++ codes "\n")))

width_length : (width : Width) → length (codes " " ++ (decimal (size width) ++ codes " ")) ≡ 3
width_length width = ap length (width_text width)

module _ (bytes : List ℕ) (h : IsDrained bytes) where
  middle : List ℕ
  middle = codes " " ++ (decimal (size h.1) ++ codes " ")

  ending : List ℕ
  ending = word_text h.2 ++ codes "\n"

  whole : bytes ≡ word_text h.0 ++ (middle ++ ending)
  unfolding middle ending
  whole = h.3 ∙ drain_parts h.0 h.1 h.2

  middle_length : length middle ≡ 3
  unfolding middle
  middle_length = width_length h.1

  ending_is : length ending ≡ 9
  unfolding ending
  ending_is = length-append (word_text h.2) (codes "\n") ∙ (let w = word_length h.2 in omega arith)

  pub drained_length : length bytes ≡ 20
  drained_length =
      let e = ap length whole in
      let l = length-append (word_text h.0) (middle ++ ending) in
      let k = length-append middle ending in
      let w = word_length h.0 in
      let m = middle_length in
      let n = ending_is in
      omega arith

  pub address_is : take 8 bytes ≡ word_text h.0
  address_is = ap (take 8) whole ∙ take_at (word_text h.0) (middle ++ ending) 8 (word_length h.0)

  behind_is : drop 8 bytes ≡ middle ++ ending
  behind_is = ap (drop 8) whole ∙ drop_at (word_text h.0) (middle ++ ending) 8 (word_length h.0)

  pub width_is : take 3 (drop 8 bytes) ≡ codes " " ++ (decimal (size h.1) ++ codes " ")
  unfolding middle
  width_is = ap (take 3) behind_is ∙ take_at middle ending 3 middle_length

  pub datum_is : drop 3 (drop 8 bytes) ≡ word_text h.2 ++ codes "\n"
  unfolding ending
  datum_is = ap (drop 3) behind_is ∙ drop_at middle ending 3 middle_length

pub not_twenty : (bytes : List ℕ) → length bytes ≢ 20 → ¬ (IsDrained bytes)
not_twenty bytes other h = other (drained_length bytes h)

pub no_address : (bytes address : List ℕ) → address ≡ take 8 bytes → ((w : ℕ) → address ≢ word_text w) → ¬ (IsDrained bytes)
no_address bytes address is none h = none h.0 (is ∙ address_is bytes h)

pub no_width_in : (bytes behind width : List ℕ) → behind ≡ drop 8 bytes → width ≡ take 3 behind → ¬ (IsWidth width) → ¬ (IsDrained bytes)
no_width_in bytes behind width is at none h = none (h.1, at ∙ ap (take 3) is ∙ width_is bytes h)

pub no_datum : (bytes behind datum : List ℕ) → behind ≡ drop 8 bytes → datum ≡ drop 3 behind → ((w : ℕ) → datum ≢ word_text w ++ codes "\n") → ¬ (IsDrained bytes)
no_datum bytes behind datum is at none h = none h.2 (at ∙ ap (drop 3) is ∙ datum_is bytes h)

pub drained_is : (bytes address behind width datum : List ℕ) → address ≡ take 8 bytes → behind ≡ drop 8 bytes → width ≡ take 3 behind → datum ≡ drop 3 behind
    → (w : ℕ) × (address ≡ word_text w) → IsWidth width → (w : ℕ) × (datum ≡ word_text w ++ codes "\n") → IsDrained bytes
drained_is bytes address behind width datum at at_behind at_width at_datum a w d = (
  a.0,
  w.0,
  d.0,
  sym (take-append-drop 8 bytes)
      ∙ ap (λ (t : List ℕ). t ++ drop 8 bytes) (sym at ∙ a.1)
      ∙ ap (λ (t : List ℕ). word_text a.0 ++ t)
      (sym at_behind ∙ sym (take-append-drop 3 behind)
      ∙ ap (λ (t : List ℕ). t ++ drop 3 behind) (sym at_width ∙ w.1)
      ∙ ap (λ (t : List ℕ). (codes " " ++ (decimal (size w.0) ++ codes " ")) ++ t) (sym at_datum ∙ d.1))
      ∙ sym (drain_parts a.0 w.0 d.0),
)

pub drained_read : (bytes address behind width datum : List ℕ) (b : Bool) → address ≡ take 8 bytes → behind ≡ drop 8 bytes → width ≡ take 3 behind → datum ≡ drop 3 behind
    → (w : ℕ) × (address ≡ word_text w) → IsWidth width → MatchBool b ((w : ℕ) × (datum ≡ word_text w ++ codes "\n")) ((w : ℕ) → datum ≢ word_text w ++ codes "\n")
    → MatchBool b (IsDrained bytes) (¬ (IsDrained bytes))
drained_read bytes address behind width datum true at at_behind at_width at_datum a w d = drained_is bytes address behind width datum at at_behind at_width at_datum a w d
drained_read bytes address behind width datum false at at_behind at_width at_datum a w d = no_datum bytes behind datum at_behind at_datum d

-- the last of three tests of a width
pub width_read : (bytes : List ℕ) (b : Bool) → (b ≡ true → bytes ≡ codes " 4 ") → (b ≡ false → bytes ≢ codes " 4 ") → bytes ≢ codes " 1 " → bytes ≢ codes " 2 "
    → MatchBool b (IsWidth bytes) (¬ (IsWidth bytes))
width_read bytes true same other one two = width_four bytes (same refl)
width_read bytes false same other one two = no_width bytes one two (other refl)

-- what a comparison tells
pub same_bytes : (bytes given text : List ℕ) (b : Bool) → b ≡ pointwise nat_eq bytes given → given ≡ text → b ≡ true → bytes ≡ text
same_bytes bytes given text b is e t = (slice_eq-Decides Decides-eqb bytes given b is).0 t ∙ e

pub other_bytes : (bytes given text : List ℕ) (b : Bool) → b ≡ pointwise nat_eq bytes given → given ≡ text → b ≡ false → bytes ≢ text
other_bytes bytes given text b is e f same =
    let t = (slice_eq-Decides Decides-eqb bytes given b is).1 (same ∙ sym e) in
    cc

-- ---- whole lines

pub fill_read : (bytes rest : List ℕ) (side : Side) (r : Option Pick) → bytes ≡ codes "F " ++ (side_text side ++ (codes " " ++ rest))
    → MatchOption r ((n : ℕ) → ¬ (IsFilling rest n)) (λ pick. (n : ℕ) × (pick ≡ Fill side n) × IsFilling rest n)
    → MatchOption r ((p : Pick) → ¬ (Names bytes p)) (Names bytes)
fill_read bytes rest side None is h = no_fill bytes rest side is h
fill_read bytes rest side (Some p) is h =
    let filling = h.2 in
    subst (Names bytes) (sym h.1)
    (filling.0, filling.1, is ∙ ap (λ (t : List ℕ). codes "F " ++ (side_text side ++ (codes " " ++ t))) filling.2)
