-- The hexadecimal digits of a word, written from the last one on.
use Rattle.std.proofs.Common.{◌≡◌, ℕ, zero, suc, ◌+◌, ◌-◌, ◌*◌, ◌/◌, ◌%◌, ◌^◌, ◌<◌, ◌≤◌, true, false, List, [], ◌∷◌, refl, arith, ◌∙◌, eqb, take, drop, length, add-one, take_all, length-drop}
use Rattle.std.proofs.Math.ListN.{set, length-set}
use Rattle.std.proofs.lemmas.List.{drop_all, drop-set}
use Rattle.std.specs.Fmt.{digits_onto, digit_glyph, digits}
use Rattle.std.proofs.Math.Nat.{pow-succ'}
use Rattle.dae_base.specs.Texts.{hex_text}

-- the digits of a number before those that stand already, which begin at this place of eight
unfoldable pub hex_onto : ℕ → ℕ → List ℕ → List ℕ
hex_onto start n later = digits_onto (57 + start) 16 false n later

pub hex_onto-first : (w : ℕ) → hex_onto 7 w [] ≡ hex_text w
unfolding hex_onto digits
hex_onto-first w = refl

pub hex_onto-step : (start n : ℕ) (later : List ℕ) → 16 ≤ n → hex_onto (suc start) n later ≡ hex_onto start (n / 16) (digit_glyph false (n % 16) ∷ later)
unfolding hex_onto
hex_onto-step start n later h =
    let e : 57 + suc start ≡ suc (57 + start) = omega arith in
    let more : eqb (n / 16) 0 ≡ false = grind arith in
    rw (e, more)

pub hex_onto-last : (start n : ℕ) (later : List ℕ) → n < 16 → hex_onto start n later ≡ digit_glyph false n ∷ later
unfolding hex_onto
hex_onto-last start n later h =
    let e : 57 + start ≡ suc (56 + start) = omega arith in
    let none : eqb (n / 16) 0 ≡ true = grind arith in
    let same : n % 16 ≡ n = omega arith in
    rw (e, none, same)

pub below_place : (start n : ℕ) → n < 16 ^ (suc start) → n / 16 < 16 ^ start
below_place start n h = let e : n < 16 * 16 ^ start = rw pow-succ' at h in omega arith

-- what the loop keeps, as it writes the digits from the last place on
pub record HasWritten (text : List ℕ) (start n : ℕ) (digits : List ℕ) : Type 0 where
  pub place : start ≤ 7
  pub room : length digits ≡ 8
  pub left : n < 16 ^ (start + 1)
  pub written : hex_onto start n (drop (start + 1) digits) ≡ text

pub HasWritten-first : (w : ℕ) (digits : List ℕ) → length digits ≡ 8 → w < 2 ^ 32 → HasWritten (hex_text w) 7 w digits
HasWritten-first w digits room small = record {
  place = omega arith;
  room = room;
  left = omega arith;
  written = rw (drop_all 8 digits (omega arith)) (hex_onto-first w);
}

pub HasWritten-next : (text : List ℕ) (start n glyph : ℕ) (digits : List ℕ) → HasWritten text start n digits → 16 ≤ n → glyph ≡ digit_glyph false (n % 16) → HasWritten text (start - 1) (n / 16) (set digits start glyph)
HasWritten-next text zero n glyph digits h more e = let left = h.left in absurd (omega arith)
HasWritten-next text (suc s) n glyph digits h more e =
    let back : suc s - 1 ≡ s = omega arith in
    let add : s + 1 ≡ suc s = omega arith in
    let small : n < 16 ^ (suc (suc s)) = rw add-one at h.left in
    let here : drop (suc s) (set digits (suc s) glyph) ≡ glyph ∷ drop (suc s + 1) digits = drop-set digits (suc s) glyph (let room = h.room in let place = h.place in omega arith) in
    rw back (record {
      place = let place = h.place in omega arith;
      room = length-set digits (suc s) glyph ∙ h.room;
      left = rw add (below_place (suc s) n small);
      written = rw (add, here, e, ← hex_onto-step s n (drop (suc s + 1) digits) more) h.written;
    })

pub HasWritten-last : (text : List ℕ) (start n glyph : ℕ) (digits : List ℕ) → HasWritten text start n digits → n < 16 → glyph ≡ digit_glyph false n → take (8 - start) (drop start (set digits start glyph)) ≡ text
HasWritten-last text start n glyph digits h few e =
    let inside : start < length digits = let room = h.room in let place = h.place in omega arith in
    let whole : length (drop start (set digits start glyph)) ≤ 8 - start = let room = h.room in omega (arith, length-drop start (set digits start glyph), length-set digits start glyph) in
    rw (take_all (8 - start) (drop start (set digits start glyph)) whole, drop-set digits start glyph inside, e, ← hex_onto-last start n (drop (start + 1) digits) few) h.written
