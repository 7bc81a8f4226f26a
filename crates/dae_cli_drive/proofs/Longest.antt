-- No image has as many bytes as are read of its file, so that what is read decides for the whole file.
use Rattle.std.proofs.Common.{◌≡◌, ◌⊎◌, inl, inr, ℕ, zero, suc, ◌+◌, ◌*◌, ◌<◌, ◌≤◌, true, List, [], ◌∷◌, ◌++◌, length, take, refl, ap, sym, ◌∙◌, subst, length-append, length-take-le, take_all, arith}
use Rattle.std.specs.Prelude.{Option, Some, None, IfSome}
use Rattle.std.specs.List.{flat_map, list_all}
use Rattle.std.specs.Str.{is_utf8}
use Rattle.std.proofs.lemmas.Bool.{and_parts}
use Rattle.std.proofs.lemmas.Bool.Decides.{leb_tells}
use Rattle.dae_base.proofs.Laws.{is_true}
use Rattle.dae_image.specs.declared.Image.{Image}
use Rattle.dae_image.specs.declared.LineMark.{LineMark}
use Rattle.dae_image.specs.declared.fault.ImageError.{ImageError}
use Rattle.dae_image.specs.Contents.{ImageContents, Fits, header, is_name}
use Rattle.dae_image.specs.Images.{contents}
use Rattle.dae_image.specs.Ranges.{is_in, name_range}
use Rattle.dae_image.specs.Spelling.{Spells, body, head_1, head_2, line, name, number, numbers}
use Rattle.dae_image.proofs.Laws.{IsIn-from_test, length-numbers}
use Rattle.dae_cli_drive.specs.Puts.{Answer}
use Rattle.dae_cli_drive.specs.ImageFiles.{DueOfBytes, due_image, due_no_image, due_memory_to_decode, IsImageIn, IsNoImage}

lines_size : (ms : List LineMark) → length (flat_map line ms) ≡ 16 * length ms
lines_size [] = refl
lines_size (m ∷ ms) = omega (arith, length-append (line m) (flat_map line ms), lines_size ms)

names_size : (ns : List (List ℕ)) → list_all is_name ns ≡ true → length (flat_map name ns) ≤ 4100 * length ns
names_size [] good = omega arith
names_size (n ∷ ns) good =
    let parts = and_parts (is_name n) (list_all is_name ns) good in
    let short = IsIn-from_test name_range (length n) (and_parts (is_in name_range (length n)) (is_utf8 n) parts.0).0 in
    omega (arith, short.1, length-append (number (length n)) n, length-append (name n) (flat_map name ns), names_size ns parts.1)

body_size : (c : ImageContents) → Fits c → length (body c) ≤ 400000000
body_size c fits =
    let a = length-numbers c.code_a in
    let e = length-numbers c.code_e in
    let l = lines_size c.lines in
    let n = names_size c.names (is_true (list_all is_name c.names) fits.names) in
    omega (
      arith,
      a,
      e,
      l,
      n,
      fits.head.words_a.1,
      fits.head.words_e.1,
      fits.head.memory.1,
      fits.head.content.1,
      fits.head.lines.1,
      fits.head.names.1,
      length-append (numbers c.code_a) (numbers c.code_e ++ (c.content ++ (flat_map line c.lines ++ flat_map name c.names))),
      length-append (numbers c.code_e) (c.content ++ (flat_map line c.lines ++ flat_map name c.names)),
      length-append c.content (flat_map line c.lines ++ flat_map name c.names),
      length-append (flat_map line c.lines) (flat_map name c.names),
    )

head_size : (c : ImageContents) (bytes : List ℕ) → Spells bytes c → length bytes ≤ 80 + length (body c)
head_size c bytes (inl e) = omega (arith, ap length e, length-append (numbers (head_2 (header c))) (body c), length-numbers (head_2 (header c)))
head_size c bytes (inr e) = omega (arith, ap length e.1, length-append (numbers (head_1 (header c))) (body c), length-numbers (head_1 (header c)))

longest : (bytes : List ℕ) (i : Image) → Spells bytes (contents i) → length bytes < 536870912
longest bytes i spells = omega (arith, head_size (contents i) bytes spells, body_size (contents i) i.fits)

short_or_long : (n : ℕ) → (n < 536870912) ⊎ (536870912 ≤ n)
short_or_long n = elim (leb_tells 536870912 n) [ inl h ↦ inr h.1 | inr h ↦ inl h.1 ]

-- what is read of a text is the text, where an image spells either of them
same_text : (held text : List ℕ) (i : Image) → text ≡ take 536870912 held → (Spells text (contents i) ⊎ Spells held (contents i)) → text ≡ held
same_text held text i e spells = by_length (short_or_long (length held)) spells where
  by_length : (length held < 536870912) ⊎ (536870912 ≤ length held) → (Spells text (contents i) ⊎ Spells held (contents i)) → text ≡ held
  by_length (inl short) spells = e ∙ take_all 536870912 held (omega arith)
  by_length (inr long) (inl spells) = let size : length text ≡ 536870912 = ap length e ∙ length-take-le 536870912 held long in let h = longest text i spells in absurd (omega arith)
  by_length (inr long) (inr spells) = let h = longest held i spells in absurd (omega arith)

take_short : (n : ℕ) (xs : List ℕ) → length (take n xs) ≤ n
take_short zero xs = omega arith
take_short (suc n) [] = omega arith
take_short (suc n) (x ∷ xs) = omega (arith, take_short n xs)

-- what is read of a text decides for the text

pub is_image_whole : (held text : List ℕ) (i : Image) → text ≡ take 536870912 held → IsImageIn text i → IsImageIn held i
is_image_whole held text i e h = subst (λ (bytes : List ℕ). IsImageIn bytes i) (same_text held text i e (inl h.spells)) h

is_no_image_whole : (held text : List ℕ) (error : ImageError) → text ≡ take 536870912 held → IsNoImage text error → IsNoImage held error
is_no_image_whole held text error e h =
    let short : take 536870912 text ≡ text = take_all 536870912 text (omega (arith, ap length e, take_short 536870912 held)) in
    record {
      other = h.other;
      read = rw (← e, ← short) h.read;
      none = λ i spells. h.none i (subst (λ (bytes : List ℕ). Spells bytes (contents i)) (sym (same_text held text i e (inr spells))) spells);
    }

pub due_whole : {a : Answer} {DueOf : Image → Answer → Type 0} (held text : List ℕ) → text ≡ take 536870912 held → DueOfBytes text DueOf a → DueOfBytes held DueOf a
due_whole held text e (due_image i is d) = due_image i (is_image_whole held text i e is) d
due_whole held text e (due_no_image error is) = due_no_image error (is_no_image_whole held text error e is)
due_whole held text e due_memory_to_decode = due_memory_to_decode

-- what was fetched is the front of what the file holds
pub record IsFrontOf (told : Option (List ℕ)) (text : List ℕ) : Type 0 where
  pub bytes : List ℕ
  pub held : IfSome told (λ t. t ≡ bytes)
  pub front : text ≡ take 536870912 bytes

pub front_of : (told : Option (List ℕ)) (text : List ℕ) → IfSome told (λ t. text ≡ take 536870912 t) → length text ≤ 536870912 → IsFrontOf told text
front_of None text h short = record { bytes = text; held = tt; front = sym (take_all 536870912 text short) }
front_of (Some t) text h short = record { bytes = t; held = refl; front = h }
