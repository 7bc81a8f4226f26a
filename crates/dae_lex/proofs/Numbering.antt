-- The numbers of names and literals lie within their lists, and the spans of the tokens are those that were read.
use Rattle.std.proofs.Common.{◌≡◌, ℕ, suc, ◌+◌, ◌-◌, ◌∙◌, ap, ◌<◌, ◌≤◌, Bool, true, false, if◌then◌else◌, List, [], ◌∷◌, ◌++◌, map, length, refl, arith}
use Rattle.std.specs.List.{list_any, position_or_len, range_with_len, AllByRecursion}
use Rattle.std.specs.Str.{bytes_eq}
use Rattle.std.proofs.lemmas.List.{length-append}
use Rattle.std.specs.List.{IsDistinct}
use Rattle.std.proofs.lemmas.Map.Keys.{IsDistinct-push}
use Rattle.std.proofs.lemmas.Cmp.{nat_list_eq_equiv}
use Rattle.std.proofs.lemmas.List.Elements.{All-from_recursion}
use Rattle.dae_base.specs.declared.Place.{Place}
use Rattle.dae_tree.specs.declared.signs.Sign.{Sign}
use Rattle.dae_tree.specs.declared.signs.Sign.TheVariants as signs
use Rattle.dae_tree.specs.declared.tokens.Token.{Token}
use Rattle.dae_tree.specs.declared.words.Keyword.{Keyword}
use Rattle.dae_tree.specs.declared.words.Keyword.TheVariants as keywords
use Rattle.dae_tree.specs.Marks.{TokenMark, marks, mark_of, word_mark, sign_mark, literal_numbers}
use Rattle.dae_tree.specs.Replacing.{Meaning, keyword, sign, name, constant, literal, TokenRead}
use Rattle.dae_tree.specs.Reading.{IsSpan, IsNumbered, AreInOrder, IsReading}
use Rattle.dae_tree.specs.Tokens.{joined_literals, names_with, names_after, literals_with, literals_after, kind_of, numbered}
use Rattle.dae_lex.specs.Whole.{span, SpansFrom}
use Rattle.dae_lex.proofs.Spans.{joined_steps}
use Rattle.dae_lex.proofs.Positions.{position_most, position_found}

with_one : (ns : List (List ℕ)) (n : List ℕ) (b : Bool) (k : ℕ) → (b ≡ true → k < length ns) → k ≤ length ns → k < length (if b then ns else ns ++ n ∷ [])
with_one ns n true k h l = h refl
with_one ns n false k h l = omega (arith, length-append ns (n ∷ []))

grown : (ns : List (List ℕ)) (n : List ℕ) (b : Bool) → length ns ≤ length (if b then ns else ns ++ n ∷ [])
grown ns n true = omega arith
grown ns n false = omega (arith, length-append ns (n ∷ []))

names_grow : (ns : List (List ℕ)) (m : Meaning) → length ns ≤ length (names_with ns m)
names_grow ns (keyword k) = omega arith
names_grow ns (sign s) = omega arith
names_grow ns (name n) = grown ns n (list_any (bytes_eq n) ns)
names_grow ns (constant c) = omega arith
names_grow ns (literal bs) = omega arith

literals_grow : (ls : List (List ℕ)) (m : Meaning) → length ls ≤ length (literals_with ls m)
literals_grow ls (keyword k) = omega arith
literals_grow ls (sign s) = omega arith
literals_grow ls (name n) = omega arith
literals_grow ls (constant c) = omega arith
literals_grow ls (literal bs) = omega (arith, length-append ls (bs ∷ []))

names_last : (ts : List TokenRead) (ns : List (List ℕ)) → length ns ≤ length (names_after ns ts)
names_last [] ns = omega arith
names_last (t ∷ ts) ns = omega (arith, names_grow ns t.meaning, names_last ts (names_with ns t.meaning))

literals_last : (ts : List TokenRead) (ls : List (List ℕ)) → length ls ≤ length (literals_after ls ts)
literals_last [] ls = omega arith
literals_last (t ∷ ts) ls = omega (arith, literals_grow ls t.meaning, literals_last ts (literals_with ls t.meaning))

kind_within : (m : Meaning) (ns ls : List (List ℕ)) (N L : ℕ) → length (names_with ns m) ≤ N → length (literals_with ls m) ≤ L → IsNumbered N L (kind_of ns ls m)
kind_within (keyword k) ns ls N L h l = tt
kind_within (sign s) ns ls N L h l = tt
kind_within (name n) ns ls N L h l =
    omega (arith, with_one ns n (list_any (bytes_eq n) ns) (position_or_len (bytes_eq n) ns) (position_found (bytes_eq n) ns) (position_most (bytes_eq n) ns))
kind_within (constant c) ns ls N L h l = tt
kind_within (literal bs) ns ls N L h l = omega (arith, length-append ls (bs ∷ []))

numbered_within : (ts : List TokenRead) (ns ls : List (List ℕ)) (N L : ℕ) → length (names_after ns ts) ≤ N → length (literals_after ls ts) ≤ L
    → AllByRecursion (λ (t : Token). IsNumbered N L t.kind) (numbered ns ls ts)
numbered_within [] ns ls N L h l = tt
numbered_within (t ∷ ts) ns ls N L h l =
    let ns1 = names_with ns t.meaning in
    let ls1 = literals_with ls t.meaning in (
      kind_within t.meaning ns ls N L (omega (arith, names_last ts ns1)) (omega (arith, literals_last ts ls1)),
      numbered_within ts ns1 ls1 N L h l,
    )

-- ---- the literals have the numbers from 0 on

word_passed : (k : Keyword) (p : Place) (ts : List TokenMark) → literal_numbers (word_mark k p ∷ ts) ≡ literal_numbers ts
word_passed keywords.Else p ts = refl
word_passed _ p ts = refl

sign_passed : (s : Sign) (p : Place) (ts : List TokenMark) → literal_numbers (sign_mark s p ∷ ts) ≡ literal_numbers ts
sign_passed signs.RightParen p ts = refl
sign_passed signs.RightBracket p ts = refl
sign_passed signs.RightBrace p ts = refl
sign_passed signs.Comma p ts = refl
sign_passed signs.Colon p ts = refl
sign_passed _ p ts = refl

literals_next : (m : Meaning) (p : Place) (ns ls : List (List ℕ)) (ts : List TokenMark) (end : ℕ) → length (literals_with ls m) ≤ end → literal_numbers ts ≡ range_with_len (length (literals_with ls m)) (end - length (literals_with ls m))
    → literal_numbers (mark_of (kind_of ns ls m) p ∷ ts) ≡ range_with_len (length ls) (end - length ls)
literals_next (keyword k) p ns ls ts end le h = word_passed k p ts ∙ h
literals_next (sign s) p ns ls ts end le h = sign_passed s p ts ∙ h
literals_next (name n) p ns ls ts end le h = h
literals_next (constant c) p ns ls ts end le h = h
literals_next (literal bs) p ns ls ts end le h =
    let more = length-append ls (bs ∷ []) in
    let left : suc (end - length (ls ++ bs ∷ [])) ≡ end - length ls = omega arith in
    let next : length (ls ++ bs ∷ []) ≡ length ls + 1 = omega arith in
    ap (λ (ks : List ℕ). length ls ∷ ks) (h ∙ ap (λ (k : ℕ). range_with_len k (end - length (ls ++ bs ∷ []))) next) ∙ ap (range_with_len (length ls)) left

literals_counted : (ts : List TokenRead) (ns ls : List (List ℕ)) → literal_numbers (marks (numbered ns ls ts)) ≡ range_with_len (length ls) (length (literals_after ls ts) - length ls)
literals_counted [] ns ls = let none : 0 ≡ length ls - length ls = omega arith in ap (range_with_len (length ls)) none
literals_counted (t ∷ ts) ns ls =
    let ls1 = literals_with ls t.meaning in
    literals_next t.meaning t.place ns ls (marks (numbered (names_with ns t.meaning) ls1 ts)) (length (literals_after ls1 ts)) (literals_last ts ls1) (literals_counted ts (names_with ns t.meaning) ls1)

nil_distinct : IsDistinct bytes_eq []
unfolding IsDistinct
nil_distinct = tt

distinct_with : (ns : List (List ℕ)) (n : List ℕ) (b : Bool) → list_any (bytes_eq n) ns ≡ b → IsDistinct bytes_eq ns → IsDistinct bytes_eq (if b then ns else ns ++ n ∷ [])
distinct_with ns n true e h = h
distinct_with ns n false e h = IsDistinct-push nat_list_eq_equiv ns n h e

distinct_names : (ns : List (List ℕ)) (m : Meaning) → IsDistinct bytes_eq ns → IsDistinct bytes_eq (names_with ns m)
distinct_names ns (keyword k) h = h
distinct_names ns (sign s) h = h
distinct_names ns (name n) h = distinct_with ns n (list_any (bytes_eq n) ns) refl h
distinct_names ns (constant c) h = h
distinct_names ns (literal bs) h = h

distinct_after : (ts : List TokenRead) (ns : List (List ℕ)) → IsDistinct bytes_eq ns → IsDistinct bytes_eq (names_after ns ts)
distinct_after [] ns h = h
distinct_after (t ∷ ts) ns h = distinct_after ts (names_with ns t.meaning) (distinct_names ns t.meaning h)

numbered_spans : (text : List ℕ) (ts : List TokenRead) (ns ls : List (List ℕ)) (s e : ℕ) → SpansFrom s e (map span ts) (length text)
    → AllByRecursion (IsSpan text) (numbered ns ls ts)
numbered_spans text [] ns ls s e h = tt
numbered_spans text (t ∷ ts) ns ls s e h = ((h.2, h.3), numbered_spans text ts (names_with ns t.meaning) (literals_with ls t.meaning) t.start t.end h.4)

numbered_order : (ts : List TokenRead) (ns ls : List (List ℕ)) (s e b : ℕ) → SpansFrom s e (map span ts) b → AreInOrder s e (numbered ns ls ts)
numbered_order [] ns ls s e b h = tt
numbered_order (t ∷ ts) ns ls s e b h = (h.0, h.1, numbered_order ts (names_with ns t.meaning) (literals_with ls t.meaning) t.start t.end b h.4)

pub is_reading : (text : List ℕ) (reads : List TokenRead) (stdio stdlib : Bool) (end : Place) → SpansFrom 0 0 (map span reads) (length text)
    → IsReading (record {
      text = text;
      tokens = numbered [] [] (joined_literals reads);
      names = names_after [] (joined_literals reads);
      literals = literals_after [] (joined_literals reads);
      stdio = stdio;
      stdlib = stdlib;
      end = end;
    })
is_reading text reads stdio stdlib end h =
    let ts = joined_literals reads in
    let spans = joined_steps reads 0 0 (length text) h in
    record {
      spans = All-from_recursion (IsSpan text) (numbered [] [] ts) (numbered_spans text ts [] [] 0 0 spans);
      order = numbered_order ts [] [] 0 0 (length text) spans;
      distinct = distinct_after ts [] nil_distinct;
      numbers = All-from_recursion (λ (t : Token). IsNumbered (length (names_after [] ts)) (length (literals_after [] ts)) t.kind) (numbered [] [] ts)
          (numbered_within ts [] [] (length (names_after [] ts)) (length (literals_after [] ts)) (omega arith) (omega arith));
      counted = let all : length (literals_after [] ts) - 0 ≡ length (literals_after [] ts) = omega arith in literals_counted ts [] [] ∙ ap (range_with_len 0) all;
    }
