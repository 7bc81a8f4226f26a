-- Flags of words, and the marks that set them.
use Rattle.std.proofs.Common.{◌≡◌, ◌≢◌, ℕ, zero, suc, ◌+◌, ◌<◌, Bool, true, false, ◌&&◌, ◌||◌, nat_eq, nat_lt, List, ◌∷◌, length, get_or, set, refl, sym, ◌∙◌, subst, arith, []}
use Rattle.std.specs.Prelude.{Option, Some, None, replicate}
use Rattle.std.specs.List.{All, list_any}
use Rattle.std.proofs.lemmas.Bool.{and_parts}
use Rattle.std.proofs.lemmas.Bool.Decides.{nat_tests}
use Rattle.std.proofs.lemmas.List.{length-replicate}
use Rattle.dae_base.specs.declared.Side.{Side}
use Rattle.dae_base.specs.declared.Side.TheVariants.{A, E}
use Rattle.dae_image.specs.declared.Image.{Image}
use Rattle.dae_image.specs.declared.LineMark.{LineMark}
use Rattle.dae_image.specs.declared.header.ImageHeader.{ImageHeader}
use Rattle.dae_image.specs.Contents.{are_lines, code_length, follows, header, is_line}
use Rattle.dae_image.specs.Images.{contents}
use Rattle.dae_debug_commands.specs.declared.Breakpoint.{Breakpoint}
use Rattle.dae_debug.specs.Breaks.{AddsBreak, AreInside, HeldBreaks, has_break, is_mark_at, is_mark_of, is_side, no_breaks, other, seen, words_of}

-- ---- marks are inside the code of their side

side_is : (s t : Side) → is_side s t ≡ true → t ≡ s
side_is A A e = refl
side_is A E e = absurd (cc)
side_is E A e = absurd (cc)
side_is E E e = refl

pub inside_of : (place : Breakpoint) (marks : List LineMark) (a e : List Bool) → AreInside (seen marks a e)
    → All (λ mark. is_mark_of place mark ≡ true → mark.word < length (words_of place.side (seen marks a e))) marks
inside_of place marks a e inside k d lt one =
    let m = get_or marks k d in
    let side : m.side ≡ place.side = side_is place.side m.side (and_parts (is_side place.side m.side) (nat_eq place.file m.file && nat_eq place.line m.line) one).0 in
    subst (λ (s : Side). m.word < length (words_of s (seen marks a e))) side (inside k d lt)

-- a breakpoint is added on its own side
adds_by : (place : Breakpoint) (side : Side) (before after : HeldBreaks) → place.side ≡ side → after.marks ≡ before.marks → length (words_of side after) ≡ length (words_of side before)
    → ((word : ℕ) → has_break after side word ≡ (has_break before side word || list_any (is_mark_at place word) before.marks))
    → words_of (other side) after ≡ words_of (other side) before → AddsBreak place before after
adds_by place side before after is marks long words others = record {
  marks = marks;
  long = subst (λ (s : Side). length (words_of s after) ≡ length (words_of s before)) (sym is) long;
  words = λ word. subst (λ (s : Side). has_break after s word ≡ (has_break before s word || list_any (is_mark_at place word) before.marks)) (sym is) (words word);
  others = subst (λ (s : Side). words_of (other s) after ≡ words_of (other s) before) (sym is) others;
}

pub adds_on_a : (place : Breakpoint) (marks : List LineMark) (a b e : List Bool) → place.side ≡ A → length b ≡ length a
    → ((word : ℕ) → get_or b word false ≡ (get_or a word false || list_any (is_mark_at place word) marks)) → AddsBreak place (seen marks a e) (seen marks b e)
adds_on_a place marks a b e side long words = adds_by place A (seen marks a e) (seen marks b e) side refl long words refl

pub adds_on_e : (place : Breakpoint) (marks : List LineMark) (a e f : List Bool) → place.side ≡ E → length f ≡ length e
    → ((word : ℕ) → get_or f word false ≡ (get_or e word false || list_any (is_mark_at place word) marks)) → AddsBreak place (seen marks a e) (seen marks a f)
adds_on_e place marks a e f side long words = adds_by place E (seen marks a e) (seen marks a f) side refl long words refl

long_by : (side : Side) (marks : List LineMark) (a e b f : List Bool) → length b ≡ length a → length f ≡ length e
    → length (words_of side (seen marks b f)) ≡ length (words_of side (seen marks a e))
long_by A marks a e b f p q = p
long_by E marks a e b f p q = q

pub inside_still : (marks : List LineMark) (a e b f : List Bool) → length b ≡ length a → length f ≡ length e → AreInside (seen marks a e) → AreInside (seen marks b f)
inside_still marks a e b f p q inside k d lt =
    let m = get_or marks k d in
    subst (λ (n : ℕ). m.word < n) (sym (long_by m.side marks a e b f p q)) (inside k d lt)

-- the marks of an image are
lines_inside : (h : ImageHeader) (last : Option LineMark) (marks : List LineMark) → are_lines h last marks ≡ true → All (λ mark. mark.word < code_length h mark.side) marks
lines_inside h last [] e k d lt = absurd (omega arith)
lines_inside h last (m ∷ ms) e zero d lt =
    let x = and_parts (is_line h last m) (are_lines h (Some m) ms) e in
    let y = and_parts (follows last m) (nat_lt m.word (code_length h m.side) && (nat_lt m.file h.names && nat_lt 0 m.line)) x.0 in
    let z = (and_parts (nat_lt m.word (code_length h m.side)) (nat_lt m.file h.names && nat_lt 0 m.line) y.1).0 in
    grind (arith, nat_tests)
lines_inside h last (m ∷ ms) e (suc k) d lt =
    let x = and_parts (is_line h last m) (are_lines h (Some m) ms) e in
    lines_inside h (Some m) ms x.1 k d (omega arith)

words_long : (image : Image) (a e : List Bool) (side : Side) (h : ImageHeader) → length a ≡ h.words_a → length e ≡ h.words_e → code_length h side ≡ length (words_of side (seen image.lines a e))
words_long image a e A h p q = sym p
words_long image a e E h p q = sym q

pub image_inside : (image : Image) (a e : List Bool) → length a ≡ length image.code_a → length e ≡ length image.code_e → AreInside (seen image.lines a e)
image_inside image a e p q k d lt =
    let m = get_or image.lines k d in
    let f = image.fits in
    subst (λ (n : ℕ). m.word < n) (words_long image a e m.side (header (contents image)) p q) (lines_inside (header (contents image)) None image.lines f.lines k d lt)

pub none_inside : (image : Image) → AreInside (no_breaks image)
none_inside image = image_inside image (replicate (length image.code_a) false) (replicate (length image.code_e) false) (length-replicate (length image.code_a) false) (length-replicate (length image.code_e) false)
