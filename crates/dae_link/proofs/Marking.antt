-- Marks of lines that are added one by one.
use Rattle.std.proofs.Common.{◌≡◌, ℕ, suc, ◌+◌, ◌-◌, ◌^◌, ◌<◌, ◌≤◌, Bool, true, false, ◌&&◌, List, [], ◌∷◌, ◌++◌, length, take, drop, get_or, refl, ap, subst, sym, ◌∙◌, arith, append_assoc, length-append}
use Rattle.std.specs.Prelude.{Option, Some, None, nat_lt, if◌then◌else◌}
use Rattle.std.specs.List.{All, last_or}
use Rattle.std.proofs.lemmas.Bool.{le-ltb}
use Rattle.std.proofs.lemmas.Bool.Decides.{nat_tests}
use Rattle.std.proofs.lemmas.List.{drop_more}
use Rattle.std.proofs.lemmas.List.Elements.{All-push}
use Rattle.dae_base.specs.declared.Side.{Side}
use Rattle.dae_base.specs.declared.Side.TheVariants.{A, E}
use Rattle.dae_image.specs.Contents.{follows, code_length, is_line, are_lines}
use Rattle.dae_image.specs.declared.LineMark.{LineMark}
use Rattle.dae_image.specs.declared.header.ImageHeader.{ImageHeader}
use Rattle.dae_image.proofs.Laws.{are_lines-push}
use Rattle.dae_select.specs.declared.growing.PlacedWord.{PlacedWord}
use Rattle.dae_link.specs.declared.marks.MarkRoom.{MarkRoom}
use Rattle.dae_link.specs.declared.marks.LineMarks.{LineMarks}
use Rattle.dae_link.specs.Marked.{HasSizes, words_in, is_mark, mark_at, is_another_line, is_marked, marks_after, up_to, line_marks, HasMarkMore}

abbrev the_room : ℕ → ℕ → ℕ → MarkRoom
the_room a e n = record { words_a = a; words_e = e; files = n }

same_words : (room : MarkRoom) (h : ImageHeader) → HasSizes room h → (s : Side) → words_in room s ≡ code_length h s
same_words room h has A = sym has.words_a
same_words room h has E = sym has.words_e

same_mark : (room : MarkRoom) (h : ImageHeader) → HasSizes room h → (last : Option LineMark) (m : LineMark) → is_mark room last m ≡ is_line h last m
same_mark room h has last m =
    ap (λ (w : ℕ). follows last m && (nat_lt m.word w && (nat_lt m.file room.files && nat_lt 0 m.line))) (same_words room h has m.side)
    ∙ ap (λ (k : ℕ). follows last m && (nat_lt m.word (code_length h m.side) && (nat_lt m.file k && nat_lt 0 m.line))) (sym has.files)

pub last_pushed : (last : Option LineMark) (ms : List LineMark) (m : LineMark) → last_or last (ms ++ m ∷ []) ≡ Some m
last_pushed last [] m = refl
last_pushed last (x ∷ xs) m = last_pushed (Some x) xs m

pub good_pushed : (room : MarkRoom) (last : Option LineMark) (ms : List LineMark) (m : LineMark)
    → ((h : ImageHeader) → HasSizes room h → are_lines h None ms ≡ true) → last ≡ last_or None ms → is_mark room last m ≡ true
    → (h : ImageHeader) → HasSizes room h → are_lines h None (ms ++ m ∷ []) ≡ true
good_pushed room last ms m good is_last next h has =
    are_lines-push h None ms m (good h has) (subst (λ (l : Option LineMark). is_line h l m ≡ true) is_last (sym (same_mark room h has last m) ∙ next))

pub small_pushed : (ms : List LineMark) (m : LineMark) → All (λ (x : LineMark). x.line < 2 ^ 32) ms → m.line < 2 ^ 32 → All (λ (x : LineMark). x.line < 2 ^ 32) (ms ++ m ∷ [])
small_pushed ms m h k = All-push (λ (x : LineMark). x.line < 2 ^ 32) ms m h k

-- ---- which words are marked

and_false : (a b : Bool) → a && (b && false) ≡ false
and_false true true = refl
and_false true false = refl
and_false false b = refl

-- a word that isn't there isn't marked
unmarked : (room : MarkRoom) (last : Option LineMark) (m : LineMark) → nat_lt m.word (words_in room m.side) ≡ false → is_marked room last m ≡ false
unmarked room last m h =
    ap (λ (b : Bool). is_another_line last m && (follows last m && (b && (nat_lt m.file room.files && nat_lt 0 m.line)))) h
    ∙ and_false (is_another_line last m) (follows last m)

-- the marks from a word on, where it is marked and where it isn't
abbrev chosen : Bool → LineMark → List LineMark → List LineMark → List LineMark
chosen b m marked other = if b then m ∷ marked else other

skipped : (room : MarkRoom) (side : Side) (last : Option LineMark) (p : PlacedWord) (ps : List PlacedWord) → is_marked room last (mark_at side p) ≡ false → marks_after room side last (p ∷ ps) ≡ marks_after room side last ps
skipped room side last p ps h = ap (λ (b : Bool). chosen b (mark_at side p) (marks_after room side (Some (mark_at side p)) ps) (marks_after room side last ps)) h

marked_first : (room : MarkRoom) (side : Side) (last : Option LineMark) (p : PlacedWord) (ps : List PlacedWord) → is_marked room last (mark_at side p) ≡ true
    → marks_after room side last (p ∷ ps) ≡ mark_at side p ∷ marks_after room side (Some (mark_at side p)) ps
marked_first room side last p ps h = ap (λ (b : Bool). chosen b (mark_at side p) (marks_after room side (Some (mark_at side p)) ps) (marks_after room side last ps)) h

-- where no more fit in, there are no more
full : (most : ℕ) (marks more other : List LineMark) → length marks ≡ most → up_to most marks more ≡ up_to most marks other
full most marks more other h =
    let none : most - length marks ≡ 0 = omega arith in
    ap (λ (n : ℕ). marks ++ take n more) none ∙ sym (ap (λ (n : ℕ). marks ++ take n other) none)

-- and else the next is one of them
next_fits : (most : ℕ) (marks : List LineMark) (m : LineMark) (more : List LineMark) → length marks < most → up_to most (marks ++ m ∷ []) more ≡ up_to most marks (m ∷ more)
next_fits most marks m more h =
    let long = length-append marks (m ∷ []) in
    let left : most - length (marks ++ m ∷ []) ≡ most - length marks - 1 = omega arith in
    let some : suc (most - length marks - 1) ≡ most - length marks = omega arith in
    ap (λ (n : ℕ). (marks ++ m ∷ []) ++ take n more) left
    ∙ append_assoc marks (m ∷ []) (take (most - length marks - 1) more)
    ∙ ap (λ (n : ℕ). marks ++ take n (m ∷ more)) some

-- the marks so far and those to come are the same when a word has been looked at
looked_by : (room : MarkRoom) (most : ℕ) (side : Side) (p : PlacedWord) (ps : List PlacedWord) (old new : List LineMark) (was is : Option LineMark) (fits marked : Bool)
    → nat_lt (length old) most ≡ fits → is_marked room was (mark_at side p) ≡ marked → length old ≤ most
    → new ≡ (if fits && marked then old ++ mark_at side p ∷ [] else old) → is ≡ (if fits && marked then Some (mark_at side p) else was)
    → up_to most new (marks_after room side is ps) ≡ up_to most old (marks_after room side was (p ∷ ps))
looked_by room most side p ps old new was is true true fits marked few lines last =
    ap (λ (ms : List LineMark). up_to most ms (marks_after room side is ps)) lines
    ∙ ap (λ (l : Option LineMark). up_to most (old ++ mark_at side p ∷ []) (marks_after room side l ps)) last
    ∙ next_fits most old (mark_at side p) (marks_after room side (Some (mark_at side p)) ps) (grind (arith, nat_tests))
    ∙ ap (λ (ms : List LineMark). up_to most old ms) (sym (marked_first room side was p ps marked))
looked_by room most side p ps old new was is true false fits marked few lines last =
    ap (λ (ms : List LineMark). up_to most ms (marks_after room side is ps)) lines
    ∙ ap (λ (l : Option LineMark). up_to most old (marks_after room side l ps)) last
    ∙ ap (λ (ms : List LineMark). up_to most old ms) (sym (skipped room side was p ps marked))
looked_by room most side p ps old new was is false marked fits same few lines last =
    ap (λ (ms : List LineMark). up_to most ms (marks_after room side is ps)) lines
    ∙ full most old (marks_after room side is ps) (marks_after room side was (p ∷ ps)) (grind (arith, nat_tests))

pub looked_at : (room : MarkRoom) (most : ℕ) (side : Side) (p : PlacedWord) (ps : List PlacedWord) (old new : LineMarks) → length old.lines.items ≤ most → HasMarkMore room most (mark_at side p) old new
    → up_to most new.lines.items (marks_after room side new.last ps) ≡ up_to most old.lines.items (marks_after room side old.last (p ∷ ps))
looked_at room most side p ps old new few h =
    looked_by room most side p ps old.lines.items new.lines.items old.last new.last (nat_lt (length old.lines.items) most) (is_marked room old.last (mark_at side p)) refl refl few h.lines h.last

pub passed_by : (room : MarkRoom) (most : ℕ) (side : Side) (p : PlacedWord) (ps : List PlacedWord) (lines : List LineMark) (last : Option LineMark) → nat_lt p.word (words_in room side) ≡ false
    → up_to most lines (marks_after room side last ps) ≡ up_to most lines (marks_after room side last (p ∷ ps))
passed_by room most side p ps lines last h = ap (up_to most lines) (sym (skipped room side last p ps (unmarked room last (mark_at side p) h)))

-- the place of a word that isn't there
abbrev pub no_word : PlacedWord
no_word = record { word = 0; place = record { file = 0; line = 0; col = 0 } }

pub one_looked_at : (room : MarkRoom) (most : ℕ) (side : Side) (places : List PlacedWord) (i : ℕ) (m : LineMark) (old new : LineMarks) → i < length places → m ≡ mark_at side (get_or places i no_word)
    → length old.lines.items ≤ most → HasMarkMore room most m old new
    → up_to most new.lines.items (marks_after room side new.last (drop (i + 1) places)) ≡ up_to most old.lines.items (marks_after room side old.last (drop i places))
one_looked_at room most side places i m old new some is few more =
    looked_at room most side (get_or places i no_word) (drop (i + 1) places) old new few (subst (λ (x : LineMark). HasMarkMore room most x old new) is more)
    ∙ ap (λ (ps : List PlacedWord). up_to most old.lines.items (marks_after room side old.last ps)) (sym (drop_more places i no_word some))

pub one_passed_by : (room : MarkRoom) (most : ℕ) (side : Side) (places : List PlacedWord) (i words : ℕ) (marks : LineMarks) → i < length places → words ≡ words_in room side → words ≤ (get_or places i no_word).word
    → up_to most marks.lines.items (marks_after room side marks.last (drop (i + 1) places)) ≡ up_to most marks.lines.items (marks_after room side marks.last (drop i places))
one_passed_by room most side places i words marks some all far =
    passed_by room most side (get_or places i no_word) (drop (i + 1) places) marks.lines.items marks.last (le-ltb (get_or places i no_word).word (words_in room side) (omega arith))
    ∙ ap (λ (ps : List PlacedWord). up_to most marks.lines.items (marks_after room side marks.last ps)) (sym (drop_more places i no_word some))

-- ---- the marks of an image

pub same_room : (a a' e e' n n' : ℕ) → a ≡ a' → e ≡ e' → n ≡ n' → the_room a e n ≡ the_room a' e' n'
same_room a a' e e' n n' h k i = ap (λ (w : ℕ). the_room w e n) h ∙ ap (λ (w : ℕ). the_room a' w n) k ∙ ap (λ (w : ℕ). the_room a' e' w) i

pub same_marks : (room room' : MarkRoom) (a a' e e' : List PlacedWord) (lines : List LineMark) → room ≡ room' → a ≡ a' → e ≡ e' → lines ≡ line_marks room a e → lines ≡ line_marks room' a' e'
same_marks room room' a a' e e' lines h k i made =
    made ∙ ap (λ (r : MarkRoom). line_marks r a e) h ∙ ap (λ (ps : List PlacedWord). line_marks room' ps e) k ∙ ap (λ (ps : List PlacedWord). line_marks room' a' ps) i
