-- Marks of lines, one by one.
use Rattle.std.proofs.Common.{◌≡◌, ℕ, suc, ◌+◌, ◌<◌, ◌≤◌, ◌^◌, ℤ, pos, true, false, ◌&&◌, nat_lt, List, ◌∷◌, ◌++◌, length, drop, get_or, Option, Some, None, All, refl, sym, ap, ◌∙◌, subst, append_assoc, arith, length-append, []}
use Rattle.std.proofs.lemmas.List.{append-nil, map-append, drop_all}
use Rattle.std.proofs.lemmas.List.Elements.{All-push}
use Rattle.std.proofs.lemmas.Bool.{and_parts, and_from, ltb-true, lt-ltb}
use Rattle.dae_base.specs.declared.Side.{Side}
use Rattle.dae_base.specs.declared.Side.TheVariants.{A, E}
use Rattle.dae_image.specs.declared.LineMark.{LineMark}
use Rattle.dae_image.specs.declared.header.ImageHeader.{ImageHeader}
use Rattle.dae_image.specs.Contents.{follows, code_length, is_line, are_lines}
use Rattle.dae_asm_order.specs.Sheets.{Row}
use Rattle.dae_asm_sheet.specs.declared.rows.Row as code
use Rattle.dae_asm_sheet.specs.Rows.{row_seen, rows_seen, marks_in}
use Rattle.dae_asm_values.proofs.Laws.{rows_from}
use Rattle.dae_asm_data.specs.declared.faults.Found.TheVariants as founds
use Rattle.dae_asm_data.specs.declared.marks.TextCounts.{TextCounts}
use Rattle.dae_asm_data.specs.Data.{MarkRow, SaysMark, IsBehind, words_on, IsMark}
use Rattle.dae_asm_data.specs.Bounds.{Mark, mark_bounds}
use Rattle.dae_asm_data.specs.Parts.{places, spelled, HasCounts, AreMarks}
use Rattle.dae_asm_data.specs.Walking.{Leads, IsSpelled, may_stand, IsLast, OneMark, IsMarkFound}
use Rattle.dae_asm_data.proofs.Leading.{passes, ends}

-- ---- one mark of a line

same_number : (a b : ℕ) (z : ℤ) → z ≡ pos a → z ≡ pos b → a ≡ b
same_number a b z e f = cc

made_same : (s t : Side) (a b c x y z : ℕ) → s ≡ t → a ≡ x → b ≡ y → c ≡ z → let m : LineMark = record { side = s; word = a; file = b; line = c } in let n : LineMark = record { side = t; word = x; file = y; line = z } in m ≡ n
made_same s t a b c x y z e f g h = rw (e, f, g, h) refl

one_mark : (row : MarkRow) (m n : LineMark) → SaysMark row m → SaysMark row n → m ≡ n
one_mark row m n a b =
    made_same m.side n.side m.word m.file m.line n.word n.file n.line (sym a.side ∙ b.side) (same_number m.word n.word row.2 a.word b.word)
    (same_number m.file n.file row.3 a.file b.file) (same_number m.line n.line row.4 a.line b.line)

-- ---- what may stand behind a mark

behind : (row_before : Option MarkRow) (last : Option LineMark) (m : LineMark) → IsLast row_before last → follows last m ≡ true → IsBehind row_before m
behind None None m l e = tt
behind (Some row) (Some k) m l e = (k, (l, e))
behind None (Some k) m l e = absurd l
behind (Some row) None m l e = absurd l

pub follows_it : (row_before : Option MarkRow) (last : Option LineMark) (m : LineMark) → IsLast row_before last → IsBehind row_before m → follows last m ≡ true
follows_it None None m l b = refl
follows_it (Some row) (Some k) m l b =
    let same : b.0 ≡ k = one_mark row b.0 k b.1.0 l in
    subst (λ (x : LineMark). follows (Some x) m ≡ true) same b.1.1
follows_it None (Some k) m l b = absurd l
follows_it (Some row) None m l b = absurd l

pub stands : (counts : TextCounts) (before : ℕ) (row_before : Option MarkRow) (last : Option LineMark) (its : MarkRow) (m : LineMark) → IsLast row_before last → SaysMark its m → m.line < 2 ^ 32 → may_stand counts before last m ≡ true
    → IsMark counts before row_before its m
stands counts before row_before last its m l s fits e =
    let a = and_parts (nat_lt before 262144) (follows last m && (nat_lt m.word (words_on counts m.side) && (nat_lt m.file counts.names && nat_lt 0 m.line))) e in
    let b = and_parts (follows last m) (nat_lt m.word (words_on counts m.side) && (nat_lt m.file counts.names && nat_lt 0 m.line)) a.1 in
    let d = and_parts (nat_lt m.word (words_on counts m.side)) (nat_lt m.file counts.names && nat_lt 0 m.line) b.1 in
    let f = and_parts (nat_lt m.file counts.names) (nat_lt 0 m.line) d.1 in
    record {
      said = s;
      few = ltb-true before 262144 a.0;
      behind = behind row_before last m l b.0;
      inside = ltb-true m.word (words_on counts m.side) d.0;
      known = ltb-true m.file counts.names f.0;
      one = let h : 0 < m.line = ltb-true 0 m.line f.1 in omega arith;
      fits = fits;
    }

may : (counts : TextCounts) (before : ℕ) (row_before : Option MarkRow) (last : Option LineMark) (its : MarkRow) (m : LineMark) → IsLast row_before last → IsMark counts before row_before its m → may_stand counts before last m ≡ true
may counts before row_before last its m l h =
    let some : 0 < m.line = let one = h.one in omega arith in
    and_from (nat_lt before 262144) (follows last m && (nat_lt m.word (words_on counts m.side) && (nat_lt m.file counts.names && nat_lt 0 m.line))) (lt-ltb before 262144 h.few)
    (and_from (follows last m) (nat_lt m.word (words_on counts m.side) && (nat_lt m.file counts.names && nat_lt 0 m.line)) (follows_it row_before last m l h.behind)
    (and_from (nat_lt m.word (words_on counts m.side)) (nat_lt m.file counts.names && nat_lt 0 m.line) (lt-ltb m.word (words_on counts m.side) h.inside)
    (and_from (nat_lt m.file counts.names) (nat_lt 0 m.line) (lt-ltb m.file counts.names h.known) (lt-ltb 0 m.line some))))

pub stands_not : (counts : TextCounts) (before : ℕ) (row_before : Option MarkRow) (last : Option LineMark) (its : MarkRow) (m : LineMark) → IsLast row_before last → SaysMark its m → may_stand counts before last m ≡ false
    → (k : LineMark) → IsMark counts before row_before its k → ⊥
stands_not counts before row_before last its m l s e k h =
    let same : k ≡ m = one_mark its k m h.said s in
    let yes : may_stand counts before last m ≡ true = subst (λ (x : LineMark). may_stand counts before last x ≡ true) same (may counts before row_before last its k l h) in
    absurd cc

words_small : (counts : TextCounts) (s : Side) → counts.words_a < 2 ^ 32 → counts.words_e < 2 ^ 32 → words_on counts s < 2 ^ 32
words_small counts A a e = a
words_small counts E a e = e

-- the numbers x, y and z are those of the line
pub spelled_says : (n : ℕ) (side : Side) (w f l x y z : ℤ) (m : LineMark) → IsSpelled side (x, y, z) m → x ≡ w → y ≡ f → z ≡ l → SaysMark (n, side, w, f, l) m
spelled_says n side w f l x y z m s a b d = record { side = s.side_is; word = sym a ∙ s.word.0; file = sym b ∙ s.file.0; line = sym d ∙ s.line.0 }

pub spells_none : (counts : TextCounts) (before : ℕ) (row_before : Option MarkRow) (n : ℕ) (side : Side) (w f l x y z : ℤ) → ((m : LineMark) → IsSpelled side (x, y, z) m → ⊥) → x ≡ w → y ≡ f → z ≡ l
    → counts.words_a < 2 ^ 32 → counts.words_e < 2 ^ 32 → counts.names < 2 ^ 32 → (k : LineMark) → IsMark counts before row_before (n, side, w, f, l) k → ⊥
spells_none counts before row_before n side w f l x y z none a b d first second third k h =
    let words = words_small counts k.side first second in
    let inside = h.inside in
    let known = h.known in
    none k (record { side_is = h.said.side; word = (a ∙ h.said.word, omega arith); file = (b ∙ h.said.file, omega arith); line = (d ∙ h.said.line, h.fits) })

-- ---- all rows

pub record Marking (counts : TextCounts) (all rest : List Row) (last : Option LineMark) (ms : List LineMark) : Type 0 where
  pub row_before : Option MarkRow
  pub is_last : IsLast row_before last
  pub leads : Leads (mark_bounds counts 0 None (marks_in all)) (mark_bounds counts (length ms) row_before (marks_in rest))
  pub said : places (marks_in all) ≡ spelled ms ++ places (marks_in rest)
  pub few : length ms ≤ 262144
  pub numbers : All (λ (m : LineMark). m.line < 2 ^ 32) ms
  pub lines : (h : ImageHeader) → HasCounts h counts → (more : List LineMark) → are_lines h last more ≡ true → are_lines h None (ms ++ more) ≡ true

pub no_mark : (counts : TextCounts) (all : List Row) (row : Row) (rest : List Row) (last : Option LineMark) (ms : List LineMark) → Marking counts all (row ∷ rest) last ms → ((rows : List Row) → marks_in (row ∷ rows) ≡ marks_in rows)
    → Marking counts all rest last ms
no_mark counts all row rest last ms w none = record {
  row_before = w.row_before;
  is_last = w.is_last;
  leads = subst (λ (rows : List MarkRow). Leads (mark_bounds counts 0 None (marks_in all)) (mark_bounds counts (length ms) w.row_before rows)) (none rest) w.leads;
  said = w.said ∙ ap (λ (rows : List MarkRow). spelled ms ++ places rows) (none rest);
  few = w.few;
  numbers = w.numbers;
  lines = w.lines;
}

same_words : (counts : TextCounts) (h : ImageHeader) → HasCounts h counts → (s : Side) → code_length h s ≡ words_on counts s
same_words counts h has A = has.words_a
same_words counts h has E = has.words_e

is_one : (counts : TextCounts) (h : ImageHeader) (before : ℕ) (row_before : Option MarkRow) (last : Option LineMark) (its : MarkRow) (m : LineMark) → HasCounts h counts → IsLast row_before last → IsMark counts before row_before its m → is_line h last m ≡ true
is_one counts h before row_before last its m has l k =
    let some : 0 < m.line = let one = k.one in omega arith in
    let inside : m.word < code_length h m.side = subst (λ (n : ℕ). m.word < n) (sym (same_words counts h has m.side)) k.inside in
    let known : m.file < h.names = subst (λ (n : ℕ). m.file < n) (sym has.names) k.known in
    and_from (follows last m) (nat_lt m.word (code_length h m.side) && (nat_lt m.file h.names && nat_lt 0 m.line)) (follows_it row_before last m l k.behind)
    (and_from (nat_lt m.word (code_length h m.side)) (nat_lt m.file h.names && nat_lt 0 m.line) (lt-ltb m.word (code_length h m.side) inside)
    (and_from (nat_lt m.file h.names) (nat_lt 0 m.line) (lt-ltb m.file h.names known) (lt-ltb 0 m.line some)))

place_of : (its : MarkRow) (m : LineMark) → SaysMark its m → places (its ∷ []) ≡ spelled (m ∷ [])
place_of its m s =
    let a = s.side in
    let b = s.word in
    let d = s.file in
    let e = s.line in
    rw (a, b, d, e) refl

pub marked : (counts : TextCounts) (all : List Row) (row : Row) (rest : List Row) (last : Option LineMark) (ms : List LineMark) (m : LineMark) → Marking counts all (row ∷ rest) last ms
    → ((row_before : Option MarkRow) → IsLast row_before last → IsMarkFound counts (length ms) row_before row (founds.Value m)) → Marking counts all rest (Some m) (ms ++ m ∷ [])
marked counts all row rest last ms m w found =
    let its : MarkRow = (found w.row_before w.is_last).0 in
    let one : OneMark row its = (found w.row_before w.is_last).1.0 in
    let k : IsMark counts (length ms) w.row_before its m = (found w.row_before w.is_last).1.1 in
    let few = k.few in
    let long : length (ms ++ m ∷ []) ≡ suc (length ms) = let f = length-append ms (m ∷ []) in omega arith in
    let bounds = mark_bounds counts 0 None (marks_in all) in
    let here : Leads bounds (mark_bounds counts (length ms) w.row_before (its ∷ marks_in rest)) =
    subst (λ (rows : List MarkRow). Leads bounds (mark_bounds counts (length ms) w.row_before rows)) (one.is rest) w.leads in
    let past : Leads bounds (mark_bounds counts (suc (length ms)) (Some its) (marks_in rest)) =
    passes bounds (mark_bounds counts (suc (length ms)) (Some its) (marks_in rest)) its.0 (Mark counts (length ms) w.row_before its) here (m, k) in
    let place = place_of its m k.said in
    record {
      row_before = Some its;
      is_last = k.said;
      leads = subst (λ (n : ℕ). Leads bounds (mark_bounds counts n (Some its) (marks_in rest))) (sym long) past;
      said =
          let join : spelled (ms ++ m ∷ []) ≡ spelled ms ++ spelled (m ∷ []) = map-append (λ (x : LineMark). (x.side, pos x.word, pos x.file, pos x.line)) ms (m ∷ []) in
          w.said ∙ ap (λ (rows : List MarkRow). spelled ms ++ places rows) (one.is rest)
          ∙ ap (λ (ps : List (Side × ℤ × ℤ × ℤ)). spelled ms ++ (ps ++ places (marks_in rest))) place
          ∙ sym (append_assoc (spelled ms) (spelled (m ∷ [])) (places (marks_in rest)))
          ∙ ap (λ (ps : List (Side × ℤ × ℤ × ℤ)). ps ++ places (marks_in rest)) (sym join);
      few = omega arith;
      numbers = All-push (λ (x : LineMark). x.line < 2 ^ 32) ms m w.numbers k.fits;
      lines = λ h has more e.
          let first = is_one counts h (length ms) w.row_before last its m has w.is_last k in
          let both = and_from (is_line h last m) (are_lines h (Some m) more) first e in
          subst (λ (xs : List LineMark). are_lines h None xs ≡ true) (sym (append_assoc ms (m ∷ []) more)) (w.lines h has (m ∷ more) both);
    }

pub all_marked : (counts : TextCounts) (all : List Row) (last : Option LineMark) (ms : List LineMark) → Marking counts all [] last ms → AreMarks counts (marks_in all) ms
all_marked counts all last ms w = record {
  said = w.said ∙ append-nil (spelled ms);
  few = w.few;
  lines = λ h has. subst (λ (xs : List LineMark). are_lines h None xs ≡ true) (append-nil ms) (w.lines h has [] refl);
  numbers = w.numbers;
  kept = ends (mark_bounds counts 0 None (marks_in all)) w.leads;
}

-- ---- the walk

pub moved : (counts : TextCounts) (all rest : List Row) (last k : Option LineMark) (ms ns : List LineMark) → last ≡ k → ms ≡ ns → Marking counts all rest k ns → Marking counts all rest last ms
moved counts all rest last k ms ns e f w = rw (e, f) w

pub go_past : (counts : TextCounts) (rows : List code.Row) (i : ℕ) (d : code.Row) (last : Option LineMark) (ms : List LineMark) (before : ℕ) → i < length rows → before ≡ length ms → Marking counts (rows_seen rows) (rows_seen (drop i rows)) last ms
    → ((row_before : Option MarkRow) → IsLast row_before last → IsMarkFound counts before row_before (row_seen (get_or rows i d)) founds.Nothing) → Marking counts (rows_seen rows) (rows_seen (drop (i + 1) rows)) last ms
go_past counts rows i d last ms before within same w found =
    let here = subst (λ (rest : List Row). Marking counts (rows_seen rows) rest last ms) (rows_from rows i d within) w in
    no_mark counts (rows_seen rows) (row_seen (get_or rows i d)) (rows_seen (drop (i + 1) rows)) last ms here (found w.row_before w.is_last)

pub go_on : (counts : TextCounts) (rows : List code.Row) (i : ℕ) (d : code.Row) (last : Option LineMark) (ms : List LineMark) (before : ℕ) (m : LineMark) → i < length rows → before ≡ length ms → Marking counts (rows_seen rows) (rows_seen (drop i rows)) last ms
    → ((row_before : Option MarkRow) → IsLast row_before last → IsMarkFound counts before row_before (row_seen (get_or rows i d)) (founds.Value m)) → Marking counts (rows_seen rows) (rows_seen (drop (i + 1) rows)) (Some m) (ms ++ m ∷ [])
go_on counts rows i d last ms before m within same w found =
    let here = subst (λ (rest : List Row). Marking counts (rows_seen rows) rest last ms) (rows_from rows i d within) w in
    let its = subst (λ (n : ℕ). (row_before : Option MarkRow) → IsLast row_before last → IsMarkFound counts n row_before (row_seen (get_or rows i d)) (founds.Value m)) same found in
    marked counts (rows_seen rows) (row_seen (get_or rows i d)) (rows_seen (drop (i + 1) rows)) last ms m here its

pub over : (counts : TextCounts) (rows : List code.Row) (i : ℕ) (last : Option LineMark) (ms : List LineMark) → length rows ≤ i → Marking counts (rows_seen rows) (rows_seen (drop i rows)) last ms → AreMarks counts (marks_in (rows_seen rows)) ms
over counts rows i last ms past w =
    let none : rows_seen (drop i rows) ≡ [] = ap rows_seen (drop_all i rows past) in
    all_marked counts (rows_seen rows) last ms (subst (λ (rest : List Row). Marking counts (rows_seen rows) rest last ms) none w)
