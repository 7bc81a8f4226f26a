-- An image of parts that are in their bounds.
use Rattle.std.proofs.Common.{◌≡◌, ℕ, ◌+◌, ◌*◌, ◌/◌, ◌%◌, ◌≤◌, ◌<◌, ℤ, pos, List, map, length, inl, inr, refl, sym, ap, ◌∙◌, subst, arith}
use Rattle.std.proofs.lemmas.List.{length-map}
use Rattle.dae_image.specs.Ranges.{IsIn, words_range, content_range}
use Rattle.dae_image.specs.declared.LineMark.{LineMark}
use Rattle.dae_image.specs.Contents.{ImageContents, Fits, HeaderFits, header}
use Rattle.dae_asm_order.specs.Sheets.{Row, Sheet}
use Rattle.dae_asm_labels.specs.Labels.{Look, words, labels_a, labels_e}
use Rattle.dae_asm_lines.specs.Targets.{JumpTarget}
use Rattle.dae_asm_values.specs.Values.{IsEntry}
use Rattle.dae_asm_data.specs.declared.marks.TextCounts.{TextCounts}
use Rattle.dae_asm_data.specs.Data.{MarkRow}
use Rattle.dae_asm_data.specs.Parts.{IsContent, AreMarks, AreNames}
use Rattle.dae_asm.specs.declared.head.Head.{Head}
use Rattle.dae_asm.specs.Assembly.{counts_of, Says}
use Rattle.dae_asm.specs.Making.{AreFew, IsHead, IsCode}
use Rattle.dae_asm.proofs.Headed.{head_kept}
use Rattle.dae_asm.proofs.Parted.{Kept}

abbrev pub made_of : Head → List ℕ → List ℕ → List ℕ → List LineMark → List (List ℕ) → ImageContents
made_of h code_a code_e content lines names = record {
  budget = h.budget;
  memory = h.memory;
  calls = h.calls;
  private_a = h.private_a;
  private_e = h.private_e;
  entry_a = h.entry_a;
  entry_e = h.entry_e;
  code_a = code_a;
  code_e = code_e;
  content = content;
  lines = lines;
  names = names;
}

abbrev pub counts_are : ℕ → ℕ → ℕ → TextCounts
counts_are a e n = record { words_a = a; words_e = e; names = n }

-- what image_of has made
pub record Parts (s : Sheet) (h : Head) (words_a words_e bytes : List ℕ) (marks : List LineMark) (texts : List (List ℕ)) : Type 0 where
  pub few : AreFew s
  pub head : IsHead s h
  pub a : IsCode s.begin_a (labels_a s) s.code_a words_a
  pub e : IsCode s.begin_e (labels_e s) s.code_e words_e
  pub content : IsContent h.memory s.bytes bytes
  pub lines : AreMarks (counts_of s) s.marks marks
  pub names : AreNames s.names texts

remainder_one : (n : ℕ) → n % 1 ≡ 0
remainder_one n = omega arith

below_end : (n len count : ℕ) → len ≡ count → n < 4 * count → n / 4 + 1 ≤ len
below_end n len count e h = omega arith

words_fit : (labels : Look) (count : ℕ) (t : JumpTarget) (n len : ℕ) → IsEntry labels count t n → len ≡ count → 1 ≤ len → count ≤ 33554432 → IsIn (words_range n) len
words_fit labels count t n len h e some few =
    let within : n / 4 + 1 ≤ len = elim h.inside [ inl none ↦ absurd (omega arith) | inr low ↦ below_end n len count e low ] in
    (within, (omega arith), remainder_one len)

content_fits : (memory len : ℕ) → 16 + len ≤ memory → IsIn (content_range memory) len
content_fits memory len h = (omega arith, omega arith, remainder_one len)

names_same : (s : Sheet) (names : List (List ℕ)) → AreNames s.names names → length names ≡ length s.names
names_same s names a =
    sym (length-map names (λ (name : List ℕ). map (λ b. pos b) name)) ∙ sym (ap length a.said) ∙ length-map s.names (λ (r : ℕ × List ℤ). r.1)

pub head_fits : (s : Sheet) (h : Head) (code_a code_e content : List ℕ) (lines : List LineMark) (names : List (List ℕ)) → Parts s h code_a code_e content lines names → HeaderFits (header (made_of h code_a code_e content lines names))
head_fits s h code_a code_e content lines names p =
    let b = p.head.budget in
    let few_lines = p.lines.few in
    let few_names = p.names.few in
    record {
      ld = b.ld;
      al = b.al;
      sa = b.sa;
      sd = b.sd;
      ab = b.ab;
      eb = b.eb;
      cq = b.cq;
      memory = p.head.memory.1;
      calls = p.head.calls.1;
      private_a = p.head.private_a.1;
      private_e = p.head.private_e.1;
      entry_a = p.head.entry_a.range;
      entry_e = p.head.entry_e.range;
      words_a = words_fit (labels_a s) (words s.code_a) s.entry.1 h.entry_a (length code_a) p.head.entry_a p.a.count p.a.some p.few.a;
      words_e = words_fit (labels_e s) (words s.code_e) s.entry.2 h.entry_e (length code_e) p.head.entry_e p.e.count p.e.some p.few.e;
      content = content_fits h.memory (length content) p.content.inside;
      lines = (omega arith, few_lines, remainder_one (length lines));
      names = (omega arith, few_names, remainder_one (length names));
    }

pub parts_fit : (s : Sheet) (h : Head) (code_a code_e content : List ℕ) (lines : List LineMark) (names : List (List ℕ)) → Parts s h code_a code_e content lines names → Fits (made_of h code_a code_e content lines names)
parts_fit s h code_a code_e content lines names p = record {
  head = head_fits s h code_a code_e content lines names p;
  code_a = p.a.small;
  code_e = p.e.small;
  content = p.content.said.small;
  lines = p.lines.lines (header (made_of h code_a code_e content lines names)) (record { words_a = p.a.count; words_e = p.e.count; names = names_same s names p.names });
  numbers = p.lines.numbers;
  names = p.names.good;
}

pub parts_said : (s : Sheet) (h : Head) (code_a code_e content : List ℕ) (lines : List LineMark) (names : List (List ℕ)) → Parts s h code_a code_e content lines names → Says s (made_of h code_a code_e content lines names)
parts_said s h code_a code_e content lines names p = record {
  budget = p.head.budget.said;
  memory = p.head.memory.0;
  calls = p.head.calls.0;
  private_a = p.head.private_a.0;
  private_e = p.head.private_e.0;
  entry_a = p.head.entry_a.said;
  entry_e = p.head.entry_e.said;
  code_a = p.a.met;
  code_e = p.e.met;
  content = p.content.said.said;
  marks = p.lines.said;
  names = p.names.said;
}

-- ---- what the calls of image_of give, as parts

pub same_counts : (s : Sheet) (a e n : ℕ) → a ≡ words s.code_a → e ≡ words s.code_e → n ≡ length s.names → counts_are a e n ≡ counts_of s
same_counts s a e n p q r = rw (p, q, r) refl

pub code_is : (line : ℕ) (found known : Look) (rows : List Row) (ws : List ℕ) → found ≡ known → IsCode line found rows ws → IsCode line known rows ws
code_is line found known rows ws same h = subst (λ (l : Look). IsCode line l rows ws) same h

pub kept_of : (s : Sheet) (h : Head) (a e : Look) (code_a code_e : List ℕ) → IsHead s h → a ≡ labels_a s → e ≡ labels_e s
    → IsCode s.begin_a a s.code_a code_a → IsCode s.begin_e e s.code_e code_e → Kept s
kept_of s h a e code_a code_e head ka ke in_a in_e = record {
  head = head_kept s h head;
  a = (code_is s.begin_a a (labels_a s) s.code_a code_a ka in_a).kept;
  e = (code_is s.begin_e e (labels_e s) s.code_e code_e ke in_e).kept;
}

pub marks_are : (found known : TextCounts) (rows : List MarkRow) (ms : List LineMark) → found ≡ known → AreMarks found rows ms → AreMarks known rows ms
marks_are found known rows ms same h = subst (λ (n : TextCounts). AreMarks n rows ms) same h

pub parts_of : (s : Sheet) (h : Head) (a e : Look) (counts : TextCounts) (ws_a ws_e bytes : List ℕ) (ms : List LineMark) (ns : List (List ℕ)) (code_a code_e content : List ℕ) (lines : List LineMark) (names : List (List ℕ))
    → a ≡ labels_a s → e ≡ labels_e s → counts ≡ counts_of s
    → code_a ≡ ws_a → code_e ≡ ws_e → content ≡ bytes → lines ≡ ms → names ≡ ns
    → AreFew s → IsHead s h → IsCode s.begin_a a s.code_a ws_a → IsCode s.begin_e e s.code_e ws_e → IsContent h.memory s.bytes bytes → AreMarks counts s.marks ms → AreNames s.names ns
    → Parts s h code_a code_e content lines names
parts_of s h a e counts ws_a ws_e bytes ms ns code_a code_e content lines names ka ke kc sa se sb sm sn few head in_a in_e in_data in_marks in_names =
    rw (sa, se, sb, sm, sn) (record {
      few = few;
      head = head;
      a = code_is s.begin_a a (labels_a s) s.code_a ws_a ka in_a;
      e = code_is s.begin_e e (labels_e s) s.code_e ws_e ke in_e;
      content = in_data;
      lines = marks_are counts (counts_of s) s.marks ms kc in_marks;
      names = in_names;
    })

pub holds_data : (s : Sheet) (h : Head) → IsHead s h → 16 ≤ h.memory
holds_data s h k = let least = k.memory.1.0 in omega arith
