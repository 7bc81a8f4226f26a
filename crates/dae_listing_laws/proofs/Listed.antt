-- A listing says the image that it lists.
use Rattle.std.proofs.Common.{◌≡◌, ℕ, suc, ◌+◌, ◌<◌, ◌^◌, pos, List, [], map, length, refl, sym, ap, ◌∙◌, subst, arith}
use Rattle.std.specs.Prelude.{None}
use Rattle.std.specs.List.{AllByRecursion}
use Rattle.std.proofs.lemmas.List.{append-nil}
use Rattle.std.proofs.lemmas.List.Elements.{recursion_from_All}
use Rattle.dae_image.specs.declared.Image.{Image}
use Rattle.dae_image.specs.Contents.{ImageContents, header}
use Rattle.dae_image.specs.Images.{contents}
use Rattle.dae_asm_lines.specs.Targets.{Given}
use Rattle.dae_asm_lines.specs.Items as items
use Rattle.dae_asm_order.specs.Sheets.{Sheet, AreItems, says, lines_of, rows_of}
use Rattle.dae_asm_order.proofs.Laws.{items_join}
use Rattle.dae_asm_labels.specs.Labels.{labels_a, labels_e, label_tests, first_false}
use Rattle.dae_asm_data.specs.Data.{NumberRow}
use Rattle.dae_asm.specs.Assembly.{HasLabels, Asm}
use Rattle.dae_listing.specs.Canon.{word_text, seven_depths, content_rows, mark_row, rows, canon}
use Rattle.dae_listing_laws.proofs.Rows.{AreFew}
use Rattle.dae_listing_laws.proofs.Lines.{is_line as line_is, text_lines}
use Rattle.dae_listing_laws.proofs.Items.{budget_reads, memory_reads, calls_reads, private_reads, entry_reads, a_reads, e_reads, data_reads}
use Rattle.dae_listing_laws.proofs.Sheet.{number_from, ArePlain, plain_join, code_item, words_items, words_plain, all_code, all_met, all_pass, Chunks, chunks_of, marks_from, MarksFew, marks_items, marks_plain, marks_said, marks_few, names_from, NamesFew, names_few, names_items, names_plain, names_said}

-- the lines of a listing where its parts begin

abbrev line_e : ImageContents → ℕ
line_e c = 7 + length (map word_text c.code_a)

abbrev line_data : ImageContents → ℕ
line_data c = suc (line_e c) + length (map word_text c.code_e)

abbrev line_marks : ImageContents → ℕ
line_marks c = suc (line_data c) + length (content_rows c.content)

abbrev line_names : ImageContents → ℕ
line_names c = line_marks c + length (map mark_row c.lines)

abbrev sheet_of : ImageContents → List NumberRow → Sheet
sheet_of c chunks = record {
  budget = (1, map (λ n. pos n) (seven_depths c.budget));
  memory = (2, pos c.memory);
  calls = (3, pos c.calls);
  private = (4, pos c.private_a, pos c.private_e);
  entry = (5, Given (pos c.entry_a), Given (pos c.entry_e));
  begin_a = 6;
  code_a = number_from 7 (map code_item c.code_a);
  begin_e = line_e c;
  code_e = number_from (suc (line_e c)) (map code_item c.code_e);
  begin_data = line_data c;
  bytes = chunks;
  marks = marks_from (line_marks c) c.lines;
  names = names_from (line_names c) c.names;
}

-- what the numbers of an image keep to
pub record Few (c : ImageContents) : Type 0 where
  pub budget : AreFew (seven_depths c.budget)
  pub memory : c.memory < 2 ^ 32
  pub calls : c.calls < 2 ^ 32
  pub private_a : c.private_a < 2 ^ 32
  pub private_e : c.private_e < 2 ^ 32
  pub entry_a : c.entry_a < 2 ^ 32
  pub entry_e : c.entry_e < 2 ^ 32
  pub code_a : AreFew c.code_a
  pub code_e : AreFew c.code_e
  pub content : AllByRecursion (λ b. b < 256) c.content
  pub marks : MarksFew c.lines
  pub names : NamesFew c.names

pub few_of : (i : Image) → Few (contents i)
few_of i =
    let fits = i.fits in
    let head = fits.head in
    let ld = head.ld in let al = head.al in let sa = head.sa in let sd = head.sd in let ab = head.ab in let eb = head.eb in let cq = head.cq in
    let memory = head.memory in let calls = head.calls in let private_a = head.private_a in let private_e = head.private_e in
    let entry_a = head.entry_a in let entry_e = head.entry_e in
    let words_a = head.words_a in let words_e = head.words_e in let names = head.names in
    record {
      budget = (omega (arith, ld.1), (omega (arith, al.1), (omega (arith, sa.1), (omega (arith, sd.1), (omega (arith, ab.1), (omega (arith, eb.1), (omega (arith, cq.1), tt)))))));
      memory = omega (arith, memory.1);
      calls = omega (arith, calls.1);
      private_a = omega (arith, private_a.1);
      private_e = omega (arith, private_e.1);
      entry_a = omega (arith, entry_a.1);
      entry_e = omega (arith, entry_e.1);
      code_a = recursion_from_All (λ w. w < 2 ^ 32) i.code_a fits.code_a;
      code_e = recursion_from_All (λ w. w < 2 ^ 32) i.code_e fits.code_e;
      content = recursion_from_All (λ b. b < 256) i.content fits.content;
      marks = marks_few (header (contents i)) None i.lines words_a.1 words_e.1 (omega (arith, names.1)) fits.lines (recursion_from_All (λ m. m.line < 2 ^ 32) i.lines fits.numbers);
      names = names_few i.names fits.names;
    }

items_are : (c : ImageContents) (few : Few c) (ch : Chunks (suc (line_data c)) c.content (content_rows c.content)) → AreItems 1 (rows c) (rows_of (sheet_of c ch.chunks))
items_are c few ch =
    says (line_is _ _ (budget_reads (seven_depths c.budget) refl few.budget))
    (says (line_is _ _ (memory_reads c.memory few.memory))
    (says (line_is _ _ (calls_reads c.calls few.calls))
    (says (line_is _ _ (private_reads c.private_a c.private_e few.private_a few.private_e))
    (says (line_is _ _ (entry_reads c.entry_a c.entry_e few.entry_a few.entry_e))
    (says (line_is _ _ a_reads)
    (items_join 7 (map word_text c.code_a) _ (number_from 7 (map code_item c.code_a)) _ (words_items 7 c.code_a few.code_a)
    (says (line_is _ _ e_reads)
    (items_join (suc (line_e c)) (map word_text c.code_e) _ (number_from (suc (line_e c)) (map code_item c.code_e)) _ (words_items (suc (line_e c)) c.code_e few.code_e)
    (says (line_is _ _ data_reads)
    (items_join (suc (line_data c)) (content_rows c.content) _ (map (λ b. (b.0, items.Bytes b.1)) ch.chunks) _ ch.items
    (items_join (line_marks c) (map mark_row c.lines) _ (map (λ m. (m.0, items.Mark m.1 m.2 m.3 m.4)) (marks_from (line_marks c) c.lines)) _ (marks_items (line_marks c) c.lines few.marks)
    (names_items (line_names c) c.names few.names))))))))))))

rows_plain : (c : ImageContents) (few : Few c) (ch : Chunks (suc (line_data c)) c.content (content_rows c.content)) → ArePlain (rows c)
rows_plain c few ch =
    let budget = budget_reads (seven_depths c.budget) refl few.budget in
    let memory = memory_reads c.memory few.memory in
    let calls = calls_reads c.calls few.calls in
    let private_ = private_reads c.private_a c.private_e few.private_a few.private_e in
    let entry = entry_reads c.entry_a c.entry_e few.entry_a few.entry_e in (
      budget.plain,
      (
        memory.plain,
        (
          calls.plain,
          (
            private_.plain,
            (
              entry.plain,
              (
                a_reads.plain,
                plain_join (map word_text c.code_a) _ (words_plain c.code_a few.code_a) (
                  e_reads.plain,
                  plain_join (map word_text c.code_e) _ (words_plain c.code_e few.code_e) (
                    data_reads.plain,
                    plain_join (content_rows c.content) _ ch.plain
                        (plain_join (map mark_row c.lines) _ (marks_plain c.lines few.marks) (names_plain c.names few.names)),
                  ),
                ),
              ),
            ),
          ),
        ),
      ),
    )

labels_are : (c : ImageContents) (chunks : List NumberRow) → HasLabels (sheet_of c chunks)
labels_are c chunks =
    let s = sheet_of c chunks in
    let second : first_false (label_tests (labels_e s) s.code_e) ≡ None = ap first_false (sym (append-nil (label_tests (labels_e s) s.code_e))) ∙ all_pass (labels_e s) (suc (line_e c)) c.code_e [] refl in
    all_pass (labels_a s) 7 c.code_a (label_tests (labels_e s) s.code_e) second

pub listed : (i : Image) → Asm (canon (contents i)) i
unfolding canon
listed i =
    let c = contents i in
    let few = few_of i in
    let ch = chunks_of (suc (line_data c)) c.content few.content in
    let s = sheet_of c ch.chunks in
    let text : lines_of (canon c) ≡ rows c = text_lines (rows c) (rows_plain c few ch) in
    record {
      sheet = s;
      ordered = record {
        items = subst (λ (ls : List (List ℕ)). AreItems 1 ls (rows_of s)) (sym text) (items_are c few ch);
        code_a = all_code 7 c.code_a;
        code_e = all_code (suc (line_e c)) c.code_e;
      };
      labelled = labels_are c ch.chunks;
      says = record {
        budget = refl;
        memory = refl;
        calls = refl;
        private_a = refl;
        private_e = refl;
        entry_a = refl;
        entry_e = refl;
        code_a = all_met (labels_a s) 0 7 c.code_a few.code_a;
        code_e = all_met (labels_e s) 0 (suc (line_e c)) c.code_e few.code_e;
        content = ch.said;
        marks = marks_said (line_marks c) c.lines;
        names = names_said (line_names c) c.names;
      };
    }
