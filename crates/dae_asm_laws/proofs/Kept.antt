-- The numbers of a text that says an image keep to their bounds.
use Rattle.std.proofs.Common.{◌≡◌, inr, ℕ, suc, ◌+◌, ◌/◌, ◌<◌, ◌≤◌, ◌^◌, ℤ, pos, true, ◌&&◌, List, [], ◌∷◌, ◌++◌, map, length, refl, sym, ap, ◌∙◌, subst, arith, length-append}
use Rattle.std.specs.Prelude.{Option, Some, None, nat_lt}
use Rattle.std.specs.List.{list_all, AllByRecursion}
use Rattle.std.proofs.lemmas.Bool.{and_parts}
use Rattle.std.proofs.lemmas.Bool.Decides.{nat_tests}
use Rattle.std.proofs.lemmas.List.Elements.{All-from_recursion, recursion_from_All}
use Rattle.dae_base.specs.declared.Side.{Side}
use Rattle.dae_base.specs.declared.Side.TheVariants.{A, E}
use Rattle.dae_base.specs.Words.{AreBytes}
use Rattle.dae_image.specs.declared.Image.{Image}
use Rattle.dae_image.specs.declared.LineMark.{LineMark}
use Rattle.dae_image.specs.declared.header.ImageHeader.{ImageHeader}
use Rattle.dae_image.specs.Contents.{header, code_length, follows, is_line, are_lines, is_name}
use Rattle.dae_image.specs.Images.{contents}
use Rattle.dae_image.specs.Ranges.{IsIn, is_in, entry_range, name_range}
use Rattle.std.specs.Str.{is_utf8}
use Rattle.dae_asm_laws.proofs.Bytes.{text_bytes}
use Rattle.dae_asm_laws.proofs.Same.{mark_place}
use Rattle.dae_asm_lines.specs.Items as items
use Rattle.dae_asm_lines.specs.Targets.{JumpTarget}
use Rattle.dae_asm_order.specs.Sheets.{Row, Sheet}
use Rattle.dae_asm_labels.specs.Labels.{Look, words, labels_a, labels_e}
use Rattle.dae_asm_values.specs.Values.{IsAddress, IsEntry}
use Rattle.dae_asm_values.specs.Claims.{Claim, code_claims, AreMet}
use Rattle.dae_asm_data.specs.declared.marks.TextCounts.{TextCounts}
use Rattle.dae_asm_data.specs.Data.{NumberRow, numbers, MarkRow, SaysMark, IsBehind, words_on}
use Rattle.dae_asm_data.specs.Bounds.{Bound, Code, IsKept, data_bounds, mark_bounds, name_bounds}
use Rattle.dae_asm.specs.Assembly.{Says, head_bounds, code_bounds, counts_of, bounds}

-- all bounds are kept
abbrev pub Kept : List (ℕ × Bound) → Type 0
Kept bs = AllByRecursion (λ b. IsKept b.1) bs

join : (xs ys : List (ℕ × Bound)) → Kept xs → Kept ys → Kept (xs ++ ys)
join [] ys h k = k
join (x ∷ xs) ys h k = (h.0, join xs ys h.1 k)

-- ---- codes

-- as many words as rows of code make
as_many : (labels : Look) (here : ℕ) (rows : List Row) (ws : List ℕ) → AreMet (code_claims labels here rows) ws → words rows ≡ length ws
as_many labels here [] ws h = sym (ap length h)
as_many labels here ((n, items.Instruction i os) ∷ rows) ws h =
    let e = ap length h.1.1.0 in
    let r = as_many labels (here + 4) rows h.1.0 h.1.1.2 in
    omega arith
as_many labels here ((n, items.Plain z) ∷ rows) ws h =
    let e = ap length h.1.1.0 in
    let r = as_many labels (here + 4) rows h.1.0 h.1.1.2 in
    omega arith
as_many labels here ((n, item) ∷ rows) ws h = as_many labels here rows ws h

claims_kept : (cs : List (ℕ × Claim)) (ws : List ℕ) → AreMet cs ws → Kept (map (λ c. (c.0, Code c.1)) cs)
claims_kept [] ws h = tt
claims_kept (c ∷ cs) ws h = ((h.0, h.1.1.1), claims_kept cs h.1.0 h.1.1.2)

code_kept : (line : ℕ) (labels : Look) (rows : List Row) (ws : List ℕ) → 1 ≤ length ws → AreMet (code_claims labels 0 rows) ws → Kept (code_bounds line labels rows)
code_kept line labels rows ws some h = (let e = as_many labels 0 rows ws h in omega arith, claims_kept (code_claims labels 0 rows) ws h)

-- ---- data

record Split (zs rest : List ℤ) (bs : List ℕ) : Type 0 where
  pub first : List ℕ
  pub more : List ℕ
  pub whole : bs ≡ first ++ more
  pub said : zs ≡ map (λ b. pos b) first
  pub others : rest ≡ map (λ b. pos b) more

split : (zs rest : List ℤ) (bs : List ℕ) → zs ++ rest ≡ map (λ b. pos b) bs → Split zs rest bs
split [] rest bs e = record { first = []; more = bs; whole = refl; said = refl; others = e }
split (z ∷ zs) rest [] e = absurd cc
split (z ∷ zs) rest (b ∷ bs) e =
    let one : z ≡ pos b = cc in
    let others : zs ++ rest ≡ map (λ k. pos k) bs = cc in
    let s = split zs rest bs others in
    let said = s.said in
    record { first = b ∷ s.first; more = s.more; whole = ap (λ (l : List ℕ). b ∷ l) s.whole; said = cc; others = s.others }

apart : (xs ys : List ℕ) → AreBytes (xs ++ ys) → AreBytes xs × AreBytes ys
apart [] ys h = (tt, h)
apart (x ∷ xs) ys h = let r = apart xs ys h.1 in ((h.0, r.0), r.1)

length_said : (zs : List ℤ) (bs : List ℕ) → zs ≡ map (λ b. pos b) bs → length zs ≡ length bs
length_said [] [] e = refl
length_said [] (b ∷ bs) e = absurd cc
length_said (z ∷ zs) [] e = absurd cc
length_said (z ∷ zs) (b ∷ bs) e = let rest : zs ≡ map (λ k. pos k) bs = cc in let r = length_said zs bs rest in omega arith

data_kept : (z : ℤ) (memory before : ℕ) (rows : List NumberRow) (bs : List ℕ) → z ≡ pos memory → numbers rows ≡ map (λ b. pos b) bs → AreBytes bs → 16 + before + length bs ≤ memory → Kept (data_bounds z before rows)
data_kept z memory before [] bs e said small inside = tt
data_kept z memory before (row ∷ rows) bs e said small inside =
    let s = split row.1 (numbers rows) bs said in
    let parts = apart s.first s.more (subst AreBytes s.whole small) in
    let n = ap length s.whole ∙ length-append s.first s.more in
    let m = length_said row.1 s.first s.said in (
      (s.first, record { bytes = record { said = s.said; small = All-from_recursion (λ b. b < 256) s.first parts.0 }; inside = (memory, (e, omega arith)) }),
      data_kept z memory (before + length row.1) rows s.more e s.others parts.1 (omega arith),
    )

-- ---- marks

abbrev row_place : MarkRow → Side × ℤ × ℤ × ℤ
row_place r = (r.1, r.2, r.3, r.4)

says_mark : (row : MarkRow) (m : LineMark) → row_place row ≡ mark_place m → SaysMark row m
says_mark row m e = record {
  side = ap (λ (p : Side × ℤ × ℤ × ℤ). p.0) e;
  word = ap (λ (p : Side × ℤ × ℤ × ℤ). p.1) e;
  file = ap (λ (p : Side × ℤ × ℤ × ℤ). p.2) e;
  line = ap (λ (p : Side × ℤ × ℤ × ℤ). p.3) e;
}

-- the row before says the mark before
abbrev Last : Option MarkRow → Option LineMark → Type 0
Last None None = Unit {0}
Last (Some row) (Some m) = SaysMark row m
Last None (Some m) = ⊥
Last (Some row) None = ⊥

behind : (row : Option MarkRow) (last : Option LineMark) (m : LineMark) → Last row last → follows last m ≡ true → IsBehind row m
behind None None m h e = tt
behind None (Some last) m h e = absurd h
behind (Some row) None m h e = absurd h
behind (Some row) (Some last) m h e = (last, (h, e))

record Counted (h : ImageHeader) (counts : TextCounts) : Type 0 where
  pub words_a : h.words_a ≡ counts.words_a
  pub words_e : h.words_e ≡ counts.words_e
  pub names : h.names ≡ counts.names

below : (n m k : ℕ) → nat_lt n m ≡ true → m ≡ k → n < k
below n m k t e = let h : n < m = grind (arith, nat_tests) in omega arith

on_side : (h : ImageHeader) (counts : TextCounts) (side : Side) → Counted h counts → code_length h side ≡ words_on counts side
on_side h counts A c = c.words_a
on_side h counts E c = c.words_e

marks_kept : (h : ImageHeader) (counts : TextCounts) (before : ℕ) (row : Option MarkRow) (last : Option LineMark) (rows : List MarkRow) (ms : List LineMark) → Counted h counts → Last row last
    → map (λ r. row_place r) rows ≡ map (λ m. mark_place m) ms → are_lines h last ms ≡ true → AllByRecursion (λ m. m.line < 2 ^ 32) ms → before + length ms ≤ 262144 → Kept (mark_bounds counts before row rows)
marks_kept h counts before row last [] ms c l e good small few = tt
marks_kept h counts before row last (r ∷ rows) [] c l e good small few = absurd cc
marks_kept h counts before row last (r ∷ rows) (m ∷ ms) c l e good small few =
    let first : row_place r ≡ mark_place m = cc in
    let rest : map (λ x. row_place x) rows ≡ map (λ x. mark_place x) ms = cc in
    let says = says_mark r m first in
    let parts = and_parts (is_line h last m) (are_lines h (Some m) ms) good in
    let p = and_parts (follows last m) (nat_lt m.word (code_length h m.side) && (nat_lt m.file h.names && nat_lt 0 m.line)) parts.0 in
    let q = and_parts (nat_lt m.word (code_length h m.side)) (nat_lt m.file h.names && nat_lt 0 m.line) p.1 in
    let s = and_parts (nat_lt m.file h.names) (nat_lt 0 m.line) q.1 in
    let one : 1 ≤ m.line = (let t = s.1 in grind (arith, nat_tests)) in (
      (
        m,
        record {
          said = says;
          few = omega arith;
          behind = behind row last m l p.0;
          inside = below m.word (code_length h m.side) (words_on counts m.side) q.0 (on_side h counts m.side c);
          known = below m.file h.names counts.names s.0 c.names;
          one = one;
          fits = small.0;
        },
      ),
      marks_kept h counts (suc before) (Some r) (Some m) rows ms c says rest parts.1 small.1 (omega arith),
    )

-- ---- names

names_kept : (before : ℕ) (rows : List NumberRow) (names : List (List ℕ)) → map (λ r. r.1) rows ≡ map (λ name. map (λ b. pos b) name) names → AllByRecursion (λ name. (is_name name ≡ true) × AreBytes name) names → before + length names ≤ 1024 → Kept (name_bounds before rows)
names_kept before [] names e good few = tt
names_kept before (row ∷ rows) [] e good few = absurd cc
names_kept before (row ∷ rows) (name ∷ names) e good few =
    let first : row.1 ≡ map (λ b. pos b) name = cc in
    let rest : map (λ r. r.1) rows ≡ map (λ n. map (λ b. pos b) n) names = cc in (
      (name, record { said = record { bytes = record { said = first; small = All-from_recursion (λ b. b < 256) name good.0.1 }; text = good.0.0 }; few = omega arith }),
      names_kept (suc before) rows names rest good.1 (omega arith),
    )

-- ---- a whole text

entry_kept : (labels : Look) (rows : List Row) (t : JumpTarget) (n : ℕ) (ws : List ℕ) → IsAddress labels t n → IsIn entry_range n → n / 4 + 1 ≤ length ws → AreMet (code_claims labels 0 rows) ws → IsEntry labels (words rows) t n
entry_kept labels rows t n ws said range inside met =
    let e = as_many labels 0 rows ws met in
    record { said = said; range = range; inside = inr (omega arith) }

mapped : {X Y : Type 0} (f : X → Y) (xs : List X) → length (map f xs) ≡ length xs
mapped f [] = refl
mapped f (x ∷ xs) = let r = mapped f xs in omega arith

names_good : (names : List (List ℕ)) → list_all is_name names ≡ true → AllByRecursion (λ name. (is_name name ≡ true) × AreBytes name) names
names_good [] h = tt
names_good (name ∷ names) h =
    let parts = and_parts (is_name name) (list_all is_name names) h in
    let text = and_parts (is_in name_range (length name)) (is_utf8 name) parts.0 in
    ((parts.0, text_bytes name text.1), names_good names parts.1)

pub all_kept : (s : Sheet) (i : Image) → Says s (contents i) → Kept (bounds s)
all_kept s i h =
    let fits = i.fits in
    let head = fits.head in
    let a = as_many (labels_a s) 0 s.code_a i.code_a h.code_a in
    let e = as_many (labels_e s) 0 s.code_e i.code_e h.code_e in
    let words_a = head.words_a in
    let words_e = head.words_e in
    let some_a : 1 ≤ length i.code_a = omega (arith, words_a.0) in
    let some_e : 1 ≤ length i.code_e = omega (arith, words_e.0) in
    let named : length i.names ≡ length s.names = sym (mapped (λ name. map (λ b. pos b) name) i.names) ∙ sym (ap length h.names) ∙ mapped (λ (r : NumberRow). r.1) s.names in
    let content = head.content in
    let memory = head.memory in
    let marks = head.lines in
    let names = head.names in
    let first : Kept (head_bounds s) = (
      (i.budget, record { said = h.budget; ld = head.ld; al = head.al; sa = head.sa; sd = head.sd; ab = head.ab; eb = head.eb; cq = head.cq }),
      (
        (i.memory, (h.memory, head.memory)),
        (
          (i.calls, (h.calls, head.calls)),
          (
            (i.private_a, (h.private_a, head.private_a)),
            (
              (i.private_e, (h.private_e, head.private_e)),
              (
                (i.entry_a, entry_kept (labels_a s) s.code_a s.entry.1 i.entry_a i.code_a h.entry_a head.entry_a words_a.0 h.code_a),
                (
                  (i.entry_e, entry_kept (labels_e s) s.code_e s.entry.2 i.entry_e i.code_e h.entry_e head.entry_e words_e.0 h.code_e),
                  tt,
                ),
              ),
            ),
          ),
        ),
      ),
    ) in
    let inside : 16 + 0 + length i.content ≤ i.memory = omega (arith, content.1, memory.0) in
    let counted : Counted (header (contents i)) (counts_of s) = record { words_a = sym a; words_e = sym e; names = named } in
    let a_bounds = code_bounds s.begin_a (labels_a s) s.code_a in
    let e_bounds = code_bounds s.begin_e (labels_e s) s.code_e in
    let d_bounds = data_bounds s.memory.1 0 s.bytes in
    let m_bounds = mark_bounds (counts_of s) 0 None s.marks in
    let n_bounds = name_bounds 0 s.names in
    join (head_bounds s) (a_bounds ++ (e_bounds ++ (d_bounds ++ (m_bounds ++ n_bounds)))) first
    (join a_bounds (e_bounds ++ (d_bounds ++ (m_bounds ++ n_bounds))) (code_kept s.begin_a (labels_a s) s.code_a i.code_a some_a h.code_a)
    (join e_bounds (d_bounds ++ (m_bounds ++ n_bounds)) (code_kept s.begin_e (labels_e s) s.code_e i.code_e some_e h.code_e)
    (join d_bounds (m_bounds ++ n_bounds) (data_kept s.memory.1 i.memory 0 s.bytes i.content h.memory h.content (recursion_from_All (λ b. b < 256) i.content fits.content) inside)
    (join m_bounds n_bounds (marks_kept (header (contents i)) (counts_of s) 0 None None s.marks i.lines counted tt h.marks fits.lines (recursion_from_All (λ m. m.line < 2 ^ 32) i.lines fits.numbers) (omega (arith, marks.1)))
    (names_kept 0 s.names i.names h.names (names_good i.names fits.names) (omega (arith, names.1)))))))
