-- Rows in order are those of a sheet.
use Rattle.std.proofs.Common.{◌≡◌, ℕ, true, List, [], ◌∷◌, ◌++◌, map, ℤ, pos, Option, Some, None, IsTrue, refl, sym, ap, ◌∙◌}
use Rattle.std.specs.List.{list_all}
use Rattle.dae_base.specs.declared.Side.{Side}
use Rattle.dae_base.specs.declared.Side.TheVariants.{A, E}
use Rattle.dae_asm_lines.specs.Targets.{JumpTarget, Given}
use Rattle.dae_asm_lines.specs.Items as items
use Rattle.dae_asm_lines.specs.Items.{LineItem}
use Rattle.dae_asm_order.specs.declared.order.NextItem.{NextItem}
use Rattle.dae_asm_order.specs.declared.order.NextItem.TheVariants as places
use Rattle.dae_asm_order.specs.Sheets.{Row, Sheet, rows_of, is_code}
use Rattle.dae_asm_order.specs.Order.{Begin}
use Rattle.dae_asm_order.specs.Walking.{place_behind, or_none, place_after, is_last}

abbrev pub byte_row : ℕ × List ℤ → Row
byte_row b = (b.0, items.Bytes b.1)

abbrev pub mark_row : ℕ × Side × ℤ × ℤ × ℤ → Row
mark_row m = (m.0, items.Mark m.1 m.2 m.3 m.4)

abbrev pub name_row : ℕ × List ℤ → Row
name_row n = (n.0, items.Name n.1)

-- ---- from places to rows

pub record AreNames (rows : List Row) : Type 0 where
  pub names : List (ℕ × List ℤ)
  pub whole : rows ≡ map name_row names

from_names : (rows : List Row) (p : NextItem) → place_after places.Names rows ≡ Some p → AreNames rows
from_names [] p e = record { names = []; whole = refl }
from_names ((n, items.Name zs) ∷ rows) p e =
    let rest = from_names rows p e in
    record { names = (n, zs) ∷ rest.names; whole = ap (λ (rs : List Row). (n, items.Name zs) ∷ rs) rest.whole }
from_names (row ∷ rows) p e = absurd cc

pub record AreMarks (rows : List Row) : Type 0 where
  pub marks : List (ℕ × Side × ℤ × ℤ × ℤ)
  pub names : List (ℕ × List ℤ)
  pub whole : rows ≡ map mark_row marks ++ map name_row names

no_marks : (rows : List Row) → AreNames rows → AreMarks rows
no_marks rows found = record { marks = []; names = found.names; whole = found.whole }

from_marks : (rows : List Row) (p : NextItem) → place_after places.Marks rows ≡ Some p → AreMarks rows
from_marks [] p e = record { marks = []; names = []; whole = refl }
from_marks ((n, items.Mark s w f l) ∷ rows) p e =
    let rest = from_marks rows p e in
    record { marks = (n, s, w, f, l) ∷ rest.marks; names = rest.names; whole = ap (λ (rs : List Row). (n, items.Mark s w f l) ∷ rs) rest.whole }
from_marks ((n, items.Name zs) ∷ rows) p e = no_marks ((n, items.Name zs) ∷ rows) (from_names ((n, items.Name zs) ∷ rows) p e)
from_marks (row ∷ rows) p e = absurd cc

pub record AreBytes (rows : List Row) : Type 0 where
  pub bytes : List (ℕ × List ℤ)
  pub marks : List (ℕ × Side × ℤ × ℤ × ℤ)
  pub names : List (ℕ × List ℤ)
  pub whole : rows ≡ map byte_row bytes ++ (map mark_row marks ++ map name_row names)

no_bytes : (rows : List Row) → AreMarks rows → AreBytes rows
no_bytes rows found = record { bytes = []; marks = found.marks; names = found.names; whole = found.whole }

from_bytes : (rows : List Row) (p : NextItem) → place_after places.Bytes rows ≡ Some p → AreBytes rows
from_bytes [] p e = record { bytes = []; marks = []; names = []; whole = refl }
from_bytes ((n, items.Bytes zs) ∷ rows) p e =
    let rest = from_bytes rows p e in
    record { bytes = (n, zs) ∷ rest.bytes; marks = rest.marks; names = rest.names; whole = ap (λ (rs : List Row). (n, items.Bytes zs) ∷ rs) rest.whole }
from_bytes ((n, items.Mark s w f l) ∷ rows) p e = no_bytes ((n, items.Mark s w f l) ∷ rows) (from_marks ((n, items.Mark s w f l) ∷ rows) p e)
from_bytes ((n, items.Name zs) ∷ rows) p e = no_bytes ((n, items.Name zs) ∷ rows) (no_marks ((n, items.Name zs) ∷ rows) (from_names ((n, items.Name zs) ∷ rows) p e))
from_bytes (row ∷ rows) p e = absurd cc

-- the code of a side and what ends it
pub record IsCode (rows : List Row) (next : NextItem) (ends : LineItem) (p : NextItem) : Type 0 where
  pub code : List Row
  pub n : ℕ
  pub rest : List Row
  pub whole : rows ≡ code ++ ((n, ends) ∷ rest)
  pub all : IsTrue (list_all (λ r. is_code r.1) code)
  pub goes_on : place_after next rest ≡ Some p

one_more : (row : Row) (rows : List Row) (next : NextItem) (ends : LineItem) (p : NextItem) → is_code row.1 ≡ true → IsCode rows next ends p → IsCode (row ∷ rows) next ends p
one_more row rows next ends p is rest =
    let all = rest.all in
    record { code = row ∷ rest.code; n = rest.n; rest = rest.rest; whole = ap (λ (rs : List Row). row ∷ rs) rest.whole; all = rw is all; goes_on = rest.goes_on }

from_code_e : (rows : List Row) (p : NextItem) → is_last p ≡ true → place_after (places.Code E) rows ≡ Some p → IsCode rows places.Bytes items.Data p
from_code_e [] p last e = absurd cc
from_code_e ((n, items.Label name) ∷ rows) p last e = one_more (n, items.Label name) rows places.Bytes items.Data p refl (from_code_e rows p last e)
from_code_e ((n, items.Instruction i o) ∷ rows) p last e = one_more (n, items.Instruction i o) rows places.Bytes items.Data p refl (from_code_e rows p last e)
from_code_e ((n, items.Plain z) ∷ rows) p last e = one_more (n, items.Plain z) rows places.Bytes items.Data p refl (from_code_e rows p last e)
from_code_e ((n, items.Data) ∷ rows) p last e = record { code = []; n = n; rest = rows; whole = refl; all = refl; goes_on = e }
from_code_e (row ∷ rows) p last e = absurd cc

from_code_a : (rows : List Row) (p : NextItem) → is_last p ≡ true → place_after (places.Code A) rows ≡ Some p → IsCode rows (places.Code E) (items.Code E) p
from_code_a [] p last e = absurd cc
from_code_a ((n, items.Label name) ∷ rows) p last e = one_more (n, items.Label name) rows (places.Code E) (items.Code E) p refl (from_code_a rows p last e)
from_code_a ((n, items.Instruction i o) ∷ rows) p last e = one_more (n, items.Instruction i o) rows (places.Code E) (items.Code E) p refl (from_code_a rows p last e)
from_code_a ((n, items.Plain z) ∷ rows) p last e = one_more (n, items.Plain z) rows (places.Code E) (items.Code E) p refl (from_code_a rows p last e)
from_code_a ((n, items.Code E) ∷ rows) p last e = record { code = []; n = n; rest = rows; whole = refl; all = refl; goes_on = e }
from_code_a ((n, items.Code A) ∷ rows) p last e = absurd cc
from_code_a (row ∷ rows) p last e = absurd cc

pub record AreCodes (rows : List Row) : Type 0 where
  pub begin_a : ℕ
  pub code_a : List Row
  pub begin_e : ℕ
  pub code_e : List Row
  pub begin_data : ℕ
  pub tail : List Row
  pub content : AreBytes tail
  pub whole : rows ≡ (begin_a, items.Code A) ∷ (code_a ++ ((begin_e, items.Code E) ∷ (code_e ++ ((begin_data, items.Data) ∷ tail))))
  pub all_a : IsTrue (list_all (λ r. is_code r.1) code_a)
  pub all_e : IsTrue (list_all (λ r. is_code r.1) code_e)

from_codes : (rows : List Row) (p : NextItem) → is_last p ≡ true → place_after places.Codes rows ≡ Some p → AreCodes rows
from_codes [] p last e = absurd cc
from_codes ((n, items.Code A) ∷ rows) p last e =
    let a = from_code_a rows p last e in
    let e' = from_code_e a.rest p last a.goes_on in
    let d = from_bytes e'.rest p e'.goes_on in
    record {
      begin_a = n;
      code_a = a.code;
      begin_e = a.n;
      code_e = e'.code;
      begin_data = e'.n;
      tail = e'.rest;
      content = d;
      whole = ap (λ (rs : List Row). (n, items.Code A) ∷ rs) (a.whole ∙ ap (λ (rs : List Row). a.code ++ ((a.n, items.Code E) ∷ rs)) e'.whole);
      all_a = a.all;
      all_e = e'.all;
    }
from_codes ((n, items.Code E) ∷ rows) p last e = absurd cc
from_codes (row ∷ rows) p last e = absurd cc

-- rows of a sheet
pub record Sheeted (rows : List Row) : Type 0 where
  pub sheet : Sheet
  pub whole : rows ≡ rows_of sheet
  pub code_a : IsTrue (list_all (λ r. is_code r.1) sheet.code_a)
  pub code_e : IsTrue (list_all (λ r. is_code r.1) sheet.code_e)

-- a row of this form, and the place behind it
pub record Starts {X : Type 0} (rows : List Row) (p next : NextItem) (item : X → LineItem) : Type 0 where
  pub n : ℕ
  pub x : X
  pub rest : List Row
  pub whole : rows ≡ (n, item x) ∷ rest
  pub goes_on : place_after next rest ≡ Some p

abbrev budget_item : List ℤ → LineItem
budget_item ns = items.Budget ns

abbrev memory_item : ℤ → LineItem
memory_item z = items.Memory z

abbrev calls_item : ℤ → LineItem
calls_item z = items.Calls z

abbrev private_item : ℤ × ℤ → LineItem
private_item x = items.Private x.0 x.1

abbrev entry_item : JumpTarget × JumpTarget → LineItem
entry_item x = items.Entry x.0 x.1

from_budget : (rows : List Row) (p : NextItem) → is_last p ≡ true → place_after places.Budget rows ≡ Some p → Starts rows p places.Memory budget_item
from_budget [] p last e = absurd cc
from_budget ((n, items.Budget ns) ∷ rows) p last e = record { n = n; x = ns; rest = rows; whole = refl; goes_on = e }
from_budget (row ∷ rows) p last e = absurd cc

from_memory : (rows : List Row) (p : NextItem) → is_last p ≡ true → place_after places.Memory rows ≡ Some p → Starts rows p places.Calls memory_item
from_memory [] p last e = absurd cc
from_memory ((n, items.Memory z) ∷ rows) p last e = record { n = n; x = z; rest = rows; whole = refl; goes_on = e }
from_memory (row ∷ rows) p last e = absurd cc

from_calls : (rows : List Row) (p : NextItem) → is_last p ≡ true → place_after places.Calls rows ≡ Some p → Starts rows p places.Private calls_item
from_calls [] p last e = absurd cc
from_calls ((n, items.Calls z) ∷ rows) p last e = record { n = n; x = z; rest = rows; whole = refl; goes_on = e }
from_calls (row ∷ rows) p last e = absurd cc

from_private : (rows : List Row) (p : NextItem) → is_last p ≡ true → place_after places.Private rows ≡ Some p → Starts rows p places.Entry private_item
from_private [] p last e = absurd cc
from_private ((n, items.Private a b) ∷ rows) p last e = record { n = n; x = (a, b); rest = rows; whole = refl; goes_on = e }
from_private (row ∷ rows) p last e = absurd cc

from_entry : (rows : List Row) (p : NextItem) → is_last p ≡ true → place_after places.Entry rows ≡ Some p → Starts rows p places.Codes entry_item
from_entry [] p last e = absurd cc
from_entry ((n, items.Entry a b) ∷ rows) p last e = record { n = n; x = (a, b); rest = rows; whole = refl; goes_on = e }
from_entry (row ∷ rows) p last e = absurd cc

pub sheeted : (rows : List Row) (p : NextItem) → is_last p ≡ true → place_after places.Budget rows ≡ Some p → Sheeted rows
sheeted rows p last e =
    let b = from_budget rows p last e in
    let m = from_memory b.rest p last b.goes_on in
    let k = from_calls m.rest p last m.goes_on in
    let v = from_private k.rest p last k.goes_on in
    let t = from_entry v.rest p last v.goes_on in
    let c = from_codes t.rest p last t.goes_on in
    let d = c.content in
    let codes = c.whole ∙ ap (λ (rs : List Row). (c.begin_a, items.Code A) ∷ (c.code_a ++ ((c.begin_e, items.Code E) ∷ (c.code_e ++ ((c.begin_data, items.Data) ∷ rs))))) d.whole in
    let entry = t.whole ∙ ap (λ (rs : List Row). (t.n, entry_item t.x) ∷ rs) codes in
    let private = v.whole ∙ ap (λ (rs : List Row). (v.n, private_item v.x) ∷ rs) entry in
    let calls = k.whole ∙ ap (λ (rs : List Row). (k.n, calls_item k.x) ∷ rs) private in
    let memory = m.whole ∙ ap (λ (rs : List Row). (m.n, memory_item m.x) ∷ rs) calls in
    let all = b.whole ∙ ap (λ (rs : List Row). (b.n, budget_item b.x) ∷ rs) memory in
    record {
      sheet = record {
        budget = (b.n, b.x);
        memory = (m.n, m.x);
        calls = (k.n, k.x);
        private = (v.n, v.x.0, v.x.1);
        entry = (t.n, t.x.0, t.x.1);
        begin_a = c.begin_a;
        code_a = c.code_a;
        begin_e = c.begin_e;
        code_e = c.code_e;
        begin_data = c.begin_data;
        bytes = d.bytes;
        marks = d.marks;
        names = d.names;
      };
      whole = all;
      code_a = c.all_a;
      code_e = c.all_e;
    }

-- ---- rows that may follow

by_place : (o : Option NextItem) (xs ys : List Row) → ((q : NextItem) → place_after q (xs ++ ys) ≡ or_none (place_after q xs) (λ r. place_after r ys)) → or_none o (λ q. place_after q (xs ++ ys)) ≡ or_none (or_none o (λ q. place_after q xs)) (λ r. place_after r ys)
by_place None xs ys h = refl
by_place (Some q) xs ys h = h q

pub place_join : (p : NextItem) (xs ys : List Row) → place_after p (xs ++ ys) ≡ or_none (place_after p xs) (λ r. place_after r ys)
place_join p [] ys = refl
place_join p (x ∷ xs) ys = by_place (place_behind p x.1) xs ys (λ q. place_join q xs ys)

abbrev to_data : List Row
to_data = (0, items.Data) ∷ []

abbrev to_code_e : List Row
to_code_e = (0, items.Code E) ∷ to_data

abbrev to_codes : List Row
to_codes = (0, items.Code A) ∷ to_code_e

abbrev to_entry : List Row
to_entry = (0, items.Entry (Given (pos 0)) (Given (pos 0))) ∷ to_codes

abbrev to_private : List Row
to_private = (0, items.Private (pos 0) (pos 0)) ∷ to_entry

abbrev to_calls : List Row
to_calls = (0, items.Calls (pos 0)) ∷ to_private

abbrev to_memory : List Row
to_memory = (0, items.Memory (pos 0)) ∷ to_calls

record Completes (p : NextItem) : Type 0 where
  pub rows : List Row
  pub end : NextItem
  pub ends : place_after p rows ≡ Some end
  pub last : is_last end ≡ true

completes : (p : NextItem) → Completes p
completes places.Budget = record { rows = (0, items.Budget []) ∷ to_memory; end = places.Bytes; ends = refl; last = refl }
completes places.Memory = record { rows = to_memory; end = places.Bytes; ends = refl; last = refl }
completes places.Calls = record { rows = to_calls; end = places.Bytes; ends = refl; last = refl }
completes places.Private = record { rows = to_private; end = places.Bytes; ends = refl; last = refl }
completes places.Entry = record { rows = to_entry; end = places.Bytes; ends = refl; last = refl }
completes places.Codes = record { rows = to_codes; end = places.Bytes; ends = refl; last = refl }
completes (places.Code A) = record { rows = to_code_e; end = places.Bytes; ends = refl; last = refl }
completes (places.Code E) = record { rows = to_data; end = places.Bytes; ends = refl; last = refl }
completes places.Bytes = record { rows = []; end = places.Bytes; ends = refl; last = refl }
completes places.Marks = record { rows = []; end = places.Marks; ends = refl; last = refl }
completes places.Names = record { rows = []; end = places.Names; ends = refl; last = refl }

pub begins : (rows : List Row) (p : NextItem) → place_after places.Budget rows ≡ Some p → Begin rows
begins rows p e =
    let c = completes p in
    let joined = place_join places.Budget rows c.rows ∙ ap (λ (o : Option NextItem). or_none o (λ r. place_after r c.rows)) e ∙ c.ends in
    let s = sheeted (rows ++ c.rows) c.end c.last joined in
    record { sheet = s.sheet; behind = c.rows; whole = s.whole; code_a = s.code_a; code_e = s.code_e }

-- ---- from a sheet to places

pub record Ends (p : NextItem) (rows : List Row) : Type 0 where
  pub end : NextItem
  pub ends : place_after p rows ≡ Some end
  pub last : is_last end ≡ true

names_end : (names : List (ℕ × List ℤ)) → Ends places.Names (map name_row names)
names_end [] = record { end = places.Names; ends = refl; last = refl }
names_end (n ∷ names) = let rest = names_end names in record { end = rest.end; ends = rest.ends; last = rest.last }

marks_end : (marks : List (ℕ × Side × ℤ × ℤ × ℤ)) (names : List (ℕ × List ℤ)) → Ends places.Marks (map mark_row marks ++ map name_row names)
marks_end [] [] = record { end = places.Marks; ends = refl; last = refl }
marks_end [] (n ∷ names) = let rest = names_end names in record { end = rest.end; ends = rest.ends; last = rest.last }
marks_end (m ∷ marks) names = let rest = marks_end marks names in record { end = rest.end; ends = rest.ends; last = rest.last }

bytes_end : (bytes : List (ℕ × List ℤ)) (marks : List (ℕ × Side × ℤ × ℤ × ℤ)) (names : List (ℕ × List ℤ)) → Ends places.Bytes (map byte_row bytes ++ (map mark_row marks ++ map name_row names))
bytes_end [] [] [] = record { end = places.Bytes; ends = refl; last = refl }
bytes_end [] [] (n ∷ names) = let rest = names_end names in record { end = rest.end; ends = rest.ends; last = rest.last }
bytes_end [] (m ∷ marks) names = let rest = marks_end marks names in record { end = rest.end; ends = rest.ends; last = rest.last }
bytes_end (b ∷ bytes) marks names = let rest = bytes_end bytes marks names in record { end = rest.end; ends = rest.ends; last = rest.last }

code_kept : (side : Side) (code rest : List Row) → list_all (λ r. is_code r.1) code ≡ true → place_after (places.Code side) (code ++ rest) ≡ place_after (places.Code side) rest
code_kept side [] rest all = refl
code_kept side ((n, items.Label name) ∷ code) rest all = code_kept side code rest all
code_kept side ((n, items.Instruction i o) ∷ code) rest all = code_kept side code rest all
code_kept side ((n, items.Plain z) ∷ code) rest all = code_kept side code rest all
code_kept side (row ∷ code) rest all = absurd cc

pub sheet_ends : (s : Sheet) → IsTrue (list_all (λ r. is_code r.1) s.code_a) → IsTrue (list_all (λ r. is_code r.1) s.code_e) → Ends places.Budget (rows_of s)
sheet_ends s all_a all_e =
    let d = bytes_end s.bytes s.marks s.names in
    let content : List Row = map byte_row s.bytes ++ (map mark_row s.marks ++ map name_row s.names) in
    let e = code_kept E s.code_e ((s.begin_data, items.Data) ∷ content) all_e in
    let a = code_kept A s.code_a ((s.begin_e, items.Code E) ∷ (s.code_e ++ ((s.begin_data, items.Data) ∷ content))) all_a in
    record { end = d.end; ends = a ∙ e ∙ d.ends; last = d.last }

some_place : (o : Option NextItem) (ys : List Row) (q : NextItem) → or_none o (λ r. place_after r ys) ≡ Some q → (p : NextItem) × (o ≡ Some p)
some_place None ys q e = absurd cc
some_place (Some p) ys q e = (p, refl)

pub begun : (rows : List Row) → Begin rows → (p : NextItem) × (place_after places.Budget rows ≡ Some p)
begun rows b =
    let s = sheet_ends b.sheet b.code_a b.code_e in
    some_place (place_after places.Budget rows) b.behind s.end (sym (place_join places.Budget rows b.behind) ∙ ap (place_after places.Budget) b.whole ∙ s.ends)

-- rows of a sheet end at a last place
pub is_sheet_last : (rows : List Row) (p : NextItem) (s : Sheet) → rows ≡ rows_of s → IsTrue (list_all (λ r. is_code r.1) s.code_a) → IsTrue (list_all (λ r. is_code r.1) s.code_e) → place_after places.Budget rows ≡ Some p → is_last p ≡ true
is_sheet_last rows p s whole all_a all_e e =
    let t = sheet_ends s all_a all_e in
    let there : place_after places.Budget rows ≡ Some t.end = ap (place_after places.Budget) whole ∙ t.ends in
    let same : t.end ≡ p = by_some t.end p (sym there ∙ e) in
    let last = t.last in
    ap is_last (sym same) ∙ last
  where
    by_some : (x y : NextItem) → Some x ≡ Some y → x ≡ y
    by_some x y h = cc
