-- A file that was read: its tree and its limits.
use Rattle.std.proofs.Common.{◌≡◌, ℕ, List, [], ◌∷◌, map, length, Option, Some, None, refl, sym, ap, subst, ◌∙◌, arith}
use Rattle.std.specs.Prelude.{slice_get, All, Result, Ok, Err, IfErr}
use Rattle.std.proofs.lemmas.List.Elements.{All-map, All-weaker}
use Rattle.dae_tree.specs.Reading.{Reading, IsReading, IsNumbered}
use Rattle.dae_tree.specs.declared.statements.External.{External}
use Rattle.dae_tree.specs.Files.{FileContents, IsFile, IsNumberedMark}
use Rattle.dae_tree.specs.Depth.{first_deeper, first_too_long, nodes_file, greatest_depth}
use Rattle.dae_tree.specs.FileViews.{view_external, view_externals}
use Rattle.dae_tree.specs.Trees as tree
use Rattle.dae_tree.specs.Marks.{mark, marks, word_mark, sign_mark}
use Rattle.dae_tree.specs.declared.tokens.TokenKind.{TokenKind}
use Rattle.dae_tree.specs.declared.tokens.TokenKind.TheVariants as kinds
use Rattle.dae_tree.specs.declared.tokens.Token.{Token}
use Rattle.dae_tree.specs.declared.words.Keyword.{Keyword}
use Rattle.dae_tree.specs.declared.words.Keyword.TheVariants as keywords
use Rattle.dae_tree.specs.declared.signs.Sign.{Sign}
use Rattle.dae_tree.specs.declared.signs.Sign.TheVariants as signs
use Rattle.dae_base.specs.declared.Place.{Place}
use Rattle.dae_parse_grammar.specs.FirstPlaces.{or_else, firsts_external, firsts_file}
use Rattle.dae_parse_grammar.specs.Machine.{onto}
use Rattle.dae_parse_grammar.proofs.Laws.{unique, first_deep}
use Rattle.dae_parse_parts.specs.Shown.{firsts_list}
use Rattle.dae_parse_parts.proofs.Laws.{seen_at}
use Rattle.dae_parse_states.specs.declared.frames.FileSoFar.{FileSoFar}
use Rattle.dae_parse_states.specs.Frames.{ShowsFile}
use Rattle.dae_parse.specs.declared.error.ParseError.{ParseError}
use Rattle.dae_parse.specs.declared.error.ParseError.TheVariants as errors
use Rattle.dae_parse.specs.Parsed.{IsWithinLimits, IsFileOf, IsRefused, IsCause, AreAlike, Answers}
use Rattle.dae_parse.proofs.Stuck.{one_place}

firsts_files : (xs : List tree.External) (i : ℕ) → firsts_file xs i ≡ firsts_list firsts_external xs i
firsts_files [] i = refl
firsts_files (x ∷ xs) i = ap (or_else (firsts_external x i)) (firsts_files xs i)

views_files : (xs : List External) → view_externals xs ≡ map view_external xs
views_files [] = refl
views_files (x ∷ xs) = ap (λ ys. view_external x ∷ ys) (views_files xs)

-- the first node that is too deep stands at the depth behind the greatest
pub deep_at : (b : FileSoFar) (xs : List tree.External) → ShowsFile b xs → first_deeper greatest_depth (nodes_file (onto xs [])) ≡ slice_get b.read.depths.places.items 200
deep_at b xs f = first_deep (onto xs []) 200 ∙ firsts_files (onto xs []) 200 ∙ sym (f.read.holds.places.entries 200 (omega arith))

pub none_of : {A : Type 0} (o : Option A) → ((x : A) → o ≡ Some x → ⊥) → o ≡ None
none_of None h = refl
none_of (Some x) h = absurd (h x refl)

-- the trees in memory are those that were read
pub seen_file : (b : FileSoFar) (xs : List tree.External) → ShowsFile b xs → (list : _) → b.read.tree ≡ Some list → view_externals list.items ≡ onto xs []
seen_file b xs f list e = views_files list.items ∙ seen_at (λ list. map view_external list.items) b.read.tree (onto xs []) list f.read.seen e

some_none : {A : Type 0} (o : Option A) (x : A) → o ≡ Some x → o ≡ None → ⊥
some_none None x e d = cc
some_none (Some y) x e d = cc

-- a tree within the limits is found
pub found : (r : Reading) (result : Result FileContents ParseError) (file : List tree.External) → Answers r result → IsWithinLimits r.tokens file → IfErr result (λ e. e ≡ errors.Memory)
found r (Ok f) file a w = tt
found r (Err (errors.Syntax p)) file a w = absurd (a.0 file w.tree)
found r (Err (errors.TooDeep p)) file a w =
    let e = unique (marks r.tokens) a.0 file a.1 w.tree in
    absurd (some_none _ p (subst (λ (g : List tree.External). first_deeper greatest_depth (nodes_file g) ≡ Some p) e a.2) w.shallow)
found r (Err (errors.FunctionTooLong p)) file a w =
    let e = unique (marks r.tokens) a.0 file a.1 w.tree in
    absurd (some_none _ p (subst (λ (g : List tree.External). first_too_long g ≡ Some p) e a.3) w.short)
found r (Err errors.Memory) file a w = refl

-- ---- what a file promises

sign_numbered : (N L : ℕ) (s : Sign) (p : Place) → IsNumberedMark N L (sign_mark s p)
sign_numbered N L signs.RightParen p = tt
sign_numbered N L signs.RightBracket p = tt
sign_numbered N L signs.RightBrace p = tt
sign_numbered N L signs.Comma p = tt
sign_numbered N L signs.Colon p = tt
sign_numbered N L _ p = tt

word_numbered : (N L : ℕ) (k : Keyword) (p : Place) → IsNumberedMark N L (word_mark k p)
word_numbered N L keywords.Else p = tt
word_numbered N L _ p = tt

numbered_by : (N L : ℕ) (k : TokenKind) (t : Token) → t.kind ≡ k → IsNumbered N L k → IsNumberedMark N L (mark t)
numbered_by N L (kinds.Keyword k) t e h = rw e (word_numbered N L k t.place)
numbered_by N L (kinds.Sign s) t e h = rw e (sign_numbered N L s t.place)
numbered_by N L (kinds.Name n) t e h = rw e h
numbered_by N L (kinds.Constant c) t e h = rw e tt
numbered_by N L (kinds.Literal n) t e h = rw e h

marks_numbered : (N L : ℕ) (ts : List Token) → All (λ (t : Token). IsNumbered N L t.kind) ts → All (IsNumberedMark N L) (marks ts)
marks_numbered N L ts h = All-map (IsNumberedMark N L) mark ts (All-weaker (λ (t : Token). IsNumbered N L t.kind) (λ (t : Token). IsNumberedMark N L (mark t)) (λ t k. numbered_by N L t.kind t refl k) ts h)

pub is_file : (r : Reading) (f : FileContents) → IsReading r → IsWithinLimits r.tokens (view_externals f.externals) → f.names ≡ r.names → f.literals ≡ r.literals → IsFile f
is_file r f h w n l = record {
  grammar = w.tree.0;
  shallow = w.shallow;
  short = w.short;
  distinct = rw n h.distinct;
  numbers = rw (n, l, ← w.tree.1) (marks_numbered (length r.names) (length r.literals) r.tokens h.numbers);
  counted = rw (l, ← w.tree.1) h.counted;
}

-- ---- one answer

same_deep : (file other : List tree.External) (p q : Place) → file ≡ other → first_deeper greatest_depth (nodes_file file) ≡ Some p → first_deeper greatest_depth (nodes_file other) ≡ Some q → p ≡ q
same_deep file other p q e h k = cc

same_long : (file other : List tree.External) (p q : Place) → file ≡ other → first_too_long file ≡ Some p → first_too_long other ≡ Some q → p ≡ q
same_long file other p q e h k = cc

deep_or_not : (file other : List tree.External) (p : Place) → file ≡ other → first_deeper greatest_depth (nodes_file file) ≡ Some p → first_deeper greatest_depth (nodes_file other) ≡ None → ⊥
deep_or_not file other p e h k = cc

long_or_not : (file other : List tree.External) (p : Place) → file ≡ other → first_too_long file ≡ Some p → first_too_long other ≡ None → ⊥
long_or_not file other p e h k = cc

pub one_tree : (r : Reading) (f g : FileContents) → IsFileOf r f → IsFileOf r g → view_externals f.externals ≡ view_externals g.externals
one_tree r f g h k = unique (marks r.tokens) (view_externals f.externals) (view_externals g.externals) h.tree.tree k.tree.tree

pub none_refused : (r : Reading) (file : List tree.External) (e : ParseError) → IsWithinLimits r.tokens file → IsCause e → IsRefused r e → ⊥
none_refused r file (errors.Syntax p) h c k = k.0 file h.tree
none_refused r file (errors.TooDeep p) h c k = deep_or_not k.0 file p (unique (marks r.tokens) k.0 file k.1 h.tree) k.2 h.shallow
none_refused r file (errors.FunctionTooLong p) h c k = long_or_not k.0 file p (unique (marks r.tokens) k.0 file k.1 h.tree) k.3 h.short
none_refused r file errors.Memory h c k = absurd c

pub refused_once : (r : Reading) (d e : ParseError) → IsRefused r d → IsRefused r e → AreAlike d e
refused_once r errors.Memory e h k = tt
refused_once r (errors.Syntax p) errors.Memory h k = tt
refused_once r (errors.Syntax p) (errors.Syntax q) h k = one_place r p q h.1 k.1
refused_once r (errors.Syntax p) (errors.TooDeep q) h k = absurd (h.0 k.0 k.1)
refused_once r (errors.Syntax p) (errors.FunctionTooLong q) h k = absurd (h.0 k.0 k.1)
refused_once r (errors.TooDeep p) errors.Memory h k = tt
refused_once r (errors.TooDeep p) (errors.Syntax q) h k = absurd (k.0 h.0 h.1)
refused_once r (errors.TooDeep p) (errors.TooDeep q) h k = same_deep h.0 k.0 p q (unique (marks r.tokens) h.0 k.0 h.1 k.1) h.2 k.2
refused_once r (errors.TooDeep p) (errors.FunctionTooLong q) h k = absurd (deep_or_not h.0 k.0 p (unique (marks r.tokens) h.0 k.0 h.1 k.1) h.2 k.2)
refused_once r (errors.FunctionTooLong p) errors.Memory h k = tt
refused_once r (errors.FunctionTooLong p) (errors.Syntax q) h k = absurd (k.0 h.0 h.1)
refused_once r (errors.FunctionTooLong p) (errors.TooDeep q) h k = absurd (deep_or_not k.0 h.0 q (unique (marks r.tokens) k.0 h.0 k.1 h.1) k.2 h.2)
refused_once r (errors.FunctionTooLong p) (errors.FunctionTooLong q) h k = same_long h.0 k.0 p q (unique (marks r.tokens) h.0 k.0 h.1 k.1) h.3 k.3
