-- The spans of pieces and tokens are in order.
use Rattle.std.proofs.Common.{◌≡◌, ℕ, zero, suc, ◌<◌, ◌≤◌, Bool, true, false, if◌then◌else◌, List, [], ◌∷◌, ◌++◌, map, refl, ap, sym, ◌∙◌, subst, arith, append_assoc, Option, Some, None, inl, inr, ◌⊎◌}
use Rattle.std.specs.List.{flat_map}
use Rattle.std.specs.Prelude.{codes}
use Rattle.std.specs.Str.{bytes_eq}
use Rattle.dae_base.specs.declared.Place.{Place}
use Rattle.dae_tree.specs.declared.pieces.PieceKind.{PieceKind}
use Rattle.dae_tree.specs.declared.pieces.PieceKind.TheVariants as kinds
use Rattle.dae_tree.specs.declared.headers.Header.{Header}
use Rattle.dae_tree.specs.declared.faults.LexError.{LexError}
use Rattle.dae_tree.specs.Pieces.{Cut}
use Rattle.dae_tree.specs.Replacing.{Definition, TextItem, taken, replaced, refused, TokenRead, items_by, items_of, replacement, expand}
use Rattle.dae_tree.specs.Directives.{DirectiveLine, text, is_hash_kind, is_end_kind, lines_of, with_first, from_mark, stray, stray_by, first_fault, begins_call, defined_unless, definition_in, header_in, alone, inclusion_in, directive_in, line_in, line_of, known_as, conflict_items, definition_items, with_definition, replaced_text, line_items, macros_after, replaced_lines}
use Rattle.dae_tree.specs.Tokens.{literal_of, before, before_by, joined_literals}
use Rattle.dae_lex_scan.specs.Cuts.{FollowEachOther}
use Rattle.dae_lex.specs.Whole.{span, origins, SpansFrom}

earlier : (s e t f : ℕ) (xs : List (ℕ × ℕ)) (b : ℕ) → t ≤ s → f ≤ e → SpansFrom s e xs b → SpansFrom t f xs b
earlier s e t f [] b h k w = tt
earlier s e t f (x ∷ xs) b h k w = let u = w.0 in let v = w.1 in (omega arith, omega arith, w.2, w.3, w.4)

-- the items of one piece have its span
abbrev AllSame : ℕ × ℕ → List (ℕ × ℕ) → Type 0
AllSame x [] = Unit {0}
AllSame x (y ∷ ys) = (y ≡ x) × AllSame x ys

same_append : (x : ℕ × ℕ) (xs ys : List (ℕ × ℕ)) → AllSame x xs → AllSame x ys → AllSame x (xs ++ ys)
same_append x [] ys h k = k
same_append x (y ∷ xs) ys h k = (h.0, same_append x xs ys h.1 k)

origins_append : (xs ys : List TextItem) → origins (xs ++ ys) ≡ origins xs ++ origins ys
origins_append [] ys = refl
origins_append (taken m o ∷ xs) ys = ap (λ zs. (o.start, o.end) ∷ zs) (origins_append xs ys)
origins_append (replaced o ∷ xs) ys = origins_append xs ys
origins_append (refused e ∷ xs) ys = origins_append xs ys

items_same : (kind : PieceKind) (p o : Cut) → AllSame (o.start, o.end) (origins (items_by kind p o))
items_same kinds.Blank p o = tt
items_same kinds.LineEnd p o = tt
items_same kinds.Word p o = (refl, tt)
items_same (kinds.Constant c) p o = (refl, tt)
items_same kinds.Text p o = (refl, tt)
items_same (kinds.Mark m) p o = (refl, tt)
items_same kinds.Hash p o = tt
items_same (kinds.Late c) p o = (refl, tt)
items_same (kinds.Faulty f) p o = tt
items_same (kinds.FaultyComment f) p o = tt

flat_same : (x : ℕ × ℕ) (f : Cut → List TextItem) (ps : List Cut) → ((p : Cut) → AllSame x (origins (f p))) → AllSame x (origins (flat_map f ps))
flat_same x f [] h = tt
flat_same x f (p ∷ ps) h =
    subst (AllSame x) (sym (origins_append (f p) (flat_map f ps))) (same_append x (origins (f p)) (origins (flat_map f ps)) (h p) (flat_same x f ps h))

expand_none_same : (r : Option (List Cut)) (error : LexError) (p o : Cut)
    → AllSame (o.start, o.end) (origins (elim r [ None ↦ items_of p o | Some body ↦ refused error ∷ [] ]))
expand_none_same None error p o = items_same p.kind p o
expand_none_same (Some body) error p o = tt

expand_some_same : (r : Option (List Cut)) (f : Cut → List TextItem) (p o : Cut) → ((q : Cut) → AllSame (o.start, o.end) (origins (f q)))
    → AllSame (o.start, o.end) (origins (elim r [ None ↦ items_of p o | Some body ↦ replaced o ∷ flat_map f body ]))
expand_some_same None f p o h = items_same p.kind p o
expand_some_same (Some body) f p o h = flat_same (o.start, o.end) f body h

expand_same : (n : ℕ) (macros : List Definition) (names : List (List ℕ)) (o p : Cut) → AllSame (o.start, o.end) (origins (expand n macros names o p))
expand_same zero macros names o p = expand_none_same (replacement macros names p) _ p o
expand_same (suc n) macros names o p =
    expand_some_same (replacement macros names p) (expand n macros (names ++ p.spelling ∷ []) o) p o (λ q. expand_same n macros (names ++ p.spelling ∷ []) o q)

steps_same : (x : ℕ × ℕ) (xs ys : List (ℕ × ℕ)) (s e b : ℕ) → AllSame x xs → s ≤ x.0 → e ≤ x.1 → x.0 < x.1 → x.1 ≤ b → SpansFrom x.0 x.1 ys b → SpansFrom s e (xs ++ ys) b
steps_same x [] ys s e b a h k l m rest = earlier x.0 x.1 s e ys b h k rest
steps_same x (y ∷ xs) ys s e b a h k l m rest =
    subst (λ (z : ℕ × ℕ). SpansFrom s e (z ∷ (xs ++ ys)) b) (sym a.0)
    (h, k, l, m, steps_same x xs ys x.0 x.1 b a.1 (omega arith) (omega arith) l m rest)

-- pieces
follow_end : (e : ℕ) (ps : List Cut) (b : ℕ) → FollowEachOther e ps b → e ≤ b
follow_end e [] b h = h
follow_end e (p ∷ ps) b h = let u = h.0 in let v = h.1 in omega (arith, follow_end p.end ps b h.2)

follow_earlier : (e f : ℕ) (ps : List Cut) (b : ℕ) → f ≤ e → FollowEachOther e ps b → FollowEachOther f ps b
follow_earlier e f [] b k h = omega arith
follow_earlier e f (p ∷ ps) b k h = let u = h.0 in (omega arith, h.1, h.2)

follow_skip : (e : ℕ) (ps qs : List Cut) (b : ℕ) → FollowEachOther e (ps ++ qs) b → FollowEachOther e qs b
follow_skip e [] qs b h = h
follow_skip e (p ∷ ps) qs b h =
    let u = h.0 in let v = h.1 in follow_earlier p.end e qs b (omega arith) (follow_skip p.end ps qs b h.2)

-- the pieces of all lines
abbrev pub concat : List (List Cut) → List Cut
concat [] = []
concat (l ∷ ls) = l ++ concat ls

pub concat_first : (p : Cut) (ls : List (List Cut)) → concat (with_first p ls) ≡ p ∷ concat ls
concat_first p [] = refl
concat_first p (l ∷ ls) = refl

follow_line : (p : Cut) (ls : List (List Cut)) (ends : Bool) (e b : ℕ) → e ≤ p.start → p.start < p.end → FollowEachOther p.end (concat ls) b
    → FollowEachOther e (concat (if ends then [] ∷ ls else with_first p ls)) b
follow_line p ls true e b h k rest = follow_earlier p.end e (concat ls) b (omega arith) rest
follow_line p ls false e b h k rest = subst (λ qs. FollowEachOther e qs b) (sym (concat_first p ls)) (h, k, rest)

follow_lines : (ps : List Cut) (e b : ℕ) → FollowEachOther e ps b → FollowEachOther e (concat (lines_of ps)) b
follow_lines [] e b h = h
follow_lines (p ∷ ps) e b h = follow_line p (lines_of ps) (is_end_kind p.kind) e b h.0 h.1 (follow_lines ps p.end b h.2)

-- a line of text, before what the other lines give
text_steps : (n : ℕ) (macros : List Definition) (ps rest : List Cut) (ys : List (ℕ × ℕ)) (s e b : ℕ) → FollowEachOther e (ps ++ rest) b → s ≤ e
    → ((t f : ℕ) → FollowEachOther f rest b → t ≤ f → SpansFrom t f ys b)
    → SpansFrom s e (origins (replaced_text n macros ps) ++ ys) b
text_steps n macros [] rest ys s e b h k more = more s e h k
text_steps n macros (p ∷ ps) rest ys s e b h k more =
    let u = h.0 in
    let v = h.1 in
    let end = follow_end p.end (ps ++ rest) b h.2 in
    let later = text_steps n macros ps rest ys p.start p.end b h.2 (omega arith) more in
    let here = steps_same (p.start, p.end) (origins (expand n macros [] p p)) (origins (replaced_text n macros ps) ++ ys) s e b
    (expand_same n macros [] p p) (omega arith) (omega arith) v end later in
    subst (λ xs. SpansFrom s e xs b)
    (sym (append_assoc (origins (expand n macros [] p p)) (origins (replaced_text n macros ps)) ys)
    ∙ ap (λ xs. xs ++ ys) (sym (origins_append (expand n macros [] p p) (replaced_text n macros ps)))) here

-- a directive gives no tokens
module _ (n : ℕ) (macros : List Definition) where
  abbrev Silent : DirectiveLine → Type 0
  Silent line = origins (line_items n macros line) ≡ []

  silent_conflict : (known : Option Bool) (hash : Place) → origins (conflict_items known hash) ≡ []
  silent_conflict None hash = refl
  silent_conflict (Some true) hash = refl
  silent_conflict (Some false) hash = refl

  silent_if : (b : Bool) (x y : DirectiveLine) → Silent x → Silent y → Silent (if b then x else y)
  silent_if true x y h k = h
  silent_if false x y h k = k

  silent_stray : (kind : PieceKind) (p : Cut) (hash : Place) → Silent (stray_by kind p hash)
  silent_stray kinds.Blank p hash = refl
  silent_stray kinds.LineEnd p hash = refl
  silent_stray kinds.Word p hash = refl
  silent_stray (kinds.Constant c) p hash = refl
  silent_stray kinds.Text p hash = refl
  silent_stray (kinds.Mark m) p hash = refl
  silent_stray kinds.Hash p hash = refl
  silent_stray (kinds.Late c) p hash = refl
  silent_stray (kinds.Faulty f) p hash = refl
  silent_stray (kinds.FaultyComment f) p hash = refl

silent_definitions : (hash : Place) (macros ds : List Definition) → origins (definition_items hash macros ds) ≡ []
silent_definitions hash macros [] = refl
silent_definitions hash macros (d ∷ ds) =
    origins_append (conflict_items (known_as macros d) hash) (definition_items hash (with_definition macros d) ds)
    ∙ ap (λ xs. xs ++ origins (definition_items hash (with_definition macros d) ds)) (silent_conflict 0 macros (known_as macros d) hash)
    ∙ silent_definitions hash (with_definition macros d) ds

module _ (n : ℕ) (macros : List Definition) (hash : Place) where
  silent_defined : (fault : Option LexError) (d : Definition) → Silent n macros (defined_unless fault hash d)
  silent_defined None d = silent_definitions hash macros (d ∷ [])
  silent_defined (Some e) d = refl

  silent_definition : (ps : List Cut) → Silent n macros (definition_in hash ps)
  silent_definition [] = refl
  silent_definition (p ∷ ps) =
      silent_if n macros _ _ _ (silent_stray n macros p.kind p hash)
      (silent_if n macros (begins_call ps) _ _ refl (silent_defined (first_fault ps) _))

  silent_alone : (header : Header) (ps : List Cut) → Silent n macros (alone hash header ps)
  silent_alone header [] = silent_definitions hash macros _
  silent_alone header (p ∷ ps) = silent_stray n macros p.kind p hash

  silent_found : (p : Cut) (found : Option (Header × List Cut))
      → Silent n macros (elim found [ None ↦ stray hash p | Some f ↦ alone hash f.0 (from_mark f.1) ])
  silent_found p None = silent_stray n macros p.kind p hash
  silent_found p (Some f) = silent_alone f.0 (from_mark f.1)

  silent_inclusion : (ps : List Cut) → Silent n macros (inclusion_in hash ps)
  silent_inclusion [] = refl
  silent_inclusion (p ∷ ps) = silent_found p (header_in (p ∷ ps))

  silent_directive : (ps : List Cut) → Silent n macros (directive_in hash ps)
  silent_directive [] = refl
  silent_directive (p ∷ ps) =
      let last = if bytes_eq p.spelling (codes "include") then inclusion_in hash (from_mark ps) else stray hash p in
      silent_if n macros (bytes_eq p.spelling (codes "define")) (definition_in hash (from_mark ps)) last (silent_definition (from_mark ps))
      (silent_if n macros (bytes_eq p.spelling (codes "include")) (inclusion_in hash (from_mark ps)) (stray hash p)
      (silent_inclusion (from_mark ps)) (silent_stray n macros p.kind p hash))

-- a line is text or gives no tokens
hash_or_text : (n : ℕ) (macros : List Definition) (all : List Cut) (b : Bool) (line : DirectiveLine) → Silent n macros line
    → (origins (line_items n macros (if b then line else text all)) ≡ []) ⊎ (origins (line_items n macros (if b then line else text all)) ≡ origins (replaced_text n macros all))
hash_or_text n macros all true line h = inl h
hash_or_text n macros all false line h = inr refl

line_origins : (n : ℕ) (macros : List Definition) (all qs : List Cut)
    → (origins (line_items n macros (line_in all qs)) ≡ []) ⊎ (origins (line_items n macros (line_in all qs)) ≡ origins (replaced_text n macros all))
line_origins n macros all [] = inl refl
line_origins n macros all (p ∷ ps) =
    hash_or_text n macros all (is_hash_kind p.kind) (directive_in p.place (from_mark ps)) (silent_directive n macros p.place (from_mark ps))

lines_steps : (n : ℕ) (macros : List Definition) (ls : List (List Cut)) (s e b : ℕ) → FollowEachOther e (concat ls) b → s ≤ e
    → SpansFrom s e (origins (replaced_lines n macros ls)) b
lines_steps n macros [] s e b h k = tt
lines_steps n macros (l ∷ ls) s e b h k =
    let rest = replaced_lines n (macros_after macros (line_of l)) ls in
    let more = λ (t f : ℕ) (g : FollowEachOther f (concat ls) b) (m : t ≤ f). lines_steps n (macros_after macros (line_of l)) ls t f b g m in
    let split = sym (origins_append (line_items n macros (line_of l)) rest) in
    elim (line_origins n macros l (from_mark l)) [
      | inl none ↦
          subst (λ xs. SpansFrom s e xs b) (ap (λ xs. xs ++ origins rest) (sym none) ∙ split) (more s e (follow_skip e l (concat ls) b h) k)
      | inr some ↦
          subst (λ xs. SpansFrom s e xs b) (ap (λ xs. xs ++ origins rest) (sym some) ∙ split) (text_steps n macros l (concat ls) (origins rest) s e b h k more)
    ]

pub pieces_steps : (n : ℕ) (ps : List Cut) (b : ℕ) → FollowEachOther 0 ps b → SpansFrom 0 0 (origins (replaced_lines n [] (lines_of ps))) b
pieces_steps n ps b h = lines_steps n [] (lines_of ps) 0 0 b (follow_lines ps 0 b h) (omega arith)

-- joined literals
before_steps : (t u : TokenRead) (us : List TokenRead) (x y : Option (List ℕ)) (s e b : ℕ) → s ≤ t.start → e ≤ t.end → t.start < t.end → t.end ≤ b
    → SpansFrom t.start t.end (map span (u ∷ us)) b → SpansFrom s e (map span (before_by x y t u us)) b
before_steps t u us None y s e b h k l m w = (h, k, l, m, w)
before_steps t u us (Some x) None s e b h k l m w = (h, k, l, m, w)
before_steps t u us (Some x) (Some y) s e b h k l m w =
    let f = w.0 in
    let g = w.1 in
    (h, omega arith, omega arith, w.3, earlier u.start u.end t.start u.end (map span us) b f (omega arith) w.4)

before_all_steps : (t : TokenRead) (us : List TokenRead) (s e b : ℕ) → s ≤ t.start → e ≤ t.end → t.start < t.end → t.end ≤ b
    → SpansFrom t.start t.end (map span us) b → SpansFrom s e (map span (before t us)) b
before_all_steps t [] s e b h k l m w = (h, k, l, m, tt)
before_all_steps t (u ∷ us) s e b h k l m w = before_steps t u us (literal_of t.meaning) (literal_of u.meaning) s e b h k l m w

pub joined_steps : (ts : List TokenRead) (s e b : ℕ) → SpansFrom s e (map span ts) b → SpansFrom s e (map span (joined_literals ts)) b
joined_steps [] s e b h = tt
joined_steps (t ∷ ts) s e b h = before_all_steps t (joined_literals ts) s e b h.0 h.1 h.2 h.3 (joined_steps ts t.start t.end b h.4)
