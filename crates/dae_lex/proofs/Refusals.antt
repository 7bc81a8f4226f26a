-- The first refusal of a text's list has the least place.
use Rattle.std.proofs.Common.{◌≡◌, ℕ, zero, suc, ◌-◌, ◌⊎◌, inl, inr, Bool, true, false, nat_le, if◌then◌else◌, List, [], ◌∷◌, ◌++◌, map, refl, ap, sym, ◌∙◌, subst, append_assoc, Option, Some, None, Result, Ok, Err}
use Rattle.std.specs.List.{flat_map, AllByRecursion}
use Rattle.std.specs.Prelude.{codes}
use Rattle.std.specs.Str.{bytes_eq}
use Rattle.std.proofs.lemmas.List.Elements.{All-from_recursion}
use Rattle.dae_base.specs.declared.Place.{Place}
use Rattle.dae_tree.specs.declared.pieces.PieceKind.{PieceKind}
use Rattle.dae_tree.specs.declared.pieces.PieceKind.TheVariants as kinds
use Rattle.dae_tree.specs.declared.headers.Header.{Header}
use Rattle.dae_tree.specs.declared.tokens.Room.{Room}
use Rattle.dae_tree.specs.declared.faults.TextFault.{TextFault}
use Rattle.dae_tree.specs.declared.faults.TextFault.TheVariants as faults
use Rattle.dae_tree.specs.declared.faults.Construct.{Construct}
use Rattle.dae_tree.specs.declared.faults.Construct.TheVariants.{Directive, FunctionMacro, HashInMacro, LiteralsTooLong}
use Rattle.dae_tree.specs.declared.faults.LexError.{LexError}
use Rattle.dae_tree.specs.declared.faults.LexError.TheVariants.{BadByte, TooManyTokens, Refused, Memory}
use Rattle.dae_tree.specs.Tables.{header_of}
use Rattle.dae_tree.specs.Pieces.{Cut}
use Rattle.dae_tree.specs.Replacing.{Meaning, Definition, TextItem, taken, replaced, refused, TokenRead, Tested, token, failed, tested_one, error_at, items_by, items_of, replacement, expand, within_replacements, within_tokens, tested, literal_length, within_literals, before_all, outcome}
use Rattle.dae_tree.specs.Directives.{DirectiveLine, text, refuse, define, include, header_definitions, is_hash_kind, is_blank_kind, is_end_kind, lines_of, with_first, from_mark, stray, stray_by, body_fault_by, first_fault, begins_call, defined_unless, definition_in, header_in, alone, inclusion_in, directive_in, line_in, line_of, known_as, conflict_items, definition_items, with_definition, replaced_text, line_items, macros_after, replaced_lines}
use Rattle.dae_tree.specs.Tokens.{tested_of}
use Rattle.dae_tree.specs.Order.{IsNoLater, place_of_error, refusals, HasLeastPlace}
use Rattle.dae_lex_scan.specs.Cuts.{PlacesFrom}
use Rattle.dae_lex.specs.Settling.{Fails}
use Rattle.dae_lex_scan.proofs.Laws.{same_place, later, places_earlier, places_all}
use Rattle.dae_lex.proofs.Spans.{concat, concat_first}

-- the places of items
abbrev item_places : List TextItem → List Place
item_places [] = []
item_places (taken m o ∷ is) = o.place ∷ item_places is
item_places (replaced o ∷ is) = o.place ∷ item_places is
item_places (refused e ∷ is) = place_of_error e ++ item_places is

items_append : (xs ys : List TextItem) → item_places (xs ++ ys) ≡ item_places xs ++ item_places ys
items_append [] ys = refl
items_append (taken m o ∷ xs) ys = ap (λ zs. o.place ∷ zs) (items_append xs ys)
items_append (replaced o ∷ xs) ys = ap (λ zs. o.place ∷ zs) (items_append xs ys)
items_append (refused e ∷ xs) ys =
    ap (λ zs. place_of_error e ++ zs) (items_append xs ys) ∙ sym (append_assoc (place_of_error e) (item_places xs) (item_places ys))

-- all places are this one
abbrev AllAt : Place → List Place → Type 0
AllAt r [] = Unit {0}
AllAt r (p ∷ ps) = (p ≡ r) × AllAt r ps

at_append : (r : Place) (xs ys : List Place) → AllAt r xs → AllAt r ys → AllAt r (xs ++ ys)
at_append r [] ys h k = k
at_append r (x ∷ xs) ys h k = (h.0, at_append r xs ys h.1 k)

error_at_place : (fault : TextFault) (p : Place) → AllAt p (place_of_error (error_at fault p))
error_at_place faults.BadByte p = (refl, tt)
error_at_place (faults.Named c) p = (refl, tt)

refused_at : (fault : TextFault) (p : Place) → AllAt p (item_places (refused (error_at fault p) ∷ []))
refused_at faults.BadByte p = (refl, tt)
refused_at (faults.Named c) p = (refl, tt)

items_at : (kind : PieceKind) (p o : Cut) → AllAt o.place (item_places (items_by kind p o))
items_at kinds.Blank p o = tt
items_at kinds.LineEnd p o = tt
items_at kinds.Word p o = (refl, tt)
items_at (kinds.Constant c) p o = (refl, tt)
items_at kinds.Text p o = (refl, tt)
items_at (kinds.Mark m) p o = (refl, tt)
items_at kinds.Hash p o = (refl, tt)
items_at (kinds.Late c) p o = (refl, tt)
items_at (kinds.Faulty f) p o = refused_at f o.place
items_at (kinds.FaultyComment f) p o = refused_at f o.place

flat_at : (r : Place) (f : Cut → List TextItem) (ps : List Cut) → ((p : Cut) → AllAt r (item_places (f p))) → AllAt r (item_places (flat_map f ps))
flat_at r f [] h = tt
flat_at r f (p ∷ ps) h =
    subst (AllAt r) (sym (items_append (f p) (flat_map f ps))) (at_append r (item_places (f p)) (item_places (flat_map f ps)) (h p) (flat_at r f ps h))

expand_none_at : (r : Option (List Cut)) (c : Construct) (p o : Cut)
    → AllAt o.place (item_places (elim r [ None ↦ items_of p o | Some body ↦ refused (Refused c o.place) ∷ [] ]))
expand_none_at None c p o = items_at p.kind p o
expand_none_at (Some body) c p o = (refl, tt)

expand_some_at : (r : Option (List Cut)) (f : Cut → List TextItem) (p o : Cut) → ((q : Cut) → AllAt o.place (item_places (f q)))
    → AllAt o.place (item_places (elim r [ None ↦ items_of p o | Some body ↦ replaced o ∷ flat_map f body ]))
expand_some_at None f p o h = items_at p.kind p o
expand_some_at (Some body) f p o h = (refl, flat_at o.place f body h)

expand_at : (n : ℕ) (macros : List Definition) (names : List (List ℕ)) (o p : Cut) → AllAt o.place (item_places (expand n macros names o p))
expand_at zero macros names o p = expand_none_at (replacement macros names p) _ p o
expand_at (suc n) macros names o p =
    expand_some_at (replacement macros names p) (expand n macros (names ++ p.spelling ∷ []) o) p o (λ q. expand_at n macros (names ++ p.spelling ∷ []) o q)

places_at : (r : Place) (xs ys : List Place) (q : Place) → AllAt r xs → IsNoLater q r → PlacesFrom r ys → PlacesFrom q (xs ++ ys)
places_at r [] ys q a h w = places_earlier q r ys h w
places_at r (x ∷ xs) ys q a h w =
    subst (λ z. PlacesFrom q (z ∷ (xs ++ ys))) (sym a.0) (h, places_at r xs ys r a.1 (same_place r) w)

-- the places of pieces
abbrev place_list : List Cut → List Place
place_list ps = map (λ q. q.place) ps

skip_places : (ps rest : List Cut) (q : Place) → PlacesFrom q (place_list (ps ++ rest)) → PlacesFrom q (place_list rest)
skip_places [] rest q w = w
skip_places (p ∷ ps) rest q w = places_earlier q p.place (place_list rest) w.0 (skip_places ps rest p.place w.1)

-- what may follow the places of the other pieces
abbrev Follows : List Cut → List Place → Type 0
Follows rest ys = (t : Place) → PlacesFrom t (place_list rest) → PlacesFrom t ys

text_places : (n : ℕ) (macros : List Definition) (ps rest : List Cut) (ys : List Place) (q : Place) → PlacesFrom q (place_list (ps ++ rest)) → Follows rest ys
    → PlacesFrom q (item_places (replaced_text n macros ps) ++ ys)
text_places n macros [] rest ys q w more = more q w
text_places n macros (p ∷ ps) rest ys q w more =
    let here = places_at p.place (item_places (expand n macros [] p p)) (item_places (replaced_text n macros ps) ++ ys) q
    (expand_at n macros [] p p) w.0 (text_places n macros ps rest ys p.place w.1 more) in
    subst (PlacesFrom q)
    (sym (append_assoc (item_places (expand n macros [] p p)) (item_places (replaced_text n macros ps)) ys)
    ∙ ap (λ xs. xs ++ ys) (sym (items_append (expand n macros [] p p) (replaced_text n macros ps)))) here

-- a place of one of these pieces
abbrev In : Place → List Cut → Type 0
In r [] = ⊥
In r (p ∷ ps) = (r ≡ p.place) ⊎ In r ps

chain_in : (ps rest : List Cut) (ys : List Place) (q r : Place) → PlacesFrom q (place_list (ps ++ rest)) → In r ps → Follows rest ys → IsNoLater q r × PlacesFrom r ys
chain_in [] rest ys q r w h more = absurd h
chain_in (p ∷ ps) rest ys q r w (inl e) more =
    (subst (λ z. IsNoLater q z) (sym e) w.0, subst (λ z. PlacesFrom z ys) (sym e) (more p.place (skip_places ps rest p.place w.1)))
chain_in (p ∷ ps) rest ys q r w (inr h) more =
    let k = chain_in ps rest ys p.place r w.1 h more in (later q p.place r w.0 k.0, k.1)

from_one : (p : Cut) (ps : List Cut) (blank : Bool) (r : Place) → (In r (from_mark ps) → In r ps) → In r (if blank then from_mark ps else p ∷ ps) → In r (p ∷ ps)
from_one p ps true r rest h = inr (rest h)
from_one p ps false r rest h = h

in_from : (ps : List Cut) (r : Place) → In r (from_mark ps) → In r ps
in_from [] r h = h
in_from (p ∷ ps) r h = from_one p ps (is_blank_kind p.kind) r (in_from ps r) h

body_at : (kind : PieceKind) (p : Cut) (e : LexError) → body_fault_by kind p ≡ Some e → AllAt p.place (place_of_error e)
body_at kinds.Blank p e h = absurd (cc)
body_at kinds.LineEnd p e h = absurd (cc)
body_at kinds.Word p e h = absurd (cc)
body_at (kinds.Constant c) p e h = absurd (cc)
body_at kinds.Text p e h = absurd (cc)
body_at (kinds.Mark m) p e h = absurd (cc)
body_at kinds.Hash p e h = let k : Refused HashInMacro p.place ≡ e = cc in subst (λ z. AllAt p.place (place_of_error z)) k (refl, tt)
body_at (kinds.Late c) p e h = absurd (cc)
body_at (kinds.Faulty f) p e h = let k : error_at f p.place ≡ e = cc in subst (λ z. AllAt p.place (place_of_error z)) k (error_at_place f p.place)
body_at (kinds.FaultyComment f) p e h = let k : error_at f p.place ≡ e = cc in subst (λ z. AllAt p.place (place_of_error z)) k (error_at_place f p.place)

-- a fault stands at one of these pieces
abbrev FaultIn : List Cut → LexError → Type 0
FaultIn ps e = (r : Place) × (In r ps × AllAt r (place_of_error e))

fault_one : (p : Cut) (ps : List Cut) (x : Option LexError) (e : LexError) → body_fault_by p.kind p ≡ x → (first_fault ps ≡ Some e → FaultIn ps e)
    → ◌≡◌ {A = Option LexError} (elim x [ None ↦ first_fault ps | Some error ↦ Some error ]) (Some e) → FaultIn (p ∷ ps) e
fault_one p ps None e b rest h = let f = rest h in (f.0, (inr f.1.0, f.1.1))
fault_one p ps (Some d) e b rest h =
    let k : d ≡ e = cc in (p.place, (inl refl, body_at p.kind p e (b ∙ ap Some k)))

fault_in : (ps : List Cut) (e : LexError) → first_fault ps ≡ Some e → FaultIn ps e
fault_in [] e h = absurd (cc)
fault_in (p ∷ ps) e h = fault_one p ps (body_fault_by p.kind p) e refl (fault_in ps e) h

-- what a directive is refused for stands at its number sign or at one of these pieces
module _ (n : ℕ) (macros : List Definition) (hash : Place) where
  abbrev Located : List Cut → DirectiveLine → Type 0
  Located ps line = (r : Place) × (((r ≡ hash) ⊎ In r ps) × AllAt r (item_places (line_items n macros line)))

  at_hash : (ps : List Cut) (line : DirectiveLine) → AllAt hash (item_places (line_items n macros line)) → Located ps line
  at_hash ps line h = (hash, (inl refl, h))

  wider_one : (ps qs : List Cut) (r : Place) → ((r : Place) → In r qs → In r ps) → ((r ≡ hash) ⊎ In r qs) → ((r ≡ hash) ⊎ In r ps)
  wider_one ps qs r f (inl e) = inl e
  wider_one ps qs r f (inr h) = inr (f r h)

  wider : (ps qs : List Cut) (line : DirectiveLine) → ((r : Place) → In r qs → In r ps) → Located qs line → Located ps line
  wider ps qs line f l = (l.0, (wider_one ps qs l.0 f l.1.0, l.1.1))

  located_if : (ps : List Cut) (b : Bool) (x y : DirectiveLine) → Located ps x → Located ps y → Located ps (if b then x else y)
  located_if ps true x y h k = h
  located_if ps false x y h k = k

  located_stray : (kind : PieceKind) (p : Cut) (ps : List Cut) → Located (p ∷ ps) (stray_by kind p hash)
  located_stray kinds.Blank p ps = at_hash (p ∷ ps) (refuse (Refused Directive hash)) (refl, tt)
  located_stray kinds.LineEnd p ps = at_hash (p ∷ ps) (refuse (Refused Directive hash)) (refl, tt)
  located_stray kinds.Word p ps = at_hash (p ∷ ps) (refuse (Refused Directive hash)) (refl, tt)
  located_stray (kinds.Constant c) p ps = at_hash (p ∷ ps) (refuse (Refused Directive hash)) (refl, tt)
  located_stray kinds.Text p ps = at_hash (p ∷ ps) (refuse (Refused Directive hash)) (refl, tt)
  located_stray (kinds.Mark m) p ps = at_hash (p ∷ ps) (refuse (Refused Directive hash)) (refl, tt)
  located_stray kinds.Hash p ps = at_hash (p ∷ ps) (refuse (Refused Directive hash)) (refl, tt)
  located_stray (kinds.Late c) p ps = at_hash (p ∷ ps) (refuse (Refused Directive hash)) (refl, tt)
  located_stray (kinds.Faulty f) p ps = at_hash (p ∷ ps) (refuse (Refused Directive hash)) (refl, tt)
  located_stray (kinds.FaultyComment f) p ps = (p.place, (inr (inl refl), refused_at f p.place))

conflict_at : (known : Option Bool) (hash : Place) → AllAt hash (item_places (conflict_items known hash))
conflict_at None hash = tt
conflict_at (Some true) hash = (refl, tt)
conflict_at (Some false) hash = tt

definitions_at : (hash : Place) (macros ds : List Definition) → AllAt hash (item_places (definition_items hash macros ds))
definitions_at hash macros [] = tt
definitions_at hash macros (d ∷ ds) =
    subst (AllAt hash) (sym (items_append (conflict_items (known_as macros d) hash) (definition_items hash (with_definition macros d) ds)))
    (at_append hash (item_places (conflict_items (known_as macros d) hash)) (item_places (definition_items hash (with_definition macros d) ds))
    (conflict_at (known_as macros d) hash) (definitions_at hash (with_definition macros d) ds))

header_rest : (b : Bool) (h : Option Header) (ps : List Cut) (f : Header × List Cut)
    → ◌≡◌ {A = Option (Header × List Cut)} (if b then elim h [ None ↦ None | Some header ↦ Some (header, ps) ] else None) (Some f) → f.1 ≡ ps
header_rest true None ps f e = absurd (cc)
header_rest true (Some h) ps f e = let k : ◌≡◌ {A = Header × List Cut} (h, ps) f = cc in sym (ap (λ (g : Header × List Cut). g.1) k)
header_rest false h ps f e = absurd (cc)

header_in_rest : (ps : List Cut) (f : Header × List Cut) (r : Place) → header_in ps ≡ Some f → In r f.1 → In r ps
header_in_rest [] f r e h = absurd (cc)
header_in_rest (a ∷ []) f r e h = absurd (cc)
header_in_rest (a ∷ b ∷ []) f r e h = absurd (cc)
header_in_rest (a ∷ b ∷ c ∷ []) f r e h = absurd (cc)
header_in_rest (a ∷ b ∷ c ∷ d ∷ []) f r e h = absurd (cc)
header_in_rest (a ∷ b ∷ c ∷ d ∷ g ∷ ps) f r e h =
    inr (inr (inr (inr (inr (subst (In r) (header_rest _ (header_of b.spelling) ps f e) h)))))

module _ (n : ℕ) (macros : List Definition) (hash : Place) where
  located_defined : (ps : List Cut) (fault : Option LexError) (d : Definition) → first_fault ps ≡ fault → Located n macros hash ps (defined_unless fault hash d)
  located_defined ps None d e = at_hash n macros hash ps (define hash d) (definitions_at hash macros (d ∷ []))
  located_defined ps (Some error) d e =
      let f = fault_in ps error e in (f.0, (inr f.1.0, at_append f.0 (place_of_error error) [] f.1.1 tt))

  located_definition : (ps : List Cut) → Located n macros hash ps (definition_in hash ps)
  located_definition [] = at_hash n macros hash [] (refuse (Refused Directive hash)) (refl, tt)
  located_definition (p ∷ ps) =
      located_if n macros hash (p ∷ ps) _ _ _ (located_stray n macros hash p.kind p ps)
      (located_if n macros hash (p ∷ ps) (begins_call ps) _ _ (at_hash n macros hash (p ∷ ps) (refuse (Refused FunctionMacro hash)) (refl, tt))
      (wider n macros hash (p ∷ ps) ps _ (λ r h. inr h) (located_defined ps (first_fault ps) _ refl)))

  located_alone : (header : Header) (ps : List Cut) → Located n macros hash ps (alone hash header ps)
  located_alone header [] = at_hash n macros hash [] (include hash header) (definitions_at hash macros (header_definitions hash header))
  located_alone header (p ∷ ps) = located_stray n macros hash p.kind p ps

  located_found : (p : Cut) (ps : List Cut) (found : Option (Header × List Cut)) → header_in (p ∷ ps) ≡ found
      → Located n macros hash (p ∷ ps) (elim found [ None ↦ stray hash p | Some f ↦ alone hash f.0 (from_mark f.1) ])
  located_found p ps None e = located_stray n macros hash p.kind p ps
  located_found p ps (Some f) e =
      wider n macros hash (p ∷ ps) (from_mark f.1) _ (λ r h. header_in_rest (p ∷ ps) f r e (in_from f.1 r h)) (located_alone f.0 (from_mark f.1))

  located_inclusion : (ps : List Cut) → Located n macros hash ps (inclusion_in hash ps)
  located_inclusion [] = at_hash n macros hash [] (refuse (Refused Directive hash)) (refl, tt)
  located_inclusion (p ∷ ps) = located_found p ps (header_in (p ∷ ps)) refl

  located_directive : (ps : List Cut) → Located n macros hash ps (directive_in hash ps)
  located_directive [] = at_hash n macros hash [] (text []) tt
  located_directive (p ∷ ps) =
      let last = if bytes_eq p.spelling (codes "include") then inclusion_in hash (from_mark ps) else stray hash p in
      let behind = λ (r : Place) (h : In r (from_mark ps)). inr (in_from ps r h) in
      located_if n macros hash (p ∷ ps) (bytes_eq p.spelling (codes "define")) (definition_in hash (from_mark ps)) last
      (wider n macros hash (p ∷ ps) (from_mark ps) _ behind (located_definition (from_mark ps)))
      (located_if n macros hash (p ∷ ps) (bytes_eq p.spelling (codes "include")) (inclusion_in hash (from_mark ps)) (stray hash p)
      (wider n macros hash (p ∷ ps) (from_mark ps) _ behind (located_inclusion (from_mark ps))) (located_stray n macros hash p.kind p ps))

-- a line is text, or all that it gives stands at one of its pieces
module _ (n : ℕ) (macros : List Definition) where
  abbrev LineCase : List Cut → DirectiveLine → Type 0
  LineCase all line = (item_places (line_items n macros line) ≡ item_places (replaced_text n macros all))
      ⊎ ((item_places (line_items n macros line) ≡ []) ⊎ ((r : Place) × (In r all × AllAt r (item_places (line_items n macros line)))))

  line_case_if : (all : List Cut) (b : Bool) (line : DirectiveLine) → ((r : Place) × (In r all × AllAt r (item_places (line_items n macros line))))
      → LineCase all (if b then line else text all)
  line_case_if all true line h = inr (inr h)
  line_case_if all false line h = inl refl

  line_case : (all qs : List Cut) → ((r : Place) → In r qs → In r all) → LineCase all (line_in all qs)
  line_case all [] h = inr (inl refl)
  line_case all (p ∷ ps) h =
      let l = located_directive n macros p.place (from_mark ps) in
      line_case_if all (is_hash_kind p.kind) (directive_in p.place (from_mark ps))
      (l.0, (h l.0 (in_line p ps l.0 l.1.0), l.1.1))
    where
      in_line : (p : Cut) (ps : List Cut) (r : Place) → ((r ≡ p.place) ⊎ In r (from_mark ps)) → In r (p ∷ ps)
      in_line p ps r (inl e) = inl e
      in_line p ps r (inr k) = inr (in_from ps r k)

lines_places : (n : ℕ) (macros : List Definition) (ls : List (List Cut)) (q : Place) → PlacesFrom q (place_list (concat ls))
    → PlacesFrom q (item_places (replaced_lines n macros ls))
lines_places n macros [] q w = tt
lines_places n macros (l ∷ ls) q w =
    let rest = replaced_lines n (macros_after macros (line_of l)) ls in
    let more = λ (t : Place) (v : PlacesFrom t (place_list (concat ls))). lines_places n (macros_after macros (line_of l)) ls t v in
    let split = sym (items_append (line_items n macros (line_of l)) rest) in
    elim (line_case n macros l (from_mark l) (in_from l)) [
      | inl same ↦ subst (PlacesFrom q) (ap (λ xs. xs ++ item_places rest) (sym same) ∙ split) (text_places n macros l (concat ls) (item_places rest) q w more)
      | inr (inl none) ↦ subst (PlacesFrom q) (ap (λ xs. xs ++ item_places rest) (sym none) ∙ split) (more q (skip_places l (concat ls) q w))
      | inr (inr found) ↦
          let k = chain_in l (concat ls) (item_places rest) q found.0 w found.1.0 more in
          subst (PlacesFrom q) split (places_at found.0 (item_places (line_items n macros (line_of l))) (item_places rest) q found.1.1 k.0 k.1)
    ]

line_chain : (p : Cut) (ls : List (List Cut)) (ends : Bool) (q : Place) → IsNoLater q p.place → PlacesFrom p.place (place_list (concat ls))
    → PlacesFrom q (place_list (concat (if ends then [] ∷ ls else with_first p ls)))
line_chain p ls true q h w = places_earlier q p.place (place_list (concat ls)) h w
line_chain p ls false q h w = subst (λ xs. PlacesFrom q (place_list xs)) (sym (concat_first p ls)) (h, w)

concat_chain : (ps : List Cut) (q : Place) → PlacesFrom q (place_list ps) → PlacesFrom q (place_list (concat (lines_of ps)))
concat_chain [] q w = tt
concat_chain (p ∷ ps) q w = line_chain p (lines_of ps) (is_end_kind p.kind) q w.0 (concat_chain ps p.place w.1)

-- the limits and tests keep the order
tail_places : (xs ys zs : List Place) (q : Place) → PlacesFrom q (xs ++ ys) → ((t : Place) → PlacesFrom t ys → PlacesFrom t zs) → PlacesFrom q (xs ++ zs)
tail_places [] ys zs q w more = more q w
tail_places (x ∷ xs) ys zs q w more = (w.0, tail_places xs ys zs x w.1 more)

replacements_places : (items : List TextItem) (n : ℕ) (q : Place) → PlacesFrom q (item_places items) → PlacesFrom q (item_places (within_replacements n items))
replacements_places [] zero q w = tt
replacements_places [] (suc n) q w = tt
replacements_places (taken m o ∷ is) zero q w = (w.0, replacements_places is 0 o.place w.1)
replacements_places (taken m o ∷ is) (suc n) q w = (w.0, replacements_places is (suc n) o.place w.1)
replacements_places (replaced o ∷ is) zero q w = (w.0, replacements_places is 0 o.place w.1)
replacements_places (replaced o ∷ is) (suc n) q w = places_earlier q o.place _ w.0 (replacements_places is n o.place w.1)
replacements_places (refused e ∷ is) zero q w = tail_places (place_of_error e) (item_places is) _ q w (λ t v. replacements_places is 0 t v)
replacements_places (refused e ∷ is) (suc n) q w = tail_places (place_of_error e) (item_places is) _ q w (λ t v. replacements_places is (suc n) t v)

tokens_places : (items : List TextItem) (n : ℕ) (q : Place) → PlacesFrom q (item_places items) → PlacesFrom q (item_places (within_tokens n items))
tokens_places [] zero q w = tt
tokens_places [] (suc n) q w = tt
tokens_places (taken m o ∷ is) zero q w = (w.0, tokens_places is 0 o.place w.1)
tokens_places (taken m o ∷ is) (suc n) q w = (w.0, tokens_places is n o.place w.1)
tokens_places (replaced o ∷ is) zero q w = (w.0, tokens_places is 0 o.place w.1)
tokens_places (replaced o ∷ is) (suc n) q w = (w.0, tokens_places is (suc n) o.place w.1)
tokens_places (refused e ∷ is) zero q w = tail_places (place_of_error e) (item_places is) _ q w (λ t v. tokens_places is 0 t v)
tokens_places (refused e ∷ is) (suc n) q w = tail_places (place_of_error e) (item_places is) _ q w (λ t v. tokens_places is (suc n) t v)

abbrev tested_places : List Tested → List Place
tested_places [] = []
tested_places (token t ∷ ts) = t.place ∷ tested_places ts
tested_places (failed e ∷ ts) = place_of_error e ++ tested_places ts

tested_first : (m : Result Meaning Construct) (o : Cut) (ts : List Tested) (q : Place) → IsNoLater q o.place → PlacesFrom o.place (tested_places ts)
    → PlacesFrom q (tested_places (tested_one m o ∷ ts))
tested_first (Ok m) o ts q h w = (h, w)
tested_first (Err c) o ts q h w = (h, w)

tests_places : (items : List TextItem) (q : Place) → PlacesFrom q (item_places items) → PlacesFrom q (tested_places (tested items))
tests_places [] q w = tt
tests_places (taken m o ∷ is) q w = tested_first m o (tested is) q w.0 (tests_places is o.place w.1)
tests_places (replaced o ∷ is) q w = places_earlier q o.place _ w.0 (tests_places is o.place w.1)
tests_places (refused e ∷ is) q w = tail_places (place_of_error e) (item_places is) _ q w (λ t v. tests_places is t v)

literal_first : (t : TokenRead) (b : Bool) (us vs : List Tested) (q : Place) → IsNoLater q t.place → PlacesFrom t.place (tested_places us) → PlacesFrom t.place (tested_places vs)
    → PlacesFrom q (tested_places (if b then token t ∷ us else failed (Refused LiteralsTooLong t.place) ∷ vs))
literal_first t true us vs q h v w = (h, v)
literal_first t false us vs q h v w = (h, w)

literals_places : (ts : List Tested) (n : ℕ) (q : Place) → PlacesFrom q (tested_places ts) → PlacesFrom q (tested_places (within_literals n ts))
literals_places [] n q w = tt
literals_places (token t ∷ ts) n q w =
    literal_first t (nat_le (literal_length t.meaning) n) _ _ q w.0
    (literals_places ts (n - literal_length t.meaning) t.place w.1) (literals_places ts n t.place w.1)
literals_places (failed e ∷ ts) n q w = tail_places (place_of_error e) (tested_places ts) _ q w (λ t v. literals_places ts n t v)

refusals_places : (ts : List Tested) (q : Place) → PlacesFrom q (tested_places ts) → PlacesFrom q (refusals ts)
refusals_places [] q w = tt
refusals_places (token t ∷ ts) q w = places_earlier q t.place _ w.0 (refusals_places ts t.place w.1)
refusals_places (failed e ∷ ts) q w = tail_places (place_of_error e) (tested_places ts) _ q w (λ t v. refusals_places ts t v)

pub tested_chain : (room : Room) (n : ℕ) (ps : List Cut) (q : Place) → PlacesFrom q (place_list ps)
    → PlacesFrom q (tested_places (tested_of room (replaced_lines n [] (lines_of ps))))
tested_chain room n ps q w =
    let items = replaced_lines n [] (lines_of ps) in
    let a = replacements_places items room.replacements q (lines_places n [] (lines_of ps) q (concat_chain ps q w)) in
    let b = tokens_places (within_replacements room.replacements items) room.tokens q a in
    literals_places (tested (within_tokens room.tokens (within_replacements room.replacements items))) room.literal_bytes q
    (tests_places (within_tokens room.tokens (within_replacements room.replacements items)) q b)

-- the first refusal
before_err : (t : TokenRead) (x : Result (List TokenRead) LexError) (e : LexError) → before_all t x ≡ Err e → x ≡ Err e
before_err t (Ok ts) e h = absurd (cc)
before_err t (Err f) e h = h

first_least : (ts : List Tested) (e : LexError) (p q : Place) → outcome ts ≡ Err e → place_of_error e ≡ p ∷ [] → PlacesFrom q (tested_places ts)
    → AllByRecursion (IsNoLater p) (refusals ts)
first_least [] e p q h k w = absurd (cc)
first_least (token t ∷ ts) e p q h k w = first_least ts e p t.place (before_err t (outcome ts) e h) k w.1
first_least (failed f ∷ ts) e p q h k w =
    let same : f ≡ e = cc in
    let place : place_of_error f ≡ p ∷ [] = ap place_of_error same ∙ k in
    let chain = subst (λ xs. PlacesFrom q (xs ++ tested_places ts)) place w in
    subst (λ xs. AllByRecursion (IsNoLater p) (xs ++ refusals ts)) (sym place)
    (same_place p, places_all p (refusals ts) (refusals_places ts p chain.1))

pub least : (A : Type 0) (ts : List Tested) (e : LexError) (q : Place) → Fails e (outcome ts) → PlacesFrom q (tested_places ts) → HasLeastPlace {A = A} (Err e) ts
least A ts Memory q h w = tt
least A ts (BadByte p) q h w = All-from_recursion (IsNoLater p) (refusals ts) (first_least ts (BadByte p) p q h refl w)
least A ts (TooManyTokens p) q h w = All-from_recursion (IsNoLater p) (refusals ts) (first_least ts (TooManyTokens p) p q h refl w)
least A ts (Refused c p) q h w = All-from_recursion (IsNoLater p) (refusals ts) (first_least ts (Refused c p) p q h refl w)
