-- The machine reads each tree of the grammar: initialisers, declarations, statements and files.
use Rattle.std.proofs.Common.{◌≡◌, ◌<◌, Bool, true, false, List, [], ◌∷◌, Option, Some, None, refl, arith}
use Rattle.dae_base.specs.declared.Place.{Place}
use Rattle.dae_tree.specs.declared.signs.Sign.TheVariants as signs
use Rattle.dae_tree.specs.Marks.{TokenMark, sign, part, close_brace}
use Rattle.dae_tree.specs.Words.{nothing_seen}
use Rattle.dae_tree.specs.Names.{Names, has_typedef, with_declarator, after, after_specifiers, after_declarator, after_initialiser, after_initialisers, after_value, after_item, after_items, after_declaration}
use Rattle.dae_tree.specs.Spelling.{spell, spell_specifiers, spell_declarator, spell_comma}
use Rattle.dae_tree.specs.Grammar.{by_name, IsExpression, IsSpecifiers, IsPresent}
use Rattle.dae_tree.specs.Statements.{spell_initialiser, spell_more_initialisers, spell_value, spell_item, spell_items, spell_more_items, spell_declaration, IsInitialiser, AreInitialisers, IsValue, AreItems, IsDeclaration}
use Rattle.dae_tree.specs.Trees.{Expression, Specifiers, Declarator, Initialiser, Initialisers, InitDeclarator, Declaration, Absent, Named, Pointer, Grouped, Unsized, Sized, Empty, Void, Function, Value, Listed, no_initialisers, initialiser_then}
use Rattle.dae_parse_grammar.specs.Frames.{Frame, in_value, for_declaration, of_item, in_list, of_value, seek, gave, specifying, gave_specifiers, declaring, gave_declarator, initialising, gave_initialiser, itemed, gave_declaration, ParserState, state, awaits_expression, awaits_specifiers, awaits_declarator, awaits_initialiser}
use Rattle.dae_parse_grammar.specs.Machine.{onto, initialisers_onto, initialised, list_followed, item_given, declaration_begun}
use Rattle.dae_parse_grammar.specs.Runs.{IsBackward}
use Rattle.dae_parse_grammar.specs.Levels.{front}
use Rattle.dae_parse_grammar.specs.Starts.{Starts, FollowsDeclarator, IsNoSemicolon}
use Rattle.dae_parse_grammar.specs.Reads.{IsNoPart}
use Rattle.dae_parse_grammar.proofs.Steps.{to, level_most, tail_most, stop}
use Rattle.dae_parse_grammar.proofs.Fronts.{starts, front_present, named_present}
use Rattle.dae_parse_grammar.proofs.Declarators.{finish_declarator}
use Rattle.dae_parse_grammar.proofs.Complete.{read, read_specifiers, read_declarator}

-- ---- an expression before a token that ends it

pub read_whole : {P : ParserState → Type 0} → IsBackward P → (e : Expression) (names : Names) → IsExpression names e → (s : List Frame) (rest : List TokenMark)
    → 16 < front rest → P (state (gave e) s (after e names) rest) → P (state (seek 16) s names (spell e rest))
read_whole back e names i s rest f k = read back e names i 16 (level_most e) s rest (omega (arith, tail_most e)) (stop back e 16 s (after e names) rest f k)

-- ---- what stands first

initialised_first : (names : Names) (ts : List TokenMark) → Starts names ts → (s : List Frame) → initialised s names ts ≡ Some (state (seek 15) (awaits_expression in_value ∷ s) names ts)
initialised_first names [] h s = absurd h
initialised_first names (sign signs.LeftBrace p ∷ ts) h s = absurd h
initialised_first names (_ ∷ ts) h s = refl

pub starts_no_part : (names : Names) (ts : List TokenMark) → Starts names ts → IsNoPart ts
starts_no_part names [] h = tt
starts_no_part names (part c ∷ ts) h = h
starts_no_part names (_ ∷ ts) h = tt

initialiser_no_part : (x : Initialiser) (names : Names) → IsInitialiser names x → (rest : List TokenMark) → IsNoPart (spell_initialiser x rest)
initialiser_no_part (Value e) names i rest = starts_no_part names (spell e rest) (starts names e i.1 rest)
initialiser_no_part (Listed p xs c) names i rest = tt

list_first : (names : Names) (ts : List TokenMark) → IsNoPart ts → (p : Place) (before : List Initialiser) (s : List Frame) → list_followed p before s names ts ≡ Some (state initialising (awaits_initialiser (in_list p before) ∷ s) names ts)
list_first names [] h p before s = refl
list_first names (part c ∷ ts) h p before s = absurd h
list_first names (_ ∷ ts) h p before s = refl

front_initialisers : (xs : Initialisers) (c : Bool) (rest : List TokenMark) → 15 < front (spell_more_initialisers xs (spell_comma c (part close_brace ∷ rest)))
front_initialisers no_initialisers true rest = omega arith
front_initialisers no_initialisers false rest = omega arith
front_initialisers (initialiser_then x xs) c rest = omega arith

-- ---- initialisers

mutual
  pub read_initialiser : {P : ParserState → Type 0} → IsBackward P → (x : Initialiser) (names : Names) → IsInitialiser names x → (s : List Frame) (rest : List TokenMark)
      → 15 < front rest → P (state (gave_initialiser x) s (after_initialiser x names) rest) → P (state initialising s names (spell_initialiser x rest))
  read_initialiser back (Value e) names i s rest f k =
      to back _ _ (initialised_first names (spell e rest) (starts names e i.1 rest) s)
      (read back e names i.1 15 i.0 (awaits_expression in_value ∷ s) rest (omega (arith, tail_most e)) (stop back e 15 (awaits_expression in_value ∷ s) (after e names) rest f (back _ k)))
  read_initialiser back (Listed p no_initialisers c) names i s rest f k = absurd i.0
  read_initialiser back (Listed p (initialiser_then x xs) c) names i s rest f k =
      let ts = spell_more_initialisers xs (spell_comma c (part close_brace ∷ rest)) in
      back _ (read_initialiser back x names i.1.0 (awaits_initialiser (in_list p []) ∷ s) ts (front_initialisers xs c rest)
      (read_more_initialisers back xs c (after_initialiser x names) i.1.1 x p [] s rest k))

  read_more_initialisers : {P : ParserState → Type 0} → IsBackward P → (xs : Initialisers) (c : Bool) (names : Names) → AreInitialisers names xs → (x : Initialiser) (p : Place) (before : List Initialiser) (s : List Frame) (rest : List TokenMark)
      → P (state (gave_initialiser (Listed p (initialisers_onto before (initialiser_then x xs)) c)) s (after_initialisers xs names) rest)
      → P (state (gave_initialiser x) (awaits_initialiser (in_list p before) ∷ s) names (spell_more_initialisers xs (spell_comma c (part close_brace ∷ rest))))
  read_more_initialisers back no_initialisers true names i x p before s rest k = back _ (back _ k)
  read_more_initialisers back no_initialisers false names i x p before s rest k = back _ k
  read_more_initialisers back (initialiser_then y xs) c names i x p before s rest k =
      let ts = spell_more_initialisers xs (spell_comma c (part close_brace ∷ rest)) in
      back _ (to back _ _ (list_first names (spell_initialiser y ts) (initialiser_no_part y names i.0 ts) p (x ∷ before) s)
      (read_initialiser back y names i.0 (awaits_initialiser (in_list p (x ∷ before)) ∷ s) ts (front_initialisers xs c rest)
      (read_more_initialisers back xs c (after_initialiser y names) i.1 y p (x ∷ before) s rest k)))

-- ---- items

front_items : (items : List InitDeclarator) (p : Place) (rest : List TokenMark) → 15 < front (spell_more_items items (sign signs.Semicolon p ∷ rest))
front_items [] p rest = omega arith
front_items (i ∷ items) p rest = omega arith

pub follows_item : (v : Option (Place × Initialiser)) (items : List InitDeclarator) (p : Place) (rest : List TokenMark) → FollowsDeclarator (spell_value v (spell_more_items items (sign signs.Semicolon p ∷ rest)))
follows_item (Some x) items p rest = tt
follows_item None [] p rest = tt
follows_item None (i ∷ items) p rest = tt

pub plain_end : (outer : Bool) (d : Declarator) (ws : Specifiers) (before items : List InitDeclarator) (s : List Frame) (names : Names) (p : Place) (rest : List TokenMark)
    → let ts = spell_more_items items (sign signs.Semicolon p ∷ rest) in
    item_given outer d ws before s names ts ≡ Some (state (itemed ws (record { declarator = d; initialiser = None }) before) s names ts)
plain_end true d ws [] [] s names p rest = refl
plain_end true d ws [] (i ∷ items) s names p rest = refl
plain_end true d ws (b ∷ before) [] s names p rest = refl
plain_end true d ws (b ∷ before) (i ∷ items) s names p rest = refl
plain_end false d ws before [] s names p rest = refl
plain_end false d ws before (i ∷ items) s names p rest = refl

valued_begin : (outer : Bool) (d : Declarator) (ws : Specifiers) (before : List InitDeclarator) (s : List Frame) (names : Names) (p : Place) (ts : List TokenMark)
    → item_given outer d ws before s names (sign signs.Assign p ∷ ts) ≡ Some (state initialising (awaits_initialiser (of_value ws before d p) ∷ s) names ts)
valued_begin true d ws [] s names p ts = refl
valued_begin true d ws (b ∷ before) s names p ts = refl
valued_begin false d ws before s names p ts = refl

-- behind the declarator of an item
pub read_value : {P : ParserState → Type 0} → IsBackward P → (v : Option (Place × Initialiser)) (d : Declarator) (ws : Specifiers) (names : Names) → IsValue (with_declarator (has_typedef ws) d names) v
    → (outer : Bool) (before items : List InitDeclarator) (p : Place) (s : List Frame) (rest : List TokenMark)
    → P (state (itemed ws (record { declarator = d; initialiser = v }) before) s (after_value v (with_declarator (has_typedef ws) d names)) (spell_more_items items (sign signs.Semicolon p ∷ rest)))
    → P (state (gave_declarator d) (awaits_declarator (of_item outer ws before) ∷ s) names (spell_value v (spell_more_items items (sign signs.Semicolon p ∷ rest))))
read_value back None d ws names i outer before items p s rest k =
    to back _ _ (plain_end outer d ws before items s (with_declarator (has_typedef ws) d names) p rest) k
read_value back (Some x) d ws names i outer before items p s rest k =
    to back _ _ (valued_begin outer d ws before s (with_declarator (has_typedef ws) d names) x.0 (spell_initialiser x.1 (spell_more_items items (sign signs.Semicolon p ∷ rest))))
    (read_initialiser back x.1 (with_declarator (has_typedef ws) d names) i (awaits_initialiser (of_value ws before d x.0) ∷ s) (spell_more_items items (sign signs.Semicolon p ∷ rest)) (front_items items p rest) (back _ k))

pub read_items : {P : ParserState → Type 0} → IsBackward P → (items : List InitDeclarator) (i : InitDeclarator) (ws : Specifiers) (names : Names) → AreItems (has_typedef ws) names (i ∷ items)
    → (outer : Bool) (before : List InitDeclarator) (p : Place) (s : List Frame) (rest : List TokenMark)
    → P (state (gave_declaration (record { specifiers = ws; items = onto before (i ∷ items); end = p })) s (after_items (has_typedef ws) (i ∷ items) names) rest)
    → P (state (declaring by_name false) (awaits_declarator (of_item outer ws before) ∷ s) names (spell_item i (spell_more_items items (sign signs.Semicolon p ∷ rest))))
read_items back [] i ws names h outer before p s rest k =
    finish_declarator back i.declarator (read_declarator back i.declarator) by_name names h.0.0 false (λ e. absurd cc) (awaits_declarator (of_item outer ws before) ∷ s) (spell_value i.initialiser (sign signs.Semicolon p ∷ rest)) (follows_item i.initialiser [] p rest)
    (read_value back i.initialiser i.declarator ws (after_declarator i.declarator names) h.0.1 outer before [] p s rest (back _ k))
read_items back (j ∷ items) i ws names h outer before p s rest k =
    finish_declarator back i.declarator (read_declarator back i.declarator) by_name names h.0.0 false (λ e. absurd cc) (awaits_declarator (of_item outer ws before) ∷ s) (spell_value i.initialiser (spell_more_items (j ∷ items) (sign signs.Semicolon p ∷ rest))) (follows_item i.initialiser (j ∷ items) p rest)
    (read_value back i.initialiser i.declarator ws (after_declarator i.declarator names) h.0.1 outer before (j ∷ items) p s rest
    (back _ (read_items back items j ws (after_item (has_typedef ws) i names) h.1 false (i ∷ before) p s rest k)))

-- ---- declarations

no_semicolon_any : (d : Declarator) (rest : List TokenMark) → IsNoSemicolon rest → IsNoSemicolon (spell_declarator d rest)
no_semicolon_any Absent rest h = h
no_semicolon_any (Named n) rest h = tt
no_semicolon_any (Pointer p qs d) rest h = tt
no_semicolon_any (Grouped p d) rest h = tt
no_semicolon_any (Unsized d p) rest h = no_semicolon_any d _ tt
no_semicolon_any (Sized d p e) rest h = no_semicolon_any d _ tt
no_semicolon_any (Empty d p) rest h = no_semicolon_any d _ tt
no_semicolon_any (Void d p q) rest h = no_semicolon_any d _ tt
no_semicolon_any (Function d p ps) rest h = no_semicolon_any d _ tt

pub no_semicolon_present : (d : Declarator) (rest : List TokenMark) → IsPresent d → IsNoSemicolon (spell_declarator d rest)
no_semicolon_present Absent rest h = absurd h
no_semicolon_present (Named n) rest h = tt
no_semicolon_present (Pointer p qs d) rest h = tt
no_semicolon_present (Grouped p d) rest h = tt
no_semicolon_present (Unsized d p) rest h = no_semicolon_any d _ tt
no_semicolon_present (Sized d p e) rest h = no_semicolon_any d _ tt
no_semicolon_present (Empty d p) rest h = no_semicolon_any d _ tt
no_semicolon_present (Void d p q) rest h = no_semicolon_any d _ tt
no_semicolon_present (Function d p ps) rest h = no_semicolon_any d _ tt

pub begun_end : (outer : Bool) (ws : Specifiers) (s : List Frame) (names : Names) (ts : List TokenMark) → IsNoSemicolon ts
    → declaration_begun outer ws s names ts ≡ Some (state (declaring by_name false) (awaits_declarator (of_item outer ws []) ∷ s) names ts)
begun_end outer ws s names [] h = refl
begun_end outer ws s names (sign signs.Semicolon p ∷ ts) h = absurd h
begun_end outer ws s names (_ ∷ ts) h = refl

pub read_declared : {P : ParserState → Type 0} → IsBackward P → (ws : Specifiers) (items : List InitDeclarator) (p : Place) (names : Names) → IsSpecifiers nothing_seen names ws → AreItems (has_typedef ws) (after_specifiers ws names) items
    → (outer : Bool) (s : List Frame) (rest : List TokenMark)
    → P (state (gave_declaration (record { specifiers = ws; items = items; end = p })) s (after_items (has_typedef ws) items (after_specifiers ws names)) rest)
    → P (state (specifying nothing_seen []) (awaits_specifiers (for_declaration outer) ∷ s) names (spell_specifiers ws (spell_items items (sign signs.Semicolon p ∷ rest))))
read_declared back ws [] p names i is outer s rest k =
    read_specifiers back ws names nothing_seen [] (awaits_specifiers (for_declaration outer) ∷ s) (sign signs.Semicolon p ∷ rest) i tt (back _ (k))
read_declared back ws (j ∷ items) p names i is outer s rest k =
    let ts = spell_item j (spell_more_items items (sign signs.Semicolon p ∷ rest)) in
    let present = named_present (after_specifiers ws names) j.declarator is.0.0 in
    read_specifiers back ws names nothing_seen [] (awaits_specifiers (for_declaration outer) ∷ s) ts i (front_present j.declarator _ present)
    (to back (state (gave_specifiers ws) (awaits_specifiers (for_declaration outer) ∷ s) (after_specifiers ws names) ts) _ (begun_end outer ws s (after_specifiers ws names) ts (no_semicolon_present j.declarator _ present))
    (read_items back items j ws (after_specifiers ws names) is outer [] p s rest k))

pub read_declaration : {P : ParserState → Type 0} → IsBackward P → (d : Declaration) (names : Names) → IsDeclaration names d → (outer : Bool) (s : List Frame) (rest : List TokenMark)
    → P (state (gave_declaration d) s (after_declaration d names) rest)
    → P (state (specifying nothing_seen []) (awaits_specifiers (for_declaration outer) ∷ s) names (spell_declaration d rest))
read_declaration back d names i outer s rest k = read_declared back d.specifiers d.items d.end names i.0 i.1 outer s rest k
