-- Steps with declarators, specifiers and bodies.
use Rattle.std.proofs.Common.{◌≡◌, Bool, true, false, List, [], ◌∷◌, Some, None, refl}
use Rattle.dae_base.specs.declared.Place.{Place}
use Rattle.dae_tree.specs.declared.words.Keyword.{Keyword}
use Rattle.dae_tree.specs.declared.words.Keyword.TheVariants as keywords
use Rattle.dae_tree.specs.declared.signs.Sign.TheVariants as signs
use Rattle.dae_tree.specs.declared.expressions.Name.{Name}
use Rattle.dae_tree.specs.Marks.{TokenMark, word, sign, name, part, close_paren, close_brace}
use Rattle.dae_tree.specs.declared.seen.Seen.{Seen}
use Rattle.dae_tree.specs.Words.{nothing_seen, has_type, with_word, is_tagged_word}
use Rattle.dae_tree.specs.Names.{Names, after_declarator}
use Rattle.dae_tree.specs.Spelling.{spell_specifiers, spell_specifier, spell_declarator, spell_qualifiers, spell_parameters, spell_more_parameters, spell_more_enumerators, spell_comma}
use Rattle.dae_tree.specs.Grammar.{Manner, by_name, without_name, either_way, IsSpecifiers, IsDeclarator, IsPresent, IsDirect, HasParameter, AreParameters}
use Rattle.dae_tree.specs.Trees.{Specifiers, Specifier, Declarator, Parameters, Enumerators, no_specifiers, specifier_then, Word, TypeName, Structure, StructureBody, Enumeration, EnumerationBody, Absent, Named, Pointer, Grouped, Unsized, Sized, Empty, Void, Function, no_parameters, parameter_then, no_enumerators, plain_then, valued_then}
use Rattle.dae_tree.specs.Lists.{MemberLine, EnumEntry}
use Rattle.dae_parse_grammar.specs.Frames.{TypeBody, Frame, ParserState, state, gave_declarator, suffixing, specifying, for_member, for_parameter, declaring, qualifying, behind_star, entered, gave_specifiers, awaits_specifiers, awaits_declarator}
use Rattle.dae_parse_grammar.specs.Machine.{declared, qualified, begins_parameters, parameters_opened, word_taken, tag_followed, tag_alone, enumerator_followed, specified, specifiers_onto, onto, members_followed}
use Rattle.dae_parse_grammar.specs.Starts.{FollowsSpecifiers, FollowsDeclarator}
use Rattle.dae_parse_grammar.specs.Runs.{IsBackward}
use Rattle.dae_parse_grammar.specs.Reads.{so_far, Opens, ReadsDeclarator, IsNoWord, IsNoPart, IsNoBrace}
use Rattle.dae_parse_grammar.proofs.Steps.{to}
use Rattle.dae_parse_grammar.proofs.Fronts.{suffixed_end, specifiers_begin, members_first}

pub opens_bracket : (m : Manner) (names : Names) (d : Declarator) → IsDirect d → IsDeclarator m names d → (p : Place) (ts : List TokenMark) → Opens m names d (sign signs.LeftBracket p ∷ ts)
opens_bracket by_name names Absent h i p ts = absurd i
opens_bracket without_name names Absent h i p ts = λ needed s. refl
opens_bracket either_way names Absent h i p ts = λ needed s. refl
opens_bracket m names (Pointer q qs d) h i p ts = absurd h
opens_bracket m names _ h i p ts = tt

pub opens_paren : (m : Manner) (names : Names) (d : Declarator) → IsDirect d → IsDeclarator m names d → (p : Place) (ts : List TokenMark)
    → begins_parameters (after_declarator d names) ts ≡ true → Opens m names d (sign signs.LeftParen p ∷ ts)
opens_paren by_name names Absent h i p ts b = absurd i
opens_paren without_name names Absent h i p ts b = λ needed s. rw b refl
opens_paren either_way names Absent h i p ts b = λ needed s. rw b refl
opens_paren m names (Pointer q qs d) h i p ts b = absurd h
opens_paren m names _ h i p ts b = tt

pub as_direct : (P : ParserState → Type 0) (m : Manner) (d : Declarator) (s : List Frame) (names : Names) (rest : List TokenMark) → IsDirect d
    → P (state (suffixing m d) s names rest) → P (state (so_far m d) s names rest)
as_direct P m (Pointer p qs d) s names rest h k = absurd h
as_direct P m _ s names rest h k = k

nothing_end : (m : Manner) (names : Names) (rest : List TokenMark) (s : List Frame) → IsDeclarator m names Absent → FollowsDeclarator rest
    → declared m false s names rest ≡ Some (state (gave_declarator Absent) s names rest)
nothing_end by_name names rest s i f = absurd i
nothing_end m names [] s i f = absurd f
nothing_end m names (name n ∷ ts) s i f = absurd f
nothing_end m names (sign signs.Times p ∷ ts) s i f = absurd f
nothing_end m names (sign signs.LeftParen p ∷ ts) s i f = absurd f
nothing_end m names (sign signs.LeftBracket p ∷ ts) s i f = absurd f
nothing_end without_name names (_ ∷ ts) s i f = refl
nothing_end either_way names (_ ∷ ts) s i f = refl

-- a declarator before what follows declarators
pub finish_declarator : {P : ParserState → Type 0} → IsBackward P → (d : Declarator) → ReadsDeclarator P d → (m : Manner) (names : Names) → IsDeclarator m names d
    → (needed : Bool) → (needed ≡ true → IsPresent d) → (s : List Frame) (rest : List TokenMark) → FollowsDeclarator rest
    → P (state (gave_declarator d) s (after_declarator d names) rest) → P (state (declaring m needed) s names (spell_declarator d rest))
finish_declarator back Absent read m names i true h s rest f k = absurd (h refl)
finish_declarator back Absent read m names i false h s rest f k = to back (state (declaring m false) s names rest) (Some (state (gave_declarator Absent) s names rest)) (nothing_end m names rest s i f) k
finish_declarator back (Pointer p qs d) read m names i needed h s rest f k = read m names i needed s rest f k
finish_declarator back (Named n) read m names i needed h s rest f k = read m names i needed s rest tt (to back _ _ (suffixed_end m (Named n) s names rest f) k)
finish_declarator back (Grouped p d) read m names i needed h s rest f k = read m names i needed s rest tt (to back _ _ (suffixed_end m (Grouped p d) s _ rest f) k)
finish_declarator back (Unsized d p) read m names i needed h s rest f k = read m names i needed s rest tt (to back _ _ (suffixed_end m (Unsized d p) s _ rest f) k)
finish_declarator back (Sized d p e) read m names i needed h s rest f k = read m names i needed s rest tt (to back _ _ (suffixed_end m (Sized d p e) s _ rest f) k)
finish_declarator back (Empty d p) read m names i needed h s rest f k = read m names i needed s rest tt (to back _ _ (suffixed_end m (Empty d p) s _ rest f) k)
finish_declarator back (Void d p q) read m names i needed h s rest f k = read m names i needed s rest tt (to back _ _ (suffixed_end m (Void d p q) s _ rest f) k)
finish_declarator back (Function d p ps) read m names i needed h s rest f k = read m names i needed s rest tt (to back _ _ (suffixed_end m (Function d p ps) s _ rest f) k)

-- ---- qualifiers

pub no_word_any : (d : Declarator) (rest : List TokenMark) → IsNoWord rest → IsNoWord (spell_declarator d rest)
no_word_any Absent rest h = h
no_word_any (Named n) rest h = tt
no_word_any (Pointer p qs d) rest h = tt
no_word_any (Grouped p d) rest h = tt
no_word_any (Unsized d p) rest h = no_word_any d _ tt
no_word_any (Sized d p e) rest h = no_word_any d _ tt
no_word_any (Empty d p) rest h = no_word_any d _ tt
no_word_any (Void d p q) rest h = no_word_any d _ tt
no_word_any (Function d p ps) rest h = no_word_any d _ tt

pub no_word_follows : (rest : List TokenMark) → FollowsDeclarator rest → IsNoWord rest
no_word_follows [] f = absurd f
no_word_follows (word k p ∷ ts) f = absurd f
no_word_follows (_ ∷ ts) f = tt

qualified_end : (m : Manner) (p : Place) (before : List Place) (s : List Frame) (names : Names) (ts : List TokenMark) → IsNoWord ts
    → qualified m p before s names ts ≡ Some (state (declaring m false) (awaits_declarator (behind_star p (onto before [])) ∷ s) names ts)
qualified_end m p before s names [] h = refl
qualified_end m p before s names (word k q ∷ ts) h = absurd h
qualified_end m p before s names (_ ∷ ts) h = refl

pub read_qualifiers : {P : ParserState → Type 0} → IsBackward P → (qs before : List Place) (m : Manner) (p : Place) (s : List Frame) (names : Names) (ts : List TokenMark) → IsNoWord ts
    → P (state (declaring m false) (awaits_declarator (behind_star p (onto before qs)) ∷ s) names ts) → P (state (qualifying m p before) s names (spell_qualifiers qs ts))
read_qualifiers back [] before m p s names ts h k = to back _ _ (qualified_end m p before s names ts h) k
read_qualifiers back (q ∷ qs) before m p s names ts h k = back _ (read_qualifiers back qs (q ∷ before) m p s names ts h k)

-- ---- parameters

opened_any : (m : Manner) (d : Declarator) (p : Place) (s : List Frame) (names : Names) (ts : List TokenMark) → IsNoPart ts
    → parameters_opened m d p s names ts ≡ Some (state (specifying nothing_seen []) (awaits_specifiers (for_parameter (record { declarator = d; place = p; manner = m; outside = names }) []) ∷ s) names ts)
opened_any m d p s names [] h = refl
opened_any m d p s names (part c ∷ ts) h = absurd h
opened_any m d p s names (_ ∷ ts) h = refl

pub parameters_first : (m : Manner) (d : Declarator) (p : Place) (s : List Frame) (names inner : Names) (ps : Parameters) (rest : List TokenMark)
    → HasParameter ps → AreParameters inner ps
    → let ts = spell_parameters ps (part close_paren ∷ rest) in
    parameters_opened m d p s names ts ≡ Some (state (specifying nothing_seen []) (awaits_specifiers (for_parameter (record { declarator = d; place = p; manner = m; outside = names }) []) ∷ s) names ts)
parameters_first m d p s names inner no_parameters rest h i = absurd h
parameters_first m d p s names inner (parameter_then no_specifiers e ps) rest h i = absurd (let j = i.0 in cc)
parameters_first m d p s names inner (parameter_then (specifier_then w ws) e ps) rest h i = opened_any m d p s names _ (specifiers_no_part w _)
  where
    specifiers_no_part : (w : Specifier) (ts : List TokenMark) → IsNoPart (spell_specifier w ts)
    specifiers_no_part (Word p k) ts = tt
    specifiers_no_part (TypeName n) ts = tt
    specifiers_no_part (Structure p n) ts = tt
    specifiers_no_part (StructureBody p n q ms) ts = tt
    specifiers_no_part (Enumeration p n) ts = tt
    specifiers_no_part (EnumerationBody p n q es c) ts = tt

pub parameters_begin : (names : Names) (ps : Parameters) → HasParameter ps → AreParameters names ps → (rest : List TokenMark) → begins_parameters names (spell_parameters ps rest) ≡ true
parameters_begin names no_parameters h i rest = absurd h
parameters_begin names (parameter_then no_specifiers e ps) h i rest = absurd (let j = i.0 in cc)
parameters_begin names (parameter_then (specifier_then (Word q k) ws) e ps) h i rest = i.0.0.0
parameters_begin names (parameter_then (specifier_then (TypeName n) ws) e ps) h i rest = i.0.0.1
parameters_begin names (parameter_then (specifier_then (Structure q n) ws) e ps) h i rest = refl
parameters_begin names (parameter_then (specifier_then (StructureBody q n r ms) ws) e ps) h i rest = refl
parameters_begin names (parameter_then (specifier_then (Enumeration q n) ws) e ps) h i rest = refl
parameters_begin names (parameter_then (specifier_then (EnumerationBody q n r es c) ws) e ps) h i rest = refl

pub follows_more : (ps : Parameters) (rest : List TokenMark) → FollowsDeclarator (spell_more_parameters ps (part close_paren ∷ rest))
follows_more no_parameters rest = tt
follows_more (parameter_then ws d ps) rest = tt

pub specifiers_more : (ps : Parameters) (rest : List TokenMark) → FollowsSpecifiers (spell_more_parameters ps (part close_paren ∷ rest))
specifiers_more no_parameters rest = tt
specifiers_more (parameter_then ws d ps) rest = tt

-- ---- specifiers

pub plain_word : (k : Keyword) (p : Place) (seen : Seen) (before : List Specifier) (s : List Frame) (names : Names) (ts : List TokenMark) → is_tagged_word k ≡ false
    → word_taken k p seen before s names ts ≡ state (specifying (with_word seen k) (Word p k ∷ before)) s names ts
plain_word keywords.Struct p seen before s names ts h = absurd cc
plain_word keywords.Enum p seen before s names ts h = absurd cc
plain_word _ p seen before s names ts h = refl

pub no_brace_follows : (rest : List TokenMark) → FollowsSpecifiers rest → IsNoBrace rest
no_brace_follows [] f = tt
no_brace_follows (sign signs.LeftBrace p ∷ ts) f = f
no_brace_follows (_ ∷ ts) f = tt

pub no_brace_specifiers : (ws : Specifiers) (rest : List TokenMark) → IsNoBrace rest → IsNoBrace (spell_specifiers ws rest)
no_brace_specifiers no_specifiers rest h = h
no_brace_specifiers (specifier_then (Word p k) ws) rest h = tt
no_brace_specifiers (specifier_then (TypeName n) ws) rest h = tt
no_brace_specifiers (specifier_then (Structure p n) ws) rest h = tt
no_brace_specifiers (specifier_then (StructureBody p n q ms) ws) rest h = tt
no_brace_specifiers (specifier_then (Enumeration p n) ws) rest h = tt
no_brace_specifiers (specifier_then (EnumerationBody p n q es c) ws) rest h = tt

pub tag_end : (is : Bool) (p : Place) (n : Name) (seen : Seen) (before : List Specifier) (s : List Frame) (names : Names) (ts : List TokenMark) → IsNoBrace ts
    → tag_followed is p n seen before s names ts ≡ Some (state (specifying (record seen { whole = true }) (tag_alone is p n ∷ before)) s names ts)
tag_end is p n seen before s names [] h = refl
tag_end is p n seen before s names (sign signs.LeftBrace q ∷ ts) h = absurd h
tag_end is p n seen before s names (_ ∷ ts) h = refl

pub specified_end : (seen : Seen) (before : List Specifier) (s : List Frame) (names : Names) (rest : List TokenMark) → has_type seen ≡ true → FollowsSpecifiers rest
    → specified seen before s names rest ≡ Some (state (gave_specifiers (specifiers_onto before no_specifiers)) s names rest)
specified_end seen before s names [] h f = absurd f
specified_end seen before s names (word k p ∷ ts) h f = absurd f
specified_end seen before s names (name n ∷ ts) h f = rw h refl
specified_end seen before s names (_ ∷ ts) h f = rw h refl

-- ---- bodies

pub members_next : (names : Names) (b : TypeBody) (before : List MemberLine) (s : List Frame) (ws : Specifiers) (rest : List TokenMark) → IsSpecifiers nothing_seen names ws
    → let ts = spell_specifiers ws rest in
    members_followed b before s names ts ≡ Some (state (specifying nothing_seen []) (awaits_specifiers (for_member b before) ∷ s) names ts)
members_next names b before s ws rest i = members_first names (spell_specifiers ws rest) (specifiers_begin names ws i rest) b before s

pub enumerated_end : (es : Enumerators) (c : Bool) (rest : List TokenMark) (b : TypeBody) (before : List EnumEntry) (n : Name) (s : List Frame) (names : Names)
    → let ts = spell_more_enumerators es (spell_comma c (part close_brace ∷ rest)) in
    enumerator_followed b before n s names ts ≡ Some (state (entered b before (record { name = n; value = None })) s ((n.number, false) ∷ names) ts)
enumerated_end no_enumerators true rest b before n s names = refl
enumerated_end no_enumerators false rest b before n s names = refl
enumerated_end (plain_then m es) c rest b before n s names = refl
enumerated_end (valued_then m p e es) c rest b before n s names = refl
