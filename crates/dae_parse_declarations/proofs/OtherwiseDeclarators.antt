-- Where the machine goes by the token that stands next, where that is none of those that it looks for.
use Rattle.std.proofs.Common.{◌≡◌, Bool, true, false, if◌then◌else◌, List, [], ◌∷◌, Option, Some, None, refl, sym, ap, subst, ◌∙◌}
use Rattle.std.proofs.lemmas.Option.{same_Some}
use Rattle.dae_base.specs.declared.Place.{Place}
use Rattle.dae_tree.specs.declared.words.Keyword.{Keyword}
use Rattle.dae_tree.specs.declared.words.Keyword.TheVariants as keywords
use Rattle.dae_tree.specs.declared.signs.Sign.{Sign}
use Rattle.dae_tree.specs.declared.signs.Sign.TheVariants as signs
use Rattle.dae_tree.specs.declared.expressions.Name.{Name}
use Rattle.dae_tree.specs.Marks.{TokenMark, word, sign, name, part, close_paren, close_bracket, close_brace, comma, colon, else_word, word_mark}
use Rattle.dae_tree.specs.Names.{Names, with_name}
use Rattle.dae_tree.specs.declared.seen.Seen.{Seen}
use Rattle.dae_tree.specs.Words.{admits, with_word, with_whole, nothing_seen}
use Rattle.dae_tree.specs.Grammar.{Manner, by_name, without_name, either_way}
use Rattle.dae_tree.specs.Trees.{Specifier, Specifiers, Declarator, Absent, Word}
use Rattle.dae_tree.specs.Lists.{MemberLine, EnumEntry, Parameter}
use Rattle.dae_parse_grammar.specs.Frames.{TypeBody, OpenParameters, Frame, ParserState, state, in_size, for_member, for_parameter, behind_star, seek, specifying, entered, enumerating, declaring, suffixing, awaits_expression, awaits_specifiers, awaits_declarator}
use Rattle.dae_parse_grammar.specs.Machine.{onto, specified, specifiers_end, word_taken, tag_taken, tag_followed, tag_alone, members_followed, enumerator_named, enumerator_followed, entry_followed, comma_followed, member_given, parameter_given, declared, nothing_declared, group_opened, parenthesis_declared, bracket_declared, qualified, sized, parameters_opened}
use Rattle.dae_parse_states.specs.Fronts.{sign_at, word_at, name_at}
use Rattle.dae_parse_grammar.specs.Stuck.{behind}
use Rattle.dae_parse_declarations.specs.Ahead.{parameters_ahead}
use Rattle.dae_parse_grammar.specs.Frames.{gave_declarator}
use Rattle.dae_parse_grammar.specs.Machine.{suffixed}

pub suffixed_otherwise : (m : Manner) (d : Declarator) (s : List Frame) (names : Names) (ts : List TokenMark) → ¬ (sign_at ts ≡ Some signs.LeftBracket) → ¬ (sign_at ts ≡ Some signs.LeftParen)
    → suffixed m d s names ts ≡ Some (state (gave_declarator d) s names ts)
suffixed_otherwise m d s names [] h k = refl
suffixed_otherwise m d s names (sign signs.LeftBracket p ∷ ts) h k = absurd (h refl)
suffixed_otherwise m d s names (sign signs.LeftParen p ∷ ts) h k = absurd (k refl)
suffixed_otherwise m d s names (_ ∷ ts) h k = refl

-- ---- specifiers

pub specified_by_word : (seen : Seen) (before : List Specifier) (s : List Frame) (names : Names) (k : Keyword) (p : Place) (ts : List TokenMark)
    → specified seen before s names (word_mark k p ∷ ts) ≡ (if admits seen k then Some (word_taken k p seen before s names ts) else specifiers_end seen before s names (word_mark k p ∷ ts))
specified_by_word seen before s names keywords.Else p ts = refl
specified_by_word seen before s names _ p ts = refl

pub word_taken_otherwise : (k : Keyword) (p : Place) (seen : Seen) (before : List Specifier) (s : List Frame) (names : Names) (ts : List TokenMark) → ¬ (k ≡ keywords.Struct) → ¬ (k ≡ keywords.Enum)
    → word_taken k p seen before s names ts ≡ state (specifying (with_word seen k) (Word p k ∷ before)) s names ts
word_taken_otherwise keywords.Struct p seen before s names ts h k = absurd (h refl)
word_taken_otherwise keywords.Enum p seen before s names ts h k = absurd (k refl)
word_taken_otherwise _ p seen before s names ts h k = refl

pub specified_otherwise : (seen : Seen) (before : List Specifier) (s : List Frame) (names : Names) (ts : List TokenMark) → word_at ts ≡ None → name_at ts ≡ None
    → specified seen before s names ts ≡ specifiers_end seen before s names ts
specified_otherwise seen before s names [] h k = refl
specified_otherwise seen before s names (word w p ∷ ts) h k = cc
specified_otherwise seen before s names (name n ∷ ts) h k = cc
specified_otherwise seen before s names (_ ∷ ts) h k = refl

-- ---- bodies

pub tag_or_none : (is : Bool) (p : Place) (seen : Seen) (before : List Specifier) (s : List Frame) (names : Names) (ts : List TokenMark) → name_at ts ≡ None → ¬ (sign_at ts ≡ Some signs.LeftBrace)
    → tag_taken is p seen before s names ts ≡ None
tag_or_none is p seen before s names [] h k = refl
tag_or_none is p seen before s names (name n ∷ ts) h k = cc
tag_or_none is p seen before s names (sign signs.LeftBrace q ∷ ts) h k = absurd (k refl)
tag_or_none is p seen before s names (_ ∷ ts) h k = refl

pub tag_alone_otherwise : (is : Bool) (p : Place) (n : Name) (seen : Seen) (before : List Specifier) (s : List Frame) (names : Names) (ts : List TokenMark) → ¬ (sign_at ts ≡ Some signs.LeftBrace)
    → tag_followed is p n seen before s names ts ≡ Some (state (specifying (with_whole seen) (tag_alone is p n ∷ before)) s names ts)
tag_alone_otherwise is p n seen before s names [] h = refl
tag_alone_otherwise is p n seen before s names (sign signs.LeftBrace q ∷ ts) h = absurd (h refl)
tag_alone_otherwise is p n seen before s names (_ ∷ ts) h = refl

pub members_otherwise : (b : TypeBody) (before : List MemberLine) (s : List Frame) (names : Names) (ts : List TokenMark) → ¬ (sign_at ts ≡ Some signs.RightBrace)
    → members_followed b before s names ts ≡ Some (state (specifying nothing_seen []) (awaits_specifiers (for_member b before) ∷ s) names ts)
members_otherwise b [] s names ts h = refl
members_otherwise b (m ∷ before) s names [] h = refl
members_otherwise b (m ∷ before) s names (part close_brace ∷ ts) h = absurd (h refl)
members_otherwise b (m ∷ before) s names (_ ∷ ts) h = refl

pub enumerator_or_none : (b : TypeBody) (before : List EnumEntry) (s : List Frame) (names : Names) (ts : List TokenMark) → name_at ts ≡ None
    → enumerator_named b before s names ts ≡ None
enumerator_or_none b before s names [] h = refl
enumerator_or_none b before s names (name n ∷ ts) h = cc
enumerator_or_none b before s names (_ ∷ ts) h = refl

pub enumerator_otherwise : (b : TypeBody) (before : List EnumEntry) (n : Name) (s : List Frame) (names : Names) (ts : List TokenMark) → ¬ (sign_at ts ≡ Some signs.Assign)
    → enumerator_followed b before n s names ts ≡ Some (state (entered b before (record { name = n; value = None })) s (with_name false n names) ts)
enumerator_otherwise b before n s names [] h = refl
enumerator_otherwise b before n s names (sign signs.Assign p ∷ ts) h = absurd (h refl)
enumerator_otherwise b before n s names (_ ∷ ts) h = refl

pub entry_or_none : (b : TypeBody) (before : List EnumEntry) (e : EnumEntry) (s : List Frame) (names : Names) (ts : List TokenMark) → ¬ (sign_at ts ≡ Some signs.Comma) → ¬ (sign_at ts ≡ Some signs.RightBrace)
    → entry_followed b before e s names ts ≡ None
entry_or_none b before e s names [] h k = refl
entry_or_none b before e s names (part comma ∷ ts) h k = absurd (h refl)
entry_or_none b before e s names (part close_brace ∷ ts) h k = absurd (k refl)
entry_or_none b before e s names (_ ∷ ts) h k = refl

pub comma_otherwise : (b : TypeBody) (before : List EnumEntry) (e : EnumEntry) (s : List Frame) (names : Names) (ts : List TokenMark) → ¬ (sign_at ts ≡ Some signs.RightBrace)
    → comma_followed b before e s names ts ≡ Some (state (enumerating b (e ∷ before)) s names ts)
comma_otherwise b before e s names [] h = refl
comma_otherwise b before e s names (part close_brace ∷ ts) h = absurd (h refl)
comma_otherwise b before e s names (_ ∷ ts) h = refl

pub member_or_none : (d : Declarator) (b : TypeBody) (lines : List MemberLine) (ws : Specifiers) (before : List Declarator) (s : List Frame) (names : Names) (ts : List TokenMark) → ¬ (sign_at ts ≡ Some signs.Comma) → ¬ (sign_at ts ≡ Some signs.Semicolon)
    → member_given d b lines ws before s names ts ≡ None
member_or_none d b lines ws before s names [] h k = refl
member_or_none d b lines ws before s names (part comma ∷ ts) h k = absurd (h refl)
member_or_none d b lines ws before s names (sign signs.Semicolon p ∷ ts) h k = absurd (k refl)
member_or_none d b lines ws before s names (_ ∷ ts) h k = refl

-- ---- declarators

-- a parenthesis or a bracket that stands next, with its place
paren_stands : (ts : List TokenMark) → sign_at ts ≡ Some signs.LeftParen → (p : Place) × (ts ≡ sign signs.LeftParen p ∷ behind ts)
paren_stands [] h = cc
paren_stands (sign g p ∷ ts) h = (p, ap (λ (x : Sign). sign x p ∷ ts) (same_Some g signs.LeftParen h))
paren_stands (part close_paren ∷ ts) h = cc
paren_stands (part close_bracket ∷ ts) h = cc
paren_stands (part close_brace ∷ ts) h = cc
paren_stands (part comma ∷ ts) h = cc
paren_stands (part colon ∷ ts) h = cc
paren_stands (part else_word ∷ ts) h = cc
paren_stands (_ ∷ ts) h = cc

bracket_stands : (ts : List TokenMark) → sign_at ts ≡ Some signs.LeftBracket → (p : Place) × (ts ≡ sign signs.LeftBracket p ∷ behind ts)
bracket_stands [] h = cc
bracket_stands (sign g p ∷ ts) h = (p, ap (λ (x : Sign). sign x p ∷ ts) (same_Some g signs.LeftBracket h))
bracket_stands (part close_paren ∷ ts) h = cc
bracket_stands (part close_bracket ∷ ts) h = cc
bracket_stands (part close_brace ∷ ts) h = cc
bracket_stands (part comma ∷ ts) h = cc
bracket_stands (part colon ∷ ts) h = cc
bracket_stands (part else_word ∷ ts) h = cc
bracket_stands (_ ∷ ts) h = cc

abbrev bracket_found : Manner → List Frame → Names → List TokenMark → Option ParserState
bracket_found by_name s names ts = None
bracket_found m s names ts = Some (state (suffixing m Absent) s names ts)

found_is : (m : Manner) (p : Place) (s : List Frame) (names : Names) (ts : List TokenMark) → bracket_declared m p s names ts ≡ bracket_found m s names (sign signs.LeftBracket p ∷ ts)
found_is by_name p s names ts = refl
found_is without_name p s names ts = refl
found_is either_way p s names ts = refl

bracket_next : (m : Manner) (needed : Bool) (s : List Frame) (names : Names) (ts : List TokenMark) → sign_at ts ≡ Some signs.LeftBracket → declared m needed s names ts ≡ bracket_found m s names ts
bracket_next m needed s names ts h =
    let b = bracket_stands ts h in
    subst (λ (us : List TokenMark). declared m needed s names us ≡ bracket_found m s names us) (sym b.1) (found_is m b.0 s names (behind ts))

pub bracket_by_name : (needed : Bool) (s : List Frame) (names : Names) (ts : List TokenMark) → sign_at ts ≡ Some signs.LeftBracket
    → declared by_name needed s names ts ≡ None
bracket_by_name needed s names ts h = bracket_next by_name needed s names ts h

pub bracket_without : (needed : Bool) (s : List Frame) (names : Names) (ts : List TokenMark) → sign_at ts ≡ Some signs.LeftBracket
    → declared without_name needed s names ts ≡ Some (state (suffixing without_name Absent) s names ts)
bracket_without needed s names ts h = bracket_next without_name needed s names ts h

pub bracket_either : (needed : Bool) (s : List Frame) (names : Names) (ts : List TokenMark) → sign_at ts ≡ Some signs.LeftBracket
    → declared either_way needed s names ts ≡ Some (state (suffixing either_way Absent) s names ts)
bracket_either needed s names ts h = bracket_next either_way needed s names ts h

parameters_of : (m : Manner) (p : Place) (s : List Frame) (names : Names) (ts : List TokenMark)
    → parenthesis_declared m p s names ts ≡ (if parameters_ahead m names ts then Some (state (suffixing m Absent) s names (sign signs.LeftParen p ∷ ts)) else group_opened m p s names ts)
parameters_of by_name p s names ts = refl
parameters_of without_name p s names ts = refl
parameters_of either_way p s names ts = refl

pub parameters_declared : (m : Manner) (needed : Bool) (s : List Frame) (names : Names) (ts : List TokenMark) → sign_at ts ≡ Some signs.LeftParen → parameters_ahead m names (behind ts) ≡ true
    → declared m needed s names ts ≡ Some (state (suffixing m Absent) s names ts)
parameters_declared m needed s names ts h k =
    let b = paren_stands ts h in
    subst (λ (us : List TokenMark). declared m needed s names us ≡ Some (state (suffixing m Absent) s names us)) (sym b.1)
    (parameters_of m b.0 s names (behind ts) ∙ ap (λ (is : Bool). if is then Some (state (suffixing m Absent) s names (sign signs.LeftParen b.0 ∷ behind ts)) else group_opened m b.0 s names (behind ts)) k)

pub group_declared : (m : Manner) (needed : Bool) (p : Place) (s : List Frame) (names : Names) (ts : List TokenMark) → parameters_ahead m names ts ≡ false
    → declared m needed s names (sign signs.LeftParen p ∷ ts) ≡ group_opened m p s names ts
group_declared m needed p s names ts k = parameters_of m p s names ts ∙ ap (λ (is : Bool). if is then Some (state (suffixing m Absent) s names (sign signs.LeftParen p ∷ ts)) else group_opened m p s names ts) k

pub declared_otherwise : (m : Manner) (needed : Bool) (s : List Frame) (names : Names) (ts : List TokenMark) → ¬ (sign_at ts ≡ Some signs.Times) → ¬ (sign_at ts ≡ Some signs.LeftParen) → ¬ (sign_at ts ≡ Some signs.LeftBracket) → name_at ts ≡ None
    → declared m needed s names ts ≡ nothing_declared m needed s names ts
declared_otherwise m needed s names [] a b c h = refl
declared_otherwise m needed s names (sign signs.Times p ∷ ts) a b c h = absurd (a refl)
declared_otherwise m needed s names (sign signs.LeftParen p ∷ ts) a b c h = absurd (b refl)
declared_otherwise m needed s names (sign signs.LeftBracket p ∷ ts) a b c h = absurd (c refl)
declared_otherwise m needed s names (name n ∷ ts) a b c h = cc
declared_otherwise m needed s names (_ ∷ ts) a b c h = refl

pub without_otherwise : (needed : Bool) (s : List Frame) (names : Names) (ts : List TokenMark) → ¬ (sign_at ts ≡ Some signs.Times) → ¬ (sign_at ts ≡ Some signs.LeftParen) → ¬ (sign_at ts ≡ Some signs.LeftBracket)
    → declared without_name needed s names ts ≡ nothing_declared without_name needed s names ts
without_otherwise needed s names [] a b c = refl
without_otherwise needed s names (sign signs.Times p ∷ ts) a b c = absurd (a refl)
without_otherwise needed s names (sign signs.LeftParen p ∷ ts) a b c = absurd (b refl)
without_otherwise needed s names (sign signs.LeftBracket p ∷ ts) a b c = absurd (c refl)
without_otherwise needed s names (_ ∷ ts) a b c = refl

pub qualified_otherwise : (m : Manner) (p : Place) (before : List Place) (s : List Frame) (names : Names) (ts : List TokenMark) → ¬ (word_at ts ≡ Some keywords.Const)
    → qualified m p before s names ts ≡ Some (state (declaring m false) (awaits_declarator (behind_star p (onto before [])) ∷ s) names ts)
qualified_otherwise m p before s names [] h = refl
qualified_otherwise m p before s names (word keywords.Const q ∷ ts) h = absurd (h refl)
qualified_otherwise m p before s names (_ ∷ ts) h = refl

pub sized_otherwise : (m : Manner) (d : Declarator) (p : Place) (s : List Frame) (names : Names) (ts : List TokenMark) → ¬ (sign_at ts ≡ Some signs.RightBracket)
    → sized m d p s names ts ≡ Some (state (seek 14) (awaits_expression (in_size d p m) ∷ s) names ts)
sized_otherwise m d p s names [] h = refl
sized_otherwise m d p s names (part close_bracket ∷ ts) h = absurd (h refl)
sized_otherwise m d p s names (_ ∷ ts) h = refl

pub parameters_otherwise : (m : Manner) (d : Declarator) (p : Place) (s : List Frame) (names : Names) (ts : List TokenMark) → ¬ (sign_at ts ≡ Some signs.RightParen)
    → parameters_opened m d p s names ts ≡ Some (state (specifying nothing_seen []) (awaits_specifiers (for_parameter (record { declarator = d; place = p; manner = m; outside = names }) []) ∷ s) names ts)
parameters_otherwise m d p s names [] h = refl
parameters_otherwise m d p s names (part close_paren ∷ ts) h = absurd (h refl)
parameters_otherwise m d p s names (_ ∷ ts) h = refl

pub parameter_or_none : (d : Declarator) (o : OpenParameters) (before : List Parameter) (ws : Specifiers) (s : List Frame) (names : Names) (ts : List TokenMark) → ¬ (sign_at ts ≡ Some signs.Comma) → ¬ (sign_at ts ≡ Some signs.RightParen)
    → parameter_given d o before ws s names ts ≡ None
parameter_or_none d o before ws s names [] h k = refl
parameter_or_none d o before ws s names (part comma ∷ ts) h k = absurd (h refl)
parameter_or_none d o before ws s names (part close_paren ∷ ts) h k = absurd (k refl)
parameter_or_none d o before ws s names (_ ∷ ts) h k = refl
