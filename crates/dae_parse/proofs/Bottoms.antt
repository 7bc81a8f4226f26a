-- What is read of a file stands at the bottom of the stack alone, whatever the machine does.
use Rattle.std.proofs.Common.{◌≡◌, ℕ, zero, suc, leb, ◌&&◌, not, if◌then◌else◌, Bool, true, false, List, [], ◌∷◌, Option, Some, None, refl, sym, subst}
use Rattle.dae_base.specs.declared.Place.{Place}
use Rattle.dae_tree.specs.declared.words.Keyword.{Keyword}
use Rattle.dae_tree.specs.declared.words.Keyword.TheVariants as keywords
use Rattle.dae_tree.specs.declared.signs.Sign.{Sign}
use Rattle.dae_tree.specs.declared.signs.Sign.TheVariants as signs
use Rattle.dae_tree.specs.declared.expressions.Name.{Name}
use Rattle.dae_tree.specs.declared.operators.PrefixOperator.{PrefixOperator}
use Rattle.dae_tree.specs.declared.operators.MemberOperator.{MemberOperator}
use Rattle.dae_tree.specs.Operators.{prefix_at}
use Rattle.dae_tree.specs.Marks.{TokenMark, word, sign, name, constant, literal, part, close_paren, close_bracket, close_brace, comma, colon, else_word}
use Rattle.dae_tree.specs.declared.seen.Seen.{Seen}
use Rattle.dae_tree.specs.Words.{has_type, admits, begins_specifiers}
use Rattle.dae_tree.specs.Names.{Names, is_type, has_typedef, with_declarator}
use Rattle.dae_tree.specs.Grammar.{Manner, by_name, without_name, either_way}
use Rattle.dae_tree.specs.Trees.{Expression, Specifiers, Specifier, Declarator, Initialiser, InitDeclarator, Declaration, Statement, External, Block}
use Rattle.dae_tree.specs.Lists.{MemberLine, EnumEntry, Parameter}
use Rattle.dae_parse_grammar.specs.Frames.{TypeBody, OpenParameters, StatementHead, Loop, Inside, if_head, while_head, switch_head, do_head, Frame, in_parentheses, in_index, in_arguments, behind_prefix, behind_sizeof, behind_cast, behind_binary, behind_question, behind_colon, behind_assignment, behind_comma, in_size, in_enumerator, in_value, in_evaluation, in_test, in_start, in_loop_test, in_step, in_return, in_case, for_cast, for_sizeof, for_parameter, for_member, for_declaration, behind_star, in_group, of_cast, of_sizeof, of_parameter, of_member, of_item, in_list, of_value, in_file, in_block, then_branch, else_branch, while_body, switch_body, do_body, for_body, case_body, default_body, in_statements, in_definition, Doing, seek, operated, gave, calling, measuring, specifying, tagging, tagged, membering, enumerating, enumerated, entered, entering, gave_specifiers, declaring, qualifying, suffixing, sizing, parametering, gave_declarator, initialising, listing, gave_initialiser, itemed, gave_declaration, externals, declarations, statements, stating, opening, finishing, looping, starting, testing, stepping, returning, breaking, continuing, defaulting, gave_statement, ParserState, state, awaits_initialiser, awaits_declaration, awaits_expression, awaits_specifiers, awaits_declarator, awaits_statement, ExpressionFrame, SpecifiersFrame, DeclaratorFrame, StatementFrame}
use Rattle.dae_parse_grammar.specs.Machine.{initialised, listed, list_followed, initialiser_taken, item_followed, declaration_taken, external_begun, block_followed, sign_stated, word_stated, stated, started, loop_tested, stepped, returned, branched, done_followed, defined, statement_given, called, measured, enumerator_named, enumerator_followed, declaration_begun, specifiers_given, nothing_declared, begins_parameters, parenthesis_declared, bracket_declared, name_declared, declared, qualified, suffixed, sized, parameters_opened, parameter_given, member_given, item_given, declarator_given, at_paren, at_bracket, at_colon, at_semicolon, at_open, prefixed, sign_sought, sought, named_member, operated_at, argument_given, tested, expression_given, specifiers_end, word_taken, specified, body, body_opened, tag_taken, tag_followed, members_followed, entry_followed, comma_followed, step, operation, operate, goes_on, begun, Operation, subscript, call, member_of, step_of, binary_of, choice, assignment_of, ends}
use Rattle.dae_parse_grammar.specs.Runs.{run}
use Rattle.dae_parse_states.specs.Bottom.{IsBottom}
use Rattle.dae_parse_states.specs.Bottom.{IsEmptyAt, IsBottomState}

abbrev After : Option ParserState → Type 0
After None = Unit {0}
After (Some s) = IsBottomState s

branch : (b : Bool) (x y : Option ParserState) → After x → After y → After (if b then x else y)
branch true x y h k = h
branch false x y h k = k

either : (b : Bool) (x y : ParserState) → IsBottomState x → IsBottomState y → IsBottomState (if b then x else y)
either true x y h k = h
either false x y h k = k

-- ---- one token that must stand there

bottom_paren : (ts : List TokenMark) (next : List TokenMark → ParserState) → ((us : List TokenMark) → IsBottomState (next us)) → After (at_paren ts next)
bottom_paren [] next h = tt
bottom_paren (part close_paren ∷ ts) next h = h ts
bottom_paren (_ ∷ ts) next h = tt

bottom_bracket : (ts : List TokenMark) (next : List TokenMark → ParserState) → ((us : List TokenMark) → IsBottomState (next us)) → After (at_bracket ts next)
bottom_bracket [] next h = tt
bottom_bracket (part close_bracket ∷ ts) next h = h ts
bottom_bracket (_ ∷ ts) next h = tt

bottom_colon : (ts : List TokenMark) (next : List TokenMark → ParserState) → ((us : List TokenMark) → IsBottomState (next us)) → After (at_colon ts next)
bottom_colon [] next h = tt
bottom_colon (part colon ∷ ts) next h = h ts
bottom_colon (_ ∷ ts) next h = tt

bottom_semicolon : (ts : List TokenMark) (next : Place → List TokenMark → ParserState) → ((p : Place) (us : List TokenMark) → IsBottomState (next p us)) → After (at_semicolon ts next)
bottom_semicolon [] next h = tt
bottom_semicolon (sign signs.Semicolon p ∷ ts) next h = h p ts
bottom_semicolon (_ ∷ ts) next h = tt

bottom_open : (ts : List TokenMark) (next : Place → List TokenMark → ParserState) → ((p : Place) (us : List TokenMark) → IsBottomState (next p us)) → After (at_open ts next)
bottom_open [] next h = tt
bottom_open (sign signs.LeftParen p ∷ ts) next h = h p ts
bottom_open (_ ∷ ts) next h = tt

-- ---- expressions

bottom_prefixed : (o : Option PrefixOperator) (p : Place) (l : ℕ) (s : List Frame) (names : Names) (ts : List TokenMark) → IsBottom s → After (prefixed o p l s names ts)
bottom_prefixed None p l s names ts st = tt
bottom_prefixed (Some o) p l s names ts st = (st, tt)

bottom_sign : (g : Sign) (p : Place) (l : ℕ) (s : List Frame) (names : Names) (ts : List TokenMark) → IsBottom s → After (sign_sought g p l s names ts)
bottom_sign signs.LeftParen p l s names ts st = either (begins_specifiers names ts && leb 3 l) _ _ (st, tt) (st, tt)
bottom_sign g p l s names ts st = bottom_prefixed (prefix_at g) p l s names ts st

bottom_sought : (l : ℕ) (s : List Frame) (names : Names) (ts : List TokenMark) → IsBottom s → After (sought l s names ts)
bottom_sought l s names [] st = tt
bottom_sought l s names (name n ∷ ts) st = branch (is_type names n.number) _ _ tt (st, tt)
bottom_sought l s names (word keywords.Sizeof p ∷ ts) st = (st, tt)
bottom_sought l s names (word _ p ∷ ts) st = tt
bottom_sought l s names (sign g p ∷ ts) st = bottom_sign g p l s names ts st
bottom_sought l s names (constant p c ∷ ts) st = (st, tt)
bottom_sought l s names (literal p n ∷ ts) st = (st, tt)
bottom_sought l s names (part c ∷ ts) st = tt

bottom_member : (e : Expression) (p : Place) (o : MemberOperator) (l : ℕ) (s : List Frame) (names : Names) (ts : List TokenMark) → IsBottom s → After (named_member e p o l s names ts)
bottom_member e p o l s names [] st = tt
bottom_member e p o l s names (name n ∷ ts) st = (st, tt)
bottom_member e p o l s names (_ ∷ ts) st = tt

bottom_operate : (o : Operation) (e : Expression) (p : Place) (l : ℕ) (s : List Frame) (names : Names) (ts : List TokenMark) → IsBottom s → After (operate o e p l s names ts)
bottom_operate subscript e p l s names ts st = (st, tt)
bottom_operate call e p l s names ts st = (st, tt)
bottom_operate (member_of o) e p l s names ts st = bottom_member e p o l s names ts st
bottom_operate (step_of o) e p l s names ts st = (st, tt)
bottom_operate (binary_of o) e p l s names ts st = (st, tt)
bottom_operate choice e p l s names ts st = (st, tt)
bottom_operate (assignment_of o) e p l s names ts st = (st, tt)
bottom_operate ends e p l s names ts st = tt

bottom_operated : (e : Expression) (l : ℕ) (s : List Frame) (names : Names) (ts : List TokenMark) → IsBottom s → After (operated_at e l s names ts)
bottom_operated e l s names [] st = (st, tt)
bottom_operated e l s names (sign g p ∷ ts) st = branch (goes_on (operation g) e l) _ _ (bottom_operate (operation g) e p l s names ts st) (st, tt)
bottom_operated e l s names (part comma ∷ ts) st = branch (leb 16 l) _ _ (st, tt) (st, tt)
bottom_operated e l s names (_ ∷ ts) st = (st, tt)

bottom_argument : (a g : Expression) (p : Place) (before : List Expression) (l : ℕ) (s : List Frame) (names : Names) (ts : List TokenMark) → IsBottom s → After (argument_given a g p before l s names ts)
bottom_argument a g p before l s names [] st = tt
bottom_argument a g p before l s names (part comma ∷ ts) st = (st, tt)
bottom_argument a g p before l s names (part close_paren ∷ ts) st = (st, tt)
bottom_argument a g p before l s names (_ ∷ ts) st = tt

bottom_tested : (h : StatementHead) (p : Place) (e : Expression) (s : List Frame) (names : Names) (ts : List TokenMark) → IsBottom s → IsBottomState (tested h p e s names ts)
bottom_tested (if_head q) p e s names ts st = (st, tt)
bottom_tested (while_head q) p e s names ts st = (st, tt)
bottom_tested (switch_head q) p e s names ts st = (st, tt)
bottom_tested (do_head q b r) p e s names ts st = (st, tt)

bottom_expression : (e : Expression) (f : ExpressionFrame) (s : List Frame) (names : Names) (ts : List TokenMark) → IsBottom (awaits_expression f ∷ s) → After (expression_given e f s names ts)
bottom_expression e (in_parentheses p l) s names ts st = bottom_paren ts _ (λ us. (st, tt))
bottom_expression e (in_index a p l) s names ts st = bottom_bracket ts _ (λ us. (st, tt))
bottom_expression e (in_arguments g p before l) s names ts st = bottom_argument e g p before l s names ts st
bottom_expression e (behind_prefix p o l) s names ts st = (st, tt)
bottom_expression e (behind_sizeof p l) s names ts st = (st, tt)
bottom_expression e (behind_cast p ws d l) s names ts st = (st, tt)
bottom_expression e (behind_binary a p o l) s names ts st = (st, tt)
bottom_expression e (behind_question a p l) s names ts st = bottom_colon ts _ (λ us. (st, tt))
bottom_expression e (behind_colon a p b l) s names ts st = (st, tt)
bottom_expression e (behind_assignment a p o l) s names ts st = (st, tt)
bottom_expression e (behind_comma a l) s names ts st = (st, tt)
bottom_expression e (in_size d p m) s names ts st = bottom_bracket ts _ (λ us. (st, tt))
bottom_expression e (in_enumerator b before n p) s names ts st = (st, tt)
bottom_expression e in_value s names ts st = (st, tt)
bottom_expression e in_evaluation s names ts st = bottom_semicolon ts _ (λ p us. (st, tt))
bottom_expression e (in_test h p) s names ts st = bottom_paren ts _ (λ us. bottom_tested h p e s names us st)
bottom_expression e (in_start p q) s names ts st = bottom_semicolon ts _ (λ r us. (st, tt))
bottom_expression e (in_loop_test p q a r) s names ts st = bottom_semicolon ts _ (λ u us. (st, tt))
bottom_expression e (in_step loop) s names ts st = bottom_paren ts _ (λ us. (st, tt))
bottom_expression e (in_return p) s names ts st = bottom_semicolon ts _ (λ q us. (st, tt))
bottom_expression e (in_case p) s names ts st = bottom_colon ts _ (λ us. (st, tt))

-- ---- specifiers

bottom_end : (seen : Seen) (before : List Specifier) (s : List Frame) (names : Names) (ts : List TokenMark) → IsBottom s → After (specifiers_end seen before s names ts)
bottom_end seen before s names ts st = branch (has_type seen) _ _ (st, tt) tt

bottom_word : (k : Keyword) (p : Place) (seen : Seen) (before : List Specifier) (s : List Frame) (names : Names) (ts : List TokenMark) → IsBottom s → IsBottomState (word_taken k p seen before s names ts)
bottom_word keywords.Struct p seen before s names ts st = (st, tt)
bottom_word keywords.Enum p seen before s names ts st = (st, tt)
bottom_word _ p seen before s names ts st = (st, tt)

bottom_specified : (seen : Seen) (before : List Specifier) (s : List Frame) (names : Names) (ts : List TokenMark) → IsBottom s → After (specified seen before s names ts)
bottom_specified seen before s names [] st = bottom_end seen before s names [] st
bottom_specified seen before s names (word k p ∷ ts) st = branch (admits seen k) _ _ (bottom_word k p seen before s names ts st) (bottom_end seen before s names (word k p ∷ ts) st)
bottom_specified seen before s names (name n ∷ ts) st = branch (not (has_type seen) && is_type names n.number) _ _ (st, tt) (bottom_end seen before s names (name n ∷ ts) st)
bottom_specified seen before s names (t ∷ ts) st = bottom_end seen before s names (t ∷ ts) st

bottom_body : (is : Bool) (p : Place) (tag : Option Name) (q : Place) (seen : Seen) (before : List Specifier) (s : List Frame) (names : Names) (ts : List TokenMark) → IsBottom s → IsBottomState (body_opened is (body p tag q seen before) s names ts)
bottom_body true p tag q seen before s names ts st = (st, tt)
bottom_body false p tag q seen before s names ts st = (st, tt)

bottom_tag : (is : Bool) (p : Place) (seen : Seen) (before : List Specifier) (s : List Frame) (names : Names) (ts : List TokenMark) → IsBottom s → After (tag_taken is p seen before s names ts)
bottom_tag is p seen before s names [] st = tt
bottom_tag is p seen before s names (name n ∷ ts) st = (st, tt)
bottom_tag is p seen before s names (sign signs.LeftBrace q ∷ ts) st = bottom_body is p None q seen before s names ts st
bottom_tag is p seen before s names (_ ∷ ts) st = tt

bottom_tagged : (is : Bool) (p : Place) (n : Name) (seen : Seen) (before : List Specifier) (s : List Frame) (names : Names) (ts : List TokenMark) → IsBottom s → After (tag_followed is p n seen before s names ts)
bottom_tagged is p n seen before s names [] st = (st, tt)
bottom_tagged is p n seen before s names (sign signs.LeftBrace q ∷ ts) st = bottom_body is p (Some n) q seen before s names ts st
bottom_tagged is p n seen before s names (t ∷ ts) st = (st, tt)

bottom_members : (b : TypeBody) (before : List MemberLine) (s : List Frame) (names : Names) (ts : List TokenMark) → IsBottom s → After (members_followed b before s names ts)
bottom_members b [] s names [] st = (st, tt)
bottom_members b [] s names (part close_brace ∷ ts) st = (st, tt)
bottom_members b [] s names (_ ∷ ts) st = (st, tt)
bottom_members b (m ∷ before) s names [] st = (st, tt)
bottom_members b (m ∷ before) s names (part close_brace ∷ ts) st = (st, tt)
bottom_members b (m ∷ before) s names (_ ∷ ts) st = (st, tt)

bottom_entered : (b : TypeBody) (before : List EnumEntry) (e : EnumEntry) (s : List Frame) (names : Names) (ts : List TokenMark) → IsBottom s → After (entry_followed b before e s names ts)
bottom_entered b before e s names [] st = tt
bottom_entered b before e s names (part comma ∷ ts) st = (st, tt)
bottom_entered b before e s names (part close_brace ∷ ts) st = (st, tt)
bottom_entered b before e s names (_ ∷ ts) st = tt

bottom_entering : (b : TypeBody) (before : List EnumEntry) (e : EnumEntry) (s : List Frame) (names : Names) (ts : List TokenMark) → IsBottom s → After (comma_followed b before e s names ts)
bottom_entering b before e s names [] st = (st, tt)
bottom_entering b before e s names (part close_brace ∷ ts) st = (st, tt)
bottom_entering b before e s names (_ ∷ ts) st = (st, tt)

bottom_enumerated : (b : TypeBody) (before : List EnumEntry) (n : Name) (s : List Frame) (names : Names) (ts : List TokenMark) → IsBottom s → After (enumerator_followed b before n s names ts)
bottom_enumerated b before n s names [] st = (st, tt)
bottom_enumerated b before n s names (sign signs.Assign p ∷ ts) st = (st, tt)
bottom_enumerated b before n s names (_ ∷ ts) st = (st, tt)

-- ---- declarators

bottom_begun : (outer : Bool) (ws : Specifiers) (s : List Frame) (names : Names) (ts : List TokenMark) → IsBottom s → After (declaration_begun outer ws s names ts)
bottom_begun outer ws s names [] st = (st, tt)
bottom_begun outer ws s names (sign signs.Semicolon p ∷ ts) st = (st, tt)
bottom_begun outer ws s names (_ ∷ ts) st = (st, tt)

bottom_specifiers : (ws : Specifiers) (f : SpecifiersFrame) (s : List Frame) (names : Names) (ts : List TokenMark) → IsBottom (awaits_specifiers f ∷ s) → After (specifiers_given ws f s names ts)
bottom_specifiers ws (for_cast p l) s names ts st = (st, tt)
bottom_specifiers ws (for_sizeof p q l) s names ts st = (st, tt)
bottom_specifiers ws (for_parameter o before) s names ts st = (st, tt)
bottom_specifiers ws (for_member b before) s names ts st = (st, tt)
bottom_specifiers ws (for_declaration outer) s names ts st = bottom_begun outer ws s names ts st

bottom_nothing : (m : Manner) (needed : Bool) (s : List Frame) (names : Names) (ts : List TokenMark) → IsBottom s → After (nothing_declared m needed s names ts)
bottom_nothing by_name needed s names ts st = tt
bottom_nothing without_name true s names ts st = tt
bottom_nothing without_name false s names ts st = (st, tt)
bottom_nothing either_way true s names ts st = tt
bottom_nothing either_way false s names ts st = (st, tt)

bottom_parenthesis : (m : Manner) (p : Place) (s : List Frame) (names : Names) (ts : List TokenMark) → IsBottom s → After (parenthesis_declared m p s names ts)
bottom_parenthesis by_name p s names ts st = (st, tt)
bottom_parenthesis without_name p s names ts st = branch (begins_parameters names ts) _ _ (st, tt) (st, tt)
bottom_parenthesis either_way p s names ts st = branch (begins_parameters names ts) _ _ (st, tt) (st, tt)

bottom_bracket_declared : (m : Manner) (p : Place) (s : List Frame) (names : Names) (ts : List TokenMark) → IsBottom s → After (bracket_declared m p s names ts)
bottom_bracket_declared by_name p s names ts st = tt
bottom_bracket_declared without_name p s names ts st = (st, tt)
bottom_bracket_declared either_way p s names ts st = (st, tt)

bottom_named : (m : Manner) (needed : Bool) (n : Name) (s : List Frame) (names : Names) (ts : List TokenMark) → IsBottom s → After (name_declared m needed n s names ts)
bottom_named by_name needed n s names ts st = (st, tt)
bottom_named without_name needed n s names ts st = bottom_nothing without_name needed s names (name n ∷ ts) st
bottom_named either_way needed n s names ts st = (st, tt)

bottom_declared : (m : Manner) (needed : Bool) (s : List Frame) (names : Names) (ts : List TokenMark) → IsBottom s → After (declared m needed s names ts)
bottom_declared m needed s names [] st = bottom_nothing m needed s names [] st
bottom_declared m needed s names (sign signs.Times p ∷ ts) st = (st, tt)
bottom_declared m needed s names (sign signs.LeftParen p ∷ ts) st = bottom_parenthesis m p s names ts st
bottom_declared m needed s names (sign signs.LeftBracket p ∷ ts) st = bottom_bracket_declared m p s names ts st
bottom_declared m needed s names (name n ∷ ts) st = bottom_named m needed n s names ts st
bottom_declared m needed s names (t ∷ ts) st = bottom_nothing m needed s names (t ∷ ts) st

bottom_qualified : (m : Manner) (p : Place) (before : List Place) (s : List Frame) (names : Names) (ts : List TokenMark) → IsBottom s → After (qualified m p before s names ts)
bottom_qualified m p before s names [] st = (st, tt)
bottom_qualified m p before s names (word keywords.Const q ∷ ts) st = (st, tt)
bottom_qualified m p before s names (t ∷ ts) st = (st, tt)

bottom_suffixed : (m : Manner) (d : Declarator) (s : List Frame) (names : Names) (ts : List TokenMark) → IsBottom s → After (suffixed m d s names ts)
bottom_suffixed m d s names [] st = (st, tt)
bottom_suffixed m d s names (sign signs.LeftBracket p ∷ ts) st = (st, tt)
bottom_suffixed m d s names (sign signs.LeftParen p ∷ ts) st = (st, tt)
bottom_suffixed m d s names (_ ∷ ts) st = (st, tt)

bottom_sized : (m : Manner) (d : Declarator) (p : Place) (s : List Frame) (names : Names) (ts : List TokenMark) → IsBottom s → After (sized m d p s names ts)
bottom_sized m d p s names [] st = (st, tt)
bottom_sized m d p s names (part close_bracket ∷ ts) st = (st, tt)
bottom_sized m d p s names (_ ∷ ts) st = (st, tt)

bottom_opened : (m : Manner) (d : Declarator) (p : Place) (s : List Frame) (names : Names) (ts : List TokenMark) → IsBottom s → After (parameters_opened m d p s names ts)
bottom_opened m d p s names [] st = (st, tt)
bottom_opened m d p s names (part close_paren ∷ ts) st = (st, tt)
bottom_opened m d p s names (_ ∷ ts) st = (st, tt)

bottom_parameter : (d : Declarator) (o : OpenParameters) (before : List Parameter) (ws : Specifiers) (s : List Frame) (names : Names) (ts : List TokenMark) → IsBottom s → After (parameter_given d o before ws s names ts)
bottom_parameter d o before ws s names [] st = tt
bottom_parameter d o before ws s names (part comma ∷ ts) st = (st, tt)
bottom_parameter d o before ws s names (part close_paren ∷ ts) st = (st, tt)
bottom_parameter d o before ws s names (_ ∷ ts) st = tt

bottom_member_line : (d : Declarator) (b : TypeBody) (lines : List MemberLine) (ws : Specifiers) (before : List Declarator) (s : List Frame) (names : Names) (ts : List TokenMark) → IsBottom s → After (member_given d b lines ws before s names ts)
bottom_member_line d b lines ws before s names [] st = tt
bottom_member_line d b lines ws before s names (part comma ∷ ts) st = (st, tt)
bottom_member_line d b lines ws before s names (sign signs.Semicolon p ∷ ts) st = (st, tt)
bottom_member_line d b lines ws before s names (_ ∷ ts) st = tt

bottom_item : (outer : Bool) (d : Declarator) (ws : Specifiers) (before : List InitDeclarator) (s : List Frame) (names : Names) (ts : List TokenMark) → IsBottom s → After (item_given outer d ws before s names ts)
bottom_item true d ws [] s names [] st = (st, tt)
bottom_item true d ws [] s names (sign signs.Assign p ∷ ts) st = (st, tt)
bottom_item true d ws [] s names (sign signs.LeftBrace p ∷ ts) st = (st, tt)
bottom_item true d ws [] s names (_ ∷ ts) st = (st, tt)
bottom_item true d ws (i ∷ before) s names [] st = (st, tt)
bottom_item true d ws (i ∷ before) s names (sign signs.Assign p ∷ ts) st = (st, tt)
bottom_item true d ws (i ∷ before) s names (_ ∷ ts) st = (st, tt)
bottom_item false d ws before s names [] st = (st, tt)
bottom_item false d ws before s names (sign signs.Assign p ∷ ts) st = (st, tt)
bottom_item false d ws before s names (_ ∷ ts) st = (st, tt)

bottom_declarator : (d : Declarator) (f : DeclaratorFrame) (s : List Frame) (names : Names) (ts : List TokenMark) → IsBottom (awaits_declarator f ∷ s) → After (declarator_given d f s names ts)
bottom_declarator d (behind_star p qs) s names ts st = (st, tt)
bottom_declarator d (in_group p m) s names ts st = bottom_paren ts _ (λ us. (st, tt))
bottom_declarator d (of_cast p ws l) s names ts st = bottom_paren ts _ (λ us. (st, tt))
bottom_declarator d (of_sizeof p q ws l) s names ts st = bottom_paren ts _ (λ us. (st, tt))
bottom_declarator d (of_parameter o before ws) s names ts st = bottom_parameter d o before ws s names ts st
bottom_declarator d (of_member b lines ws before) s names ts st = bottom_member_line d b lines ws before s names ts st
bottom_declarator d (of_item outer ws before) s names ts st = bottom_item outer d ws before s (with_declarator (has_typedef ws) d names) ts st

-- ---- initialisers and declarations

bottom_empty : (s : List Frame) → s ≡ [] → IsBottom s
bottom_empty s h = subst IsBottom (sym h) tt

bottom_initialised : (s : List Frame) (names : Names) (ts : List TokenMark) → IsBottom s → After (initialised s names ts)
bottom_initialised s names [] st = (st, tt)
bottom_initialised s names (sign signs.LeftBrace p ∷ ts) st = (st, tt)
bottom_initialised s names (_ ∷ ts) st = (st, tt)

bottom_listed : (x : Initialiser) (p : Place) (before : List Initialiser) (s : List Frame) (names : Names) (ts : List TokenMark) → IsBottom s → After (listed x p before s names ts)
bottom_listed x p before s names [] st = tt
bottom_listed x p before s names (part comma ∷ ts) st = (st, tt)
bottom_listed x p before s names (part close_brace ∷ ts) st = (st, tt)
bottom_listed x p before s names (_ ∷ ts) st = tt

bottom_list_followed : (p : Place) (x : Initialiser) (before : List Initialiser) (s : List Frame) (names : Names) (ts : List TokenMark) → IsBottom s → After (list_followed p (x ∷ before) s names ts)
bottom_list_followed p x before s names [] st = (st, tt)
bottom_list_followed p x before s names (part close_brace ∷ ts) st = (st, tt)
bottom_list_followed p x before s names (_ ∷ ts) st = (st, tt)

bottom_initialiser : (x : Initialiser) (s : List Frame) (names : Names) (ts : List TokenMark) → IsBottom s → After (initialiser_taken x s names ts)
bottom_initialiser x [] names ts st = tt
bottom_initialiser x (awaits_initialiser (in_list p before) ∷ s) names ts st = bottom_listed x p before s names ts st
bottom_initialiser x (awaits_initialiser (of_value ws before d p) ∷ s) names ts st = (st, tt)
bottom_initialiser x (_ ∷ s) names ts st = tt

bottom_itemed : (ws : Specifiers) (i : InitDeclarator) (before : List InitDeclarator) (s : List Frame) (names : Names) (ts : List TokenMark) → IsBottom s → After (item_followed ws i before s names ts)
bottom_itemed ws i before s names [] st = tt
bottom_itemed ws i before s names (part comma ∷ ts) st = (st, tt)
bottom_itemed ws i before s names (sign signs.Semicolon p ∷ ts) st = (st, tt)
bottom_itemed ws i before s names (_ ∷ ts) st = tt

bottom_declaration : (d : Declaration) (s : List Frame) (names : Names) (ts : List TokenMark) → IsBottom s → After (declaration_taken d s names ts)
bottom_declaration d [] names ts st = tt
bottom_declaration d (awaits_declaration (in_file before) ∷ s) names ts st = (bottom_empty s st, st)
bottom_declaration d (awaits_declaration (in_block i) ∷ s) names ts st = (st, tt)
bottom_declaration d (_ ∷ s) names ts st = tt

bottom_external : (before : List External) (s : List Frame) (names : Names) (ts : List TokenMark) → s ≡ [] → After (external_begun before s names ts)
bottom_external before s names [] st = tt
bottom_external before s names (t ∷ ts) st = (st, tt)

-- ---- statements

bottom_block : (i : Inside) (before : List Statement) (s : List Frame) (names : Names) (ts : List TokenMark) → IsBottom s → After (block_followed i before s names ts)
bottom_block i before s names [] st = (st, tt)
bottom_block i before s names (part close_brace ∷ ts) st = (st, tt)
bottom_block i before s names (_ ∷ ts) st = (st, tt)

bottom_sign_stated : (g : Sign) (p : Place) (s : List Frame) (names : Names) (ts : List TokenMark) → IsBottom s → After (sign_stated g p s names ts)
bottom_sign_stated signs.LeftBrace p s names ts st = (st, tt)
bottom_sign_stated signs.Semicolon p s names ts st = (st, tt)
bottom_sign_stated _ p s names ts st = (st, tt)

bottom_word_stated : (k : Keyword) (p : Place) (s : List Frame) (names : Names) (ts : List TokenMark) → IsBottom s → After (word_stated k p s names ts)
bottom_word_stated keywords.If p s names ts st = (st, tt)
bottom_word_stated _ p s names ts st = (st, tt)

bottom_stated : (s : List Frame) (names : Names) (ts : List TokenMark) → IsBottom s → After (stated s names ts)
bottom_stated s names [] st = (st, tt)
bottom_stated s names (sign g p ∷ ts) st = bottom_sign_stated g p s names ts st
bottom_stated s names (word k p ∷ ts) st = bottom_word_stated k p s names ts st
bottom_stated s names (_ ∷ ts) st = (st, tt)

bottom_started : (p q : Place) (s : List Frame) (names : Names) (ts : List TokenMark) → IsBottom s → After (started p q s names ts)
bottom_started p q s names [] st = (st, tt)
bottom_started p q s names (sign signs.Semicolon r ∷ ts) st = (st, tt)
bottom_started p q s names (_ ∷ ts) st = (st, tt)

bottom_loop_tested : (p q : Place) (a : Option Expression) (r : Place) (s : List Frame) (names : Names) (ts : List TokenMark) → IsBottom s → After (loop_tested p q a r s names ts)
bottom_loop_tested p q a r s names [] st = (st, tt)
bottom_loop_tested p q a r s names (sign signs.Semicolon u ∷ ts) st = (st, tt)
bottom_loop_tested p q a r s names (_ ∷ ts) st = (st, tt)

bottom_stepped : (l : Loop) (s : List Frame) (names : Names) (ts : List TokenMark) → IsBottom s → After (stepped l s names ts)
bottom_stepped l s names [] st = (st, tt)
bottom_stepped l s names (part close_paren ∷ ts) st = (st, tt)
bottom_stepped l s names (_ ∷ ts) st = (st, tt)

bottom_returned : (p : Place) (s : List Frame) (names : Names) (ts : List TokenMark) → IsBottom s → After (returned p s names ts)
bottom_returned p s names [] st = (st, tt)
bottom_returned p s names (sign signs.Semicolon q ∷ ts) st = (st, tt)
bottom_returned p s names (_ ∷ ts) st = (st, tt)

bottom_branched : (p q : Place) (e : Expression) (b : Statement) (s : List Frame) (names : Names) (ts : List TokenMark) → IsBottom s → After (branched p q e b s names ts)
bottom_branched p q e b s names [] st = (st, tt)
bottom_branched p q e b s names (part else_word ∷ ts) st = (st, tt)
bottom_branched p q e b s names (_ ∷ ts) st = (st, tt)

bottom_done : (p : Place) (b : Statement) (s : List Frame) (names : Names) (ts : List TokenMark) → IsBottom s → After (done_followed p b s names ts)
bottom_done p b s names [] st = tt
bottom_done p b s names (word keywords.While r ∷ ts) st = (st, tt)
bottom_done p b s names (_ ∷ ts) st = tt

bottom_defined : (ws : Specifiers) (d : Declarator) (outside : Names) (b : Statement) (s : List Frame) (ts : List TokenMark) → IsBottom s → After (defined ws d outside b s ts)
bottom_defined ws d outside (Block p ds ss) [] ts st = tt
bottom_defined ws d outside (Block p ds ss) (awaits_declaration (in_file before) ∷ s) ts st = (bottom_empty s st, st)
bottom_defined ws d outside (Block p ds ss) (_ ∷ s) ts st = tt
bottom_defined ws d outside _ s ts st = tt

bottom_statement : (b : Statement) (f : StatementFrame) (s : List Frame) (names : Names) (ts : List TokenMark) → IsBottom (awaits_statement f ∷ s) → After (statement_given b f s names ts)
bottom_statement b (then_branch p q e) s names ts st = bottom_branched p q e b s names ts st
bottom_statement b (else_branch p q e a) s names ts st = (st, tt)
bottom_statement b (while_body p q e) s names ts st = (st, tt)
bottom_statement b (switch_body p q e) s names ts st = (st, tt)
bottom_statement b (do_body p) s names ts st = bottom_done p b s names ts st
bottom_statement b (for_body l c) s names ts st = (st, tt)
bottom_statement b (case_body p e) s names ts st = (st, tt)
bottom_statement b (default_body p) s names ts st = (st, tt)
bottom_statement b (in_statements i before) s names ts st = (st, tt)
bottom_statement b (in_definition ws d outside) s names ts st = bottom_defined ws d outside b s ts st

-- ---- every step

bottom_called : (e : Expression) (p : Place) (l : ℕ) (s : List Frame) (names : Names) (ts : List TokenMark) → IsBottom s → After (called e p l s names ts)
bottom_called e p l s names [] st = (st, tt)
bottom_called e p l s names (part close_paren ∷ ts) st = (st, tt)
bottom_called e p l s names (_ ∷ ts) st = (st, tt)

bottom_measured : (p : Place) (l : ℕ) (s : List Frame) (names : Names) (ts : List TokenMark) → IsBottom s → After (measured p l s names ts)
bottom_measured p l s names [] st = (st, tt)
bottom_measured p l s names (sign signs.LeftParen q ∷ ts) st = branch (begins_specifiers names ts) _ _ (st, tt) (st, tt)
bottom_measured p l s names (_ ∷ ts) st = (st, tt)

bottom_enumerating : (b : TypeBody) (before : List EnumEntry) (s : List Frame) (names : Names) (ts : List TokenMark) → IsBottom s → After (enumerator_named b before s names ts)
bottom_enumerating b before s names [] st = tt
bottom_enumerating b before s names (name n ∷ ts) st = (st, tt)
bottom_enumerating b before s names (_ ∷ ts) st = tt

bottom_at : (d : Doing) (s : List Frame) (names : Names) (ts : List TokenMark) → IsBottom s → IsEmptyAt d s → After (step (state d s names ts))
bottom_at (seek l) s names ts st empty = bottom_sought l s names ts st
bottom_at (operated e l) s names ts st empty = bottom_operated e l s names ts st
bottom_at (gave e) (awaits_expression f ∷ s) names ts st empty = bottom_expression e f s names ts st
bottom_at (gave e) _ names ts st empty = tt
bottom_at (calling e p l) s names ts st empty = bottom_called e p l s names ts st
bottom_at (measuring p l) s names ts st empty = bottom_measured p l s names ts st
bottom_at (specifying seen before) s names ts st empty = bottom_specified seen before s names ts st
bottom_at (tagging is p seen before) s names ts st empty = bottom_tag is p seen before s names ts st
bottom_at (tagged is p n seen before) s names ts st empty = bottom_tagged is p n seen before s names ts st
bottom_at (membering b before) s names ts st empty = bottom_members b before s names ts st
bottom_at (enumerating b before) s names ts st empty = bottom_enumerating b before s names ts st
bottom_at (enumerated b before n) s names ts st empty = bottom_enumerated b before n s names ts st
bottom_at (entered b before e) s names ts st empty = bottom_entered b before e s names ts st
bottom_at (entering b before e) s names ts st empty = bottom_entering b before e s names ts st
bottom_at (gave_specifiers ws) (awaits_specifiers f ∷ s) names ts st empty = bottom_specifiers ws f s names ts st
bottom_at (gave_specifiers ws) _ names ts st empty = tt
bottom_at (declaring m needed) s names ts st empty = bottom_declared m needed s names ts st
bottom_at (qualifying m p before) s names ts st empty = bottom_qualified m p before s names ts st
bottom_at (suffixing m d) s names ts st empty = bottom_suffixed m d s names ts st
bottom_at (sizing m d p) s names ts st empty = bottom_sized m d p s names ts st
bottom_at (parametering m d p) s names ts st empty = bottom_opened m d p s names ts st
bottom_at (gave_declarator d) (awaits_declarator f ∷ s) names ts st empty = bottom_declarator d f s names ts st
bottom_at (gave_declarator d) _ names ts st empty = tt
bottom_at initialising s names ts st empty = bottom_initialised s names ts st
bottom_at (listing p x before) s names ts st empty = bottom_list_followed p x before s names ts st
bottom_at (gave_initialiser x) s names ts st empty = bottom_initialiser x s names ts st
bottom_at (itemed ws i before) s names ts st empty = bottom_itemed ws i before s names ts st
bottom_at (gave_declaration d) s names ts st empty = bottom_declaration d s names ts st
bottom_at (externals before) s names ts st empty = bottom_external before s names ts empty
bottom_at (declarations i) s names ts st empty = branch (begins_specifiers names ts) _ _ (st, tt) (st, tt)
bottom_at (statements i before) s names ts st empty = bottom_block i before s names ts st
bottom_at stating s names ts st empty = bottom_stated s names ts st
bottom_at (opening h) s names ts st empty = bottom_open ts _ (λ p us. (st, tt))
bottom_at (finishing p b r q e) s names ts st empty = bottom_semicolon ts _ (λ u us. (st, tt))
bottom_at (looping p) s names ts st empty = bottom_open ts _ (λ q us. (st, tt))
bottom_at (starting p q) s names ts st empty = bottom_started p q s names ts st
bottom_at (testing p q a r) s names ts st empty = bottom_loop_tested p q a r s names ts st
bottom_at (stepping l) s names ts st empty = bottom_stepped l s names ts st
bottom_at (returning p) s names ts st empty = bottom_returned p s names ts st
bottom_at (breaking p) s names ts st empty = bottom_semicolon ts _ (λ q us. (st, tt))
bottom_at (continuing p) s names ts st empty = bottom_semicolon ts _ (λ q us. (st, tt))
bottom_at (defaulting p) s names ts st empty = bottom_colon ts _ (λ us. (st, tt))
bottom_at (gave_statement b) (awaits_statement f ∷ s) names ts st empty = bottom_statement b f s names ts st
bottom_at (gave_statement b) _ names ts st empty = tt

bottom_step : (s : ParserState) → IsBottomState s → After (step s)
bottom_step (state d s names ts) h = bottom_at d s names ts h.0 h.1

-- ---- every run

bottom_run : (turns : ℕ) (s : ParserState) → IsBottomState s → IsBottomState (run turns s)
bottom_run zero s h = h
bottom_run (suc turns) s h = go (λ t k. bottom_run turns t k) (step s) (bottom_step s h)
  where
    go : ((t : ParserState) → IsBottomState t → IsBottomState (run turns t)) → (r : Option ParserState) → After r → IsBottomState (elim r [ None ↦ s | Some t ↦ run turns t ])
    go f None k = h
    go f (Some t) k = f t k

pub bottom_of_run : (turns : ℕ) (tokens : List TokenMark) → IsBottomState (run turns (begun tokens))
bottom_of_run turns tokens = bottom_run turns (begun tokens) (tt, refl)
