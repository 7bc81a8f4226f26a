-- A number falls with each step.
use Rattle.std.proofs.Common.{ℕ, suc, ◌+◌, ◌*◌, ◌<◌, leb, ◌&&◌, not, if◌then◌else◌, Bool, true, false, List, [], ◌∷◌, length, Option, Some, None, arith}
use Rattle.dae_base.specs.declared.Place.{Place}
use Rattle.dae_tree.specs.declared.words.Keyword.{Keyword}
use Rattle.dae_tree.specs.declared.words.Keyword.TheVariants as keywords
use Rattle.dae_tree.specs.declared.signs.Sign.{Sign}
use Rattle.dae_tree.specs.declared.signs.Sign.TheVariants as signs
use Rattle.dae_tree.specs.declared.expressions.Name.{Name}
use Rattle.dae_tree.specs.declared.operators.MemberOperator.{MemberOperator}
use Rattle.dae_tree.specs.declared.operators.MemberOperator.TheVariants as member
use Rattle.dae_tree.specs.Marks.{TokenMark, word, sign, name, constant, literal, part, close_paren, close_bracket, close_brace, comma, colon, else_word}
use Rattle.dae_tree.specs.declared.seen.Seen.{Seen}
use Rattle.dae_tree.specs.Words.{has_type, admits, begins_specifiers}
use Rattle.dae_tree.specs.Names.{Names, is_type, has_typedef, with_declarator}
use Rattle.dae_tree.specs.Grammar.{Manner, by_name, without_name, either_way}
use Rattle.dae_tree.specs.Trees.{Expression, Specifiers, Specifier, Declarator, Initialiser, InitDeclarator, Declaration, Statement, External, Block}
use Rattle.dae_tree.specs.Lists.{MemberLine, EnumEntry, Parameter}
use Rattle.dae_parse_grammar.specs.Frames.{TypeBody, OpenParameters, StatementHead, Loop, Inside, if_head, while_head, switch_head, do_head, Frame, in_parentheses, in_index, in_arguments, behind_prefix, behind_sizeof, behind_cast, behind_binary, behind_question, behind_colon, behind_assignment, behind_comma, in_size, in_enumerator, in_value, in_evaluation, in_test, in_start, in_loop_test, in_step, in_return, in_case, for_cast, for_sizeof, for_parameter, for_member, for_declaration, behind_star, in_group, of_cast, of_sizeof, of_parameter, of_member, of_item, in_list, of_value, in_file, in_block, then_branch, else_branch, while_body, switch_body, do_body, for_body, case_body, default_body, in_statements, in_definition, Doing, seek, operated, gave, calling, measuring, specifying, tagging, tagged, membering, enumerating, enumerated, entered, entering, gave_specifiers, declaring, qualifying, suffixing, sizing, parametering, gave_declarator, initialising, listing, gave_initialiser, itemed, gave_declaration, externals, declarations, statements, stating, opening, finishing, looping, starting, testing, stepping, returning, breaking, continuing, defaulting, gave_statement, ParserState, state, awaits_expression, awaits_specifiers, awaits_declarator, awaits_initialiser, awaits_declaration, awaits_statement, ExpressionFrame, SpecifiersFrame, DeclaratorFrame, StatementFrame}
use Rattle.dae_parse_grammar.specs.Machine.{initialised, listed, list_followed, initialiser_taken, item_followed, declaration_taken, external_begun, block_followed, sign_stated, word_stated, stated, started, loop_tested, stepped, returned, branched, done_followed, defined, statement_given, called, measured, enumerator_named, enumerator_followed, declaration_begun, specifiers_given, nothing_declared, begins_parameters, parenthesis_declared, bracket_declared, name_declared, declared, qualified, suffixed, sized, parameters_opened, parameter_given, member_given, item_given, declarator_given, at_paren, at_bracket, at_colon, at_semicolon, at_open, sign_sought, sought, named_member, operated_at, argument_given, tested, expression_given, specifiers_end, word_taken, specified, body, body_opened, tag_taken, tag_followed, members_followed, entry_followed, comma_followed, step, operation, operate, goes_on}
use Rattle.dae_parse_grammar.specs.Measure.{measure}

abbrev pub Falls : ℕ → Option ParserState → Type 0
Falls m None = Unit {0}
Falls m (Some s) = measure s < m

branch : (b : Bool) (m : ℕ) (x y : Option ParserState) → Falls m x → Falls m y → Falls m (if b then x else y)
branch true m x y h k = h
branch false m x y h k = k

either : (b : Bool) (m : ℕ) (x y : ParserState) → measure x < m → measure y < m → measure (if b then x else y) < m
either true m x y h k = h
either false m x y h k = k

-- one token that must stand there
falls_paren : (m w : ℕ) (ts : List TokenMark) (next : List TokenMark → ParserState) → ((us : List TokenMark) → measure (next us) < 12 * suc (length us) + m + w) → Falls (12 * length ts + m + w) (at_paren ts next)
falls_paren m w [] next h = tt
falls_paren m w (part close_paren ∷ ts) next h = h ts
falls_paren m w (_ ∷ ts) next h = tt

falls_bracket : (m w : ℕ) (ts : List TokenMark) (next : List TokenMark → ParserState) → ((us : List TokenMark) → measure (next us) < 12 * suc (length us) + m + w) → Falls (12 * length ts + m + w) (at_bracket ts next)
falls_bracket m w [] next h = tt
falls_bracket m w (part close_bracket ∷ ts) next h = h ts
falls_bracket m w (_ ∷ ts) next h = tt

falls_colon : (m w : ℕ) (ts : List TokenMark) (next : List TokenMark → ParserState) → ((us : List TokenMark) → measure (next us) < 12 * suc (length us) + m + w) → Falls (12 * length ts + m + w) (at_colon ts next)
falls_colon m w [] next h = tt
falls_colon m w (part colon ∷ ts) next h = h ts
falls_colon m w (_ ∷ ts) next h = tt

falls_semicolon : (m w : ℕ) (ts : List TokenMark) (next : Place → List TokenMark → ParserState) → ((p : Place) (us : List TokenMark) → measure (next p us) < 12 * suc (length us) + m + w) → Falls (12 * length ts + m + w) (at_semicolon ts next)
falls_semicolon m w [] next h = tt
falls_semicolon m w (sign signs.Semicolon p ∷ ts) next h = h p ts
falls_semicolon m w (_ ∷ ts) next h = tt

falls_open : (m w : ℕ) (ts : List TokenMark) (next : Place → List TokenMark → ParserState) → ((p : Place) (us : List TokenMark) → measure (next p us) < 12 * suc (length us) + m + w) → Falls (12 * length ts + m + w) (at_open ts next)
falls_open m w [] next h = tt
falls_open m w (sign signs.LeftParen p ∷ ts) next h = h p ts
falls_open m w (_ ∷ ts) next h = tt

falls_sign : (g : Sign) (p : Place) (l : ℕ) (s : List Frame) (names : Names) (ts : List TokenMark) → Falls (12 * suc (length ts) + 2 * length s + 0) (sign_sought g p l s names ts)
falls_sign signs.LeftParen p l s names ts = either (begins_specifiers names ts && leb 3 l) _ _ _ (omega arith) (omega arith)
falls_sign _ p l s names ts = first_of (omega arith, search)

falls_sought : (l : ℕ) (s : List Frame) (names : Names) (ts : List TokenMark) → Falls (12 * length ts + 2 * length s + 0) (sought l s names ts)
falls_sought l s names [] = tt
falls_sought l s names (name n ∷ ts) = branch (is_type names n.number) _ _ _ tt (omega arith)
falls_sought l s names (word keywords.Sizeof p ∷ ts) = omega arith
falls_sought l s names (word _ p ∷ ts) = tt
falls_sought l s names (sign g p ∷ ts) = falls_sign g p l s names ts
falls_sought l s names (constant p c ∷ ts) = omega arith
falls_sought l s names (literal p n ∷ ts) = omega arith
falls_sought l s names (part c ∷ ts) = tt

falls_member : (e : Expression) (p : Place) (o : MemberOperator) (l : ℕ) (s : List Frame) (names : Names) (ts : List TokenMark) → Falls (12 * suc (length ts) + 2 * length s + 1) (named_member e p o l s names ts)
falls_member e p o l s names [] = tt
falls_member e p o l s names (name n ∷ ts) = omega arith
falls_member e p o l s names (_ ∷ ts) = tt

falls_operation : (g : Sign) (e : Expression) (p : Place) (l : ℕ) (s : List Frame) (names : Names) (ts : List TokenMark) → Falls (12 * suc (length ts) + 2 * length s + 1) (operate (operation g) e p l s names ts)
falls_operation signs.Dot e p l s names ts = falls_member e p member.Dot l s names ts
falls_operation signs.Arrow e p l s names ts = falls_member e p member.Arrow l s names ts
falls_operation _ e p l s names ts = first_of (omega arith, search)

falls_operated : (e : Expression) (l : ℕ) (s : List Frame) (names : Names) (ts : List TokenMark) → Falls (12 * length ts + 2 * length s + 1) (operated_at e l s names ts)
falls_operated e l s names [] = omega arith
falls_operated e l s names (sign g p ∷ ts) = branch (goes_on (operation g) e l) _ _ _ (falls_operation g e p l s names ts) (omega arith)
falls_operated e l s names (part comma ∷ ts) = branch (leb 16 l) _ _ _ (omega arith) (omega arith)
falls_operated e l s names (_ ∷ ts) = omega arith

falls_argument : (a g : Expression) (p : Place) (before : List Expression) (l : ℕ) (s : List Frame) (names : Names) (ts : List TokenMark) → Falls (12 * length ts + 2 * suc (length s) + 0) (argument_given a g p before l s names ts)
falls_argument a g p before l s names [] = tt
falls_argument a g p before l s names (part comma ∷ ts) = omega arith
falls_argument a g p before l s names (part close_paren ∷ ts) = omega arith
falls_argument a g p before l s names (_ ∷ ts) = tt

falls_tested : (h : StatementHead) (p : Place) (e : Expression) (s : List Frame) (names : Names) (ts : List TokenMark) → measure (tested h p e s names ts) < (12 * suc (length ts) + 2 * suc (length s) + 0)
falls_tested (if_head q) p e s names ts = omega arith
falls_tested (while_head q) p e s names ts = omega arith
falls_tested (switch_head q) p e s names ts = omega arith
falls_tested (do_head q b r) p e s names ts = omega arith

falls_expression : (e : Expression) (f : ExpressionFrame) (s : List Frame) (names : Names) (ts : List TokenMark) → Falls (12 * length ts + 2 * suc (length s) + 0) (expression_given e f s names ts)
falls_expression e (in_parentheses p l) s names ts = falls_paren (2 * suc (length s)) 0 ts _ (λ us. omega arith)
falls_expression e (in_index a p l) s names ts = falls_bracket (2 * suc (length s)) 0 ts _ (λ us. omega arith)
falls_expression e (in_arguments g p before l) s names ts = falls_argument e g p before l s names ts
falls_expression e (behind_prefix p o l) s names ts = omega arith
falls_expression e (behind_sizeof p l) s names ts = omega arith
falls_expression e (behind_cast p ws d l) s names ts = omega arith
falls_expression e (behind_binary a p o l) s names ts = omega arith
falls_expression e (behind_question a p l) s names ts = falls_colon (2 * suc (length s)) 0 ts _ (λ us. omega arith)
falls_expression e (behind_colon a p b l) s names ts = omega arith
falls_expression e (behind_assignment a p o l) s names ts = omega arith
falls_expression e (behind_comma a l) s names ts = omega arith
falls_expression e (in_size d p m) s names ts = falls_bracket (2 * suc (length s)) 0 ts _ (λ us. omega arith)
falls_expression e (in_enumerator b before n p) s names ts = omega arith
falls_expression e in_value s names ts = omega arith
falls_expression e in_evaluation s names ts = falls_semicolon (2 * suc (length s)) 0 ts _ (λ p us. omega arith)
falls_expression e (in_test h p) s names ts = falls_paren (2 * suc (length s)) 0 ts _ (λ us. falls_tested h p e s names us)
falls_expression e (in_start p q) s names ts = falls_semicolon (2 * suc (length s)) 0 ts _ (λ r us. omega arith)
falls_expression e (in_loop_test p q a r) s names ts = falls_semicolon (2 * suc (length s)) 0 ts _ (λ u us. omega arith)
falls_expression e (in_step loop) s names ts = falls_paren (2 * suc (length s)) 0 ts _ (λ us. omega arith)
falls_expression e (in_return p) s names ts = falls_semicolon (2 * suc (length s)) 0 ts _ (λ q us. omega arith)
falls_expression e (in_case p) s names ts = falls_colon (2 * suc (length s)) 0 ts _ (λ us. omega arith)

-- ---- specifiers

falls_end : (seen : Seen) (before : List Specifier) (s : List Frame) (names : Names) (ts : List TokenMark) → Falls (12 * length ts + 2 * length s + 4) (specifiers_end seen before s names ts)
falls_end seen before s names ts = branch (has_type seen) _ _ _ (omega arith) tt

falls_word : (k : Keyword) (p : Place) (seen : Seen) (before : List Specifier) (s : List Frame) (names : Names) (ts : List TokenMark) → measure (word_taken k p seen before s names ts) < (12 * suc (length ts) + 2 * length s + 4)
falls_word keywords.Struct p seen before s names ts = omega arith
falls_word keywords.Enum p seen before s names ts = omega arith
falls_word _ p seen before s names ts = omega arith

falls_specified : (seen : Seen) (before : List Specifier) (s : List Frame) (names : Names) (ts : List TokenMark) → Falls (12 * length ts + 2 * length s + 4) (specified seen before s names ts)
falls_specified seen before s names [] = falls_end seen before s names []
falls_specified seen before s names (word k p ∷ ts) = branch (admits seen k) _ _ _ (falls_word k p seen before s names ts) (falls_end seen before s names (word k p ∷ ts))
falls_specified seen before s names (name n ∷ ts) = branch (not (has_type seen) && is_type names n.number) _ _ _ (omega arith) (falls_end seen before s names (name n ∷ ts))
falls_specified seen before s names (t ∷ ts) = falls_end seen before s names (t ∷ ts)

falls_body : (is : Bool) (p : Place) (tag : Option Name) (q : Place) (seen : Seen) (before : List Specifier) (s : List Frame) (names : Names) (ts : List TokenMark) → measure (body_opened is (body p tag q seen before) s names ts) < (12 * suc (length ts) + 2 * length s + 0)
falls_body true p tag q seen before s names ts = omega arith
falls_body false p tag q seen before s names ts = omega arith

falls_tag : (is : Bool) (p : Place) (seen : Seen) (before : List Specifier) (s : List Frame) (names : Names) (ts : List TokenMark) → Falls (12 * length ts + 2 * length s + 0) (tag_taken is p seen before s names ts)
falls_tag is p seen before s names [] = tt
falls_tag is p seen before s names (name n ∷ ts) = omega arith
falls_tag is p seen before s names (sign signs.LeftBrace q ∷ ts) = falls_body is p None q seen before s names ts
falls_tag is p seen before s names (_ ∷ ts) = tt

falls_tagged : (is : Bool) (p : Place) (n : Name) (seen : Seen) (before : List Specifier) (s : List Frame) (names : Names) (ts : List TokenMark) → Falls (12 * length ts + 2 * length s + 5) (tag_followed is p n seen before s names ts)
falls_tagged is p n seen before s names [] = omega arith
falls_tagged is p n seen before s names (sign signs.LeftBrace q ∷ ts) = omega (arith, falls_body is p (Some n) q seen before s names ts)
falls_tagged is p n seen before s names (t ∷ ts) = omega arith

falls_members : (b : TypeBody) (before : List MemberLine) (s : List Frame) (names : Names) (ts : List TokenMark) → Falls (12 * length ts + 2 * length s + 7) (members_followed b before s names ts)
falls_members b [] s names [] = omega arith
falls_members b [] s names (part close_brace ∷ ts) = omega arith
falls_members b [] s names (_ ∷ ts) = omega arith
falls_members b (m ∷ before) s names [] = omega arith
falls_members b (m ∷ before) s names (part close_brace ∷ ts) = omega arith
falls_members b (m ∷ before) s names (_ ∷ ts) = omega arith

falls_entered : (b : TypeBody) (before : List EnumEntry) (e : EnumEntry) (s : List Frame) (names : Names) (ts : List TokenMark) → Falls (12 * length ts + 2 * length s + 0) (entry_followed b before e s names ts)
falls_entered b before e s names [] = tt
falls_entered b before e s names (part comma ∷ ts) = omega arith
falls_entered b before e s names (part close_brace ∷ ts) = omega arith
falls_entered b before e s names (_ ∷ ts) = tt

falls_entering : (b : TypeBody) (before : List EnumEntry) (e : EnumEntry) (s : List Frame) (names : Names) (ts : List TokenMark) → Falls (12 * length ts + 2 * length s + 1) (comma_followed b before e s names ts)
falls_entering b before e s names [] = omega arith
falls_entering b before e s names (part close_brace ∷ ts) = omega arith
falls_entering b before e s names (_ ∷ ts) = omega arith

falls_enumerated : (b : TypeBody) (before : List EnumEntry) (n : Name) (s : List Frame) (names : Names) (ts : List TokenMark) → Falls (12 * length ts + 2 * length s + 1) (enumerator_followed b before n s names ts)
falls_enumerated b before n s names [] = omega arith
falls_enumerated b before n s names (sign signs.Assign p ∷ ts) = omega arith
falls_enumerated b before n s names (_ ∷ ts) = omega arith

-- ---- declarators

falls_begun : (outer : Bool) (ws : Specifiers) (s : List Frame) (names : Names) (ts : List TokenMark) → Falls (12 * length ts + 2 * suc (length s) + 3) (declaration_begun outer ws s names ts)
falls_begun outer ws s names [] = omega arith
falls_begun outer ws s names (sign signs.Semicolon p ∷ ts) = omega arith
falls_begun outer ws s names (_ ∷ ts) = omega arith

falls_specifiers : (ws : Specifiers) (f : SpecifiersFrame) (s : List Frame) (names : Names) (ts : List TokenMark) → Falls (12 * length ts + 2 * suc (length s) + 3) (specifiers_given ws f s names ts)
falls_specifiers ws (for_cast p l) s names ts = omega arith
falls_specifiers ws (for_sizeof p q l) s names ts = omega arith
falls_specifiers ws (for_parameter o before) s names ts = omega arith
falls_specifiers ws (for_member b before) s names ts = omega arith
falls_specifiers ws (for_declaration outer) s names ts = falls_begun outer ws s names ts

falls_nothing : (m : Manner) (needed : Bool) (s : List Frame) (names : Names) (ts : List TokenMark) → Falls (12 * length ts + 2 * length s + 2) (nothing_declared m needed s names ts)
falls_nothing by_name needed s names ts = tt
falls_nothing without_name true s names ts = tt
falls_nothing without_name false s names ts = omega arith
falls_nothing either_way true s names ts = tt
falls_nothing either_way false s names ts = omega arith

falls_parenthesis : (m : Manner) (p : Place) (s : List Frame) (names : Names) (ts : List TokenMark) → Falls (12 * suc (length ts) + 2 * length s + 2) (parenthesis_declared m p s names ts)
falls_parenthesis by_name p s names ts = omega arith
falls_parenthesis without_name p s names ts = branch (begins_parameters names ts) _ _ _ (omega arith) (omega arith)
falls_parenthesis either_way p s names ts = branch (begins_parameters names ts) _ _ _ (omega arith) (omega arith)

falls_bracket_declared : (m : Manner) (p : Place) (s : List Frame) (names : Names) (ts : List TokenMark) → Falls (12 * suc (length ts) + 2 * length s + 2) (bracket_declared m p s names ts)
falls_bracket_declared by_name p s names ts = tt
falls_bracket_declared without_name p s names ts = omega arith
falls_bracket_declared either_way p s names ts = omega arith

falls_named : (m : Manner) (needed : Bool) (n : Name) (s : List Frame) (names : Names) (ts : List TokenMark) → Falls (12 * suc (length ts) + 2 * length s + 2) (name_declared m needed n s names ts)
falls_named by_name needed n s names ts = omega arith
falls_named without_name needed n s names ts = falls_nothing without_name needed s names (name n ∷ ts)
falls_named either_way needed n s names ts = omega arith

falls_declared : (m : Manner) (needed : Bool) (s : List Frame) (names : Names) (ts : List TokenMark) → Falls (12 * length ts + 2 * length s + 2) (declared m needed s names ts)
falls_declared m needed s names [] = falls_nothing m needed s names []
falls_declared m needed s names (sign signs.Times p ∷ ts) = omega arith
falls_declared m needed s names (sign signs.LeftParen p ∷ ts) = falls_parenthesis m p s names ts
falls_declared m needed s names (sign signs.LeftBracket p ∷ ts) = falls_bracket_declared m p s names ts
falls_declared m needed s names (name n ∷ ts) = falls_named m needed n s names ts
falls_declared m needed s names (t ∷ ts) = falls_nothing m needed s names (t ∷ ts)

falls_qualified : (m : Manner) (p : Place) (before : List Place) (s : List Frame) (names : Names) (ts : List TokenMark) → Falls (12 * length ts + 2 * length s + 5) (qualified m p before s names ts)
falls_qualified m p before s names [] = omega arith
falls_qualified m p before s names (word keywords.Const q ∷ ts) = omega arith
falls_qualified m p before s names (t ∷ ts) = omega arith

falls_suffixed : (m : Manner) (d : Declarator) (s : List Frame) (names : Names) (ts : List TokenMark) → Falls (12 * length ts + 2 * length s + 1) (suffixed m d s names ts)
falls_suffixed m d s names [] = omega arith
falls_suffixed m d s names (sign signs.LeftBracket p ∷ ts) = omega arith
falls_suffixed m d s names (sign signs.LeftParen p ∷ ts) = omega arith
falls_suffixed m d s names (_ ∷ ts) = omega arith

falls_sized : (m : Manner) (d : Declarator) (p : Place) (s : List Frame) (names : Names) (ts : List TokenMark) → Falls (12 * length ts + 2 * length s + 3) (sized m d p s names ts)
falls_sized m d p s names [] = omega arith
falls_sized m d p s names (part close_bracket ∷ ts) = omega arith
falls_sized m d p s names (_ ∷ ts) = omega arith

falls_opened : (m : Manner) (d : Declarator) (p : Place) (s : List Frame) (names : Names) (ts : List TokenMark) → Falls (12 * length ts + 2 * length s + 7) (parameters_opened m d p s names ts)
falls_opened m d p s names [] = omega arith
falls_opened m d p s names (part close_paren ∷ ts) = omega arith
falls_opened m d p s names (_ ∷ ts) = omega arith

falls_parameter : (d : Declarator) (o : OpenParameters) (before : List Parameter) (ws : Specifiers) (s : List Frame) (names : Names) (ts : List TokenMark) → Falls (12 * length ts + 2 * suc (length s) + 0) (parameter_given d o before ws s names ts)
falls_parameter d o before ws s names [] = tt
falls_parameter d o before ws s names (part comma ∷ ts) = omega arith
falls_parameter d o before ws s names (part close_paren ∷ ts) = omega arith
falls_parameter d o before ws s names (_ ∷ ts) = tt

falls_member_line : (d : Declarator) (b : TypeBody) (lines : List MemberLine) (ws : Specifiers) (before : List Declarator) (s : List Frame) (names : Names) (ts : List TokenMark) → Falls (12 * length ts + 2 * suc (length s) + 0) (member_given d b lines ws before s names ts)
falls_member_line d b lines ws before s names [] = tt
falls_member_line d b lines ws before s names (part comma ∷ ts) = omega arith
falls_member_line d b lines ws before s names (sign signs.Semicolon p ∷ ts) = omega arith
falls_member_line d b lines ws before s names (_ ∷ ts) = tt

falls_item : (outer : Bool) (d : Declarator) (ws : Specifiers) (before : List InitDeclarator) (s : List Frame) (names : Names) (ts : List TokenMark) → Falls (12 * length ts + 2 * suc (length s) + 0) (item_given outer d ws before s names ts)
falls_item true d ws [] s names [] = omega arith
falls_item true d ws [] s names (sign signs.Assign p ∷ ts) = omega arith
falls_item true d ws [] s names (sign signs.LeftBrace p ∷ ts) = omega arith
falls_item true d ws [] s names (_ ∷ ts) = omega arith
falls_item true d ws (i ∷ before) s names [] = omega arith
falls_item true d ws (i ∷ before) s names (sign signs.Assign p ∷ ts) = omega arith
falls_item true d ws (i ∷ before) s names (_ ∷ ts) = omega arith
falls_item false d ws before s names [] = omega arith
falls_item false d ws before s names (sign signs.Assign p ∷ ts) = omega arith
falls_item false d ws before s names (_ ∷ ts) = omega arith

falls_declarator : (d : Declarator) (f : DeclaratorFrame) (s : List Frame) (names : Names) (ts : List TokenMark) → Falls (12 * length ts + 2 * suc (length s) + 0) (declarator_given d f s names ts)
falls_declarator d (behind_star p qs) s names ts = omega arith
falls_declarator d (in_group p m) s names ts = falls_paren (2 * suc (length s)) 0 ts _ (λ us. omega arith)
falls_declarator d (of_cast p ws l) s names ts = falls_paren (2 * suc (length s)) 0 ts _ (λ us. omega arith)
falls_declarator d (of_sizeof p q ws l) s names ts = falls_paren (2 * suc (length s)) 0 ts _ (λ us. omega arith)
falls_declarator d (of_parameter o before ws) s names ts = falls_parameter d o before ws s names ts
falls_declarator d (of_member b lines ws before) s names ts = falls_member_line d b lines ws before s names ts
falls_declarator d (of_item outer ws before) s names ts = falls_item outer d ws before s (with_declarator (has_typedef ws) d names) ts

-- ---- initialisers and declarations

falls_initialised : (s : List Frame) (names : Names) (ts : List TokenMark) → Falls (12 * length ts + 2 * length s + 3) (initialised s names ts)
falls_initialised s names [] = omega arith
falls_initialised s names (sign signs.LeftBrace p ∷ ts) = omega arith
falls_initialised s names (_ ∷ ts) = omega arith

falls_listed : (x : Initialiser) (p : Place) (before : List Initialiser) (s : List Frame) (names : Names) (ts : List TokenMark) → Falls (12 * length ts + 2 * suc (length s) + 0) (listed x p before s names ts)
falls_listed x p before s names [] = tt
falls_listed x p before s names (part comma ∷ ts) = omega arith
falls_listed x p before s names (part close_brace ∷ ts) = omega arith
falls_listed x p before s names (_ ∷ ts) = tt

falls_list_followed : (p : Place) (x : Initialiser) (before : List Initialiser) (s : List Frame) (names : Names) (ts : List TokenMark) → Falls (12 * length ts + 2 * length s + 6) (list_followed p (x ∷ before) s names ts)
falls_list_followed p x before s names [] = omega arith
falls_list_followed p x before s names (part close_brace ∷ ts) = omega arith
falls_list_followed p x before s names (_ ∷ ts) = omega arith

falls_initialiser : (x : Initialiser) (s : List Frame) (names : Names) (ts : List TokenMark) → Falls (12 * length ts + 2 * length s + 0) (initialiser_taken x s names ts)
falls_initialiser x [] names ts = tt
falls_initialiser x (awaits_initialiser (in_list p before) ∷ s) names ts = falls_listed x p before s names ts
falls_initialiser x (awaits_initialiser (of_value ws before d p) ∷ s) names ts = omega arith
falls_initialiser x (_ ∷ s) names ts = tt

falls_itemed : (ws : Specifiers) (i : InitDeclarator) (before : List InitDeclarator) (s : List Frame) (names : Names) (ts : List TokenMark) → Falls (12 * length ts + 2 * length s + 1) (item_followed ws i before s names ts)
falls_itemed ws i before s names [] = tt
falls_itemed ws i before s names (part comma ∷ ts) = omega arith
falls_itemed ws i before s names (sign signs.Semicolon p ∷ ts) = omega arith
falls_itemed ws i before s names (_ ∷ ts) = tt

falls_declaration : (d : Declaration) (s : List Frame) (names : Names) (ts : List TokenMark) → Falls (12 * length ts + 2 * length s + 8) (declaration_taken d s names ts)
falls_declaration d [] names ts = tt
falls_declaration d (awaits_declaration (in_file before) ∷ s) names ts = omega arith
falls_declaration d (awaits_declaration (in_block i) ∷ s) names ts = omega arith
falls_declaration d (_ ∷ s) names ts = tt

falls_external : (before : List External) (s : List Frame) (names : Names) (ts : List TokenMark) → Falls (12 * length ts + 2 * length s + 9) (external_begun before s names ts)
falls_external before s names [] = tt
falls_external before s names (t ∷ ts) = omega arith

-- ---- statements

falls_block : (i : Inside) (before : List Statement) (s : List Frame) (names : Names) (ts : List TokenMark) → Falls (12 * length ts + 2 * length s + 6) (block_followed i before s names ts)
falls_block i before s names [] = omega arith
falls_block i before s names (part close_brace ∷ ts) = omega arith
falls_block i before s names (_ ∷ ts) = omega arith

falls_sign_stated : (g : Sign) (p : Place) (s : List Frame) (names : Names) (ts : List TokenMark) → Falls (12 * suc (length ts) + 2 * length s + 3) (sign_stated g p s names ts)
falls_sign_stated signs.LeftBrace p s names ts = omega arith
falls_sign_stated signs.Semicolon p s names ts = omega arith
falls_sign_stated _ p s names ts = omega arith

falls_word_stated : (k : Keyword) (p : Place) (s : List Frame) (names : Names) (ts : List TokenMark) → Falls (12 * suc (length ts) + 2 * length s + 3) (word_stated k p s names ts)
falls_word_stated keywords.If p s names ts = omega arith
falls_word_stated _ p s names ts = omega arith

falls_stated : (s : List Frame) (names : Names) (ts : List TokenMark) → Falls (12 * length ts + 2 * length s + 3) (stated s names ts)
falls_stated s names [] = omega arith
falls_stated s names (sign g p ∷ ts) = falls_sign_stated g p s names ts
falls_stated s names (word k p ∷ ts) = falls_word_stated k p s names ts
falls_stated s names (_ ∷ ts) = omega arith

falls_started : (p q : Place) (s : List Frame) (names : Names) (ts : List TokenMark) → Falls (12 * length ts + 2 * length s + 3) (started p q s names ts)
falls_started p q s names [] = omega arith
falls_started p q s names (sign signs.Semicolon r ∷ ts) = omega arith
falls_started p q s names (_ ∷ ts) = omega arith

falls_loop_tested : (p q : Place) (a : Option Expression) (r : Place) (s : List Frame) (names : Names) (ts : List TokenMark) → Falls (12 * length ts + 2 * length s + 3) (loop_tested p q a r s names ts)
falls_loop_tested p q a r s names [] = omega arith
falls_loop_tested p q a r s names (sign signs.Semicolon u ∷ ts) = omega arith
falls_loop_tested p q a r s names (_ ∷ ts) = omega arith

falls_stepped : (l : Loop) (s : List Frame) (names : Names) (ts : List TokenMark) → Falls (12 * length ts + 2 * length s + 3) (stepped l s names ts)
falls_stepped l s names [] = omega arith
falls_stepped l s names (part close_paren ∷ ts) = omega arith
falls_stepped l s names (_ ∷ ts) = omega arith

falls_returned : (p : Place) (s : List Frame) (names : Names) (ts : List TokenMark) → Falls (12 * length ts + 2 * length s + 3) (returned p s names ts)
falls_returned p s names [] = omega arith
falls_returned p s names (sign signs.Semicolon q ∷ ts) = omega arith
falls_returned p s names (_ ∷ ts) = omega arith

falls_branched : (p q : Place) (e : Expression) (b : Statement) (s : List Frame) (names : Names) (ts : List TokenMark) → Falls (12 * length ts + 2 * suc (length s) + 6) (branched p q e b s names ts)
falls_branched p q e b s names [] = omega arith
falls_branched p q e b s names (part else_word ∷ ts) = omega arith
falls_branched p q e b s names (_ ∷ ts) = omega arith

falls_done : (p : Place) (b : Statement) (s : List Frame) (names : Names) (ts : List TokenMark) → Falls (12 * length ts + 2 * suc (length s) + 6) (done_followed p b s names ts)
falls_done p b s names [] = tt
falls_done p b s names (word keywords.While r ∷ ts) = omega arith
falls_done p b s names (_ ∷ ts) = tt

falls_defined : (ws : Specifiers) (d : Declarator) (outside : Names) (b : Statement) (s : List Frame) (ts : List TokenMark) → Falls (12 * length ts + 2 * suc (length s) + 6) (defined ws d outside b s ts)
falls_defined ws d outside (Block p ds ss) [] ts = tt
falls_defined ws d outside (Block p ds ss) (awaits_declaration (in_file before) ∷ s) ts = omega arith
falls_defined ws d outside (Block p ds ss) (_ ∷ s) ts = tt
falls_defined ws d outside _ s ts = tt

falls_statement : (b : Statement) (f : StatementFrame) (s : List Frame) (names : Names) (ts : List TokenMark) → Falls (12 * length ts + 2 * suc (length s) + 6) (statement_given b f s names ts)
falls_statement b (then_branch p q e) s names ts = falls_branched p q e b s names ts
falls_statement b (else_branch p q e a) s names ts = omega arith
falls_statement b (while_body p q e) s names ts = omega arith
falls_statement b (switch_body p q e) s names ts = omega arith
falls_statement b (do_body p) s names ts = falls_done p b s names ts
falls_statement b (for_body l c) s names ts = omega arith
falls_statement b (case_body p e) s names ts = omega arith
falls_statement b (default_body p) s names ts = omega arith
falls_statement b (in_statements i before) s names ts = omega arith
falls_statement b (in_definition ws d outside) s names ts = falls_defined ws d outside b s ts

-- ---- every step

falls_called : (e : Expression) (p : Place) (l : ℕ) (s : List Frame) (names : Names) (ts : List TokenMark) → Falls (12 * length ts + 2 * length s + 3) (called e p l s names ts)
falls_called e p l s names [] = omega arith
falls_called e p l s names (part close_paren ∷ ts) = omega arith
falls_called e p l s names (_ ∷ ts) = omega arith

falls_measured : (p : Place) (l : ℕ) (s : List Frame) (names : Names) (ts : List TokenMark) → Falls (12 * length ts + 2 * length s + 3) (measured p l s names ts)
falls_measured p l s names [] = omega arith
falls_measured p l s names (sign signs.LeftParen q ∷ ts) = branch (begins_specifiers names ts) _ _ _ (omega arith) (omega arith)
falls_measured p l s names (_ ∷ ts) = omega arith

falls_enumerating : (b : TypeBody) (before : List EnumEntry) (s : List Frame) (names : Names) (ts : List TokenMark) → Falls (12 * length ts + 2 * length s + 0) (enumerator_named b before s names ts)
falls_enumerating b before s names [] = tt
falls_enumerating b before s names (name n ∷ ts) = omega arith
falls_enumerating b before s names (_ ∷ ts) = tt

pub falls : (d : Doing) (s : List Frame) (names : Names) (ts : List TokenMark) → Falls (measure (state d s names ts)) (step (state d s names ts))
falls (seek l) s names ts = falls_sought l s names ts
falls (operated e l) s names ts = falls_operated e l s names ts
falls (gave e) (awaits_expression f ∷ s) names ts = falls_expression e f s names ts
falls (gave e) _ names ts = tt
falls (calling e p l) s names ts = falls_called e p l s names ts
falls (measuring p l) s names ts = falls_measured p l s names ts
falls (specifying seen before) s names ts = falls_specified seen before s names ts
falls (tagging is p seen before) s names ts = falls_tag is p seen before s names ts
falls (tagged is p n seen before) s names ts = falls_tagged is p n seen before s names ts
falls (membering b before) s names ts = falls_members b before s names ts
falls (enumerating b before) s names ts = falls_enumerating b before s names ts
falls (enumerated b before n) s names ts = falls_enumerated b before n s names ts
falls (entered b before e) s names ts = falls_entered b before e s names ts
falls (entering b before e) s names ts = falls_entering b before e s names ts
falls (gave_specifiers ws) (awaits_specifiers f ∷ s) names ts = falls_specifiers ws f s names ts
falls (gave_specifiers ws) _ names ts = tt
falls (declaring m needed) s names ts = falls_declared m needed s names ts
falls (qualifying m p before) s names ts = falls_qualified m p before s names ts
falls (suffixing m d) s names ts = falls_suffixed m d s names ts
falls (sizing m d p) s names ts = falls_sized m d p s names ts
falls (parametering m d p) s names ts = falls_opened m d p s names ts
falls (gave_declarator d) (awaits_declarator f ∷ s) names ts = falls_declarator d f s names ts
falls (gave_declarator d) _ names ts = tt
falls initialising s names ts = falls_initialised s names ts
falls (listing p x before) s names ts = falls_list_followed p x before s names ts
falls (gave_initialiser x) s names ts = falls_initialiser x s names ts
falls (itemed ws i before) s names ts = falls_itemed ws i before s names ts
falls (gave_declaration d) s names ts = falls_declaration d s names ts
falls (externals before) s names ts = falls_external before s names ts
falls (declarations i) s names ts = branch (begins_specifiers names ts) _ _ _ (omega arith) (omega arith)
falls (statements i before) s names ts = falls_block i before s names ts
falls stating s names ts = falls_stated s names ts
falls (opening h) s names ts = falls_open (2 * length s) 0 ts _ (λ p us. omega arith)
falls (finishing p b r q e) s names ts = falls_semicolon (2 * length s) 0 ts _ (λ u us. omega arith)
falls (looping p) s names ts = falls_open (2 * length s) 0 ts _ (λ q us. omega arith)
falls (starting p q) s names ts = falls_started p q s names ts
falls (testing p q a r) s names ts = falls_loop_tested p q a r s names ts
falls (stepping l) s names ts = falls_stepped l s names ts
falls (returning p) s names ts = falls_returned p s names ts
falls (breaking p) s names ts = falls_semicolon (2 * length s) 0 ts _ (λ q us. omega arith)
falls (continuing p) s names ts = falls_semicolon (2 * length s) 0 ts _ (λ q us. omega arith)
falls (defaulting p) s names ts = falls_colon (2 * length s) 0 ts _ (λ us. omega arith)
falls (gave_statement b) (awaits_statement f ∷ s) names ts = falls_statement b f s names ts
falls (gave_statement b) _ names ts = tt
