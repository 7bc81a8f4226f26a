-- A step keeps the tokens: what it takes is spelled by what it has.
use Rattle.std.proofs.Common.{◌≡◌, ℕ, leb, ◌&&◌, not, if◌then◌else◌, Bool, true, false, List, [], ◌∷◌, Option, Some, None, refl, ap, ◌∙◌}
use Rattle.dae_base.specs.declared.Place.{Place}
use Rattle.dae_tree.specs.declared.words.Keyword.{Keyword}
use Rattle.dae_tree.specs.declared.words.Keyword.TheVariants as keywords
use Rattle.dae_tree.specs.declared.signs.Sign.{Sign}
use Rattle.dae_tree.specs.declared.signs.Sign.TheVariants as signs
use Rattle.dae_tree.specs.declared.expressions.Name.{Name}
use Rattle.dae_tree.specs.declared.operators.MemberOperator.{MemberOperator}
use Rattle.dae_tree.specs.declared.operators.MemberOperator.TheVariants as member
use Rattle.dae_tree.specs.Operators.{member_sign}
use Rattle.dae_tree.specs.Marks.{TokenMark, word, sign, name, constant, literal, part, close_paren, close_bracket, close_brace, comma, colon, else_word}
use Rattle.dae_tree.specs.declared.seen.Seen.{Seen}
use Rattle.dae_tree.specs.Words.{has_type, admits, begins_specifiers}
use Rattle.dae_tree.specs.Names.{Names, is_type, has_typedef, with_declarator}
use Rattle.dae_tree.specs.Spelling.{spell, spell_all, spell_more, spell_specifiers, spell_specifier, spell_members, spell_enumerators, spell_more_enumerators, spell_declarators, spell_more_declarators, spell_declarator, spell_parameters, spell_more_parameters, spell_qualifiers, spell_tag}
use Rattle.dae_tree.specs.Statements.{spell_initialiser, spell_initialisers, spell_more_initialisers, spell_declaration, spell_optional, spell_test, spell_statement, spell_item, spell_items, spell_more_items, spell_declarations, spell_statements, spell_file}
use Rattle.dae_tree.specs.Grammar.{Manner, by_name, without_name, either_way}
use Rattle.dae_tree.specs.Trees.{Expression, Expressions, Specifiers, Specifier, Members, Enumerators, Declarators, Declarator, Parameters, Initialiser, Initialisers, InitDeclarator, Declaration, Statement, Statements, External, no_expressions, expression_then, no_specifiers, specifier_then, Word, no_members, member_then, no_enumerators, no_declarators, declarator_then, Absent, no_parameters, parameter_then, no_initialisers, initialiser_then, no_statements, statement_then, Block}
use Rattle.dae_tree.specs.Lists.{MemberLine, EnumEntry, Parameter}
use Rattle.dae_parse_grammar.specs.Frames.{TypeBody, OpenParameters, StatementHead, Loop, Inside, if_head, while_head, switch_head, do_head, Frame, in_parentheses, in_index, in_arguments, behind_prefix, behind_sizeof, behind_cast, behind_binary, behind_question, behind_colon, behind_assignment, behind_comma, in_size, in_enumerator, in_value, in_evaluation, in_test, in_start, in_loop_test, in_step, in_return, in_case, for_cast, for_sizeof, for_parameter, for_member, for_declaration, behind_star, in_group, of_cast, of_sizeof, of_parameter, of_member, of_item, in_list, of_value, in_file, in_block, then_branch, else_branch, while_body, switch_body, do_body, for_body, case_body, default_body, in_statements, in_definition, Doing, seek, operated, gave, calling, measuring, specifying, tagging, tagged, membering, enumerating, enumerated, entered, entering, gave_specifiers, declaring, qualifying, suffixing, sizing, parametering, gave_declarator, initialising, listing, gave_initialiser, itemed, gave_declaration, externals, declarations, statements, stating, opening, finishing, looping, starting, testing, stepping, returning, breaking, continuing, defaulting, gave_statement, ParserState, state, awaits_expression, awaits_specifiers, awaits_declarator, awaits_initialiser, awaits_declaration, awaits_statement, ExpressionFrame, SpecifiersFrame, DeclaratorFrame, StatementFrame}
use Rattle.dae_parse_grammar.specs.Machine.{closed, initialised, listed, list_followed, initialiser_taken, item_followed, declaration_taken, external_begun, block_followed, sign_stated, word_stated, stated, started, loop_tested, stepped, returned, branched, done_followed, defined, statement_given, called, measured, enumerator_named, enumerator_followed, declaration_begun, specifiers_given, nothing_declared, begins_parameters, parenthesis_declared, bracket_declared, name_declared, declared, qualified, suffixed, sized, parameters_opened, parameter_given, member_given, item_given, declarator_given, at_paren, at_bracket, at_colon, at_semicolon, at_open, sign_sought, sought, named_member, operated_at, argument_given, tested, expression_given, specifiers_end, word_taken, specified, body, body_opened, tag_taken, tag_alone, tag_followed, members_followed, entry_followed, comma_followed, step, arguments_onto, specifiers_onto, members_onto, enumerators_onto, enumerator_before, declarators_onto, parameters_onto, initialisers_onto, statements_onto, onto, operation, operate, goes_on}
use Rattle.dae_parse_grammar.specs.Taken.{head_taken, body_begun, arguments_before, specifiers_before, lines_before, spell_entry, entries_before, open_begun, declarators_before, parameters_before, qualifiers_before, initialisers_before, items_before, block_taken, loop_begun, declarations_before, statements_before, externals_before, tag_word, stack_taken, tokens_of, frame_taken}

-- ---- lists, put the right way round

arguments_spelled : (before : List Expression) (e : Expression) (xs : Expressions) (ts : List TokenMark)
    → spell_all (arguments_onto before (expression_then e xs)) ts ≡ arguments_before before (spell e (spell_more xs ts))
arguments_spelled [] e xs ts = refl
arguments_spelled (a ∷ before) e xs ts = arguments_spelled before a (expression_then e xs) ts

specifiers_spelled : (before : List Specifier) (ws : Specifiers) (ts : List TokenMark)
    → spell_specifiers (specifiers_onto before ws) ts ≡ specifiers_before before (spell_specifiers ws ts)
specifiers_spelled [] ws ts = refl
specifiers_spelled (w ∷ before) ws ts = specifiers_spelled before (specifier_then w ws) ts

members_spelled : (before : List MemberLine) (ms : Members) (ts : List TokenMark)
    → spell_members (members_onto before ms) ts ≡ lines_before before (spell_members ms ts)
members_spelled [] ms ts = refl
members_spelled (m ∷ before) ms ts = members_spelled before (member_then m.specifiers m.declarators m.end ms) ts

entry_spelled : (e : EnumEntry) (es : Enumerators) (ts : List TokenMark) → spell_enumerators (enumerator_before e es) ts ≡ spell_entry e (spell_more_enumerators es ts)
entry_spelled e es ts = go e.name e.value
  where
    go : (n : Name) (v : Option (Place × Expression)) → spell_enumerators (enumerator_before (record { name = n; value = v }) es) ts ≡ spell_entry (record { name = n; value = v }) (spell_more_enumerators es ts)
    go n None = refl
    go n (Some v) = refl

entry_more : (e : EnumEntry) (es : Enumerators) (ts : List TokenMark) → spell_more_enumerators (enumerator_before e es) ts ≡ part comma ∷ spell_entry e (spell_more_enumerators es ts)
entry_more e es ts = go e.name e.value
  where
    go : (n : Name) (v : Option (Place × Expression)) → spell_more_enumerators (enumerator_before (record { name = n; value = v }) es) ts ≡ part comma ∷ spell_entry (record { name = n; value = v }) (spell_more_enumerators es ts)
    go n None = refl
    go n (Some v) = refl

enumerators_spelled : (before : List EnumEntry) (e : EnumEntry) (es : Enumerators) (ts : List TokenMark)
    → spell_enumerators (enumerators_onto before (enumerator_before e es)) ts ≡ entries_before before (spell_entry e (spell_more_enumerators es ts))
enumerators_spelled [] e es ts = entry_spelled e es ts
enumerators_spelled (a ∷ before) e es ts =
    enumerators_spelled before a (enumerator_before e es) ts ∙ ap (λ (us : List TokenMark). entries_before before (spell_entry a us)) (entry_more e es ts)

declarators_spelled : (before : List Declarator) (d : Declarator) (ds : Declarators) (ts : List TokenMark)
    → spell_declarators (declarators_onto before (declarator_then d ds)) ts ≡ declarators_before before (spell_declarator d (spell_more_declarators ds ts))
declarators_spelled [] d ds ts = refl
declarators_spelled (e ∷ before) d ds ts = declarators_spelled before e (declarator_then d ds) ts

parameters_spelled : (before : List Parameter) (ws : Specifiers) (d : Declarator) (ps : Parameters) (ts : List TokenMark)
    → spell_parameters (parameters_onto before (parameter_then ws d ps)) ts ≡ parameters_before before (spell_specifiers ws (spell_declarator d (spell_more_parameters ps ts)))
parameters_spelled [] ws d ps ts = refl
parameters_spelled (p ∷ before) ws d ps ts = parameters_spelled before p.specifiers p.declarator (parameter_then ws d ps) ts

qualifiers_spelled : (before qs : List Place) (ts : List TokenMark) → spell_qualifiers (onto before qs) ts ≡ qualifiers_before before (spell_qualifiers qs ts)
qualifiers_spelled [] qs ts = refl
qualifiers_spelled (q ∷ before) qs ts = qualifiers_spelled before (q ∷ qs) ts

initialisers_spelled : (before : List Initialiser) (x : Initialiser) (xs : Initialisers) (ts : List TokenMark)
    → spell_initialisers (initialisers_onto before (initialiser_then x xs)) ts ≡ initialisers_before before (spell_initialiser x (spell_more_initialisers xs ts))
initialisers_spelled [] x xs ts = refl
initialisers_spelled (y ∷ before) x xs ts = initialisers_spelled before y (initialiser_then x xs) ts

items_spelled : (before : List InitDeclarator) (i : InitDeclarator) (items : List InitDeclarator) (ts : List TokenMark)
    → spell_items (onto before (i ∷ items)) ts ≡ items_before before (spell_item i (spell_more_items items ts))
items_spelled [] i items ts = refl
items_spelled (j ∷ before) i items ts = items_spelled before j (i ∷ items) ts

declarations_spelled : (before ds : List Declaration) (ts : List TokenMark) → spell_declarations (onto before ds) ts ≡ declarations_before before (spell_declarations ds ts)
declarations_spelled [] ds ts = refl
declarations_spelled (d ∷ before) ds ts = declarations_spelled before (d ∷ ds) ts

statements_spelled : (before : List Statement) (ss : Statements) (ts : List TokenMark) → spell_statements (statements_onto before ss) ts ≡ statements_before before (spell_statements ss ts)
statements_spelled [] ss ts = refl
statements_spelled (b ∷ before) ss ts = statements_spelled before (statement_then b ss) ts

pub externals_spelled : (before xs : List External) (ts : List TokenMark) → spell_file (onto before xs) ts ≡ externals_before before (spell_file xs ts)
externals_spelled [] xs ts = refl
externals_spelled (x ∷ before) xs ts = externals_spelled before (x ∷ xs) ts

-- ---- steps

abbrev pub Keeps : List TokenMark → Option ParserState → Type 0
Keeps tokens None = Unit {0}
Keeps tokens (Some s) = tokens_of s ≡ tokens

branch : (b : Bool) (tokens : List TokenMark) (x y : Option ParserState) → Keeps tokens x → Keeps tokens y → Keeps tokens (if b then x else y)
branch true tokens x y h k = h
branch false tokens x y h k = k

either : (b : Bool) (tokens : List TokenMark) (x y : ParserState) → tokens_of x ≡ tokens → tokens_of y ≡ tokens → tokens_of (if b then x else y) ≡ tokens
either true tokens x y h k = h
either false tokens x y h k = k

-- one token that must stand there
kept_paren : (F : List TokenMark → List TokenMark) (ts : List TokenMark) (next : List TokenMark → ParserState) → ((us : List TokenMark) → tokens_of (next us) ≡ F (part close_paren ∷ us)) → Keeps (F ts) (at_paren ts next)
kept_paren F [] next h = tt
kept_paren F (part close_paren ∷ ts) next h = h ts
kept_paren F (_ ∷ ts) next h = tt

kept_bracket : (F : List TokenMark → List TokenMark) (ts : List TokenMark) (next : List TokenMark → ParserState) → ((us : List TokenMark) → tokens_of (next us) ≡ F (part close_bracket ∷ us)) → Keeps (F ts) (at_bracket ts next)
kept_bracket F [] next h = tt
kept_bracket F (part close_bracket ∷ ts) next h = h ts
kept_bracket F (_ ∷ ts) next h = tt

kept_colon : (F : List TokenMark → List TokenMark) (ts : List TokenMark) (next : List TokenMark → ParserState) → ((us : List TokenMark) → tokens_of (next us) ≡ F (part colon ∷ us)) → Keeps (F ts) (at_colon ts next)
kept_colon F [] next h = tt
kept_colon F (part colon ∷ ts) next h = h ts
kept_colon F (_ ∷ ts) next h = tt

kept_semicolon : (F : List TokenMark → List TokenMark) (ts : List TokenMark) (next : Place → List TokenMark → ParserState) → ((p : Place) (us : List TokenMark) → tokens_of (next p us) ≡ F (sign signs.Semicolon p ∷ us)) → Keeps (F ts) (at_semicolon ts next)
kept_semicolon F [] next h = tt
kept_semicolon F (sign signs.Semicolon p ∷ ts) next h = h p ts
kept_semicolon F (_ ∷ ts) next h = tt

kept_open : (F : List TokenMark → List TokenMark) (ts : List TokenMark) (next : Place → List TokenMark → ParserState) → ((p : Place) (us : List TokenMark) → tokens_of (next p us) ≡ F (sign signs.LeftParen p ∷ us)) → Keeps (F ts) (at_open ts next)
kept_open F [] next h = tt
kept_open F (sign signs.LeftParen p ∷ ts) next h = h p ts
kept_open F (_ ∷ ts) next h = tt

keeps_sign : (g : Sign) (p : Place) (l : ℕ) (s : List Frame) (names : Names) (ts : List TokenMark) → Keeps (stack_taken s (sign g p ∷ ts)) (sign_sought g p l s names ts)
keeps_sign signs.LeftParen p l s names ts = either (begins_specifiers names ts && leb 3 l) _ _ _ refl refl
keeps_sign _ p l s names ts = search

keeps_sought : (l : ℕ) (s : List Frame) (names : Names) (ts : List TokenMark) → Keeps (stack_taken s ts) (sought l s names ts)
keeps_sought l s names [] = tt
keeps_sought l s names (name n ∷ ts) = branch (is_type names n.number) _ _ _ tt refl
keeps_sought l s names (word keywords.Sizeof p ∷ ts) = refl
keeps_sought l s names (word _ p ∷ ts) = tt
keeps_sought l s names (sign g p ∷ ts) = keeps_sign g p l s names ts
keeps_sought l s names (constant p c ∷ ts) = refl
keeps_sought l s names (literal p n ∷ ts) = refl
keeps_sought l s names (part c ∷ ts) = tt

keeps_member : (e : Expression) (p : Place) (o : MemberOperator) (l : ℕ) (s : List Frame) (names : Names) (ts : List TokenMark) → Keeps (stack_taken s (spell e (sign (member_sign o) p ∷ ts))) (named_member e p o l s names ts)
keeps_member e p o l s names [] = tt
keeps_member e p o l s names (name n ∷ ts) = refl
keeps_member e p o l s names (_ ∷ ts) = tt

keeps_operation : (g : Sign) (e : Expression) (p : Place) (l : ℕ) (s : List Frame) (names : Names) (ts : List TokenMark) → Keeps (stack_taken s (spell e (sign g p ∷ ts))) (operate (operation g) e p l s names ts)
keeps_operation signs.Dot e p l s names ts = keeps_member e p member.Dot l s names ts
keeps_operation signs.Arrow e p l s names ts = keeps_member e p member.Arrow l s names ts
keeps_operation _ e p l s names ts = search

keeps_operated : (e : Expression) (l : ℕ) (s : List Frame) (names : Names) (ts : List TokenMark) → Keeps (stack_taken s (spell e ts)) (operated_at e l s names ts)
keeps_operated e l s names [] = refl
keeps_operated e l s names (sign g p ∷ ts) = branch (goes_on (operation g) e l) _ _ _ (keeps_operation g e p l s names ts) refl
keeps_operated e l s names (part comma ∷ ts) = branch (leb 16 l) _ _ _ refl refl
keeps_operated e l s names (_ ∷ ts) = refl

keeps_argument : (a g : Expression) (p : Place) (before : List Expression) (l : ℕ) (s : List Frame) (names : Names) (ts : List TokenMark)
    → Keeps (stack_taken s (spell g (sign signs.LeftParen p ∷ arguments_before before (spell a ts)))) (argument_given a g p before l s names ts)
keeps_argument a g p before l s names [] = tt
keeps_argument a g p before l s names (part comma ∷ ts) = refl
keeps_argument a g p before l s names (part close_paren ∷ ts) = ap (λ (us : List TokenMark). stack_taken s (spell g (sign signs.LeftParen p ∷ us))) (arguments_spelled before a no_expressions (part close_paren ∷ ts))
keeps_argument a g p before l s names (_ ∷ ts) = tt

keeps_tested : (h : StatementHead) (p : Place) (e : Expression) (s : List Frame) (names : Names) (ts : List TokenMark) → tokens_of (tested h p e s names ts) ≡ stack_taken s (head_taken h (sign signs.LeftParen p ∷ spell e (part close_paren ∷ ts)))
keeps_tested (if_head q) p e s names ts = refl
keeps_tested (while_head q) p e s names ts = refl
keeps_tested (switch_head q) p e s names ts = refl
keeps_tested (do_head q b r) p e s names ts = refl

keeps_expression : (e : Expression) (f : ExpressionFrame) (s : List Frame) (names : Names) (ts : List TokenMark) → Keeps (stack_taken s (frame_taken (awaits_expression f) (spell e ts))) (expression_given e f s names ts)
keeps_expression e (in_parentheses p l) s names ts = kept_paren (λ us. stack_taken s (frame_taken (awaits_expression (in_parentheses p l)) (spell e us))) ts _ (λ us. refl)
keeps_expression e (in_index a p l) s names ts = kept_bracket (λ us. stack_taken s (frame_taken (awaits_expression (in_index a p l)) (spell e us))) ts _ (λ us. refl)
keeps_expression e (in_arguments g p before l) s names ts = keeps_argument e g p before l s names ts
keeps_expression e (behind_prefix p o l) s names ts = refl
keeps_expression e (behind_sizeof p l) s names ts = refl
keeps_expression e (behind_cast p ws d l) s names ts = refl
keeps_expression e (behind_binary a p o l) s names ts = refl
keeps_expression e (behind_question a p l) s names ts = kept_colon (λ us. stack_taken s (frame_taken (awaits_expression (behind_question a p l)) (spell e us))) ts _ (λ us. refl)
keeps_expression e (behind_colon a p b l) s names ts = refl
keeps_expression e (behind_assignment a p o l) s names ts = refl
keeps_expression e (behind_comma a l) s names ts = refl
keeps_expression e (in_size d p m) s names ts = kept_bracket (λ us. stack_taken s (frame_taken (awaits_expression (in_size d p m)) (spell e us))) ts _ (λ us. refl)
keeps_expression e (in_enumerator b before n p) s names ts = refl
keeps_expression e in_value s names ts = refl
keeps_expression e in_evaluation s names ts = kept_semicolon (λ us. stack_taken s (spell e us)) ts _ (λ p us. refl)
keeps_expression e (in_test h p) s names ts = kept_paren (λ us. stack_taken s (frame_taken (awaits_expression (in_test h p)) (spell e us))) ts _ (λ us. keeps_tested h p e s names us)
keeps_expression e (in_start p q) s names ts = kept_semicolon (λ us. stack_taken s (frame_taken (awaits_expression (in_start p q)) (spell e us))) ts _ (λ r us. refl)
keeps_expression e (in_loop_test p q a r) s names ts = kept_semicolon (λ us. stack_taken s (frame_taken (awaits_expression (in_loop_test p q a r)) (spell e us))) ts _ (λ u us. refl)
keeps_expression e (in_step loop) s names ts = kept_paren (λ us. stack_taken s (frame_taken (awaits_expression (in_step loop)) (spell e us))) ts _ (λ us. refl)
keeps_expression e (in_return p) s names ts = kept_semicolon (λ us. stack_taken s (frame_taken (awaits_expression (in_return p)) (spell e us))) ts _ (λ q us. refl)
keeps_expression e (in_case p) s names ts = kept_colon (λ us. stack_taken s (frame_taken (awaits_expression (in_case p)) (spell e us))) ts _ (λ us. refl)

-- ---- specifiers

keeps_end : (seen : Seen) (before : List Specifier) (s : List Frame) (names : Names) (ts : List TokenMark) → Keeps (stack_taken s (specifiers_before before ts)) (specifiers_end seen before s names ts)
keeps_end seen before s names ts = branch (has_type seen) _ _ _ (ap (stack_taken s) (specifiers_spelled before no_specifiers ts)) tt

keeps_word : (k : Keyword) (p : Place) (seen : Seen) (before : List Specifier) (s : List Frame) (names : Names) (ts : List TokenMark) → tokens_of (word_taken k p seen before s names ts) ≡ stack_taken s (specifiers_before before (word k p ∷ ts))
keeps_word keywords.Struct p seen before s names ts = refl
keeps_word keywords.Enum p seen before s names ts = refl
keeps_word _ p seen before s names ts = refl

keeps_specified : (seen : Seen) (before : List Specifier) (s : List Frame) (names : Names) (ts : List TokenMark) → Keeps (stack_taken s (specifiers_before before ts)) (specified seen before s names ts)
keeps_specified seen before s names [] = keeps_end seen before s names []
keeps_specified seen before s names (word k p ∷ ts) = branch (admits seen k) _ _ _ (keeps_word k p seen before s names ts) (keeps_end seen before s names (word k p ∷ ts))
keeps_specified seen before s names (name n ∷ ts) = branch (not (has_type seen) && is_type names n.number) _ _ _ refl (keeps_end seen before s names (name n ∷ ts))
keeps_specified seen before s names (t ∷ ts) = keeps_end seen before s names (t ∷ ts)

keeps_body : (is : Bool) (p : Place) (tag : Option Name) (q : Place) (seen : Seen) (before : List Specifier) (s : List Frame) (names : Names) (ts : List TokenMark)
    → tokens_of (body_opened is (body p tag q seen before) s names ts) ≡ stack_taken s (specifiers_before before (word (tag_word is) p ∷ spell_tag tag (sign signs.LeftBrace q ∷ ts)))
keeps_body true p tag q seen before s names ts = refl
keeps_body false p tag q seen before s names ts = refl

keeps_tag : (is : Bool) (p : Place) (seen : Seen) (before : List Specifier) (s : List Frame) (names : Names) (ts : List TokenMark) → Keeps (stack_taken s (specifiers_before before (word (tag_word is) p ∷ ts))) (tag_taken is p seen before s names ts)
keeps_tag is p seen before s names [] = tt
keeps_tag is p seen before s names (name n ∷ ts) = refl
keeps_tag is p seen before s names (sign signs.LeftBrace q ∷ ts) = keeps_body is p None q seen before s names ts
keeps_tag is p seen before s names (_ ∷ ts) = tt

keeps_alone : (is : Bool) (p : Place) (n : Name) (ts : List TokenMark) → spell_specifier (tag_alone is p n) ts ≡ word (tag_word is) p ∷ name n ∷ ts
keeps_alone true p n ts = refl
keeps_alone false p n ts = refl

keeps_tagged : (is : Bool) (p : Place) (n : Name) (seen : Seen) (before : List Specifier) (s : List Frame) (names : Names) (ts : List TokenMark) → Keeps (stack_taken s (specifiers_before before (word (tag_word is) p ∷ name n ∷ ts))) (tag_followed is p n seen before s names ts)
keeps_tagged is p n seen before s names [] = ap (λ (us : List TokenMark). stack_taken s (specifiers_before before us)) (keeps_alone is p n [])
keeps_tagged is p n seen before s names (sign signs.LeftBrace q ∷ ts) = keeps_body is p (Some n) q seen before s names ts
keeps_tagged is p n seen before s names (t ∷ ts) = ap (λ (us : List TokenMark). stack_taken s (specifiers_before before us)) (keeps_alone is p n (t ∷ ts))

keeps_members : (b : TypeBody) (before : List MemberLine) (s : List Frame) (names : Names) (ts : List TokenMark) → Keeps (stack_taken s (body_begun true b (lines_before before ts))) (members_followed b before s names ts)
keeps_members b [] s names [] = refl
keeps_members b [] s names (part close_brace ∷ ts) = refl
keeps_members b [] s names (_ ∷ ts) = refl
keeps_members b (m ∷ before) s names [] = refl
keeps_members b (m ∷ before) s names (part close_brace ∷ ts) = ap (λ (us : List TokenMark). stack_taken s (body_begun true b us)) (members_spelled (m ∷ before) no_members (part close_brace ∷ ts))
keeps_members b (m ∷ before) s names (_ ∷ ts) = refl

keeps_entered : (b : TypeBody) (before : List EnumEntry) (e : EnumEntry) (s : List Frame) (names : Names) (ts : List TokenMark) → Keeps (stack_taken s (body_begun false b (entries_before before (spell_entry e ts)))) (entry_followed b before e s names ts)
keeps_entered b before e s names [] = tt
keeps_entered b before e s names (part comma ∷ ts) = refl
keeps_entered b before e s names (part close_brace ∷ ts) = ap (λ (us : List TokenMark). stack_taken s (body_begun false b us)) (enumerators_spelled before e no_enumerators (part close_brace ∷ ts))
keeps_entered b before e s names (_ ∷ ts) = tt

keeps_entering : (b : TypeBody) (before : List EnumEntry) (e : EnumEntry) (s : List Frame) (names : Names) (ts : List TokenMark) → Keeps (stack_taken s (body_begun false b (entries_before before (spell_entry e (part comma ∷ ts))))) (comma_followed b before e s names ts)
keeps_entering b before e s names [] = refl
keeps_entering b before e s names (part close_brace ∷ ts) = ap (λ (us : List TokenMark). stack_taken s (body_begun false b us)) (enumerators_spelled before e no_enumerators (part comma ∷ part close_brace ∷ ts))
keeps_entering b before e s names (_ ∷ ts) = refl

keeps_enumerated : (b : TypeBody) (before : List EnumEntry) (n : Name) (s : List Frame) (names : Names) (ts : List TokenMark) → Keeps (stack_taken s (body_begun false b (entries_before before (name n ∷ ts)))) (enumerator_followed b before n s names ts)
keeps_enumerated b before n s names [] = refl
keeps_enumerated b before n s names (sign signs.Assign p ∷ ts) = refl
keeps_enumerated b before n s names (_ ∷ ts) = refl

-- ---- declarators

keeps_begun : (outer : Bool) (ws : Specifiers) (s : List Frame) (names : Names) (ts : List TokenMark) → Keeps (stack_taken s (spell_specifiers ws ts)) (declaration_begun outer ws s names ts)
keeps_begun outer ws s names [] = refl
keeps_begun outer ws s names (sign signs.Semicolon p ∷ ts) = refl
keeps_begun outer ws s names (_ ∷ ts) = refl

keeps_specifiers : (ws : Specifiers) (f : SpecifiersFrame) (s : List Frame) (names : Names) (ts : List TokenMark) → Keeps (stack_taken s (frame_taken (awaits_specifiers f) (spell_specifiers ws ts))) (specifiers_given ws f s names ts)
keeps_specifiers ws (for_cast p l) s names ts = refl
keeps_specifiers ws (for_sizeof p q l) s names ts = refl
keeps_specifiers ws (for_parameter o before) s names ts = refl
keeps_specifiers ws (for_member b before) s names ts = refl
keeps_specifiers ws (for_declaration outer) s names ts = keeps_begun outer ws s names ts

keeps_nothing : (m : Manner) (needed : Bool) (s : List Frame) (names : Names) (ts : List TokenMark) → Keeps (stack_taken s ts) (nothing_declared m needed s names ts)
keeps_nothing by_name needed s names ts = tt
keeps_nothing without_name true s names ts = tt
keeps_nothing without_name false s names ts = refl
keeps_nothing either_way true s names ts = tt
keeps_nothing either_way false s names ts = refl

keeps_parenthesis : (m : Manner) (p : Place) (s : List Frame) (names : Names) (ts : List TokenMark) → Keeps (stack_taken s (sign signs.LeftParen p ∷ ts)) (parenthesis_declared m p s names ts)
keeps_parenthesis by_name p s names ts = refl
keeps_parenthesis without_name p s names ts = branch (begins_parameters names ts) _ _ _ refl refl
keeps_parenthesis either_way p s names ts = branch (begins_parameters names ts) _ _ _ refl refl

keeps_bracket : (m : Manner) (p : Place) (s : List Frame) (names : Names) (ts : List TokenMark) → Keeps (stack_taken s (sign signs.LeftBracket p ∷ ts)) (bracket_declared m p s names ts)
keeps_bracket by_name p s names ts = tt
keeps_bracket without_name p s names ts = refl
keeps_bracket either_way p s names ts = refl

keeps_named : (m : Manner) (needed : Bool) (n : Name) (s : List Frame) (names : Names) (ts : List TokenMark) → Keeps (stack_taken s (name n ∷ ts)) (name_declared m needed n s names ts)
keeps_named by_name needed n s names ts = refl
keeps_named without_name needed n s names ts = keeps_nothing without_name needed s names (name n ∷ ts)
keeps_named either_way needed n s names ts = refl

keeps_declared : (m : Manner) (needed : Bool) (s : List Frame) (names : Names) (ts : List TokenMark) → Keeps (stack_taken s ts) (declared m needed s names ts)
keeps_declared m needed s names [] = keeps_nothing m needed s names []
keeps_declared m needed s names (sign signs.Times p ∷ ts) = refl
keeps_declared m needed s names (sign signs.LeftParen p ∷ ts) = keeps_parenthesis m p s names ts
keeps_declared m needed s names (sign signs.LeftBracket p ∷ ts) = keeps_bracket m p s names ts
keeps_declared m needed s names (name n ∷ ts) = keeps_named m needed n s names ts
keeps_declared m needed s names (t ∷ ts) = keeps_nothing m needed s names (t ∷ ts)

keeps_qualified : (m : Manner) (p : Place) (before : List Place) (s : List Frame) (names : Names) (ts : List TokenMark) → Keeps (stack_taken s (sign signs.Times p ∷ qualifiers_before before ts)) (qualified m p before s names ts)
keeps_qualified m p before s names [] = ap (λ (us : List TokenMark). stack_taken s (sign signs.Times p ∷ us)) (qualifiers_spelled before [] [])
keeps_qualified m p before s names (word keywords.Const q ∷ ts) = refl
keeps_qualified m p before s names (t ∷ ts) = ap (λ (us : List TokenMark). stack_taken s (sign signs.Times p ∷ us)) (qualifiers_spelled before [] (t ∷ ts))

keeps_suffixed : (m : Manner) (d : Declarator) (s : List Frame) (names : Names) (ts : List TokenMark) → Keeps (stack_taken s (spell_declarator d ts)) (suffixed m d s names ts)
keeps_suffixed m d s names [] = refl
keeps_suffixed m d s names (sign signs.LeftBracket p ∷ ts) = refl
keeps_suffixed m d s names (sign signs.LeftParen p ∷ ts) = refl
keeps_suffixed m d s names (_ ∷ ts) = refl

keeps_sized : (m : Manner) (d : Declarator) (p : Place) (s : List Frame) (names : Names) (ts : List TokenMark) → Keeps (stack_taken s (spell_declarator d (sign signs.LeftBracket p ∷ ts))) (sized m d p s names ts)
keeps_sized m d p s names [] = refl
keeps_sized m d p s names (part close_bracket ∷ ts) = refl
keeps_sized m d p s names (_ ∷ ts) = refl

keeps_opened : (m : Manner) (d : Declarator) (p : Place) (s : List Frame) (names : Names) (ts : List TokenMark) → Keeps (stack_taken s (spell_declarator d (sign signs.LeftParen p ∷ ts))) (parameters_opened m d p s names ts)
keeps_opened m d p s names [] = refl
keeps_opened m d p s names (part close_paren ∷ ts) = refl
keeps_opened m d p s names (_ ∷ ts) = refl

closed_spelled : (o : OpenParameters) (ps : Parameters) (us : List TokenMark) → spell_declarator (closed o ps) us ≡ open_begun o (spell_parameters ps (part close_paren ∷ us))
closed_spelled o (parameter_then ws Absent no_parameters) us = by_words ws
  where
    by_words : (ws : Specifiers) → spell_declarator (closed o (parameter_then ws Absent no_parameters)) us ≡ open_begun o (spell_specifiers ws (part close_paren ∷ us))
    by_words (specifier_then (Word q keywords.Void) no_specifiers) = refl
    by_words _ = refl
closed_spelled o _ us = refl

keeps_parameter : (d : Declarator) (o : OpenParameters) (before : List Parameter) (ws : Specifiers) (s : List Frame) (names : Names) (ts : List TokenMark)
    → Keeps (stack_taken s (open_begun o (parameters_before before (spell_specifiers ws (spell_declarator d ts))))) (parameter_given d o before ws s names ts)
keeps_parameter d o before ws s names [] = tt
keeps_parameter d o before ws s names (part comma ∷ ts) = refl
keeps_parameter d o before ws s names (part close_paren ∷ ts) =
    ap (stack_taken s) (closed_spelled o (parameters_onto before (parameter_then ws d no_parameters)) ts)
    ∙ ap (λ (us : List TokenMark). stack_taken s (open_begun o us)) (parameters_spelled before ws d no_parameters (part close_paren ∷ ts))
keeps_parameter d o before ws s names (_ ∷ ts) = tt

keeps_member_line : (d : Declarator) (b : TypeBody) (lines : List MemberLine) (ws : Specifiers) (before : List Declarator) (s : List Frame) (names : Names) (ts : List TokenMark)
    → Keeps (stack_taken s (body_begun true b (lines_before lines (spell_specifiers ws (declarators_before before (spell_declarator d ts)))))) (member_given d b lines ws before s names ts)
keeps_member_line d b lines ws before s names [] = tt
keeps_member_line d b lines ws before s names (part comma ∷ ts) = refl
keeps_member_line d b lines ws before s names (sign signs.Semicolon p ∷ ts) = ap (λ (us : List TokenMark). stack_taken s (body_begun true b (lines_before lines (spell_specifiers ws us)))) (declarators_spelled before d no_declarators (sign signs.Semicolon p ∷ ts))
keeps_member_line d b lines ws before s names (_ ∷ ts) = tt

keeps_item : (outer : Bool) (d : Declarator) (ws : Specifiers) (before : List InitDeclarator) (s : List Frame) (names : Names) (ts : List TokenMark)
    → Keeps (stack_taken s (spell_specifiers ws (items_before before (spell_declarator d ts)))) (item_given outer d ws before s names ts)
keeps_item true d ws [] s names [] = refl
keeps_item true d ws [] s names (sign signs.Assign p ∷ ts) = refl
keeps_item true d ws [] s names (sign signs.LeftBrace p ∷ ts) = refl
keeps_item true d ws [] s names (_ ∷ ts) = refl
keeps_item true d ws (i ∷ before) s names [] = refl
keeps_item true d ws (i ∷ before) s names (sign signs.Assign p ∷ ts) = refl
keeps_item true d ws (i ∷ before) s names (_ ∷ ts) = refl
keeps_item false d ws before s names [] = refl
keeps_item false d ws before s names (sign signs.Assign p ∷ ts) = refl
keeps_item false d ws before s names (_ ∷ ts) = refl

keeps_declarator : (d : Declarator) (f : DeclaratorFrame) (s : List Frame) (names : Names) (ts : List TokenMark) → Keeps (stack_taken s (frame_taken (awaits_declarator f) (spell_declarator d ts))) (declarator_given d f s names ts)
keeps_declarator d (behind_star p qs) s names ts = refl
keeps_declarator d (in_group p m) s names ts = kept_paren (λ us. stack_taken s (frame_taken (awaits_declarator (in_group p m)) (spell_declarator d us))) ts _ (λ us. refl)
keeps_declarator d (of_cast p ws l) s names ts = kept_paren (λ us. stack_taken s (frame_taken (awaits_declarator (of_cast p ws l)) (spell_declarator d us))) ts _ (λ us. refl)
keeps_declarator d (of_sizeof p q ws l) s names ts = kept_paren (λ us. stack_taken s (frame_taken (awaits_declarator (of_sizeof p q ws l)) (spell_declarator d us))) ts _ (λ us. refl)
keeps_declarator d (of_parameter o before ws) s names ts = keeps_parameter d o before ws s names ts
keeps_declarator d (of_member b lines ws before) s names ts = keeps_member_line d b lines ws before s names ts
keeps_declarator d (of_item outer ws before) s names ts = keeps_item outer d ws before s (with_declarator (has_typedef ws) d names) ts

-- ---- initialisers and declarations

keeps_initialised : (s : List Frame) (names : Names) (ts : List TokenMark) → Keeps (stack_taken s ts) (initialised s names ts)
keeps_initialised s names [] = refl
keeps_initialised s names (sign signs.LeftBrace p ∷ ts) = refl
keeps_initialised s names (_ ∷ ts) = refl

keeps_listed : (x : Initialiser) (p : Place) (before : List Initialiser) (s : List Frame) (names : Names) (ts : List TokenMark)
    → Keeps (stack_taken s (sign signs.LeftBrace p ∷ initialisers_before before (spell_initialiser x ts))) (listed x p before s names ts)
keeps_listed x p before s names [] = tt
keeps_listed x p before s names (part comma ∷ ts) = refl
keeps_listed x p before s names (part close_brace ∷ ts) = ap (λ (us : List TokenMark). stack_taken s (sign signs.LeftBrace p ∷ us)) (initialisers_spelled before x no_initialisers (part close_brace ∷ ts))
keeps_listed x p before s names (_ ∷ ts) = tt

keeps_list_followed : (p : Place) (x : Initialiser) (before : List Initialiser) (s : List Frame) (names : Names) (ts : List TokenMark)
    → Keeps (stack_taken s (sign signs.LeftBrace p ∷ initialisers_before (x ∷ before) ts)) (list_followed p (x ∷ before) s names ts)
keeps_list_followed p x before s names [] = refl
keeps_list_followed p x before s names (part close_brace ∷ ts) = ap (λ (us : List TokenMark). stack_taken s (sign signs.LeftBrace p ∷ us)) (initialisers_spelled before x no_initialisers (part comma ∷ part close_brace ∷ ts))
keeps_list_followed p x before s names (_ ∷ ts) = refl

keeps_initialiser : (x : Initialiser) (s : List Frame) (names : Names) (ts : List TokenMark) → Keeps (stack_taken s (spell_initialiser x ts)) (initialiser_taken x s names ts)
keeps_initialiser x [] names ts = tt
keeps_initialiser x (awaits_initialiser (in_list p before) ∷ s) names ts = keeps_listed x p before s names ts
keeps_initialiser x (awaits_initialiser (of_value ws before d p) ∷ s) names ts = refl
keeps_initialiser x (_ ∷ s) names ts = tt

keeps_itemed : (ws : Specifiers) (i : InitDeclarator) (before : List InitDeclarator) (s : List Frame) (names : Names) (ts : List TokenMark)
    → Keeps (stack_taken s (spell_specifiers ws (items_before before (spell_item i ts)))) (item_followed ws i before s names ts)
keeps_itemed ws i before s names [] = tt
keeps_itemed ws i before s names (part comma ∷ ts) = refl
keeps_itemed ws i before s names (sign signs.Semicolon p ∷ ts) = ap (λ (us : List TokenMark). stack_taken s (spell_specifiers ws us)) (items_spelled before i [] (sign signs.Semicolon p ∷ ts))
keeps_itemed ws i before s names (_ ∷ ts) = tt

keeps_declaration : (d : Declaration) (s : List Frame) (names : Names) (ts : List TokenMark) → Keeps (stack_taken s (spell_declaration d ts)) (declaration_taken d s names ts)
keeps_declaration d [] names ts = tt
keeps_declaration d (awaits_declaration (in_file before) ∷ s) names ts = refl
keeps_declaration d (awaits_declaration (in_block i) ∷ s) names ts = refl
keeps_declaration d (_ ∷ s) names ts = tt

keeps_external : (before : List External) (s : List Frame) (names : Names) (ts : List TokenMark) → Keeps (stack_taken s (externals_before before ts)) (external_begun before s names ts)
keeps_external before s names [] = tt
keeps_external before s names (t ∷ ts) = refl

-- ---- statements

keeps_block : (i : Inside) (before : List Statement) (s : List Frame) (names : Names) (ts : List TokenMark) → Keeps (stack_taken s (block_taken i (statements_before before ts))) (block_followed i before s names ts)
keeps_block i before s names [] = refl
keeps_block i before s names (part close_brace ∷ ts) =
    ap (λ (us : List TokenMark). stack_taken s (sign signs.LeftBrace i.place ∷ us))
    (declarations_spelled i.declarations [] _ ∙ ap (λ (us : List TokenMark). declarations_before i.declarations us) (statements_spelled before no_statements (part close_brace ∷ ts)))
keeps_block i before s names (_ ∷ ts) = refl

keeps_sign_stated : (g : Sign) (p : Place) (s : List Frame) (names : Names) (ts : List TokenMark) → Keeps (stack_taken s (sign g p ∷ ts)) (sign_stated g p s names ts)
keeps_sign_stated signs.LeftBrace p s names ts = refl
keeps_sign_stated signs.Semicolon p s names ts = refl
keeps_sign_stated _ p s names ts = refl

keeps_word_stated : (k : Keyword) (p : Place) (s : List Frame) (names : Names) (ts : List TokenMark) → Keeps (stack_taken s (word k p ∷ ts)) (word_stated k p s names ts)
keeps_word_stated keywords.If p s names ts = refl
keeps_word_stated _ p s names ts = refl

keeps_stated : (s : List Frame) (names : Names) (ts : List TokenMark) → Keeps (stack_taken s ts) (stated s names ts)
keeps_stated s names [] = refl
keeps_stated s names (sign g p ∷ ts) = keeps_sign_stated g p s names ts
keeps_stated s names (word k p ∷ ts) = keeps_word_stated k p s names ts
keeps_stated s names (_ ∷ ts) = refl

keeps_started : (p q : Place) (s : List Frame) (names : Names) (ts : List TokenMark) → Keeps (stack_taken s (word keywords.For p ∷ sign signs.LeftParen q ∷ ts)) (started p q s names ts)
keeps_started p q s names [] = refl
keeps_started p q s names (sign signs.Semicolon r ∷ ts) = refl
keeps_started p q s names (_ ∷ ts) = refl

keeps_loop_tested : (p q : Place) (a : Option Expression) (r : Place) (s : List Frame) (names : Names) (ts : List TokenMark)
    → Keeps (stack_taken s (word keywords.For p ∷ sign signs.LeftParen q ∷ spell_optional a (sign signs.Semicolon r ∷ ts))) (loop_tested p q a r s names ts)
keeps_loop_tested p q a r s names [] = refl
keeps_loop_tested p q a r s names (sign signs.Semicolon u ∷ ts) = refl
keeps_loop_tested p q a r s names (_ ∷ ts) = refl

keeps_stepped : (l : Loop) (s : List Frame) (names : Names) (ts : List TokenMark) → Keeps (stack_taken s (loop_begun l ts)) (stepped l s names ts)
keeps_stepped l s names [] = refl
keeps_stepped l s names (part close_paren ∷ ts) = refl
keeps_stepped l s names (_ ∷ ts) = refl

keeps_returned : (p : Place) (s : List Frame) (names : Names) (ts : List TokenMark) → Keeps (stack_taken s (word keywords.Return p ∷ ts)) (returned p s names ts)
keeps_returned p s names [] = refl
keeps_returned p s names (sign signs.Semicolon q ∷ ts) = refl
keeps_returned p s names (_ ∷ ts) = refl

keeps_branched : (p q : Place) (e : Expression) (b : Statement) (s : List Frame) (names : Names) (ts : List TokenMark) → Keeps (stack_taken s (word keywords.If p ∷ spell_test q e (spell_statement b ts))) (branched p q e b s names ts)
keeps_branched p q e b s names [] = refl
keeps_branched p q e b s names (part else_word ∷ ts) = refl
keeps_branched p q e b s names (_ ∷ ts) = refl

keeps_done : (p : Place) (b : Statement) (s : List Frame) (names : Names) (ts : List TokenMark) → Keeps (stack_taken s (word keywords.Do p ∷ spell_statement b ts)) (done_followed p b s names ts)
keeps_done p b s names [] = tt
keeps_done p b s names (word keywords.While r ∷ ts) = refl
keeps_done p b s names (_ ∷ ts) = tt

keeps_defined : (ws : Specifiers) (d : Declarator) (outside : Names) (b : Statement) (s : List Frame) (ts : List TokenMark) → Keeps (stack_taken s (spell_specifiers ws (spell_declarator d (spell_statement b ts)))) (defined ws d outside b s ts)
keeps_defined ws d outside (Block p ds ss) [] ts = tt
keeps_defined ws d outside (Block p ds ss) (awaits_declaration (in_file before) ∷ s) ts = refl
keeps_defined ws d outside (Block p ds ss) (_ ∷ s) ts = tt
keeps_defined ws d outside _ s ts = tt

keeps_statement : (b : Statement) (f : StatementFrame) (s : List Frame) (names : Names) (ts : List TokenMark) → Keeps (stack_taken s (frame_taken (awaits_statement f) (spell_statement b ts))) (statement_given b f s names ts)
keeps_statement b (then_branch p q e) s names ts = keeps_branched p q e b s names ts
keeps_statement b (else_branch p q e a) s names ts = refl
keeps_statement b (while_body p q e) s names ts = refl
keeps_statement b (switch_body p q e) s names ts = refl
keeps_statement b (do_body p) s names ts = keeps_done p b s names ts
keeps_statement b (for_body l c) s names ts = refl
keeps_statement b (case_body p e) s names ts = refl
keeps_statement b (default_body p) s names ts = refl
keeps_statement b (in_statements i before) s names ts = refl
keeps_statement b (in_definition ws d outside) s names ts = keeps_defined ws d outside b s ts

-- ---- every step

keeps_called : (e : Expression) (p : Place) (l : ℕ) (s : List Frame) (names : Names) (ts : List TokenMark) → Keeps (stack_taken s (spell e (sign signs.LeftParen p ∷ ts))) (called e p l s names ts)
keeps_called e p l s names [] = refl
keeps_called e p l s names (part close_paren ∷ ts) = refl
keeps_called e p l s names (_ ∷ ts) = refl

keeps_measured : (p : Place) (l : ℕ) (s : List Frame) (names : Names) (ts : List TokenMark) → Keeps (stack_taken s (word keywords.Sizeof p ∷ ts)) (measured p l s names ts)
keeps_measured p l s names [] = refl
keeps_measured p l s names (sign signs.LeftParen q ∷ ts) = branch (begins_specifiers names ts) _ _ _ refl refl
keeps_measured p l s names (_ ∷ ts) = refl

keeps_enumerating : (b : TypeBody) (before : List EnumEntry) (s : List Frame) (names : Names) (ts : List TokenMark) → Keeps (stack_taken s (body_begun false b (entries_before before ts))) (enumerator_named b before s names ts)
keeps_enumerating b before s names [] = tt
keeps_enumerating b before s names (name n ∷ ts) = refl
keeps_enumerating b before s names (_ ∷ ts) = tt

pub keeps : (d : Doing) (s : List Frame) (names : Names) (ts : List TokenMark) → Keeps (tokens_of (state d s names ts)) (step (state d s names ts))
keeps (seek l) s names ts = keeps_sought l s names ts
keeps (operated e l) s names ts = keeps_operated e l s names ts
keeps (gave e) (awaits_expression f ∷ s) names ts = keeps_expression e f s names ts
keeps (gave e) _ names ts = tt
keeps (calling e p l) s names ts = keeps_called e p l s names ts
keeps (measuring p l) s names ts = keeps_measured p l s names ts
keeps (specifying seen before) s names ts = keeps_specified seen before s names ts
keeps (tagging is p seen before) s names ts = keeps_tag is p seen before s names ts
keeps (tagged is p n seen before) s names ts = keeps_tagged is p n seen before s names ts
keeps (membering b before) s names ts = keeps_members b before s names ts
keeps (enumerating b before) s names ts = keeps_enumerating b before s names ts
keeps (enumerated b before n) s names ts = keeps_enumerated b before n s names ts
keeps (entered b before e) s names ts = keeps_entered b before e s names ts
keeps (entering b before e) s names ts = keeps_entering b before e s names ts
keeps (gave_specifiers ws) (awaits_specifiers f ∷ s) names ts = keeps_specifiers ws f s names ts
keeps (gave_specifiers ws) _ names ts = tt
keeps (declaring m needed) s names ts = keeps_declared m needed s names ts
keeps (qualifying m p before) s names ts = keeps_qualified m p before s names ts
keeps (suffixing m d) s names ts = keeps_suffixed m d s names ts
keeps (sizing m d p) s names ts = keeps_sized m d p s names ts
keeps (parametering m d p) s names ts = keeps_opened m d p s names ts
keeps (gave_declarator d) (awaits_declarator f ∷ s) names ts = keeps_declarator d f s names ts
keeps (gave_declarator d) _ names ts = tt
keeps initialising s names ts = keeps_initialised s names ts
keeps (listing p x before) s names ts = keeps_list_followed p x before s names ts
keeps (gave_initialiser x) s names ts = keeps_initialiser x s names ts
keeps (itemed ws i before) s names ts = keeps_itemed ws i before s names ts
keeps (gave_declaration d) s names ts = keeps_declaration d s names ts
keeps (externals before) s names ts = keeps_external before s names ts
keeps (declarations i) s names ts = branch (begins_specifiers names ts) _ _ _ refl refl
keeps (statements i before) s names ts = keeps_block i before s names ts
keeps stating s names ts = keeps_stated s names ts
keeps (opening h) s names ts = kept_open (λ us. stack_taken s (head_taken h us)) ts _ (λ p us. refl)
keeps (finishing p b r q e) s names ts = kept_semicolon (λ us. stack_taken s (word keywords.Do p ∷ spell_statement b (word keywords.While r ∷ spell_test q e us))) ts _ (λ u us. refl)
keeps (looping p) s names ts = kept_open (λ us. stack_taken s (word keywords.For p ∷ us)) ts _ (λ q us. refl)
keeps (starting p q) s names ts = keeps_started p q s names ts
keeps (testing p q a r) s names ts = keeps_loop_tested p q a r s names ts
keeps (stepping l) s names ts = keeps_stepped l s names ts
keeps (returning p) s names ts = keeps_returned p s names ts
keeps (breaking p) s names ts = kept_semicolon (λ us. stack_taken s (word keywords.Break p ∷ us)) ts _ (λ q us. refl)
keeps (continuing p) s names ts = kept_semicolon (λ us. stack_taken s (word keywords.Continue p ∷ us)) ts _ (λ q us. refl)
keeps (defaulting p) s names ts = kept_colon (λ us. stack_taken s (word keywords.Default p ∷ us)) ts _ (λ us. refl)
keeps (gave_statement b) (awaits_statement f ∷ s) names ts = keeps_statement b f s names ts
keeps (gave_statement b) _ names ts = tt
