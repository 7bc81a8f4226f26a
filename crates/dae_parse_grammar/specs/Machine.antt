-- The machine that reads trees: one step.
use Rattle.std.specs.Prelude.{ℕ, Bool, true, false, not, ◌&&◌, leb, if◌then◌else◌, List, [], ◌∷◌, Option, Some, None}
use Rattle.dae_base.specs.declared.Place.{Place}
use Rattle.dae_tree.specs.declared.words.Keyword.{Keyword}
use Rattle.dae_tree.specs.declared.words.Keyword.TheVariants as keywords
use Rattle.dae_tree.specs.declared.signs.Sign.{Sign}
use Rattle.dae_tree.specs.declared.signs.Sign.TheVariants as signs
use Rattle.dae_tree.specs.declared.expressions.Name.{Name}
use Rattle.dae_tree.specs.contracts.signs.SignPartialEq.TheImpl.{ghosts as of_signs}
use Rattle.dae_tree.specs.declared.operators.PrefixOperator.{PrefixOperator}
use Rattle.dae_tree.specs.declared.operators.MemberOperator.{MemberOperator}
pub use Rattle.dae_tree.specs.declared.operators.Operation.{Operation}
pub use Rattle.dae_tree.specs.declared.operators.Operation.TheVariants.{Subscript as subscript, Call as call, Member as member_of, Step as step_of, Binary as binary_of, Choice as choice, Assignment as assignment_of, Ends as ends}
use Rattle.dae_tree.specs.Marks.{TokenMark, word, sign, name, constant, literal, part, close_paren, close_bracket, close_brace, comma, colon, else_word}
use Rattle.dae_tree.specs.Operators.{under, operand_level, prefix_at}
pub use Rattle.dae_tree.specs.Operators.{operation, reach, left_level}
use Rattle.dae_tree.specs.declared.seen.Seen.{Seen}
use Rattle.dae_tree.specs.Words.{nothing_seen, has_type, admits, with_word, with_whole, begins_specifiers}
use Rattle.dae_tree.specs.Names.{Names, is_type, with_name, with_declarator, has_typedef, with_parameters}
use Rattle.dae_tree.specs.Grammar.{void_alone, Manner, by_name, without_name, either_way, level}
use Rattle.dae_tree.specs.Trees.{Expression, Expressions, Specifiers, Specifier, Members, Enumerators, Declarators, Declarator, Parameters, Initialiser, Initialisers, InitDeclarator, Declaration, Statement, Statements, External, Identifier, Number, Literal, Parenthesised, Index, Call, Member, Postfix, Prefix, SizeofExpression, SizeofType, Cast, Binary, Conditional, Assignment, Comma, no_expressions, expression_then, no_specifiers, specifier_then, Word, TypeName, Structure, StructureBody, Enumeration, EnumerationBody, no_members, member_then, no_enumerators, plain_then, valued_then, no_declarators, declarator_then, Absent, Named, Pointer, Grouped, Unsized, Sized, Empty, Void, Function, no_parameters, parameter_then, Value, Listed, no_initialisers, initialiser_then, Block, Nothing, Evaluate, If, IfElse, While, Do, For, Break, Continue, Return, Switch, Case, Default, no_statements, statement_then, Declared, Defined}
use Rattle.dae_tree.specs.Lists.{MemberLine, EnumEntry, Parameter}
use Rattle.dae_parse_grammar.specs.Frames.{TypeBody, OpenParameters, StatementHead, Loop, Inside, if_head, while_head, switch_head, do_head, Frame, in_parentheses, in_index, in_arguments, behind_prefix, behind_sizeof, behind_cast, behind_binary, behind_question, behind_colon, behind_assignment, behind_comma, in_size, in_enumerator, in_value, in_evaluation, in_test, in_start, in_loop_test, in_step, in_return, in_case, for_cast, for_sizeof, for_parameter, for_member, for_declaration, behind_star, in_group, of_cast, of_sizeof, of_parameter, of_member, of_item, in_list, of_value, in_file, in_block, then_branch, else_branch, while_body, switch_body, do_body, for_body, case_body, default_body, in_statements, in_definition, Doing, seek, operated, gave, calling, measuring, specifying, tagging, tagged, membering, enumerating, enumerated, entered, entering, gave_specifiers, declaring, qualifying, suffixing, sizing, parametering, gave_declarator, initialising, listing, gave_initialiser, itemed, gave_declaration, externals, declarations, statements, stating, opening, finishing, looping, starting, testing, stepping, returning, breaking, continuing, defaulting, gave_statement, ParserState, state, awaits_expression, awaits_specifiers, awaits_declarator, awaits_initialiser, awaits_declaration, awaits_statement, ExpressionFrame, SpecifiersFrame, DeclaratorFrame, StatementFrame}

-- ---- lists that were read, the last first, before the rest of the list

abbrev pub arguments_onto : List Expression → Expressions → Expressions
arguments_onto [] xs = xs
arguments_onto (e ∷ es) xs = arguments_onto es (expression_then e xs)

abbrev pub specifiers_onto : List Specifier → Specifiers → Specifiers
specifiers_onto [] ws = ws
specifiers_onto (w ∷ before) ws = specifiers_onto before (specifier_then w ws)

abbrev pub members_onto : List MemberLine → Members → Members
members_onto [] ms = ms
members_onto (m ∷ before) ms = members_onto before (member_then m.specifiers m.declarators m.end ms)

abbrev pub enumerator_before : EnumEntry → Enumerators → Enumerators
enumerator_before e es = elim e.value [ None ↦ plain_then e.name es | Some v ↦ valued_then e.name v.0 v.1 es ]

abbrev pub enumerators_onto : List EnumEntry → Enumerators → Enumerators
enumerators_onto [] es = es
enumerators_onto (e ∷ before) es = enumerators_onto before (enumerator_before e es)

abbrev pub declarators_onto : List Declarator → Declarators → Declarators
declarators_onto [] ds = ds
declarators_onto (d ∷ before) ds = declarators_onto before (declarator_then d ds)

abbrev pub parameters_onto : List Parameter → Parameters → Parameters
parameters_onto [] ps = ps
parameters_onto (p ∷ before) ps = parameters_onto before (parameter_then p.specifiers p.declarator ps)

abbrev pub initialisers_onto : List Initialiser → Initialisers → Initialisers
initialisers_onto [] xs = xs
initialisers_onto (x ∷ before) xs = initialisers_onto before (initialiser_then x xs)

abbrev pub statements_onto : List Statement → Statements → Statements
statements_onto [] ss = ss
statements_onto (s ∷ before) ss = statements_onto before (statement_then s ss)

abbrev pub onto : {A : Type 0} → List A → List A → List A
onto [] xs = xs
onto (x ∷ before) xs = onto before (x ∷ xs)

-- ---- one token that must stand there

abbrev pub at_paren : List TokenMark → (List TokenMark → ParserState) → Option ParserState
at_paren (part close_paren ∷ ts) next = Some (next ts)
at_paren _ next = None

abbrev pub at_bracket : List TokenMark → (List TokenMark → ParserState) → Option ParserState
at_bracket (part close_bracket ∷ ts) next = Some (next ts)
at_bracket _ next = None

abbrev pub at_colon : List TokenMark → (List TokenMark → ParserState) → Option ParserState
at_colon (part colon ∷ ts) next = Some (next ts)
at_colon _ next = None

abbrev pub at_semicolon : List TokenMark → (Place → List TokenMark → ParserState) → Option ParserState
at_semicolon (sign signs.Semicolon p ∷ ts) next = Some (next p ts)
at_semicolon _ next = None

abbrev pub at_open : List TokenMark → (Place → List TokenMark → ParserState) → Option ParserState
at_open (sign signs.LeftParen p ∷ ts) next = Some (next p ts)
at_open _ next = None

-- ---- expressions

abbrev pub goes_on : Operation → Expression → ℕ → Bool
goes_on o e l = leb (reach o) l && leb (level e) (left_level o)

-- a member's name
abbrev pub named_member : Expression → Place → MemberOperator → ℕ → List Frame → Names → List TokenMark → Option ParserState
named_member e p o l s names (name n ∷ ts) = Some (state (operated (Member e p o n) l) s names ts)
named_member e p o l s names _ = None

abbrev pub operate : Operation → Expression → Place → ℕ → List Frame → Names → List TokenMark → Option ParserState
operate subscript e p l s names ts = Some (state (seek 16) (awaits_expression (in_index e p l) ∷ s) names ts)
operate call e p l s names ts = Some (state (calling e p l) s names ts)
operate (member_of o) e p l s names ts = named_member e p o l s names ts
operate (step_of o) e p l s names ts = Some (state (operated (Postfix e p o) l) s names ts)
operate (binary_of o) e p l s names ts = Some (state (seek (under o)) (awaits_expression (behind_binary e p o l) ∷ s) names ts)
operate choice e p l s names ts = Some (state (seek 16) (awaits_expression (behind_question e p l) ∷ s) names ts)
operate (assignment_of o) e p l s names ts = Some (state (seek 15) (awaits_expression (behind_assignment e p o l) ∷ s) names ts)
operate ends e p l s names ts = None

abbrev pub operated_at : Expression → ℕ → List Frame → Names → List TokenMark → Option ParserState
operated_at e l s names (sign g p ∷ ts) =
    if goes_on (operation g) e l then operate (operation g) e p l s names ts else Some (state (gave e) s names (sign g p ∷ ts))
operated_at e l s names (part comma ∷ ts) =
    if leb 16 l then Some (state (seek 15) (awaits_expression (behind_comma e l) ∷ s) names ts) else Some (state (gave e) s names (part comma ∷ ts))
operated_at e l s names ts = Some (state (gave e) s names ts)

-- a cast, or an expression in parentheses
abbrev pub parenthesis_at : Place → ℕ → List Frame → Names → List TokenMark → ParserState
parenthesis_at p l s names ts =
    if begins_specifiers names ts && leb 3 l
    then state (specifying nothing_seen []) (awaits_specifiers (for_cast p l) ∷ s) names ts
    else state (seek 16) (awaits_expression (in_parentheses p l) ∷ s) names ts

-- behind an operator before its operand, or none
abbrev pub prefixed : Option PrefixOperator → Place → ℕ → List Frame → Names → List TokenMark → Option ParserState
prefixed None p l s names ts = None
prefixed (Some o) p l s names ts = Some (state (seek (operand_level o)) (awaits_expression (behind_prefix p o l) ∷ s) names ts)

abbrev pub sign_sought : Sign → Place → ℕ → List Frame → Names → List TokenMark → Option ParserState
sign_sought g p l s names ts = if of_signs.eq g signs.LeftParen then Some (parenthesis_at p l s names ts) else prefixed (prefix_at g) p l s names ts

abbrev pub sought : ℕ → List Frame → Names → List TokenMark → Option ParserState
sought l s names (name n ∷ ts) = if is_type names n.number then None else Some (state (operated (Identifier n) l) s names ts)
sought l s names (constant p c ∷ ts) = Some (state (operated (Number p c) l) s names ts)
sought l s names (literal p n ∷ ts) = Some (state (operated (Literal p n) l) s names ts)
sought l s names (word keywords.Sizeof p ∷ ts) = Some (state (measuring p l) s names ts)
sought l s names (sign g p ∷ ts) = sign_sought g p l s names ts
sought l s names _ = None

abbrev pub measured : Place → ℕ → List Frame → Names → List TokenMark → Option ParserState
measured p l s names (sign signs.LeftParen q ∷ ts) =
    if begins_specifiers names ts
    then Some (state (specifying nothing_seen []) (awaits_specifiers (for_sizeof p q l) ∷ s) names ts)
    else Some (state (seek 2) (awaits_expression (behind_sizeof p l) ∷ s) names (sign signs.LeftParen q ∷ ts))
measured p l s names ts = Some (state (seek 2) (awaits_expression (behind_sizeof p l) ∷ s) names ts)

abbrev pub called : Expression → Place → ℕ → List Frame → Names → List TokenMark → Option ParserState
called e p l s names (part close_paren ∷ ts) = Some (state (operated (Call e p no_expressions) l) s names ts)
called e p l s names ts = Some (state (seek 15) (awaits_expression (in_arguments e p [] l) ∷ s) names ts)

abbrev pub argument_given : Expression → Expression → Place → List Expression → ℕ → List Frame → Names → List TokenMark → Option ParserState
argument_given a e p before l s names (part comma ∷ ts) = Some (state (seek 15) (awaits_expression (in_arguments e p (a ∷ before) l) ∷ s) names ts)
argument_given a e p before l s names (part close_paren ∷ ts) =
    Some (state (operated (Call e p (arguments_onto before (expression_then a no_expressions))) l) s names ts)
argument_given a e p before l s names _ = None

-- behind the parenthesis that ends a test
abbrev pub tested : StatementHead → Place → Expression → List Frame → Names → List TokenMark → ParserState
tested (if_head p) q e s names ts = state stating (awaits_statement (then_branch p q e) ∷ s) names ts
tested (while_head p) q e s names ts = state stating (awaits_statement (while_body p q e) ∷ s) names ts
tested (switch_head p) q e s names ts = state stating (awaits_statement (switch_body p q e) ∷ s) names ts
tested (do_head p b r) q e s names ts = state (finishing p b r q e) s names ts

abbrev pub loop_of : Place → Place → Option Expression → Place → Option Expression → Place → Loop
loop_of p q a r b u = record { word = p; paren = q; start = a; first = r; test = b; second = u }

abbrev pub expression_given : Expression → ExpressionFrame → List Frame → Names → List TokenMark → Option ParserState
expression_given e (in_parentheses p l) s names ts = at_paren ts (λ us. state (operated (Parenthesised p e) l) s names us)
expression_given e (in_index a p l) s names ts = at_bracket ts (λ us. state (operated (Index a p e) l) s names us)
expression_given e (in_arguments f p before l) s names ts = argument_given e f p before l s names ts
expression_given e (behind_prefix p o l) s names ts = Some (state (operated (Prefix p o e) l) s names ts)
expression_given e (behind_sizeof p l) s names ts = Some (state (operated (SizeofExpression p e) l) s names ts)
expression_given e (behind_cast p ws d l) s names ts = Some (state (operated (Cast p ws d e) l) s names ts)
expression_given e (behind_binary a p o l) s names ts = Some (state (operated (Binary a p o e) l) s names ts)
expression_given e (behind_question a p l) s names ts = at_colon ts (λ us. state (seek 14) (awaits_expression (behind_colon a p e l) ∷ s) names us)
expression_given e (behind_colon a p b l) s names ts = Some (state (operated (Conditional a p b e) l) s names ts)
expression_given e (behind_assignment a p o l) s names ts = Some (state (operated (Assignment a p o e) l) s names ts)
expression_given e (behind_comma a l) s names ts = Some (state (operated (Comma a e) l) s names ts)
expression_given e (in_size d p m) s names ts = at_bracket ts (λ us. state (suffixing m (Sized d p e)) s names us)
expression_given e (in_enumerator b before n p) s names ts =
    Some (state (entered b before (record { name = n; value = Some (p, e) })) s (with_name false n names) ts)
expression_given e in_value s names ts = Some (state (gave_initialiser (Value e)) s names ts)
expression_given e in_evaluation s names ts = at_semicolon ts (λ p us. state (gave_statement (Evaluate e p)) s names us)
expression_given e (in_test h p) s names ts = at_paren ts (λ us. tested h p e s names us)
expression_given e (in_start p q) s names ts = at_semicolon ts (λ r us. state (testing p q (Some e) r) s names us)
expression_given e (in_loop_test p q a r) s names ts = at_semicolon ts (λ u us. state (stepping (loop_of p q a r (Some e) u)) s names us)
expression_given e (in_step loop) s names ts = at_paren ts (λ us. state stating (awaits_statement (for_body loop (Some e)) ∷ s) names us)
expression_given e (in_return p) s names ts = at_semicolon ts (λ q us. state (gave_statement (Return p (Some e) q)) s names us)
expression_given e (in_case p) s names ts = at_colon ts (λ us. state stating (awaits_statement (case_body p e) ∷ s) names us)

abbrev pub given : Expression → List Frame → Names → List TokenMark → Option ParserState
given e (awaits_expression f ∷ s) names ts = expression_given e f s names ts
given e _ names ts = None

-- ---- specifiers

abbrev pub specifiers_end : Seen → List Specifier → List Frame → Names → List TokenMark → Option ParserState
specifiers_end seen before s names ts =
    if has_type seen then Some (state (gave_specifiers (specifiers_onto before no_specifiers)) s names ts) else None

abbrev pub word_taken : Keyword → Place → Seen → List Specifier → List Frame → Names → List TokenMark → ParserState
word_taken keywords.Struct p seen before s names ts = state (tagging true p seen before) s names ts
word_taken keywords.Enum p seen before s names ts = state (tagging false p seen before) s names ts
word_taken k p seen before s names ts = state (specifying (with_word seen k) (Word p k ∷ before)) s names ts

abbrev pub specified : Seen → List Specifier → List Frame → Names → List TokenMark → Option ParserState
specified seen before s names (word k p ∷ ts) =
    if admits seen k then Some (word_taken k p seen before s names ts) else specifiers_end seen before s names (word k p ∷ ts)
specified seen before s names (name n ∷ ts) =
    if not (has_type seen) && is_type names n.number
    then Some (state (specifying (with_whole seen) (TypeName n ∷ before)) s names ts)
    else specifiers_end seen before s names (name n ∷ ts)
specified seen before s names ts = specifiers_end seen before s names ts

abbrev pub body : Place → Option Name → Place → Seen → List Specifier → TypeBody
body p tag q seen before = record { place = p; tag = tag; brace = q; seen = seen; before = before }

-- behind the brace of a body: the members of a structure or the enumerators of an enumeration
abbrev pub body_opened : Bool → TypeBody → List Frame → Names → List TokenMark → ParserState
body_opened true b s names ts = state (membering b []) s names ts
body_opened false b s names ts = state (enumerating b []) s names ts

abbrev pub tag_taken : Bool → Place → Seen → List Specifier → List Frame → Names → List TokenMark → Option ParserState
tag_taken is p seen before s names (name n ∷ ts) = Some (state (tagged is p n seen before) s names ts)
tag_taken is p seen before s names (sign signs.LeftBrace q ∷ ts) = Some (body_opened is (body p None q seen before) s names ts)
tag_taken is p seen before s names _ = None

abbrev pub tag_alone : Bool → Place → Name → Specifier
tag_alone true p n = Structure p n
tag_alone false p n = Enumeration p n

abbrev pub tag_followed : Bool → Place → Name → Seen → List Specifier → List Frame → Names → List TokenMark → Option ParserState
tag_followed is p n seen before s names (sign signs.LeftBrace q ∷ ts) = Some (body_opened is (body p (Some n) q seen before) s names ts)
tag_followed is p n seen before s names ts = Some (state (specifying (with_whole seen) (tag_alone is p n ∷ before)) s names ts)

abbrev pub members_followed : TypeBody → List MemberLine → List Frame → Names → List TokenMark → Option ParserState
members_followed b (m ∷ before) s names (part close_brace ∷ ts) =
    Some (state (specifying (with_whole b.seen) (StructureBody b.place b.tag b.brace (members_onto (m ∷ before) no_members) ∷ b.before)) s names ts)
members_followed b before s names ts = Some (state (specifying nothing_seen []) (awaits_specifiers (for_member b before) ∷ s) names ts)

abbrev pub enumerator_named : TypeBody → List EnumEntry → List Frame → Names → List TokenMark → Option ParserState
enumerator_named b before s names (name n ∷ ts) = Some (state (enumerated b before n) s names ts)
enumerator_named b before s names _ = None

abbrev pub enumerator_followed : TypeBody → List EnumEntry → Name → List Frame → Names → List TokenMark → Option ParserState
enumerator_followed b before n s names (sign signs.Assign p ∷ ts) = Some (state (seek 14) (awaits_expression (in_enumerator b before n p) ∷ s) names ts)
enumerator_followed b before n s names ts = Some (state (entered b before (record { name = n; value = None })) s (with_name false n names) ts)

abbrev pub enumeration_closed : TypeBody → List EnumEntry → Bool → List Frame → Names → List TokenMark → ParserState
enumeration_closed b before more s names ts =
    state (specifying (with_whole b.seen) (EnumerationBody b.place b.tag b.brace (enumerators_onto before no_enumerators) more ∷ b.before)) s names ts

abbrev pub entry_followed : TypeBody → List EnumEntry → EnumEntry → List Frame → Names → List TokenMark → Option ParserState
entry_followed b before e s names (part comma ∷ ts) = Some (state (entering b before e) s names ts)
entry_followed b before e s names (part close_brace ∷ ts) = Some (enumeration_closed b (e ∷ before) false s names ts)
entry_followed b before e s names _ = None

abbrev pub comma_followed : TypeBody → List EnumEntry → EnumEntry → List Frame → Names → List TokenMark → Option ParserState
comma_followed b before e s names (part close_brace ∷ ts) = Some (enumeration_closed b (e ∷ before) true s names ts)
comma_followed b before e s names ts = Some (state (enumerating b (e ∷ before)) s names ts)

-- a declaration without items, or its first declarator
abbrev pub declaration_begun : Bool → Specifiers → List Frame → Names → List TokenMark → Option ParserState
declaration_begun outer ws s names (sign signs.Semicolon p ∷ ts) =
    Some (state (gave_declaration (record { specifiers = ws; items = []; end = p })) s names ts)
declaration_begun outer ws s names ts = Some (state (declaring by_name false) (awaits_declarator (of_item outer ws []) ∷ s) names ts)

abbrev pub specifiers_given : Specifiers → SpecifiersFrame → List Frame → Names → List TokenMark → Option ParserState
specifiers_given ws (for_cast p l) s names ts = Some (state (declaring without_name false) (awaits_declarator (of_cast p ws l) ∷ s) names ts)
specifiers_given ws (for_sizeof p q l) s names ts = Some (state (declaring without_name false) (awaits_declarator (of_sizeof p q ws l) ∷ s) names ts)
specifiers_given ws (for_parameter o before) s names ts = Some (state (declaring either_way false) (awaits_declarator (of_parameter o before ws) ∷ s) names ts)
specifiers_given ws (for_member b before) s names ts = Some (state (declaring by_name false) (awaits_declarator (of_member b before ws []) ∷ s) names ts)
specifiers_given ws (for_declaration outer) s names ts = declaration_begun outer ws s names ts

abbrev pub specifiers_taken : Specifiers → List Frame → Names → List TokenMark → Option ParserState
specifiers_taken ws (awaits_specifiers f ∷ s) names ts = specifiers_given ws f s names ts
specifiers_taken ws _ names ts = None

-- ---- declarators

-- whether a parenthesis where a declarator may lack its name begins parameters
abbrev pub begins_parameters : Names → List TokenMark → Bool
begins_parameters names (part close_paren ∷ ts) = true
begins_parameters names ts = begins_specifiers names ts

abbrev pub group_opened : Manner → Place → List Frame → Names → List TokenMark → Option ParserState
group_opened m p s names ts = Some (state (declaring m true) (awaits_declarator (in_group p m) ∷ s) names ts)

abbrev pub parenthesis_declared : Manner → Place → List Frame → Names → List TokenMark → Option ParserState
parenthesis_declared by_name p s names ts = group_opened by_name p s names ts
parenthesis_declared m p s names ts =
    if begins_parameters names ts
    then Some (state (suffixing m Absent) s names (sign signs.LeftParen p ∷ ts))
    else group_opened m p s names ts

-- no part, where none must stand and the name may be lacking
abbrev pub nothing_declared : Manner → Bool → List Frame → Names → List TokenMark → Option ParserState
nothing_declared by_name needed s names ts = None
nothing_declared m true s names ts = None
nothing_declared m false s names ts = Some (state (gave_declarator Absent) s names ts)

abbrev pub bracket_declared : Manner → Place → List Frame → Names → List TokenMark → Option ParserState
bracket_declared by_name p s names ts = None
bracket_declared m p s names ts = Some (state (suffixing m Absent) s names (sign signs.LeftBracket p ∷ ts))

abbrev pub name_declared : Manner → Bool → Name → List Frame → Names → List TokenMark → Option ParserState
name_declared without_name needed n s names ts = nothing_declared without_name needed s names (name n ∷ ts)
name_declared m needed n s names ts = Some (state (suffixing m (Named n)) s names ts)

abbrev pub declared : Manner → Bool → List Frame → Names → List TokenMark → Option ParserState
declared m needed s names (sign signs.Times p ∷ ts) = Some (state (qualifying m p []) s names ts)
declared m needed s names (sign signs.LeftParen p ∷ ts) = parenthesis_declared m p s names ts
declared m needed s names (sign signs.LeftBracket p ∷ ts) = bracket_declared m p s names ts
declared m needed s names (name n ∷ ts) = name_declared m needed n s names ts
declared m needed s names ts = nothing_declared m needed s names ts

abbrev pub qualified : Manner → Place → List Place → List Frame → Names → List TokenMark → Option ParserState
qualified m p before s names (word keywords.Const q ∷ ts) = Some (state (qualifying m p (q ∷ before)) s names ts)
qualified m p before s names ts = Some (state (declaring m false) (awaits_declarator (behind_star p (onto before [])) ∷ s) names ts)

abbrev pub suffixed : Manner → Declarator → List Frame → Names → List TokenMark → Option ParserState
suffixed m d s names (sign signs.LeftBracket p ∷ ts) = Some (state (sizing m d p) s names ts)
suffixed m d s names (sign signs.LeftParen p ∷ ts) = Some (state (parametering m d p) s names ts)
suffixed m d s names ts = Some (state (gave_declarator d) s names ts)

abbrev pub sized : Manner → Declarator → Place → List Frame → Names → List TokenMark → Option ParserState
sized m d p s names (part close_bracket ∷ ts) = Some (state (suffixing m (Unsized d p)) s names ts)
sized m d p s names ts = Some (state (seek 14) (awaits_expression (in_size d p m) ∷ s) names ts)

abbrev pub parameters_opened : Manner → Declarator → Place → List Frame → Names → List TokenMark → Option ParserState
parameters_opened m d p s names (part close_paren ∷ ts) = Some (state (suffixing m (Empty d p)) s names ts)
parameters_opened m d p s names ts =
    Some (state (specifying nothing_seen []) (awaits_specifiers (for_parameter (record { declarator = d; place = p; manner = m; outside = names }) []) ∷ s) names ts)

-- the parameters are whole: `void` alone is none
abbrev pub closed_by : Option Place → Declarator → Place → Parameters → Declarator
closed_by (Some q) d p ps = Void d p q
closed_by None d p ps = Function d p ps

abbrev pub closed : OpenParameters → Parameters → Declarator
closed o ps = closed_by (void_alone ps) o.declarator o.place ps

abbrev pub parameter_given : Declarator → OpenParameters → List Parameter → Specifiers → List Frame → Names → List TokenMark → Option ParserState
parameter_given d o before ws s names (part comma ∷ ts) =
    Some (state (specifying nothing_seen []) (awaits_specifiers (for_parameter o (record { specifiers = ws; declarator = d } ∷ before)) ∷ s) (with_declarator (has_typedef ws) d names) ts)
parameter_given d o before ws s names (part close_paren ∷ ts) =
    Some (state (suffixing o.manner (closed o (parameters_onto before (parameter_then ws d no_parameters)))) s o.outside ts)
parameter_given d o before ws s names _ = None

abbrev pub member_given : Declarator → TypeBody → List MemberLine → Specifiers → List Declarator → List Frame → Names → List TokenMark → Option ParserState
member_given d b lines ws before s names (part comma ∷ ts) =
    Some (state (declaring by_name false) (awaits_declarator (of_member b lines ws (d ∷ before)) ∷ s) names ts)
member_given d b lines ws before s names (sign signs.Semicolon p ∷ ts) =
    Some (state (membering b (record { specifiers = ws; declarators = declarators_onto before (declarator_then d no_declarators); end = p } ∷ lines)) s names ts)
member_given d b lines ws before s names _ = None

-- an item without a value
abbrev pub plain_item : Declarator → Specifiers → List InitDeclarator → List Frame → Names → List TokenMark → Option ParserState
plain_item d ws before s names ts = Some (state (itemed ws (record { declarator = d; initialiser = None }) before) s names ts)

abbrev pub definition_begun : Declarator → Specifiers → Place → List Frame → Names → List TokenMark → ParserState
definition_begun d ws p s names ts =
    let inner = with_parameters d names in
    state (declarations (record { place = p; declarations = []; outside = inner })) (awaits_statement (in_definition ws d names) ∷ s) inner ts

-- a first declarator at file scope may begin a definition
abbrev pub item_given : Bool → Declarator → Specifiers → List InitDeclarator → List Frame → Names → List TokenMark → Option ParserState
item_given outer d ws before s names (sign signs.Assign p ∷ ts) = Some (state initialising (awaits_initialiser (of_value ws before d p) ∷ s) names ts)
item_given true d ws [] s names (sign signs.LeftBrace p ∷ ts) = Some (definition_begun d ws p s names ts)
item_given outer d ws before s names ts = plain_item d ws before s names ts

abbrev pub declarator_given : Declarator → DeclaratorFrame → List Frame → Names → List TokenMark → Option ParserState
declarator_given d (behind_star p qs) s names ts = Some (state (gave_declarator (Pointer p qs d)) s names ts)
declarator_given d (in_group p m) s names ts = at_paren ts (λ us. state (suffixing m (Grouped p d)) s names us)
declarator_given d (of_cast p ws l) s names ts = at_paren ts (λ us. state (seek 3) (awaits_expression (behind_cast p ws d l) ∷ s) names us)
declarator_given d (of_sizeof p q ws l) s names ts = at_paren ts (λ us. state (operated (SizeofType p q ws d) l) s names us)
declarator_given d (of_parameter o before ws) s names ts = parameter_given d o before ws s names ts
declarator_given d (of_member b lines ws before) s names ts = member_given d b lines ws before s names ts
declarator_given d (of_item outer ws before) s names ts = item_given outer d ws before s (with_declarator (has_typedef ws) d names) ts

abbrev pub declarator_taken : Declarator → List Frame → Names → List TokenMark → Option ParserState
declarator_taken d (awaits_declarator f ∷ s) names ts = declarator_given d f s names ts
declarator_taken d _ names ts = None

-- ---- initialisers and declarations

abbrev pub initialised : List Frame → Names → List TokenMark → Option ParserState
initialised s names (sign signs.LeftBrace p ∷ ts) = Some (state initialising (awaits_initialiser (in_list p []) ∷ s) names ts)
initialised s names ts = Some (state (seek 15) (awaits_expression in_value ∷ s) names ts)

abbrev pub list_closed : Place → List Initialiser → Bool → List Frame → Names → List TokenMark → ParserState
list_closed p before more s names ts = state (gave_initialiser (Listed p (initialisers_onto before no_initialisers) more)) s names ts

abbrev pub list_followed : Place → List Initialiser → List Frame → Names → List TokenMark → Option ParserState
list_followed p before s names (part close_brace ∷ ts) = Some (list_closed p before true s names ts)
list_followed p before s names ts = Some (state initialising (awaits_initialiser (in_list p before) ∷ s) names ts)

abbrev pub listed : Initialiser → Place → List Initialiser → List Frame → Names → List TokenMark → Option ParserState
listed x p before s names (part comma ∷ ts) = Some (state (listing p x before) s names ts)
listed x p before s names (part close_brace ∷ ts) = Some (list_closed p (x ∷ before) false s names ts)
listed x p before s names _ = None

abbrev pub initialiser_taken : Initialiser → List Frame → Names → List TokenMark → Option ParserState
initialiser_taken x (awaits_initialiser (in_list p before) ∷ s) names ts = listed x p before s names ts
initialiser_taken x (awaits_initialiser (of_value ws before d p) ∷ s) names ts =
    Some (state (itemed ws (record { declarator = d; initialiser = Some (p, x) }) before) s names ts)
initialiser_taken x _ names ts = None

abbrev pub item_followed : Specifiers → InitDeclarator → List InitDeclarator → List Frame → Names → List TokenMark → Option ParserState
item_followed ws i before s names (part comma ∷ ts) = Some (state (declaring by_name false) (awaits_declarator (of_item false ws (i ∷ before)) ∷ s) names ts)
item_followed ws i before s names (sign signs.Semicolon p ∷ ts) =
    Some (state (gave_declaration (record { specifiers = ws; items = onto (i ∷ before) []; end = p })) s names ts)
item_followed ws i before s names _ = None

abbrev pub declaration_taken : Declaration → List Frame → Names → List TokenMark → Option ParserState
declaration_taken d (awaits_declaration (in_file before) ∷ s) names ts = Some (state (externals (Declared d ∷ before)) s names ts)
declaration_taken d (awaits_declaration (in_block i) ∷ s) names ts = Some (state (declarations (record i { declarations = d ∷ i.declarations })) s names ts)
declaration_taken d _ names ts = None

abbrev pub external_begun : List External → List Frame → Names → List TokenMark → Option ParserState
external_begun before s names [] = None
external_begun before s names ts = Some (state (specifying nothing_seen []) (awaits_specifiers (for_declaration true) ∷ awaits_declaration (in_file before) ∷ s) names ts)

-- ---- statements

abbrev pub block_begun : Inside → List Frame → Names → List TokenMark → Option ParserState
block_begun i s names ts =
    if begins_specifiers names ts
    then Some (state (specifying nothing_seen []) (awaits_specifiers (for_declaration false) ∷ awaits_declaration (in_block i) ∷ s) names ts)
    else Some (state (statements i []) s names ts)

abbrev pub block_of : Inside → List Statement → Statement
block_of i before = Block i.place (onto i.declarations []) (statements_onto before no_statements)

abbrev pub block_followed : Inside → List Statement → List Frame → Names → List TokenMark → Option ParserState
block_followed i before s names (part close_brace ∷ ts) = Some (state (gave_statement (block_of i before)) s i.outside ts)
block_followed i before s names ts = Some (state stating (awaits_statement (in_statements i before) ∷ s) names ts)

abbrev pub evaluation_begun : List Frame → Names → List TokenMark → Option ParserState
evaluation_begun s names ts = Some (state (seek 16) (awaits_expression in_evaluation ∷ s) names ts)

abbrev pub sign_stated : Sign → Place → List Frame → Names → List TokenMark → Option ParserState
sign_stated signs.LeftBrace p s names ts = Some (state (declarations (record { place = p; declarations = []; outside = names })) s names ts)
sign_stated signs.Semicolon p s names ts = Some (state (gave_statement (Nothing p)) s names ts)
sign_stated g p s names ts = evaluation_begun s names (sign g p ∷ ts)

abbrev pub word_stated : Keyword → Place → List Frame → Names → List TokenMark → Option ParserState
word_stated keywords.If p s names ts = Some (state (opening (if_head p)) s names ts)
word_stated keywords.While p s names ts = Some (state (opening (while_head p)) s names ts)
word_stated keywords.Switch p s names ts = Some (state (opening (switch_head p)) s names ts)
word_stated keywords.Do p s names ts = Some (state stating (awaits_statement (do_body p) ∷ s) names ts)
word_stated keywords.For p s names ts = Some (state (looping p) s names ts)
word_stated keywords.Break p s names ts = Some (state (breaking p) s names ts)
word_stated keywords.Continue p s names ts = Some (state (continuing p) s names ts)
word_stated keywords.Return p s names ts = Some (state (returning p) s names ts)
word_stated keywords.Case p s names ts = Some (state (seek 14) (awaits_expression (in_case p) ∷ s) names ts)
word_stated keywords.Default p s names ts = Some (state (defaulting p) s names ts)
word_stated k p s names ts = evaluation_begun s names (word k p ∷ ts)

abbrev pub stated : List Frame → Names → List TokenMark → Option ParserState
stated s names (sign g p ∷ ts) = sign_stated g p s names ts
stated s names (word k p ∷ ts) = word_stated k p s names ts
stated s names ts = evaluation_begun s names ts

abbrev pub started : Place → Place → List Frame → Names → List TokenMark → Option ParserState
started p q s names (sign signs.Semicolon r ∷ ts) = Some (state (testing p q None r) s names ts)
started p q s names ts = Some (state (seek 16) (awaits_expression (in_start p q) ∷ s) names ts)

abbrev pub loop_tested : Place → Place → Option Expression → Place → List Frame → Names → List TokenMark → Option ParserState
loop_tested p q a r s names (sign signs.Semicolon u ∷ ts) = Some (state (stepping (loop_of p q a r None u)) s names ts)
loop_tested p q a r s names ts = Some (state (seek 16) (awaits_expression (in_loop_test p q a r) ∷ s) names ts)

abbrev pub stepped : Loop → List Frame → Names → List TokenMark → Option ParserState
stepped loop s names (part close_paren ∷ ts) = Some (state stating (awaits_statement (for_body loop None) ∷ s) names ts)
stepped loop s names ts = Some (state (seek 16) (awaits_expression (in_step loop) ∷ s) names ts)

abbrev pub returned : Place → List Frame → Names → List TokenMark → Option ParserState
returned p s names (sign signs.Semicolon q ∷ ts) = Some (state (gave_statement (Return p None q)) s names ts)
returned p s names ts = Some (state (seek 16) (awaits_expression (in_return p) ∷ s) names ts)

-- behind the first branch of an if
abbrev pub branched : Place → Place → Expression → Statement → List Frame → Names → List TokenMark → Option ParserState
branched p q e b s names (part else_word ∷ ts) = Some (state stating (awaits_statement (else_branch p q e b) ∷ s) names ts)
branched p q e b s names ts = Some (state (gave_statement (If p q e b)) s names ts)

abbrev pub done_followed : Place → Statement → List Frame → Names → List TokenMark → Option ParserState
done_followed p b s names (word keywords.While r ∷ ts) = Some (state (opening (do_head p b r)) s names ts)
done_followed p b s names _ = None

abbrev pub defined : Specifiers → Declarator → Names → Statement → List Frame → List TokenMark → Option ParserState
defined ws d names (Block p ds ss) (awaits_declaration (in_file before) ∷ s) ts = Some (state (externals (Defined ws d p ds ss ∷ before)) s names ts)
defined ws d names _ _ ts = None

abbrev pub for_of : Loop → Option Expression → Statement → Statement
for_of l c b = For l.word l.paren l.start l.first l.test l.second c b

abbrev pub statement_given : Statement → StatementFrame → List Frame → Names → List TokenMark → Option ParserState
statement_given b (then_branch p q e) s names ts = branched p q e b s names ts
statement_given b (else_branch p q e a) s names ts = Some (state (gave_statement (IfElse p q e a b)) s names ts)
statement_given b (while_body p q e) s names ts = Some (state (gave_statement (While p q e b)) s names ts)
statement_given b (switch_body p q e) s names ts = Some (state (gave_statement (Switch p q e b)) s names ts)
statement_given b (do_body p) s names ts = done_followed p b s names ts
statement_given b (for_body l c) s names ts = Some (state (gave_statement (for_of l c b)) s names ts)
statement_given b (case_body p e) s names ts = Some (state (gave_statement (Case p e b)) s names ts)
statement_given b (default_body p) s names ts = Some (state (gave_statement (Default p b)) s names ts)
statement_given b (in_statements i before) s names ts = Some (state (statements i (b ∷ before)) s names ts)
statement_given b (in_definition ws d outside) s names ts = defined ws d outside b s ts

abbrev pub statement_taken : Statement → List Frame → Names → List TokenMark → Option ParserState
statement_taken b (awaits_statement f ∷ s) names ts = statement_given b f s names ts
statement_taken b _ names ts = None

-- ---- one step, or none where the tokens go no further

abbrev pub step_at : Doing → List Frame → Names → List TokenMark → Option ParserState
step_at (seek l) s names ts = sought l s names ts
step_at (operated e l) s names ts = operated_at e l s names ts
step_at (gave e) s names ts = given e s names ts
step_at (calling e p l) s names ts = called e p l s names ts
step_at (measuring p l) s names ts = measured p l s names ts
step_at (specifying seen before) s names ts = specified seen before s names ts
step_at (tagging is p seen before) s names ts = tag_taken is p seen before s names ts
step_at (tagged is p n seen before) s names ts = tag_followed is p n seen before s names ts
step_at (membering b before) s names ts = members_followed b before s names ts
step_at (enumerating b before) s names ts = enumerator_named b before s names ts
step_at (enumerated b before n) s names ts = enumerator_followed b before n s names ts
step_at (entered b before e) s names ts = entry_followed b before e s names ts
step_at (entering b before e) s names ts = comma_followed b before e s names ts
step_at (gave_specifiers ws) s names ts = specifiers_taken ws s names ts
step_at (declaring m needed) s names ts = declared m needed s names ts
step_at (qualifying m p before) s names ts = qualified m p before s names ts
step_at (suffixing m d) s names ts = suffixed m d s names ts
step_at (sizing m d p) s names ts = sized m d p s names ts
step_at (parametering m d p) s names ts = parameters_opened m d p s names ts
step_at (gave_declarator d) s names ts = declarator_taken d s names ts
step_at initialising s names ts = initialised s names ts
step_at (listing p x before) s names ts = list_followed p (x ∷ before) s names ts
step_at (gave_initialiser x) s names ts = initialiser_taken x s names ts
step_at (itemed ws i before) s names ts = item_followed ws i before s names ts
step_at (gave_declaration d) s names ts = declaration_taken d s names ts
step_at (externals before) s names ts = external_begun before s names ts
step_at (declarations i) s names ts = block_begun i s names ts
step_at (statements i before) s names ts = block_followed i before s names ts
step_at stating s names ts = stated s names ts
step_at (opening h) s names ts = at_open ts (λ p us. state (seek 16) (awaits_expression (in_test h p) ∷ s) names us)
step_at (finishing p b r q e) s names ts = at_semicolon ts (λ u us. state (gave_statement (Do p b r q e u)) s names us)
step_at (looping p) s names ts = at_open ts (λ q us. state (starting p q) s names us)
step_at (starting p q) s names ts = started p q s names ts
step_at (testing p q a r) s names ts = loop_tested p q a r s names ts
step_at (stepping loop) s names ts = stepped loop s names ts
step_at (returning p) s names ts = returned p s names ts
step_at (breaking p) s names ts = at_semicolon ts (λ q us. state (gave_statement (Break p q)) s names us)
step_at (continuing p) s names ts = at_semicolon ts (λ q us. state (gave_statement (Continue p q)) s names us)
step_at (defaulting p) s names ts = at_colon ts (λ us. state stating (awaits_statement (default_body p) ∷ s) names us)
step_at (gave_statement b) s names ts = statement_taken b s names ts

abbrev pub step : ParserState → Option ParserState
step (state d s names ts) = step_at d s names ts

-- the machine before a file's tokens
abbrev pub begun : List TokenMark → ParserState
begun ts = state (externals []) [] [] ts

-- a file that was read to its end
abbrev pub ended : List External → Names → ParserState
ended before names = state (externals before) [] names []
