-- The tokens that a state of the machine has taken, before the tokens that are left.
use Rattle.std.specs.Prelude.{Bool, true, false, List, [], ◌∷◌, Option, Some, None}
use Rattle.dae_base.specs.declared.Place.{Place}
use Rattle.dae_tree.specs.declared.words.Keyword.{Keyword}
use Rattle.dae_tree.specs.declared.words.Keyword.TheVariants as keywords
use Rattle.dae_tree.specs.declared.signs.Sign.TheVariants as signs
use Rattle.dae_tree.specs.Marks.{TokenMark, word, sign, name, part, close_paren, comma, colon, else_word}
use Rattle.dae_tree.specs.Operators.{binary_sign, assignment_sign, prefix_sign}
use Rattle.dae_tree.specs.Spelling.{spell, spell_specifiers, spell_specifier, spell_declarators, spell_declarator, spell_qualifiers, spell_tag}
use Rattle.dae_tree.specs.Statements.{spell_initialiser, spell_item, spell_declaration, spell_optional, spell_test, spell_statement, spell_external}
use Rattle.dae_tree.specs.Trees.{Expression, Specifier, Declarator, Initialiser, InitDeclarator, Declaration, Statement, External}
use Rattle.dae_tree.specs.Lists.{MemberLine, EnumEntry, Parameter}
use Rattle.dae_parse_grammar.specs.Frames.{TypeBody, OpenParameters, StatementHead, Loop, Inside, if_head, while_head, switch_head, do_head, Frame, in_parentheses, in_index, in_arguments, behind_prefix, behind_sizeof, behind_cast, behind_binary, behind_question, behind_colon, behind_assignment, behind_comma, in_size, in_enumerator, in_value, in_evaluation, in_test, in_start, in_loop_test, in_step, in_return, in_case, for_cast, for_sizeof, for_parameter, for_member, for_declaration, behind_star, in_group, of_cast, of_sizeof, of_parameter, of_member, of_item, in_list, of_value, in_file, in_block, then_branch, else_branch, while_body, switch_body, do_body, for_body, case_body, default_body, in_statements, in_definition, Doing, seek, operated, gave, calling, measuring, specifying, tagging, tagged, membering, enumerating, enumerated, entered, entering, gave_specifiers, declaring, qualifying, suffixing, sizing, parametering, gave_declarator, initialising, listing, gave_initialiser, itemed, gave_declaration, externals, declarations, statements, stating, opening, finishing, looping, starting, testing, stepping, returning, breaking, continuing, defaulting, gave_statement, ParserState, state, awaits_expression, awaits_specifiers, awaits_declarator, awaits_initialiser, awaits_declaration, awaits_statement}

-- ---- lists that were read, the last first; a comma behind each where commas part them

abbrev pub arguments_before : List Expression → List TokenMark → List TokenMark
arguments_before [] ts = ts
arguments_before (a ∷ before) ts = arguments_before before (spell a (part comma ∷ ts))

abbrev pub specifiers_before : List Specifier → List TokenMark → List TokenMark
specifiers_before [] ts = ts
specifiers_before (w ∷ before) ts = specifiers_before before (spell_specifier w ts)

abbrev pub lines_before : List MemberLine → List TokenMark → List TokenMark
lines_before [] ts = ts
lines_before (m ∷ before) ts = lines_before before (spell_specifiers m.specifiers (spell_declarators m.declarators (sign signs.Semicolon m.end ∷ ts)))

abbrev pub entry_value : Option (Place × Expression) → List TokenMark → List TokenMark
entry_value None ts = ts
entry_value (Some v) ts = sign signs.Assign v.0 ∷ spell v.1 ts

abbrev pub spell_entry : EnumEntry → List TokenMark → List TokenMark
spell_entry e ts = name e.name ∷ entry_value e.value ts

abbrev pub entries_before : List EnumEntry → List TokenMark → List TokenMark
entries_before [] ts = ts
entries_before (e ∷ before) ts = entries_before before (spell_entry e (part comma ∷ ts))

abbrev pub declarators_before : List Declarator → List TokenMark → List TokenMark
declarators_before [] ts = ts
declarators_before (d ∷ before) ts = declarators_before before (spell_declarator d (part comma ∷ ts))

abbrev pub parameters_before : List Parameter → List TokenMark → List TokenMark
parameters_before [] ts = ts
parameters_before (p ∷ before) ts = parameters_before before (spell_specifiers p.specifiers (spell_declarator p.declarator (part comma ∷ ts)))

abbrev pub qualifiers_before : List Place → List TokenMark → List TokenMark
qualifiers_before [] ts = ts
qualifiers_before (q ∷ before) ts = qualifiers_before before (word keywords.Const q ∷ ts)

abbrev pub initialisers_before : List Initialiser → List TokenMark → List TokenMark
initialisers_before [] ts = ts
initialisers_before (x ∷ before) ts = initialisers_before before (spell_initialiser x (part comma ∷ ts))

abbrev pub items_before : List InitDeclarator → List TokenMark → List TokenMark
items_before [] ts = ts
items_before (i ∷ before) ts = items_before before (spell_item i (part comma ∷ ts))

abbrev pub declarations_before : List Declaration → List TokenMark → List TokenMark
declarations_before [] ts = ts
declarations_before (d ∷ before) ts = declarations_before before (spell_declaration d ts)

abbrev pub statements_before : List Statement → List TokenMark → List TokenMark
statements_before [] ts = ts
statements_before (b ∷ before) ts = statements_before before (spell_statement b ts)

abbrev pub externals_before : List External → List TokenMark → List TokenMark
externals_before [] ts = ts
externals_before (x ∷ before) ts = externals_before before (spell_external x ts)

-- ---- parts that were begun

abbrev pub tag_word : Bool → Keyword
tag_word true = keywords.Struct
tag_word false = keywords.Enum

abbrev pub body_begun : Bool → TypeBody → List TokenMark → List TokenMark
body_begun is b ts = specifiers_before b.before (word (tag_word is) b.place ∷ spell_tag b.tag (sign signs.LeftBrace b.brace ∷ ts))

abbrev pub open_begun : OpenParameters → List TokenMark → List TokenMark
open_begun o ts = spell_declarator o.declarator (sign signs.LeftParen o.place ∷ ts)

abbrev pub head_taken : StatementHead → List TokenMark → List TokenMark
head_taken (if_head p) ts = word keywords.If p ∷ ts
head_taken (while_head p) ts = word keywords.While p ∷ ts
head_taken (switch_head p) ts = word keywords.Switch p ∷ ts
head_taken (do_head p b q) ts = word keywords.Do p ∷ spell_statement b (word keywords.While q ∷ ts)

abbrev pub loop_begun : Loop → List TokenMark → List TokenMark
loop_begun l ts =
    word keywords.For l.word ∷ sign signs.LeftParen l.paren ∷ spell_optional l.start (sign signs.Semicolon l.first ∷ spell_optional l.test (sign signs.Semicolon l.second ∷ ts))

abbrev pub block_taken : Inside → List TokenMark → List TokenMark
block_taken i ts = sign signs.LeftBrace i.place ∷ declarations_before i.declarations ts

abbrev pub frame_taken : Frame → List TokenMark → List TokenMark
frame_taken (awaits_expression (in_parentheses p l)) ts = sign signs.LeftParen p ∷ ts
frame_taken (awaits_expression (in_index a p l)) ts = spell a (sign signs.LeftBracket p ∷ ts)
frame_taken (awaits_expression (in_arguments g p before l)) ts = spell g (sign signs.LeftParen p ∷ arguments_before before ts)
frame_taken (awaits_expression (behind_prefix p o l)) ts = sign (prefix_sign o) p ∷ ts
frame_taken (awaits_expression (behind_sizeof p l)) ts = word keywords.Sizeof p ∷ ts
frame_taken (awaits_expression (behind_cast p ws d l)) ts = sign signs.LeftParen p ∷ spell_specifiers ws (spell_declarator d (part close_paren ∷ ts))
frame_taken (awaits_expression (behind_binary a p o l)) ts = spell a (sign (binary_sign o) p ∷ ts)
frame_taken (awaits_expression (behind_question a p l)) ts = spell a (sign signs.Question p ∷ ts)
frame_taken (awaits_expression (behind_colon a p b l)) ts = spell a (sign signs.Question p ∷ spell b (part colon ∷ ts))
frame_taken (awaits_expression (behind_assignment a p o l)) ts = spell a (sign (assignment_sign o) p ∷ ts)
frame_taken (awaits_expression (behind_comma a l)) ts = spell a (part comma ∷ ts)
frame_taken (awaits_expression (in_size d p m)) ts = spell_declarator d (sign signs.LeftBracket p ∷ ts)
frame_taken (awaits_expression (in_enumerator b before n p)) ts = body_begun false b (entries_before before (name n ∷ sign signs.Assign p ∷ ts))
frame_taken (awaits_expression in_value) ts = ts
frame_taken (awaits_expression in_evaluation) ts = ts
frame_taken (awaits_expression (in_test h p)) ts = head_taken h (sign signs.LeftParen p ∷ ts)
frame_taken (awaits_expression (in_start p q)) ts = word keywords.For p ∷ sign signs.LeftParen q ∷ ts
frame_taken (awaits_expression (in_loop_test p q a r)) ts = word keywords.For p ∷ sign signs.LeftParen q ∷ spell_optional a (sign signs.Semicolon r ∷ ts)
frame_taken (awaits_expression (in_step l)) ts = loop_begun l ts
frame_taken (awaits_expression (in_return p)) ts = word keywords.Return p ∷ ts
frame_taken (awaits_expression (in_case p)) ts = word keywords.Case p ∷ ts
frame_taken (awaits_specifiers (for_cast p l)) ts = sign signs.LeftParen p ∷ ts
frame_taken (awaits_specifiers (for_sizeof p q l)) ts = word keywords.Sizeof p ∷ sign signs.LeftParen q ∷ ts
frame_taken (awaits_specifiers (for_parameter o before)) ts = open_begun o (parameters_before before ts)
frame_taken (awaits_specifiers (for_member b before)) ts = body_begun true b (lines_before before ts)
frame_taken (awaits_specifiers (for_declaration outer)) ts = ts
frame_taken (awaits_declarator (behind_star p qs)) ts = sign signs.Times p ∷ spell_qualifiers qs ts
frame_taken (awaits_declarator (in_group p m)) ts = sign signs.LeftParen p ∷ ts
frame_taken (awaits_declarator (of_cast p ws l)) ts = sign signs.LeftParen p ∷ spell_specifiers ws ts
frame_taken (awaits_declarator (of_sizeof p q ws l)) ts = word keywords.Sizeof p ∷ sign signs.LeftParen q ∷ spell_specifiers ws ts
frame_taken (awaits_declarator (of_parameter o before ws)) ts = open_begun o (parameters_before before (spell_specifiers ws ts))
frame_taken (awaits_declarator (of_member b lines ws before)) ts = body_begun true b (lines_before lines (spell_specifiers ws (declarators_before before ts)))
frame_taken (awaits_declarator (of_item outer ws before)) ts = spell_specifiers ws (items_before before ts)
frame_taken (awaits_initialiser (in_list p before)) ts = sign signs.LeftBrace p ∷ initialisers_before before ts
frame_taken (awaits_initialiser (of_value ws before d p)) ts = spell_specifiers ws (items_before before (spell_declarator d (sign signs.Assign p ∷ ts)))
frame_taken (awaits_declaration (in_file before)) ts = externals_before before ts
frame_taken (awaits_declaration (in_block i)) ts = block_taken i ts
frame_taken (awaits_statement (then_branch p q e)) ts = word keywords.If p ∷ spell_test q e ts
frame_taken (awaits_statement (else_branch p q e b)) ts = word keywords.If p ∷ spell_test q e (spell_statement b (part else_word ∷ ts))
frame_taken (awaits_statement (while_body p q e)) ts = word keywords.While p ∷ spell_test q e ts
frame_taken (awaits_statement (switch_body p q e)) ts = word keywords.Switch p ∷ spell_test q e ts
frame_taken (awaits_statement (do_body p)) ts = word keywords.Do p ∷ ts
frame_taken (awaits_statement (for_body l c)) ts = loop_begun l (spell_optional c (part close_paren ∷ ts))
frame_taken (awaits_statement (case_body p e)) ts = word keywords.Case p ∷ spell e (part colon ∷ ts)
frame_taken (awaits_statement (default_body p)) ts = word keywords.Default p ∷ part colon ∷ ts
frame_taken (awaits_statement (in_statements i before)) ts = block_taken i (statements_before before ts)
frame_taken (awaits_statement (in_definition ws d outside)) ts = spell_specifiers ws (spell_declarator d ts)

abbrev pub stack_taken : List Frame → List TokenMark → List TokenMark
stack_taken [] ts = ts
stack_taken (f ∷ s) ts = stack_taken s (frame_taken f ts)

abbrev pub doing_taken : Doing → List TokenMark → List TokenMark
doing_taken (seek l) ts = ts
doing_taken (operated e l) ts = spell e ts
doing_taken (gave e) ts = spell e ts
doing_taken (calling e p l) ts = spell e (sign signs.LeftParen p ∷ ts)
doing_taken (measuring p l) ts = word keywords.Sizeof p ∷ ts
doing_taken (specifying seen before) ts = specifiers_before before ts
doing_taken (tagging is p seen before) ts = specifiers_before before (word (tag_word is) p ∷ ts)
doing_taken (tagged is p n seen before) ts = specifiers_before before (word (tag_word is) p ∷ name n ∷ ts)
doing_taken (membering b before) ts = body_begun true b (lines_before before ts)
doing_taken (enumerating b before) ts = body_begun false b (entries_before before ts)
doing_taken (enumerated b before n) ts = body_begun false b (entries_before before (name n ∷ ts))
doing_taken (entered b before e) ts = body_begun false b (entries_before before (spell_entry e ts))
doing_taken (entering b before e) ts = body_begun false b (entries_before before (spell_entry e (part comma ∷ ts)))
doing_taken (gave_specifiers ws) ts = spell_specifiers ws ts
doing_taken (declaring m needed) ts = ts
doing_taken (qualifying m p before) ts = sign signs.Times p ∷ qualifiers_before before ts
doing_taken (suffixing m d) ts = spell_declarator d ts
doing_taken (sizing m d p) ts = spell_declarator d (sign signs.LeftBracket p ∷ ts)
doing_taken (parametering m d p) ts = spell_declarator d (sign signs.LeftParen p ∷ ts)
doing_taken (gave_declarator d) ts = spell_declarator d ts
doing_taken initialising ts = ts
doing_taken (listing p x before) ts = sign signs.LeftBrace p ∷ initialisers_before before (spell_initialiser x (part comma ∷ ts))
doing_taken (gave_initialiser x) ts = spell_initialiser x ts
doing_taken (itemed ws i before) ts = spell_specifiers ws (items_before before (spell_item i ts))
doing_taken (gave_declaration d) ts = spell_declaration d ts
doing_taken (externals before) ts = externals_before before ts
doing_taken (declarations i) ts = block_taken i ts
doing_taken (statements i before) ts = block_taken i (statements_before before ts)
doing_taken stating ts = ts
doing_taken (opening h) ts = head_taken h ts
doing_taken (finishing p b r q e) ts = word keywords.Do p ∷ spell_statement b (word keywords.While r ∷ spell_test q e ts)
doing_taken (looping p) ts = word keywords.For p ∷ ts
doing_taken (starting p q) ts = word keywords.For p ∷ sign signs.LeftParen q ∷ ts
doing_taken (testing p q a r) ts = word keywords.For p ∷ sign signs.LeftParen q ∷ spell_optional a (sign signs.Semicolon r ∷ ts)
doing_taken (stepping l) ts = loop_begun l ts
doing_taken (returning p) ts = word keywords.Return p ∷ ts
doing_taken (breaking p) ts = word keywords.Break p ∷ ts
doing_taken (continuing p) ts = word keywords.Continue p ∷ ts
doing_taken (defaulting p) ts = word keywords.Default p ∷ ts
doing_taken (gave_statement b) ts = spell_statement b ts

-- all tokens, those that were taken and those that are left
abbrev pub tokens_of : ParserState → List TokenMark
tokens_of (state d s names ts) = stack_taken s (doing_taken d ts)
