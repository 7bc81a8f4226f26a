-- The machine reads each tree of the grammar: expressions, specifiers and declarators.
use Rattle.std.proofs.Common.{◌≡◌, ℕ, ◌≤◌, ◌<◌, leb, Bool, true, false, List, [], ◌∷◌, Option, Some, None, refl, sym, ap, ◌∙◌, subst, arith}
use Rattle.dae_base.specs.declared.Place.{Place}
use Rattle.dae_tree.specs.declared.words.Keyword.TheVariants as keywords
use Rattle.dae_tree.specs.declared.signs.Sign.TheVariants as signs
use Rattle.dae_tree.specs.declared.operators.BinaryOperator.{BinaryOperator}
use Rattle.dae_tree.specs.declared.operators.AssignmentOperator.{AssignmentOperator}
use Rattle.dae_tree.specs.Marks.{TokenMark, word, sign, name, part, close_paren, close_bracket, close_brace, comma, colon}
use Rattle.dae_tree.specs.Operators.{under, strength, operand_level, binary_sign, assignment_sign, postfix_sign, member_sign}
use Rattle.dae_tree.specs.declared.seen.Seen.{Seen}
use Rattle.dae_tree.specs.Words.{nothing_seen, with_word, with_whole, seen_after}
use Rattle.dae_tree.specs.Names.{Names, has_typedef, with_name, with_declarator, after, after_all, after_specifiers, after_specifier, after_members, after_enumerators, after_declarators, after_declarator}
use Rattle.dae_tree.specs.Spelling.{spell, spell_all, spell_more, spell_specifiers, spell_specifier, spell_members, spell_enumerators, spell_more_enumerators, spell_more_declarators, spell_declarator, spell_parameters, spell_more_parameters, spell_comma}
use Rattle.dae_tree.specs.Grammar.{level, Manner, by_name, without_name, either_way, IsExpression, AreArguments, IsSpecifiers, IsSpecifier, AreMembers, AreEnumerators, AreDeclarators, AreParameters, IsPresent, IsGroup, HasParameter, HasEnumerator}
use Rattle.dae_tree.specs.Trees.{Expression, Expressions, Specifiers, Specifier, Members, Enumerators, Declarators, Declarator, Parameters, Identifier, Number, Literal, Parenthesised, Index, Call, Member, Postfix, Prefix, SizeofExpression, SizeofType, Cast, Binary, Conditional, Assignment, Comma, no_expressions, expression_then, no_specifiers, specifier_then, Word, TypeName, Structure, StructureBody, Enumeration, EnumerationBody, no_members, member_then, no_enumerators, plain_then, valued_then, no_declarators, declarator_then, Absent, Named, Pointer, Grouped, Unsized, Sized, Empty, Void, Function, no_parameters, parameter_then}
use Rattle.dae_tree.specs.Lists.{MemberLine, EnumEntry, Parameter}
use Rattle.dae_parse_grammar.specs.Frames.{TypeBody, OpenParameters, Frame, in_parentheses, in_index, in_arguments, behind_prefix, behind_sizeof, behind_cast, behind_binary, behind_question, behind_colon, behind_assignment, behind_comma, in_size, in_enumerator, for_cast, for_sizeof, for_parameter, for_member, behind_star, in_group, of_cast, of_sizeof, of_parameter, of_member, seek, operated, gave, calling, measuring, specifying, tagging, tagged, membering, enumerating, entered, gave_specifiers, declaring, suffixing, gave_declarator, ParserState, state, awaits_expression, awaits_specifiers, awaits_declarator}
use Rattle.dae_parse_grammar.specs.Machine.{closed, closed_by, operation, reach, subscript, call, member_of, step_of, binary_of, choice, assignment_of, body, arguments_onto, specifiers_onto, members_onto, enumerators_onto, declarators_onto, parameters_onto, parenthesis_declared}
use Rattle.dae_parse_grammar.specs.Runs.{IsBackward}
use Rattle.dae_parse_grammar.specs.Levels.{front, tail}
use Rattle.dae_parse_grammar.specs.Starts.{FollowsSpecifiers, FollowsDeclarator}
use Rattle.dae_parse_grammar.specs.Reads.{ReadsDeclarator, HasLine, IsNoBrace}
use Rattle.dae_parse_grammar.proofs.Steps.{to, under_least, operand_most, binary_operation, assignment_operation, postfix_operation, member_operation, reach_member, reach_step, reach_assignment, level_most, tail_most, tail_within, tail_left, tail_postfix, takes, stop, commas, prefixes}
use Rattle.dae_parse_grammar.proofs.Fronts.{starts, no_specifiers_first, called_first, sized_first, measured_first, specifiers_begin, front_any, front_present, named_present, group_begins}
use Rattle.dae_parse_grammar.proofs.Declarators.{opens_bracket, opens_paren, as_direct, finish_declarator, no_word_any, no_word_follows, read_qualifiers, parameters_first, parameters_begin, follows_more, specifiers_more, plain_word, no_brace_follows, no_brace_specifiers, tag_end, specified_end, members_next, enumerated_end}

front_binary : (o : BinaryOperator) → reach (operation (binary_sign o)) ≡ strength o
front_binary o = ap reach (binary_operation o)

front_assignment : (o : AssignmentOperator) → reach (operation (assignment_sign o)) ≡ 15
front_assignment o = ap reach (assignment_operation o) ∙ reach_assignment o

front_more : (xs : Expressions) (rest : List TokenMark) → 15 < front (spell_more xs (part close_paren ∷ rest))
front_more no_expressions rest = omega arith
front_more (expression_then a xs) rest = omega arith

-- a parenthesis that begins a group
grouped : (m : Manner) (p : _) (s : List Frame) (names : Names) (d : Declarator) (rest : List TokenMark) → IsPresent d → IsGroup m names d
    → parenthesis_declared m p s names (spell_declarator d rest) ≡ Some (state (declaring m true) (awaits_declarator (in_group p m) ∷ s) names (spell_declarator d rest))
grouped by_name p s names d rest h i = refl
grouped without_name p s names d rest h i = rw (group_begins names d h i rest) refl
grouped either_way p s names d rest h i = rw (group_begins names d h i rest) refl

front_entries : (es : Enumerators) (c : Bool) (rest : List TokenMark) → 14 < front (spell_more_enumerators es (spell_comma c (part close_brace ∷ rest)))
front_entries no_enumerators true rest = omega arith
front_entries no_enumerators false rest = omega arith
front_entries (plain_then n es) c rest = omega arith
front_entries (valued_then n p e es) c rest = omega arith

-- behind the brace that ends an enumeration
abbrev enumerated_state : TypeBody → List EnumEntry → Enumerators → Bool → List Frame → Names → List TokenMark → ParserState
enumerated_state b before es c s names rest =
    state (specifying (with_whole b.seen) (EnumerationBody b.place b.tag b.brace (enumerators_onto before es) c ∷ b.before)) s names rest

mutual
  pub read : {P : ParserState → Type 0} → IsBackward P → (e : Expression) (names : Names) → IsExpression names e → (l : ℕ) → level e ≤ l → (s : List Frame) (rest : List TokenMark)
      → tail e < front rest → P (state (operated e l) s (after e names) rest) → P (state (seek l) s names (spell e rest))
  read back (Identifier n) names i l le s rest f k = to back (state (seek l) s names (name n ∷ rest)) (Some (state (operated (Identifier n) l) s names rest)) (rw i refl) k
  read back (Number p c) names i l le s rest f k = back _ k
  read back (Literal p n) names i l le s rest f k = back _ k
  read back (Parenthesised p a) names i l le s rest f k =
      to back (state (seek l) s names (sign signs.LeftParen p ∷ spell a (part close_paren ∷ rest))) (Some (state (seek 16) (awaits_expression (in_parentheses p l) ∷ s) names (spell a (part close_paren ∷ rest))))
      (rw (no_specifiers_first names (spell a (part close_paren ∷ rest)) (starts names a i _)) refl)
      (read back a names i 16 (level_most a) (awaits_expression (in_parentheses p l) ∷ s) (part close_paren ∷ rest) (omega (arith, tail_most a))
      (stop back a 16 (awaits_expression (in_parentheses p l) ∷ s) (after a names) (part close_paren ∷ rest) (omega arith) (back _ k)))
  read back (Index a p b) names i l le s rest f k =
      read back a names i.1 l (omega (arith, i.0)) s (sign signs.LeftBracket p ∷ spell b (part close_bracket ∷ rest)) (tail_postfix a i.0)
      (to back _ _ (takes signs.LeftBracket subscript a p l s (after a names) (spell b (part close_bracket ∷ rest)) refl le i.0)
      (read back b (after a names) i.2 16 (level_most b) (awaits_expression (in_index a p l) ∷ s) (part close_bracket ∷ rest) (omega (arith, tail_most b))
      (stop back b 16 (awaits_expression (in_index a p l) ∷ s) (after b (after a names)) (part close_bracket ∷ rest) (omega arith) (back _ k))))
  read back (Call g p xs) names i l le s rest f k =
      read back g names i.1 l (omega (arith, i.0)) s (sign signs.LeftParen p ∷ spell_all xs (part close_paren ∷ rest)) (tail_postfix g i.0)
      (to back _ _ (takes signs.LeftParen call g p l s (after g names) (spell_all xs (part close_paren ∷ rest)) refl le i.0)
      (read_all back xs (after g names) i.2 g p l s rest k))
  read back (Member a p o n) names i l le s rest f k =
      read back a names i.1 l (omega (arith, i.0)) s (sign (member_sign o) p ∷ name n ∷ rest) (omega (arith, tail_postfix a i.0, ap reach (member_operation o), reach_member o))
      (to back _ _ (takes (member_sign o) (member_of o) a p l s (after a names) (name n ∷ rest) (member_operation o) (omega (arith, le, reach_member o)) (omega (arith, i.0, reach_member o))) k)
  read back (Postfix a p o) names i l le s rest f k =
      read back a names i.1 l (omega (arith, i.0)) s (sign (postfix_sign o) p ∷ rest) (omega (arith, tail_postfix a i.0, ap reach (postfix_operation o), reach_step o))
      (to back _ _ (takes (postfix_sign o) (step_of o) a p l s (after a names) rest (postfix_operation o) (omega (arith, le, reach_step o)) (omega (arith, i.0, reach_step o))) k)
  read back (Prefix p o a) names i l le s rest f k =
      to back _ _ (prefixes o p l s names (spell a rest))
      (read back a names i.1 (operand_level o) i.0 (awaits_expression (behind_prefix p o l) ∷ s) rest (omega (arith, tail_within a 3 (omega arith) (omega (arith, i.0, operand_most o))))
      (stop back a (operand_level o) (awaits_expression (behind_prefix p o l) ∷ s) (after a names) rest (omega (arith, operand_most o)) (back _ k)))
  read back (SizeofExpression p a) names i l le s rest f k =
      back _
      (to back (state (measuring p l) s names (spell a rest)) _ (measured_first names a i.1 i.0 rest p l s)
      (read back a names i.1 2 i.0 (awaits_expression (behind_sizeof p l) ∷ s) rest (omega (arith, tail_within a 3 (omega arith) (omega (arith, i.0))))
      (stop back a 2 (awaits_expression (behind_sizeof p l) ∷ s) (after a names) rest (omega arith) (back _ k))))
  read back (SizeofType p q ws d) names i l le s rest f k =
      back _
      (to back (state (measuring p l) s names (sign signs.LeftParen q ∷ spell_specifiers ws (spell_declarator d (part close_paren ∷ rest)))) (Some (state (specifying nothing_seen []) (awaits_specifiers (for_sizeof p q l) ∷ s) names (spell_specifiers ws (spell_declarator d (part close_paren ∷ rest)))))
      (rw (specifiers_begin names ws i.0 (spell_declarator d (part close_paren ∷ rest))) refl)
      (read_specifiers back ws names nothing_seen [] (awaits_specifiers (for_sizeof p q l) ∷ s) (spell_declarator d (part close_paren ∷ rest)) i.0 (front_any d (part close_paren ∷ rest) tt)
      (back _ (finish_declarator back d (read_declarator back d) without_name (after_specifiers ws names) i.1 false (λ e. absurd cc) (awaits_declarator (of_sizeof p q ws l) ∷ s) (part close_paren ∷ rest) tt (back _ k)))))
  read back (Cast p ws d a) names i l le s rest f k =
      to back (state (seek l) s names (sign signs.LeftParen p ∷ spell_specifiers ws (spell_declarator d (part close_paren ∷ spell a rest)))) (Some (state (specifying nothing_seen []) (awaits_specifiers (for_cast p l) ∷ s) names (spell_specifiers ws (spell_declarator d (part close_paren ∷ spell a rest)))))
      (rw (specifiers_begin names ws i.0 (spell_declarator d (part close_paren ∷ spell a rest)), three l le) refl)
      (read_specifiers back ws names nothing_seen [] (awaits_specifiers (for_cast p l) ∷ s) (spell_declarator d (part close_paren ∷ spell a rest)) i.0 (front_any d (part close_paren ∷ spell a rest) tt)
      (back _ (finish_declarator back d (read_declarator back d) without_name (after_specifiers ws names) i.1 false (λ e. absurd cc) (awaits_declarator (of_cast p ws l) ∷ s) (part close_paren ∷ spell a rest) tt
      (back _ (read back a (after_declarator d (after_specifiers ws names)) i.3 3 i.2 (awaits_expression (behind_cast p ws d l) ∷ s) rest (omega (arith, tail_within a 3 (omega arith) i.2))
      (stop back a 3 (awaits_expression (behind_cast p ws d l) ∷ s) (after a (after_declarator d (after_specifiers ws names))) rest (omega arith) (back _ k)))))))
    where
      three : (l : ℕ) → 3 ≤ l → leb 3 l ≡ true
      three l h = grind arith
  read back (Binary a p o b) names i l le s rest f k =
      read back a names i.2 l (omega (arith, i.0)) s (sign (binary_sign o) p ∷ spell b rest) (omega (arith, tail_left a o i.0, front_binary o))
      (to back _ _ (takes (binary_sign o) (binary_of o) a p l s (after a names) (spell b rest) (binary_operation o) le i.0)
      (read back b (after a names) i.3 (under o) i.1 (awaits_expression (behind_binary a p o l) ∷ s) rest (omega (arith, tail_within b (under o) (under_least o) i.1))
      (stop back b (under o) (awaits_expression (behind_binary a p o l) ∷ s) (after b (after a names)) rest f (back _ k))))
  read back (Conditional a p b c) names i l le s rest f k =
      read back a names i.2 l (omega (arith, i.0)) s (sign signs.Question p ∷ spell b (part colon ∷ spell c rest)) (omega (arith, tail_within a 13 (omega arith) i.0))
      (to back _ _ (takes signs.Question choice a p l s (after a names) (spell b (part colon ∷ spell c rest)) refl le i.0)
      (read back b (after a names) i.3 16 (level_most b) (awaits_expression (behind_question a p l) ∷ s) (part colon ∷ spell c rest) (omega (arith, tail_most b))
      (stop back b 16 (awaits_expression (behind_question a p l) ∷ s) (after b (after a names)) (part colon ∷ spell c rest) (omega arith)
      (back _ (read back c (after b (after a names)) i.4 14 i.1 (awaits_expression (behind_colon a p b l) ∷ s) rest (omega (arith, tail_within c 14 (omega arith) i.1))
      (stop back c 14 (awaits_expression (behind_colon a p b l) ∷ s) (after c (after b (after a names))) rest f (back _ k)))))))
  read back (Assignment a p o b) names i l le s rest f k =
      read back a names i.2 l (omega (arith, i.0)) s (sign (assignment_sign o) p ∷ spell b rest) (omega (arith, tail_within a 3 (omega arith) (omega (arith, i.0)), front_assignment o))
      (to back _ _ (takes (assignment_sign o) (assignment_of o) a p l s (after a names) (spell b rest) (assignment_operation o) (omega (arith, le, reach_assignment o)) i.0)
      (read back b (after a names) i.3 15 i.1 (awaits_expression (behind_assignment a p o l) ∷ s) rest (omega (arith, tail_within b 15 (omega arith) i.1))
      (stop back b 15 (awaits_expression (behind_assignment a p o l) ∷ s) (after b (after a names)) rest f (back _ k))))
  read back (Comma a b) names i l le s rest f k =
      read back a names i.1 l (omega (arith, level_most a)) s (part comma ∷ spell b rest) (omega (arith, tail_most a))
      (to back _ _ (commas a l s (after a names) (spell b rest) le)
      (read back b (after a names) i.2 15 i.0 (awaits_expression (behind_comma a l) ∷ s) rest (omega (arith, tail_within b 15 (omega arith) i.0))
      (stop back b 15 (awaits_expression (behind_comma a l) ∷ s) (after b (after a names)) rest f (back _ k))))

  read_all : {P : ParserState → Type 0} → IsBackward P → (xs : Expressions) (names : Names) → AreArguments names xs → (g : Expression) (p : Place) (l : ℕ) (s : List Frame) (rest : List TokenMark)
      → P (state (operated (Call g p xs) l) s (after_all xs names) rest) → P (state (calling g p l) s names (spell_all xs (part close_paren ∷ rest)))
  read_all back no_expressions names i g p l s rest k = back _ k
  read_all back (expression_then a xs) names i g p l s rest k =
      to back _ _ (called_first names (spell a (spell_more xs (part close_paren ∷ rest))) (starts names a i.1 _) g p l s)
      (read back a names i.1 15 i.0 (awaits_expression (in_arguments g p [] l) ∷ s) (spell_more xs (part close_paren ∷ rest)) (omega (arith, tail_most a, front_more xs rest))
      (stop back a 15 (awaits_expression (in_arguments g p [] l) ∷ s) (after a names) (spell_more xs (part close_paren ∷ rest)) (front_more xs rest)
      (read_more back xs (after a names) i.2 g p a [] l s rest k)))

  read_more : {P : ParserState → Type 0} → IsBackward P → (xs : Expressions) (names : Names) → AreArguments names xs → (g : Expression) (p : Place) (a : Expression) (before : List Expression) (l : ℕ) (s : List Frame) (rest : List TokenMark)
      → P (state (operated (Call g p (arguments_onto before (expression_then a xs))) l) s (after_all xs names) rest)
      → P (state (gave a) (awaits_expression (in_arguments g p before l) ∷ s) names (spell_more xs (part close_paren ∷ rest)))
  read_more back no_expressions names i g p a before l s rest k = back _ k
  read_more back (expression_then b xs) names i g p a before l s rest k =
      back _
      (read back b names i.1 15 i.0 (awaits_expression (in_arguments g p (a ∷ before) l) ∷ s) (spell_more xs (part close_paren ∷ rest)) (omega (arith, tail_most b, front_more xs rest))
      (stop back b 15 (awaits_expression (in_arguments g p (a ∷ before) l) ∷ s) (after b names) (spell_more xs (part close_paren ∷ rest)) (front_more xs rest)
      (read_more back xs (after b names) i.2 g p b (a ∷ before) l s rest k)))

  pub read_specifiers : {P : ParserState → Type 0} → IsBackward P → (ws : Specifiers) (names : Names) (seen : Seen) (before : List Specifier) (s : List Frame) (rest : List TokenMark)
      → IsSpecifiers seen names ws → FollowsSpecifiers rest
      → P (state (gave_specifiers (specifiers_onto before ws)) s (after_specifiers ws names) rest) → P (state (specifying seen before) s names (spell_specifiers ws rest))
  read_specifiers back no_specifiers names seen before s rest i f k = to back (state (specifying seen before) s names rest) _ (specified_end seen before s names rest i f) k
  read_specifiers back (specifier_then w ws) names seen before s rest i f k =
      read_specifier back w names seen before s (spell_specifiers ws rest) i.0 (no_brace_specifiers ws rest (no_brace_follows rest f))
      (read_specifiers back ws (after_specifier w names) (seen_after seen w) (w ∷ before) s rest i.1 f k)

  read_specifier : {P : ParserState → Type 0} → IsBackward P → (w : Specifier) (names : Names) (seen : Seen) (before : List Specifier) (s : List Frame) (rest : List TokenMark)
      → IsSpecifier seen names w → IsNoBrace rest
      → P (state (specifying (seen_after seen w) (w ∷ before)) s (after_specifier w names) rest) → P (state (specifying seen before) s names (spell_specifier w rest))
  read_specifier back (Word p c) names seen before s rest i f k =
      to back (state (specifying seen before) s names (word c p ∷ rest)) (Some (state (specifying (with_word seen c) (Word p c ∷ before)) s names rest))
      (rw i.0 (ap (λ x. Some x) (plain_word c p seen before s names rest i.1))) k
  read_specifier back (TypeName n) names seen before s rest i f k =
      to back (state (specifying seen before) s names (name n ∷ rest)) (Some (state (specifying (with_whole seen) (TypeName n ∷ before)) s names rest)) (rw (i.0, i.1) refl) k
  read_specifier back (Structure p n) names seen before s rest i f k =
      to back (state (specifying seen before) s names (word keywords.Struct p ∷ name n ∷ rest)) (Some (state (tagging true p seen before) s names (name n ∷ rest))) (rw i refl)
      (back _ (to back (state (tagged true p n seen before) s names rest) _ (tag_end true p n seen before s names rest f) k))
  read_specifier back (StructureBody p None q ms) names seen before s rest i f k =
      to back (state (specifying seen before) s names (word keywords.Struct p ∷ sign signs.LeftBrace q ∷ spell_members ms (part close_brace ∷ rest))) (Some (state (tagging true p seen before) s names (sign signs.LeftBrace q ∷ spell_members ms (part close_brace ∷ rest)))) (rw i.0 refl)
      (back _ (read_members back ms names (body p None q seen before) [] s rest i.2 i.1 k))
  read_specifier back (StructureBody p (Some n) q ms) names seen before s rest i f k =
      to back (state (specifying seen before) s names (word keywords.Struct p ∷ name n ∷ sign signs.LeftBrace q ∷ spell_members ms (part close_brace ∷ rest))) (Some (state (tagging true p seen before) s names (name n ∷ sign signs.LeftBrace q ∷ spell_members ms (part close_brace ∷ rest)))) (rw i.0 refl)
      (back _ (back _ (read_members back ms names (body p (Some n) q seen before) [] s rest i.2 i.1 k)))
  read_specifier back (Enumeration p n) names seen before s rest i f k =
      to back (state (specifying seen before) s names (word keywords.Enum p ∷ name n ∷ rest)) (Some (state (tagging false p seen before) s names (name n ∷ rest))) (rw i refl)
      (back _ (to back (state (tagged false p n seen before) s names rest) _ (tag_end false p n seen before s names rest f) k))
  read_specifier back (EnumerationBody p None q es c) names seen before s rest i f k =
      let ts = spell_enumerators es (spell_comma c (part close_brace ∷ rest)) in
      to back (state (specifying seen before) s names (word keywords.Enum p ∷ sign signs.LeftBrace q ∷ ts)) (Some (state (tagging false p seen before) s names (sign signs.LeftBrace q ∷ ts))) (rw i.0 refl)
      (back _ (read_enumerators back es c names (body p None q seen before) s rest i.2 i.1 k))
  read_specifier back (EnumerationBody p (Some n) q es c) names seen before s rest i f k =
      let ts = spell_enumerators es (spell_comma c (part close_brace ∷ rest)) in
      to back (state (specifying seen before) s names (word keywords.Enum p ∷ name n ∷ sign signs.LeftBrace q ∷ ts)) (Some (state (tagging false p seen before) s names (name n ∷ sign signs.LeftBrace q ∷ ts))) (rw i.0 refl)
      (back _ (back _ (read_enumerators back es c names (body p (Some n) q seen before) s rest i.2 i.1 k)))

  read_members : {P : ParserState → Type 0} → IsBackward P → (ms : Members) (names : Names) (b : TypeBody) (before : List MemberLine) (s : List Frame) (rest : List TokenMark)
      → AreMembers names ms → HasLine before ms
      → P (state (specifying (with_whole b.seen) (StructureBody b.place b.tag b.brace (members_onto before ms) ∷ b.before)) s (after_members ms names) rest)
      → P (state (membering b before) s names (spell_members ms (part close_brace ∷ rest)))
  read_members back no_members names b [] s rest i h k = absurd h
  read_members back no_members names b (m ∷ before) s rest i h k = back _ k
  read_members back (member_then ws no_declarators p ms) names b before s rest i h k = absurd i.1
  read_members back (member_then ws (declarator_then d ds) p ms) names b before s rest i h k =
      let ts = spell_members ms (part close_brace ∷ rest) in
      let us = spell_declarator d (spell_more_declarators ds (sign signs.Semicolon p ∷ ts)) in
      to back (state (membering b before) s names (spell_specifiers ws us)) _ (members_next names b before s ws us i.0)
      (read_specifiers back ws names nothing_seen [] (awaits_specifiers (for_member b before) ∷ s) us i.0 (front_present d _ (named_present (after_specifiers ws names) d i.2.0))
      (back _ (finish_declarator back d (read_declarator back d) by_name (after_specifiers ws names) i.2.0 false (λ e. absurd cc) (awaits_declarator (of_member b before ws []) ∷ s) (spell_more_declarators ds (sign signs.Semicolon p ∷ ts)) (more_follow ds p ts)
      (read_more_declarators back ds (after_declarator d (after_specifiers ws names)) i.2.1 d b before ws [] p s ts
      (read_members back ms (after_declarators ds (after_declarator d (after_specifiers ws names))) b (record { specifiers = ws; declarators = declarator_then d ds; end = p } ∷ before) s rest i.3 tt k)))))
    where
      more_follow : (ds : Declarators) (p : Place) (ts : List TokenMark) → FollowsDeclarator (spell_more_declarators ds (sign signs.Semicolon p ∷ ts))
      more_follow no_declarators p ts = tt
      more_follow (declarator_then d ds) p ts = tt

  read_more_declarators : {P : ParserState → Type 0} → IsBackward P → (ds : Declarators) (names : Names) → AreDeclarators names ds → (d : Declarator) (b : TypeBody) (lines : List MemberLine) (ws : Specifiers) (before : List Declarator) (p : Place) (s : List Frame) (rest : List TokenMark)
      → P (state (membering b (record { specifiers = ws; declarators = declarators_onto before (declarator_then d ds); end = p } ∷ lines)) s (after_declarators ds names) rest)
      → P (state (gave_declarator d) (awaits_declarator (of_member b lines ws before) ∷ s) names (spell_more_declarators ds (sign signs.Semicolon p ∷ rest)))
  read_more_declarators back no_declarators names i d b lines ws before p s rest k = back _ k
  read_more_declarators back (declarator_then e ds) names i d b lines ws before p s rest k =
      back _
      (finish_declarator back e (read_declarator back e) by_name names i.0 false (λ e. absurd cc) (awaits_declarator (of_member b lines ws (d ∷ before)) ∷ s) (spell_more_declarators ds (sign signs.Semicolon p ∷ rest)) (more_follow ds)
      (read_more_declarators back ds (after_declarator e names) i.1 e b lines ws (d ∷ before) p s rest k))
    where
      more_follow : (ds : Declarators) → FollowsDeclarator (spell_more_declarators ds (sign signs.Semicolon p ∷ rest))
      more_follow no_declarators = tt
      more_follow (declarator_then d ds) = tt

  read_enumerators : {P : ParserState → Type 0} → IsBackward P → (es : Enumerators) (c : Bool) (names : Names) (b : TypeBody) (s : List Frame) (rest : List TokenMark)
      → AreEnumerators names es → HasEnumerator es
      → P (enumerated_state b [] es c s (after_enumerators es names) rest)
      → P (state (enumerating b []) s names (spell_enumerators es (spell_comma c (part close_brace ∷ rest))))
  read_enumerators back no_enumerators c names b s rest i h k = absurd h
  read_enumerators back (plain_then n es) c names b s rest i h k =
      back _ (to back _ _ (enumerated_end es c rest b [] n s names)
      (read_more_enumerators back es c (with_name false n names) b [] (record { name = n; value = None }) s rest i k))
  read_enumerators back (valued_then n p e es) c names b s rest i h k =
      back _ (back _
      (read back e names i.1 14 i.0 (awaits_expression (in_enumerator b [] n p) ∷ s) (spell_more_enumerators es (spell_comma c (part close_brace ∷ rest))) (omega (arith, tail_within e 14 (omega arith) i.0, front_entries es c rest))
      (stop back e 14 (awaits_expression (in_enumerator b [] n p) ∷ s) (after e names) (spell_more_enumerators es (spell_comma c (part close_brace ∷ rest))) (front_entries es c rest)
      (back _ (read_more_enumerators back es c (with_name false n (after e names)) b [] (record { name = n; value = Some (p, e) }) s rest i.2 k)))))

  read_more_enumerators : {P : ParserState → Type 0} → IsBackward P → (es : Enumerators) (c : Bool) (names : Names) (b : TypeBody) (before : List EnumEntry) (last : EnumEntry) (s : List Frame) (rest : List TokenMark)
      → AreEnumerators names es
      → P (enumerated_state b (last ∷ before) es c s (after_enumerators es names) rest)
      → P (state (entered b before last) s names (spell_more_enumerators es (spell_comma c (part close_brace ∷ rest))))
  read_more_enumerators back no_enumerators true names b before last s rest i k = back _ (back _ k)
  read_more_enumerators back no_enumerators false names b before last s rest i k = back _ k
  read_more_enumerators back (plain_then n es) c names b before last s rest i k =
      back _ (back _ (back _ (to back _ _ (enumerated_end es c rest b (last ∷ before) n s names)
      (read_more_enumerators back es c (with_name false n names) b (last ∷ before) (record { name = n; value = None }) s rest i k))))
  read_more_enumerators back (valued_then n p e es) c names b before last s rest i k =
      back _ (back _ (back _ (back _
      (read back e names i.1 14 i.0 (awaits_expression (in_enumerator b (last ∷ before) n p) ∷ s) (spell_more_enumerators es (spell_comma c (part close_brace ∷ rest))) (omega (arith, tail_within e 14 (omega arith) i.0, front_entries es c rest))
      (stop back e 14 (awaits_expression (in_enumerator b (last ∷ before) n p) ∷ s) (after e names) (spell_more_enumerators es (spell_comma c (part close_brace ∷ rest))) (front_entries es c rest)
      (back _ (read_more_enumerators back es c (with_name false n (after e names)) b (last ∷ before) (record { name = n; value = Some (p, e) }) s rest i.2 k)))))))

  pub read_declarator : {P : ParserState → Type 0} → IsBackward P → (d : Declarator) → ReadsDeclarator P d
  read_declarator back Absent m names i needed s rest o k = to back (state (declaring m needed) s names rest) _ (o needed s) k
  read_declarator back (Named n) by_name names i needed s rest o k = back _ k
  read_declarator back (Named n) without_name names i needed s rest o k = absurd i
  read_declarator back (Named n) either_way names i needed s rest o k = back _ k
  read_declarator back (Pointer p qs d) m names i needed s rest o k =
      back _ (read_qualifiers back qs [] m p s names (spell_declarator d rest) (no_word_any d rest (no_word_follows rest o))
      (finish_declarator back d (read_declarator back d) m names i false (λ e. absurd cc) (awaits_declarator (behind_star p qs) ∷ s) rest o (back _ k)))
  read_declarator back (Grouped p d) m names i needed s rest o k =
      to back (state (declaring m needed) s names (sign signs.LeftParen p ∷ spell_declarator d (part close_paren ∷ rest))) _ (grouped m p s names d (part close_paren ∷ rest) i.0 i.1)
      (finish_declarator back d (read_declarator back d) m names i.2 true (λ e. i.0) (awaits_declarator (in_group p m) ∷ s) (part close_paren ∷ rest) tt (back _ k))
  read_declarator {P} back (Unsized d p) m names i needed s rest o k =
      read_declarator back d m names i.1 needed s (sign signs.LeftBracket p ∷ part close_bracket ∷ rest) (opens_bracket m names d i.0 i.1 p _)
      (as_direct P m d s (after_declarator d names) _ i.0 (back _ (back _ k)))
  read_declarator {P} back (Sized d p e) m names i needed s rest o k =
      read_declarator back d m names i.1 needed s (sign signs.LeftBracket p ∷ spell e (part close_bracket ∷ rest)) (opens_bracket m names d i.0 i.1 p _)
      (as_direct P m d s (after_declarator d names) _ i.0
      (back _ (to back _ _ (sized_first (after_declarator d names) (spell e (part close_bracket ∷ rest)) (starts (after_declarator d names) e i.3 _) m d p s)
      (read back e (after_declarator d names) i.3 14 i.2 (awaits_expression (in_size d p m) ∷ s) (part close_bracket ∷ rest) (omega (arith, tail_most e))
      (stop back e 14 (awaits_expression (in_size d p m) ∷ s) (after e (after_declarator d names)) (part close_bracket ∷ rest) (omega arith) (back _ k))))))
  read_declarator {P} back (Empty d p) m names i needed s rest o k =
      read_declarator back d m names i.1 needed s (sign signs.LeftParen p ∷ part close_paren ∷ rest) (opens_paren m names d i.0 i.1 p _ refl)
      (as_direct P m d s (after_declarator d names) _ i.0 (back _ (back _ k)))
  read_declarator {P} back (Void d p q) m names i needed s rest o k =
      read_declarator back d m names i.1 needed s (sign signs.LeftParen p ∷ word keywords.Void q ∷ part close_paren ∷ rest) (opens_paren m names d i.0 i.1 p _ refl)
      (as_direct P m d s (after_declarator d names) _ i.0 (back _ (back _ (back _ (back _ (back _ (back _ (back _ k))))))))
  read_declarator {P} back (Function d p ps) m names i needed s rest o k =
      let ts = spell_parameters ps (part close_paren ∷ rest) in
      let inner = after_declarator d names in
      read_declarator back d m names i.1 needed s (sign signs.LeftParen p ∷ ts) (opens_paren m names d i.0 i.1 p ts (parameters_begin inner ps i.2 i.4 _))
      (as_direct P m d s inner _ i.0
      (back _ (to back _ _ (parameters_first m d p s inner inner ps rest i.2 i.4)
      (read_parameters back ps inner (record { declarator = d; place = p; manner = m; outside = inner }) s rest i.4 i.2
      (subst (λ (e : Declarator). P (state (suffixing m e) s inner rest)) (sym (ap (λ (v : Option Place). closed_by v d p ps) i.3)) k)))))

  read_parameters : {P : ParserState → Type 0} → IsBackward P → (ps : Parameters) (names : Names) (o : OpenParameters) (s : List Frame) (rest : List TokenMark)
      → AreParameters names ps → HasParameter ps
      → P (state (suffixing o.manner (closed o ps)) s o.outside rest)
      → P (state (specifying nothing_seen []) (awaits_specifiers (for_parameter o []) ∷ s) names (spell_parameters ps (part close_paren ∷ rest)))
  read_parameters back no_parameters names o s rest i h k = absurd h
  read_parameters back (parameter_then ws d ps) names o s rest i h k =
      let ts = spell_more_parameters ps (part close_paren ∷ rest) in
      read_specifiers back ws names nothing_seen [] (awaits_specifiers (for_parameter o []) ∷ s) (spell_declarator d ts) i.0 (front_any d ts (specifiers_more ps rest))
      (back _ (finish_declarator back d (read_declarator back d) either_way (after_specifiers ws names) i.1 false (λ e. absurd cc) (awaits_declarator (of_parameter o [] ws) ∷ s) ts (follows_more ps rest)
      (read_more_parameters back ps (after_declarator d (after_specifiers ws names)) ws d o [] s rest i.2 k)))

  read_more_parameters : {P : ParserState → Type 0} → IsBackward P → (ps : Parameters) (names : Names) (ws : Specifiers) (d : Declarator) (o : OpenParameters) (before : List Parameter) (s : List Frame) (rest : List TokenMark)
      → AreParameters (with_declarator (has_typedef ws) d names) ps
      → P (state (suffixing o.manner (closed o (parameters_onto before (parameter_then ws d ps)))) s o.outside rest)
      → P (state (gave_declarator d) (awaits_declarator (of_parameter o before ws) ∷ s) names (spell_more_parameters ps (part close_paren ∷ rest)))
  read_more_parameters back no_parameters names ws d o before s rest i k = back _ k
  read_more_parameters back (parameter_then vs e ps) names ws d o before s rest i k =
      let ts = spell_more_parameters ps (part close_paren ∷ rest) in
      let now = with_declarator (has_typedef ws) d names in
      let others = record { specifiers = ws; declarator = d } ∷ before in
      back _
      (read_specifiers back vs now nothing_seen [] (awaits_specifiers (for_parameter o others) ∷ s) (spell_declarator e ts) i.0 (front_any e ts (specifiers_more ps rest))
      (back _ (finish_declarator back e (read_declarator back e) either_way (after_specifiers vs now) i.1 false (λ e. absurd cc) (awaits_declarator (of_parameter o others vs) ∷ s) ts (follows_more ps rest)
      (read_more_parameters back ps (after_declarator e (after_specifiers vs now)) vs e o others s rest i.2 k))))
