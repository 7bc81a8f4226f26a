-- What the tokens of a tree pay is the same whatever follows them.
use Rattle.std.proofs.Common.{◌≡◌, ℕ, ◌+◌, ◌*◌, Bool, true, false, List, [], ◌∷◌, length, Option, Some, None, refl, arith}
use Rattle.dae_base.specs.declared.Place.{Place}
use Rattle.dae_tree.specs.declared.words.Keyword.TheVariants as keywords
use Rattle.dae_tree.specs.declared.signs.Sign.TheVariants as signs
use Rattle.dae_tree.specs.declared.expressions.Name.{Name}
use Rattle.dae_tree.specs.Marks.{TokenMark, word, sign, name, constant, literal, part, close_paren, close_bracket, close_brace, comma, colon, else_word, literal_numbers}
use Rattle.dae_tree.specs.Operators.{binary_sign, assignment_sign, postfix_sign, member_sign}
use Rattle.dae_tree.specs.Spelling.{spell, spell_all, spell_more, spell_specifiers, spell_specifier, spell_members, spell_enumerators, spell_more_enumerators, spell_declarators, spell_more_declarators, spell_declarator, spell_parameters, spell_more_parameters, spell_tag, spell_qualifiers, spell_comma}
use Rattle.dae_tree.specs.Statements.{spell_initialiser, spell_initialisers, spell_more_initialisers, spell_value, spell_item, spell_items, spell_more_items, spell_declaration, spell_declarations, spell_optional, spell_test, spell_statement, spell_statements, spell_external, spell_file}
use Rattle.dae_tree.specs.Trees as tree
use Rattle.dae_tree.specs.Trees.{Expression, Expressions, Specifiers, Specifier, Members, Enumerators, Declarators, Declarator, Parameters, Initialiser, Initialisers, InitDeclarator, Declaration, Statement, Statements, External}
use Rattle.dae_sizes.specs.Worth.{priced, PartsPay, pay_of_all}
use Rattle.dae_sizes.proofs.Spelled.{paid}

module _ (price : ℕ → ℕ) where
  -- what is spelled pays as much before other tokens as by itself
  abbrev Apart : (List TokenMark → List TokenMark) → Type 0
  Apart f = (rest : List TokenMark) → paid price (f rest) ≡ paid price (f []) + paid price rest

  tag_apart : (n : Option Name) → Apart (spell_tag n)
  tag_apart None rest = omega arith
  tag_apart (Some n) rest = omega arith

  qualifiers_apart : (ps : List Place) → Apart (spell_qualifiers ps)
  qualifiers_apart [] rest = omega arith
  qualifiers_apart (p ∷ ps) rest = let h = qualifiers_apart ps rest in let h0 = qualifiers_apart ps [] in omega (arith, h, h0)

  comma_apart : (c : Bool) → Apart (spell_comma c)
  comma_apart true rest = omega arith
  comma_apart false rest = omega arith

  mutual
    apart : (e : Expression) → Apart (spell e)
    apart (tree.Identifier n) rest = omega arith
    apart (tree.Number p c) rest = omega arith
    apart (tree.Literal p n) rest = omega arith
    apart (tree.Parenthesised p a) rest = let h = apart a (part close_paren ∷ rest) in let h0 = apart a (part close_paren ∷ []) in omega (arith, h, h0)
    apart (tree.Index a p b) rest =
        let h = apart b (part close_bracket ∷ rest) in let h0 = apart b (part close_bracket ∷ []) in
        let g = apart a (sign signs.LeftBracket p ∷ spell b (part close_bracket ∷ rest)) in let g0 = apart a (sign signs.LeftBracket p ∷ spell b (part close_bracket ∷ [])) in omega (arith, h, h0, g, g0)
    apart (tree.Call f p xs) rest =
        let h = all_apart xs (part close_paren ∷ rest) in let h0 = all_apart xs (part close_paren ∷ []) in
        let g = apart f (sign signs.LeftParen p ∷ spell_all xs (part close_paren ∷ rest)) in let g0 = apart f (sign signs.LeftParen p ∷ spell_all xs (part close_paren ∷ [])) in omega (arith, h, h0, g, g0)
    apart (tree.Member a p o n) rest = let h = apart a (sign (member_sign o) p ∷ name n ∷ rest) in let h0 = apart a (sign (member_sign o) p ∷ name n ∷ []) in omega (arith, h, h0)
    apart (tree.Postfix a p o) rest = let h = apart a (sign (postfix_sign o) p ∷ rest) in let h0 = apart a (sign (postfix_sign o) p ∷ []) in omega (arith, h, h0)
    apart (tree.Prefix p o a) rest = let h = apart a rest in let h0 = apart a [] in omega (arith, h, h0)
    apart (tree.SizeofExpression p a) rest = let h = apart a rest in let h0 = apart a [] in omega (arith, h, h0)
    apart (tree.SizeofType p q ws d) rest =
        let h = declarator_apart d (part close_paren ∷ rest) in let h0 = declarator_apart d (part close_paren ∷ []) in
        let g = specifiers_apart ws (spell_declarator d (part close_paren ∷ rest)) in let g0 = specifiers_apart ws (spell_declarator d (part close_paren ∷ [])) in omega (arith, h, h0, g, g0)
    apart (tree.Cast p ws d a) rest =
        let f = apart a rest in let f0 = apart a [] in
        let h = declarator_apart d (part close_paren ∷ spell a rest) in let h0 = declarator_apart d (part close_paren ∷ spell a []) in
        let g = specifiers_apart ws (spell_declarator d (part close_paren ∷ spell a rest)) in let g0 = specifiers_apart ws (spell_declarator d (part close_paren ∷ spell a [])) in omega (arith, f, f0, h, h0, g, g0)
    apart (tree.Binary a p o b) rest =
        let h = apart b rest in let h0 = apart b [] in
        let g = apart a (sign (binary_sign o) p ∷ spell b rest) in let g0 = apart a (sign (binary_sign o) p ∷ spell b []) in omega (arith, h, h0, g, g0)
    apart (tree.Conditional a p b c) rest =
        let h = apart c rest in let h0 = apart c [] in
        let g = apart b (part colon ∷ spell c rest) in let g0 = apart b (part colon ∷ spell c []) in
        let f = apart a (sign signs.Question p ∷ spell b (part colon ∷ spell c rest)) in let f0 = apart a (sign signs.Question p ∷ spell b (part colon ∷ spell c [])) in omega (arith, h, h0, g, g0, f, f0)
    apart (tree.Assignment a p o b) rest =
        let h = apart b rest in let h0 = apart b [] in
        let g = apart a (sign (assignment_sign o) p ∷ spell b rest) in let g0 = apart a (sign (assignment_sign o) p ∷ spell b []) in omega (arith, h, h0, g, g0)
    apart (tree.Comma a b) rest =
        let h = apart b rest in let h0 = apart b [] in
        let g = apart a (part comma ∷ spell b rest) in let g0 = apart a (part comma ∷ spell b []) in omega (arith, h, h0, g, g0)

    all_apart : (xs : Expressions) → Apart (spell_all xs)
    all_apart tree.no_expressions rest = omega arith
    all_apart (tree.expression_then a xs) rest =
        let h = more_apart xs rest in let h0 = more_apart xs [] in
        let g = apart a (spell_more xs rest) in let g0 = apart a (spell_more xs []) in omega (arith, h, h0, g, g0)

    more_apart : (xs : Expressions) → Apart (spell_more xs)
    more_apart tree.no_expressions rest = omega arith
    more_apart (tree.expression_then a xs) rest =
        let h = more_apart xs rest in let h0 = more_apart xs [] in
        let g = apart a (spell_more xs rest) in let g0 = apart a (spell_more xs []) in omega (arith, h, h0, g, g0)

    specifiers_apart : (ws : Specifiers) → Apart (spell_specifiers ws)
    specifiers_apart tree.no_specifiers rest = omega arith
    specifiers_apart (tree.specifier_then w ws) rest =
        let h = specifiers_apart ws rest in let h0 = specifiers_apart ws [] in
        let g = specifier_apart w (spell_specifiers ws rest) in let g0 = specifier_apart w (spell_specifiers ws []) in omega (arith, h, h0, g, g0)

    specifier_apart : (w : Specifier) → Apart (spell_specifier w)
    specifier_apart (tree.Word p k) rest = omega arith
    specifier_apart (tree.TypeName n) rest = omega arith
    specifier_apart (tree.Structure p n) rest = omega arith
    specifier_apart (tree.StructureBody p n q ms) rest =
        let h = members_apart ms (part close_brace ∷ rest) in let h0 = members_apart ms (part close_brace ∷ []) in
        let g = tag_apart n (sign signs.LeftBrace q ∷ spell_members ms (part close_brace ∷ rest)) in let g0 = tag_apart n (sign signs.LeftBrace q ∷ spell_members ms (part close_brace ∷ [])) in omega (arith, h, h0, g, g0)
    specifier_apart (tree.Enumeration p n) rest = omega arith
    specifier_apart (tree.EnumerationBody p n q es c) rest =
        let f = comma_apart c (part close_brace ∷ rest) in let f0 = comma_apart c (part close_brace ∷ []) in
        let h = enumerators_apart es (spell_comma c (part close_brace ∷ rest)) in let h0 = enumerators_apart es (spell_comma c (part close_brace ∷ [])) in
        let g = tag_apart n (sign signs.LeftBrace q ∷ spell_enumerators es (spell_comma c (part close_brace ∷ rest))) in let g0 = tag_apart n (sign signs.LeftBrace q ∷ spell_enumerators es (spell_comma c (part close_brace ∷ []))) in omega (arith, f, f0, h, h0, g, g0)

    members_apart : (ms : Members) → Apart (spell_members ms)
    members_apart tree.no_members rest = omega arith
    members_apart (tree.member_then ws ds p ms) rest =
        let f = members_apart ms rest in let f0 = members_apart ms [] in
        let h = declarators_apart ds (sign signs.Semicolon p ∷ spell_members ms rest) in let h0 = declarators_apart ds (sign signs.Semicolon p ∷ spell_members ms []) in
        let g = specifiers_apart ws (spell_declarators ds (sign signs.Semicolon p ∷ spell_members ms rest)) in let g0 = specifiers_apart ws (spell_declarators ds (sign signs.Semicolon p ∷ spell_members ms [])) in omega (arith, f, f0, h, h0, g, g0)

    enumerators_apart : (es : Enumerators) → Apart (spell_enumerators es)
    enumerators_apart tree.no_enumerators rest = omega arith
    enumerators_apart (tree.plain_then n es) rest = let h = more_enumerators_apart es rest in let h0 = more_enumerators_apart es [] in omega (arith, h, h0)
    enumerators_apart (tree.valued_then n p e es) rest =
        let h = more_enumerators_apart es rest in let h0 = more_enumerators_apart es [] in
        let g = apart e (spell_more_enumerators es rest) in let g0 = apart e (spell_more_enumerators es []) in omega (arith, h, h0, g, g0)

    more_enumerators_apart : (es : Enumerators) → Apart (spell_more_enumerators es)
    more_enumerators_apart tree.no_enumerators rest = omega arith
    more_enumerators_apart (tree.plain_then n es) rest = let h = more_enumerators_apart es rest in let h0 = more_enumerators_apart es [] in omega (arith, h, h0)
    more_enumerators_apart (tree.valued_then n p e es) rest =
        let h = more_enumerators_apart es rest in let h0 = more_enumerators_apart es [] in
        let g = apart e (spell_more_enumerators es rest) in let g0 = apart e (spell_more_enumerators es []) in omega (arith, h, h0, g, g0)

    declarators_apart : (ds : Declarators) → Apart (spell_declarators ds)
    declarators_apart tree.no_declarators rest = omega arith
    declarators_apart (tree.declarator_then d ds) rest =
        let h = more_declarators_apart ds rest in let h0 = more_declarators_apart ds [] in
        let g = declarator_apart d (spell_more_declarators ds rest) in let g0 = declarator_apart d (spell_more_declarators ds []) in omega (arith, h, h0, g, g0)

    more_declarators_apart : (ds : Declarators) → Apart (spell_more_declarators ds)
    more_declarators_apart tree.no_declarators rest = omega arith
    more_declarators_apart (tree.declarator_then d ds) rest =
        let h = more_declarators_apart ds rest in let h0 = more_declarators_apart ds [] in
        let g = declarator_apart d (spell_more_declarators ds rest) in let g0 = declarator_apart d (spell_more_declarators ds []) in omega (arith, h, h0, g, g0)

    declarator_apart : (d : Declarator) → Apart (spell_declarator d)
    declarator_apart tree.Absent rest = omega arith
    declarator_apart (tree.Named n) rest = omega arith
    declarator_apart (tree.Pointer p qs d) rest =
        let h = declarator_apart d rest in let h0 = declarator_apart d [] in
        let g = qualifiers_apart qs (spell_declarator d rest) in let g0 = qualifiers_apart qs (spell_declarator d []) in omega (arith, h, h0, g, g0)
    declarator_apart (tree.Grouped p d) rest = let h = declarator_apart d (part close_paren ∷ rest) in let h0 = declarator_apart d (part close_paren ∷ []) in omega (arith, h, h0)
    declarator_apart (tree.Unsized d p) rest = let h = declarator_apart d (sign signs.LeftBracket p ∷ part close_bracket ∷ rest) in let h0 = declarator_apart d (sign signs.LeftBracket p ∷ part close_bracket ∷ []) in omega (arith, h, h0)
    declarator_apart (tree.Sized d p e) rest =
        let h = apart e (part close_bracket ∷ rest) in let h0 = apart e (part close_bracket ∷ []) in
        let g = declarator_apart d (sign signs.LeftBracket p ∷ spell e (part close_bracket ∷ rest)) in let g0 = declarator_apart d (sign signs.LeftBracket p ∷ spell e (part close_bracket ∷ [])) in omega (arith, h, h0, g, g0)
    declarator_apart (tree.Empty d p) rest = let h = declarator_apart d (sign signs.LeftParen p ∷ part close_paren ∷ rest) in let h0 = declarator_apart d (sign signs.LeftParen p ∷ part close_paren ∷ []) in omega (arith, h, h0)
    declarator_apart (tree.Void d p q) rest = let h = declarator_apart d (sign signs.LeftParen p ∷ word keywords.Void q ∷ part close_paren ∷ rest) in let h0 = declarator_apart d (sign signs.LeftParen p ∷ word keywords.Void q ∷ part close_paren ∷ []) in omega (arith, h, h0)
    declarator_apart (tree.Function d p ps) rest =
        let h = parameters_apart ps (part close_paren ∷ rest) in let h0 = parameters_apart ps (part close_paren ∷ []) in
        let g = declarator_apart d (sign signs.LeftParen p ∷ spell_parameters ps (part close_paren ∷ rest)) in let g0 = declarator_apart d (sign signs.LeftParen p ∷ spell_parameters ps (part close_paren ∷ [])) in omega (arith, h, h0, g, g0)

    parameters_apart : (ps : Parameters) → Apart (spell_parameters ps)
    parameters_apart tree.no_parameters rest = omega arith
    parameters_apart (tree.parameter_then ws d ps) rest =
        let f = more_parameters_apart ps rest in let f0 = more_parameters_apart ps [] in
        let h = declarator_apart d (spell_more_parameters ps rest) in let h0 = declarator_apart d (spell_more_parameters ps []) in
        let g = specifiers_apart ws (spell_declarator d (spell_more_parameters ps rest)) in let g0 = specifiers_apart ws (spell_declarator d (spell_more_parameters ps [])) in omega (arith, f, f0, h, h0, g, g0)

    more_parameters_apart : (ps : Parameters) → Apart (spell_more_parameters ps)
    more_parameters_apart tree.no_parameters rest = omega arith
    more_parameters_apart (tree.parameter_then ws d ps) rest =
        let f = more_parameters_apart ps rest in let f0 = more_parameters_apart ps [] in
        let h = declarator_apart d (spell_more_parameters ps rest) in let h0 = declarator_apart d (spell_more_parameters ps []) in
        let g = specifiers_apart ws (spell_declarator d (spell_more_parameters ps rest)) in let g0 = specifiers_apart ws (spell_declarator d (spell_more_parameters ps [])) in omega (arith, f, f0, h, h0, g, g0)

  -- ---- initialisers, declarations and statements

  mutual
    initialiser_apart : (x : Initialiser) → Apart (spell_initialiser x)
    initialiser_apart (tree.Value e) rest = apart e rest
    initialiser_apart (tree.Listed p xs c) rest =
        let h = comma_apart c (part close_brace ∷ rest) in let h0 = comma_apart c (part close_brace ∷ []) in
        let g = initialisers_apart xs (spell_comma c (part close_brace ∷ rest)) in let g0 = initialisers_apart xs (spell_comma c (part close_brace ∷ [])) in omega (arith, h, h0, g, g0)

    initialisers_apart : (xs : Initialisers) → Apart (spell_initialisers xs)
    initialisers_apart tree.no_initialisers rest = omega arith
    initialisers_apart (tree.initialiser_then x xs) rest =
        let h = more_initialisers_apart xs rest in let h0 = more_initialisers_apart xs [] in
        let g = initialiser_apart x (spell_more_initialisers xs rest) in let g0 = initialiser_apart x (spell_more_initialisers xs []) in omega (arith, h, h0, g, g0)

    more_initialisers_apart : (xs : Initialisers) → Apart (spell_more_initialisers xs)
    more_initialisers_apart tree.no_initialisers rest = omega arith
    more_initialisers_apart (tree.initialiser_then x xs) rest =
        let h = more_initialisers_apart xs rest in let h0 = more_initialisers_apart xs [] in
        let g = initialiser_apart x (spell_more_initialisers xs rest) in let g0 = initialiser_apart x (spell_more_initialisers xs []) in omega (arith, h, h0, g, g0)

  value_apart : (x : Option (Place × Initialiser)) → Apart (spell_value x)
  value_apart None rest = omega arith
  value_apart (Some x) rest = let h = initialiser_apart x.1 rest in let h0 = initialiser_apart x.1 [] in omega (arith, h, h0)

  item_apart : (i : InitDeclarator) → Apart (spell_item i)
  item_apart i rest =
      let h = value_apart i.initialiser rest in let h0 = value_apart i.initialiser [] in
      let g = declarator_apart i.declarator (spell_value i.initialiser rest) in let g0 = declarator_apart i.declarator (spell_value i.initialiser []) in omega (arith, h, h0, g, g0)

  more_items_apart : (items : List InitDeclarator) → Apart (spell_more_items items)
  more_items_apart [] rest = omega arith
  more_items_apart (i ∷ items) rest =
      let h = more_items_apart items rest in let h0 = more_items_apart items [] in
      let g = item_apart i (spell_more_items items rest) in let g0 = item_apart i (spell_more_items items []) in omega (arith, h, h0, g, g0)

  -- with the semicolon at their end
  items_apart : (items : List InitDeclarator) → Apart (spell_items items)
  items_apart [] rest = omega arith
  items_apart (i ∷ items) rest =
      let h = more_items_apart items rest in let h0 = more_items_apart items [] in
      let g = item_apart i (spell_more_items items rest) in let g0 = item_apart i (spell_more_items items []) in omega (arith, h, h0, g, g0)

  declaration_apart : (d : Declaration) → Apart (spell_declaration d)
  declaration_apart d rest =
      let h = items_apart d.items (sign signs.Semicolon d.end ∷ rest) in let h0 = items_apart d.items (sign signs.Semicolon d.end ∷ []) in
      let g = specifiers_apart d.specifiers (spell_items d.items (sign signs.Semicolon d.end ∷ rest)) in let g0 = specifiers_apart d.specifiers (spell_items d.items (sign signs.Semicolon d.end ∷ [])) in omega (arith, h, h0, g, g0)

  declarations_apart : (ds : List Declaration) → Apart (spell_declarations ds)
  declarations_apart [] rest = omega arith
  declarations_apart (d ∷ ds) rest =
      let h = declarations_apart ds rest in let h0 = declarations_apart ds [] in
      let g = declaration_apart d (spell_declarations ds rest) in let g0 = declaration_apart d (spell_declarations ds []) in omega (arith, h, h0, g, g0)

  optional_apart : (e : Option Expression) → Apart (spell_optional e)
  optional_apart None rest = omega arith
  optional_apart (Some e) rest = apart e rest

  test_apart : (p : Place) (e : Expression) → Apart (spell_test p e)
  test_apart p e rest = let h = apart e (part close_paren ∷ rest) in let h0 = apart e (part close_paren ∷ []) in omega (arith, h, h0)

  mutual
    statement_apart : (s : Statement) → Apart (spell_statement s)
    statement_apart (tree.Block p ds ss) rest =
        let h = statements_apart ss (part close_brace ∷ rest) in let h0 = statements_apart ss (part close_brace ∷ []) in
        let g = declarations_apart ds (spell_statements ss (part close_brace ∷ rest)) in let g0 = declarations_apart ds (spell_statements ss (part close_brace ∷ [])) in omega (arith, h, h0, g, g0)
    statement_apart (tree.Nothing p) rest = omega arith
    statement_apart (tree.Evaluate e p) rest = let h = apart e (sign signs.Semicolon p ∷ rest) in let h0 = apart e (sign signs.Semicolon p ∷ []) in omega (arith, h, h0)
    statement_apart (tree.If p q e s) rest =
        let h = statement_apart s rest in let h0 = statement_apart s [] in
        let g = test_apart q e (spell_statement s rest) in let g0 = test_apart q e (spell_statement s []) in omega (arith, h, h0, g, g0)
    statement_apart (tree.IfElse p q e s u) rest =
        let f = statement_apart u rest in let f0 = statement_apart u [] in
        let h = statement_apart s (part else_word ∷ spell_statement u rest) in let h0 = statement_apart s (part else_word ∷ spell_statement u []) in
        let g = test_apart q e (spell_statement s (part else_word ∷ spell_statement u rest)) in let g0 = test_apart q e (spell_statement s (part else_word ∷ spell_statement u [])) in omega (arith, f, f0, h, h0, g, g0)
    statement_apart (tree.While p q e s) rest =
        let h = statement_apart s rest in let h0 = statement_apart s [] in
        let g = test_apart q e (spell_statement s rest) in let g0 = test_apart q e (spell_statement s []) in omega (arith, h, h0, g, g0)
    statement_apart (tree.Do p s q r e u) rest =
        let h = test_apart r e (sign signs.Semicolon u ∷ rest) in let h0 = test_apart r e (sign signs.Semicolon u ∷ []) in
        let g = statement_apart s (word keywords.While q ∷ spell_test r e (sign signs.Semicolon u ∷ rest)) in let g0 = statement_apart s (word keywords.While q ∷ spell_test r e (sign signs.Semicolon u ∷ [])) in omega (arith, h, h0, g, g0)
    statement_apart (tree.For p q a r b u c s) rest =
        let h = statement_apart s rest in let h0 = statement_apart s [] in
        let g = optional_apart c (part close_paren ∷ spell_statement s rest) in let g0 = optional_apart c (part close_paren ∷ spell_statement s []) in
        let f = optional_apart b (sign signs.Semicolon u ∷ spell_optional c (part close_paren ∷ spell_statement s rest)) in let f0 = optional_apart b (sign signs.Semicolon u ∷ spell_optional c (part close_paren ∷ spell_statement s [])) in
        let e = optional_apart a (sign signs.Semicolon r ∷ spell_optional b (sign signs.Semicolon u ∷ spell_optional c (part close_paren ∷ spell_statement s rest))) in let e0 = optional_apart a (sign signs.Semicolon r ∷ spell_optional b (sign signs.Semicolon u ∷ spell_optional c (part close_paren ∷ spell_statement s []))) in
        omega (arith, h, h0, g, g0, f, f0, e, e0)
    statement_apart (tree.Break p q) rest = omega arith
    statement_apart (tree.Continue p q) rest = omega arith
    statement_apart (tree.Return p e q) rest = let h = optional_apart e (sign signs.Semicolon q ∷ rest) in let h0 = optional_apart e (sign signs.Semicolon q ∷ []) in omega (arith, h, h0)
    statement_apart (tree.Switch p q e s) rest =
        let h = statement_apart s rest in let h0 = statement_apart s [] in
        let g = test_apart q e (spell_statement s rest) in let g0 = test_apart q e (spell_statement s []) in omega (arith, h, h0, g, g0)
    statement_apart (tree.Case p e s) rest =
        let h = statement_apart s rest in let h0 = statement_apart s [] in
        let g = apart e (part colon ∷ spell_statement s rest) in let g0 = apart e (part colon ∷ spell_statement s []) in omega (arith, h, h0, g, g0)
    statement_apart (tree.Default p s) rest = let h = statement_apart s rest in let h0 = statement_apart s [] in omega (arith, h, h0)

    statements_apart : (ss : Statements) → Apart (spell_statements ss)
    statements_apart tree.no_statements rest = omega arith
    statements_apart (tree.statement_then s ss) rest =
        let h = statements_apart ss rest in let h0 = statements_apart ss [] in
        let g = statement_apart s (spell_statements ss rest) in let g0 = statement_apart s (spell_statements ss []) in omega (arith, h, h0, g, g0)

  external_apart : (x : External) → Apart (spell_external x)
  external_apart (tree.Declared d) rest = declaration_apart d rest
  external_apart (tree.Defined ws d p ds ss) rest =
      let f = statement_apart (tree.Block p ds ss) rest in let f0 = statement_apart (tree.Block p ds ss) [] in
      let h = declarator_apart d (spell_statement (tree.Block p ds ss) rest) in let h0 = declarator_apart d (spell_statement (tree.Block p ds ss) []) in
      let g = specifiers_apart ws (spell_declarator d (spell_statement (tree.Block p ds ss) rest)) in let g0 = specifiers_apart ws (spell_declarator d (spell_statement (tree.Block p ds ss) [])) in omega (arith, f, f0, h, h0, g, g0)

  paid_is : (ts : List TokenMark) → paid price ts ≡ 4 * length ts + priced price (literal_numbers ts)
  paid_is [] = refl
  paid_is (word k p ∷ ts) = let h = paid_is ts in omega (arith, h)
  paid_is (sign s p ∷ ts) = let h = paid_is ts in omega (arith, h)
  paid_is (name n ∷ ts) = let h = paid_is ts in omega (arith, h)
  paid_is (constant p c ∷ ts) = let h = paid_is ts in omega (arith, h)
  paid_is (literal p n ∷ ts) = let h = paid_is ts in omega (arith, h)
  paid_is (part x ∷ ts) = let h = paid_is ts in omega (arith, h)

  file_apart : (xs : List External) → paid price (spell_file xs []) ≡ pay_of_all price xs
  file_apart [] = refl
  file_apart (x ∷ xs) =
      let h = external_apart x (spell_file xs []) in
      let g = file_apart xs in
      let f = paid_is (spell_external x []) in omega (arith, h, g, f)

pub parts_pay : PartsPay
parts_pay price xs = let h = file_apart price xs in let g = paid_is price (spell_file xs []) in omega (arith, h, g)
