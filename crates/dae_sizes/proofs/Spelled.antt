-- The tokens that a tree spells pay for the tree, before the tokens that follow.
use Rattle.std.proofs.Common.{◌≡◌, ℕ, ◌+◌, ◌*◌, ◌≤◌, Bool, true, false, List, [], ◌∷◌, length, Option, Some, None, refl, arith}
use Rattle.dae_base.specs.declared.Place.{Place}
use Rattle.dae_tree.specs.declared.words.Keyword.TheVariants as keywords
use Rattle.dae_tree.specs.declared.signs.Sign.TheVariants as signs
use Rattle.dae_tree.specs.declared.expressions.Name.{Name}
use Rattle.dae_tree.specs.Marks.{TokenMark, word, sign, name, constant, literal, part, close_paren, close_bracket, close_brace, comma, colon, else_word, literal_numbers}
use Rattle.dae_tree.specs.Operators.{binary_sign, assignment_sign, postfix_sign, member_sign}
use Rattle.dae_tree.specs.Spelling.{spell, spell_all, spell_more, spell_specifiers, spell_specifier, spell_members, spell_enumerators, spell_more_enumerators, spell_declarators, spell_more_declarators, spell_declarator, spell_parameters, spell_more_parameters, spell_tag, spell_qualifiers, spell_comma}
use Rattle.dae_tree.specs.Statements.{spell_initialiser, spell_initialisers, spell_more_initialisers, spell_value, spell_item, spell_items, spell_more_items, spell_declaration, spell_declarations, spell_optional, spell_test, spell_statement, spell_statements, spell_external}
use Rattle.dae_tree.specs.Names.{Names, after_specifiers}
use Rattle.dae_tree.specs.Words.{nothing_seen}
use Rattle.dae_tree.specs.Grammar.{by_name, IsSpecifiers, IsDeclarator}
use Rattle.dae_tree.specs.Statements.{IsExternal}
use Rattle.dae_tree.specs.Trees as tree
use Rattle.dae_tree.specs.Trees.{Expression, Expressions, Specifiers, Specifier, Members, Enumerators, Declarators, Declarator, Parameters, Initialiser, Initialisers, InitDeclarator, Declaration, Statement, Statements, External}
use Rattle.dae_sizes.specs.Worth.{worth, worth_of_all, worth_of_more, worth_of_initialiser, worth_of_initialisers, worth_of_value, worth_of_items, worth_of_declarations, worth_of_optional, worth_of_statement, worth_of_statements, worth_of_external, declares, declares_in_all, declares_in_specifiers, declares_in_specifier, declares_in_members, declares_in_enumerators, declares_in_declarators, declares_in, declares_in_parameters, declares_in_initialiser, declares_in_initialisers, declares_in_value, declares_in_items, declares_in_declarations, declares_in_optional, declares_in_statement, declares_in_statements, declares_in_external, priced, TokensPay, IsDefinition, DefinitionsAreLong}

module _ (price : ℕ → ℕ) where
  -- what tokens pay
  abbrev pub paid : List TokenMark → ℕ
  paid [] = 0
  paid (word k p ∷ ts) = 4 + paid ts
  paid (sign s p ∷ ts) = 4 + paid ts
  paid (name n ∷ ts) = 4 + paid ts
  paid (constant p c ∷ ts) = 4 + paid ts
  paid (literal p n ∷ ts) = 4 + (price n + paid ts)
  paid (part x ∷ ts) = 4 + paid ts

  -- what is spelled pays for so much
  abbrev Pays : (List TokenMark → List TokenMark) → ℕ → Type 0
  Pays f n = (rest : List TokenMark) → n + paid rest ≤ paid (f rest)

  tag_pays : (n : Option Name) → Pays (spell_tag n) 0
  tag_pays None rest = omega arith
  tag_pays (Some n) rest = omega arith

  qualifiers_pay : (ps : List Place) → Pays (spell_qualifiers ps) 0
  qualifiers_pay [] rest = omega arith
  qualifiers_pay (p ∷ ps) rest = let h = qualifiers_pay ps rest in omega (arith, h)

  comma_pays : (c : Bool) → Pays (spell_comma c) 0
  comma_pays true rest = omega arith
  comma_pays false rest = omega arith

  mutual
    pays : (e : Expression) → Pays (spell e) (worth price e + 4 * declares e)
    pays (tree.Identifier n) rest = omega arith
    pays (tree.Number p c) rest = omega arith
    pays (tree.Literal p n) rest = omega arith
    pays (tree.Parenthesised p a) rest = let h = pays a (part close_paren ∷ rest) in omega (arith, h)
    pays (tree.Index a p b) rest =
        let h = pays b (part close_bracket ∷ rest) in
        let g = pays a (sign signs.LeftBracket p ∷ spell b (part close_bracket ∷ rest)) in omega (arith, h, g)
    pays (tree.Call f p xs) rest =
        let h = all_pay xs (part close_paren ∷ rest) in
        let g = pays f (sign signs.LeftParen p ∷ spell_all xs (part close_paren ∷ rest)) in omega (arith, h, g)
    pays (tree.Member a p o n) rest = let h = pays a (sign (member_sign o) p ∷ name n ∷ rest) in omega (arith, h)
    pays (tree.Postfix a p o) rest = let h = pays a (sign (postfix_sign o) p ∷ rest) in omega (arith, h)
    pays (tree.Prefix p o a) rest = let h = pays a rest in omega (arith, h)
    pays (tree.SizeofExpression p a) rest = let h = pays a rest in omega (arith, h)
    pays (tree.SizeofType p q ws d) rest =
        let h = declarator_pays d (part close_paren ∷ rest) in
        let g = specifiers_pay ws (spell_declarator d (part close_paren ∷ rest)) in omega (arith, h, g)
    pays (tree.Cast p ws d a) rest =
        let f = pays a rest in
        let h = declarator_pays d (part close_paren ∷ spell a rest) in
        let g = specifiers_pay ws (spell_declarator d (part close_paren ∷ spell a rest)) in omega (arith, f, h, g)
    pays (tree.Binary a p o b) rest =
        let h = pays b rest in
        let g = pays a (sign (binary_sign o) p ∷ spell b rest) in omega (arith, h, g)
    pays (tree.Conditional a p b c) rest =
        let h = pays c rest in
        let g = pays b (part colon ∷ spell c rest) in
        let f = pays a (sign signs.Question p ∷ spell b (part colon ∷ spell c rest)) in omega (arith, h, g, f)
    pays (tree.Assignment a p o b) rest =
        let h = pays b rest in
        let g = pays a (sign (assignment_sign o) p ∷ spell b rest) in omega (arith, h, g)
    pays (tree.Comma a b) rest =
        let h = pays b rest in
        let g = pays a (part comma ∷ spell b rest) in omega (arith, h, g)

    all_pay : (xs : Expressions) → Pays (spell_all xs) (worth_of_all price xs + 4 * declares_in_all xs)
    all_pay tree.no_expressions rest = omega arith
    all_pay (tree.expression_then a xs) rest =
        let h = more_pay xs rest in
        let g = pays a (spell_more xs rest) in omega (arith, h, g)

    more_pay : (xs : Expressions) → Pays (spell_more xs) (worth_of_more price xs + 4 * declares_in_all xs)
    more_pay tree.no_expressions rest = omega arith
    more_pay (tree.expression_then a xs) rest =
        let h = more_pay xs rest in
        let g = pays a (spell_more xs rest) in omega (arith, h, g)

    specifiers_pay : (ws : Specifiers) → Pays (spell_specifiers ws) (4 * declares_in_specifiers ws)
    specifiers_pay tree.no_specifiers rest = omega arith
    specifiers_pay (tree.specifier_then w ws) rest =
        let h = specifiers_pay ws rest in
        let g = specifier_pays w (spell_specifiers ws rest) in omega (arith, h, g)

    specifier_pays : (w : Specifier) → Pays (spell_specifier w) (4 * declares_in_specifier w)
    specifier_pays (tree.Word p k) rest = omega arith
    specifier_pays (tree.TypeName n) rest = omega arith
    specifier_pays (tree.Structure p n) rest = omega arith
    specifier_pays (tree.StructureBody p n q ms) rest =
        let h = members_pay ms (part close_brace ∷ rest) in
        let g = tag_pays n (sign signs.LeftBrace q ∷ spell_members ms (part close_brace ∷ rest)) in omega (arith, h, g)
    specifier_pays (tree.Enumeration p n) rest = omega arith
    specifier_pays (tree.EnumerationBody p n q es c) rest =
        let f = comma_pays c (part close_brace ∷ rest) in
        let h = enumerators_pay es (spell_comma c (part close_brace ∷ rest)) in
        let g = tag_pays n (sign signs.LeftBrace q ∷ spell_enumerators es (spell_comma c (part close_brace ∷ rest))) in omega (arith, f, h, g)

    members_pay : (ms : Members) → Pays (spell_members ms) (4 * declares_in_members ms)
    members_pay tree.no_members rest = omega arith
    members_pay (tree.member_then ws ds p ms) rest =
        let f = members_pay ms rest in
        let h = declarators_pay ds (sign signs.Semicolon p ∷ spell_members ms rest) in
        let g = specifiers_pay ws (spell_declarators ds (sign signs.Semicolon p ∷ spell_members ms rest)) in omega (arith, f, h, g)

    enumerators_pay : (es : Enumerators) → Pays (spell_enumerators es) (4 * declares_in_enumerators es)
    enumerators_pay tree.no_enumerators rest = omega arith
    enumerators_pay (tree.plain_then n es) rest = let h = more_enumerators_pay es rest in omega (arith, h)
    enumerators_pay (tree.valued_then n p e es) rest =
        let h = more_enumerators_pay es rest in
        let g = pays e (spell_more_enumerators es rest) in omega (arith, h, g)

    more_enumerators_pay : (es : Enumerators) → Pays (spell_more_enumerators es) (4 * declares_in_enumerators es)
    more_enumerators_pay tree.no_enumerators rest = omega arith
    more_enumerators_pay (tree.plain_then n es) rest = let h = more_enumerators_pay es rest in omega (arith, h)
    more_enumerators_pay (tree.valued_then n p e es) rest =
        let h = more_enumerators_pay es rest in
        let g = pays e (spell_more_enumerators es rest) in omega (arith, h, g)

    declarators_pay : (ds : Declarators) → Pays (spell_declarators ds) (4 * declares_in_declarators ds)
    declarators_pay tree.no_declarators rest = omega arith
    declarators_pay (tree.declarator_then d ds) rest =
        let h = more_declarators_pay ds rest in
        let g = declarator_pays d (spell_more_declarators ds rest) in omega (arith, h, g)

    more_declarators_pay : (ds : Declarators) → Pays (spell_more_declarators ds) (4 * declares_in_declarators ds)
    more_declarators_pay tree.no_declarators rest = omega arith
    more_declarators_pay (tree.declarator_then d ds) rest =
        let h = more_declarators_pay ds rest in
        let g = declarator_pays d (spell_more_declarators ds rest) in omega (arith, h, g)

    declarator_pays : (d : Declarator) → Pays (spell_declarator d) (4 * declares_in d)
    declarator_pays tree.Absent rest = omega arith
    declarator_pays (tree.Named n) rest = omega arith
    declarator_pays (tree.Pointer p qs d) rest =
        let h = declarator_pays d rest in
        let g = qualifiers_pay qs (spell_declarator d rest) in omega (arith, h, g)
    declarator_pays (tree.Grouped p d) rest = let h = declarator_pays d (part close_paren ∷ rest) in omega (arith, h)
    declarator_pays (tree.Unsized d p) rest = let h = declarator_pays d (sign signs.LeftBracket p ∷ part close_bracket ∷ rest) in omega (arith, h)
    declarator_pays (tree.Sized d p e) rest =
        let h = pays e (part close_bracket ∷ rest) in
        let g = declarator_pays d (sign signs.LeftBracket p ∷ spell e (part close_bracket ∷ rest)) in omega (arith, h, g)
    declarator_pays (tree.Empty d p) rest = let h = declarator_pays d (sign signs.LeftParen p ∷ part close_paren ∷ rest) in omega (arith, h)
    declarator_pays (tree.Void d p q) rest = let h = declarator_pays d (sign signs.LeftParen p ∷ word keywords.Void q ∷ part close_paren ∷ rest) in omega (arith, h)
    declarator_pays (tree.Function d p ps) rest =
        let h = parameters_pay ps (part close_paren ∷ rest) in
        let g = declarator_pays d (sign signs.LeftParen p ∷ spell_parameters ps (part close_paren ∷ rest)) in omega (arith, h, g)

    parameters_pay : (ps : Parameters) → Pays (spell_parameters ps) (4 * declares_in_parameters ps)
    parameters_pay tree.no_parameters rest = omega arith
    parameters_pay (tree.parameter_then ws d ps) rest =
        let f = more_parameters_pay ps rest in
        let h = declarator_pays d (spell_more_parameters ps rest) in
        let g = specifiers_pay ws (spell_declarator d (spell_more_parameters ps rest)) in omega (arith, f, h, g)

    more_parameters_pay : (ps : Parameters) → Pays (spell_more_parameters ps) (4 * declares_in_parameters ps)
    more_parameters_pay tree.no_parameters rest = omega arith
    more_parameters_pay (tree.parameter_then ws d ps) rest =
        let f = more_parameters_pay ps rest in
        let h = declarator_pays d (spell_more_parameters ps rest) in
        let g = specifiers_pay ws (spell_declarator d (spell_more_parameters ps rest)) in omega (arith, f, h, g)

  -- ---- initialisers, declarations and statements

  mutual
    initialiser_pays : (x : Initialiser) → Pays (spell_initialiser x) (worth_of_initialiser price x + 4 * declares_in_initialiser x)
    initialiser_pays (tree.Value e) rest = pays e rest
    initialiser_pays (tree.Listed p xs c) rest =
        let h = comma_pays c (part close_brace ∷ rest) in
        let g = initialisers_pay xs (spell_comma c (part close_brace ∷ rest)) in omega (arith, h, g)

    initialisers_pay : (xs : Initialisers) → Pays (spell_initialisers xs) (worth_of_initialisers price xs + 4 * declares_in_initialisers xs)
    initialisers_pay tree.no_initialisers rest = omega arith
    initialisers_pay (tree.initialiser_then x xs) rest =
        let h = more_initialisers_pay xs rest in
        let g = initialiser_pays x (spell_more_initialisers xs rest) in omega (arith, h, g)

    more_initialisers_pay : (xs : Initialisers) → Pays (spell_more_initialisers xs) (worth_of_initialisers price xs + 4 * declares_in_initialisers xs)
    more_initialisers_pay tree.no_initialisers rest = omega arith
    more_initialisers_pay (tree.initialiser_then x xs) rest =
        let h = more_initialisers_pay xs rest in
        let g = initialiser_pays x (spell_more_initialisers xs rest) in omega (arith, h, g)

  value_pays : (x : Option (Place × Initialiser)) → Pays (spell_value x) (worth_of_value price x + 4 * declares_in_value x)
  value_pays None rest = omega arith
  value_pays (Some x) rest = let h = initialiser_pays x.1 rest in omega (arith, h)

  item_pays : (i : InitDeclarator) → Pays (spell_item i) (worth_of_value price i.initialiser + 4 * (declares_in i.declarator + declares_in_value i.initialiser))
  item_pays i rest =
      let h = value_pays i.initialiser rest in
      let g = declarator_pays i.declarator (spell_value i.initialiser rest) in omega (arith, h, g)

  more_items_pay : (items : List InitDeclarator) → Pays (spell_more_items items) (worth_of_items price items + 4 * declares_in_items items)
  more_items_pay [] rest = omega arith
  more_items_pay (i ∷ items) rest =
      let h = more_items_pay items rest in
      let g = item_pays i (spell_more_items items rest) in omega (arith, h, g)

  -- with the semicolon at their end
  items_pay : (items : List InitDeclarator) (p : Place) (rest : List TokenMark) → worth_of_items price items + 4 * declares_in_items items + paid rest ≤ paid (spell_items items (sign signs.Semicolon p ∷ rest))
  items_pay [] p rest = omega arith
  items_pay (i ∷ items) p rest =
      let h = more_items_pay items (sign signs.Semicolon p ∷ rest) in
      let g = item_pays i (spell_more_items items (sign signs.Semicolon p ∷ rest)) in omega (arith, h, g)

  declaration_pays : (d : Declaration) → Pays (spell_declaration d) (worth_of_items price d.items + 4 * (declares_in_specifiers d.specifiers + declares_in_items d.items))
  declaration_pays d rest =
      let h = items_pay d.items d.end rest in
      let g = specifiers_pay d.specifiers (spell_items d.items (sign signs.Semicolon d.end ∷ rest)) in omega (arith, h, g)

  declarations_pay : (ds : List Declaration) → Pays (spell_declarations ds) (worth_of_declarations price ds + 4 * declares_in_declarations ds)
  declarations_pay [] rest = omega arith
  declarations_pay (d ∷ ds) rest =
      let h = declarations_pay ds rest in
      let g = declaration_pays d (spell_declarations ds rest) in omega (arith, h, g)

  optional_pays : (e : Option Expression) → Pays (spell_optional e) (worth_of_optional price e + 4 * declares_in_optional e)
  optional_pays None rest = omega arith
  optional_pays (Some e) rest = pays e rest

  test_pays : (p : Place) (e : Expression) → Pays (spell_test p e) (8 + (worth price e + 4 * declares e))
  test_pays p e rest = let h = pays e (part close_paren ∷ rest) in omega (arith, h)

  mutual
    statement_pays : (s : Statement) → Pays (spell_statement s) (worth_of_statement price s + 4 * declares_in_statement s)
    statement_pays (tree.Block p ds ss) rest =
        let h = statements_pay ss (part close_brace ∷ rest) in
        let g = declarations_pay ds (spell_statements ss (part close_brace ∷ rest)) in omega (arith, h, g)
    statement_pays (tree.Nothing p) rest = omega arith
    statement_pays (tree.Evaluate e p) rest = let h = pays e (sign signs.Semicolon p ∷ rest) in omega (arith, h)
    statement_pays (tree.If p q e s) rest =
        let h = statement_pays s rest in
        let g = test_pays q e (spell_statement s rest) in omega (arith, h, g)
    statement_pays (tree.IfElse p q e s u) rest =
        let f = statement_pays u rest in
        let h = statement_pays s (part else_word ∷ spell_statement u rest) in
        let g = test_pays q e (spell_statement s (part else_word ∷ spell_statement u rest)) in omega (arith, f, h, g)
    statement_pays (tree.While p q e s) rest =
        let h = statement_pays s rest in
        let g = test_pays q e (spell_statement s rest) in omega (arith, h, g)
    statement_pays (tree.Do p s q r e u) rest =
        let h = test_pays r e (sign signs.Semicolon u ∷ rest) in
        let g = statement_pays s (word keywords.While q ∷ spell_test r e (sign signs.Semicolon u ∷ rest)) in omega (arith, h, g)
    statement_pays (tree.For p q a r b u c s) rest =
        let h = statement_pays s rest in
        let g = optional_pays c (part close_paren ∷ spell_statement s rest) in
        let f = optional_pays b (sign signs.Semicolon u ∷ spell_optional c (part close_paren ∷ spell_statement s rest)) in
        let e = optional_pays a (sign signs.Semicolon r ∷ spell_optional b (sign signs.Semicolon u ∷ spell_optional c (part close_paren ∷ spell_statement s rest))) in
        omega (arith, h, g, f, e)
    statement_pays (tree.Break p q) rest = omega arith
    statement_pays (tree.Continue p q) rest = omega arith
    statement_pays (tree.Return p e q) rest = let h = optional_pays e (sign signs.Semicolon q ∷ rest) in omega (arith, h)
    statement_pays (tree.Switch p q e s) rest =
        let h = statement_pays s rest in
        let g = test_pays q e (spell_statement s rest) in omega (arith, h, g)
    statement_pays (tree.Case p e s) rest =
        let h = statement_pays s rest in
        let g = pays e (part colon ∷ spell_statement s rest) in omega (arith, h, g)
    statement_pays (tree.Default p s) rest = let h = statement_pays s rest in omega (arith, h)

    statements_pay : (ss : Statements) → Pays (spell_statements ss) (worth_of_statements price ss + 4 * declares_in_statements ss)
    statements_pay tree.no_statements rest = omega arith
    statements_pay (tree.statement_then s ss) rest =
        let h = statements_pay ss rest in
        let g = statement_pays s (spell_statements ss rest) in omega (arith, h, g)

  external_pays : (x : External) → Pays (spell_external x) (worth_of_external price x + 4 * declares_in_external x)
  external_pays (tree.Declared d) rest = declaration_pays d rest
  external_pays (tree.Defined ws d p ds ss) rest =
      let f = statement_pays (tree.Block p ds ss) rest in
      let h = declarator_pays d (spell_statement (tree.Block p ds ss) rest) in
      let g = specifiers_pay ws (spell_declarator d (spell_statement (tree.Block p ds ss) rest)) in omega (arith, f, h, g)

  -- ---- definitions

  specifier_long : (w : Specifier) → Pays (spell_specifier w) 4
  specifier_long (tree.Word p k) rest = omega arith
  specifier_long (tree.TypeName n) rest = omega arith
  specifier_long (tree.Structure p n) rest = omega arith
  specifier_long (tree.StructureBody p n q ms) rest =
      let h = members_pay ms (part close_brace ∷ rest) in
      let g = tag_pays n (sign signs.LeftBrace q ∷ spell_members ms (part close_brace ∷ rest)) in omega (arith, h, g)
  specifier_long (tree.Enumeration p n) rest = omega arith
  specifier_long (tree.EnumerationBody p n q es c) rest =
      let f = comma_pays c (part close_brace ∷ rest) in
      let h = enumerators_pay es (spell_comma c (part close_brace ∷ rest)) in
      let g = tag_pays n (sign signs.LeftBrace q ∷ spell_enumerators es (spell_comma c (part close_brace ∷ rest))) in omega (arith, f, h, g)

  specifiers_long : (names : Names) (ws : Specifiers) → IsSpecifiers nothing_seen names ws → Pays (spell_specifiers ws) 4
  specifiers_long names tree.no_specifiers is rest = absurd cc
  specifiers_long names (tree.specifier_then w ws) is rest =
      let h = specifiers_pay ws rest in
      let g = specifier_long w (spell_specifiers ws rest) in omega (arith, h, g)

  declarator_long : (names : Names) (d : Declarator) → IsDeclarator by_name names d → Pays (spell_declarator d) 4
  declarator_long names tree.Absent is rest = absurd is
  declarator_long names (tree.Named n) is rest = omega arith
  declarator_long names (tree.Pointer p qs d) is rest =
      let h = declarator_pays d rest in
      let g = qualifiers_pay qs (spell_declarator d rest) in omega (arith, h, g)
  declarator_long names (tree.Grouped p d) is rest = let h = declarator_pays d (part close_paren ∷ rest) in omega (arith, h)
  declarator_long names (tree.Unsized d p) is rest = let h = declarator_pays d (sign signs.LeftBracket p ∷ part close_bracket ∷ rest) in omega (arith, h)
  declarator_long names (tree.Sized d p e) is rest =
      let h = pays e (part close_bracket ∷ rest) in
      let g = declarator_pays d (sign signs.LeftBracket p ∷ spell e (part close_bracket ∷ rest)) in omega (arith, h, g)
  declarator_long names (tree.Empty d p) is rest = let h = declarator_pays d (sign signs.LeftParen p ∷ part close_paren ∷ rest) in omega (arith, h)
  declarator_long names (tree.Void d p q) is rest = let h = declarator_pays d (sign signs.LeftParen p ∷ word keywords.Void q ∷ part close_paren ∷ rest) in omega (arith, h)
  declarator_long names (tree.Function d p ps) is rest =
      let h = parameters_pay ps (part close_paren ∷ rest) in
      let g = declarator_pays d (sign signs.LeftParen p ∷ spell_parameters ps (part close_paren ∷ rest)) in omega (arith, h, g)

  definition_long : (names : Names) (x : External) → IsDefinition x → IsExternal names x → 16 ≤ paid (spell_external x [])
  definition_long names (tree.Declared d) is grammar = absurd is
  definition_long names (tree.Defined ws d p ds ss) is grammar =
      let f = statement_pays (tree.Block p ds ss) [] in
      let h = declarator_long (after_specifiers ws names) d grammar.1 (spell_statement (tree.Block p ds ss) []) in
      let g = specifiers_long names ws grammar.0 (spell_declarator d (spell_statement (tree.Block p ds ss) [])) in omega (arith, f, h, g)

  -- 4 for each token, and the prices of the literals
  paid_is : (ts : List TokenMark) → paid ts ≤ 4 * length ts + priced price (literal_numbers ts)
  paid_is [] = omega arith
  paid_is (word k p ∷ ts) = let h = paid_is ts in omega (arith, h)
  paid_is (sign s p ∷ ts) = let h = paid_is ts in omega (arith, h)
  paid_is (name n ∷ ts) = let h = paid_is ts in omega (arith, h)
  paid_is (constant p c ∷ ts) = let h = paid_is ts in omega (arith, h)
  paid_is (literal p n ∷ ts) = let h = paid_is ts in omega (arith, h)
  paid_is (part x ∷ ts) = let h = paid_is ts in omega (arith, h)

pub tokens_pay : TokensPay
tokens_pay price x = let h = external_pays price x [] in let g = paid_is price (spell_external x []) in omega (arith, h, g)

nothing_priced : (ns : List ℕ) → priced (λ n. 0) ns ≡ 0
nothing_priced [] = refl
nothing_priced (n ∷ ns) = let h = nothing_priced ns in omega (arith, h)

pub definitions_are_long : DefinitionsAreLong
definitions_are_long names x is grammar =
    let h = definition_long (λ n. 0) names x is grammar in
    let g = paid_is (λ n. 0) (spell_external x []) in
    let f = nothing_priced (literal_numbers (spell_external x [])) in omega (arith, h, g, f)
