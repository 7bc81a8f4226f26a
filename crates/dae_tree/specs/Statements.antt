-- The grammar of initialisers, declarations, statements and files (C90 6.5.7, 6.6 and 6.7).
use Rattle.std.specs.Prelude.{◌≡◌, ◌≤◌, Bool, true, false, List, [], ◌∷◌, Option, Some, None}
use Rattle.dae_base.specs.declared.Place.{Place}
use Rattle.dae_tree.specs.declared.words.Keyword.TheVariants as keywords
use Rattle.dae_tree.specs.declared.signs.Sign.TheVariants as signs
use Rattle.dae_tree.specs.Marks.{TokenMark, word, sign, part, close_paren, close_brace, comma, colon, else_word}
use Rattle.dae_tree.specs.Words.{nothing_seen}
use Rattle.dae_tree.specs.Names.{Names, has_typedef, after, after_specifiers, after_declarator, with_declarator, after_initialiser, after_item, after_declaration, after_declarations, after_optional, after_statement, after_external, inside_definition}
use Rattle.dae_tree.specs.Spelling.{spell, spell_specifiers, spell_declarator, spell_comma}
use Rattle.dae_tree.specs.Grammar.{level, by_name, IsExpression, IsSpecifiers, IsDeclarator}
use Rattle.dae_tree.specs.Trees.{Expression, Initialiser, Initialisers, InitDeclarator, Declaration, Statement, Statements, External, Value, Listed, no_initialisers, initialiser_then, Block, Nothing, Evaluate, If, IfElse, While, Do, For, Break, Continue, Return, Switch, Case, Default, no_statements, statement_then, Declared, Defined}

-- ---- the tokens that a tree spells

abbrev mutual
  pub spell_initialiser : Initialiser → List TokenMark → List TokenMark
  spell_initialiser (Value e) rest = spell e rest
  spell_initialiser (Listed p xs c) rest = sign signs.LeftBrace p ∷ spell_initialisers xs (spell_comma c (part close_brace ∷ rest))

  pub spell_initialisers : Initialisers → List TokenMark → List TokenMark
  spell_initialisers no_initialisers rest = rest
  spell_initialisers (initialiser_then x xs) rest = spell_initialiser x (spell_more_initialisers xs rest)

  pub spell_more_initialisers : Initialisers → List TokenMark → List TokenMark
  spell_more_initialisers no_initialisers rest = rest
  spell_more_initialisers (initialiser_then x xs) rest = part comma ∷ spell_initialiser x (spell_more_initialisers xs rest)

abbrev pub spell_value : Option (Place × Initialiser) → List TokenMark → List TokenMark
spell_value None rest = rest
spell_value (Some x) rest = sign signs.Assign x.0 ∷ spell_initialiser x.1 rest

abbrev pub spell_item : InitDeclarator → List TokenMark → List TokenMark
spell_item i rest = spell_declarator i.declarator (spell_value i.initialiser rest)

abbrev pub spell_more_items : List InitDeclarator → List TokenMark → List TokenMark
spell_more_items [] rest = rest
spell_more_items (i ∷ items) rest = part comma ∷ spell_item i (spell_more_items items rest)

abbrev pub spell_items : List InitDeclarator → List TokenMark → List TokenMark
spell_items [] rest = rest
spell_items (i ∷ items) rest = spell_item i (spell_more_items items rest)

abbrev pub spell_declaration : Declaration → List TokenMark → List TokenMark
spell_declaration d rest = spell_specifiers d.specifiers (spell_items d.items (sign signs.Semicolon d.end ∷ rest))

abbrev pub spell_declarations : List Declaration → List TokenMark → List TokenMark
spell_declarations [] rest = rest
spell_declarations (d ∷ ds) rest = spell_declaration d (spell_declarations ds rest)

abbrev pub spell_optional : Option Expression → List TokenMark → List TokenMark
spell_optional None rest = rest
spell_optional (Some e) rest = spell e rest

-- an expression in parentheses
abbrev pub spell_test : Place → Expression → List TokenMark → List TokenMark
spell_test p e rest = sign signs.LeftParen p ∷ spell e (part close_paren ∷ rest)

abbrev mutual
  pub spell_statement : Statement → List TokenMark → List TokenMark
  spell_statement (Block p ds ss) rest = sign signs.LeftBrace p ∷ spell_declarations ds (spell_statements ss (part close_brace ∷ rest))
  spell_statement (Nothing p) rest = sign signs.Semicolon p ∷ rest
  spell_statement (Evaluate e p) rest = spell e (sign signs.Semicolon p ∷ rest)
  spell_statement (If p q e s) rest = word keywords.If p ∷ spell_test q e (spell_statement s rest)
  spell_statement (IfElse p q e s u) rest = word keywords.If p ∷ spell_test q e (spell_statement s (part else_word ∷ spell_statement u rest))
  spell_statement (While p q e s) rest = word keywords.While p ∷ spell_test q e (spell_statement s rest)
  spell_statement (Do p s q r e u) rest = word keywords.Do p ∷ spell_statement s (word keywords.While q ∷ spell_test r e (sign signs.Semicolon u ∷ rest))
  spell_statement (For p q a r b u c s) rest =
      word keywords.For p ∷ sign signs.LeftParen q ∷ spell_optional a
      (sign signs.Semicolon r ∷ spell_optional b (sign signs.Semicolon u ∷ spell_optional c (part close_paren ∷ spell_statement s rest)))
  spell_statement (Break p q) rest = word keywords.Break p ∷ sign signs.Semicolon q ∷ rest
  spell_statement (Continue p q) rest = word keywords.Continue p ∷ sign signs.Semicolon q ∷ rest
  spell_statement (Return p e q) rest = word keywords.Return p ∷ spell_optional e (sign signs.Semicolon q ∷ rest)
  spell_statement (Switch p q e s) rest = word keywords.Switch p ∷ spell_test q e (spell_statement s rest)
  spell_statement (Case p e s) rest = word keywords.Case p ∷ spell e (part colon ∷ spell_statement s rest)
  spell_statement (Default p s) rest = word keywords.Default p ∷ part colon ∷ spell_statement s rest

  pub spell_statements : Statements → List TokenMark → List TokenMark
  spell_statements no_statements rest = rest
  spell_statements (statement_then s ss) rest = spell_statement s (spell_statements ss rest)

abbrev pub spell_external : External → List TokenMark → List TokenMark
spell_external (Declared d) rest = spell_declaration d rest
spell_external (Defined ws d p ds ss) rest = spell_specifiers ws (spell_declarator d (spell_statement (Block p ds ss) rest))

abbrev pub spell_file : List External → List TokenMark → List TokenMark
spell_file [] rest = rest
spell_file (x ∷ xs) rest = spell_external x (spell_file xs rest)

-- ---- the trees of the grammar

abbrev pub HasInitialiser : Initialisers → Type 0
HasInitialiser no_initialisers = ⊥
HasInitialiser _ = Unit {0}

abbrev mutual
  pub IsInitialiser : Names → Initialiser → Type 0
  IsInitialiser names (Value e) = (level e ≤ 15) × IsExpression names e
  IsInitialiser names (Listed p xs c) = HasInitialiser xs × AreInitialisers names xs

  pub AreInitialisers : Names → Initialisers → Type 0
  AreInitialisers names no_initialisers = Unit {0}
  AreInitialisers names (initialiser_then x xs) = IsInitialiser names x × AreInitialisers (after_initialiser x names) xs

abbrev pub IsValue : Names → Option (Place × Initialiser) → Type 0
IsValue names None = Unit {0}
IsValue names (Some x) = IsInitialiser names x.1

-- an item of a declaration with or without typedef; its name is in scope in its initialiser
abbrev pub IsItem : Bool → Names → InitDeclarator → Type 0
IsItem is names i =
    IsDeclarator by_name names i.declarator
    × IsValue (with_declarator is i.declarator (after_declarator i.declarator names)) i.initialiser

abbrev pub AreItems : Bool → Names → List InitDeclarator → Type 0
AreItems is names [] = Unit {0}
AreItems is names (i ∷ items) = IsItem is names i × AreItems is (after_item is i names) items

abbrev pub IsDeclaration : Names → Declaration → Type 0
IsDeclaration names d =
    IsSpecifiers nothing_seen names d.specifiers × AreItems (has_typedef d.specifiers) (after_specifiers d.specifiers names) d.items

abbrev pub AreDeclarations : Names → List Declaration → Type 0
AreDeclarations names [] = Unit {0}
AreDeclarations names (d ∷ ds) = IsDeclaration names d × AreDeclarations (after_declaration d names) ds

abbrev pub IsOptional : Names → Option Expression → Type 0
IsOptional names None = Unit {0}
IsOptional names (Some e) = IsExpression names e

-- whether an else that followed would belong to an if inside
abbrev pub takes_else : Statement → Bool
takes_else (Block p ds ss) = false
takes_else (Nothing p) = false
takes_else (Evaluate e p) = false
takes_else (If p q e s) = true
takes_else (IfElse p q e s u) = takes_else u
takes_else (While p q e s) = takes_else s
takes_else (Do p s q r e u) = false
takes_else (For p q a r b u c s) = takes_else s
takes_else (Break p q) = false
takes_else (Continue p q) = false
takes_else (Return p e q) = false
takes_else (Switch p q e s) = takes_else s
takes_else (Case p e s) = takes_else s
takes_else (Default p s) = takes_else s

abbrev mutual
  pub IsStatement : Names → Statement → Type 0
  IsStatement names (Block p ds ss) = AreDeclarations names ds × AreStatements (after_declarations ds names) ss
  IsStatement names (Nothing p) = Unit {0}
  IsStatement names (Evaluate e p) = IsExpression names e
  IsStatement names (If p q e s) = IsExpression names e × IsStatement (after e names) s
  IsStatement names (IfElse p q e s u) =
      IsExpression names e × IsStatement (after e names) s × (takes_else s ≡ false) × IsStatement (after_statement s (after e names)) u
  IsStatement names (While p q e s) = IsExpression names e × IsStatement (after e names) s
  IsStatement names (Do p s q r e u) = IsStatement names s × IsExpression (after_statement s names) e
  IsStatement names (For p q a r b u c s) =
      IsOptional names a × IsOptional (after_optional a names) b × IsOptional (after_optional b (after_optional a names)) c
      × IsStatement (after_optional c (after_optional b (after_optional a names))) s
  IsStatement names (Break p q) = Unit {0}
  IsStatement names (Continue p q) = Unit {0}
  IsStatement names (Return p e q) = IsOptional names e
  IsStatement names (Switch p q e s) = IsExpression names e × IsStatement (after e names) s
  IsStatement names (Case p e s) = (level e ≤ 14) × IsExpression names e × IsStatement (after e names) s
  IsStatement names (Default p s) = IsStatement names s

  pub AreStatements : Names → Statements → Type 0
  AreStatements names no_statements = Unit {0}
  AreStatements names (statement_then s ss) = IsStatement names s × AreStatements (after_statement s names) ss

abbrev pub IsExternal : Names → External → Type 0
IsExternal names (Declared d) = IsDeclaration names d
IsExternal names (Defined ws d p ds ss) =
    IsSpecifiers nothing_seen names ws × IsDeclarator by_name (after_specifiers ws names) d × IsStatement (inside_definition ws d names) (Block p ds ss)

abbrev pub AreExternals : Names → List External → Type 0
AreExternals names [] = Unit {0}
AreExternals names (x ∷ xs) = IsExternal names x × AreExternals (after_external x names) xs

-- A file's tree is of the grammar and spells the file's tokens.
abbrev pub IsTreeOf : List TokenMark → List External → Type 0
IsTreeOf tokens file = AreExternals [] file × (tokens ≡ spell_file file [])
