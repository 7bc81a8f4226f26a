-- The machine reads each tree of the grammar: statements and files.
use Rattle.std.proofs.Common.{◌≡◌, true, false, List, [], ◌∷◌, ◌++◌, Option, Some, None, refl, sym, subst, ◌∙◌, arith, append-nil}
use Rattle.dae_base.specs.declared.Place.{Place}
use Rattle.dae_tree.specs.declared.words.Keyword.TheVariants as keywords
use Rattle.dae_tree.specs.declared.signs.Sign.TheVariants as signs
use Rattle.dae_tree.specs.Marks.{TokenMark, word, sign, part, close_paren, close_brace, colon, else_word}
use Rattle.dae_tree.specs.Words.{nothing_seen, begins_specifiers}
use Rattle.dae_tree.specs.Names.{Names, after, after_specifiers, after_parameter, after_declaration, after_declarations, after_optional, after_statement, after_external, inside_definition}
use Rattle.dae_tree.specs.Spelling.{spell, spell_specifiers, spell_declarator}
use Rattle.dae_tree.specs.Grammar.{by_name}
use Rattle.dae_tree.specs.Statements.{spell_declaration, spell_declarations, spell_optional, spell_statement, spell_statements, spell_external, spell_file, AreDeclarations, IsOptional, takes_else, IsStatement, AreStatements, IsExternal, AreExternals}
use Rattle.dae_tree.specs.Trees.{Expression, Declaration, Statement, Statements, External, Block, Nothing, Evaluate, If, IfElse, While, Do, For, Break, Continue, Return, Switch, Case, Default, no_statements, statement_then, Declared, Defined}
use Rattle.dae_parse_grammar.specs.Frames.{if_head, while_head, switch_head, do_head, Loop, Inside, Frame, in_evaluation, in_test, in_start, in_loop_test, in_step, in_return, in_case, for_declaration, of_item, in_file, in_block, then_branch, else_branch, while_body, switch_body, do_body, for_body, case_body, default_body, in_statements, in_definition, seek, specifying, gave_specifiers, externals, declarations, statements, stating, starting, testing, stepping, returning, gave_statement, ParserState, state, awaits_expression, awaits_specifiers, awaits_declarator, awaits_declaration, awaits_statement}
use Rattle.dae_parse_grammar.specs.Machine.{onto, statements_onto, block_followed, stated, started, loop_tested, stepped, returned, branched, loop_of, external_begun}
use Rattle.dae_parse_grammar.specs.Runs.{IsBackward}
use Rattle.dae_parse_grammar.specs.Starts.{Starts, IsNoElse}
use Rattle.dae_parse_grammar.specs.Reads.{IsNoPart}
use Rattle.dae_parse_grammar.proofs.Steps.{to, tail_most, stop}
use Rattle.dae_parse_grammar.proofs.Fronts.{starts, no_specifiers_first, specifiers_begin, front_present, named_present}
use Rattle.dae_parse_grammar.proofs.Declarators.{finish_declarator}
use Rattle.dae_parse_grammar.proofs.Complete.{read, read_specifiers, read_declarator}
use Rattle.dae_parse_grammar.proofs.Statements.{read_whole, read_declaration, starts_no_part, no_semicolon_present, begun_end}

-- ---- what stands first

pub statement_first : (b : Statement) (names : Names) → IsStatement names b → (rest : List TokenMark) → begins_specifiers names (spell_statement b rest) ≡ false
statement_first (Evaluate e p) names i rest = no_specifiers_first names (spell e _) (starts names e i _)
statement_first (Block p ds ss) names i rest = refl
statement_first _ names i rest = refl

statement_no_part : (b : Statement) (names : Names) → IsStatement names b → (rest : List TokenMark) → IsNoPart (spell_statement b rest)
statement_no_part (Evaluate e p) names i rest = starts_no_part names (spell e _) (starts names e i _)
statement_no_part (Block p ds ss) names i rest = tt
statement_no_part _ names i rest = tt

no_part_no_else : (ts : List TokenMark) → IsNoPart ts → IsNoElse ts
no_part_no_else [] h = tt
no_part_no_else (part c ∷ ts) h = absurd h
no_part_no_else (_ ∷ ts) h = tt

statements_first : (ss : Statements) (names : Names) → AreStatements names ss → (rest : List TokenMark) → begins_specifiers names (spell_statements ss (part close_brace ∷ rest)) ≡ false
statements_first no_statements names i rest = refl
statements_first (statement_then b ss) names i rest = statement_first b names i.0 _

statements_no_else : (ss : Statements) (names : Names) → AreStatements names ss → (rest : List TokenMark) → IsNoElse (spell_statements ss (part close_brace ∷ rest))
statements_no_else no_statements names i rest = tt
statements_no_else (statement_then b ss) names i rest = no_part_no_else _ (statement_no_part b names i.0 _)

block_next : (names : Names) (ts : List TokenMark) → IsNoPart ts → (i : Inside) (before : List Statement) (s : List Frame) → block_followed i before s names ts ≡ Some (state stating (awaits_statement (in_statements i before) ∷ s) names ts)
block_next names [] h i before s = refl
block_next names (part c ∷ ts) h i before s = absurd h
block_next names (_ ∷ ts) h i before s = refl

stated_first : (names : Names) (ts : List TokenMark) → Starts names ts → (s : List Frame) → stated s names ts ≡ Some (state (seek 16) (awaits_expression in_evaluation ∷ s) names ts)
stated_first names [] h s = absurd h
stated_first names (sign signs.LeftBrace p ∷ ts) h s = absurd h
stated_first names (sign signs.Semicolon p ∷ ts) h s = absurd h
stated_first names (sign _ p ∷ ts) h s = refl
stated_first names (word keywords.Sizeof p ∷ ts) h s = refl
stated_first names (word _ p ∷ ts) h s = absurd h
stated_first names (_ ∷ ts) h s = refl

started_first : (names : Names) (ts : List TokenMark) → Starts names ts → (p q : Place) (s : List Frame) → started p q s names ts ≡ Some (state (seek 16) (awaits_expression (in_start p q) ∷ s) names ts)
started_first names [] h p q s = absurd h
started_first names (sign signs.Semicolon r ∷ ts) h p q s = absurd h
started_first names (_ ∷ ts) h p q s = refl

tested_first : (names : Names) (ts : List TokenMark) → Starts names ts → (p q : Place) (a : Option Expression) (r : Place) (s : List Frame) → loop_tested p q a r s names ts ≡ Some (state (seek 16) (awaits_expression (in_loop_test p q a r) ∷ s) names ts)
tested_first names [] h p q a r s = absurd h
tested_first names (sign signs.Semicolon u ∷ ts) h p q a r s = absurd h
tested_first names (_ ∷ ts) h p q a r s = refl

stepped_first : (names : Names) (ts : List TokenMark) → Starts names ts → (loop : Loop) (s : List Frame) → stepped loop s names ts ≡ Some (state (seek 16) (awaits_expression (in_step loop) ∷ s) names ts)
stepped_first names [] h loop s = absurd h
stepped_first names (part c ∷ ts) h loop s = absurd h
stepped_first names (_ ∷ ts) h loop s = refl

returned_first : (names : Names) (ts : List TokenMark) → Starts names ts → (p : Place) (s : List Frame) → returned p s names ts ≡ Some (state (seek 16) (awaits_expression (in_return p) ∷ s) names ts)
returned_first names [] h p s = absurd h
returned_first names (sign signs.Semicolon q ∷ ts) h p s = absurd h
returned_first names (_ ∷ ts) h p s = refl

branched_end : (p q : Place) (e : Expression) (b : Statement) (s : List Frame) (names : Names) (ts : List TokenMark) → IsNoElse ts → branched p q e b s names ts ≡ Some (state (gave_statement (If p q e b)) s names ts)
branched_end p q e b s names [] h = refl
branched_end p q e b s names (part else_word ∷ ts) h = absurd h
branched_end p q e b s names (_ ∷ ts) h = refl

-- ---- expressions that may be left out

read_start : {P : ParserState → Type 0} → IsBackward P → (a : Option Expression) (names : Names) → IsOptional names a → (p q r : Place) (s : List Frame) (rest : List TokenMark)
    → P (state (testing p q a r) s (after_optional a names) rest) → P (state (starting p q) s names (spell_optional a (sign signs.Semicolon r ∷ rest)))
read_start back None names i p q r s rest k = back _ k
read_start back (Some e) names i p q r s rest k =
    to back _ _ (started_first names (spell e (sign signs.Semicolon r ∷ rest)) (starts names e i _) p q s)
    (read_whole back e names i (awaits_expression (in_start p q) ∷ s) (sign signs.Semicolon r ∷ rest) (omega arith) (back _ k))

read_loop_test : {P : ParserState → Type 0} → IsBackward P → (b : Option Expression) (names : Names) → IsOptional names b → (p q : Place) (a : Option Expression) (r u : Place) (s : List Frame) (rest : List TokenMark)
    → P (state (stepping (loop_of p q a r b u)) s (after_optional b names) rest) → P (state (testing p q a r) s names (spell_optional b (sign signs.Semicolon u ∷ rest)))
read_loop_test back None names i p q a r u s rest k = back _ k
read_loop_test back (Some e) names i p q a r u s rest k =
    to back _ _ (tested_first names (spell e (sign signs.Semicolon u ∷ rest)) (starts names e i _) p q a r s)
    (read_whole back e names i (awaits_expression (in_loop_test p q a r) ∷ s) (sign signs.Semicolon u ∷ rest) (omega arith) (back _ k))

read_step : {P : ParserState → Type 0} → IsBackward P → (c : Option Expression) (names : Names) → IsOptional names c → (loop : Loop) (s : List Frame) (rest : List TokenMark)
    → P (state stating (awaits_statement (for_body loop c) ∷ s) (after_optional c names) rest) → P (state (stepping loop) s names (spell_optional c (part close_paren ∷ rest)))
read_step back None names i loop s rest k = back _ k
read_step back (Some e) names i loop s rest k =
    to back _ _ (stepped_first names (spell e (part close_paren ∷ rest)) (starts names e i _) loop s)
    (read_whole back e names i (awaits_expression (in_step loop) ∷ s) (part close_paren ∷ rest) (omega arith) (back _ k))

read_returned : {P : ParserState → Type 0} → IsBackward P → (a : Option Expression) (names : Names) → IsOptional names a → (p q : Place) (s : List Frame) (rest : List TokenMark)
    → P (state (gave_statement (Return p a q)) s (after_optional a names) rest) → P (state (returning p) s names (spell_optional a (sign signs.Semicolon q ∷ rest)))
read_returned back None names i p q s rest k = back _ k
read_returned back (Some e) names i p q s rest k =
    to back _ _ (returned_first names (spell e (sign signs.Semicolon q ∷ rest)) (starts names e i _) p s)
    (read_whole back e names i (awaits_expression (in_return p) ∷ s) (sign signs.Semicolon q ∷ rest) (omega arith) (back _ k))

-- ---- declarations in a block

read_declarations : {P : ParserState → Type 0} → IsBackward P → (ds : List Declaration) (names : Names) → AreDeclarations names ds → (i : Inside) (s : List Frame) (rest : List TokenMark)
    → P (state (declarations (record i { declarations = onto ds i.declarations })) s (after_declarations ds names) rest)
    → P (state (declarations i) s names (spell_declarations ds rest))
read_declarations back [] names h i s rest k = k
read_declarations back (d ∷ ds) names h i s rest k =
    let ts = spell_declarations ds rest in
    to back (state (declarations i) s names (spell_declaration d ts)) (Some (state (specifying nothing_seen []) (awaits_specifiers (for_declaration false) ∷ awaits_declaration (in_block i) ∷ s) names (spell_declaration d ts)))
    (rw (specifiers_begin names d.specifiers h.0.0 _) refl)
    (read_declaration back d names h.0 false (awaits_declaration (in_block i) ∷ s) ts
    (back _ (read_declarations back ds (after_declaration d names) h.1 (record i { declarations = d ∷ i.declarations }) s rest k)))

twice : {A : Type 0} (xs ys zs : List A) → onto (onto xs ys) zs ≡ onto ys (xs ++ zs)
twice [] ys zs = refl
twice (x ∷ xs) ys zs = twice xs (x ∷ ys) zs

pub there_and_back : {A : Type 0} (xs : List A) → onto (onto xs []) [] ≡ xs
there_and_back xs = twice xs [] [] ∙ append-nil xs

abbrev inside : Place → List Declaration → Names → Inside
inside p ds names = record { place = p; declarations = onto ds []; outside = names }

-- a block up to its first statement
open_block : {P : ParserState → Type 0} → IsBackward P → (ds : List Declaration) (names : Names) → AreDeclarations names ds → (p : Place) (outside : Names) (s : List Frame) (rest : List TokenMark)
    → begins_specifiers (after_declarations ds names) rest ≡ false
    → P (state (statements (inside p ds outside) []) s (after_declarations ds names) rest)
    → P (state (declarations (inside p [] outside)) s names (spell_declarations ds rest))
open_block back ds names h p outside s rest b k =
    read_declarations back ds names h (inside p [] outside) s rest
    (to back (state (declarations (inside p ds outside)) s (after_declarations ds names) rest) (Some (state (statements (inside p ds outside) []) s (after_declarations ds names) rest)) (rw b refl) k)

abbrev pub after_file : List External → Names → Names
after_file [] names = names
after_file (x ∷ xs) names = after_file xs (after_external x names)

-- ---- statements

mutual
  pub read_statement : {P : ParserState → Type 0} → IsBackward P → (b : Statement) (names : Names) → IsStatement names b → (s : List Frame) (rest : List TokenMark)
      → (takes_else b ≡ true → IsNoElse rest) → P (state (gave_statement b) s (after_statement b names) rest) → P (state stating s names (spell_statement b rest))
  read_statement {P} back (Block p ds ss) names i s rest f k = back _ (open_block back ds names i.0 p names s (spell_statements ss (part close_brace ∷ rest)) (statements_first ss (after_declarations ds names) i.1 rest)
      (read_statements back ss (after_declarations ds names) i.1 (inside p ds names) [] s rest
      (subst (λ (xs : List Declaration). P (state (gave_statement (Block p xs ss)) s names rest)) (sym (there_and_back ds)) k)))
  read_statement back (Nothing p) names i s rest f k = back _ k
  read_statement back (Evaluate e p) names i s rest f k =
      to back _ _ (stated_first names (spell e (sign signs.Semicolon p ∷ rest)) (starts names e i _) s)
      (read_whole back e names i (awaits_expression in_evaluation ∷ s) (sign signs.Semicolon p ∷ rest) (omega arith) (back _ k))
  read_statement back (If p q e b) names i s rest f k =
      back _ (back _ (read_whole back e names i.0 (awaits_expression (in_test (if_head p) q) ∷ s) (part close_paren ∷ spell_statement b rest) (omega arith)
      (back _ (read_statement back b (after e names) i.1 (awaits_statement (then_branch p q e) ∷ s) rest (λ x. f refl)
      (to back (state (gave_statement b) (awaits_statement (then_branch p q e) ∷ s) (after_statement b (after e names)) rest) _ (branched_end p q e b s (after_statement b (after e names)) rest (f refl)) k)))))
  read_statement back (IfElse p q e b u) names i s rest f k =
      back _ (back _ (read_whole back e names i.0 (awaits_expression (in_test (if_head p) q) ∷ s) (part close_paren ∷ spell_statement b (part else_word ∷ spell_statement u rest)) (omega arith)
      (back _ (read_statement back b (after e names) i.1 (awaits_statement (then_branch p q e) ∷ s) (part else_word ∷ spell_statement u rest) (λ x. absurd (let y = i.2 in cc))
      (back _ (read_statement back u (after_statement b (after e names)) i.3 (awaits_statement (else_branch p q e b) ∷ s) rest f (back _ k)))))))
  read_statement back (While p q e b) names i s rest f k =
      back _ (back _ (read_whole back e names i.0 (awaits_expression (in_test (while_head p) q) ∷ s) (part close_paren ∷ spell_statement b rest) (omega arith)
      (back _ (read_statement back b (after e names) i.1 (awaits_statement (while_body p q e) ∷ s) rest f (back _ k)))))
  read_statement back (Do p b q r e u) names i s rest f k =
      let ts = word keywords.While q ∷ sign signs.LeftParen r ∷ spell e (part close_paren ∷ sign signs.Semicolon u ∷ rest) in
      back _ (read_statement back b names i.0 (awaits_statement (do_body p) ∷ s) ts (λ x. tt)
      (back _ (back _ (read_whole back e (after_statement b names) i.1 (awaits_expression (in_test (do_head p b q) r) ∷ s) (part close_paren ∷ sign signs.Semicolon u ∷ rest) (omega arith)
      (back _ (back _ k))))))
  read_statement back (For p q a r b u c body) names i s rest f k =
      let ts = part close_paren ∷ spell_statement body rest in
      back _ (back _ (read_start back a names i.0 p q r s (spell_optional b (sign signs.Semicolon u ∷ spell_optional c ts))
      (read_loop_test back b (after_optional a names) i.1 p q a r u s (spell_optional c ts)
      (read_step back c (after_optional b (after_optional a names)) i.2 (loop_of p q a r b u) s (spell_statement body rest)
      (read_statement back body (after_optional c (after_optional b (after_optional a names))) i.3 (awaits_statement (for_body (loop_of p q a r b u) c) ∷ s) rest f (back _ k))))))
  read_statement back (Break p q) names i s rest f k = back _ (back _ k)
  read_statement back (Continue p q) names i s rest f k = back _ (back _ k)
  read_statement back (Return p e q) names i s rest f k = back _ (read_returned back e names i p q s rest k)
  read_statement back (Switch p q e b) names i s rest f k =
      back _ (back _ (read_whole back e names i.0 (awaits_expression (in_test (switch_head p) q) ∷ s) (part close_paren ∷ spell_statement b rest) (omega arith)
      (back _ (read_statement back b (after e names) i.1 (awaits_statement (switch_body p q e) ∷ s) rest f (back _ k)))))
  read_statement back (Case p e b) names i s rest f k =
      back _ (read back e names i.1 14 i.0 (awaits_expression (in_case p) ∷ s) (part colon ∷ spell_statement b rest) (omega (arith, tail_most e))
      (stop back e 14 (awaits_expression (in_case p) ∷ s) (after e names) (part colon ∷ spell_statement b rest) (omega arith)
      (back _ (read_statement back b (after e names) i.2 (awaits_statement (case_body p e) ∷ s) rest f (back _ k)))))
  read_statement back (Default p b) names i s rest f k =
      back _ (back _ (read_statement back b names i (awaits_statement (default_body p) ∷ s) rest f (back _ k)))

  read_statements : {P : ParserState → Type 0} → IsBackward P → (ss : Statements) (names : Names) → AreStatements names ss → (i : Inside) (before : List Statement) (s : List Frame) (rest : List TokenMark)
      → P (state (gave_statement (Block i.place (onto i.declarations []) (statements_onto before ss))) s i.outside rest)
      → P (state (statements i before) s names (spell_statements ss (part close_brace ∷ rest)))
  read_statements back no_statements names h i before s rest k = back _ k
  read_statements back (statement_then b ss) names h i before s rest k =
      let ts = spell_statements ss (part close_brace ∷ rest) in
      to back _ _ (block_next names (spell_statement b ts) (statement_no_part b names h.0 ts) i before s)
      (read_statement back b names h.0 (awaits_statement (in_statements i before) ∷ s) ts (λ x. statements_no_else ss (after_statement b names) h.1 rest)
      (back _ (read_statements back ss (after_statement b names) h.1 i (b ∷ before) s rest k)))

-- ---- files

-- the body of a function
read_body : {P : ParserState → Type 0} → IsBackward P → (p : Place) (ds : List Declaration) (ss : Statements) (names : Names) → IsStatement names (Block p ds ss) → (outside : Names) (s : List Frame) (rest : List TokenMark)
    → P (state (gave_statement (Block p ds ss)) s outside rest)
    → P (state (declarations (inside p [] outside)) s names (spell_declarations ds (spell_statements ss (part close_brace ∷ rest))))
read_body {P} back p ds ss names i outside s rest k =
    open_block back ds names i.0 p outside s (spell_statements ss (part close_brace ∷ rest)) (statements_first ss (after_declarations ds names) i.1 rest)
    (read_statements back ss (after_declarations ds names) i.1 (inside p ds outside) [] s rest
    (subst (λ (xs : List Declaration). P (state (gave_statement (Block p xs ss)) s outside rest)) (sym (there_and_back ds)) k))

external_first : (before : List External) (s : List Frame) (names : Names) (ts : List TokenMark) → begins_specifiers names ts ≡ true
    → external_begun before s names ts ≡ Some (state (specifying nothing_seen []) (awaits_specifiers (for_declaration true) ∷ awaits_declaration (in_file before) ∷ s) names ts)
external_first before s names [] h = absurd cc
external_first before s names (t ∷ ts) h = refl

pub read_external : {P : ParserState → Type 0} → IsBackward P → (x : External) (names : Names) → IsExternal names x → (before : List External) (s : List Frame) (rest : List TokenMark)
    → P (state (externals (x ∷ before)) s (after_external x names) rest)
    → P (state (externals before) s names (spell_external x rest))
read_external back (Declared d) names i before s rest k =
    to back _ _ (external_first before s names (spell_declaration d rest) (specifiers_begin names d.specifiers i.0 _))
    (read_declaration back d names i true (awaits_declaration (in_file before) ∷ s) rest (back _ k))
read_external back (Defined ws d p ds ss) names i before s rest k =
    let body = sign signs.LeftBrace p ∷ spell_declarations ds (spell_statements ss (part close_brace ∷ rest)) in
    let inner = after_specifiers ws names in
    let present = named_present inner d i.1 in
    to back _ _ (external_first before s names (spell_specifiers ws (spell_declarator d body)) (specifiers_begin names ws i.0 _))
    (read_specifiers back ws names nothing_seen [] (awaits_specifiers (for_declaration true) ∷ awaits_declaration (in_file before) ∷ s) (spell_declarator d body) i.0 (front_present d body present)
    (to back (state (gave_specifiers ws) (awaits_specifiers (for_declaration true) ∷ awaits_declaration (in_file before) ∷ s) inner (spell_declarator d body)) _ (begun_end true ws (awaits_declaration (in_file before) ∷ s) inner (spell_declarator d body) (no_semicolon_present d body present))
    (finish_declarator back d (read_declarator back d) by_name inner i.1 false (λ e. absurd cc) (awaits_declarator (of_item true ws []) ∷ awaits_declaration (in_file before) ∷ s) body tt
    (back _ (read_body back p ds ss (inside_definition ws d names) i.2 (inside_definition ws d names) (awaits_statement (in_definition ws d (after_parameter ws d names)) ∷ awaits_declaration (in_file before) ∷ s) rest
    (back _ k))))))

pub read_file : {P : ParserState → Type 0} → IsBackward P → (xs : List External) (names : Names) → AreExternals names xs → (before : List External) (s : List Frame) (rest : List TokenMark)
    → P (state (externals (onto xs before)) s (after_file xs names) rest)
    → P (state (externals before) s names (spell_file xs rest))
read_file back [] names i before s rest k = k
read_file back (x ∷ xs) names i before s rest k =
    read_external back x names i.0 before s (spell_file xs rest) (read_file back xs (after_external x names) i.1 (x ∷ before) s rest k)
