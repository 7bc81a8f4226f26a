-- Lists that were read, put the right way round: they are of the grammar, and leave the same names in scope.
use Rattle.std.proofs.Common.{◌≡◌, Bool, List, [], ◌∷◌, Option, Some, None, refl, ◌∙◌}
use Rattle.dae_base.specs.declared.Place.{Place}
use Rattle.dae_tree.specs.declared.expressions.Name.{Name}
use Rattle.dae_tree.specs.Words.{nothing_seen}
use Rattle.dae_tree.specs.Names.{Names, after_all, after_specifiers, after_members, after_enumerators, after_declarators, after_initialisers, after_items, after_declarations}
use Rattle.dae_tree.specs.Grammar.{AreArguments, IsSpecifiers, AreMembers, AreEnumerators, AreDeclarators, AreParameters, HasMember, HasEnumerator, HasDeclarator, HasParameter}
use Rattle.dae_tree.specs.Statements.{AreInitialisers, HasInitialiser, AreItems, AreDeclarations, AreStatements, AreExternals}
use Rattle.dae_tree.specs.Trees.{Expression, Expressions, Specifiers, Specifier, Members, Enumerators, Declarators, Declarator, Parameters, Initialiser, Initialisers, InitDeclarator, Declaration, Statement, Statements, External, expression_then, specifier_then, member_then, declarator_then, parameter_then, initialiser_then, statement_then}
use Rattle.dae_tree.specs.Lists.{MemberLine, EnumEntry, Parameter}
use Rattle.dae_parse_grammar.specs.Machine.{arguments_onto, specifiers_onto, members_onto, enumerators_onto, enumerator_before, declarators_onto, parameters_onto, initialisers_onto, statements_onto, onto}
use Rattle.dae_parse_grammar.specs.Standing.{now_arguments, now_specifiers, now_lines, now_entries, after_entry, now_declarators, now_parameters, now_initialisers, now_items, now_declarations, now_statements, now_externals, ArgumentsHold, seen_now, SpecifiersHold, LinesHold, EntryValueHolds, EntriesHold, DeclaratorsHold, ParametersHold, InitialisersHold, ItemsHold, DeclarationsHold, StatementsHold, ExternalsHold}

pub arguments_hold : (n : Names) (before : List Expression) (xs : Expressions) → ArgumentsHold n before → AreArguments (now_arguments before n) xs → AreArguments n (arguments_onto before xs)
arguments_hold n [] xs h i = i
arguments_hold n (a ∷ before) xs h i = arguments_hold n before (expression_then a xs) h.0 (h.1, h.2, i)

pub arguments_now : (n : Names) (before : List Expression) (xs : Expressions) → after_all xs (now_arguments before n) ≡ after_all (arguments_onto before xs) n
arguments_now n [] xs = refl
arguments_now n (a ∷ before) xs = arguments_now n before (expression_then a xs)

pub specifiers_hold : (n : Names) (before : List Specifier) (ws : Specifiers) → SpecifiersHold n before → IsSpecifiers (seen_now before) (now_specifiers before n) ws → IsSpecifiers nothing_seen n (specifiers_onto before ws)
specifiers_hold n [] ws h i = i
specifiers_hold n (w ∷ before) ws h i = specifiers_hold n before (specifier_then w ws) h.0 (h.1, i)

pub specifiers_now : (n : Names) (before : List Specifier) (ws : Specifiers) → after_specifiers ws (now_specifiers before n) ≡ after_specifiers (specifiers_onto before ws) n
specifiers_now n [] ws = refl
specifiers_now n (w ∷ before) ws = specifiers_now n before (specifier_then w ws)

pub members_hold : (n : Names) (before : List MemberLine) (ms : Members) → LinesHold n before → AreMembers (now_lines before n) ms → AreMembers n (members_onto before ms)
members_hold n [] ms h i = i
members_hold n (m ∷ before) ms h i = members_hold n before (member_then m.specifiers m.declarators m.end ms) h.0 (h.1, h.2, h.3, i)

pub members_now : (n : Names) (before : List MemberLine) (ms : Members) → after_members ms (now_lines before n) ≡ after_members (members_onto before ms) n
members_now n [] ms = refl
members_now n (m ∷ before) ms = members_now n before (member_then m.specifiers m.declarators m.end ms)

pub members_some : (before : List MemberLine) (ms : Members) → HasMember ms → HasMember (members_onto before ms)
members_some [] ms h = h
members_some (m ∷ before) ms h = members_some before (member_then m.specifiers m.declarators m.end ms) tt

entry_holds : (n : Names) (e : EnumEntry) (es : Enumerators) → EntryValueHolds n e.value → AreEnumerators (after_entry e n) es → AreEnumerators n (enumerator_before e es)
entry_holds n e es = go e.name e.value
  where
    go : (x : Name) (v : Option (Place × Expression)) → EntryValueHolds n v → AreEnumerators (after_entry (record { name = x; value = v }) n) es → AreEnumerators n (enumerator_before (record { name = x; value = v }) es)
    go x None h i = i
    go x (Some v) h i = (h.0, h.1, i)

entry_now : (n : Names) (e : EnumEntry) (es : Enumerators) → after_enumerators es (after_entry e n) ≡ after_enumerators (enumerator_before e es) n
entry_now n e es = go e.name e.value
  where
    go : (x : Name) (v : Option (Place × Expression)) → after_enumerators es (after_entry (record { name = x; value = v }) n) ≡ after_enumerators (enumerator_before (record { name = x; value = v }) es) n
    go x None = refl
    go x (Some v) = refl

entry_some : (e : EnumEntry) (es : Enumerators) → HasEnumerator (enumerator_before e es)
entry_some e es = go e.name e.value
  where
    go : (x : Name) (v : Option (Place × Expression)) → HasEnumerator (enumerator_before (record { name = x; value = v }) es)
    go x None = tt
    go x (Some v) = tt

pub enumerators_hold : (n : Names) (before : List EnumEntry) (es : Enumerators) → EntriesHold n before → AreEnumerators (now_entries before n) es → AreEnumerators n (enumerators_onto before es)
enumerators_hold n [] es h i = i
enumerators_hold n (e ∷ before) es h i = enumerators_hold n before (enumerator_before e es) h.0 (entry_holds (now_entries before n) e es h.1 i)

pub enumerators_now : (n : Names) (before : List EnumEntry) (es : Enumerators) → after_enumerators es (now_entries before n) ≡ after_enumerators (enumerators_onto before es) n
enumerators_now n [] es = refl
enumerators_now n (e ∷ before) es = entry_now (now_entries before n) e es ∙ enumerators_now n before (enumerator_before e es)

pub enumerators_some : (before : List EnumEntry) (e : EnumEntry) (es : Enumerators) → HasEnumerator (enumerators_onto before (enumerator_before e es))
enumerators_some [] e es = entry_some e es
enumerators_some (a ∷ before) e es = enumerators_some before a (enumerator_before e es)

pub declarators_hold : (n : Names) (before : List Declarator) (ds : Declarators) → DeclaratorsHold n before → AreDeclarators (now_declarators before n) ds → AreDeclarators n (declarators_onto before ds)
declarators_hold n [] ds h i = i
declarators_hold n (d ∷ before) ds h i = declarators_hold n before (declarator_then d ds) h.0 (h.1, i)

pub declarators_now : (n : Names) (before : List Declarator) (ds : Declarators) → after_declarators ds (now_declarators before n) ≡ after_declarators (declarators_onto before ds) n
declarators_now n [] ds = refl
declarators_now n (d ∷ before) ds = declarators_now n before (declarator_then d ds)

pub declarators_some : (before : List Declarator) (ds : Declarators) → HasDeclarator ds → HasDeclarator (declarators_onto before ds)
declarators_some [] ds h = h
declarators_some (d ∷ before) ds h = declarators_some before (declarator_then d ds) tt

pub parameters_hold : (n : Names) (before : List Parameter) (ps : Parameters) → ParametersHold n before → AreParameters (now_parameters before n) ps → AreParameters n (parameters_onto before ps)
parameters_hold n [] ps h i = i
parameters_hold n (p ∷ before) ps h i = parameters_hold n before (parameter_then p.specifiers p.declarator ps) h.0 (h.1, h.2, i)

pub parameters_some : (before : List Parameter) (ps : Parameters) → HasParameter ps → HasParameter (parameters_onto before ps)
parameters_some [] ps h = h
parameters_some (p ∷ before) ps h = parameters_some before (parameter_then p.specifiers p.declarator ps) tt

pub initialisers_hold : (n : Names) (before : List Initialiser) (xs : Initialisers) → InitialisersHold n before → AreInitialisers (now_initialisers before n) xs → AreInitialisers n (initialisers_onto before xs)
initialisers_hold n [] xs h i = i
initialisers_hold n (x ∷ before) xs h i = initialisers_hold n before (initialiser_then x xs) h.0 (h.1, i)

pub initialisers_now : (n : Names) (before : List Initialiser) (xs : Initialisers) → after_initialisers xs (now_initialisers before n) ≡ after_initialisers (initialisers_onto before xs) n
initialisers_now n [] xs = refl
initialisers_now n (x ∷ before) xs = initialisers_now n before (initialiser_then x xs)

pub initialisers_some : (before : List Initialiser) (xs : Initialisers) → HasInitialiser xs → HasInitialiser (initialisers_onto before xs)
initialisers_some [] xs h = h
initialisers_some (x ∷ before) xs h = initialisers_some before (initialiser_then x xs) tt

pub items_hold : (is : Bool) (n : Names) (before items : List InitDeclarator) → ItemsHold is n before → AreItems is (now_items is before n) items → AreItems is n (onto before items)
items_hold is n [] items h i = i
items_hold is n (x ∷ before) items h i = items_hold is n before (x ∷ items) h.0 (h.1, i)

pub items_now : (is : Bool) (n : Names) (before items : List InitDeclarator) → after_items is items (now_items is before n) ≡ after_items is (onto before items) n
items_now is n [] items = refl
items_now is n (x ∷ before) items = items_now is n before (x ∷ items)

pub declarations_hold : (n : Names) (before ds : List Declaration) → DeclarationsHold n before → AreDeclarations (now_declarations before n) ds → AreDeclarations n (onto before ds)
declarations_hold n [] ds h i = i
declarations_hold n (x ∷ before) ds h i = declarations_hold n before (x ∷ ds) h.0 (h.1, i)

pub declarations_now : (n : Names) (before ds : List Declaration) → after_declarations ds (now_declarations before n) ≡ after_declarations (onto before ds) n
declarations_now n [] ds = refl
declarations_now n (x ∷ before) ds = declarations_now n before (x ∷ ds)

pub statements_hold : (n : Names) (before : List Statement) (ss : Statements) → StatementsHold n before → AreStatements (now_statements before n) ss → AreStatements n (statements_onto before ss)
statements_hold n [] ss h i = i
statements_hold n (b ∷ before) ss h i = statements_hold n before (statement_then b ss) h.0 (h.1, i)

pub externals_hold : (n : Names) (before xs : List External) → ExternalsHold n before → AreExternals (now_externals before n) xs → AreExternals n (onto before xs)
externals_hold n [] xs h i = i
externals_hold n (x ∷ before) xs h i = externals_hold n before (x ∷ xs) h.0 (h.1, i)
