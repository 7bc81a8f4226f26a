-- What holds of the states of the machine: what they have read is of the grammar, with the names in scope where it stands.
use Rattle.std.specs.Prelude.{◌≡◌, ℕ, ◌≤◌, Bool, true, false, List, [], ◌∷◌, Option, Some, None}
use Rattle.dae_base.specs.declared.Place.{Place}
use Rattle.dae_tree.specs.declared.signs.Sign.{Sign}
use Rattle.dae_tree.specs.declared.signs.Sign.TheVariants as signs
use Rattle.dae_tree.specs.Marks.{TokenMark, sign}
use Rattle.dae_tree.specs.Operators.{under, strength, operand_level}
use Rattle.dae_tree.specs.declared.seen.Seen.{Seen}
use Rattle.dae_tree.specs.Words.{nothing_seen, has_type, seen_after}
use Rattle.dae_tree.specs.Names.{Names, has_typedef, with_name, with_declarator, after, after_specifiers, after_specifier, after_declarators, after_declarator, after_parameter, after_initialiser, after_item, after_declaration, after_optional, after_statement, after_external, inside_definition}
use Rattle.dae_tree.specs.Grammar.{level, Manner, by_name, without_name, either_way, IsExpression, IsSpecifiers, IsSpecifier, AreDeclarators, IsDeclarator, IsDirect, IsPresent, IsGroup, HasDeclarator}
use Rattle.dae_tree.specs.Statements.{IsInitialiser, IsItem, IsDeclaration, IsOptional, IsStatement, IsExternal, takes_else}
use Rattle.dae_tree.specs.Trees.{Expression, Specifier, Declarator, Initialiser, InitDeclarator, Declaration, Statement, External, Absent}
use Rattle.dae_tree.specs.Lists.{MemberLine, EnumEntry, Parameter}
use Rattle.dae_parse_grammar.specs.Frames.{TypeBody, OpenParameters, StatementHead, Loop, Inside, do_head, Frame, in_parentheses, in_index, in_arguments, behind_prefix, behind_sizeof, behind_cast, behind_binary, behind_question, behind_colon, behind_assignment, behind_comma, in_size, in_enumerator, in_value, in_test, in_loop_test, in_step, in_case, for_cast, for_sizeof, for_parameter, for_member, behind_star, in_group, of_cast, of_sizeof, of_parameter, of_member, of_item, in_list, of_value, in_file, in_block, then_branch, else_branch, while_body, switch_body, for_body, case_body, in_statements, in_definition, Doing, seek, operated, gave, calling, measuring, specifying, tagging, tagged, membering, enumerating, enumerated, entered, entering, gave_specifiers, declaring, qualifying, suffixing, sizing, parametering, gave_declarator, listing, gave_initialiser, itemed, gave_declaration, externals, declarations, statements, opening, finishing, testing, stepping, gave_statement, ParserState, state, awaits_expression, awaits_specifiers, awaits_declarator, awaits_initialiser, awaits_declaration, awaits_statement}
use Rattle.dae_parse_grammar.specs.Machine.{begins_parameters}
use Rattle.dae_parse_grammar.specs.Starts.{IsNoElse}

-- ---- the names behind lists that were read, the last first

abbrev pub now_arguments : List Expression → Names → Names
now_arguments [] n = n
now_arguments (a ∷ before) n = after a (now_arguments before n)

abbrev pub now_specifiers : List Specifier → Names → Names
now_specifiers [] n = n
now_specifiers (w ∷ before) n = after_specifier w (now_specifiers before n)

abbrev pub now_lines : List MemberLine → Names → Names
now_lines [] n = n
now_lines (m ∷ before) n = after_declarators m.declarators (after_specifiers m.specifiers (now_lines before n))

abbrev pub after_entry_value : Option (Place × Expression) → Names → Names
after_entry_value None n = n
after_entry_value (Some v) n = after v.1 n

abbrev pub after_entry : EnumEntry → Names → Names
after_entry e n = with_name false e.name (after_entry_value e.value n)

abbrev pub now_entries : List EnumEntry → Names → Names
now_entries [] n = n
now_entries (e ∷ before) n = after_entry e (now_entries before n)

abbrev pub now_declarators : List Declarator → Names → Names
now_declarators [] n = n
now_declarators (d ∷ before) n = after_declarator d (now_declarators before n)

abbrev pub now_parameters : List Parameter → Names → Names
now_parameters [] n = n
now_parameters (p ∷ before) n = after_parameter p.specifiers p.declarator (now_parameters before n)

abbrev pub now_initialisers : List Initialiser → Names → Names
now_initialisers [] n = n
now_initialisers (x ∷ before) n = after_initialiser x (now_initialisers before n)

abbrev pub now_items : Bool → List InitDeclarator → Names → Names
now_items is [] n = n
now_items is (i ∷ before) n = after_item is i (now_items is before n)

abbrev pub now_declarations : List Declaration → Names → Names
now_declarations [] n = n
now_declarations (d ∷ before) n = after_declaration d (now_declarations before n)

abbrev pub now_statements : List Statement → Names → Names
now_statements [] n = n
now_statements (b ∷ before) n = after_statement b (now_statements before n)

abbrev pub now_externals : List External → Names → Names
now_externals [] n = n
now_externals (x ∷ before) n = after_external x (now_externals before n)

abbrev pub head_names : StatementHead → Names → Names
head_names (do_head p b q) n = after_statement b n
head_names _ n = n

abbrev pub loop_names : Loop → Names → Names
loop_names l n = after_optional l.test (after_optional l.start n)

-- ---- the names where the part behind a frame begins

abbrev pub frame_names : Frame → Names → Names
frame_names (awaits_expression (in_index a p l)) n = after a n
frame_names (awaits_expression (in_arguments g p before l)) n = now_arguments before (after g n)
frame_names (awaits_expression (behind_cast p ws d l)) n = after_declarator d (after_specifiers ws n)
frame_names (awaits_expression (behind_binary a p o l)) n = after a n
frame_names (awaits_expression (behind_question a p l)) n = after a n
frame_names (awaits_expression (behind_colon a p b l)) n = after b (after a n)
frame_names (awaits_expression (behind_assignment a p o l)) n = after a n
frame_names (awaits_expression (behind_comma a l)) n = after a n
frame_names (awaits_expression (in_size d p m)) n = after_declarator d n
frame_names (awaits_expression (in_enumerator b before x p)) n = now_entries before (now_specifiers b.before n)
frame_names (awaits_expression (in_test h p)) n = head_names h n
frame_names (awaits_expression (in_loop_test p q a r)) n = after_optional a n
frame_names (awaits_expression (in_step l)) n = loop_names l n
frame_names (awaits_specifiers (for_parameter o before)) n = now_parameters before (after_declarator o.declarator n)
frame_names (awaits_specifiers (for_member b before)) n = now_lines before (now_specifiers b.before n)
frame_names (awaits_declarator (of_cast p ws l)) n = after_specifiers ws n
frame_names (awaits_declarator (of_sizeof p q ws l)) n = after_specifiers ws n
frame_names (awaits_declarator (of_parameter o before ws)) n = after_specifiers ws (now_parameters before (after_declarator o.declarator n))
frame_names (awaits_declarator (of_member b lines ws before)) n = now_declarators before (after_specifiers ws (now_lines lines (now_specifiers b.before n)))
frame_names (awaits_declarator (of_item outer ws before)) n = now_items (has_typedef ws) before (after_specifiers ws n)
frame_names (awaits_initialiser (in_list p before)) n = now_initialisers before n
frame_names (awaits_initialiser (of_value ws before d p)) n = with_declarator (has_typedef ws) d (after_declarator d (now_items (has_typedef ws) before (after_specifiers ws n)))
frame_names (awaits_declaration (in_file before)) n = now_externals before n
frame_names (awaits_declaration (in_block i)) n = now_declarations i.declarations n
frame_names (awaits_statement (then_branch p q e)) n = after e n
frame_names (awaits_statement (else_branch p q e b)) n = after_statement b (after e n)
frame_names (awaits_statement (while_body p q e)) n = after e n
frame_names (awaits_statement (switch_body p q e)) n = after e n
frame_names (awaits_statement (for_body l c)) n = after_optional c (loop_names l n)
frame_names (awaits_statement (case_body p e)) n = after e n
frame_names (awaits_statement (in_statements i before)) n = now_statements before (now_declarations i.declarations n)
frame_names (awaits_statement (in_definition ws d outside)) n = inside_definition ws d n
frame_names _ n = n

abbrev pub stack_names : List Frame → Names
stack_names [] = []
stack_names (f ∷ s) = frame_names f (stack_names s)

abbrev pub doing_names : Doing → Names → Names
doing_names (operated e l) n = after e n
doing_names (gave e) n = after e n
doing_names (calling e p l) n = after e n
doing_names (specifying seen before) n = now_specifiers before n
doing_names (tagging is p seen before) n = now_specifiers before n
doing_names (tagged is p x seen before) n = now_specifiers before n
doing_names (membering b before) n = now_lines before (now_specifiers b.before n)
doing_names (enumerating b before) n = now_entries before (now_specifiers b.before n)
doing_names (enumerated b before x) n = now_entries before (now_specifiers b.before n)
doing_names (entered b before e) n = after_entry e (now_entries before (now_specifiers b.before n))
doing_names (entering b before e) n = after_entry e (now_entries before (now_specifiers b.before n))
doing_names (gave_specifiers ws) n = after_specifiers ws n
doing_names (suffixing m d) n = after_declarator d n
doing_names (sizing m d p) n = after_declarator d n
doing_names (parametering m d p) n = after_declarator d n
doing_names (gave_declarator d) n = after_declarator d n
doing_names (listing p x before) n = after_initialiser x (now_initialisers before n)
doing_names (gave_initialiser x) n = after_initialiser x n
doing_names (itemed ws i before) n = after_item (has_typedef ws) i (now_items (has_typedef ws) before (after_specifiers ws n))
doing_names (gave_declaration d) n = after_declaration d n
doing_names (externals before) n = now_externals before n
doing_names (declarations i) n = now_declarations i.declarations n
doing_names (statements i before) n = now_statements before (now_declarations i.declarations n)
doing_names (opening h) n = head_names h n
doing_names (finishing p b r q e) n = after e (after_statement b n)
doing_names (testing p q a r) n = after_optional a n
doing_names (stepping l) n = loop_names l n
doing_names (gave_statement b) n = after_statement b n
doing_names _ n = n

-- ---- lists that were read are of the grammar

abbrev pub ArgumentsHold : Names → List Expression → Type 0
ArgumentsHold n [] = Unit {0}
ArgumentsHold n (a ∷ before) = ArgumentsHold n before × (level a ≤ 15) × IsExpression (now_arguments before n) a

abbrev pub seen_now : List Specifier → Seen
seen_now [] = nothing_seen
seen_now (w ∷ before) = seen_after (seen_now before) w

abbrev pub SpecifiersHold : Names → List Specifier → Type 0
SpecifiersHold n [] = Unit {0}
SpecifiersHold n (w ∷ before) = SpecifiersHold n before × IsSpecifier (seen_now before) (now_specifiers before n) w

abbrev pub LinesHold : Names → List MemberLine → Type 0
LinesHold n [] = Unit {0}
LinesHold n (m ∷ before) =
    LinesHold n before × IsSpecifiers nothing_seen (now_lines before n) m.specifiers × HasDeclarator m.declarators
    × AreDeclarators (after_specifiers m.specifiers (now_lines before n)) m.declarators

abbrev pub EntryValueHolds : Names → Option (Place × Expression) → Type 0
EntryValueHolds n None = Unit {0}
EntryValueHolds n (Some v) = (level v.1 ≤ 14) × IsExpression n v.1

abbrev pub EntriesHold : Names → List EnumEntry → Type 0
EntriesHold n [] = Unit {0}
EntriesHold n (e ∷ before) = EntriesHold n before × EntryValueHolds (now_entries before n) e.value

abbrev pub DeclaratorsHold : Names → List Declarator → Type 0
DeclaratorsHold n [] = Unit {0}
DeclaratorsHold n (d ∷ before) = DeclaratorsHold n before × IsDeclarator by_name (now_declarators before n) d

abbrev pub ParametersHold : Names → List Parameter → Type 0
ParametersHold n [] = Unit {0}
ParametersHold n (p ∷ before) =
    ParametersHold n before × IsSpecifiers nothing_seen (now_parameters before n) p.specifiers
    × IsDeclarator either_way (after_specifiers p.specifiers (now_parameters before n)) p.declarator

abbrev pub InitialisersHold : Names → List Initialiser → Type 0
InitialisersHold n [] = Unit {0}
InitialisersHold n (x ∷ before) = InitialisersHold n before × IsInitialiser (now_initialisers before n) x

abbrev pub ItemsHold : Bool → Names → List InitDeclarator → Type 0
ItemsHold is n [] = Unit {0}
ItemsHold is n (i ∷ before) = ItemsHold is n before × IsItem is (now_items is before n) i

abbrev pub DeclarationsHold : Names → List Declaration → Type 0
DeclarationsHold n [] = Unit {0}
DeclarationsHold n (d ∷ before) = DeclarationsHold n before × IsDeclaration (now_declarations before n) d

abbrev pub StatementsHold : Names → List Statement → Type 0
StatementsHold n [] = Unit {0}
StatementsHold n (b ∷ before) = StatementsHold n before × IsStatement (now_statements before n) b

abbrev pub ExternalsHold : Names → List External → Type 0
ExternalsHold n [] = Unit {0}
ExternalsHold n (x ∷ before) = ExternalsHold n before × IsExternal (now_externals before n) x

-- ---- frames

-- the highest level of an expression that a frame waits for
abbrev pub awaited : Frame → ℕ
awaited (awaits_expression (in_arguments g p before l)) = 15
awaited (awaits_expression (behind_prefix p o l)) = operand_level o
awaited (awaits_expression (behind_sizeof p l)) = 2
awaited (awaits_expression (behind_cast p ws d l)) = 3
awaited (awaits_expression (behind_binary a p o l)) = under o
awaited (awaits_expression (behind_colon a p b l)) = 14
awaited (awaits_expression (behind_assignment a p o l)) = 15
awaited (awaits_expression (behind_comma a l)) = 15
awaited (awaits_expression (in_size d p m)) = 14
awaited (awaits_expression (in_enumerator b before x p)) = 14
awaited (awaits_expression in_value) = 15
awaited (awaits_expression (in_case p)) = 14
awaited _ = 16

abbrev pub limit : List Frame → ℕ
limit [] = 16
limit (f ∷ s) = awaited f

abbrev pub manner : List Frame → Manner
manner (awaits_declarator (behind_star p qs) ∷ s) = manner s
manner (awaits_declarator (in_group p m) ∷ s) = m
manner (awaits_declarator (of_cast p ws l) ∷ s) = without_name
manner (awaits_declarator (of_sizeof p q ws l) ∷ s) = without_name
manner (awaits_declarator (of_member b lines ws before) ∷ s) = by_name
manner (awaits_declarator (of_item outer ws before) ∷ s) = by_name
manner _ = either_way

-- a declarator that may stand in the parentheses round it
abbrev pub MayStand : List Frame → Names → Declarator → Type 0
MayStand (awaits_declarator (in_group p m) ∷ s) n d = IsGroup m n d
MayStand _ n d = Unit {0}

abbrev pub MustStand : List Frame → Declarator → Type 0
MustStand (awaits_declarator (in_group p m) ∷ s) d = IsPresent d
MustStand _ d = Unit {0}

-- a declarator that suffixes may follow
abbrev pub IsBegun : Manner → List Frame → Declarator → Type 0
IsBegun m s d = (m ≡ manner s) × IsDirect d × IsDeclarator m (stack_names s) d × MayStand s (stack_names s) d

abbrev pub IsBody : Names → TypeBody → Type 0
IsBody n b = (b.seen ≡ seen_now b.before) × SpecifiersHold n b.before × (has_type b.seen ≡ false)

abbrev pub IsOpen : List Frame → OpenParameters → Type 0
IsOpen s o = IsBegun o.manner s o.declarator × (o.outside ≡ after_declarator o.declarator (stack_names s))

abbrev pub IsHead : Names → StatementHead → Type 0
IsHead n (do_head p b q) = IsStatement n b
IsHead n _ = Unit {0}

abbrev pub IsLoop : Names → Loop → Type 0
IsLoop n l = IsOptional n l.start × IsOptional (after_optional l.start n) l.test

abbrev pub IsInside : Names → Inside → Type 0
IsInside n i = (i.outside ≡ n) × DeclarationsHold n i.declarations

abbrev pub IsFrame : Frame → List Frame → Names → Type 0
IsFrame (awaits_expression (in_parentheses p l)) s n = l ≡ limit s
IsFrame (awaits_expression (in_index a p l)) s n = (l ≡ limit s) × (1 ≤ l) × (level a ≤ 1) × IsExpression n a
IsFrame (awaits_expression (in_arguments g p before l)) s n = (l ≡ limit s) × (1 ≤ l) × (level g ≤ 1) × IsExpression n g × ArgumentsHold (after g n) before
IsFrame (awaits_expression (behind_prefix p o l)) s n = (l ≡ limit s) × (2 ≤ l)
IsFrame (awaits_expression (behind_sizeof p l)) s n = (l ≡ limit s) × (2 ≤ l)
IsFrame (awaits_expression (behind_cast p ws d l)) s n = (l ≡ limit s) × (3 ≤ l) × IsSpecifiers nothing_seen n ws × IsDeclarator without_name (after_specifiers ws n) d
IsFrame (awaits_expression (behind_binary a p o l)) s n = (l ≡ limit s) × (strength o ≤ l) × (level a ≤ strength o) × IsExpression n a
IsFrame (awaits_expression (behind_question a p l)) s n = (l ≡ limit s) × (14 ≤ l) × (level a ≤ 13) × IsExpression n a
IsFrame (awaits_expression (behind_colon a p b l)) s n = (l ≡ limit s) × (14 ≤ l) × (level a ≤ 13) × IsExpression n a × IsExpression (after a n) b
IsFrame (awaits_expression (behind_assignment a p o l)) s n = (l ≡ limit s) × (15 ≤ l) × (level a ≤ 2) × IsExpression n a
IsFrame (awaits_expression (behind_comma a l)) s n = (l ≡ limit s) × (16 ≤ l) × IsExpression n a
IsFrame (awaits_expression (in_size d p m)) s n = IsBegun m s d
IsFrame (awaits_expression (in_enumerator b before x p)) s n = IsBody n b × EntriesHold (now_specifiers b.before n) before
IsFrame (awaits_expression (in_test h p)) s n = IsHead n h
IsFrame (awaits_expression (in_loop_test p q a r)) s n = IsOptional n a
IsFrame (awaits_expression (in_step l)) s n = IsLoop n l
IsFrame (awaits_specifiers (for_cast p l)) s n = (l ≡ limit s) × (3 ≤ l)
IsFrame (awaits_specifiers (for_sizeof p q l)) s n = (l ≡ limit s) × (2 ≤ l)
IsFrame (awaits_specifiers (for_parameter o before)) s n = IsOpen s o × ParametersHold (after_declarator o.declarator n) before
IsFrame (awaits_specifiers (for_member b before)) s n = IsBody n b × LinesHold (now_specifiers b.before n) before
IsFrame (awaits_declarator (in_group p m)) s n = m ≡ manner s
IsFrame (awaits_declarator (of_cast p ws l)) s n = (l ≡ limit s) × (3 ≤ l) × IsSpecifiers nothing_seen n ws
IsFrame (awaits_declarator (of_sizeof p q ws l)) s n = (l ≡ limit s) × (2 ≤ l) × IsSpecifiers nothing_seen n ws
IsFrame (awaits_declarator (of_parameter o before ws)) s n =
    IsOpen s o × ParametersHold (after_declarator o.declarator n) before × IsSpecifiers nothing_seen (now_parameters before (after_declarator o.declarator n)) ws
IsFrame (awaits_declarator (of_member b lines ws before)) s n =
    IsBody n b × LinesHold (now_specifiers b.before n) lines × IsSpecifiers nothing_seen (now_lines lines (now_specifiers b.before n)) ws
    × DeclaratorsHold (after_specifiers ws (now_lines lines (now_specifiers b.before n))) before
IsFrame (awaits_declarator (of_item outer ws before)) s n = IsSpecifiers nothing_seen n ws × ItemsHold (has_typedef ws) (after_specifiers ws n) before
IsFrame (awaits_initialiser (in_list p before)) s n = InitialisersHold n before
IsFrame (awaits_initialiser (of_value ws before d p)) s n =
    IsSpecifiers nothing_seen n ws × ItemsHold (has_typedef ws) (after_specifiers ws n) before
    × IsDeclarator by_name (now_items (has_typedef ws) before (after_specifiers ws n)) d
IsFrame (awaits_declaration (in_file before)) s n = ExternalsHold n before
IsFrame (awaits_declaration (in_block i)) s n = IsInside n i
IsFrame (awaits_statement (then_branch p q e)) s n = IsExpression n e
IsFrame (awaits_statement (else_branch p q e b)) s n = IsExpression n e × IsStatement (after e n) b × (takes_else b ≡ false)
IsFrame (awaits_statement (while_body p q e)) s n = IsExpression n e
IsFrame (awaits_statement (switch_body p q e)) s n = IsExpression n e
IsFrame (awaits_statement (for_body l c)) s n = IsLoop n l × IsOptional (loop_names l n) c
IsFrame (awaits_statement (case_body p e)) s n = (level e ≤ 14) × IsExpression n e
IsFrame (awaits_statement (in_statements i before)) s n = IsInside n i × StatementsHold (now_declarations i.declarations n) before
IsFrame (awaits_statement (in_definition ws d outside)) s n =
    (outside ≡ after_parameter ws d n) × IsSpecifiers nothing_seen n ws × IsDeclarator by_name (after_specifiers ws n) d
IsFrame _ s n = Unit {0}

abbrev pub IsStack : List Frame → Type 0
IsStack [] = Unit {0}
IsStack (f ∷ s) = IsFrame f s (stack_names s) × IsStack s

-- ---- states

-- in parentheses that may hold parameters, what stands ahead begins none
abbrev pub IsGroupAhead : List Frame → Names → List TokenMark → Type 0
IsGroupAhead (awaits_declarator (in_group p by_name) ∷ s) n ts = Unit {0}
IsGroupAhead (awaits_declarator (in_group p m) ∷ s) n ts = begins_parameters n ts ≡ false
IsGroupAhead _ n ts = Unit {0}

abbrev pub IsNeeded : List Frame → Bool → Type 0
IsNeeded (awaits_declarator (in_group p m) ∷ s) needed = needed ≡ true
IsNeeded _ needed = Unit {0}

-- a suffix stands ahead where there is no other part
abbrev pub IsSuffixSign : Sign → Type 0
IsSuffixSign signs.LeftBracket = Unit {0}
IsSuffixSign signs.LeftParen = Unit {0}
IsSuffixSign _ = ⊥

abbrev pub IsSuffixAhead : List TokenMark → Type 0
IsSuffixAhead (sign g p ∷ ts) = IsSuffixSign g
IsSuffixAhead _ = ⊥

abbrev pub HasAhead : Declarator → List TokenMark → Type 0
HasAhead Absent ts = IsSuffixAhead ts
HasAhead _ ts = Unit {0}

abbrev pub IsDoing : Doing → List Frame → Names → List TokenMark → Type 0
IsDoing (seek l) s n ts = l ≡ limit s
IsDoing (operated e l) s n ts = (l ≡ limit s) × (level e ≤ l) × IsExpression n e
IsDoing (gave e) s n ts = (level e ≤ limit s) × IsExpression n e
IsDoing (calling e p l) s n ts = (l ≡ limit s) × (1 ≤ l) × (level e ≤ 1) × IsExpression n e
IsDoing (measuring p l) s n ts = (l ≡ limit s) × (2 ≤ l)
IsDoing (specifying seen before) s n ts = (seen ≡ seen_now before) × SpecifiersHold n before
IsDoing (tagging is p seen before) s n ts = (seen ≡ seen_now before) × SpecifiersHold n before × (has_type seen ≡ false)
IsDoing (tagged is p x seen before) s n ts = (seen ≡ seen_now before) × SpecifiersHold n before × (has_type seen ≡ false)
IsDoing (membering b before) s n ts = IsBody n b × LinesHold (now_specifiers b.before n) before
IsDoing (enumerating b before) s n ts = IsBody n b × EntriesHold (now_specifiers b.before n) before
IsDoing (enumerated b before x) s n ts = IsBody n b × EntriesHold (now_specifiers b.before n) before
IsDoing (entered b before e) s n ts = IsBody n b × EntriesHold (now_specifiers b.before n) (e ∷ before)
IsDoing (entering b before e) s n ts = IsBody n b × EntriesHold (now_specifiers b.before n) (e ∷ before)
IsDoing (gave_specifiers ws) s n ts = IsSpecifiers nothing_seen n ws
IsDoing (declaring m needed) s n ts = (m ≡ manner s) × IsNeeded s needed × IsGroupAhead s n ts
IsDoing (qualifying m p before) s n ts = m ≡ manner s
IsDoing (suffixing m d) s n ts = IsBegun m s d × HasAhead d ts
IsDoing (sizing m d p) s n ts = IsBegun m s d
IsDoing (parametering m d p) s n ts = IsBegun m s d
IsDoing (gave_declarator d) s n ts = IsDeclarator (manner s) n d × MayStand s n d × MustStand s d
IsDoing (listing p x before) s n ts = InitialisersHold n (x ∷ before)
IsDoing (gave_initialiser x) s n ts = IsInitialiser n x
IsDoing (itemed ws i before) s n ts = IsSpecifiers nothing_seen n ws × ItemsHold (has_typedef ws) (after_specifiers ws n) (i ∷ before)
IsDoing (gave_declaration d) s n ts = IsDeclaration n d
IsDoing (externals before) s n ts = ExternalsHold n before
IsDoing (declarations i) s n ts = IsInside n i
IsDoing (statements i before) s n ts = IsInside n i × StatementsHold (now_declarations i.declarations n) before
IsDoing (opening h) s n ts = IsHead n h
IsDoing (finishing p b r q e) s n ts = IsStatement n b × IsExpression (after_statement b n) e
IsDoing (testing p q a r) s n ts = IsOptional n a
IsDoing (stepping l) s n ts = IsLoop n l
IsDoing (gave_statement b) s n ts = IsStatement n b × (takes_else b ≡ true → IsNoElse ts)
IsDoing _ s n ts = Unit {0}

abbrev pub Holds : ParserState → Type 0
Holds (state d s names ts) = (names ≡ doing_names d (stack_names s)) × IsDoing d s (stack_names s) ts × IsStack s
