-- Each step keeps what holds of a state: specifiers and declarators.
use Rattle.std.proofs.Common.{◌≡◌, ◌&&◌, not, Bool, true, false, List, [], ◌∷◌, Option, Some, None, refl, sym, ap, subst}
use Rattle.std.proofs.lemmas.Bool.{not-true}
use Rattle.dae_base.specs.declared.Place.{Place}
use Rattle.dae_base.proofs.Laws.{and_first, and_second}
use Rattle.dae_tree.specs.declared.words.Keyword.{Keyword}
use Rattle.dae_tree.specs.declared.words.Keyword.TheVariants as keywords
use Rattle.dae_tree.specs.declared.signs.Sign.TheVariants as signs
use Rattle.dae_tree.specs.declared.expressions.Name.{Name}
use Rattle.dae_tree.specs.Marks.{TokenMark, word, sign, name, part, close_paren, close_bracket, close_brace, comma}
use Rattle.dae_tree.specs.declared.seen.Seen.{Seen}
use Rattle.dae_tree.specs.Words.{nothing_seen, has_type, admits, with_word, with_whole}
use Rattle.dae_tree.specs.Names.{Names, is_type, has_typedef, with_declarator, after_specifiers, after_declarator}
use Rattle.dae_tree.specs.Grammar.{Manner, by_name, without_name, either_way, IsSpecifiers, IsDeclarator, IsPresent, IsNoType, leading_name, void_alone, AreParameters, HasParameter}
use Rattle.dae_tree.specs.Trees.{Specifiers, Specifier, Declarator, Parameters, InitDeclarator, no_specifiers, no_members, member_then, no_enumerators, no_declarators, declarator_then, Absent, Named, Pointer, Grouped, Unsized, Empty, Void, Function, no_parameters, parameter_then}
use Rattle.dae_tree.specs.Lists.{MemberLine, EnumEntry, Parameter}
use Rattle.dae_parse_grammar.specs.Frames.{TypeBody, OpenParameters, Frame, in_group, for_cast, for_sizeof, for_parameter, for_member, for_declaration, behind_star, of_cast, of_sizeof, of_parameter, of_member, of_item, specifying, declaring, suffixing, gave_declarator, state, awaits_specifiers, awaits_declarator, SpecifiersFrame, DeclaratorFrame}
use Rattle.dae_parse_grammar.specs.Machine.{specifiers_end, word_taken, specified, body, body_opened, tag_taken, tag_alone, tag_followed, members_followed, enumerator_named, enumerator_followed, enumeration_closed, entry_followed, comma_followed, declaration_begun, specifiers_given, begins_parameters, parenthesis_declared, nothing_declared, bracket_declared, name_declared, declared, qualified, suffixed, sized, parameters_opened, closed_by, parameter_given, member_given, item_given, declarator_given, plain_item, parameters_onto}
use Rattle.dae_parse_grammar.specs.Standing.{manner, stack_names, now_specifiers, now_lines, now_entries, after_entry, seen_now, SpecifiersHold, LinesHold, EntriesHold, MayStand, MustStand, IsBegun, IsBody, IsOpen, IsStack, IsGroupAhead, IsNeeded, IsSuffixAhead, HasAhead, IsDoing, Holds}
use Rattle.dae_parse_grammar.proofs.Lists.{specifiers_hold, specifiers_now, members_hold, members_now, members_some, enumerators_hold, enumerators_now, enumerators_some, declarators_hold, declarators_now, declarators_some, parameters_hold, parameters_some}
use Rattle.dae_parse_grammar.proofs.Sound.{Then, decide, stand_along, then_paren}

-- ---- specifiers

hold_end : (seen : Seen) (before : List Specifier) (s : List Frame) (ts : List TokenMark) → seen ≡ seen_now before → SpecifiersHold (stack_names s) before → IsStack s
    → Then (specifiers_end seen before s (now_specifiers before (stack_names s)) ts)
hold_end seen before s ts e h st =
    decide (has_type seen) _ _
    (λ b. (specifiers_now (stack_names s) before no_specifiers, specifiers_hold (stack_names s) before no_specifiers h (subst (λ (x : Seen). has_type x ≡ true) e b), st))
    (λ b. tt)

hold_word : (k : Keyword) (p : Place) (seen : Seen) (before : List Specifier) (s : List Frame) (ts : List TokenMark) → admits seen k ≡ true → seen ≡ seen_now before → SpecifiersHold (stack_names s) before → IsStack s
    → Holds (word_taken k p seen before s (now_specifiers before (stack_names s)) ts)
hold_word keywords.Struct p seen before s ts a e h st = (refl, (e, h, not-true (has_type seen) a), st)
hold_word keywords.Enum p seen before s ts a e h st = (refl, (e, h, not-true (has_type seen) a), st)
hold_word keywords.Auto p seen before s ts a e h st = (refl, (ap (λ x. with_word x keywords.Auto) e, (h, (subst (λ (x : Seen). admits x keywords.Auto ≡ true) e a, refl))), st)
hold_word keywords.Char p seen before s ts a e h st = (refl, (ap (λ x. with_word x keywords.Char) e, (h, (subst (λ (x : Seen). admits x keywords.Char ≡ true) e a, refl))), st)
hold_word keywords.Const p seen before s ts a e h st = (refl, (ap (λ x. with_word x keywords.Const) e, (h, (subst (λ (x : Seen). admits x keywords.Const ≡ true) e a, refl))), st)
hold_word keywords.Extern p seen before s ts a e h st = (refl, (ap (λ x. with_word x keywords.Extern) e, (h, (subst (λ (x : Seen). admits x keywords.Extern ≡ true) e a, refl))), st)
hold_word keywords.Int p seen before s ts a e h st = (refl, (ap (λ x. with_word x keywords.Int) e, (h, (subst (λ (x : Seen). admits x keywords.Int ≡ true) e a, refl))), st)
hold_word keywords.Long p seen before s ts a e h st = (refl, (ap (λ x. with_word x keywords.Long) e, (h, (subst (λ (x : Seen). admits x keywords.Long ≡ true) e a, refl))), st)
hold_word keywords.Register p seen before s ts a e h st = (refl, (ap (λ x. with_word x keywords.Register) e, (h, (subst (λ (x : Seen). admits x keywords.Register ≡ true) e a, refl))), st)
hold_word keywords.Short p seen before s ts a e h st = (refl, (ap (λ x. with_word x keywords.Short) e, (h, (subst (λ (x : Seen). admits x keywords.Short ≡ true) e a, refl))), st)
hold_word keywords.Signed p seen before s ts a e h st = (refl, (ap (λ x. with_word x keywords.Signed) e, (h, (subst (λ (x : Seen). admits x keywords.Signed ≡ true) e a, refl))), st)
hold_word keywords.Static p seen before s ts a e h st = (refl, (ap (λ x. with_word x keywords.Static) e, (h, (subst (λ (x : Seen). admits x keywords.Static ≡ true) e a, refl))), st)
hold_word keywords.Typedef p seen before s ts a e h st = (refl, (ap (λ x. with_word x keywords.Typedef) e, (h, (subst (λ (x : Seen). admits x keywords.Typedef ≡ true) e a, refl))), st)
hold_word keywords.Unsigned p seen before s ts a e h st = (refl, (ap (λ x. with_word x keywords.Unsigned) e, (h, (subst (λ (x : Seen). admits x keywords.Unsigned ≡ true) e a, refl))), st)
hold_word keywords.Void p seen before s ts a e h st = (refl, (ap (λ x. with_word x keywords.Void) e, (h, (subst (λ (x : Seen). admits x keywords.Void ≡ true) e a, refl))), st)
hold_word _ p seen before s ts a e h st = absurd cc

pub hold_specified : (seen : Seen) (before : List Specifier) (s : List Frame) (ts : List TokenMark) → seen ≡ seen_now before → SpecifiersHold (stack_names s) before → IsStack s
    → Then (specified seen before s (now_specifiers before (stack_names s)) ts)
hold_specified seen before s [] e h st = hold_end seen before s [] e h st
hold_specified seen before s (word k p ∷ ts) e h st = decide (admits seen k) _ _ (λ b. hold_word k p seen before s ts b e h st) (λ b. hold_end seen before s (word k p ∷ ts) e h st)
hold_specified seen before s (name x ∷ ts) e h st =
    decide (not (has_type seen) && is_type (now_specifiers before (stack_names s)) x.number) _ _
    (λ b. (refl, (ap with_whole e, (h, (subst (λ (y : Seen). has_type y ≡ false) e (not-true (has_type seen) (and_first (not (has_type seen)) (is_type (now_specifiers before (stack_names s)) x.number) b)), and_second (not (has_type seen)) (is_type (now_specifiers before (stack_names s)) x.number) b))), st))
    (λ b. hold_end seen before s (name x ∷ ts) e h st)
hold_specified seen before s (t ∷ ts) e h st = hold_end seen before s (t ∷ ts) e h st

hold_body : (is : Bool) (p : Place) (tag : Option Name) (q : Place) (seen : Seen) (before : List Specifier) (s : List Frame) (ts : List TokenMark) → seen ≡ seen_now before → SpecifiersHold (stack_names s) before → has_type seen ≡ false → IsStack s
    → Holds (body_opened is (body p tag q seen before) s (now_specifiers before (stack_names s)) ts)
hold_body true p tag q seen before s ts e h t st = (refl, ((e, h, t), tt), st)
hold_body false p tag q seen before s ts e h t st = (refl, ((e, h, t), tt), st)

pub hold_tag : (is : Bool) (p : Place) (seen : Seen) (before : List Specifier) (s : List Frame) (ts : List TokenMark) → seen ≡ seen_now before → SpecifiersHold (stack_names s) before → has_type seen ≡ false → IsStack s
    → Then (tag_taken is p seen before s (now_specifiers before (stack_names s)) ts)
hold_tag is p seen before s [] e h t st = tt
hold_tag is p seen before s (name x ∷ ts) e h t st = (refl, (e, h, t), st)
hold_tag is p seen before s (sign signs.LeftBrace q ∷ ts) e h t st = hold_body is p None q seen before s ts e h t st
hold_tag is p seen before s (_ ∷ ts) e h t st = tt

hold_alone : (is : Bool) (p : Place) (x : Name) (seen : Seen) (before : List Specifier) (s : List Frame) (ts : List TokenMark) → seen ≡ seen_now before → SpecifiersHold (stack_names s) before → has_type seen ≡ false → IsStack s
    → Holds (state (specifying (with_whole seen) (tag_alone is p x ∷ before)) s (now_specifiers before (stack_names s)) ts)
hold_alone true p x seen before s ts e h t st = (refl, (ap with_whole e, (h, subst (λ (y : Seen). has_type y ≡ false) e t)), st)
hold_alone false p x seen before s ts e h t st = (refl, (ap with_whole e, (h, subst (λ (y : Seen). has_type y ≡ false) e t)), st)

pub hold_tagged : (is : Bool) (p : Place) (x : Name) (seen : Seen) (before : List Specifier) (s : List Frame) (ts : List TokenMark) → seen ≡ seen_now before → SpecifiersHold (stack_names s) before → has_type seen ≡ false → IsStack s
    → Then (tag_followed is p x seen before s (now_specifiers before (stack_names s)) ts)
hold_tagged is p x seen before s [] e h t st = hold_alone is p x seen before s [] e h t st
hold_tagged is p x seen before s (sign signs.LeftBrace q ∷ ts) e h t st = hold_body is p (Some x) q seen before s ts e h t st
hold_tagged is p x seen before s (u ∷ ts) e h t st = hold_alone is p x seen before s (u ∷ ts) e h t st

-- ---- bodies

pub hold_members : (b : TypeBody) (before : List MemberLine) (s : List Frame) (ts : List TokenMark) → IsBody (stack_names s) b → LinesHold (now_specifiers b.before (stack_names s)) before → IsStack s
    → Then (members_followed b before s (now_lines before (now_specifiers b.before (stack_names s))) ts)
hold_members b [] s [] i h st = (refl, (refl, tt), ((i, h), st))
hold_members b [] s (part close_brace ∷ ts) i h st = (refl, (refl, tt), ((i, h), st))
hold_members b [] s (_ ∷ ts) i h st = (refl, (refl, tt), ((i, h), st))
hold_members b (m ∷ before) s [] i h st = (refl, (refl, tt), ((i, h), st))
hold_members b (m ∷ before) s (part close_brace ∷ ts) i h st =
    let n = now_specifiers b.before (stack_names s) in (
      members_now n (m ∷ before) no_members,
      (ap with_whole i.0, (i.1, (subst (λ (y : Seen). has_type y ≡ false) i.0 i.2, members_some before (member_then m.specifiers m.declarators m.end no_members) tt, members_hold n (m ∷ before) no_members h tt))),
      st,
    )
hold_members b (m ∷ before) s (_ ∷ ts) i h st = (refl, (refl, tt), ((i, h), st))

pub hold_enumerating : (b : TypeBody) (before : List EnumEntry) (s : List Frame) (ts : List TokenMark) → IsBody (stack_names s) b → EntriesHold (now_specifiers b.before (stack_names s)) before → IsStack s
    → Then (enumerator_named b before s (now_entries before (now_specifiers b.before (stack_names s))) ts)
hold_enumerating b before s [] i h st = tt
hold_enumerating b before s (name x ∷ ts) i h st = (refl, (i, h), st)
hold_enumerating b before s (_ ∷ ts) i h st = tt

pub hold_enumerated : (b : TypeBody) (before : List EnumEntry) (x : Name) (s : List Frame) (ts : List TokenMark) → IsBody (stack_names s) b → EntriesHold (now_specifiers b.before (stack_names s)) before → IsStack s
    → Then (enumerator_followed b before x s (now_entries before (now_specifiers b.before (stack_names s))) ts)
hold_enumerated b before x s [] i h st = (refl, (i, (h, tt)), st)
hold_enumerated b before x s (sign signs.Assign p ∷ ts) i h st = (refl, refl, ((i, h), st))
hold_enumerated b before x s (_ ∷ ts) i h st = (refl, (i, (h, tt)), st)

hold_closed : (b : TypeBody) (before : List EnumEntry) (e : EnumEntry) (c : Bool) (s : List Frame) (ts : List TokenMark) → IsBody (stack_names s) b → EntriesHold (now_specifiers b.before (stack_names s)) (e ∷ before) → IsStack s
    → Holds (enumeration_closed b (e ∷ before) c s (after_entry e (now_entries before (now_specifiers b.before (stack_names s)))) ts)
hold_closed b before e c s ts i h st =
    let n = now_specifiers b.before (stack_names s) in (
      enumerators_now n (e ∷ before) no_enumerators,
      (ap with_whole i.0, (i.1, (subst (λ (y : Seen). has_type y ≡ false) i.0 i.2, enumerators_some before e no_enumerators, enumerators_hold n (e ∷ before) no_enumerators h tt))),
      st,
    )

pub hold_entered : (b : TypeBody) (before : List EnumEntry) (e : EnumEntry) (s : List Frame) (ts : List TokenMark) → IsBody (stack_names s) b → EntriesHold (now_specifiers b.before (stack_names s)) (e ∷ before) → IsStack s
    → Then (entry_followed b before e s (after_entry e (now_entries before (now_specifiers b.before (stack_names s)))) ts)
hold_entered b before e s [] i h st = tt
hold_entered b before e s (part comma ∷ ts) i h st = (refl, (i, h), st)
hold_entered b before e s (part close_brace ∷ ts) i h st = hold_closed b before e false s ts i h st
hold_entered b before e s (_ ∷ ts) i h st = tt

pub hold_entering : (b : TypeBody) (before : List EnumEntry) (e : EnumEntry) (s : List Frame) (ts : List TokenMark) → IsBody (stack_names s) b → EntriesHold (now_specifiers b.before (stack_names s)) (e ∷ before) → IsStack s
    → Then (comma_followed b before e s (after_entry e (now_entries before (now_specifiers b.before (stack_names s)))) ts)
hold_entering b before e s [] i h st = (refl, (i, h), st)
hold_entering b before e s (part close_brace ∷ ts) i h st = hold_closed b before e true s ts i h st
hold_entering b before e s (_ ∷ ts) i h st = (refl, (i, h), st)

-- ---- behind specifiers

hold_begun : (outer : Bool) (ws : Specifiers) (s : List Frame) (ts : List TokenMark) → IsSpecifiers nothing_seen (stack_names s) ws → IsStack s → Then (declaration_begun outer ws s (after_specifiers ws (stack_names s)) ts)
hold_begun outer ws s [] i st = (refl, (refl, tt, tt), ((i, tt), st))
hold_begun outer ws s (sign signs.Semicolon p ∷ ts) i st = (refl, (i, tt), st)
hold_begun outer ws s (_ ∷ ts) i st = (refl, (refl, tt, tt), ((i, tt), st))

pub hold_specifiers : (ws : Specifiers) (f : SpecifiersFrame) (s : List Frame) (ts : List TokenMark) → IsSpecifiers nothing_seen (stack_names (awaits_specifiers f ∷ s)) ws → IsStack (awaits_specifiers f ∷ s)
    → Then (specifiers_given ws f s (after_specifiers ws (stack_names (awaits_specifiers f ∷ s))) ts)
hold_specifiers ws (for_cast p l) s ts i st = (refl, (refl, tt, tt), ((st.0.0, st.0.1, i), st.1))
hold_specifiers ws (for_sizeof p q l) s ts i st = (refl, (refl, tt, tt), ((st.0.0, st.0.1, i), st.1))
hold_specifiers ws (for_parameter o before) s ts i st = (refl, (refl, tt, tt), ((st.0.0, st.0.1, i), st.1))
hold_specifiers ws (for_member b before) s ts i st = (refl, (refl, tt, tt), ((st.0.0, st.0.1, i, tt), st.1))
hold_specifiers ws (for_declaration outer) s ts i st = hold_begun outer ws s ts i st.1

-- ---- declarators

-- where none need stand, no parentheses are round it
not_in_group : (s : List Frame) → IsNeeded s false → (n : Names) → MayStand s n Absent × MustStand s Absent
not_in_group [] h n = (tt, tt)
not_in_group (awaits_declarator (in_group p m) ∷ s) h n = absurd cc
not_in_group (_ ∷ s) h n = (tt, tt)

stand_nameless : (s : List Frame) (n : Names) (d : Declarator) → leading_name d ≡ None → MayStand s n d
stand_nameless [] n d e = tt
stand_nameless (awaits_declarator (in_group p by_name) ∷ s) n d e = tt
stand_nameless (awaits_declarator (in_group p without_name) ∷ s) n d e = subst (IsNoType n) (sym e) tt
stand_nameless (awaits_declarator (in_group p either_way) ∷ s) n d e = subst (IsNoType n) (sym e) tt
stand_nameless (_ ∷ s) n d e = tt

must_present : (s : List Frame) (d : Declarator) → IsPresent d → MustStand s d
must_present [] d h = tt
must_present (awaits_declarator (in_group p m) ∷ s) d h = h
must_present (_ ∷ s) d h = tt

-- a name ahead that may stand in parentheses
stand_named : (s : List Frame) (n : Names) (x : Name) (ts : List TokenMark) → IsGroupAhead s n (name x ∷ ts) → MayStand s n (Named x)
stand_named [] n x ts h = tt
stand_named (awaits_declarator (in_group p by_name) ∷ s) n x ts h = tt
stand_named (awaits_declarator (in_group p without_name) ∷ s) n x ts h = h
stand_named (awaits_declarator (in_group p either_way) ∷ s) n x ts h = h
stand_named (_ ∷ s) n x ts h = tt

hold_nothing : (m : Manner) (needed : Bool) (s : List Frame) (ts : List TokenMark) → m ≡ manner s → IsNeeded s needed → IsStack s → Then (nothing_declared m needed s (stack_names s) ts)
hold_nothing by_name needed s ts e h st = tt
hold_nothing without_name true s ts e h st = tt
hold_nothing without_name false s ts e h st = (refl, (subst (λ (m : Manner). IsDeclarator m (stack_names s) Absent) e tt, (not_in_group s h (stack_names s)).0, (not_in_group s h (stack_names s)).1), st)
hold_nothing either_way true s ts e h st = tt
hold_nothing either_way false s ts e h st = (refl, (subst (λ (m : Manner). IsDeclarator m (stack_names s) Absent) e tt, (not_in_group s h (stack_names s)).0, (not_in_group s h (stack_names s)).1), st)

hold_absent : (m : Manner) (s : List Frame) → m ≡ manner s → IsDeclarator m (stack_names s) Absent → IsBegun m s Absent
hold_absent m s e i = (e, tt, i, stand_nameless s (stack_names s) Absent refl)

hold_parenthesis : (m : Manner) (p : Place) (s : List Frame) (ts : List TokenMark) → m ≡ manner s → IsStack s → Then (parenthesis_declared m p s (stack_names s) ts)
hold_parenthesis by_name p s ts e st = (refl, (refl, refl, tt), (e, st))
hold_parenthesis without_name p s ts e st = decide (begins_parameters (stack_names s) ts) _ _ (λ b. (refl, (hold_absent without_name s e tt, tt), st)) (λ b. (refl, (refl, refl, b), (e, st)))
hold_parenthesis either_way p s ts e st = decide (begins_parameters (stack_names s) ts) _ _ (λ b. (refl, (hold_absent either_way s e tt, tt), st)) (λ b. (refl, (refl, refl, b), (e, st)))

hold_bracket : (m : Manner) (p : Place) (s : List Frame) (ts : List TokenMark) → m ≡ manner s → IsStack s → Then (bracket_declared m p s (stack_names s) ts)
hold_bracket by_name p s ts e st = tt
hold_bracket without_name p s ts e st = (refl, (hold_absent without_name s e tt, tt), st)
hold_bracket either_way p s ts e st = (refl, (hold_absent either_way s e tt, tt), st)

hold_named : (m : Manner) (needed : Bool) (x : Name) (s : List Frame) (ts : List TokenMark) → IsDoing (declaring m needed) s (stack_names s) (name x ∷ ts) → IsStack s → Then (name_declared m needed x s (stack_names s) ts)
hold_named by_name needed x s ts i st = (refl, ((i.0, tt, tt, stand_named s (stack_names s) x ts i.2), tt), st)
hold_named without_name needed x s ts i st = hold_nothing without_name needed s (name x ∷ ts) i.0 i.1 st
hold_named either_way needed x s ts i st = (refl, ((i.0, tt, tt, stand_named s (stack_names s) x ts i.2), tt), st)

pub hold_declared : (m : Manner) (needed : Bool) (s : List Frame) (ts : List TokenMark) → IsDoing (declaring m needed) s (stack_names s) ts → IsStack s → Then (declared m needed s (stack_names s) ts)
hold_declared m needed s [] i st = hold_nothing m needed s [] i.0 i.1 st
hold_declared m needed s (sign signs.Times p ∷ ts) i st = (refl, i.0, st)
hold_declared m needed s (sign signs.LeftParen p ∷ ts) i st = hold_parenthesis m p s ts i.0 st
hold_declared m needed s (sign signs.LeftBracket p ∷ ts) i st = hold_bracket m p s ts i.0 st
hold_declared m needed s (name x ∷ ts) i st = hold_named m needed x s ts i st
hold_declared m needed s (t ∷ ts) i st = hold_nothing m needed s (t ∷ ts) i.0 i.1 st

pub hold_qualified : (m : Manner) (p : Place) (before : List Place) (s : List Frame) (ts : List TokenMark) → m ≡ manner s → IsStack s → Then (qualified m p before s (stack_names s) ts)
hold_qualified m p before s [] e st = (refl, (e, tt, tt), (tt, st))
hold_qualified m p before s (word keywords.Const q ∷ ts) e st = (refl, e, st)
hold_qualified m p before s (_ ∷ ts) e st = (refl, (e, tt, tt), (tt, st))

-- a declarator that is begun is whole where no suffix stands ahead
begun_whole : (m : Manner) (s : List Frame) (d : Declarator) → IsBegun m s d → IsDeclarator (manner s) (stack_names s) d
begun_whole m s d i = subst (λ (x : Manner). IsDeclarator x (stack_names s) d) i.0 i.2

present_behind : (d : Declarator) (ts : List TokenMark) → HasAhead d ts → (IsSuffixAhead ts → ⊥) → IsPresent d
present_behind Absent ts h lacks = lacks h
present_behind _ ts h lacks = tt

hold_whole : (m : Manner) (d : Declarator) (s : List Frame) (ts : List TokenMark) → IsBegun m s d → HasAhead d ts → (IsSuffixAhead ts → ⊥) → IsStack s
    → Holds (state (gave_declarator d) s (after_declarator d (stack_names s)) ts)
hold_whole m d s ts i h lacks st = (refl, (begun_whole m s d i, i.3, must_present s d (present_behind d ts h lacks)), st)

pub hold_suffixed : (m : Manner) (d : Declarator) (s : List Frame) (ts : List TokenMark) → IsDoing (suffixing m d) s (stack_names s) ts → IsStack s → Then (suffixed m d s (after_declarator d (stack_names s)) ts)
hold_suffixed m d s [] i st = hold_whole m d s [] i.0 i.1 (λ h. h) st
hold_suffixed m d s (sign signs.LeftBracket p ∷ ts) i st = (refl, i.0, st)
hold_suffixed m d s (sign signs.LeftParen p ∷ ts) i st = (refl, i.0, st)
hold_suffixed m d s (t ∷ ts) i st = hold_whole m d s (t ∷ ts) i.0 i.1 (λ h. h) st

pub hold_sized : (m : Manner) (d : Declarator) (p : Place) (s : List Frame) (ts : List TokenMark) → IsBegun m s d → IsStack s → Then (sized m d p s (after_declarator d (stack_names s)) ts)
hold_sized m d p s [] i st = (refl, refl, (i, st))
hold_sized m d p s (part close_bracket ∷ ts) i st = (refl, ((i.0, tt, (i.1, i.2), stand_along s (stack_names s) d (Unsized d p) refl i.3), tt), st)
hold_sized m d p s (_ ∷ ts) i st = (refl, refl, (i, st))

pub hold_opened : (m : Manner) (d : Declarator) (p : Place) (s : List Frame) (ts : List TokenMark) → IsBegun m s d → IsStack s → Then (parameters_opened m d p s (after_declarator d (stack_names s)) ts)
hold_opened m d p s [] i st = (refl, (refl, tt), (((i, refl), tt), st))
hold_opened m d p s (part close_paren ∷ ts) i st = (refl, ((i.0, tt, (i.1, i.2), stand_along s (stack_names s) d (Empty d p) refl i.3), tt), st)
hold_opened m d p s (_ ∷ ts) i st = (refl, (refl, tt), (((i, refl), tt), st))

-- ---- behind declarators

hold_function : (o : OpenParameters) (ps : Parameters) (v : Option Place) → void_alone ps ≡ v → (s : List Frame) (ts : List TokenMark) → IsOpen s o → AreParameters (after_declarator o.declarator (stack_names s)) ps → HasParameter ps → IsStack s
    → Holds (state (suffixing o.manner (closed_by v o.declarator o.place ps)) s o.outside ts)
hold_function o ps (Some q) e s ts i a h st =
    (i.1, ((i.0.0, tt, (i.0.1, i.0.2), stand_along s (stack_names s) o.declarator (Void o.declarator o.place q) refl i.0.3), tt), st)
hold_function o ps None e s ts i a h st =
    (i.1, ((i.0.0, tt, (i.0.1, i.0.2, h, e, a), stand_along s (stack_names s) o.declarator (Function o.declarator o.place ps) refl i.0.3), tt), st)

hold_parameter : (d : Declarator) (o : OpenParameters) (before : List Parameter) (ws : Specifiers) (s : List Frame) (ts : List TokenMark)
    → IsDeclarator either_way (stack_names (awaits_declarator (of_parameter o before ws) ∷ s)) d → IsStack (awaits_declarator (of_parameter o before ws) ∷ s)
    → Then (parameter_given d o before ws s (after_declarator d (stack_names (awaits_declarator (of_parameter o before ws) ∷ s))) ts)
hold_parameter d o before ws s [] i st = tt
hold_parameter d o before ws s (part comma ∷ ts) i st = (refl, (refl, tt), ((st.0.0, (st.0.1, st.0.2, i)), st.1))
hold_parameter d o before ws s (part close_paren ∷ ts) i st =
    let n = after_declarator o.declarator (stack_names s) in
    let ps = parameters_onto before (parameter_then ws d no_parameters) in
    hold_function o ps (void_alone ps) refl s ts st.0.0 (parameters_hold n before (parameter_then ws d no_parameters) st.0.1 (st.0.2, i, tt)) (parameters_some before (parameter_then ws d no_parameters) tt) st.1
hold_parameter d o before ws s (_ ∷ ts) i st = tt

hold_member_line : (d : Declarator) (b : TypeBody) (lines : List MemberLine) (ws : Specifiers) (before : List Declarator) (s : List Frame) (ts : List TokenMark)
    → IsDeclarator by_name (stack_names (awaits_declarator (of_member b lines ws before) ∷ s)) d → IsStack (awaits_declarator (of_member b lines ws before) ∷ s)
    → Then (member_given d b lines ws before s (after_declarator d (stack_names (awaits_declarator (of_member b lines ws before) ∷ s))) ts)
hold_member_line d b lines ws before s [] i st = tt
hold_member_line d b lines ws before s (part comma ∷ ts) i st = (refl, (refl, tt, tt), ((st.0.0, st.0.1, st.0.2, (st.0.3, i)), st.1))
hold_member_line d b lines ws before s (sign signs.Semicolon p ∷ ts) i st =
    let n = after_specifiers ws (now_lines lines (now_specifiers b.before (stack_names s))) in (
      declarators_now n before (declarator_then d no_declarators),
      (st.0.0, (st.0.1, st.0.2, declarators_some before (declarator_then d no_declarators) tt, declarators_hold n before (declarator_then d no_declarators) st.0.3 (i, tt))),
      st.1,
    )
hold_member_line d b lines ws before s (_ ∷ ts) i st = tt

hold_plain : (outer : Bool) (d : Declarator) (ws : Specifiers) (before : List InitDeclarator) (s : List Frame) (ts : List TokenMark)
    → IsDeclarator by_name (stack_names (awaits_declarator (of_item outer ws before) ∷ s)) d → IsStack (awaits_declarator (of_item outer ws before) ∷ s)
    → Then (plain_item d ws before s (with_declarator (has_typedef ws) d (after_declarator d (stack_names (awaits_declarator (of_item outer ws before) ∷ s)))) ts)
hold_plain outer d ws before s ts i st = (refl, (st.0.0, (st.0.1, (i, tt))), st.1)

hold_item : (outer : Bool) (d : Declarator) (ws : Specifiers) (before : List InitDeclarator) (s : List Frame) (ts : List TokenMark)
    → IsDeclarator by_name (stack_names (awaits_declarator (of_item outer ws before) ∷ s)) d → IsStack (awaits_declarator (of_item outer ws before) ∷ s)
    → Then (item_given outer d ws before s (with_declarator (has_typedef ws) d (after_declarator d (stack_names (awaits_declarator (of_item outer ws before) ∷ s)))) ts)
hold_item true d ws [] s [] i st = hold_plain true d ws [] s [] i st
hold_item true d ws [] s (sign signs.Assign p ∷ ts) i st = (refl, tt, ((st.0.0, st.0.1, i), st.1))
hold_item true d ws [] s (sign signs.LeftBrace p ∷ ts) i st = (refl, (refl, tt), ((refl, st.0.0, i), st.1))
hold_item true d ws [] s (t ∷ ts) i st = hold_plain true d ws [] s (t ∷ ts) i st
hold_item true d ws (x ∷ before) s [] i st = hold_plain true d ws (x ∷ before) s [] i st
hold_item true d ws (x ∷ before) s (sign signs.Assign p ∷ ts) i st = (refl, tt, ((st.0.0, st.0.1, i), st.1))
hold_item true d ws (x ∷ before) s (t ∷ ts) i st = hold_plain true d ws (x ∷ before) s (t ∷ ts) i st
hold_item false d ws before s [] i st = hold_plain false d ws before s [] i st
hold_item false d ws before s (sign signs.Assign p ∷ ts) i st = (refl, tt, ((st.0.0, st.0.1, i), st.1))
hold_item false d ws before s (t ∷ ts) i st = hold_plain false d ws before s (t ∷ ts) i st

pub hold_declarator : (d : Declarator) (f : DeclaratorFrame) (s : List Frame) (ts : List TokenMark) → IsDoing (gave_declarator d) (awaits_declarator f ∷ s) (stack_names (awaits_declarator f ∷ s)) ts → IsStack (awaits_declarator f ∷ s)
    → Then (declarator_given d f s (after_declarator d (stack_names (awaits_declarator f ∷ s))) ts)
hold_declarator d (behind_star p qs) s ts i st = (refl, (i.0, stand_nameless s (stack_names s) (Pointer p qs d) refl, must_present s (Pointer p qs d) tt), st.1)
hold_declarator d (in_group p m) s ts i st = then_paren ts _ (λ us. (refl, ((st.0, tt, (i.2, i.1, i.0), stand_nameless s (stack_names s) (Grouped p d) refl), tt), st.1))
hold_declarator d (of_cast p ws l) s ts i st = then_paren ts _ (λ us. (refl, refl, ((st.0.0, st.0.1, st.0.2, i.0), st.1)))
hold_declarator d (of_sizeof p q ws l) s ts i st = then_paren ts _ (λ us. (refl, (st.0.0, st.0.1, (st.0.2, i.0)), st.1))
hold_declarator d (of_parameter o before ws) s ts i st = hold_parameter d o before ws s ts i.0 st
hold_declarator d (of_member b lines ws before) s ts i st = hold_member_line d b lines ws before s ts i.0 st
hold_declarator d (of_item outer ws before) s ts i st = hold_item outer d ws before s ts i.0 st
