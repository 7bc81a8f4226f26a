-- Each step keeps what holds of a state: initialisers, declarations, statements, and every step.
use Rattle.std.proofs.Common.{Bool, true, false, List, [], ◌∷◌, Option, refl, sym, subst}
use Rattle.std.proofs.lemmas.Bool.{false_from_ne_true}
use Rattle.dae_base.specs.declared.Place.{Place}
use Rattle.dae_tree.specs.declared.words.Keyword.{Keyword}
use Rattle.dae_tree.specs.declared.words.Keyword.TheVariants as keywords
use Rattle.dae_tree.specs.declared.signs.Sign.{Sign}
use Rattle.dae_tree.specs.declared.signs.Sign.TheVariants as signs
use Rattle.dae_tree.specs.Marks.{TokenMark, word, sign, part, close_paren, close_brace, comma, else_word}
use Rattle.dae_tree.specs.Words.{begins_specifiers}
use Rattle.dae_tree.specs.Names.{Names, has_typedef, after, after_specifiers, after_initialiser, after_item, after_declaration, after_optional, after_statement}
use Rattle.dae_tree.specs.Statements.{IsInitialiser, IsDeclaration, IsStatement, takes_else}
use Rattle.dae_tree.specs.Trees.{Expression, Specifiers, Declarator, Initialiser, InitDeclarator, Declaration, Statement, External, no_initialisers, initialiser_then, Block, no_statements}
use Rattle.dae_parse_grammar.specs.Frames.{Loop, Inside, Frame, in_list, of_value, in_file, in_block, then_branch, else_branch, while_body, switch_body, do_body, for_body, case_body, default_body, in_statements, in_definition, Doing, seek, operated, gave, calling, measuring, specifying, tagging, tagged, membering, enumerating, enumerated, entered, entering, gave_specifiers, declaring, qualifying, suffixing, sizing, parametering, gave_declarator, initialising, listing, gave_initialiser, itemed, gave_declaration, externals, declarations, statements, stating, opening, finishing, looping, starting, testing, stepping, returning, breaking, continuing, defaulting, gave_statement, state, awaits_expression, awaits_specifiers, awaits_declarator, awaits_initialiser, awaits_declaration, awaits_statement, StatementFrame}
use Rattle.dae_parse_grammar.specs.Machine.{step, initialised, listed, list_followed, list_closed, initialiser_taken, item_followed, declaration_taken, external_begun, block_begun, block_followed, evaluation_begun, sign_stated, word_stated, stated, started, loop_tested, stepped, returned, branched, done_followed, defined, statement_given}
use Rattle.dae_parse_grammar.specs.Standing.{stack_names, doing_names, now_initialisers, now_items, now_declarations, now_statements, now_externals, InitialisersHold, StatementsHold, ExternalsHold, IsInside, IsLoop, IsStack, IsDoing, Holds}
use Rattle.dae_parse_grammar.proofs.Lists.{initialisers_hold, initialisers_now, initialisers_some, items_hold, items_now, declarations_hold, declarations_now, statements_hold}
use Rattle.dae_parse_grammar.proofs.Sound.{Then, decide, then_colon, then_semicolon, then_open, hold_sought, hold_operated, hold_expression, hold_called, hold_measured}
use Rattle.dae_parse_grammar.proofs.SoundDeclarators.{hold_specified, hold_tag, hold_tagged, hold_members, hold_enumerating, hold_enumerated, hold_entered, hold_entering, hold_specifiers, hold_declared, hold_qualified, hold_suffixed, hold_sized, hold_opened, hold_declarator}

-- ---- initialisers and declarations

hold_initialised : (s : List Frame) (ts : List TokenMark) → IsStack s → Then (initialised s (stack_names s) ts)
hold_initialised s [] st = (refl, refl, (tt, st))
hold_initialised s (sign signs.LeftBrace p ∷ ts) st = (refl, tt, (tt, st))
hold_initialised s (_ ∷ ts) st = (refl, refl, (tt, st))

hold_closed_list : (p : Place) (x : Initialiser) (before : List Initialiser) (c : Bool) (s : List Frame) (ts : List TokenMark) → InitialisersHold (stack_names s) (x ∷ before) → IsStack s
    → Holds (list_closed p (x ∷ before) c s (after_initialiser x (now_initialisers before (stack_names s))) ts)
hold_closed_list p x before c s ts h st = (
  initialisers_now (stack_names s) (x ∷ before) no_initialisers,
  (initialisers_some before (initialiser_then x no_initialisers) tt, initialisers_hold (stack_names s) (x ∷ before) no_initialisers h tt),
  st,
)

hold_listed : (x : Initialiser) (p : Place) (before : List Initialiser) (s : List Frame) (ts : List TokenMark) → IsInitialiser (stack_names (awaits_initialiser (in_list p before) ∷ s)) x → IsStack (awaits_initialiser (in_list p before) ∷ s)
    → Then (listed x p before s (after_initialiser x (stack_names (awaits_initialiser (in_list p before) ∷ s))) ts)
hold_listed x p before s [] i st = tt
hold_listed x p before s (part comma ∷ ts) i st = (refl, (st.0, i), st.1)
hold_listed x p before s (part close_brace ∷ ts) i st = hold_closed_list p x before false s ts (st.0, i) st.1
hold_listed x p before s (_ ∷ ts) i st = tt

hold_list_followed : (p : Place) (x : Initialiser) (before : List Initialiser) (s : List Frame) (ts : List TokenMark) → InitialisersHold (stack_names s) (x ∷ before) → IsStack s
    → Then (list_followed p (x ∷ before) s (after_initialiser x (now_initialisers before (stack_names s))) ts)
hold_list_followed p x before s [] h st = (refl, tt, (h, st))
hold_list_followed p x before s (part close_brace ∷ ts) h st = hold_closed_list p x before true s ts h st
hold_list_followed p x before s (_ ∷ ts) h st = (refl, tt, (h, st))

hold_initialiser : (x : Initialiser) (s : List Frame) (ts : List TokenMark) → IsInitialiser (stack_names s) x → IsStack s → Then (initialiser_taken x s (after_initialiser x (stack_names s)) ts)
hold_initialiser x [] ts i st = tt
hold_initialiser x (awaits_initialiser (in_list p before) ∷ s) ts i st = hold_listed x p before s ts i st
hold_initialiser x (awaits_initialiser (of_value ws before d p) ∷ s) ts i st = (refl, (st.0.0, (st.0.1, (st.0.2, i))), st.1)
hold_initialiser x (_ ∷ s) ts i st = tt

hold_itemed : (ws : Specifiers) (i : InitDeclarator) (before : List InitDeclarator) (s : List Frame) (ts : List TokenMark) → IsDoing (itemed ws i before) s (stack_names s) ts → IsStack s
    → Then (item_followed ws i before s (after_item (has_typedef ws) i (now_items (has_typedef ws) before (after_specifiers ws (stack_names s)))) ts)
hold_itemed ws i before s [] h st = tt
hold_itemed ws i before s (part comma ∷ ts) h st = (refl, (refl, tt, tt), ((h.0, h.1), st))
hold_itemed ws i before s (sign signs.Semicolon p ∷ ts) h st =
    let n = after_specifiers ws (stack_names s) in
    (items_now (has_typedef ws) n (i ∷ before) [], (h.0, items_hold (has_typedef ws) n (i ∷ before) [] h.1 tt), st)
hold_itemed ws i before s (_ ∷ ts) h st = tt

hold_declaration : (d : Declaration) (s : List Frame) (ts : List TokenMark) → IsDeclaration (stack_names s) d → IsStack s → Then (declaration_taken d s (after_declaration d (stack_names s)) ts)
hold_declaration d [] ts i st = tt
hold_declaration d (awaits_declaration (in_file before) ∷ s) ts i st = (refl, (st.0, i), st.1)
hold_declaration d (awaits_declaration (in_block b) ∷ s) ts i st = (refl, (st.0.0, (st.0.1, i)), st.1)
hold_declaration d (_ ∷ s) ts i st = tt

hold_external : (before : List External) (s : List Frame) (ts : List TokenMark) → ExternalsHold (stack_names s) before → IsStack s → Then (external_begun before s (now_externals before (stack_names s)) ts)
hold_external before s [] h st = tt
hold_external before s (t ∷ ts) h st = (refl, (refl, tt), (tt, (h, st)))

-- ---- statements

hold_block_begun : (i : Inside) (s : List Frame) (ts : List TokenMark) → IsInside (stack_names s) i → IsStack s → Then (block_begun i s (now_declarations i.declarations (stack_names s)) ts)
hold_block_begun i s ts h st = decide (begins_specifiers (now_declarations i.declarations (stack_names s)) ts) _ _ (λ b. (refl, (refl, tt), (tt, (h, st)))) (λ b. (refl, (h, tt), st))

hold_block : (i : Inside) (before : List Statement) (s : List Frame) (ts : List TokenMark) → IsDoing (statements i before) s (stack_names s) ts → IsStack s
    → Then (block_followed i before s (now_statements before (now_declarations i.declarations (stack_names s))) ts)
hold_block i before s [] h st = (refl, tt, (h, st))
hold_block i before s (part close_brace ∷ ts) h st =
    let n = stack_names s in (
      h.0.0,
      (
        (
          declarations_hold n i.declarations [] h.0.1 tt,
          statements_hold _ before no_statements (subst (λ (m : Names). StatementsHold m before) (declarations_now n i.declarations []) h.1) tt,
        ),
        λ x. absurd cc,
      ),
      st,
    )
hold_block i before s (_ ∷ ts) h st = (refl, tt, (h, st))

hold_evaluation : (s : List Frame) (ts : List TokenMark) → IsStack s → Then (evaluation_begun s (stack_names s) ts)
hold_evaluation s ts st = (refl, refl, (tt, st))

hold_sign_stated : (g : Sign) (p : Place) (s : List Frame) (ts : List TokenMark) → IsStack s → Then (sign_stated g p s (stack_names s) ts)
hold_sign_stated signs.LeftBrace p s ts st = (refl, (refl, tt), st)
hold_sign_stated signs.Semicolon p s ts st = (refl, (tt, λ x. absurd cc), st)
hold_sign_stated _ p s ts st = (refl, refl, (tt, st))

hold_word_stated : (k : Keyword) (p : Place) (s : List Frame) (ts : List TokenMark) → IsStack s → Then (word_stated k p s (stack_names s) ts)
hold_word_stated keywords.If p s ts st = (refl, tt, st)
hold_word_stated keywords.While p s ts st = (refl, tt, st)
hold_word_stated keywords.Switch p s ts st = (refl, tt, st)
hold_word_stated keywords.Do p s ts st = (refl, tt, (tt, st))
hold_word_stated keywords.For p s ts st = (refl, tt, st)
hold_word_stated keywords.Break p s ts st = (refl, tt, st)
hold_word_stated keywords.Continue p s ts st = (refl, tt, st)
hold_word_stated keywords.Return p s ts st = (refl, tt, st)
hold_word_stated keywords.Case p s ts st = (refl, refl, (tt, st))
hold_word_stated keywords.Default p s ts st = (refl, tt, st)
hold_word_stated _ p s ts st = (refl, refl, (tt, st))

hold_stated : (s : List Frame) (ts : List TokenMark) → IsStack s → Then (stated s (stack_names s) ts)
hold_stated s [] st = hold_evaluation s [] st
hold_stated s (sign g p ∷ ts) st = hold_sign_stated g p s ts st
hold_stated s (word k p ∷ ts) st = hold_word_stated k p s ts st
hold_stated s (t ∷ ts) st = hold_evaluation s (t ∷ ts) st

hold_started : (p q : Place) (s : List Frame) (ts : List TokenMark) → IsStack s → Then (started p q s (stack_names s) ts)
hold_started p q s [] st = (refl, refl, (tt, st))
hold_started p q s (sign signs.Semicolon r ∷ ts) st = (refl, tt, st)
hold_started p q s (_ ∷ ts) st = (refl, refl, (tt, st))

hold_loop_tested : (p q : Place) (a : Option Expression) (r : Place) (s : List Frame) (ts : List TokenMark) → IsDoing (testing p q a r) s (stack_names s) ts → IsStack s → Then (loop_tested p q a r s (after_optional a (stack_names s)) ts)
hold_loop_tested p q a r s [] i st = (refl, refl, (i, st))
hold_loop_tested p q a r s (sign signs.Semicolon u ∷ ts) i st = (refl, (i, tt), st)
hold_loop_tested p q a r s (_ ∷ ts) i st = (refl, refl, (i, st))

hold_stepped : (l : Loop) (s : List Frame) (ts : List TokenMark) → IsLoop (stack_names s) l → IsStack s → Then (stepped l s (after_optional l.test (after_optional l.start (stack_names s))) ts)
hold_stepped l s [] i st = (refl, refl, (i, st))
hold_stepped l s (part close_paren ∷ ts) i st = (refl, tt, ((i, tt), st))
hold_stepped l s (_ ∷ ts) i st = (refl, refl, (i, st))

hold_returned : (p : Place) (s : List Frame) (ts : List TokenMark) → IsStack s → Then (returned p s (stack_names s) ts)
hold_returned p s [] st = (refl, refl, (tt, st))
hold_returned p s (sign signs.Semicolon q ∷ ts) st = (refl, (tt, λ x. absurd cc), st)
hold_returned p s (_ ∷ ts) st = (refl, refl, (tt, st))

hold_branched : (p q : Place) (e : Expression) (b : Statement) (s : List Frame) (ts : List TokenMark) → IsDoing (gave_statement b) (awaits_statement (then_branch p q e) ∷ s) (after e (stack_names s)) ts → IsStack (awaits_statement (then_branch p q e) ∷ s)
    → Then (branched p q e b s (after_statement b (after e (stack_names s))) ts)
hold_branched p q e b s [] i st = (refl, ((st.0, i.0), λ x. tt), st.1)
hold_branched p q e b s (part else_word ∷ ts) i st = (refl, tt, ((st.0, i.0, false_from_ne_true (takes_else b) i.1), st.1))
hold_branched p q e b s (part close_paren ∷ ts) i st = (refl, ((st.0, i.0), λ x. tt), st.1)
hold_branched p q e b s (_ ∷ ts) i st = (refl, ((st.0, i.0), λ x. tt), st.1)

hold_done : (p : Place) (b : Statement) (s : List Frame) (ts : List TokenMark) → IsStatement (stack_names s) b → IsStack s → Then (done_followed p b s (after_statement b (stack_names s)) ts)
hold_done p b s [] i st = tt
hold_done p b s (word keywords.While r ∷ ts) i st = (refl, i, st)
hold_done p b s (_ ∷ ts) i st = tt

hold_defined : (ws : Specifiers) (d : Declarator) (outside : Names) (b : Statement) (s : List Frame) (ts : List TokenMark) → IsStatement (stack_names (awaits_statement (in_definition ws d outside) ∷ s)) b → IsStack (awaits_statement (in_definition ws d outside) ∷ s)
    → Then (defined ws d outside b s ts)
hold_defined ws d outside (Block p ds ss) [] ts i st = tt
hold_defined ws d outside (Block p ds ss) (awaits_declaration (in_file before) ∷ s) ts i st = (st.0.0, (st.1.0, (st.0.1, st.0.2, i)), st.1.1)
hold_defined ws d outside (Block p ds ss) (_ ∷ s) ts i st = tt
hold_defined ws d outside _ s ts i st = tt

hold_statement : (b : Statement) (f : StatementFrame) (s : List Frame) (ts : List TokenMark) → IsDoing (gave_statement b) (awaits_statement f ∷ s) (stack_names (awaits_statement f ∷ s)) ts → IsStack (awaits_statement f ∷ s) → Then (statement_given b f s (after_statement b (stack_names (awaits_statement f ∷ s))) ts)
hold_statement b (then_branch p q e) s ts i st = hold_branched p q e b s ts i st
hold_statement b (else_branch p q e a) s ts i st = (refl, ((st.0.0, st.0.1, st.0.2, i.0), i.1), st.1)
hold_statement b (while_body p q e) s ts i st = (refl, ((st.0, i.0), i.1), st.1)
hold_statement b (switch_body p q e) s ts i st = (refl, ((st.0, i.0), i.1), st.1)
hold_statement b (do_body p) s ts i st = hold_done p b s ts i.0 st.1
hold_statement b (for_body l c) s ts i st = (refl, ((st.0.0.0, st.0.0.1, st.0.1, i.0), i.1), st.1)
hold_statement b (case_body p e) s ts i st = (refl, ((st.0.0, st.0.1, i.0), i.1), st.1)
hold_statement b (default_body p) s ts i st = (refl, (i.0, i.1), st.1)
hold_statement b (in_statements k before) s ts i st = (refl, (st.0.0, (st.0.1, i.0)), st.1)
hold_statement b (in_definition ws d outside) s ts i st = hold_defined ws d outside b s ts i.0 st

-- ---- every step

holds_at : (d : Doing) (s : List Frame) (ts : List TokenMark) → IsDoing d s (stack_names s) ts → IsStack s → Then (step (state d s (doing_names d (stack_names s)) ts))
holds_at (seek l) s ts i st = hold_sought l s ts i st
holds_at (operated e l) s ts i st = hold_operated e l s ts i st
holds_at (gave e) (awaits_expression f ∷ s) ts i st = hold_expression e f s ts i st
holds_at (gave e) _ ts i st = tt
holds_at (calling e p l) s ts i st = hold_called e p l s ts i st
holds_at (measuring p l) s ts i st = hold_measured p l s ts i st
holds_at (specifying seen before) s ts i st = hold_specified seen before s ts i.0 i.1 st
holds_at (tagging is p seen before) s ts i st = hold_tag is p seen before s ts i.0 i.1 i.2 st
holds_at (tagged is p x seen before) s ts i st = hold_tagged is p x seen before s ts i.0 i.1 i.2 st
holds_at (membering b before) s ts i st = hold_members b before s ts i.0 i.1 st
holds_at (enumerating b before) s ts i st = hold_enumerating b before s ts i.0 i.1 st
holds_at (enumerated b before x) s ts i st = hold_enumerated b before x s ts i.0 i.1 st
holds_at (entered b before e) s ts i st = hold_entered b before e s ts i.0 i.1 st
holds_at (entering b before e) s ts i st = hold_entering b before e s ts i.0 i.1 st
holds_at (gave_specifiers ws) (awaits_specifiers f ∷ s) ts i st = hold_specifiers ws f s ts i st
holds_at (gave_specifiers ws) _ ts i st = tt
holds_at (declaring m needed) s ts i st = hold_declared m needed s ts i st
holds_at (qualifying m p before) s ts i st = hold_qualified m p before s ts i st
holds_at (suffixing m d) s ts i st = hold_suffixed m d s ts i st
holds_at (sizing m d p) s ts i st = hold_sized m d p s ts i st
holds_at (parametering m d p) s ts i st = hold_opened m d p s ts i st
holds_at (gave_declarator d) (awaits_declarator f ∷ s) ts i st = hold_declarator d f s ts i st
holds_at (gave_declarator d) _ ts i st = tt
holds_at initialising s ts i st = hold_initialised s ts st
holds_at (listing p x before) s ts i st = hold_list_followed p x before s ts i st
holds_at (gave_initialiser x) s ts i st = hold_initialiser x s ts i st
holds_at (itemed ws x before) s ts i st = hold_itemed ws x before s ts i st
holds_at (gave_declaration d) s ts i st = hold_declaration d s ts i st
holds_at (externals before) s ts i st = hold_external before s ts i st
holds_at (declarations k) s ts i st = hold_block_begun k s ts i st
holds_at (statements k before) s ts i st = hold_block k before s ts i st
holds_at stating s ts i st = hold_stated s ts st
holds_at (opening h) s ts i st = then_open ts _ (λ p us. (refl, refl, (i, st)))
holds_at (finishing p b r q e) s ts i st = then_semicolon ts _ (λ u us. (refl, ((i.0, i.1), λ x. absurd cc), st))
holds_at (looping p) s ts i st = then_open ts _ (λ q us. (refl, tt, st))
holds_at (starting p q) s ts i st = hold_started p q s ts st
holds_at (testing p q a r) s ts i st = hold_loop_tested p q a r s ts i st
holds_at (stepping l) s ts i st = hold_stepped l s ts i st
holds_at (returning p) s ts i st = hold_returned p s ts st
holds_at (breaking p) s ts i st = then_semicolon ts _ (λ q us. (refl, (tt, λ x. absurd cc), st))
holds_at (continuing p) s ts i st = then_semicolon ts _ (λ q us. (refl, (tt, λ x. absurd cc), st))
holds_at (defaulting p) s ts i st = then_colon ts _ (λ us. (refl, tt, (tt, st)))
holds_at (gave_statement b) (awaits_statement f ∷ s) ts i st = hold_statement b f s ts i st
holds_at (gave_statement b) _ ts i st = tt

pub holds : (d : Doing) (s : List Frame) (names : Names) (ts : List TokenMark) → Holds (state d s names ts) → Then (step (state d s names ts))
holds d s names ts h = subst (λ (n : Names). Then (step (state d s n ts))) (sym h.0) (holds_at d s ts h.1 h.2)
