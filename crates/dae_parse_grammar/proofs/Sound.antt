-- Each step keeps what holds of a state: expressions.
use Rattle.std.proofs.Common.{◌≡◌, ℕ, ◌≤◌, leb, ◌&&◌, if◌then◌else◌, Bool, true, false, List, [], ◌∷◌, Option, Some, None, refl, sym, subst, arith}
use Rattle.dae_base.specs.declared.Place.{Place}
use Rattle.dae_base.proofs.Laws.{and_second, and_first}
use Rattle.dae_tree.specs.declared.words.Keyword.TheVariants as keywords
use Rattle.dae_tree.specs.declared.signs.Sign.{Sign}
use Rattle.dae_tree.specs.declared.signs.Sign.TheVariants as signs
use Rattle.dae_tree.specs.declared.operators.PrefixOperator.{PrefixOperator}
use Rattle.dae_tree.specs.declared.operators.MemberOperator.{MemberOperator}
use Rattle.dae_tree.specs.Operators.{prefix_at}
use Rattle.dae_tree.specs.Marks.{TokenMark, word, sign, name, constant, literal, part, close_paren, close_bracket, comma, colon}
use Rattle.dae_tree.specs.Words.{begins_specifiers}
use Rattle.dae_tree.specs.Names.{Names, is_type, after}
use Rattle.dae_tree.specs.Grammar.{level, IsExpression, Manner, by_name, without_name, either_way, IsGroup, IsNoType, leading_name}
use Rattle.dae_tree.specs.Trees.{Declarator, Sized, Expression, no_expressions, expression_then}
use Rattle.dae_parse_grammar.specs.Frames.{StatementHead, if_head, while_head, switch_head, do_head, Frame, in_group, in_parentheses, in_index, in_arguments, behind_prefix, behind_sizeof, behind_cast, behind_binary, behind_question, behind_colon, behind_assignment, behind_comma, in_size, in_enumerator, in_value, in_evaluation, in_test, in_start, in_loop_test, in_step, in_return, in_case, operated, gave, calling, measuring, ParserState, awaits_expression, awaits_declarator, ExpressionFrame}
use Rattle.dae_parse_grammar.specs.Machine.{Operation, subscript, call, member_of, step_of, binary_of, choice, assignment_of, ends, operation, reach, left_level, goes_on, operate, named_member, operated_at, prefixed, sign_sought, sought, measured, called, argument_given, tested, at_paren, at_bracket, at_colon, at_semicolon, at_open, expression_given}
use Rattle.dae_parse_grammar.specs.Standing.{MayStand, limit, awaited, stack_names, IsStack, IsDoing, IsHead, Holds}
use Rattle.dae_parse_grammar.proofs.Steps.{under_least, operand_least, reach_member, reach_step, reach_assignment}
use Rattle.dae_parse_grammar.proofs.Lists.{arguments_hold, arguments_now}

abbrev pub Then : Option ParserState → Type 0
Then None = Unit {0}
Then (Some s) = Holds s

pub decide : (b : Bool) (x y : Option ParserState) → (b ≡ true → Then x) → (b ≡ false → Then y) → Then (if b then x else y)
decide true x y h k = h refl
decide false x y h k = k refl

pub decide_state : (b : Bool) (x y : ParserState) → (b ≡ true → Holds x) → (b ≡ false → Holds y) → Holds (if b then x else y)
decide_state true x y h k = h refl
decide_state false x y h k = k refl

pub leb_below : (a b : ℕ) → leb a b ≡ true → a ≤ b
leb_below a b h = grind arith

awaited_least : (f : Frame) → 2 ≤ awaited f
awaited_least (awaits_expression (behind_prefix p o l)) = operand_least o
awaited_least (awaits_expression (behind_binary a p o l)) = omega (arith, under_least o)
awaited_least _ = omega arith

limit_least : (s : List Frame) → 2 ≤ limit s
limit_least [] = omega arith
limit_least (f ∷ s) = awaited_least f

group_along : (m : Manner) (n : Names) (d e : Declarator) → leading_name e ≡ leading_name d → IsGroup m n d → IsGroup m n e
group_along by_name n d e q h = tt
group_along without_name n d e q h = subst (IsNoType n) (sym q) h
group_along either_way n d e q h = subst (IsNoType n) (sym q) h

pub stand_along : (s : List Frame) (n : Names) (d e : Declarator) → leading_name e ≡ leading_name d → MayStand s n d → MayStand s n e
stand_along [] n d e q h = tt
stand_along (awaits_declarator (in_group p m) ∷ s) n d e q h = group_along m n d e q h
stand_along (_ ∷ s) n d e q h = tt

-- ---- one token that must stand there

pub then_paren : (ts : List TokenMark) (next : List TokenMark → ParserState) → ((us : List TokenMark) → Holds (next us)) → Then (at_paren ts next)
then_paren [] next h = tt
then_paren (part close_paren ∷ ts) next h = h ts
then_paren (_ ∷ ts) next h = tt

pub then_bracket : (ts : List TokenMark) (next : List TokenMark → ParserState) → ((us : List TokenMark) → Holds (next us)) → Then (at_bracket ts next)
then_bracket [] next h = tt
then_bracket (part close_bracket ∷ ts) next h = h ts
then_bracket (_ ∷ ts) next h = tt

pub then_colon : (ts : List TokenMark) (next : List TokenMark → ParserState) → ((us : List TokenMark) → Holds (next us)) → Then (at_colon ts next)
then_colon [] next h = tt
then_colon (part colon ∷ ts) next h = h ts
then_colon (_ ∷ ts) next h = tt

pub then_semicolon : (ts : List TokenMark) (next : Place → List TokenMark → ParserState) → ((p : Place) (us : List TokenMark) → Holds (next p us)) → Then (at_semicolon ts next)
then_semicolon [] next h = tt
then_semicolon (sign signs.Semicolon p ∷ ts) next h = h p ts
then_semicolon (_ ∷ ts) next h = tt

pub then_open : (ts : List TokenMark) (next : Place → List TokenMark → ParserState) → ((p : Place) (us : List TokenMark) → Holds (next p us)) → Then (at_open ts next)
then_open [] next h = tt
then_open (sign signs.LeftParen p ∷ ts) next h = h p ts
then_open (_ ∷ ts) next h = tt

-- ---- expressions

hold_prefixed : (o : Option PrefixOperator) (p : Place) (l : ℕ) (s : List Frame) (ts : List TokenMark) → l ≡ limit s → IsStack s → Then (prefixed o p l s (stack_names s) ts)
hold_prefixed None p l s ts i st = tt
hold_prefixed (Some o) p l s ts i st = (refl, refl, ((i, omega (arith, i, limit_least s)), st))

hold_sign : (g : Sign) (p : Place) (l : ℕ) (s : List Frame) (ts : List TokenMark) → l ≡ limit s → IsStack s → Then (sign_sought g p l s (stack_names s) ts)
hold_sign signs.LeftParen p l s ts i st =
    decide_state (begins_specifiers (stack_names s) ts && leb 3 l) _ _
    (λ b. (refl, (refl, tt), ((i, leb_below 3 l (and_second (begins_specifiers (stack_names s) ts) (leb 3 l) b)), st)))
    (λ b. (refl, refl, (i, st)))
hold_sign g p l s ts i st = hold_prefixed (prefix_at g) p l s ts i st

pub hold_sought : (l : ℕ) (s : List Frame) (ts : List TokenMark) → l ≡ limit s → IsStack s → Then (sought l s (stack_names s) ts)
hold_sought l s [] i st = tt
hold_sought l s (name x ∷ ts) i st = decide (is_type (stack_names s) x.number) _ _ (λ b. tt) (λ b. (refl, (i, omega arith, b), st))
hold_sought l s (constant p c ∷ ts) i st = (refl, (i, omega arith, tt), st)
hold_sought l s (literal p x ∷ ts) i st = (refl, (i, omega arith, tt), st)
hold_sought l s (word keywords.Sizeof p ∷ ts) i st = (refl, (i, omega (arith, i, limit_least s)), st)
hold_sought l s (word _ p ∷ ts) i st = tt
hold_sought l s (sign g p ∷ ts) i st = hold_sign g p l s ts i st
hold_sought l s (part c ∷ ts) i st = tt

hold_member : (e : Expression) (p : Place) (o : MemberOperator) (l : ℕ) (s : List Frame) (ts : List TokenMark) → l ≡ limit s → 1 ≤ l → level e ≤ 1 → IsExpression (stack_names s) e → IsStack s
    → Then (named_member e p o l s (after e (stack_names s)) ts)
hold_member e p o l s [] i r le x st = tt
hold_member e p o l s (name m ∷ ts) i r le x st = (refl, (i, r, (le, x)), st)
hold_member e p o l s (_ ∷ ts) i r le x st = tt

hold_operate : (o : Operation) (e : Expression) (p : Place) (l : ℕ) (s : List Frame) (ts : List TokenMark) → l ≡ limit s → reach o ≤ l → level e ≤ left_level o → IsExpression (stack_names s) e → IsStack s
    → Then (operate o e p l s (after e (stack_names s)) ts)
hold_operate subscript e p l s ts i r le x st = (refl, refl, ((i, r, le, x), st))
hold_operate call e p l s ts i r le x st = (refl, (i, r, le, x), st)
hold_operate (member_of o) e p l s ts i r le x st = hold_member e p o l s ts i (omega (arith, r, reach_member o)) (omega (arith, le, reach_member o)) x st
hold_operate (step_of o) e p l s ts i r le x st = (refl, (i, omega (arith, r, reach_step o), (omega (arith, le, reach_step o), x)), st)
hold_operate (binary_of o) e p l s ts i r le x st = (refl, refl, ((i, r, le, x), st))
hold_operate choice e p l s ts i r le x st = (refl, refl, ((i, r, le, x), st))
hold_operate (assignment_of o) e p l s ts i r le x st = (refl, refl, ((i, omega (arith, r, reach_assignment o), le, x), st))
hold_operate ends e p l s ts i r le x st = tt

pub hold_operated : (e : Expression) (l : ℕ) (s : List Frame) (ts : List TokenMark) → IsDoing (operated e l) s (stack_names s) ts → IsStack s → Then (operated_at e l s (after e (stack_names s)) ts)
hold_operated e l s [] i st = (refl, (omega (arith, i.0, i.1), i.2), st)
hold_operated e l s (sign g p ∷ ts) i st =
    let o = operation g in
    decide (goes_on o e l) _ _
    (λ b. hold_operate o e p l s ts i.0 (leb_below (reach o) l (and_first (leb (reach o) l) (leb (level e) (left_level o)) b)) (leb_below (level e) (left_level o) (and_second (leb (reach o) l) (leb (level e) (left_level o)) b)) i.2 st)
    (λ b. (refl, (omega (arith, i.0, i.1), i.2), st))
hold_operated e l s (part comma ∷ ts) i st = decide (leb 16 l) _ _ (λ b. (refl, refl, ((i.0, leb_below 16 l b, i.2), st))) (λ b. (refl, (omega (arith, i.0, i.1), i.2), st))
hold_operated e l s (_ ∷ ts) i st = (refl, (omega (arith, i.0, i.1), i.2), st)

pub hold_called : (e : Expression) (p : Place) (l : ℕ) (s : List Frame) (ts : List TokenMark) → IsDoing (calling e p l) s (stack_names s) ts → IsStack s → Then (called e p l s (after e (stack_names s)) ts)
hold_called e p l s [] i st = (refl, refl, ((i.0, i.1, i.2, i.3, tt), st))
hold_called e p l s (part close_paren ∷ ts) i st = (refl, (i.0, i.1, (i.2, i.3, tt)), st)
hold_called e p l s (_ ∷ ts) i st = (refl, refl, ((i.0, i.1, i.2, i.3, tt), st))

pub hold_measured : (p : Place) (l : ℕ) (s : List Frame) (ts : List TokenMark) → IsDoing (measuring p l) s (stack_names s) ts → IsStack s → Then (measured p l s (stack_names s) ts)
hold_measured p l s [] i st = (refl, refl, ((i.0, i.1), st))
hold_measured p l s (sign signs.LeftParen q ∷ ts) i st = decide (begins_specifiers (stack_names s) ts) _ _ (λ b. (refl, (refl, tt), ((i.0, i.1), st))) (λ b. (refl, refl, ((i.0, i.1), st)))
hold_measured p l s (_ ∷ ts) i st = (refl, refl, ((i.0, i.1), st))

hold_argument : (a g : Expression) (p : Place) (before : List Expression) (l : ℕ) (s : List Frame) (ts : List TokenMark)
    → IsDoing (gave a) (awaits_expression (in_arguments g p before l) ∷ s) (stack_names (awaits_expression (in_arguments g p before l) ∷ s)) ts → IsStack (awaits_expression (in_arguments g p before l) ∷ s)
    → Then (argument_given a g p before l s (after a (stack_names (awaits_expression (in_arguments g p before l) ∷ s))) ts)
hold_argument a g p before l s [] i st = tt
hold_argument a g p before l s (part comma ∷ ts) i st = (refl, refl, ((st.0.0, st.0.1, st.0.2, st.0.3, (st.0.4, i.0, i.1)), st.1))
hold_argument a g p before l s (part close_paren ∷ ts) i st = (
  arguments_now (after g (stack_names s)) before (expression_then a no_expressions),
  (st.0.0, st.0.1, (st.0.2, st.0.3, arguments_hold (after g (stack_names s)) before (expression_then a no_expressions) st.0.4 (i.0, i.1, tt))),
  st.1,
)
hold_argument a g p before l s (_ ∷ ts) i st = tt

hold_tested : (h : StatementHead) (p : Place) (e : Expression) (s : List Frame) (ts : List TokenMark) → IsExpression (stack_names (awaits_expression (in_test h p) ∷ s)) e → IsHead (stack_names s) h → IsStack s
    → Holds (tested h p e s (after e (stack_names (awaits_expression (in_test h p) ∷ s))) ts)
hold_tested (if_head q) p e s ts i h st = (refl, tt, (i, st))
hold_tested (while_head q) p e s ts i h st = (refl, tt, (i, st))
hold_tested (switch_head q) p e s ts i h st = (refl, tt, (i, st))
hold_tested (do_head q b r) p e s ts i h st = (refl, (h, i), st)

pub hold_expression : (e : Expression) (f : ExpressionFrame) (s : List Frame) (ts : List TokenMark) → IsDoing (gave e) (awaits_expression f ∷ s) (stack_names (awaits_expression f ∷ s)) ts → IsStack (awaits_expression f ∷ s) → Then (expression_given e f s (after e (stack_names (awaits_expression f ∷ s))) ts)
hold_expression e (in_parentheses p l) s ts i st = then_paren ts _ (λ us. (refl, (st.0, omega arith, i.1), st.1))
hold_expression e (in_index a p l) s ts i st = then_bracket ts _ (λ us. (refl, (st.0.0, st.0.1, (st.0.2, st.0.3, i.1)), st.1))
hold_expression e (in_arguments g p before l) s ts i st = hold_argument e g p before l s ts i st
hold_expression e (behind_prefix p o l) s ts i st = (refl, (st.0.0, st.0.1, (i.0, i.1)), st.1)
hold_expression e (behind_sizeof p l) s ts i st = (refl, (st.0.0, st.0.1, (i.0, i.1)), st.1)
hold_expression e (behind_cast p ws d l) s ts i st = (refl, (st.0.0, st.0.1, (st.0.2, st.0.3, i.0, i.1)), st.1)
hold_expression e (behind_binary a p o l) s ts i st = (refl, (st.0.0, st.0.1, (st.0.2, i.0, st.0.3, i.1)), st.1)
hold_expression e (behind_question a p l) s ts i st = then_colon ts _ (λ us. (refl, refl, ((st.0.0, st.0.1, st.0.2, st.0.3, i.1), st.1)))
hold_expression e (behind_colon a p b l) s ts i st = (refl, (st.0.0, st.0.1, (st.0.2, i.0, st.0.3, st.0.4, i.1)), st.1)
hold_expression e (behind_assignment a p o l) s ts i st = (refl, (st.0.0, st.0.1, (st.0.2, i.0, st.0.3, i.1)), st.1)
hold_expression e (behind_comma a l) s ts i st = (refl, (st.0.0, st.0.1, (i.0, st.0.2, i.1)), st.1)
hold_expression e (in_size d p m) s ts i st = then_bracket ts _ (λ us. (refl, ((st.0.0, tt, (st.0.1, st.0.2, i.0, i.1), stand_along s (stack_names s) d (Sized d p e) refl st.0.3), tt), st.1))
hold_expression e (in_enumerator b before x p) s ts i st = (refl, (st.0.0, (st.0.1, (i.0, i.1))), st.1)
hold_expression e in_value s ts i st = (refl, (i.0, i.1), st.1)
hold_expression e in_evaluation s ts i st = then_semicolon ts _ (λ p us. (refl, (i.1, λ x. absurd cc), st.1))
hold_expression e (in_test h p) s ts i st = then_paren ts _ (λ us. hold_tested h p e s us i.1 st.0 st.1)
hold_expression e (in_start p q) s ts i st = then_semicolon ts _ (λ r us. (refl, i.1, st.1))
hold_expression e (in_loop_test p q a r) s ts i st = then_semicolon ts _ (λ u us. (refl, (st.0, i.1), st.1))
hold_expression e (in_step loop) s ts i st = then_paren ts _ (λ us. (refl, tt, ((st.0, i.1), st.1)))
hold_expression e (in_return p) s ts i st = then_semicolon ts _ (λ q us. (refl, (i.1, λ x. absurd cc), st.1))
hold_expression e (in_case p) s ts i st = then_colon ts _ (λ us. (refl, tt, ((i.0, i.1), st.1)))
