-- What a step of the machine looks at: the first token that is left; where that is `(`, `.` or `->`, the next as well.
use Rattle.std.proofs.Common.{◌≡◌, ℕ, zero, suc, ◌≤◌, leb, ◌&&◌, not, if◌then◌else◌, Bool, true, false, List, [], ◌∷◌, ◌++◌, length, Option, Some, None, ◌⊎◌, inl, inr, refl, sym, ap, subst, ◌∙◌, append_assoc, arith}
use Rattle.dae_base.specs.declared.Place.{Place}
use Rattle.dae_tree.specs.declared.words.Keyword.{Keyword}
use Rattle.dae_tree.specs.declared.words.Keyword.TheVariants as keywords
use Rattle.dae_tree.specs.declared.signs.Sign.{Sign}
use Rattle.dae_tree.specs.declared.signs.Sign.TheVariants as signs
use Rattle.dae_tree.specs.declared.expressions.Name.{Name}
use Rattle.dae_tree.specs.declared.operators.PrefixOperator.{PrefixOperator}
use Rattle.dae_tree.specs.declared.operators.MemberOperator.{MemberOperator}
use Rattle.dae_tree.specs.Operators.{prefix_at}
use Rattle.dae_tree.specs.declared.seen.Seen.{Seen}
use Rattle.dae_tree.specs.Marks.{TokenMark, word, sign, name, constant, literal, part, close_paren, close_bracket, close_brace, comma, colon, else_word}
use Rattle.dae_tree.specs.Words.{has_type, admits, begins_specifiers}
use Rattle.dae_tree.specs.Names.{Names, is_type, has_typedef, with_declarator}
use Rattle.dae_tree.specs.Grammar.{Manner, by_name, without_name, either_way}
use Rattle.dae_tree.specs.Lists.{MemberLine, EnumEntry, Parameter}
use Rattle.dae_tree.specs.Statements.{IsTreeOf}
use Rattle.dae_tree.specs.Trees.{Expression, Specifiers, Specifier, Declarator, Initialiser, InitDeclarator, Declaration, Statement, External, Block}
use Rattle.dae_parse_grammar.specs.Frames.{TypeBody, OpenParameters, StatementHead, Loop, Inside, if_head, while_head, switch_head, do_head, Frame, in_parentheses, in_index, in_arguments, behind_prefix, behind_sizeof, behind_cast, behind_binary, behind_question, behind_colon, behind_assignment, behind_comma, in_size, in_enumerator, in_value, in_evaluation, in_test, in_start, in_loop_test, in_step, in_return, in_case, for_cast, for_sizeof, for_parameter, for_member, for_declaration, behind_star, in_group, of_cast, of_sizeof, of_parameter, of_member, of_item, in_list, of_value, in_file, in_block, then_branch, else_branch, while_body, switch_body, do_body, for_body, case_body, default_body, in_statements, in_definition, Doing, seek, operated, gave, calling, measuring, specifying, tagging, tagged, membering, enumerating, enumerated, entered, entering, gave_specifiers, declaring, qualifying, suffixing, sizing, parametering, gave_declarator, initialising, listing, gave_initialiser, itemed, gave_declaration, externals, declarations, statements, stating, opening, finishing, looping, starting, testing, stepping, returning, breaking, continuing, defaulting, gave_statement, ParserState, state, awaits_expression, awaits_specifiers, awaits_declarator, awaits_initialiser, awaits_declaration, awaits_statement, ExpressionFrame, SpecifiersFrame, DeclaratorFrame, StatementFrame}
use Rattle.dae_parse_grammar.specs.Machine.{initialised, listed, list_followed, initialiser_taken, item_followed, declaration_taken, external_begun, block_begun, block_followed, sign_stated, word_stated, stated, started, loop_tested, stepped, returned, branched, done_followed, defined, statement_given, called, measured, enumerator_named, enumerator_followed, declaration_begun, specifiers_given, nothing_declared, begins_parameters, parenthesis_declared, bracket_declared, name_declared, declared, declarator_given, qualified, suffixed, sized, parameters_opened, parameter_given, member_given, item_given, at_paren, at_bracket, at_colon, at_semicolon, at_open, parenthesis_at, prefixed, sign_sought, sought, named_member, operated_at, argument_given, tested, expression_given, specifiers_end, word_taken, specified, body, body_opened, tag_taken, tag_followed, members_followed, entry_followed, comma_followed, step, step_at, operation, operate, goes_on, begun, Operation, subscript, call, member_of, step_of, binary_of, choice, assignment_of, ends}
use Rattle.dae_parse_grammar.specs.Runs.{run}
use Rattle.dae_parse_grammar.specs.Stuck.{behind, rest_of, stuck}
use Rattle.dae_parse_grammar.proofs.Runs.{stopped}

-- ---- the tokens that are left: none, or a first one before others

abbrev front : Option TokenMark → List TokenMark → List TokenMark
front None us = []
front (Some t) us = t ∷ us

-- states that are the same but for what is left: behind the first token, or with it
abbrev Same : Option TokenMark → List TokenMark → List TokenMark → ParserState → ParserState → Type 0
Same o us vs (state d s n rs) (state e r m qs) = (d ≡ e) × (s ≡ r) × (n ≡ m) × (((rs ≡ us) × (qs ≡ vs)) ⊎ ((rs ≡ front o us) × (qs ≡ front o vs)))

abbrev Alike : Option TokenMark → List TokenMark → List TokenMark → Option ParserState → Option ParserState → Type 0
Alike o us vs None None = Unit {0}
Alike o us vs (Some a) (Some b) = Same o us vs a b
Alike o us vs _ _ = ⊥

branch : (o : Option TokenMark) (us vs : List TokenMark) (b : Bool) (x y z w : Option ParserState) → Alike o us vs x y → Alike o us vs z w → Alike o us vs (if b then x else z) (if b then y else w)
branch o us vs true x y z w h k = h
branch o us vs false x y z w h k = k

either : (o : Option TokenMark) (us vs : List TokenMark) (b c : Bool) (x y z w : Option ParserState) → b ≡ c → Alike o us vs x y → Alike o us vs z w → Alike o us vs (if b then x else z) (if c then y else w)
either o us vs true true x y z w e h k = h
either o us vs false false x y z w e h k = k
either o us vs true false x y z w e h k = absurd cc
either o us vs false true x y z w e h k = absurd cc

-- what begins specifiers or parameters is seen by the first token
same_begin : (names : Names) (o : Option TokenMark) (us vs : List TokenMark) → begins_specifiers names (front o us) ≡ begins_specifiers names (front o vs)
same_begin names None us vs = refl
same_begin names (Some (word k p)) us vs = refl
same_begin names (Some (name n)) us vs = refl
same_begin names (Some _) us vs = refl

same_parameters : (names : Names) (t : TokenMark) (us vs : List TokenMark) → begins_parameters names (t ∷ us) ≡ begins_parameters names (t ∷ vs)
same_parameters names (part close_paren) us vs = refl
same_parameters names (word k p) us vs = refl
same_parameters names (name n) us vs = refl
same_parameters names _ us vs = refl

abbrev IsOpen : Option TokenMark → Type 0
IsOpen (Some (sign signs.LeftParen p)) = Unit {0}
IsOpen _ = ⊥

abbrev SameAhead : List TokenMark → List TokenMark → Type 0
SameAhead us vs = (names : Names) → (begins_specifiers names us ≡ begins_specifiers names vs) × (begins_parameters names us ≡ begins_parameters names vs)

abbrev IsMember : Operation → Type 0
IsMember (member_of o) = Unit {0}
IsMember _ = ⊥

abbrev IsMemberSign : Option TokenMark → Type 0
IsMemberSign (Some (sign g p)) = IsMember (operation g)
IsMemberSign _ = ⊥

abbrev IsOperated : Doing → Type 0
IsOperated (operated e l) = Unit {0}
IsOperated _ = ⊥

-- where a parenthesis is looked behind
abbrev IsAhead : Doing → Type 0
IsAhead (seek l) = Unit {0}
IsAhead (measuring p l) = Unit {0}
IsAhead (declaring m needed) = Unit {0}
IsAhead _ = ⊥

-- ---- one token that must stand there

local_paren : (next : List TokenMark → ParserState) → ((o : Option TokenMark) (us vs : List TokenMark) → Same o us vs (next us) (next vs)) → (o : Option TokenMark) (us vs : List TokenMark) → Alike o us vs (at_paren (front o us) next) (at_paren (front o vs) next)
local_paren next h None us vs = tt
local_paren next h (Some (part close_paren)) us vs = h (Some (part close_paren)) us vs
local_paren next h (Some _) us vs = tt

local_bracket : (next : List TokenMark → ParserState) → ((o : Option TokenMark) (us vs : List TokenMark) → Same o us vs (next us) (next vs)) → (o : Option TokenMark) (us vs : List TokenMark) → Alike o us vs (at_bracket (front o us) next) (at_bracket (front o vs) next)
local_bracket next h None us vs = tt
local_bracket next h (Some (part close_bracket)) us vs = h (Some (part close_bracket)) us vs
local_bracket next h (Some _) us vs = tt

local_colon : (next : List TokenMark → ParserState) → ((o : Option TokenMark) (us vs : List TokenMark) → Same o us vs (next us) (next vs)) → (o : Option TokenMark) (us vs : List TokenMark) → Alike o us vs (at_colon (front o us) next) (at_colon (front o vs) next)
local_colon next h None us vs = tt
local_colon next h (Some (part colon)) us vs = h (Some (part colon)) us vs
local_colon next h (Some _) us vs = tt

local_semicolon : (next : Place → List TokenMark → ParserState) → ((q : Place) (o : Option TokenMark) (us vs : List TokenMark) → Same o us vs (next q us) (next q vs)) → (o : Option TokenMark) (us vs : List TokenMark) → Alike o us vs (at_semicolon (front o us) next) (at_semicolon (front o vs) next)
local_semicolon next h None us vs = tt
local_semicolon next h (Some (sign signs.Semicolon q)) us vs = h q (Some (sign signs.Semicolon q)) us vs
local_semicolon next h (Some _) us vs = tt

local_open : (next : Place → List TokenMark → ParserState) → ((q : Place) (o : Option TokenMark) (us vs : List TokenMark) → Same o us vs (next q us) (next q vs)) → (o : Option TokenMark) (us vs : List TokenMark) → Alike o us vs (at_open (front o us) next) (at_open (front o vs) next)
local_open next h None us vs = tt
local_open next h (Some (sign signs.LeftParen q)) us vs = h q (Some (sign signs.LeftParen q)) us vs
local_open next h (Some _) us vs = tt

-- ---- expressions

cast_or_group : (b c x : Bool) (d e : Doing) (f g : Frame) (p : Place) (s : List Frame) (names : Names) (us vs : List TokenMark) → b ≡ c
    → Same (Some (sign signs.LeftParen p)) us vs (if b && x then state d (f ∷ s) names us else state e (g ∷ s) names us) (if c && x then state d (f ∷ s) names vs else state e (g ∷ s) names vs)
cast_or_group true true true d e f g p s names us vs h = (refl, refl, refl, inl (refl, refl))
cast_or_group true true false d e f g p s names us vs h = (refl, refl, refl, inl (refl, refl))
cast_or_group false false x d e f g p s names us vs h = (refl, refl, refl, inl (refl, refl))
cast_or_group true false x d e f g p s names us vs h = absurd cc
cast_or_group false true x d e f g p s names us vs h = absurd cc

local_prefixed : (o : Option PrefixOperator) (t : TokenMark) (p : Place) (l : ℕ) (s : List Frame) (names : Names) (us vs : List TokenMark) → Alike (Some t) us vs (prefixed o p l s names us) (prefixed o p l s names vs)
local_prefixed None t p l s names us vs = tt
local_prefixed (Some o) t p l s names us vs = (refl, refl, refl, inl (refl, refl))

local_sign : (g : Sign) (p : Place) (l : ℕ) (s : List Frame) (names : Names) (us vs : List TokenMark) → (IsOpen (Some (sign g p)) → SameAhead us vs) → Alike (Some (sign g p)) us vs (sign_sought g p l s names us) (sign_sought g p l s names vs)
local_sign signs.LeftParen p l s names us vs h = cast_or_group (begins_specifiers names us) (begins_specifiers names vs) (leb 3 l) _ _ _ _ p s names us vs (h tt names).0
local_sign g p l s names us vs h = local_prefixed (prefix_at g) (sign g p) p l s names us vs

local_sought : (l : ℕ) (s : List Frame) (names : Names) (o : Option TokenMark) (us vs : List TokenMark) → (IsOpen o → SameAhead us vs) → Alike o us vs (sought l s names (front o us)) (sought l s names (front o vs))
local_sought l s names None us vs h = tt
local_sought l s names (Some (name n)) us vs h = branch (Some (name n)) us vs (is_type names n.number) _ _ _ _ tt (refl, refl, refl, inl (refl, refl))
local_sought l s names (Some (constant p c)) us vs h = (refl, refl, refl, inl (refl, refl))
local_sought l s names (Some (literal p n)) us vs h = (refl, refl, refl, inl (refl, refl))
local_sought l s names (Some (word keywords.Sizeof p)) us vs h = (refl, refl, refl, inl (refl, refl))
local_sought l s names (Some (word _ p)) us vs h = tt
local_sought l s names (Some (sign g p)) us vs h = local_sign g p l s names us vs h
local_sought l s names (Some (part c)) us vs h = tt

local_operate : (o : Operation) (g : Sign) (e : Expression) (p : Place) (l : ℕ) (s : List Frame) (names : Names) (us vs : List TokenMark) → (IsMember o → ⊥) → Alike (Some (sign g p)) us vs (operate o e p l s names us) (operate o e p l s names vs)
local_operate subscript g e p l s names us vs h = (refl, refl, refl, inl (refl, refl))
local_operate call g e p l s names us vs h = (refl, refl, refl, inl (refl, refl))
local_operate (member_of o) g e p l s names us vs h = absurd (h tt)
local_operate (step_of o) g e p l s names us vs h = (refl, refl, refl, inl (refl, refl))
local_operate (binary_of o) g e p l s names us vs h = (refl, refl, refl, inl (refl, refl))
local_operate choice g e p l s names us vs h = (refl, refl, refl, inl (refl, refl))
local_operate (assignment_of o) g e p l s names us vs h = (refl, refl, refl, inl (refl, refl))
local_operate ends g e p l s names us vs h = tt

local_operated : (e : Expression) (l : ℕ) (s : List Frame) (names : Names) (o : Option TokenMark) (us vs : List TokenMark) → (IsMemberSign o → ⊥) → Alike o us vs (operated_at e l s names (front o us)) (operated_at e l s names (front o vs))
local_operated e l s names None us vs h = (refl, refl, refl, inr (refl, refl))
local_operated e l s names (Some (sign g p)) us vs h = branch (Some (sign g p)) us vs (goes_on (operation g) e l) _ _ _ _ (local_operate (operation g) g e p l s names us vs h) (refl, refl, refl, inr (refl, refl))
local_operated e l s names (Some (part comma)) us vs h = branch (Some (part comma)) us vs (leb 16 l) _ _ _ _ (refl, refl, refl, inl (refl, refl)) (refl, refl, refl, inr (refl, refl))
local_operated e l s names (Some _) us vs h = (refl, refl, refl, inr (refl, refl))

local_measured : (p : Place) (l : ℕ) (s : List Frame) (names : Names) (o : Option TokenMark) (us vs : List TokenMark) → (IsOpen o → SameAhead us vs) → Alike o us vs (measured p l s names (front o us)) (measured p l s names (front o vs))
local_measured p l s names None us vs h = (refl, refl, refl, inr (refl, refl))
local_measured p l s names (Some (sign signs.LeftParen q)) us vs h = either (Some (sign signs.LeftParen q)) us vs (begins_specifiers names us) (begins_specifiers names vs) _ _ _ _ (h tt names).0 (refl, refl, refl, inl (refl, refl)) (refl, refl, refl, inr (refl, refl))
local_measured p l s names (Some _) us vs h = (refl, refl, refl, inr (refl, refl))

local_called : (e : Expression) (p : Place) (l : ℕ) (s : List Frame) (names : Names) (o : Option TokenMark) (us vs : List TokenMark) → Alike o us vs (called e p l s names (front o us)) (called e p l s names (front o vs))
local_called e p l s names None us vs = (refl, refl, refl, inr (refl, refl))
local_called e p l s names (Some (part close_paren)) us vs = (refl, refl, refl, inl (refl, refl))
local_called e p l s names (Some _) us vs = (refl, refl, refl, inr (refl, refl))

local_argument : (a g : Expression) (p : Place) (before : List Expression) (l : ℕ) (s : List Frame) (names : Names) (o : Option TokenMark) (us vs : List TokenMark) → Alike o us vs (argument_given a g p before l s names (front o us)) (argument_given a g p before l s names (front o vs))
local_argument a g p before l s names None us vs = tt
local_argument a g p before l s names (Some (part comma)) us vs = (refl, refl, refl, inl (refl, refl))
local_argument a g p before l s names (Some (part close_paren)) us vs = (refl, refl, refl, inl (refl, refl))
local_argument a g p before l s names (Some _) us vs = tt

same_tested : (h : StatementHead) (p : Place) (e : Expression) (s : List Frame) (names : Names) (o : Option TokenMark) (us vs : List TokenMark) → Same o us vs (tested h p e s names us) (tested h p e s names vs)
same_tested (if_head q) p e s names o us vs = (refl, refl, refl, inl (refl, refl))
same_tested (while_head q) p e s names o us vs = (refl, refl, refl, inl (refl, refl))
same_tested (switch_head q) p e s names o us vs = (refl, refl, refl, inl (refl, refl))
same_tested (do_head q b r) p e s names o us vs = (refl, refl, refl, inl (refl, refl))

local_expression : (e : Expression) (f : ExpressionFrame) (s : List Frame) (names : Names) (o : Option TokenMark) (us vs : List TokenMark) → Alike o us vs (expression_given e f s names (front o us)) (expression_given e f s names (front o vs))
local_expression e (in_parentheses p l) s names o us vs = local_paren _ (λ o us vs. (refl, refl, refl, inl (refl, refl))) o us vs
local_expression e (in_index a p l) s names o us vs = local_bracket _ (λ o us vs. (refl, refl, refl, inl (refl, refl))) o us vs
local_expression e (in_arguments g p before l) s names o us vs = local_argument e g p before l s names o us vs
local_expression e (behind_prefix p u l) s names o us vs = (refl, refl, refl, inr (refl, refl))
local_expression e (behind_sizeof p l) s names o us vs = (refl, refl, refl, inr (refl, refl))
local_expression e (behind_cast p ws d l) s names o us vs = (refl, refl, refl, inr (refl, refl))
local_expression e (behind_binary a p u l) s names o us vs = (refl, refl, refl, inr (refl, refl))
local_expression e (behind_question a p l) s names o us vs = local_colon _ (λ o us vs. (refl, refl, refl, inl (refl, refl))) o us vs
local_expression e (behind_colon a p b l) s names o us vs = (refl, refl, refl, inr (refl, refl))
local_expression e (behind_assignment a p u l) s names o us vs = (refl, refl, refl, inr (refl, refl))
local_expression e (behind_comma a l) s names o us vs = (refl, refl, refl, inr (refl, refl))
local_expression e (in_size d p m) s names o us vs = local_bracket _ (λ o us vs. (refl, refl, refl, inl (refl, refl))) o us vs
local_expression e (in_enumerator b before n p) s names o us vs = (refl, refl, refl, inr (refl, refl))
local_expression e in_value s names o us vs = (refl, refl, refl, inr (refl, refl))
local_expression e in_evaluation s names o us vs = local_semicolon _ (λ q o us vs. (refl, refl, refl, inl (refl, refl))) o us vs
local_expression e (in_test h p) s names o us vs = local_paren _ (λ o us vs. same_tested h p e s names o us vs) o us vs
local_expression e (in_start p q) s names o us vs = local_semicolon _ (λ q o us vs. (refl, refl, refl, inl (refl, refl))) o us vs
local_expression e (in_loop_test p q a r) s names o us vs = local_semicolon _ (λ q o us vs. (refl, refl, refl, inl (refl, refl))) o us vs
local_expression e (in_step loop) s names o us vs = local_paren _ (λ o us vs. (refl, refl, refl, inl (refl, refl))) o us vs
local_expression e (in_return p) s names o us vs = local_semicolon _ (λ q o us vs. (refl, refl, refl, inl (refl, refl))) o us vs
local_expression e (in_case p) s names o us vs = local_colon _ (λ o us vs. (refl, refl, refl, inl (refl, refl))) o us vs

-- ---- specifiers

local_end : (seen : Seen) (before : List Specifier) (s : List Frame) (names : Names) (o : Option TokenMark) (us vs : List TokenMark) → Alike o us vs (specifiers_end seen before s names (front o us)) (specifiers_end seen before s names (front o vs))
local_end seen before s names o us vs = branch o us vs (has_type seen) _ _ _ _ (refl, refl, refl, inr (refl, refl)) tt

same_word : (k : Keyword) (p : Place) (seen : Seen) (before : List Specifier) (s : List Frame) (names : Names) (o : Option TokenMark) (us vs : List TokenMark) → Same o us vs (word_taken k p seen before s names us) (word_taken k p seen before s names vs)
same_word keywords.Struct p seen before s names o us vs = (refl, refl, refl, inl (refl, refl))
same_word keywords.Enum p seen before s names o us vs = (refl, refl, refl, inl (refl, refl))
same_word _ p seen before s names o us vs = (refl, refl, refl, inl (refl, refl))

same_body : (is : Bool) (p : Place) (tag : Option Name) (q : Place) (seen : Seen) (before : List Specifier) (s : List Frame) (names : Names) (o : Option TokenMark) (us vs : List TokenMark)
    → Same o us vs (body_opened is (body p tag q seen before) s names us) (body_opened is (body p tag q seen before) s names vs)
same_body true p tag q seen before s names o us vs = (refl, refl, refl, inl (refl, refl))
same_body false p tag q seen before s names o us vs = (refl, refl, refl, inl (refl, refl))

local_specified : (seen : Seen) (before : List Specifier) (s : List Frame) (names : Names) (o : Option TokenMark) (us vs : List TokenMark) → Alike o us vs (specified seen before s names (front o us)) (specified seen before s names (front o vs))
local_specified seen before s names None us vs = local_end seen before s names None us vs
local_specified seen before s names (Some (word k p)) us vs = branch (Some (word k p)) us vs (admits seen k) _ _ _ _ (same_word k p seen before s names (Some (word k p)) us vs) (local_end seen before s names (Some (word k p)) us vs)
local_specified seen before s names (Some (name n)) us vs = branch (Some (name n)) us vs (not (has_type seen) && is_type names n.number) _ _ _ _ (refl, refl, refl, inl (refl, refl)) (local_end seen before s names (Some (name n)) us vs)
local_specified seen before s names (Some t) us vs = local_end seen before s names (Some t) us vs

local_tag : (is : Bool) (p : Place) (seen : Seen) (before : List Specifier) (s : List Frame) (names : Names) (o : Option TokenMark) (us vs : List TokenMark) → Alike o us vs (tag_taken is p seen before s names (front o us)) (tag_taken is p seen before s names (front o vs))
local_tag is p seen before s names None us vs = tt
local_tag is p seen before s names (Some (name n)) us vs = (refl, refl, refl, inl (refl, refl))
local_tag is p seen before s names (Some (sign signs.LeftBrace q)) us vs = same_body is p None q seen before s names (Some (sign signs.LeftBrace q)) us vs
local_tag is p seen before s names (Some _) us vs = tt

local_tagged : (is : Bool) (p : Place) (n : Name) (seen : Seen) (before : List Specifier) (s : List Frame) (names : Names) (o : Option TokenMark) (us vs : List TokenMark) → Alike o us vs (tag_followed is p n seen before s names (front o us)) (tag_followed is p n seen before s names (front o vs))
local_tagged is p n seen before s names None us vs = (refl, refl, refl, inr (refl, refl))
local_tagged is p n seen before s names (Some (sign signs.LeftBrace q)) us vs = same_body is p (Some n) q seen before s names (Some (sign signs.LeftBrace q)) us vs
local_tagged is p n seen before s names (Some _) us vs = (refl, refl, refl, inr (refl, refl))

local_members : (b : TypeBody) (before : List MemberLine) (s : List Frame) (names : Names) (o : Option TokenMark) (us vs : List TokenMark) → Alike o us vs (members_followed b before s names (front o us)) (members_followed b before s names (front o vs))
local_members b [] s names None us vs = (refl, refl, refl, inr (refl, refl))
local_members b [] s names (Some (part close_brace)) us vs = (refl, refl, refl, inr (refl, refl))
local_members b [] s names (Some _) us vs = (refl, refl, refl, inr (refl, refl))
local_members b (m ∷ before) s names None us vs = (refl, refl, refl, inr (refl, refl))
local_members b (m ∷ before) s names (Some (part close_brace)) us vs = (refl, refl, refl, inl (refl, refl))
local_members b (m ∷ before) s names (Some _) us vs = (refl, refl, refl, inr (refl, refl))

local_enumerating : (b : TypeBody) (before : List EnumEntry) (s : List Frame) (names : Names) (o : Option TokenMark) (us vs : List TokenMark) → Alike o us vs (enumerator_named b before s names (front o us)) (enumerator_named b before s names (front o vs))
local_enumerating b before s names None us vs = tt
local_enumerating b before s names (Some (name n)) us vs = (refl, refl, refl, inl (refl, refl))
local_enumerating b before s names (Some _) us vs = tt

local_enumerated : (b : TypeBody) (before : List EnumEntry) (n : Name) (s : List Frame) (names : Names) (o : Option TokenMark) (us vs : List TokenMark) → Alike o us vs (enumerator_followed b before n s names (front o us)) (enumerator_followed b before n s names (front o vs))
local_enumerated b before n s names None us vs = (refl, refl, refl, inr (refl, refl))
local_enumerated b before n s names (Some (sign signs.Assign q)) us vs = (refl, refl, refl, inl (refl, refl))
local_enumerated b before n s names (Some _) us vs = (refl, refl, refl, inr (refl, refl))

local_entered : (b : TypeBody) (before : List EnumEntry) (e : EnumEntry) (s : List Frame) (names : Names) (o : Option TokenMark) (us vs : List TokenMark) → Alike o us vs (entry_followed b before e s names (front o us)) (entry_followed b before e s names (front o vs))
local_entered b before e s names None us vs = tt
local_entered b before e s names (Some (part comma)) us vs = (refl, refl, refl, inl (refl, refl))
local_entered b before e s names (Some (part close_brace)) us vs = (refl, refl, refl, inl (refl, refl))
local_entered b before e s names (Some _) us vs = tt

local_entering : (b : TypeBody) (before : List EnumEntry) (e : EnumEntry) (s : List Frame) (names : Names) (o : Option TokenMark) (us vs : List TokenMark) → Alike o us vs (comma_followed b before e s names (front o us)) (comma_followed b before e s names (front o vs))
local_entering b before e s names None us vs = (refl, refl, refl, inr (refl, refl))
local_entering b before e s names (Some (part close_brace)) us vs = (refl, refl, refl, inl (refl, refl))
local_entering b before e s names (Some _) us vs = (refl, refl, refl, inr (refl, refl))

local_declaration_begun : (outer : Bool) (ws : Specifiers) (s : List Frame) (names : Names) (o : Option TokenMark) (us vs : List TokenMark) → Alike o us vs (declaration_begun outer ws s names (front o us)) (declaration_begun outer ws s names (front o vs))
local_declaration_begun outer ws s names None us vs = (refl, refl, refl, inr (refl, refl))
local_declaration_begun outer ws s names (Some (sign signs.Semicolon q)) us vs = (refl, refl, refl, inl (refl, refl))
local_declaration_begun outer ws s names (Some _) us vs = (refl, refl, refl, inr (refl, refl))

local_specifiers : (ws : Specifiers) (f : SpecifiersFrame) (s : List Frame) (names : Names) (o : Option TokenMark) (us vs : List TokenMark) → Alike o us vs (specifiers_given ws f s names (front o us)) (specifiers_given ws f s names (front o vs))
local_specifiers ws (for_cast p l) s names o us vs = (refl, refl, refl, inr (refl, refl))
local_specifiers ws (for_sizeof p q l) s names o us vs = (refl, refl, refl, inr (refl, refl))
local_specifiers ws (for_parameter w before) s names o us vs = (refl, refl, refl, inr (refl, refl))
local_specifiers ws (for_member b before) s names o us vs = (refl, refl, refl, inr (refl, refl))
local_specifiers ws (for_declaration outer) s names o us vs = local_declaration_begun outer ws s names o us vs

-- ---- declarators

local_nothing : (m : Manner) (needed : Bool) (s : List Frame) (names : Names) (o : Option TokenMark) (us vs : List TokenMark) → Alike o us vs (nothing_declared m needed s names (front o us)) (nothing_declared m needed s names (front o vs))
local_nothing by_name needed s names o us vs = tt
local_nothing without_name true s names o us vs = tt
local_nothing without_name false s names o us vs = (refl, refl, refl, inr (refl, refl))
local_nothing either_way true s names o us vs = tt
local_nothing either_way false s names o us vs = (refl, refl, refl, inr (refl, refl))

local_parenthesis : (m : Manner) (p : Place) (s : List Frame) (names : Names) (us vs : List TokenMark) → SameAhead us vs → Alike (Some (sign signs.LeftParen p)) us vs (parenthesis_declared m p s names us) (parenthesis_declared m p s names vs)
local_parenthesis by_name p s names us vs h = (refl, refl, refl, inl (refl, refl))
local_parenthesis without_name p s names us vs h = either (Some (sign signs.LeftParen p)) us vs (begins_parameters names us) (begins_parameters names vs) _ _ _ _ (h names).1 (refl, refl, refl, inr (refl, refl)) (refl, refl, refl, inl (refl, refl))
local_parenthesis either_way p s names us vs h = either (Some (sign signs.LeftParen p)) us vs (begins_parameters names us) (begins_parameters names vs) _ _ _ _ (h names).1 (refl, refl, refl, inr (refl, refl)) (refl, refl, refl, inl (refl, refl))

local_bracket_declared : (m : Manner) (p : Place) (s : List Frame) (names : Names) (us vs : List TokenMark) → Alike (Some (sign signs.LeftBracket p)) us vs (bracket_declared m p s names us) (bracket_declared m p s names vs)
local_bracket_declared by_name p s names us vs = tt
local_bracket_declared without_name p s names us vs = (refl, refl, refl, inr (refl, refl))
local_bracket_declared either_way p s names us vs = (refl, refl, refl, inr (refl, refl))

local_named : (m : Manner) (needed : Bool) (n : Name) (s : List Frame) (names : Names) (us vs : List TokenMark) → Alike (Some (name n)) us vs (name_declared m needed n s names us) (name_declared m needed n s names vs)
local_named by_name needed n s names us vs = (refl, refl, refl, inl (refl, refl))
local_named without_name needed n s names us vs = local_nothing without_name needed s names (Some (name n)) us vs
local_named either_way needed n s names us vs = (refl, refl, refl, inl (refl, refl))

local_declared : (m : Manner) (needed : Bool) (s : List Frame) (names : Names) (o : Option TokenMark) (us vs : List TokenMark) → (IsOpen o → SameAhead us vs) → Alike o us vs (declared m needed s names (front o us)) (declared m needed s names (front o vs))
local_declared m needed s names None us vs h = local_nothing m needed s names None us vs
local_declared m needed s names (Some (sign signs.Times p)) us vs h = (refl, refl, refl, inl (refl, refl))
local_declared m needed s names (Some (sign signs.LeftParen p)) us vs h = local_parenthesis m p s names us vs (h tt)
local_declared m needed s names (Some (sign signs.LeftBracket p)) us vs h = local_bracket_declared m p s names us vs
local_declared m needed s names (Some (name n)) us vs h = local_named m needed n s names us vs
local_declared m needed s names (Some t) us vs h = local_nothing m needed s names (Some t) us vs

local_qualified : (m : Manner) (p : Place) (before : List Place) (s : List Frame) (names : Names) (o : Option TokenMark) (us vs : List TokenMark) → Alike o us vs (qualified m p before s names (front o us)) (qualified m p before s names (front o vs))
local_qualified m p before s names None us vs = (refl, refl, refl, inr (refl, refl))
local_qualified m p before s names (Some (word keywords.Const q)) us vs = (refl, refl, refl, inl (refl, refl))
local_qualified m p before s names (Some _) us vs = (refl, refl, refl, inr (refl, refl))

local_suffixed : (m : Manner) (d : Declarator) (s : List Frame) (names : Names) (o : Option TokenMark) (us vs : List TokenMark) → Alike o us vs (suffixed m d s names (front o us)) (suffixed m d s names (front o vs))
local_suffixed m d s names None us vs = (refl, refl, refl, inr (refl, refl))
local_suffixed m d s names (Some (sign signs.LeftBracket q)) us vs = (refl, refl, refl, inl (refl, refl))
local_suffixed m d s names (Some (sign signs.LeftParen q)) us vs = (refl, refl, refl, inl (refl, refl))
local_suffixed m d s names (Some _) us vs = (refl, refl, refl, inr (refl, refl))

local_sized : (m : Manner) (d : Declarator) (p : Place) (s : List Frame) (names : Names) (o : Option TokenMark) (us vs : List TokenMark) → Alike o us vs (sized m d p s names (front o us)) (sized m d p s names (front o vs))
local_sized m d p s names None us vs = (refl, refl, refl, inr (refl, refl))
local_sized m d p s names (Some (part close_bracket)) us vs = (refl, refl, refl, inl (refl, refl))
local_sized m d p s names (Some _) us vs = (refl, refl, refl, inr (refl, refl))

local_opened : (m : Manner) (d : Declarator) (p : Place) (s : List Frame) (names : Names) (o : Option TokenMark) (us vs : List TokenMark) → Alike o us vs (parameters_opened m d p s names (front o us)) (parameters_opened m d p s names (front o vs))
local_opened m d p s names None us vs = (refl, refl, refl, inr (refl, refl))
local_opened m d p s names (Some (part close_paren)) us vs = (refl, refl, refl, inl (refl, refl))
local_opened m d p s names (Some _) us vs = (refl, refl, refl, inr (refl, refl))

local_parameter : (d : Declarator) (w : OpenParameters) (before : List Parameter) (ws : Specifiers) (s : List Frame) (names : Names) (o : Option TokenMark) (us vs : List TokenMark) → Alike o us vs (parameter_given d w before ws s names (front o us)) (parameter_given d w before ws s names (front o vs))
local_parameter d w before ws s names None us vs = tt
local_parameter d w before ws s names (Some (part comma)) us vs = (refl, refl, refl, inl (refl, refl))
local_parameter d w before ws s names (Some (part close_paren)) us vs = (refl, refl, refl, inl (refl, refl))
local_parameter d w before ws s names (Some _) us vs = tt

local_member_line : (d : Declarator) (b : TypeBody) (lines : List MemberLine) (ws : Specifiers) (before : List Declarator) (s : List Frame) (names : Names) (o : Option TokenMark) (us vs : List TokenMark) → Alike o us vs (member_given d b lines ws before s names (front o us)) (member_given d b lines ws before s names (front o vs))
local_member_line d b lines ws before s names None us vs = tt
local_member_line d b lines ws before s names (Some (part comma)) us vs = (refl, refl, refl, inl (refl, refl))
local_member_line d b lines ws before s names (Some (sign signs.Semicolon q)) us vs = (refl, refl, refl, inl (refl, refl))
local_member_line d b lines ws before s names (Some _) us vs = tt

local_item : (outer : Bool) (d : Declarator) (ws : Specifiers) (before : List InitDeclarator) (s : List Frame) (names : Names) (o : Option TokenMark) (us vs : List TokenMark) → Alike o us vs (item_given outer d ws before s names (front o us)) (item_given outer d ws before s names (front o vs))
local_item true d ws [] s names None us vs = (refl, refl, refl, inr (refl, refl))
local_item true d ws [] s names (Some (sign signs.Assign q)) us vs = (refl, refl, refl, inl (refl, refl))
local_item true d ws [] s names (Some (sign signs.LeftBrace q)) us vs = (refl, refl, refl, inl (refl, refl))
local_item true d ws [] s names (Some _) us vs = (refl, refl, refl, inr (refl, refl))
local_item true d ws (i ∷ before) s names None us vs = (refl, refl, refl, inr (refl, refl))
local_item true d ws (i ∷ before) s names (Some (sign signs.Assign q)) us vs = (refl, refl, refl, inl (refl, refl))
local_item true d ws (i ∷ before) s names (Some _) us vs = (refl, refl, refl, inr (refl, refl))
local_item false d ws before s names None us vs = (refl, refl, refl, inr (refl, refl))
local_item false d ws before s names (Some (sign signs.Assign q)) us vs = (refl, refl, refl, inl (refl, refl))
local_item false d ws before s names (Some _) us vs = (refl, refl, refl, inr (refl, refl))

local_declarator : (d : Declarator) (f : DeclaratorFrame) (s : List Frame) (names : Names) (o : Option TokenMark) (us vs : List TokenMark) → Alike o us vs (declarator_given d f s names (front o us)) (declarator_given d f s names (front o vs))
local_declarator d (behind_star p qs) s names o us vs = (refl, refl, refl, inr (refl, refl))
local_declarator d (in_group p m) s names o us vs = local_paren _ (λ o us vs. (refl, refl, refl, inl (refl, refl))) o us vs
local_declarator d (of_cast p ws l) s names o us vs = local_paren _ (λ o us vs. (refl, refl, refl, inl (refl, refl))) o us vs
local_declarator d (of_sizeof p q ws l) s names o us vs = local_paren _ (λ o us vs. (refl, refl, refl, inl (refl, refl))) o us vs
local_declarator d (of_parameter w before ws) s names o us vs = local_parameter d w before ws s names o us vs
local_declarator d (of_member b lines ws before) s names o us vs = local_member_line d b lines ws before s names o us vs
local_declarator d (of_item outer ws before) s names o us vs = local_item outer d ws before s (with_declarator (has_typedef ws) d names) o us vs

-- ---- initialisers and declarations

local_initialised : (s : List Frame) (names : Names) (o : Option TokenMark) (us vs : List TokenMark) → Alike o us vs (initialised s names (front o us)) (initialised s names (front o vs))
local_initialised s names None us vs = (refl, refl, refl, inr (refl, refl))
local_initialised s names (Some (sign signs.LeftBrace q)) us vs = (refl, refl, refl, inl (refl, refl))
local_initialised s names (Some _) us vs = (refl, refl, refl, inr (refl, refl))

local_listed : (x : Initialiser) (p : Place) (before : List Initialiser) (s : List Frame) (names : Names) (o : Option TokenMark) (us vs : List TokenMark) → Alike o us vs (listed x p before s names (front o us)) (listed x p before s names (front o vs))
local_listed x p before s names None us vs = tt
local_listed x p before s names (Some (part comma)) us vs = (refl, refl, refl, inl (refl, refl))
local_listed x p before s names (Some (part close_brace)) us vs = (refl, refl, refl, inl (refl, refl))
local_listed x p before s names (Some _) us vs = tt

local_list_followed : (p : Place) (before : List Initialiser) (s : List Frame) (names : Names) (o : Option TokenMark) (us vs : List TokenMark) → Alike o us vs (list_followed p before s names (front o us)) (list_followed p before s names (front o vs))
local_list_followed p before s names None us vs = (refl, refl, refl, inr (refl, refl))
local_list_followed p before s names (Some (part close_brace)) us vs = (refl, refl, refl, inl (refl, refl))
local_list_followed p before s names (Some _) us vs = (refl, refl, refl, inr (refl, refl))

local_initialiser : (x : Initialiser) (s : List Frame) (names : Names) (o : Option TokenMark) (us vs : List TokenMark) → Alike o us vs (initialiser_taken x s names (front o us)) (initialiser_taken x s names (front o vs))
local_initialiser x [] names o us vs = tt
local_initialiser x (awaits_initialiser (in_list p before) ∷ s) names o us vs = local_listed x p before s names o us vs
local_initialiser x (awaits_initialiser (of_value ws before d p) ∷ s) names o us vs = (refl, refl, refl, inr (refl, refl))
local_initialiser x (_ ∷ s) names o us vs = tt

local_itemed : (ws : Specifiers) (i : InitDeclarator) (before : List InitDeclarator) (s : List Frame) (names : Names) (o : Option TokenMark) (us vs : List TokenMark) → Alike o us vs (item_followed ws i before s names (front o us)) (item_followed ws i before s names (front o vs))
local_itemed ws i before s names None us vs = tt
local_itemed ws i before s names (Some (part comma)) us vs = (refl, refl, refl, inl (refl, refl))
local_itemed ws i before s names (Some (sign signs.Semicolon q)) us vs = (refl, refl, refl, inl (refl, refl))
local_itemed ws i before s names (Some _) us vs = tt

local_declaration : (d : Declaration) (s : List Frame) (names : Names) (o : Option TokenMark) (us vs : List TokenMark) → Alike o us vs (declaration_taken d s names (front o us)) (declaration_taken d s names (front o vs))
local_declaration d [] names o us vs = tt
local_declaration d (awaits_declaration (in_file before) ∷ s) names o us vs = (refl, refl, refl, inr (refl, refl))
local_declaration d (awaits_declaration (in_block i) ∷ s) names o us vs = (refl, refl, refl, inr (refl, refl))
local_declaration d (_ ∷ s) names o us vs = tt

local_external : (before : List External) (s : List Frame) (names : Names) (o : Option TokenMark) (us vs : List TokenMark) → Alike o us vs (external_begun before s names (front o us)) (external_begun before s names (front o vs))
local_external before s names None us vs = tt
local_external before s names (Some t) us vs = (refl, refl, refl, inr (refl, refl))

-- ---- statements

local_block_begun : (i : Inside) (s : List Frame) (names : Names) (o : Option TokenMark) (us vs : List TokenMark) → Alike o us vs (block_begun i s names (front o us)) (block_begun i s names (front o vs))
local_block_begun i s names o us vs = either o us vs (begins_specifiers names (front o us)) (begins_specifiers names (front o vs)) _ _ _ _ (same_begin names o us vs) (refl, refl, refl, inr (refl, refl)) (refl, refl, refl, inr (refl, refl))

local_block : (i : Inside) (before : List Statement) (s : List Frame) (names : Names) (o : Option TokenMark) (us vs : List TokenMark) → Alike o us vs (block_followed i before s names (front o us)) (block_followed i before s names (front o vs))
local_block i before s names None us vs = (refl, refl, refl, inr (refl, refl))
local_block i before s names (Some (part close_brace)) us vs = (refl, refl, refl, inl (refl, refl))
local_block i before s names (Some _) us vs = (refl, refl, refl, inr (refl, refl))

local_sign_stated : (g : Sign) (p : Place) (s : List Frame) (names : Names) (us vs : List TokenMark) → Alike (Some (sign g p)) us vs (sign_stated g p s names us) (sign_stated g p s names vs)
local_sign_stated signs.LeftBrace p s names us vs = (refl, refl, refl, inl (refl, refl))
local_sign_stated signs.Semicolon p s names us vs = (refl, refl, refl, inl (refl, refl))
local_sign_stated _ p s names us vs = (refl, refl, refl, inr (refl, refl))

local_word_stated : (k : Keyword) (p : Place) (s : List Frame) (names : Names) (us vs : List TokenMark) → Alike (Some (word k p)) us vs (word_stated k p s names us) (word_stated k p s names vs)
local_word_stated keywords.If p s names us vs = (refl, refl, refl, inl (refl, refl))
local_word_stated keywords.While p s names us vs = (refl, refl, refl, inl (refl, refl))
local_word_stated keywords.Switch p s names us vs = (refl, refl, refl, inl (refl, refl))
local_word_stated keywords.Do p s names us vs = (refl, refl, refl, inl (refl, refl))
local_word_stated keywords.For p s names us vs = (refl, refl, refl, inl (refl, refl))
local_word_stated keywords.Break p s names us vs = (refl, refl, refl, inl (refl, refl))
local_word_stated keywords.Continue p s names us vs = (refl, refl, refl, inl (refl, refl))
local_word_stated keywords.Return p s names us vs = (refl, refl, refl, inl (refl, refl))
local_word_stated keywords.Case p s names us vs = (refl, refl, refl, inl (refl, refl))
local_word_stated keywords.Default p s names us vs = (refl, refl, refl, inl (refl, refl))
local_word_stated _ p s names us vs = (refl, refl, refl, inr (refl, refl))

local_stated : (s : List Frame) (names : Names) (o : Option TokenMark) (us vs : List TokenMark) → Alike o us vs (stated s names (front o us)) (stated s names (front o vs))
local_stated s names None us vs = (refl, refl, refl, inr (refl, refl))
local_stated s names (Some (sign g p)) us vs = local_sign_stated g p s names us vs
local_stated s names (Some (word k p)) us vs = local_word_stated k p s names us vs
local_stated s names (Some _) us vs = (refl, refl, refl, inr (refl, refl))

local_started : (p r : Place) (s : List Frame) (names : Names) (o : Option TokenMark) (us vs : List TokenMark) → Alike o us vs (started p r s names (front o us)) (started p r s names (front o vs))
local_started p r s names None us vs = (refl, refl, refl, inr (refl, refl))
local_started p r s names (Some (sign signs.Semicolon q)) us vs = (refl, refl, refl, inl (refl, refl))
local_started p r s names (Some _) us vs = (refl, refl, refl, inr (refl, refl))

local_loop_tested : (p r : Place) (a : Option Expression) (u : Place) (s : List Frame) (names : Names) (o : Option TokenMark) (us vs : List TokenMark) → Alike o us vs (loop_tested p r a u s names (front o us)) (loop_tested p r a u s names (front o vs))
local_loop_tested p r a u s names None us vs = (refl, refl, refl, inr (refl, refl))
local_loop_tested p r a u s names (Some (sign signs.Semicolon q)) us vs = (refl, refl, refl, inl (refl, refl))
local_loop_tested p r a u s names (Some _) us vs = (refl, refl, refl, inr (refl, refl))

local_stepped : (l : Loop) (s : List Frame) (names : Names) (o : Option TokenMark) (us vs : List TokenMark) → Alike o us vs (stepped l s names (front o us)) (stepped l s names (front o vs))
local_stepped l s names None us vs = (refl, refl, refl, inr (refl, refl))
local_stepped l s names (Some (part close_paren)) us vs = (refl, refl, refl, inl (refl, refl))
local_stepped l s names (Some _) us vs = (refl, refl, refl, inr (refl, refl))

local_returned : (p : Place) (s : List Frame) (names : Names) (o : Option TokenMark) (us vs : List TokenMark) → Alike o us vs (returned p s names (front o us)) (returned p s names (front o vs))
local_returned p s names None us vs = (refl, refl, refl, inr (refl, refl))
local_returned p s names (Some (sign signs.Semicolon q)) us vs = (refl, refl, refl, inl (refl, refl))
local_returned p s names (Some _) us vs = (refl, refl, refl, inr (refl, refl))

local_branched : (p r : Place) (e : Expression) (b : Statement) (s : List Frame) (names : Names) (o : Option TokenMark) (us vs : List TokenMark) → Alike o us vs (branched p r e b s names (front o us)) (branched p r e b s names (front o vs))
local_branched p r e b s names None us vs = (refl, refl, refl, inr (refl, refl))
local_branched p r e b s names (Some (part else_word)) us vs = (refl, refl, refl, inl (refl, refl))
local_branched p r e b s names (Some _) us vs = (refl, refl, refl, inr (refl, refl))

local_done : (p : Place) (b : Statement) (s : List Frame) (names : Names) (o : Option TokenMark) (us vs : List TokenMark) → Alike o us vs (done_followed p b s names (front o us)) (done_followed p b s names (front o vs))
local_done p b s names None us vs = tt
local_done p b s names (Some (word keywords.While q)) us vs = (refl, refl, refl, inl (refl, refl))
local_done p b s names (Some _) us vs = tt

local_defined : (ws : Specifiers) (d : Declarator) (outside : Names) (b : Statement) (s : List Frame) (o : Option TokenMark) (us vs : List TokenMark) → Alike o us vs (defined ws d outside b s (front o us)) (defined ws d outside b s (front o vs))
local_defined ws d outside (Block p ds ss) [] o us vs = tt
local_defined ws d outside (Block p ds ss) (awaits_declaration (in_file before) ∷ s) o us vs = (refl, refl, refl, inr (refl, refl))
local_defined ws d outside (Block p ds ss) (_ ∷ s) o us vs = tt
local_defined ws d outside _ s o us vs = tt

local_statement : (b : Statement) (f : StatementFrame) (s : List Frame) (names : Names) (o : Option TokenMark) (us vs : List TokenMark) → Alike o us vs (statement_given b f s names (front o us)) (statement_given b f s names (front o vs))
local_statement b (then_branch p q e) s names o us vs = local_branched p q e b s names o us vs
local_statement b (else_branch p q e a) s names o us vs = (refl, refl, refl, inr (refl, refl))
local_statement b (while_body p q e) s names o us vs = (refl, refl, refl, inr (refl, refl))
local_statement b (switch_body p q e) s names o us vs = (refl, refl, refl, inr (refl, refl))
local_statement b (do_body p) s names o us vs = local_done p b s names o us vs
local_statement b (for_body l c) s names o us vs = (refl, refl, refl, inr (refl, refl))
local_statement b (case_body p e) s names o us vs = (refl, refl, refl, inr (refl, refl))
local_statement b (default_body p) s names o us vs = (refl, refl, refl, inr (refl, refl))
local_statement b (in_statements i before) s names o us vs = (refl, refl, refl, inr (refl, refl))
local_statement b (in_definition ws d outside) s names o us vs = local_defined ws d outside b s o us vs

-- ---- every step

local_step : (d : Doing) (s : List Frame) (names : Names) (o : Option TokenMark) (us vs : List TokenMark) → (IsAhead d → IsOpen o → SameAhead us vs) → (IsOperated d → IsMemberSign o → ⊥) → Alike o us vs (step_at d s names (front o us)) (step_at d s names (front o vs))
local_step (seek l) s names o us vs same plain = local_sought l s names o us vs (same tt)
local_step (operated e l) s names o us vs same plain = local_operated e l s names o us vs (plain tt)
local_step (gave e) (awaits_expression f ∷ s) names o us vs same plain = local_expression e f s names o us vs
local_step (gave e) _ names o us vs same plain = tt
local_step (calling e p l) s names o us vs same plain = local_called e p l s names o us vs
local_step (measuring p l) s names o us vs same plain = local_measured p l s names o us vs (same tt)
local_step (specifying seen before) s names o us vs same plain = local_specified seen before s names o us vs
local_step (tagging is p seen before) s names o us vs same plain = local_tag is p seen before s names o us vs
local_step (tagged is p n seen before) s names o us vs same plain = local_tagged is p n seen before s names o us vs
local_step (membering b before) s names o us vs same plain = local_members b before s names o us vs
local_step (enumerating b before) s names o us vs same plain = local_enumerating b before s names o us vs
local_step (enumerated b before n) s names o us vs same plain = local_enumerated b before n s names o us vs
local_step (entered b before e) s names o us vs same plain = local_entered b before e s names o us vs
local_step (entering b before e) s names o us vs same plain = local_entering b before e s names o us vs
local_step (gave_specifiers ws) (awaits_specifiers f ∷ s) names o us vs same plain = local_specifiers ws f s names o us vs
local_step (gave_specifiers ws) _ names o us vs same plain = tt
local_step (declaring m needed) s names o us vs same plain = local_declared m needed s names o us vs (same tt)
local_step (qualifying m p before) s names o us vs same plain = local_qualified m p before s names o us vs
local_step (suffixing m d) s names o us vs same plain = local_suffixed m d s names o us vs
local_step (sizing m d p) s names o us vs same plain = local_sized m d p s names o us vs
local_step (parametering m d p) s names o us vs same plain = local_opened m d p s names o us vs
local_step (gave_declarator d) (awaits_declarator f ∷ s) names o us vs same plain = local_declarator d f s names o us vs
local_step (gave_declarator d) _ names o us vs same plain = tt
local_step initialising s names o us vs same plain = local_initialised s names o us vs
local_step (listing p x before) s names o us vs same plain = local_list_followed p (x ∷ before) s names o us vs
local_step (gave_initialiser x) s names o us vs same plain = local_initialiser x s names o us vs
local_step (itemed ws i before) s names o us vs same plain = local_itemed ws i before s names o us vs
local_step (gave_declaration d) s names o us vs same plain = local_declaration d s names o us vs
local_step (externals before) s names o us vs same plain = local_external before s names o us vs
local_step (declarations i) s names o us vs same plain = local_block_begun i s names o us vs
local_step (statements i before) s names o us vs same plain = local_block i before s names o us vs
local_step stating s names o us vs same plain = local_stated s names o us vs
local_step (opening h) s names o us vs same plain = local_open _ (λ q o us vs. (refl, refl, refl, inl (refl, refl))) o us vs
local_step (finishing p b r q e) s names o us vs same plain = local_semicolon _ (λ q o us vs. (refl, refl, refl, inl (refl, refl))) o us vs
local_step (looping p) s names o us vs same plain = local_open _ (λ q o us vs. (refl, refl, refl, inl (refl, refl))) o us vs
local_step (starting p q) s names o us vs same plain = local_started p q s names o us vs
local_step (testing p q a r) s names o us vs same plain = local_loop_tested p q a r s names o us vs
local_step (stepping loop) s names o us vs same plain = local_stepped loop s names o us vs
local_step (returning p) s names o us vs same plain = local_returned p s names o us vs
local_step (breaking p) s names o us vs same plain = local_semicolon _ (λ q o us vs. (refl, refl, refl, inl (refl, refl))) o us vs
local_step (continuing p) s names o us vs same plain = local_semicolon _ (λ q o us vs. (refl, refl, refl, inl (refl, refl))) o us vs
local_step (defaulting p) s names o us vs same plain = local_colon _ (λ o us vs. (refl, refl, refl, inl (refl, refl))) o us vs
local_step (gave_statement b) (awaits_statement f ∷ s) names o us vs same plain = local_statement b f s names o us vs
local_step (gave_statement b) _ names o us vs same plain = tt

-- ---- before two tokens

-- both tokens are taken
record Two (us vs : List TokenMark) (a b : Option ParserState) : Type 0 where
  does : Doing
  stack : List Frame
  names : Names
  first : a ≡ Some (state does stack names us)
  second : b ≡ Some (state does stack names vs)

abbrev Both : TokenMark → TokenMark → List TokenMark → List TokenMark → Option ParserState → Option ParserState → Type 0
Both w x us vs a b = Alike (Some w) (x ∷ us) (x ∷ vs) a b ⊎ Two us vs a b

both_branch : (w x : TokenMark) (us vs : List TokenMark) (b : Bool) (y z u v : Option ParserState) → Both w x us vs y z → Both w x us vs u v → Both w x us vs (if b then y else u) (if b then z else v)
both_branch w x us vs true y z u v h k = h
both_branch w x us vs false y z u v h k = k

named_both : (g : Sign) (e : Expression) (p : Place) (o : MemberOperator) (l : ℕ) (s : List Frame) (names : Names) (x : TokenMark) (us vs : List TokenMark) → Both (sign g p) x us vs (named_member e p o l s names (x ∷ us)) (named_member e p o l s names (x ∷ vs))
named_both g e p o l s names (name n) us vs = inr (record { does = _; stack = _; names = _; first = refl; second = refl })
named_both g e p o l s names _ us vs = inl tt

operate_both : (o : Operation) (g : Sign) (e : Expression) (p : Place) (l : ℕ) (s : List Frame) (names : Names) (x : TokenMark) (us vs : List TokenMark) → Both (sign g p) x us vs (operate o e p l s names (x ∷ us)) (operate o e p l s names (x ∷ vs))
operate_both subscript g e p l s names x us vs = inl (refl, refl, refl, inl (refl, refl))
operate_both call g e p l s names x us vs = inl (refl, refl, refl, inl (refl, refl))
operate_both (member_of o) g e p l s names x us vs = named_both g e p o l s names x us vs
operate_both (step_of o) g e p l s names x us vs = inl (refl, refl, refl, inl (refl, refl))
operate_both (binary_of o) g e p l s names x us vs = inl (refl, refl, refl, inl (refl, refl))
operate_both choice g e p l s names x us vs = inl (refl, refl, refl, inl (refl, refl))
operate_both (assignment_of o) g e p l s names x us vs = inl (refl, refl, refl, inl (refl, refl))
operate_both ends g e p l s names x us vs = inl tt

operated_both : (e : Expression) (l : ℕ) (s : List Frame) (names : Names) (w x : TokenMark) (us vs : List TokenMark) → Both w x us vs (operated_at e l s names (w ∷ x ∷ us)) (operated_at e l s names (w ∷ x ∷ vs))
operated_both e l s names (sign g p) x us vs = both_branch (sign g p) x us vs (goes_on (operation g) e l) _ _ _ _ (operate_both (operation g) g e p l s names x us vs) (inl (refl, refl, refl, inr (refl, refl)))
operated_both e l s names (word k p) x us vs = inl (refl, refl, refl, inr (refl, refl))
operated_both e l s names (name n) x us vs = inl (refl, refl, refl, inr (refl, refl))
operated_both e l s names (constant p c) x us vs = inl (refl, refl, refl, inr (refl, refl))
operated_both e l s names (literal p n) x us vs = inl (refl, refl, refl, inr (refl, refl))
operated_both e l s names (part c) x us vs = inl (local_operated e l s names (Some (part c)) (x ∷ us) (x ∷ vs) (λ z. absurd z))

ahead : (x : TokenMark) (us vs : List TokenMark) → SameAhead (x ∷ us) (x ∷ vs)
ahead x us vs names = (same_begin names (Some x) us vs, same_parameters names x us vs)

at_both : (d : Doing) (s : List Frame) (names : Names) (w x : TokenMark) (us vs : List TokenMark) → Both w x us vs (step_at d s names (w ∷ x ∷ us)) (step_at d s names (w ∷ x ∷ vs))
at_both (operated e l) s names w x us vs = operated_both e l s names w x us vs
at_both d s names w x us vs = inl (local_step d s names (Some w) (x ∷ us) (x ∷ vs) (λ a z. ahead x us vs) (λ z. absurd z))

-- ---- before the last token that is the same

abbrev IsShort : List TokenMark → ParserState → Type 0
IsShort us t = (rest_of t ≡ us) ⊎ (rest_of t ≡ behind us)

-- the token is taken in this step or the next, or its operand is without the name that should follow
data Past (d : Doing) (t : TokenMark) (us : List TokenMark) (a : Option ParserState) : Type 0 where
  at_once : (u : ParserState) → a ≡ Some u → IsShort us u → Past d t us a
  at_next : (u v : ParserState) → a ≡ Some u → rest_of u ≡ t ∷ us → step u ≡ Some v → IsShort us v → Past d t us a
  never : IsOperated d → a ≡ None → Past d t us a

group_short : (b : Bool) (d e : Doing) (s r : List Frame) (names : Names) (us : List TokenMark) → IsShort us (if b then state d s names us else state e r names us)
group_short true d e s r names us = inl refl
group_short false d e s r names us = inl refl

seek_past : (d : Doing) (l : ℕ) (s : List Frame) (names : Names) (p : Place) (us : List TokenMark) → Past d (sign signs.LeftParen p) us (step_at (seek l) s names (sign signs.LeftParen p ∷ us))
seek_past d l s names p us = at_once (parenthesis_at p l s names us) refl (group_short (begins_specifiers names us && leb 3 l) _ _ _ _ names us)

measure_past : (d : Doing) (b : Bool) (q p : Place) (l : ℕ) (s : List Frame) (names : Names) (us : List TokenMark) (a : ParserState) → rest_of a ≡ us
    → Past d (sign signs.LeftParen q) us (if b then Some a else Some (state (seek 2) (awaits_expression (behind_sizeof p l) ∷ s) names (sign signs.LeftParen q ∷ us)))
measure_past d true q p l s names us a h = at_once a refl (inl h)
measure_past d false q p l s names us a h = at_next _ (parenthesis_at q 2 (awaits_expression (behind_sizeof p l) ∷ s) names us) refl refl refl (group_short (begins_specifiers names us && leb 3 2) _ _ _ _ names us)

declare_past : (d : Doing) (b : Bool) (m : Manner) (e : Declarator) (q : Place) (s : List Frame) (names : Names) (us : List TokenMark) (a : ParserState) → rest_of a ≡ us
    → Past d (sign signs.LeftParen q) us (if b then Some (state (suffixing m e) s names (sign signs.LeftParen q ∷ us)) else Some a)
declare_past d true m e q s names us a h = at_next _ (state (parametering m e q) s names us) refl refl refl (inl refl)
declare_past d false m e q s names us a h = at_once a refl (inl h)

parenthesis_past : (d : Doing) (m : Manner) (q : Place) (s : List Frame) (names : Names) (us : List TokenMark) → Past d (sign signs.LeftParen q) us (parenthesis_declared m q s names us)
parenthesis_past d by_name q s names us = at_once _ refl (inl refl)
parenthesis_past d without_name q s names us = declare_past d (begins_parameters names us) without_name _ q s names us _ refl
parenthesis_past d either_way q s names us = declare_past d (begins_parameters names us) either_way _ q s names us _ refl

named_past : (e f : Expression) (k : ℕ) (g : Sign) (p : Place) (o : MemberOperator) (l : ℕ) (s : List Frame) (names : Names) (us : List TokenMark) → Past (operated f k) (sign g p) us (named_member e p o l s names us)
named_past e f k g p o l s names [] = never tt refl
named_past e f k g p o l s names (name n ∷ us) = at_once _ refl (inr refl)
named_past e f k g p o l s names (_ ∷ us) = never tt refl

abbrev Last : Doing → TokenMark → List TokenMark → List TokenMark → Option ParserState → Option ParserState → Type 0
Last d t us vs a b = Alike (Some t) us vs a b ⊎ Past d t us a

last_branch : (d : Doing) (t : TokenMark) (us vs : List TokenMark) (b : Bool) (y z u v : Option ParserState) → Last d t us vs y z → Last d t us vs u v → Last d t us vs (if b then y else u) (if b then z else v)
last_branch d t us vs true y z u v h k = h
last_branch d t us vs false y z u v h k = k

operate_last : (o : Operation) (f : Expression) (k : ℕ) (g : Sign) (e : Expression) (p : Place) (l : ℕ) (s : List Frame) (names : Names) (us vs : List TokenMark) → Last (operated f k) (sign g p) us vs (operate o e p l s names us) (operate o e p l s names vs)
operate_last subscript f k g e p l s names us vs = inl (refl, refl, refl, inl (refl, refl))
operate_last call f k g e p l s names us vs = inl (refl, refl, refl, inl (refl, refl))
operate_last (member_of o) f k g e p l s names us vs = inr (named_past e f k g p o l s names us)
operate_last (step_of o) f k g e p l s names us vs = inl (refl, refl, refl, inl (refl, refl))
operate_last (binary_of o) f k g e p l s names us vs = inl (refl, refl, refl, inl (refl, refl))
operate_last choice f k g e p l s names us vs = inl (refl, refl, refl, inl (refl, refl))
operate_last (assignment_of o) f k g e p l s names us vs = inl (refl, refl, refl, inl (refl, refl))
operate_last ends f k g e p l s names us vs = inl tt

operated_last : (e : Expression) (l : ℕ) (s : List Frame) (names : Names) (t : TokenMark) (us vs : List TokenMark) → Last (operated e l) t us vs (operated_at e l s names (t ∷ us)) (operated_at e l s names (t ∷ vs))
operated_last e l s names (sign g p) us vs = last_branch (operated e l) (sign g p) us vs (goes_on (operation g) e l) _ _ _ _ (operate_last (operation g) e l g e p l s names us vs) (inl (refl, refl, refl, inr (refl, refl)))
operated_last e l s names (word k p) us vs = inl (refl, refl, refl, inr (refl, refl))
operated_last e l s names (name n) us vs = inl (refl, refl, refl, inr (refl, refl))
operated_last e l s names (constant p c) us vs = inl (refl, refl, refl, inr (refl, refl))
operated_last e l s names (literal p n) us vs = inl (refl, refl, refl, inr (refl, refl))
operated_last e l s names (part c) us vs = inl (local_operated e l s names (Some (part c)) us vs (λ z. absurd z))

quiet_last : (d : Doing) (s : List Frame) (names : Names) (t : TokenMark) (us vs : List TokenMark) → (IsOpen (Some t) → ⊥) → (IsOperated d → ⊥) → Last d t us vs (step_at d s names (t ∷ us)) (step_at d s names (t ∷ vs))
quiet_last d s names t us vs h k = inl (local_step d s names (Some t) us vs (λ a z. absurd (h z)) (λ z. absurd (k z)))

paren_last : (d : Doing) (s : List Frame) (names : Names) (p : Place) (us vs : List TokenMark) → Last d (sign signs.LeftParen p) us vs (step_at d s names (sign signs.LeftParen p ∷ us)) (step_at d s names (sign signs.LeftParen p ∷ vs))
paren_last (seek l) s names p us vs = inr (seek_past (seek l) l s names p us)
paren_last (measuring q l) s names p us vs = inr (measure_past (measuring q l) (begins_specifiers names us) p q l s names us _ refl)
paren_last (declaring m needed) s names p us vs = inr (parenthesis_past (declaring m needed) m p s names us)
paren_last d s names p us vs = inl (local_step d s names (Some (sign signs.LeftParen p)) us vs (λ z. absurd z) (λ z k. absurd k))

at_last : (d : Doing) (s : List Frame) (names : Names) (t : TokenMark) (us vs : List TokenMark) → Last d t us vs (step_at d s names (t ∷ us)) (step_at d s names (t ∷ vs))
at_last (operated e l) s names t us vs = operated_last e l s names t us vs
at_last d s names (sign signs.LeftParen p) us vs = paren_last d s names p us vs
at_last d s names t us vs = quiet_last d s names t us vs (λ z. absurd z) (λ z. absurd z)

-- ---- no step gives tokens back

short_by : (us : List TokenMark) (t : ParserState) → IsShort us t → length (rest_of t) ≤ length us
short_by us t (inl e) = omega (arith, ap length e)
short_by [] t (inr e) = omega (arith, ap length e)
short_by (u ∷ us) t (inr e) = omega (arith, ap length e)

shrink_by : (o : Option TokenMark) (us rs : List TokenMark) (s t : ParserState) → s ≡ t → rest_of s ≡ rs → length us ≤ length (front o us) → ((rs ≡ us) × (rs ≡ us)) ⊎ ((rs ≡ front o us) × (rs ≡ front o us)) → length (rest_of t) ≤ length (front o us)
shrink_by o us rs s t e f l (inl h) = omega (arith, ap length h.0, ap length f, ap (λ (v : ParserState). length (rest_of v)) e, l)
shrink_by o us rs s t e f l (inr h) = omega (arith, ap length h.0, ap length f, ap (λ (v : ParserState). length (rest_of v)) e)

some_same : (s t : ParserState) → Some s ≡ Some t → s ≡ t
some_same s t e = cc

alike_shrinks : (o : Option TokenMark) (us : List TokenMark) (a : Option ParserState) (t : ParserState) → a ≡ Some t → length us ≤ length (front o us) → Alike o us us a a → length (rest_of t) ≤ length (front o us)
alike_shrinks o us None t e l h = absurd cc
alike_shrinks o us (Some (state d s n rs)) t e l h = shrink_by o us rs (state d s n rs) t (some_same (state d s n rs) t e) refl l h.3

shrinks : (d : Doing) (s : List Frame) (names : Names) (ts : List TokenMark) (t : ParserState) → step_at d s names ts ≡ Some t → length (rest_of t) ≤ length ts
shrinks d s names [] t e = alike_shrinks None [] (step_at d s names []) t e (omega arith) (local_step d s names None [] [] (λ a z. absurd z) (λ z k. absurd k))
shrinks d s names (x ∷ us) t e = go (step_at d s names (x ∷ us)) e (at_last d s names x us us)
  where
    go : (a : Option ParserState) → a ≡ Some t → Last d x us us a a → length (rest_of t) ≤ suc (length us)
    go a e (inl h) = alike_shrinks (Some x) us a t e (omega arith) h
    go a e (inr (at_once u f h)) = let same = some_same u t (sym f ∙ e) in omega (arith, short_by us u h, ap (λ (v : ParserState). length (rest_of v)) same)
    go a e (inr (at_next u v f r g h)) = let same = some_same u t (sym f ∙ e) in omega (arith, ap length r, ap (λ (v : ParserState). length (rest_of v)) same)
    go a e (inr (never h f)) = absurd cc

run_shrinks : (turns : ℕ) (s : ParserState) → length (rest_of (run turns s)) ≤ length (rest_of s)
run_shrinks zero s = omega arith
run_shrinks (suc turns) (state d s names ts) = go (λ t. run_shrinks turns t) (step_at d s names ts) refl
  where
    go : ((t : ParserState) → length (rest_of (run turns t)) ≤ length (rest_of t)) → (r : Option ParserState) → step_at d s names ts ≡ r → length (rest_of (elim r [ None ↦ state d s names ts | Some t ↦ run turns t ])) ≤ length ts
    go f None e = omega arith
    go f (Some t) e = omega (arith, f t, shrinks d s names ts t e)

stuck_short : (s : ParserState) → length (stuck s) ≤ length (rest_of s)
stuck_short (state (operated e l) s n []) = omega arith
stuck_short (state (operated e l) s n (t ∷ ts)) = omega arith
stuck_short (state _ s n ts) = omega arith

-- a run that has taken a token isn't stuck at it
past_end : (turns : ℕ) (t : TokenMark) (us : List TokenMark) (u : ParserState) → length (rest_of u) ≤ length us → stuck (run turns u) ≡ t ∷ us → ⊥
past_end turns t us u h k = omega (arith, run_shrinks turns u, h, stuck_short (run turns u), ap length k)

-- ---- where the machine is stuck, it is stuck whatever comes behind

record Stops (s : ParserState) : Type 0 where
  still : step s ≡ None
  left : rest_of s ≡ [] → ⊥

not_empty : (ws : List TokenMark) (t : TokenMark) (vs : List TokenMark) → (ws ++ t ∷ vs) ≡ [] → ⊥
not_empty [] t vs e = cc
not_empty (w ∷ ws) t vs e = cc

none_alike : (o : Option TokenMark) (us vs : List TokenMark) (a b : Option ParserState) → a ≡ None → Alike o us vs a b → b ≡ None
none_alike o us vs None None e h = refl
none_alike o us vs None (Some b) e h = absurd h
none_alike o us vs (Some a) b e h = absurd cc

none_both : (w x : TokenMark) (us vs : List TokenMark) (a b : Option ParserState) → a ≡ None → Both w x us vs a b → b ≡ None
none_both w x us vs a b e (inl h) = none_alike (Some w) (x ∷ us) (x ∷ vs) a b e h
none_both w x us vs a b e (inr h) = let f = h.first in absurd cc

operated_stuck : (d : Doing) (s : List Frame) (names : Names) (t : TokenMark) (us : List TokenMark) → IsOperated d → stuck (state d s names (t ∷ us)) ≡ t ∷ us → ⊥
operated_stuck (operated e l) s names t us h k = omega (arith, ap length k)
operated_stuck _ s names t us h k = absurd h

none_last : (d : Doing) (s : List Frame) (names : Names) (t : TokenMark) (us vs : List TokenMark) (a b : Option ParserState) → stuck (state d s names (t ∷ us)) ≡ t ∷ us → a ≡ None → Last d t us vs a b → b ≡ None
none_last d s names t us vs a b k e (inl h) = none_alike (Some t) us vs a b e h
none_last d s names t us vs a b k e (inr (at_once u f h)) = absurd cc
none_last d s names t us vs a b k e (inr (at_next u v f r g h)) = absurd cc
none_last d s names t us vs a b k e (inr (never h f)) = absurd (operated_stuck d s names t us h k)

stop_here : (ws : List TokenMark) (t : TokenMark) (us vs : List TokenMark) (d : Doing) (s : List Frame) (names : Names) → step_at d s names (ws ++ t ∷ us) ≡ None → stuck (state d s names (ws ++ t ∷ us)) ≡ t ∷ us → step_at d s names (ws ++ t ∷ vs) ≡ None
stop_here [] t us vs d s names e k = none_last d s names t us vs _ _ k e (at_last d s names t us vs)
stop_here (w ∷ []) t us vs d s names e k = none_both w t us vs _ _ e (at_both d s names w t us vs)
stop_here (w ∷ x ∷ ws) t us vs d s names e k = none_both w x (ws ++ t ∷ us) (ws ++ t ∷ vs) _ _ e (at_both d s names w x (ws ++ t ∷ us) (ws ++ t ∷ vs))

abbrev after : ℕ → ParserState → Option ParserState → ParserState
after turns s r = elim r [ None ↦ s | Some t ↦ run turns t ]

abbrev Twins : ℕ → Type 0
Twins turns =
    (ws : List TokenMark) (t : TokenMark) (us vs : List TokenMark) (d : Doing) (s : List Frame) (names : Names) → step (run turns (state d s names (ws ++ t ∷ us))) ≡ None → stuck (run turns (state d s names (ws ++ t ∷ us))) ≡ t ∷ us
    → Stops (run turns (state d s names (ws ++ t ∷ vs)))

ends_here : (turns : ℕ) (ws : List TokenMark) (t : TokenMark) (us vs : List TokenMark) (d : Doing) (s : List Frame) (names : Names) (b : Option ParserState) → step_at d s names (ws ++ t ∷ us) ≡ None → step_at d s names (ws ++ t ∷ vs) ≡ b → stuck (state d s names (ws ++ t ∷ us)) ≡ t ∷ us
    → Stops (after turns (state d s names (ws ++ t ∷ vs)) b)
ends_here turns ws t us vs d s names None e q k = record { still = q; left = not_empty ws t vs }
ends_here turns ws t us vs d s names (Some b) e q k = let z = stop_here ws t us vs d s names e k in absurd cc

-- the same state with other tokens left
moved : (d e : Doing) (s r : List Frame) (n m : Names) (ws us qs : List TokenMark) → d ≡ e → s ≡ r → n ≡ m → qs ≡ us → state d s n us ≡ state e r m qs
moved d e s r n m ws us qs a b c f = cc

goes : (turns : ℕ) → Twins turns → (ws : List TokenMark) (t : TokenMark) (us vs : List TokenMark) (d e : Doing) (s r : List Frame) (n m : Names) (rs qs : List TokenMark) → d ≡ e → s ≡ r → n ≡ m → rs ≡ ws ++ t ∷ us → qs ≡ ws ++ t ∷ vs
    → step (run turns (state d s n rs)) ≡ None → stuck (run turns (state d s n rs)) ≡ t ∷ us → Stops (run turns (state e r m qs))
goes turns twins ws t us vs d e s r n m rs qs a b c f g h k =
    let same : state d s n rs ≡ state d s n (ws ++ t ∷ us) = ap (state d s n) f in
    subst (λ (z : ParserState). Stops (run turns z)) (moved d e s r n m ws (ws ++ t ∷ vs) qs a b c g)
    (twins ws t us vs d s n (subst (λ (z : ParserState). step (run turns z) ≡ None) same h) (subst (λ (z : ParserState). stuck (run turns z) ≡ t ∷ us) same k))

run_first : (turns : ℕ) (s v : ParserState) → step s ≡ Some v → run (suc turns) s ≡ run turns v
run_first turns s v g = subst (λ (r : Option ParserState). after turns s r ≡ run turns v) (sym g) refl

next_past : (turns : ℕ) (t : TokenMark) (us : List TokenMark) (u v : ParserState) → step u ≡ Some v → length (rest_of v) ≤ length us → step (run turns u) ≡ None → stuck (run turns u) ≡ t ∷ us → ⊥
next_past zero t us u v g h e k = cc
next_past (suc turns) t us u v g h e k = past_end turns t us v h (ap stuck (sym (run_first turns u v g)) ∙ k)

last_next : (turns : ℕ) → Twins turns → (t : TokenMark) (us vs : List TokenMark) (d : Doing) (s : List Frame) (names : Names) (a b : Option ParserState) → step_at d s names (t ∷ us) ≡ a → step_at d s names (t ∷ vs) ≡ b → Last d t us vs a b
    → step (after turns (state d s names (t ∷ us)) a) ≡ None → stuck (after turns (state d s names (t ∷ us)) a) ≡ t ∷ us → Stops (after turns (state d s names (t ∷ vs)) b)
last_next turns twins t us vs d s names None b p q h e k = ends_here turns [] t us vs d s names b p q k
last_next turns twins t us vs d s names (Some a) None p q (inl h) e k = absurd h
last_next turns twins t us vs d s names (Some (state f r n rs)) (Some (state g w m qs)) p q (inl (a, b, c, inl h)) e k = absurd (past_end turns t us (state f r n rs) (omega (arith, ap length h.0)) k)
last_next turns twins t us vs d s names (Some (state f r n rs)) (Some (state g w m qs)) p q (inl (a, b, c, inr h)) e k = goes turns twins [] t us vs f g r w n m rs qs a b c h.0 h.1 e k
last_next turns twins t us vs d s names (Some a) b p q (inr (at_once u f h)) e k = absurd (past_end turns t us a (subst (λ (z : ParserState). length (rest_of z) ≤ length us) (some_same u a (sym f)) (short_by us u h)) k)
last_next turns twins t us vs d s names (Some a) b p q (inr (at_next u v f r g h)) e k = absurd (next_past turns t us a v (subst (λ (z : ParserState). step z ≡ Some v) (some_same u a (sym f)) g) (short_by us v h) e k)
last_next turns twins t us vs d s names (Some a) b p q (inr (never h f)) e k = absurd cc

one_next : (turns : ℕ) → Twins turns → (w t : TokenMark) (us vs : List TokenMark) (d : Doing) (s : List Frame) (names : Names) (a b : Option ParserState) → step_at d s names (w ∷ t ∷ us) ≡ a → step_at d s names (w ∷ t ∷ vs) ≡ b → Both w t us vs a b
    → step (after turns (state d s names (w ∷ t ∷ us)) a) ≡ None → stuck (after turns (state d s names (w ∷ t ∷ us)) a) ≡ t ∷ us → Stops (after turns (state d s names (w ∷ t ∷ vs)) b)
one_next turns twins w t us vs d s names None b p q h e k = ends_here turns (w ∷ []) t us vs d s names b p q k
one_next turns twins w t us vs d s names (Some a) None p q (inl h) e k = absurd h
one_next turns twins w t us vs d s names (Some (state f r n rs)) (Some (state g x m qs)) p q (inl (a, b, c, inl h)) e k = goes turns twins [] t us vs f g r x n m rs qs a b c h.0 h.1 e k
one_next turns twins w t us vs d s names (Some (state f r n rs)) (Some (state g x m qs)) p q (inl (a, b, c, inr h)) e k = goes turns twins (w ∷ []) t us vs f g r x n m rs qs a b c h.0 h.1 e k
one_next turns twins w t us vs d s names (Some a) b p q (inr h) e k =
    absurd (past_end turns t us a (subst (λ (z : ParserState). length (rest_of z) ≤ length us) (sym (some_same a (state h.does h.stack h.names us) h.first)) (omega arith)) k)

more_next : (turns : ℕ) → Twins turns → (w x : TokenMark) (ws : List TokenMark) (t : TokenMark) (us vs : List TokenMark) (d : Doing) (s : List Frame) (names : Names) (a b : Option ParserState) → step_at d s names (w ∷ x ∷ (ws ++ t ∷ us)) ≡ a → step_at d s names (w ∷ x ∷ (ws ++ t ∷ vs)) ≡ b
    → Both w x (ws ++ t ∷ us) (ws ++ t ∷ vs) a b → step (after turns (state d s names (w ∷ x ∷ (ws ++ t ∷ us))) a) ≡ None → stuck (after turns (state d s names (w ∷ x ∷ (ws ++ t ∷ us))) a) ≡ t ∷ us
    → Stops (after turns (state d s names (w ∷ x ∷ (ws ++ t ∷ vs))) b)
more_next turns twins w x ws t us vs d s names None b p q h e k = ends_here turns (w ∷ x ∷ ws) t us vs d s names b p q k
more_next turns twins w x ws t us vs d s names (Some a) None p q (inl h) e k = absurd h
more_next turns twins w x ws t us vs d s names (Some (state f r n rs)) (Some (state g y m qs)) p q (inl (a, b, c, inl h)) e k = goes turns twins (x ∷ ws) t us vs f g r y n m rs qs a b c h.0 h.1 e k
more_next turns twins w x ws t us vs d s names (Some (state f r n rs)) (Some (state g y m qs)) p q (inl (a, b, c, inr h)) e k = goes turns twins (w ∷ x ∷ ws) t us vs f g r y n m rs qs a b c h.0 h.1 e k
more_next turns twins w x ws t us vs d s names (Some a) None p q (inr h) e k = let z = h.second in absurd cc
more_next turns twins w x ws t us vs d s names (Some (state f r n rs)) (Some (state g y m qs)) p q (inr h) e k =
    let i = some_same (state f r n rs) (state h.does h.stack h.names (ws ++ t ∷ us)) h.first in
    let j = some_same (state g y m qs) (state h.does h.stack h.names (ws ++ t ∷ vs)) h.second in
    goes turns twins ws t us vs f g r y n m rs qs (cc) (cc) (cc) (cc) (cc) e k

twins : (turns : ℕ) → Twins turns
twins zero ws t us vs d s names e k = record { still = stop_here ws t us vs d s names e k; left = not_empty ws t vs }
twins (suc turns) [] t us vs d s names e k = last_next turns (twins turns) t us vs d s names _ _ refl refl (at_last d s names t us vs) e k
twins (suc turns) (w ∷ []) t us vs d s names e k = one_next turns (twins turns) w t us vs d s names _ _ refl refl (at_both d s names w t us vs) e k
twins (suc turns) (w ∷ x ∷ ws) t us vs d s names e k = more_next turns (twins turns) w x ws t us vs d s names _ _ refl refl (at_both d s names w x (ws ++ t ∷ us) (ws ++ t ∷ vs)) e k

-- ---- what is left is the end of the tokens

abbrev IsLeft : List TokenMark → List TokenMark → Type 0
IsLeft ts rs = (taken : List TokenMark) × (ts ≡ taken ++ rs)

left_along : (ts us rs : List TokenMark) → IsLeft ts us → IsLeft us rs → IsLeft ts rs
left_along ts us rs h k = (h.0 ++ k.0, h.1 ∙ ap (λ (xs : List TokenMark). h.0 ++ xs) k.1 ∙ sym (append_assoc h.0 k.0 rs))

short_left : (x : TokenMark) (us : List TokenMark) (t : ParserState) → IsShort us t → IsLeft (x ∷ us) (rest_of t)
short_left x us t (inl e) = (x ∷ [], ap (λ (xs : List TokenMark). x ∷ xs) (sym e))
short_left x [] t (inr e) = (x ∷ [], ap (λ (xs : List TokenMark). x ∷ xs) (sym e))
short_left x (u ∷ us) t (inr e) = (x ∷ u ∷ [], ap (λ (xs : List TokenMark). x ∷ u ∷ xs) (sym e))

same_left : (o : Option TokenMark) (us rs : List TokenMark) → (IsLeft (front o us) us) → ((rs ≡ us) × (rs ≡ us)) ⊎ ((rs ≡ front o us) × (rs ≡ front o us)) → IsLeft (front o us) rs
same_left o us rs h (inl e) = subst (IsLeft (front o us)) (sym e.0) h
same_left o us rs h (inr e) = ([], sym e.0)

alike_left : (o : Option TokenMark) (us : List TokenMark) (a : Option ParserState) (t : ParserState) → a ≡ Some t → IsLeft (front o us) us → Alike o us us a a → IsLeft (front o us) (rest_of t)
alike_left o us None t e l h = absurd cc
alike_left o us (Some (state d s n rs)) t e l h = subst (λ (v : ParserState). IsLeft (front o us) (rest_of v)) (some_same (state d s n rs) t e) (same_left o us rs l h.3)

step_left : (d : Doing) (s : List Frame) (names : Names) (ts : List TokenMark) (t : ParserState) → step_at d s names ts ≡ Some t → IsLeft ts (rest_of t)
step_left d s names [] t e = alike_left None [] (step_at d s names []) t e ([], refl) (local_step d s names None [] [] (λ a z. absurd z) (λ z k. absurd k))
step_left d s names (x ∷ us) t e = go (step_at d s names (x ∷ us)) e (at_last d s names x us us)
  where
    go : (a : Option ParserState) → a ≡ Some t → Last d x us us a a → IsLeft (x ∷ us) (rest_of t)
    go a e (inl h) = alike_left (Some x) us a t e (x ∷ [], refl) h
    go a e (inr (at_once u f h)) = subst (λ (v : ParserState). IsLeft (x ∷ us) (rest_of v)) (some_same u t (sym f ∙ e)) (short_left x us u h)
    go a e (inr (at_next u v f r g h)) = subst (λ (v : ParserState). IsLeft (x ∷ us) (rest_of v)) (some_same u t (sym f ∙ e)) ([], sym r)
    go a e (inr (never h f)) = absurd cc

pub run_left : (turns : ℕ) (s : ParserState) → (taken : List TokenMark) × (rest_of s ≡ taken ++ rest_of (run turns s))
run_left zero s = ([], refl)
run_left (suc turns) (state d s names ts) = go (λ t. run_left turns t) (step_at d s names ts) refl
  where
    go : ((t : ParserState) → IsLeft (rest_of t) (rest_of (run turns t))) → (r : Option ParserState) → step_at d s names ts ≡ r → IsLeft ts (rest_of (after turns (state d s names ts) r))
    go f None e = ([], refl)
    go f (Some t) e = left_along ts (rest_of t) (rest_of (run turns t)) (step_left d s names ts t e) (f t)

-- no file begins with the tokens up to the one where the machine is stuck
pub nothing_goes_on : (before : List TokenMark) (t : TokenMark) (rest : List TokenMark) (turns : ℕ) → step (run turns (begun (before ++ t ∷ rest))) ≡ None → stuck (run turns (begun (before ++ t ∷ rest))) ≡ t ∷ rest
    → (more : List TokenMark) (file : List External) → IsTreeOf (before ++ t ∷ more) file → ⊥
nothing_goes_on before t rest turns e k more file i =
    let w = twins turns before t rest more (externals []) [] [] e k in
    let q = stopped (before ++ t ∷ more) turns (run turns (begun (before ++ t ∷ more))) refl w.still file i in
    w.left (ap rest_of q.1)
