-- What stands first of a tree's tokens, and which way the machine goes there.
use Rattle.std.proofs.Common.{◌≡◌, ℕ, ◌≤◌, true, false, List, [], ◌∷◌, Some, refl, arith}
use Rattle.dae_base.specs.declared.Place.{Place}
use Rattle.dae_tree.specs.declared.words.Keyword.TheVariants as keywords
use Rattle.dae_tree.specs.declared.signs.Sign.TheVariants as signs
use Rattle.dae_tree.specs.declared.operators.PrefixOperator.{PrefixOperator}
use Rattle.dae_tree.specs.declared.operators.PrefixOperator.TheVariants as prefix
use Rattle.dae_tree.specs.Marks.{TokenMark, word, sign, name, part, close_paren}
use Rattle.dae_tree.specs.Operators.{prefix_sign}
use Rattle.dae_tree.specs.Words.{nothing_seen, begins_specifiers}
use Rattle.dae_tree.specs.Names.{Names}
use Rattle.dae_tree.specs.Spelling.{spell, spell_specifiers, spell_declarator}
use Rattle.dae_tree.specs.Grammar.{level, Manner, by_name, IsExpression, IsSpecifiers, IsDeclarator, IsPresent, IsNoType, leading_name}
use Rattle.dae_tree.specs.Trees.{Expression, Specifiers, Declarator, Identifier, Number, Literal, Parenthesised, Index, Call, Member, Postfix, Prefix, SizeofExpression, SizeofType, Cast, Binary, Conditional, Assignment, Comma, no_specifiers, specifier_then, Word, TypeName, Structure, StructureBody, Enumeration, EnumerationBody, Absent, Named, Pointer, Grouped, Unsized, Sized, Empty, Void, Function}
use Rattle.dae_tree.specs.Lists.{MemberLine}
use Rattle.dae_parse_grammar.specs.Frames.{TypeBody, Frame, state, seek, in_arguments, behind_sizeof, in_size, gave_declarator, specifying, for_member, awaits_expression, awaits_specifiers}
use Rattle.dae_parse_grammar.specs.Machine.{called, measured, sized, suffixed, begins_parameters, members_followed}
use Rattle.dae_parse_grammar.specs.Starts.{IsStartSign, Starts, FollowsSpecifiers, FollowsDeclarator}
use Rattle.dae_parse_grammar.proofs.Steps.{under_least}

prefix_starts : (o : PrefixOperator) → IsStartSign (prefix_sign o)
prefix_starts prefix.Increment = tt
prefix_starts _ = tt

pub starts : (names : Names) (e : Expression) → IsExpression names e → (rest : List TokenMark) → Starts names (spell e rest)
starts names (Identifier n) i rest = i
starts names (Number p c) i rest = tt
starts names (Literal p n) i rest = tt
starts names (Parenthesised p a) i rest = tt
starts names (Index a p b) i rest = starts names a i.1 _
starts names (Call f p xs) i rest = starts names f i.1 _
starts names (Member a p o n) i rest = starts names a i.1 _
starts names (Postfix a p o) i rest = starts names a i.1 _
starts names (Prefix p o a) i rest = prefix_starts o
starts names (SizeofExpression p a) i rest = tt
starts names (SizeofType p q ws d) i rest = tt
starts names (Cast p ws d a) i rest = tt
starts names (Binary a p o b) i rest = starts names a i.2 _
starts names (Conditional a p b c) i rest = starts names a i.2 _
starts names (Assignment a p o b) i rest = starts names a i.2 _
starts names (Comma a b) i rest = starts names a i.1 _

-- an expression begins no specifiers
pub no_specifiers_first : (names : Names) (ts : List TokenMark) → Starts names ts → begins_specifiers names ts ≡ false
no_specifiers_first names [] h = absurd h
no_specifiers_first names (name n ∷ ts) h = h
no_specifiers_first names (word keywords.Sizeof p ∷ ts) h = refl
no_specifiers_first names (word _ p ∷ ts) h = absurd h
no_specifiers_first names (_ ∷ ts) h = refl

pub called_first : (names : Names) (ts : List TokenMark) → Starts names ts → (e : Expression) (p : Place) (l : ℕ) (s : List Frame)
    → called e p l s names ts ≡ Some (state (seek 15) (awaits_expression (in_arguments e p [] l) ∷ s) names ts)
called_first names [] h e p l s = absurd h
called_first names (part c ∷ ts) h e p l s = absurd h
called_first names (_ ∷ ts) h e p l s = refl

pub sized_first : (names : Names) (ts : List TokenMark) → Starts names ts → (m : Manner) (d : Declarator) (p : Place) (s : List Frame)
    → sized m d p s names ts ≡ Some (state (seek 14) (awaits_expression (in_size d p m) ∷ s) names ts)
sized_first names [] h m d p s = absurd h
sized_first names (part c ∷ ts) h m d p s = absurd h
sized_first names (_ ∷ ts) h m d p s = refl

-- a unary expression behind sizeof
pub measured_first : (names : Names) (e : Expression) → IsExpression names e → level e ≤ 2 → (rest : List TokenMark) (p : Place) (l : ℕ) (s : List Frame)
    → measured p l s names (spell e rest) ≡ Some (state (seek 2) (awaits_expression (behind_sizeof p l) ∷ s) names (spell e rest))
measured_first names (Identifier n) i le rest p l s = refl
measured_first names (Number q c) i le rest p l s = refl
measured_first names (Literal q n) i le rest p l s = refl
measured_first names (Parenthesised q a) i le rest p l s = rw (no_specifiers_first names (spell a (part close_paren ∷ rest)) (starts names a i _)) refl
measured_first names (Index a q b) i le rest p l s = measured_first names a i.1 (omega (arith, i.0)) _ p l s
measured_first names (Call f q xs) i le rest p l s = measured_first names f i.1 (omega (arith, i.0)) _ p l s
measured_first names (Member a q o n) i le rest p l s = measured_first names a i.1 (omega (arith, i.0)) _ p l s
measured_first names (Postfix a q o) i le rest p l s = measured_first names a i.1 (omega (arith, i.0)) _ p l s
measured_first names (Prefix q o a) i le rest p l s = by_operator o
  where
    by_operator : (o : PrefixOperator) → measured p l s names (sign (prefix_sign o) q ∷ spell a rest) ≡ Some (state (seek 2) (awaits_expression (behind_sizeof p l) ∷ s) names (sign (prefix_sign o) q ∷ spell a rest))
    by_operator prefix.Increment = refl
    by_operator _ = refl
measured_first names (SizeofExpression q a) i le rest p l s = refl
measured_first names (SizeofType q r ws d) i le rest p l s = refl
measured_first names (Cast q ws d a) i le rest p l s = absurd (omega arith)
measured_first names (Binary a q o b) i le rest p l s = absurd (omega (arith, under_least o))
measured_first names (Conditional a q b c) i le rest p l s = absurd (omega arith)
measured_first names (Assignment a q o b) i le rest p l s = absurd (omega arith)
measured_first names (Comma a b) i le rest p l s = absurd (omega arith)

-- specifiers begin specifiers
pub specifiers_begin : (names : Names) (ws : Specifiers) → IsSpecifiers nothing_seen names ws → (rest : List TokenMark) → begins_specifiers names (spell_specifiers ws rest) ≡ true
specifiers_begin names no_specifiers i rest = absurd cc
specifiers_begin names (specifier_then (Word p k) ws) i rest = i.0.0
specifiers_begin names (specifier_then (TypeName n) ws) i rest = i.0.1
specifiers_begin names (specifier_then (Structure p n) ws) i rest = refl
specifiers_begin names (specifier_then (StructureBody p n q ms) ws) i rest = refl
specifiers_begin names (specifier_then (Enumeration p n) ws) i rest = refl
specifiers_begin names (specifier_then (EnumerationBody p n q es c) ws) i rest = refl

pub members_first : (names : Names) (ts : List TokenMark) → begins_specifiers names ts ≡ true → (b : TypeBody) (before : List MemberLine) (s : List Frame)
    → members_followed b before s names ts ≡ Some (state (specifying nothing_seen []) (awaits_specifiers (for_member b before) ∷ s) names ts)
members_first names [] h b before s = absurd cc
members_first names (part c ∷ ts) h b before s = absurd cc
members_first names (_ ∷ ts) h b [] s = refl
members_first names (_ ∷ ts) h b (m ∷ before) s = refl

-- ---- declarators

pub front_any : (d : Declarator) (rest : List TokenMark) → FollowsSpecifiers rest → FollowsSpecifiers (spell_declarator d rest)
front_any Absent rest h = h
front_any (Named n) rest h = tt
front_any (Pointer p qs d) rest h = tt
front_any (Grouped p d) rest h = tt
front_any (Unsized d p) rest h = front_any d _ tt
front_any (Sized d p e) rest h = front_any d _ tt
front_any (Empty d p) rest h = front_any d _ tt
front_any (Void d p q) rest h = front_any d _ tt
front_any (Function d p ps) rest h = front_any d _ tt

pub front_present : (d : Declarator) (rest : List TokenMark) → IsPresent d → FollowsSpecifiers (spell_declarator d rest)
front_present Absent rest h = absurd h
front_present (Named n) rest h = tt
front_present (Pointer p qs d) rest h = tt
front_present (Grouped p d) rest h = tt
front_present (Unsized d p) rest h = front_any d _ tt
front_present (Sized d p e) rest h = front_any d _ tt
front_present (Empty d p) rest h = front_any d _ tt
front_present (Void d p q) rest h = front_any d _ tt
front_present (Function d p ps) rest h = front_any d _ tt

pub named_present : (names : Names) (d : Declarator) → IsDeclarator by_name names d → IsPresent d
named_present names Absent i = absurd i
named_present names _ i = tt

-- a declarator in parentheses begins no parameters
group_any : (names : Names) (d : Declarator) → IsNoType names (leading_name d) → (rest : List TokenMark) → begins_parameters names rest ≡ false
    → begins_parameters names (spell_declarator d rest) ≡ false
group_any names Absent i rest h = h
group_any names (Named n) i rest h = i
group_any names (Pointer p qs d) i rest h = refl
group_any names (Grouped p d) i rest h = refl
group_any names (Unsized d p) i rest h = group_any names d i _ refl
group_any names (Sized d p e) i rest h = group_any names d i _ refl
group_any names (Empty d p) i rest h = group_any names d i _ refl
group_any names (Void d p q) i rest h = group_any names d i _ refl
group_any names (Function d p ps) i rest h = group_any names d i _ refl

pub group_begins : (names : Names) (d : Declarator) → IsPresent d → IsNoType names (leading_name d) → (rest : List TokenMark)
    → begins_parameters names (spell_declarator d rest) ≡ false
group_begins names Absent h i rest = absurd h
group_begins names (Named n) h i rest = i
group_begins names (Pointer p qs d) h i rest = refl
group_begins names (Grouped p d) h i rest = refl
group_begins names (Unsized d p) h i rest = group_any names d i _ refl
group_begins names (Sized d p e) h i rest = group_any names d i _ refl
group_begins names (Empty d p) h i rest = group_any names d i _ refl
group_begins names (Void d p q) h i rest = group_any names d i _ refl
group_begins names (Function d p ps) h i rest = group_any names d i _ refl

pub suffixed_end : (m : Manner) (d : Declarator) (s : List Frame) (names : Names) (rest : List TokenMark) → FollowsDeclarator rest
    → suffixed m d s names rest ≡ Some (state (gave_declarator d) s names rest)
suffixed_end m d s names [] h = absurd h
suffixed_end m d s names (sign signs.LeftBracket p ∷ ts) h = absurd h
suffixed_end m d s names (sign signs.LeftParen p ∷ ts) h = absurd h
suffixed_end m d s names (_ ∷ ts) h = refl
