-- Steps with expressions: which go on, and which end one.
use Rattle.std.proofs.Common.{◌≡◌, ℕ, ◌≤◌, ◌<◌, leb, true, false, List, [], ◌∷◌, Option, Some, refl, sym, subst, arith}
use Rattle.dae_base.specs.declared.Place.{Place}
use Rattle.dae_tree.specs.declared.signs.Sign.{Sign}
use Rattle.dae_tree.specs.declared.operators.BinaryOperator.{BinaryOperator}
use Rattle.dae_tree.specs.declared.operators.BinaryOperator.TheVariants as binary
use Rattle.dae_tree.specs.declared.operators.AssignmentOperator.{AssignmentOperator}
use Rattle.dae_tree.specs.declared.operators.AssignmentOperator.TheVariants as assignment
use Rattle.dae_tree.specs.declared.operators.PrefixOperator.{PrefixOperator}
use Rattle.dae_tree.specs.declared.operators.PrefixOperator.TheVariants as prefix
use Rattle.dae_tree.specs.declared.operators.PostfixOperator.{PostfixOperator}
use Rattle.dae_tree.specs.declared.operators.PostfixOperator.TheVariants as postfix
use Rattle.dae_tree.specs.declared.operators.MemberOperator.{MemberOperator}
use Rattle.dae_tree.specs.declared.operators.MemberOperator.TheVariants as member
use Rattle.dae_tree.specs.Marks.{TokenMark, sign, part, comma}
use Rattle.dae_tree.specs.Operators.{under, strength, operand_level, binary_sign, assignment_sign, prefix_sign, postfix_sign, member_sign}
use Rattle.dae_tree.specs.Names.{Names}
use Rattle.dae_tree.specs.Grammar.{level}
use Rattle.dae_tree.specs.Trees.{Expression, Prefix, SizeofExpression, Cast, Binary, Conditional, Assignment, Comma}
use Rattle.dae_parse_grammar.specs.Frames.{Frame, ParserState, state, seek, operated, gave, behind_prefix, behind_comma, awaits_expression}
use Rattle.dae_parse_grammar.specs.Machine.{step, Operation, member_of, step_of, binary_of, assignment_of, operation, reach, left_level, operate}
use Rattle.dae_parse_grammar.specs.Runs.{On, IsBackward}
use Rattle.dae_parse_grammar.specs.Levels.{front, tail}

-- a step that is known
pub to : {P : ParserState → Type 0} → IsBackward P → (s : ParserState) (r : Option ParserState) → step s ≡ r → On P r → P s
to {P} back s r e k = back s (subst (On P) (sym e) k)

pub under_least : (o : BinaryOperator) → 3 ≤ under o
under_least binary.Multiply = omega arith
under_least _ = omega arith

pub under_most : (o : BinaryOperator) → under o ≤ 12
under_most binary.Multiply = omega arith
under_most _ = omega arith

pub operand_most : (o : PrefixOperator) → operand_level o ≤ 3
operand_most prefix.Increment = omega arith
operand_most _ = omega arith

pub operand_least : (o : PrefixOperator) → 2 ≤ operand_level o
operand_least prefix.Increment = omega arith
operand_least _ = omega arith

pub binary_operation : (o : BinaryOperator) → operation (binary_sign o) ≡ binary_of o
binary_operation binary.Multiply = refl
binary_operation _ = refl

pub assignment_operation : (o : AssignmentOperator) → operation (assignment_sign o) ≡ assignment_of o
assignment_operation assignment.Assign = refl
assignment_operation _ = refl

pub postfix_operation : (o : PostfixOperator) → operation (postfix_sign o) ≡ step_of o
postfix_operation postfix.Increment = refl
postfix_operation _ = refl

pub member_operation : (o : MemberOperator) → operation (member_sign o) ≡ member_of o
member_operation member.Dot = refl
member_operation _ = refl

pub reach_member : (o : MemberOperator) → reach (member_of o) ≡ 1
reach_member member.Dot = refl
reach_member _ = refl

pub reach_step : (o : PostfixOperator) → reach (step_of o) ≡ 1
reach_step postfix.Increment = refl
reach_step _ = refl

pub reach_assignment : (o : AssignmentOperator) → reach (assignment_of o) ≡ 15
reach_assignment assignment.Assign = refl
reach_assignment _ = refl

-- ---- levels

pub level_most : (e : Expression) → level e ≤ 16
level_most (Binary a p o b) = omega (arith, under_most o)
level_most _ = omega arith

pub tail_most : (e : Expression) → tail e ≤ 15
tail_most (Binary a p o b) = omega (arith, under_most o)
tail_most _ = omega arith

-- an operand up to a level ends before what binds more weakly
pub tail_within : (e : Expression) (k : ℕ) → 3 ≤ k → level e ≤ k → tail e ≤ k
tail_within (Binary a p o b) k least le = omega arith
tail_within (Conditional a p b c) k least le = le
tail_within (Assignment a p o b) k least le = le
tail_within (Comma a b) k least le = omega arith
tail_within _ k least le = omega arith

pub tail_left : (e : Expression) (o : BinaryOperator) → level e ≤ strength o → tail e < strength o
tail_left (Binary a p o' b) o le = omega (arith, le, under_least o)
tail_left (Conditional a p b c) o le = absurd (omega (arith, under_most o))
tail_left (Assignment a p o' b) o le = absurd (omega (arith, under_most o))
tail_left (Comma a b) o le = absurd (omega (arith, under_most o))
tail_left _ o le = omega (arith, under_least o)

pub tail_postfix : (e : Expression) → level e ≤ 1 → tail e < 1
tail_postfix (Prefix p o a) le = absurd (omega arith)
tail_postfix (SizeofExpression p a) le = absurd (omega arith)
tail_postfix (Cast p ws d a) le = absurd (omega arith)
tail_postfix (Binary a p o b) le = absurd (omega (arith, under_least o))
tail_postfix (Conditional a p b c) le = absurd (omega arith)
tail_postfix (Assignment a p o b) le = absurd (omega arith)
tail_postfix (Comma a b) le = absurd (omega arith)
tail_postfix _ le = omega arith

-- ---- going on, or not

leb_true : (a b : ℕ) → a ≤ b → leb a b ≡ true
leb_true a b h = grind arith

leb_false : (a b : ℕ) → b < a → leb a b ≡ false
leb_false a b h = grind arith

pub takes : (g : Sign) (o : Operation) (e : Expression) (p : Place) (l : ℕ) (s : List Frame) (names : Names) (ts : List TokenMark)
    → operation g ≡ o → reach o ≤ l → level e ≤ left_level o → step (state (operated e l) s names (sign g p ∷ ts)) ≡ operate o e p l s names ts
takes g o e p l s names ts eq r le = rw (eq, leb_true (reach o) l r, leb_true (level e) (left_level o) le) refl

pub stop_at : (e : Expression) (l : ℕ) (s : List Frame) (names : Names) (rest : List TokenMark) → l < front rest → step (state (operated e l) s names rest) ≡ Some (state (gave e) s names rest)
stop_at e l s names [] h = refl
stop_at e l s names (sign g p ∷ ts) h = rw (leb_false (reach (operation g)) l h) refl
stop_at e l s names (part comma ∷ ts) h = rw (leb_false 16 l h) refl
stop_at e l s names (_ ∷ ts) h = refl

pub stop : {P : ParserState → Type 0} → IsBackward P → (e : Expression) (l : ℕ) (s : List Frame) (names : Names) (rest : List TokenMark) → l < front rest
    → P (state (gave e) s names rest) → P (state (operated e l) s names rest)
stop back e l s names rest h k = to back (state (operated e l) s names rest) (Some (state (gave e) s names rest)) (stop_at e l s names rest h) k

pub commas : (e : Expression) (l : ℕ) (s : List Frame) (names : Names) (ts : List TokenMark) → 16 ≤ l
    → step (state (operated e l) s names (part comma ∷ ts)) ≡ Some (state (seek 15) (awaits_expression (behind_comma e l) ∷ s) names ts)
commas e l s names ts h = rw (leb_true 16 l h) refl

pub prefixes : (o : PrefixOperator) (p : Place) (l : ℕ) (s : List Frame) (names : Names) (ts : List TokenMark)
    → step (state (seek l) s names (sign (prefix_sign o) p ∷ ts)) ≡ Some (state (seek (operand_level o)) (awaits_expression (behind_prefix p o l) ∷ s) names ts)
prefixes prefix.Increment p l s names ts = refl
prefixes _ p l s names ts = refl
