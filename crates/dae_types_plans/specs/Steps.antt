-- Words for plans, and the steps of types and expressions: each asks rules at one site and writes what stands there.
use Rattle.std.specs.Prelude.{ℕ, zero, suc, List, [], ◌∷◌, ◌++◌, length, Option, Some, None, Bool, true, false, is_some, nat_eq, if◌then◌else◌, slice_get}
use Rattle.dae_base.specs.declared.Place.{Place}
use Rattle.dae_base.specs.Words.{plus}
use Rattle.dae_tree.specs.declared.words.Keyword.{Keyword}
use Rattle.dae_tree.specs.declared.expressions.Name.{Name}
use Rattle.dae_tree.specs.declared.seen.Arithmetic.{Arithmetic}
use Rattle.dae_tree.specs.declared.seen.Arithmetic.TheVariants as arithmetic
use Rattle.dae_tree.specs.declared.seen.Seen.{Seen}
use Rattle.dae_tree.specs.declared.operators.BinaryOperator.{BinaryOperator}
use Rattle.dae_tree.specs.declared.operators.BinaryOperator.TheVariants as binary
use Rattle.dae_tree.specs.declared.operators.AssignmentOperator.{AssignmentOperator}
use Rattle.dae_tree.specs.declared.operators.AssignmentOperator.TheVariants as assignment
use Rattle.dae_tree.specs.declared.operators.PrefixOperator.{PrefixOperator}
use Rattle.dae_tree.specs.declared.operators.PrefixOperator.TheVariants as prefix
use Rattle.dae_tree.specs.declared.operators.PostfixOperator.{PostfixOperator}
use Rattle.dae_tree.specs.declared.operators.PostfixOperator.TheVariants as postfix
use Rattle.dae_tree.specs.declared.operators.MemberOperator.{MemberOperator}
use Rattle.dae_tree.specs.declared.operators.MemberOperator.TheVariants as signs
use Rattle.dae_tree.specs.Trees as tree
use Rattle.dae_tree.specs.Words.{nothing_seen, seen_behind, arithmetic_type}
use Rattle.dae_tree.specs.Names.{declared_name, is_bare}
use Rattle.dae_program.specs.Trees as program
use Rattle.dae_types_kinds.specs.declared.types.Shape.{Shape}
use Rattle.dae_types_kinds.specs.declared.types.Shape.TheVariants as shape
use Rattle.dae_types_kinds.specs.declared.types.Layout.{Layout}
use Rattle.dae_types_kinds.specs.declared.types.Structure.{Structure}
use Rattle.dae_types_kinds.specs.declared.values.Known.{Known}
use Rattle.dae_types_kinds.specs.declared.values.Known.TheVariants as known
use Rattle.dae_types_kinds.specs.declared.tables.Context.{Context}
use Rattle.dae_types_kinds.specs.declared.tables.Entity.{Entity}
use Rattle.dae_types_kinds.specs.declared.tables.Entity.TheVariants as entity
use Rattle.dae_types_kinds.specs.declared.tables.Tagged.{Tagged}
use Rattle.dae_types_kinds.specs.declared.tables.Tagged.TheVariants as tagged
use Rattle.dae_types_kinds.specs.declared.tables.LibraryFunction.{LibraryFunction}
use Rattle.dae_types_kinds.specs.declared.tables.NamedType.{NamedType}
use Rattle.dae_types_kinds.specs.Tables.{Tables, with_shape, with_structure, with_component, with_name, with_tag, with_local, with_use, with_uses, set_structure, found_name, found_tag, own_name, own_tag, found_component, opened, closed}
use Rattle.dae_types_kinds.specs.Types.{void_id, char_id, signed_char_id, unsigned_char_id, short_id, unsigned_short_id, int_id, unsigned_id, shape_of, made, is_pointer, pointee, layout, layout_at, rounded, placed, finished}
use Rattle.dae_types_kinds.specs.Values.{Typed, Combination, number, valued_by, named, valued, converted, cast_to, promoted, combination, scaled_by, combined_as, subscripted, starred, marked, addressed, negated, complemented, inverted, known_and, known_or, owner, component_in, member_by, assigned, updated, operator_of, stepped, joined, conditional_as, comma, routine_type, library_of, parameters_of, called}
use Rattle.dae_types_rules.specs.Sites.{Site, AtWord, AtTypeName, AtTag, AtBody, AtEnumeration, AtEnumerationBody, AtEnumerator, AtConstant, AtComponent, AtEnd, AtPointer, AtCount, AtElement, AtResult, AtParameter, AtName, AtValue, AtInteger, AtScalar, AtOperands, AtSized, AtSizeof, AtCast, AtAddress, AtStar, AtIndex, AtMember, AtTarget, AtAssign, AtUpdate, AtBranches, AtCall, AtCalled, AtArgument}
use Rattle.dae_types_rules.specs.Plan.{CheckPlan, pure, both, node, maps, chain, pardons, settles, unless_spoiled, OfName, OfTag, OfMember}

-- ---- words for plans

-- one site, and what is written there
abbrev pub at : {A B : Type 0} → (Tables → A → Site) → (Tables → A → Tables × B) → CheckPlan A → CheckPlan B
at f g m = node (λ s x. f s x ∷ []) g m

-- one site, where nothing is written
abbrev pub asks : {A : Type 0} → (Tables → A → Site) → CheckPlan A → CheckPlan A
asks f m = node (λ s x. f s x ∷ []) (λ s x. (s, x)) m

abbrev pub nothing : CheckPlan (Unit {0})
nothing = pure tt

-- what is written with no rule
abbrev pub does : {A B : Type 0} → (Tables → A → Tables × B) → CheckPlan A → CheckPlan B
does g m = maps g m

-- what the tables say, and a change of them
abbrev pub looks : {A : Type 0} → (Tables → A) → CheckPlan A
looks f = does (λ s x. (s, f s)) nothing

abbrev pub changes_to : (Tables → Tables) → CheckPlan (Unit {0})
changes_to f = does (λ s x. (f s, tt {0})) nothing

abbrev pub first_of : {A B : Type 0} → Tables → A × B → Tables × A
first_of s x = (s, x.0)

-- a part, and then a change of the tables, also where a rule was broken
abbrev pub ends : {A : Type 0} → (Tables → Tables) → CheckPlan A → CheckPlan A
ends f m = does first_of (both m (changes_to f))

-- a part in a scope of its own
abbrev pub scoped : {A : Type 0} → CheckPlan A → CheckPlan A
scoped m = chain (record { names = 0; tags = 0 }) (does (λ s x. (opened s, s.innermost)) nothing) (λ outer. ends (closed outer) m)

-- what sizeof measures isn't used
abbrev pub unused : {A : Type 0} → CheckPlan A → CheckPlan A
unused m = chain [] (looks (λ s. s.uses)) (λ us. ends (with_uses us) m)

abbrev pub settles_name : {A : Type 0} → Option Name → CheckPlan A → CheckPlan A
settles_name None m = m
settles_name (Some n) m = settles (OfName n.number) m

-- ---- places

abbrev pub named_place : Option Name → Place → Place
named_place None q = q
named_place (Some n) q = n.place

-- the place of what is declared: its name, or a token at this place
abbrev pub declared_place : tree.Declarator → Place → Place
declared_place d q = named_place (declared_name d) q

abbrev pub is_last : tree.Declarator → Bool
is_last tree.Absent = true
is_last d = is_bare d

-- ---- specifiers (C90 6.5.2)

abbrev pub arithmetic_id : Arithmetic → ℕ
arithmetic_id arithmetic.Char = char_id
arithmetic_id arithmetic.SignedChar = signed_char_id
arithmetic_id arithmetic.UnsignedChar = unsigned_char_id
arithmetic_id arithmetic.Short = short_id
arithmetic_id arithmetic.UnsignedShort = unsigned_short_id
arithmetic_id arithmetic.Int = int_id
arithmetic_id arithmetic.Unsigned = unsigned_id
arithmetic_id arithmetic.Long = int_id
arithmetic_id arithmetic.UnsignedLong = unsigned_id

-- the type of specifiers: that of a structure, an enumeration or a name among them, else the one that their words name
abbrev pub base_of : Seen → Option ℕ → ℕ
base_of seen (Some t) = t
base_of seen None = if seen.whole then void_id else arithmetic_id (arithmetic_type seen)

abbrev pub base_at : tree.Specifiers → CheckPlan (Option ℕ) → CheckPlan ℕ
base_at ws m = does (λ s b. (s, base_of (seen_behind nothing_seen ws) b)) m

abbrev pub word_at : Place → Context → Option ℕ → Keyword → CheckPlan (Option ℕ)
word_at p c b k = at (λ s x. AtWord p c k) (λ s x. (s, b)) nothing

-- the type that a name stands for
abbrev pub type_named : Option Entity → Option ℕ
type_named (Some (entity.Type t)) = Some t
type_named _ = None

abbrev pub type_name_at : Name → CheckPlan (Option ℕ)
type_name_at n =
    unless_spoiled
    (OfName n.number)
    (at (λ s x. AtTypeName n.place (found_name s n.number)) (λ s x. (s, type_named (found_name s n.number))) nothing)

-- ---- structures and enumerations (C90 6.5.2.1 to 6.5.2.3)

abbrev pub structure_of_tag : Option ℕ → Bool → Structure
structure_of_tag tag begun = record { tag = tag; begun = begun; layout = None }

abbrev pub with_optional_tag : Option ℕ → Tagged → Tables → Tables
with_optional_tag None t s = s
with_optional_tag (Some name) t s = with_tag name t s

-- a new structure, with its tag where it has one
abbrev pub new_structure : Option ℕ → Bool → Tables → Tables × ℕ
new_structure tag begun s = (with_optional_tag tag (tagged.Structure (length s.structures)) (with_structure (structure_of_tag tag begun) s), length s.structures)

abbrev pub structure_type : Tables × ℕ → Tables × Option ℕ
structure_type x = (with_shape (shape.Struct x.1) x.0, Some (length x.0.shapes))

-- `struct` and a tag: the structure of that tag, or a new one that has no members yet
abbrev pub mentioned : ℕ → Option Tagged → Tables → Tables × Option ℕ
mentioned name (Some (tagged.Structure n)) s = structure_type (s, n)
mentioned name _ s = structure_type (new_structure (Some name) false s)

-- where a declaration declares nothing else, the tag is one of the innermost scope
abbrev pub tag_in : Bool → Tables → ℕ → Option Tagged
tag_in alone s name = if alone then own_tag s name else found_tag s name

abbrev pub tag_at : Bool → Name → CheckPlan (Option ℕ)
tag_at alone n = unless_spoiled (OfTag n.number) (at (λ s x. AtTag n.place (tag_in alone s n.number)) (λ s x. mentioned n.number (tag_in alone s n.number) s) nothing)

-- the number of a structure whose members begin
abbrev pub begins : ℕ → Option Tagged → Tables → Tables × ℕ
begins name (Some (tagged.Structure n)) s = (set_structure n (structure_of_tag (Some name) true) s, n)
begins name _ s = new_structure (Some name) true s

abbrev pub begins_at : Option Name → CheckPlan ℕ
begins_at None = does (λ s x. new_structure None true s) nothing
begins_at (Some n) = settles (OfTag n.number) (at (λ s x. AtBody n.place s (own_tag s n.number)) (λ s x. begins n.number (own_tag s n.number) s) nothing)

abbrev pub with_member : ℕ → Layout → Option Name → ℕ → Tables → Tables × Layout
with_member n l None t s = (s, l)
with_member n l (Some name) t s = (with_component (record { structure = n; name = name.number; offset = rounded l.size (layout_at s t).align; type_id = t }) s, placed l (layout_at s t))

abbrev pub has_component : Tables → ℕ → Option Name → Bool
has_component s k None = false
has_component s k (Some n) = is_some (found_component s k n.number)

abbrev pub settles_member : {A : Type 0} → Option Name → CheckPlan A → CheckPlan A
settles_member None m = m
settles_member (Some n) m = settles (OfMember n.number) m

-- a member of structure k behind members of this layout
abbrev pub member_at : Place → ℕ → Layout → Option Name → CheckPlan NamedType → CheckPlan Layout
member_at p k l n m = settles_member n (at (λ s x. AtComponent p (has_component s k x.name) s x.type_id) (λ s x. with_member k l x.name x.type_id s) m)

abbrev pub number_of : Option Name → Option ℕ
number_of None = None
number_of (Some n) = Some n.number

-- the structure is complete
abbrev pub completes : Option ℕ → ℕ → Layout → Tables → Tables × Option ℕ
completes tag n l s = structure_type (set_structure n (record { tag = tag; begun = true; layout = Some (finished l) }) s, n)

abbrev pub ends_at : Place → Option Name → ℕ → Layout → CheckPlan (Option ℕ)
ends_at p n k l = at (λ s x. AtEnd p (finished l)) (λ s x. completes (number_of n) k l s) nothing

abbrev pub structure_body : Place → Option Name → (ℕ → CheckPlan Layout) → CheckPlan (Option ℕ)
structure_body p n members = chain 0 (begins_at n) (λ k. chain (layout 0 1) (pardons (layout 0 1) (members k)) (λ l. ends_at p n k l))

abbrev pub enumeration_tag : Name → CheckPlan (Option ℕ)
enumeration_tag n = unless_spoiled (OfTag n.number) (at (λ s x. AtEnumeration n.place (found_tag s n.number)) (λ s x. (s, Some int_id)) nothing)

abbrev pub enumeration_at : Option Name → CheckPlan (Unit {0})
enumeration_at None = nothing
enumeration_at (Some n) = settles (OfTag n.number) (at (λ s x. AtEnumerationBody n.place s (own_tag s n.number)) (λ s x. (with_tag n.number tagged.Enumeration s, tt {0})) nothing)

-- an enumerator, and the value of the next one
abbrev pub enumerator_at : Name → ℕ → CheckPlan ℕ
enumerator_at n w = settles (OfName n.number) (at (λ s x. AtEnumerator n.place (own_name s n.number)) (λ s x. (with_name n.number (entity.Enumerator w) s, plus w 1)) nothing)

abbrev pub enumeration_body : Option Name → CheckPlan ℕ → CheckPlan (Option ℕ)
enumeration_body n enumerators = chain tt (enumeration_at n) (λ x. does (λ s y. (s, Some int_id)) enumerators)

abbrev pub word_of : Known → ℕ
word_of (known.Number w) = w
word_of _ = 0

abbrev pub constant_at : Place → CheckPlan Typed → CheckPlan ℕ
constant_at p m = at (λ s x. AtConstant p s x) (λ s x. (s, word_of x.known)) m

-- ---- declarators (C90 6.5.4)

abbrev pub pointer : Place → ℕ → CheckPlan ℕ
pointer p t = at (λ s x. AtPointer p (shape_of s t)) (λ s x. made (shape.Pointer t) s) nothing

abbrev pub unsized : Place → ℕ → CheckPlan ℕ
unsized p t = at (λ s x. AtElement p s t None) (λ s x. made (shape.Array t None) s) nothing

-- an outermost array of a parameter counts as a pointer, so it isn't too large
abbrev pub counted : Bool → ℕ → Option ℕ
counted true n = None
counted false n = Some n

abbrev pub count_at : Place → CheckPlan Typed → CheckPlan ℕ
count_at p m = at (λ s x. AtCount p s x) (λ s x. (s, word_of x.known)) m

abbrev pub sized : Place → Bool → ℕ → CheckPlan ℕ → CheckPlan ℕ
sized p free t m = at (λ s n. AtElement p s t (counted free n)) (λ s n. made (shape.Array t (Some n)) s) m

abbrev pub function : Place → ℕ → CheckPlan ℕ → CheckPlan ℕ
function p t m = at (λ s ps. AtResult p (shape_of s t)) (λ s ps. made (shape.Function t ps) s) m

-- a parameter that is an array is a pointer to its elements (C90 6.7.1)
abbrev pub adjusted : Tables → ℕ → Shape
adjusted s t = elim (shape_of s t) [ shape.Array n count ↦ shape.Pointer n | x ↦ x ]

abbrev pub with_named_local : Option Name → ℕ → Tables → Tables
with_named_local None t s = s
with_named_local (Some n) t s = with_name n.number (entity.Local (length s.locals)) (with_local (record { type_id = t; taken = false }) s)

abbrev pub is_taken : Tables → Option Name → Bool
is_taken s None = false
is_taken s (Some n) = own_name s n.number

-- a parameter behind those before it
abbrev pub with_parameter : ℕ → NamedType → Tables → Tables × ℕ
with_parameter list x s = made (shape.Parameter list (length s.shapes)) (with_named_local x.name (length s.shapes) (with_shape (adjusted s x.type_id) s))

abbrev pub parameter_at : Place → ℕ → Option Name → CheckPlan NamedType → CheckPlan ℕ
parameter_at p list n m = settles_name n (at (λ s x. AtParameter p (is_taken s x.name) (adjusted s x.type_id)) (λ s x. with_parameter list x s) m)

abbrev pub type_of : CheckPlan NamedType → CheckPlan ℕ
type_of m = does (λ s x. (s, x.type_id)) m

-- ---- expressions: names, values and operators (C90 6.3)

abbrev pub value_at : Place → CheckPlan Typed → CheckPlan Typed
value_at p m = at (λ s x. AtValue p s x) (λ s x. valued p s x x.category) m

-- a use of a name; of one whose declaration is faulty nothing is said
abbrev pub name_at : Name → CheckPlan Typed
name_at n = unless_spoiled (OfName n.number) (at (λ s x. AtName n.place (found_name s n.number)) (λ s x. named n.place (found_name s n.number) s) nothing)

abbrev pub scalar_at : Place → CheckPlan Typed → CheckPlan Typed
scalar_at p m = asks (λ s x. AtScalar p (shape_of s x.type_id)) m

abbrev pub integer_at : Place → CheckPlan Typed → CheckPlan Typed
integer_at p m = asks (λ s x. AtInteger p (shape_of s x.type_id)) m

-- a condition: a value that is a scalar
abbrev pub condition_at : Place → CheckPlan Typed → CheckPlan Typed
condition_at p m = scalar_at p (value_at p m)

-- the name that is an expression, perhaps in parentheses
abbrev pub name_in : tree.Expression → Option Name
name_in (tree.Identifier n) = Some n
name_in (tree.Parenthesised p a) = name_in a
name_in _ = None

abbrev pub marked_entity : Option Entity → Tables → Tables
marked_entity (Some (entity.Local n)) s = marked n (slice_get s.locals n) s
marked_entity _ s = s

abbrev pub marked_name : Option Name → Tables → Tables
marked_name None s = s
marked_name (Some n) s = marked_entity (found_name s n.number) s

abbrev pub address_at : Place → Option Name → CheckPlan Typed → CheckPlan Typed
address_at p n m = at (λ s x. AtAddress p x.category) (λ s x. addressed x (marked_name n s)) m

abbrev pub star_at : Place → CheckPlan Typed → CheckPlan Typed
star_at p m = at (λ s x. AtStar p s (shape_of s x.type_id)) (λ s x. (s, starred x (pointee (shape_of s x.type_id)))) m

abbrev pub promoted_of : Tables → Typed → ℕ
promoted_of s x = promoted (shape_of s x.type_id)

abbrev pub step_at : Place → Bool → Bool → CheckPlan Typed → CheckPlan Typed
step_at p down new m =
    at (λ s x. AtSized p s (pointee (shape_of s x.type_id))) (λ s x. (s, stepped p s down new x)) (scalar_at p (asks (λ s x. AtTarget p (shape_of s x.type_id) x.category) m))

-- an operator before its operand, at p; the operand at q is this name, perhaps
abbrev pub prefix_at : Place → Place → PrefixOperator → Option Name → CheckPlan Typed → CheckPlan Typed
prefix_at p q prefix.Increment n m = step_at p false true m
prefix_at p q prefix.Decrement n m = step_at p true true m
prefix_at p q prefix.Address n m = address_at p n m
prefix_at p q prefix.Indirection n m = star_at p (value_at q m)
prefix_at p q prefix.Plus n m = does (λ s x. (s, valued_by x.tree (promoted_of s x) x.known)) (integer_at p (scalar_at p (value_at q m)))
prefix_at p q prefix.Minus n m = does (λ s x. (s, negated p x (promoted_of s x))) (integer_at p (scalar_at p (value_at q m)))
prefix_at p q prefix.Complement n m = does (λ s x. (s, complemented p x (promoted_of s x))) (integer_at p (scalar_at p (value_at q m)))
prefix_at p q prefix.Not n m = does (λ s x. (s, inverted p x)) (scalar_at p (value_at q m))

abbrev pub postfix_at : Place → PostfixOperator → CheckPlan Typed → CheckPlan Typed
postfix_at p postfix.Increment m = step_at p false false m
postfix_at p postfix.Decrement m = step_at p true false m

abbrev pub combination_of : Tables → BinaryOperator → Typed × Typed → Option Combination
combination_of s o x = combination s o x.0 x.1

abbrev pub operands_at : Place → BinaryOperator → CheckPlan (Typed × Typed) → CheckPlan Typed
operands_at p o m =
    at (λ s x. AtSized p s (scaled_by (combination_of s o x))) (λ s x. (s, combined_as p s o x.0 x.1 (combination_of s o x))) (asks (λ s x. AtOperands p (combination_of s o x)) m)

abbrev pub scalars_at : Place → Place → CheckPlan (Typed × Typed) → CheckPlan (Typed × Typed)
scalars_at p q m = asks (λ s x. AtScalar q (shape_of s x.1.type_id)) (asks (λ s x. AtScalar p (shape_of s x.0.type_id)) m)

abbrev pub and_at : Place → Place → CheckPlan (Typed × Typed) → CheckPlan Typed
and_at p q m = does (λ s x. (s, valued_by (program.And p x.0.tree x.1.tree) int_id (known_and x.0.known x.1.known))) (scalars_at p q m)

abbrev pub or_at : Place → Place → CheckPlan (Typed × Typed) → CheckPlan Typed
or_at p q m = does (λ s x. (s, valued_by (program.Or p x.0.tree x.1.tree) int_id (known_or x.0.known x.1.known))) (scalars_at p q m)

-- an operator between two values, at p and q
abbrev pub binary_at : Place → Place → BinaryOperator → CheckPlan (Typed × Typed) → CheckPlan Typed
binary_at p q binary.AndAnd m = and_at p q m
binary_at p q binary.OrOr m = or_at p q m
binary_at p q o m = operands_at p o m

-- a subscript of two values, at p and q: one is a pointer, the other an integer
abbrev pub index_place : Place → Place → Shape → Place
index_place p q t = if is_pointer t then q else p

abbrev pub index_shape : Tables → Typed × Typed → Shape
index_shape s x = if is_pointer (shape_of s x.0.type_id) then shape_of s x.1.type_id else shape_of s x.0.type_id

abbrev pub index_at : Place → Place → CheckPlan (Typed × Typed) → CheckPlan Typed
index_at p q m =
    at
    (λ s x. AtSized p s (scaled_by (combination_of s binary.Add x)))
    (λ s x. (s, subscripted p s x.0 x.1 (combination_of s binary.Add x)))
    (asks (λ s x. AtInteger (index_place p q (shape_of s x.0.type_id)) (index_shape s x)) (asks (λ s x. AtIndex p (shape_of s x.0.type_id) (shape_of s x.1.type_id)) m))

abbrev pub member_of : Place → MemberOperator → Name → CheckPlan Typed → CheckPlan Typed
member_of p o n m = unless_spoiled (OfMember n.number) (at (λ s x. AtMember p s (owner o s x) n.number) (λ s x. (s, member_by p s o x (component_in s (owner o s x) n.number))) m)

abbrev pub access_at : Place → MemberOperator → Name → CheckPlan Typed → CheckPlan Typed
access_at p signs.Dot n m = member_of p signs.Dot n m
access_at p signs.Arrow n m = member_of p signs.Arrow n (value_at p m)

abbrev pub sizeof_at : Place → CheckPlan ℕ → CheckPlan Typed
sizeof_at p m = at (λ s t. AtSizeof p s t) (λ s t. (s, number (layout_at s t).size unsigned_id)) m

abbrev pub type_of_value : CheckPlan Typed → CheckPlan ℕ
type_of_value m = does (λ s x. (s, x.type_id)) m

abbrev pub cast_at : Place → CheckPlan (ℕ × Typed) → CheckPlan Typed
cast_at p m = at (λ s x. AtCast p (shape_of s x.1.type_id) (shape_of s x.0)) (λ s x. (s, cast_to p s x.1 x.0)) m

abbrev pub target_at : Place → CheckPlan (Typed × Typed) → CheckPlan (Typed × Typed)
target_at p m = asks (λ s x. AtTarget p (shape_of s x.0.type_id) x.0.category) m

abbrev pub assign_at : Place → CheckPlan (Typed × Typed) → CheckPlan Typed
assign_at p m = at (λ s x. AtAssign p s x.1 x.0.type_id) (λ s x. (s, assigned p s x.0 x.1)) (target_at p m)

abbrev pub update_at : Place → BinaryOperator → CheckPlan (Typed × Typed) → CheckPlan Typed
update_at p o m = at (λ s x. AtSized p s (scaled_by (combination_of s o x))) (λ s x. (s, updated p s o x.0 x.1)) (asks (λ s x. AtUpdate p (combination_of s o x)) (target_at p m))

abbrev pub assignment_at : Place → AssignmentOperator → CheckPlan (Typed × Typed) → CheckPlan Typed
assignment_at p assignment.Assign m = assign_at p m
assignment_at p o m = update_at p (operator_of o) m

abbrev pub conditional_at : Place → CheckPlan (Typed × (Typed × Typed)) → CheckPlan Typed
conditional_at p m = at (λ s x. AtBranches p (joined s x.1.0 x.1.1)) (λ s x. conditional_as p x.0 x.1.0 x.1.1 (joined s x.1.0 x.1.1) s) m

abbrev pub comma_at : CheckPlan (Typed × Typed) → CheckPlan Typed
comma_at m = does (λ s x. (s, comma x.0 x.1)) m

-- ---- calls (C90 6.3.2.2)

-- the types of parameters in their order, from their list
abbrev pub parameters_from : ℕ → Tables → Shape → List ℕ
parameters_from zero s t = []
parameters_from (suc k) s (shape.Parameter before t) = parameters_from k s (shape_of s before) ++ (t ∷ [])
parameters_from (suc k) s _ = []

unfoldable pub parameter_types : Tables → ℕ → List ℕ
parameter_types s f = parameters_from (length s.shapes) s (shape_of s (parameters_of (shape_of s (routine_type (slice_get s.routines f)))))

-- the type of a parameter of a function, where one is called and has it
abbrev pub parameter_type : Tables → Option ℕ → ℕ → Option ℕ
parameter_type s None i = None
parameter_type s (Some f) i = slice_get (parameter_types s f) i

abbrev pub passed : Place → Tables → Typed → Option ℕ → program.Expression
passed p s x None = x.tree
passed p s x (Some t) = (converted p s x t).tree

abbrev pub argument_at : Place → Option ℕ → ℕ → List program.Expression → CheckPlan Typed → CheckPlan (List program.Expression)
argument_at p f i done m = at (λ s x. AtArgument p s x (parameter_type s f i)) (λ s x. (s, done ++ (passed p s x (parameter_type s f i) ∷ []))) m

abbrev pub count_of : tree.Expressions → ℕ
count_of tree.no_expressions = 0
count_of (tree.expression_then e es) = suc (count_of es)

abbrev pub is_main : Tables → ℕ → Bool
is_main s name = elim s.main [ None ↦ false | Some n ↦ nat_eq n name ]

-- a use of a function that isn't the library's
abbrev pub with_call : ℕ → Place → Option LibraryFunction → Tables → Tables
with_call f p None s = with_use (entity.Function f) p s
with_call f p (Some l) s = s

-- the function that a name stands for
abbrev pub routine_in : Option Entity → Option ℕ
routine_in (Some (entity.Function f)) = Some f
routine_in _ = None

abbrev pub call_at : Place → Name → ℕ → ℕ → CheckPlan (Unit {0})
call_at p n f given =
    at
    (λ s x. AtCall p (is_main s n.number) (library_of (slice_get s.routines f)) given (length (parameter_types s f)))
    (λ s x. (with_call f n.place (library_of (slice_get s.routines f)) s, tt {0}))
    nothing

-- a call of a function, or of something else
abbrev pub call_by : Place → Place → Name → ℕ → Option ℕ → CheckPlan Typed → CheckPlan (List program.Expression) → CheckPlan Typed
call_by p q n given (Some f) m args = chain tt (call_at p n f given) (λ x. does (λ s es. (s, called p s f es)) args)
call_by p q n given None m args = at (λ s x. AtCalled p) (λ s x. (s, number 0 int_id)) (both (value_at q m) args)

abbrev pub routine_at : Name → CheckPlan (Option ℕ)
routine_at n = looks (λ s. routine_in (found_name s n.number))

abbrev pub call_of : Place → Place → Option Name → ℕ → CheckPlan Typed → (Option ℕ → CheckPlan (List program.Expression)) → CheckPlan Typed
call_of p q None given m args = at (λ s x. AtCalled p) (λ s x. (s, number 0 int_id)) (both (value_at q m) (args None))
call_of p q (Some n) given m args = chain None (routine_at n) (λ f. call_by p q n given f m (args f))
