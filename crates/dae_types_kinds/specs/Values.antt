-- Typed expressions, and what is written for each operation where no rule is broken: with conversions, scalings and offsets
-- (C90 6.2, 6.3 and 6.4).
use Rattle.std.specs.Prelude.{ℕ, ◌+◌, ◌-◌, ◌^◌, List, [], ◌∷◌, length, Option, Some, None, is_some, Bool, true, false, ◌&&◌, ◌||◌, not, nat_eq, if◌then◌else◌, slice_get}
use Rattle.dae_base.specs.declared.Place.{Place}
use Rattle.dae_base.specs.declared.LoadKind.{LoadKind}
use Rattle.dae_base.specs.declared.LoadKind.TheVariants as kinds
use Rattle.dae_base.specs.Words.{plus, minus, times, extended}
use Rattle.dae_meaning.specs.declared.Operator.{Operator}
use Rattle.dae_meaning.specs.declared.Operator.TheVariants as operator
use Rattle.dae_meaning.specs.declared.Comparison.{Comparison}
use Rattle.dae_meaning.specs.declared.Comparison.TheVariants as comparison
use Rattle.dae_meaning.specs.Operations.{combined, compared}
use Rattle.dae_tree.specs.declared.operators.BinaryOperator.{BinaryOperator}
use Rattle.dae_tree.specs.declared.operators.BinaryOperator.TheVariants as binary
use Rattle.dae_tree.specs.declared.operators.AssignmentOperator.{AssignmentOperator}
use Rattle.dae_tree.specs.declared.operators.AssignmentOperator.TheVariants as assignment
use Rattle.dae_tree.specs.declared.operators.MemberOperator.{MemberOperator}
use Rattle.dae_tree.specs.declared.operators.MemberOperator.TheVariants as signs
use Rattle.dae_program.specs.Trees as program
use Rattle.dae_types_kinds.specs.declared.types.Shape.{Shape}
use Rattle.dae_types_kinds.specs.declared.types.Shape.TheVariants as shape
use Rattle.dae_types_kinds.specs.declared.values.Addressing.{Addressing}
use Rattle.dae_types_kinds.specs.declared.values.Addressing.TheVariants.{Direct, Indirect}
use Rattle.dae_types_kinds.specs.declared.values.Category.{Category}
use Rattle.dae_types_kinds.specs.declared.values.Category.TheVariants as category
use Rattle.dae_types_kinds.specs.declared.values.Known.{Known}
use Rattle.dae_types_kinds.specs.declared.values.Known.TheVariants as known
use Rattle.dae_types_kinds.specs.declared.tables.Component.{Component}
use Rattle.dae_types_kinds.specs.declared.tables.Entity.{Entity}
use Rattle.dae_types_kinds.specs.declared.tables.Entity.TheVariants as entity
use Rattle.dae_types_kinds.specs.declared.tables.StaticObject.{StaticObject}
use Rattle.dae_types_kinds.specs.declared.tables.Local.{Local}
use Rattle.dae_types_kinds.specs.declared.tables.Routine.{Routine}
use Rattle.dae_types_kinds.specs.declared.tables.LibraryFunction.{LibraryFunction}
use Rattle.dae_types_kinds.specs.declared.tables.LibraryFunction.TheVariants as library
use Rattle.dae_types_kinds.specs.declared.tables.Storage.{Storage}
use Rattle.dae_types_kinds.specs.declared.tables.Storage.TheVariants as storage
use Rattle.dae_types_kinds.specs.Tables.{Tables, with_shape, with_use, set_local, found_component}
use Rattle.dae_types_kinds.specs.Types.{void_id, char_id, int_id, unsigned_id, no_parameters_id, shape_of, is_integer, is_unsigned, is_pointer, is_void, pointee, points_to_void, structure_of, same, composite, word_for, layout_at}

-- a typed expression with what the rules ask of it
pub record Typed : Type 0 where
  pub tree : program.Expression
  pub type_id : ℕ
  pub category : Category
  pub known : Known

abbrev pub typed : program.Expression → ℕ → Category → Known → Typed
typed e t c k = record { tree = e; type_id = t; category = c; known = k }

abbrev pub plain : program.Expression → ℕ → Typed
plain e t = typed e t category.Plain known.Nothing

-- an integer constant expression is one number
abbrev pub number : ℕ → ℕ → Typed
number w t = typed (program.Number w) t category.Plain (known.Number w)

-- a value whose tree is this, unless it is an integer constant expression
abbrev pub valued_by : program.Expression → ℕ → Known → Typed
valued_by e t (known.Number w) = number w t
valued_by e t k = typed e t category.Plain k

-- ---- questions about values

abbrev pub is_number : Known → Bool
is_number (known.Number w) = true
is_number _ = false

abbrev pub is_division : Known → Bool
is_division known.Division = true
is_division _ = false

-- a constant for an initialiser, as it is written: an integer constant expression or an address constant (C90 6.4)
abbrev pub constant_tree : Known → Option program.Expression
constant_tree (known.Number w) = Some (program.Number w)
constant_tree (known.Address (Some o) k) = Some (program.Address o k)
constant_tree (known.Address None w) = Some (program.Number w)
constant_tree known.NullPointer = Some (program.Number 0)
constant_tree known.Division = None
constant_tree known.Nothing = None

abbrev pub is_constant : Known → Bool
is_constant k = is_some (constant_tree k)

abbrev pub is_zero : Known → Bool
is_zero (known.Number w) = nat_eq w 0
is_zero _ = false

abbrev pub is_null_pointer : Known → Bool
is_null_pointer known.NullPointer = true
is_null_pointer _ = false

-- an integer constant expression with the value 0
abbrev pub is_constant_zero : Tables → Typed → Bool
is_constant_zero s x = is_integer (shape_of s x.type_id) && is_zero x.known

-- a null pointer constant: such an expression, or one cast to `void *` (C90 6.2.2.3)
abbrev pub is_null : Tables → Typed → Bool
is_null s x = is_constant_zero s x || is_null_pointer x.known

abbrev pub is_object : Category → Bool
is_object (category.At a) = true
is_object (category.InVariable n) = true
is_object _ = false

-- ---- names, constants and literals (C90 6.3.1)

abbrev pub object_type : Option StaticObject → ℕ
object_type None = int_id
object_type (Some o) = o.type_id

abbrev pub local_type : Option Local → ℕ
local_type None = int_id
local_type (Some x) = x.type_id

-- a parameter or local object stands in its variable or in the frame; until that is settled, in the frame
abbrev pub stored_in : Place → ℕ → Option Storage → Typed
stored_in p t None = typed (program.Frame p 0) t (category.At Direct) known.Nothing
stored_in p t (Some (storage.Variable n)) = typed (program.Variable p n) t (category.InVariable n) known.Nothing
stored_in p t (Some (storage.Frame offset)) = typed (program.Frame p offset) t (category.At Direct) known.Nothing

-- among a file's objects the literals come first
abbrev pub object_number : Tables → ℕ → ℕ
object_number s n = word_for (length s.literals + n)

abbrev pub object_at : ℕ → ℕ → Typed
object_at n t = typed (program.Address n 0) t (category.At Direct) (known.Address (Some n) 0)

abbrev pub named : Place → Option Entity → Tables → Tables × Typed
named p (Some (entity.Object n)) s = (with_use (entity.Object n) p s, object_at (object_number s n) (object_type (slice_get s.objects n)))
named p (Some (entity.Local n)) s = (s, stored_in p (local_type (slice_get s.locals n)) (slice_get s.storages n))
named p (Some (entity.Enumerator w)) s = (s, number w int_id)
named p _ s = (s, number 0 int_id)

abbrev pub literal_size : Option (List ℕ) → ℕ
literal_size None = 1
literal_size (Some bytes) = word_for (length bytes + 1)

-- a literal is an array of its bytes and a zero byte (C90 6.1.4)
abbrev pub literal : ℕ → Tables → Tables × Typed
literal n s = (with_shape (shape.Array char_id (Some (literal_size (slice_get s.literals n)))) s, object_at n (length s.shapes))

-- ---- what is read (C90 6.2.2.1)

abbrev pub load_kind : Shape → LoadKind
load_kind shape.Char = kinds.U8
load_kind shape.UnsignedChar = kinds.U8
load_kind shape.SignedChar = kinds.I8
load_kind shape.Short = kinds.I16
load_kind shape.UnsignedShort = kinds.U16
load_kind _ = kinds.I32

-- an address that came through `*`, `->` or a subscript is checked where it is used
abbrev pub is_indirect : Addressing → Bool
is_indirect Direct = false
is_indirect Indirect = true

-- an object gives its value, an array the address of its first element; a structure stays where it is
abbrev pub read_by : Place → Tables → Typed → Addressing → Shape → Tables × Typed
read_by p s x a shape.Void = (s, x)
read_by p s x a (shape.Struct n) = (s, typed x.tree x.type_id (category.Aggregate a) known.Nothing)
read_by p s x a (shape.Array n count) = (with_shape (shape.Pointer n) s, typed x.tree (length s.shapes) category.Plain x.known)
read_by p s x a t = (s, plain (program.Read p (load_kind t) (is_indirect a) x.tree) x.type_id)

abbrev pub valued : Place → Tables → Typed → Category → Tables × Typed
valued p s x (category.At a) = read_by p s x a (shape_of s x.type_id)
valued p s x (category.InVariable n) = (s, plain x.tree x.type_id)
valued p s x _ = (s, x)

-- ---- conversions (C90 6.2.1 and 6.2.2.3)

-- the word may change by a conversion from one kind to the other
abbrev pub changes : LoadKind → LoadKind → Bool
changes kinds.U8 kinds.U8 = false
changes kinds.I8 kinds.I8 = false
changes kinds.I16 kinds.I16 = false
changes kinds.U16 kinds.U16 = false
changes kinds.U8 kinds.I16 = false
changes kinds.U8 kinds.U16 = false
changes kinds.I8 kinds.I16 = false
changes k kinds.I32 = false
changes k l = true

abbrev pub is_wide : LoadKind → Bool
is_wide kinds.I32 = true
is_wide _ = false

-- what is known of a word of the first type after a conversion to the second
abbrev pub known_as : Shape → Shape → Known → Known
known_as t u (known.Number w) = if is_integer u then known.Number (extended (load_kind u) w) else if is_pointer u then known.Address None w else known.Nothing
known_as t u known.Division = if is_integer u then known.Division else known.Nothing
known_as t u (known.Address o k) = if is_wide (load_kind u) && not (is_void u) then known.Address o k else known.Nothing
known_as t u known.NullPointer = if is_wide (load_kind u) && not (is_void u) then known.Address None 0 else known.Nothing
known_as t u known.Nothing = known.Nothing

abbrev pub changed : Place → LoadKind → LoadKind → program.Expression → program.Expression
changed p k l e = if changes k l then program.Convert p l e else e

-- what is known of a number is known of the pointer that it becomes, and its tree stays a number
abbrev pub converted_by : Place → Typed → Shape → Shape → ℕ → Typed
converted_by p x t u n = valued_by (changed p (load_kind t) (load_kind u) x.tree) n (known_as t u x.known)

unfoldable pub converted : Place → Tables → Typed → ℕ → Typed
converted p s x t = if is_void (shape_of s t) then plain x.tree t else converted_by p x (shape_of s x.type_id) (shape_of s t) t

-- a cast: an integer constant expression that is 0 becomes a null pointer constant by one to `void *` (C90 6.2.2.3)
abbrev pub null_pointer : Tables → Typed → ℕ → Bool
null_pointer s x t = points_to_void s (shape_of s t) && is_constant_zero s x

abbrev pub cast_to : Place → Tables → Typed → ℕ → Typed
cast_to p s x t =
    let y = converted p s x t in
    typed y.tree y.type_id y.category (if null_pointer s x t then known.NullPointer else y.known)

-- the types of the integral promotion and of the usual conversions; the words stay as they are
abbrev pub promoted : Shape → ℕ
promoted t = if is_unsigned t then unsigned_id else int_id

abbrev pub common : Shape → Shape → ℕ
common t u = if is_unsigned t || is_unsigned u then unsigned_id else int_id

-- ---- addresses

-- an address so many bytes further
abbrev pub further : Place → program.Expression → ℕ → program.Expression
further p (program.Number w) k = program.Number (plus w k)
further p (program.Address o w) k = program.Address o (plus w k)
further p (program.Frame q w) k = program.Frame q (plus w k)
further p e k = program.Binary p operator.Add e (program.Number k)

-- an index in bytes
abbrev pub scaled : Place → program.Expression → ℕ → program.Expression
scaled p (program.Number w) size = program.Number (times w size)
scaled p e size = if nat_eq size 1 then e else program.Binary p operator.Multiply e (program.Number size)

-- the sum of an address and an index in bytes, in the order of the text
abbrev pub sum_of : Place → program.Expression → program.Expression → program.Expression
sum_of p e (program.Number w) = further p e w
sum_of p (program.Number w) e = further p e w
sum_of p e f = program.Binary p operator.Add e f

abbrev pub difference_of : Place → program.Expression → program.Expression → program.Expression
difference_of p e (program.Number w) = further p e (minus 0 w)
difference_of p e f = program.Binary p operator.Subtract e f

abbrev pub moved : (ℕ → ℕ → ℕ) → Known → Known → Known
moved f (known.Address o k) (known.Number w) = known.Address o (f k w)
moved f _ _ = known.Nothing

abbrev pub scaled_known : Known → ℕ → Known
scaled_known (known.Number w) size = known.Number (times w size)
scaled_known _ size = known.Nothing

-- what is known of the address of an object: only that of an object of the file is constant
abbrev pub based : Known → Known
based (known.Address (Some o) k) = known.Address (Some o) k
based _ = known.Nothing

-- ---- operators on words and pointers (C90 6.3.3 to 6.3.14)

-- an operation, or a comparison with whether its operands are turned
pub data WordOperation : Type 0 where
  Operates : Operator → WordOperation
  Compares : Comparison → (turned : Bool) → WordOperation

-- what a binary operator does, where the flag says that its operands are unsigned; `&&` and `||` stand by themselves
abbrev pub deed : Bool → BinaryOperator → WordOperation
deed u binary.Multiply = Operates operator.Multiply
deed u binary.Divide = Operates (if u then operator.DivideUnsigned else operator.DivideSigned)
deed u binary.Remainder = Operates (if u then operator.RemainderUnsigned else operator.RemainderSigned)
deed u binary.Add = Operates operator.Add
deed u binary.Subtract = Operates operator.Subtract
deed u binary.ShiftLeft = Operates operator.ShiftLeft
deed u binary.ShiftRight = Operates (if u then operator.ShiftRightUnsigned else operator.ShiftRightSigned)
deed u binary.Less = Compares (if u then comparison.LessUnsigned else comparison.LessSigned) false
deed u binary.Greater = Compares (if u then comparison.LessUnsigned else comparison.LessSigned) true
deed u binary.AtMost = Compares (if u then comparison.AtLeastUnsigned else comparison.AtLeastSigned) true
deed u binary.AtLeast = Compares (if u then comparison.AtLeastUnsigned else comparison.AtLeastSigned) false
deed u binary.Equal = Compares comparison.Equal false
deed u binary.NotEqual = Compares comparison.NotEqual false
deed u binary.And = Operates operator.And
deed u binary.Xor = Operates operator.Xor
deed u binary.Or = Operates operator.Or
deed u binary.AndAnd = Operates operator.And
deed u binary.OrOr = Operates operator.Or

abbrev pub is_shift : BinaryOperator → Bool
is_shift binary.ShiftLeft = true
is_shift binary.ShiftRight = true
is_shift _ = false

abbrev pub is_equality : BinaryOperator → Bool
is_equality binary.Equal = true
is_equality binary.NotEqual = true
is_equality _ = false

abbrev pub is_comparison : BinaryOperator → Bool
is_comparison binary.Less = true
is_comparison binary.Greater = true
is_comparison binary.AtMost = true
is_comparison binary.AtLeast = true
is_comparison o = is_equality o

abbrev pub is_sum : BinaryOperator → Bool
is_sum binary.Add = true
is_sum _ = false

abbrev pub is_difference : BinaryOperator → Bool
is_difference binary.Subtract = true
is_difference _ = false

-- the operator of a compound assignment; `=` stands by itself
abbrev pub operator_of : AssignmentOperator → BinaryOperator
operator_of assignment.Assign = binary.Add
operator_of assignment.Multiply = binary.Multiply
operator_of assignment.Divide = binary.Divide
operator_of assignment.Remainder = binary.Remainder
operator_of assignment.Add = binary.Add
operator_of assignment.Subtract = binary.Subtract
operator_of assignment.ShiftLeft = binary.ShiftLeft
operator_of assignment.ShiftRight = binary.ShiftRight
operator_of assignment.And = binary.And
operator_of assignment.Xor = binary.Xor
operator_of assignment.Or = binary.Or

-- how two operands go together: as words; as a pointer to a type and an index, or an index and a pointer; as two pointers to
-- a type whose distance is asked; as two pointers that are compared
pub data Combination : Type 0 where
  Words : Combination
  PointerFirst : ℕ → Combination
  PointerSecond : ℕ → Combination
  Distance : ℕ → Combination
  Pointers : Combination

-- two pointers, or a pointer and a null pointer constant, that an operator may compare
abbrev pub are_comparable : Tables → BinaryOperator → Typed → Typed → Bool
are_comparable s o x y =
    let t = shape_of s x.type_id in
    let u = shape_of s y.type_id in
    if is_pointer t && is_pointer u then same s x.type_id y.type_id || (is_equality o && (points_to_void s t || points_to_void s u))
    else is_equality o && ((is_pointer t && is_null s y) || (is_pointer u && is_null s x))

abbrev pub compared_as : Tables → BinaryOperator → Typed → Typed → Option Combination
compared_as s o x y = if is_comparison o && are_comparable s o x y then Some Pointers else None

-- by the shapes of the operands
abbrev pub summed_as : Tables → BinaryOperator → Typed → Typed → Shape → Shape → Option Combination
summed_as s o x y (shape.Pointer n) (shape.Pointer m) = if is_difference o && same s x.type_id y.type_id then Some (Distance n) else compared_as s o x y
summed_as s o x y (shape.Pointer n) u = if (is_sum o || is_difference o) && is_integer u then Some (PointerFirst n) else compared_as s o x y
summed_as s o x y t (shape.Pointer m) = if is_sum o && is_integer t then Some (PointerSecond m) else compared_as s o x y
summed_as s o x y t u = if is_integer t && is_integer u then Some Words else None

unfoldable pub combination : Tables → BinaryOperator → Typed → Typed → Option Combination
combination s o x y = summed_as s o x y (shape_of s x.type_id) (shape_of s y.type_id)

-- the type whose size is needed
abbrev pub scaled_by : Option Combination → Option ℕ
scaled_by (Some (PointerFirst n)) = Some n
scaled_by (Some (PointerSecond n)) = Some n
scaled_by (Some (Distance n)) = Some n
scaled_by _ = None

abbrev pub bit : Bool → ℕ
bit true = 1
bit false = 0

abbrev pub divides : Operator → Bool
divides operator.DivideSigned = true
divides operator.DivideUnsigned = true
divides operator.RemainderSigned = true
divides operator.RemainderUnsigned = true
divides _ = false

abbrev pub turned_to : Bool → (ℕ → ℕ → Bool) → ℕ → ℕ → Bool
turned_to true f x y = f y x
turned_to false f x y = f x y

abbrev pub folded : WordOperation → ℕ → ℕ → Known
folded (Operates o) x y = if divides o && nat_eq y 0 then known.Division else known.Number (combined o x y)
folded (Compares c turned) x y = known.Number (bit (turned_to turned (compared c) x y))

-- a constant address and a number, added or subtracted
abbrev pub address_by : WordOperation → Known → Known → Known
address_by (Operates operator.Add) (known.Address o k) (known.Number w) = known.Address o (plus k w)
address_by (Operates operator.Add) (known.Number w) (known.Address o k) = known.Address o (plus w k)
address_by (Operates operator.Subtract) (known.Address o k) (known.Number w) = known.Address o (minus k w)
address_by _ _ _ = known.Nothing

abbrev pub known_by : WordOperation → Known → Known → Known
known_by d (known.Number x) (known.Number y) = folded d x y
known_by d (known.Number x) known.Division = known.Division
known_by d known.Division (known.Number y) = known.Division
known_by d known.Division known.Division = known.Division
known_by d x y = address_by d x y

abbrev pub tree_by : Place → WordOperation → program.Expression → program.Expression → program.Expression
tree_by p (Operates o) e f = program.Binary p o e f
tree_by p (Compares c turned) e f = program.Compare p c turned e f

-- a constant address is written as one
abbrev pub address_tree : program.Expression → Known → program.Expression
address_tree e (known.Address (Some o) k) = program.Address o k
address_tree e _ = e

-- shifts have the sign of their left operand, other operators that of both
abbrev pub is_unsigned_for : BinaryOperator → Shape → Shape → Bool
is_unsigned_for o t u = is_unsigned t || (not (is_shift o) && is_unsigned u)

abbrev pub type_for : BinaryOperator → Bool → ℕ
type_for o u = if not (is_comparison o) && u then unsigned_id else int_id

abbrev pub operated : Place → WordOperation → ℕ → Typed → Typed → Typed
operated p d t x y = let k = known_by d x.known y.known in valued_by (address_tree (tree_by p d x.tree y.tree) k) t k

-- a pointer and an index, the flag says which is first; the type of the pointer stays
abbrev pub indexed : Place → Tables → ℕ → Typed → Typed → Typed
indexed p s n x y = let size = (layout_at s n).size in typed (sum_of p x.tree (scaled p y.tree size)) x.type_id category.Plain (moved plus x.known (scaled_known y.known size))

abbrev pub indexed_behind : Place → Tables → ℕ → Typed → Typed → Typed
indexed_behind p s n x y = let size = (layout_at s n).size in typed (sum_of p (scaled p x.tree size) y.tree) y.type_id category.Plain (moved plus y.known (scaled_known x.known size))

abbrev pub indexed_back : Place → Tables → ℕ → Typed → Typed → Typed
indexed_back p s n x y = let size = (layout_at s n).size in typed (difference_of p x.tree (scaled p y.tree size)) x.type_id category.Plain (moved minus x.known (scaled_known y.known size))

-- the distance of two pointers in elements
abbrev pub distance : Place → ℕ → Typed → Typed → Typed
distance p size x y = let e = program.Binary p operator.Subtract x.tree y.tree in plain (if nat_eq size 1 then e else program.Binary p operator.DivideSigned e (program.Number size)) int_id

abbrev pub combined_as : Place → Tables → BinaryOperator → Typed → Typed → Option Combination → Typed
combined_as p s o x y (Some Words) = let u = is_unsigned_for o (shape_of s x.type_id) (shape_of s y.type_id) in operated p (deed u o) (type_for o u) x y
combined_as p s o x y (Some (PointerFirst n)) = if is_difference o then indexed_back p s n x y else indexed p s n x y
combined_as p s o x y (Some (PointerSecond n)) = indexed_behind p s n x y
combined_as p s o x y (Some (Distance n)) = distance p (layout_at s n).size x y
combined_as p s o x y (Some Pointers) = plain (tree_by p (deed true o) x.tree y.tree) int_id
combined_as p s o x y None = x

-- a subscript, which is the object at a sum (C90 6.3.2.1)
abbrev pub subscripted : Place → Tables → Typed → Typed → Option Combination → Typed
subscripted p s x y (Some (PointerFirst n)) = let z = indexed p s n x y in typed z.tree n (category.At Indirect) (based z.known)
subscripted p s x y (Some (PointerSecond n)) = let z = indexed_behind p s n x y in typed z.tree n (category.At Indirect) (based z.known)
subscripted p s x y _ = x

-- `*` (C90 6.3.3.2)
abbrev pub starred : Typed → Option ℕ → Typed
starred x None = x
starred x (Some n) = typed x.tree n (category.At Indirect) (based x.known)

-- `&`, which says that a local object's address is taken
abbrev pub marked : ℕ → Option Local → Tables → Tables
marked n None s = s
marked n (Some x) s = set_local n (record { type_id = x.type_id; taken = true }) s

abbrev pub addressed : Typed → Tables → Tables × Typed
addressed x s = (with_shape (shape.Pointer x.type_id) s, typed x.tree (length s.shapes) category.Plain x.known)

-- `+`, `-`, `~` and `!` (C90 6.3.3.3)
abbrev pub negated : Place → Typed → ℕ → Typed
negated p x t = operated p (Operates operator.Subtract) t (number 0 int_id) x

abbrev pub complemented : Place → Typed → ℕ → Typed
complemented p x t = operated p (Operates operator.Xor) t x (number (2 ^ 32 - 1) int_id)

abbrev pub known_not : Known → Known
known_not (known.Number w) = known.Number (bit (nat_eq w 0))
known_not known.Division = known.Division
known_not _ = known.Nothing

abbrev pub inverted : Place → Typed → Typed
inverted p x = valued_by (program.Not p x.tree) int_id (known_not x.known)

-- `&&` and `||`: a constant that decides hides a division by 0 behind it
abbrev pub is_known : Known → Bool
is_known k = is_number k || is_division k

abbrev pub truth : Known → Known
truth (known.Number w) = known.Number (bit (not (nat_eq w 0)))
truth k = k

abbrev pub known_and : Known → Known → Known
known_and (known.Number w) k = if is_known k then (if nat_eq w 0 then known.Number 0 else truth k) else known.Nothing
known_and known.Division k = if is_known k then known.Division else known.Nothing
known_and _ k = known.Nothing

abbrev pub known_or : Known → Known → Known
known_or (known.Number w) k = if is_known k then (if nat_eq w 0 then truth k else known.Number 1) else known.Nothing
known_or known.Division k = if is_known k then known.Division else known.Nothing
known_or _ k = known.Nothing

-- ---- members (C90 6.3.2.3)

abbrev pub pointed_structure : Tables → Option ℕ → Option ℕ
pointed_structure s None = None
pointed_structure s (Some n) = structure_of (shape_of s n)

abbrev pub owner : MemberOperator → Tables → Typed → Option ℕ
owner signs.Dot s x = structure_of (shape_of s x.type_id)
owner signs.Arrow s x = pointed_structure s (pointee (shape_of s x.type_id))

abbrev pub component_in : Tables → Option ℕ → ℕ → Option Component
component_in s None name = None
component_in s (Some n) name = found_component s n name

abbrev pub known_further : Known → ℕ → Known
known_further (known.Address o k) offset = known.Address o (plus k offset)
known_further _ offset = known.Nothing

-- a member of an object is an object; of a structure that is a value, a scalar member is read at once
abbrev pub member_value : Place → Tables → program.Expression → ℕ → Addressing → Shape → Typed
member_value p s e t a (shape.Struct n) = typed e t (category.Aggregate a) known.Nothing
member_value p s e t a (shape.Array n count) = typed e t (category.Aggregate a) known.Nothing
member_value p s e t a u = plain (program.Read p (load_kind u) (is_indirect a) e) t

abbrev pub member_in : Place → Tables → MemberOperator → program.Expression → ℕ → Category → Known → Typed
member_in p s signs.Arrow e t c k = typed e t (category.At Indirect) (based k)
member_in p s signs.Dot e t (category.Aggregate a) k = member_value p s e t a (shape_of s t)
member_in p s signs.Dot e t c k = typed e t c k

abbrev pub member_by : Place → Tables → MemberOperator → Typed → Option Component → Typed
member_by p s o x None = x
member_by p s o x (Some f) = member_in p s o (further p x.tree f.offset) f.type_id x.category (known_further x.known f.offset)

-- ---- assignment (C90 6.3.16)

-- a value may be assigned to a type: numbers to numbers; to a pointer a null pointer constant, the same type, or where one
-- of the two points to void
abbrev pub fits_shape : Tables → Typed → ℕ → Shape → Shape → Bool
fits_shape s x t (shape.Pointer m) (shape.Pointer n) = same s x.type_id t || (is_void (shape_of s m) || is_void (shape_of s n))
fits_shape s x t u (shape.Pointer n) = is_null s x
fits_shape s x t (shape.Struct m) (shape.Struct n) = nat_eq m n
fits_shape s x t u v = is_integer u && is_integer v

unfoldable pub fits : Tables → Typed → ℕ → Bool
fits s x t = fits_shape s x t (shape_of s x.type_id) (shape_of s t)

abbrev pub target_of : Typed → Category → program.Target
target_of x (category.InVariable n) = program.InVariable n
target_of x (category.At a) = program.AtAddress (is_indirect a) x.tree
target_of x _ = program.AtAddress false x.tree

abbrev pub assigned : Place → Tables → Typed → Typed → Typed
assigned p s x y = plain (program.Assign p (load_kind (shape_of s x.type_id)) (target_of x x.category) (converted p s y x.type_id).tree) x.type_id

-- the operation of a compound assignment on the value and the right side
abbrev pub operator_in : WordOperation → Operator
operator_in (Operates o) = o
operator_in (Compares c turned) = operator.Add

abbrev pub updated_by : Place → Tables → BinaryOperator → Typed → Typed → Option Combination → program.Expression
updated_by p s o x y (Some (PointerFirst n)) = scaled p y.tree (layout_at s n).size
updated_by p s o x y _ = y.tree

abbrev pub updated : Place → Tables → BinaryOperator → Typed → Typed → Typed
updated p s o x y =
    let t = shape_of s x.type_id in
    let operation = operator_in (deed (is_unsigned_for o t (shape_of s y.type_id)) o) in
    plain (program.Update p (load_kind t) (target_of x x.category) operation (updated_by p s o x y (combination s o x y))) x.type_id

-- a compound assignment takes numbers, or a pointer and what is added to it or subtracted
abbrev pub is_update : Option Combination → Bool
is_update (Some Words) = true
is_update (Some (PointerFirst n)) = true
is_update _ = false

-- `++` and `--` (C90 6.3.2.4 and 6.3.3.1)
abbrev pub step_size : Tables → Shape → ℕ
step_size s (shape.Pointer n) = (layout_at s n).size
step_size s _ = 1

abbrev pub stepped : Place → Tables → Bool → Bool → Typed → Typed
stepped p s down new x =
    let t = shape_of s x.type_id in
    plain (program.Step p (load_kind t) (target_of x x.category) (if down then minus 0 (step_size s t) else step_size s t) new) x.type_id

-- ---- `?:` and the comma (C90 6.3.15 and 6.3.17)

-- two types of pointers, to m and to n, of which neither is that of a null pointer constant
abbrev pub joined_pointers : Tables → ℕ → ℕ → ℕ → ℕ → Option (Tables × ℕ)
joined_pointers s y z m n =
    if same s y z then Some (composite s y z)
    else if is_void (shape_of s m) then Some (s, y)
    else if is_void (shape_of s n) then Some (s, z)
    else None

-- the type of a conditional by its branches, where they go together: a null pointer constant takes the other's type
abbrev pub joined_shape : Tables → Typed → Typed → Shape → Shape → Option (Tables × ℕ)
joined_shape s y z shape.Void shape.Void = Some (s, void_id)
joined_shape s y z (shape.Struct m) (shape.Struct n) = if nat_eq m n then Some (s, y.type_id) else None
joined_shape s y z (shape.Pointer m) (shape.Pointer n) =
    if is_null s z then Some (s, y.type_id)
    else if is_null s y then Some (s, z.type_id)
    else joined_pointers s y.type_id z.type_id m n
joined_shape s y z (shape.Pointer m) u = if is_null s z then Some (s, y.type_id) else None
joined_shape s y z t (shape.Pointer n) = if is_null s y then Some (s, z.type_id) else None
joined_shape s y z t u = if is_integer t && is_integer u then Some (s, common t u) else None

unfoldable pub joined : Tables → Typed → Typed → Option (Tables × ℕ)
joined s y z = joined_shape s y z (shape_of s y.type_id) (shape_of s z.type_id)

abbrev pub known_branch : Known → Known → Known → Known
known_branch (known.Number w) y z = if is_known y && is_known z then (if nat_eq w 0 then z else y) else known.Nothing
known_branch known.Division y z = if is_known y && is_known z then known.Division else known.Nothing
known_branch _ y z = known.Nothing

-- of an integer type alone
abbrev pub known_if : Bool → Known → Known
known_if true k = k
known_if false k = known.Nothing

abbrev pub either_addressing : Addressing → Addressing → Addressing
either_addressing Direct a = a
either_addressing Indirect a = Indirect

abbrev pub either_category : Category → Category → Category
either_category (category.Aggregate a) (category.Aggregate b) = category.Aggregate (either_addressing a b)
either_category _ _ = category.Plain

abbrev pub conditional_by : program.Expression → ℕ → Category → Known → Typed
conditional_by e t (category.Aggregate a) k = typed e t (category.Aggregate a) known.Nothing
conditional_by e t c k = valued_by e t k

abbrev pub conditional_as : Place → Typed → Typed → Typed → Option (Tables × ℕ) → Tables → Tables × Typed
conditional_as p x y z None s = (s, y)
conditional_as p x y z (Some t) s =
    (t.0, conditional_by (program.Conditional p x.tree y.tree z.tree) t.1 (either_category y.category z.category) (known_if (is_integer (shape_of t.0 t.1)) (known_branch x.known y.known z.known)))

abbrev pub kept_category : Category → Category
kept_category (category.Aggregate a) = category.Aggregate a
kept_category _ = category.Plain

abbrev pub comma : Typed → Typed → Typed
comma x y = typed (program.Comma x.tree y.tree) y.type_id (kept_category y.category) known.Nothing

-- ---- calls (C90 6.3.2.2)

abbrev pub routine_type : Option Routine → ℕ
routine_type None = int_id
routine_type (Some f) = f.type_id

abbrev pub library_of : Option Routine → Option LibraryFunction
library_of None = None
library_of (Some f) = f.library

abbrev pub is_printf : Option LibraryFunction → Bool
is_printf (Some library.Printf) = true
is_printf _ = false

abbrev pub result_of : Shape → ℕ
result_of (shape.Function r ps) = r
result_of _ = int_id

abbrev pub parameters_of : Shape → ℕ
parameters_of (shape.Function r ps) = ps
parameters_of _ = no_parameters_id

abbrev pub listed : List program.Expression → program.Expressions
listed [] = program.no_expressions
listed (e ∷ es) = program.expression_then e (listed es)

abbrev pub first_of_list : List program.Expression → program.Expression
first_of_list [] = program.Number 0
first_of_list (e ∷ es) = e

abbrev pub call_tree : Place → ℕ → Option LibraryFunction → List program.Expression → program.Expression
call_tree p n (Some library.Putchar) es = program.Putchar p (first_of_list es)
call_tree p n (Some library.Exit) es = program.Exit p (first_of_list es)
call_tree p n (Some library.Abort) es = program.Abort p
call_tree p n _ es = program.Call p n (listed es)

abbrev pub called : Place → Tables → ℕ → List program.Expression → Typed
called p s n es = plain (call_tree p (word_for n) (library_of (slice_get s.routines n)) es) (result_of (shape_of s (routine_type (slice_get s.routines n))))
