-- How many nodes each operation adds to those of its operands.
use Rattle.std.proofs.Common.{◌≡◌, ℕ, ◌+◌, ◌-◌, ◌^◌, ◌≤◌, Bool, true, false, List, [], ◌∷◌, ◌++◌, Option, Some, None, if◌then◌else◌, refl, arith}
use Rattle.std.specs.Prelude.{slice_get, nat_eq}
use Rattle.dae_base.specs.declared.Place.{Place}
use Rattle.dae_base.specs.declared.LoadKind.{LoadKind}
use Rattle.dae_base.specs.Words.{minus}
use Rattle.dae_meaning.specs.declared.Operator.TheVariants as operator
use Rattle.dae_tree.specs.declared.operators.BinaryOperator.{BinaryOperator}
use Rattle.dae_tree.specs.declared.operators.MemberOperator.TheVariants as signs
use Rattle.dae_program.specs.Trees as program
use Rattle.dae_program.specs.Trees.{Expression}
use Rattle.dae_types_kinds.specs.declared.types.Shape.{Shape}
use Rattle.dae_types_kinds.specs.declared.types.Shape.TheVariants as shape
use Rattle.dae_types_kinds.specs.declared.values.Addressing.{Addressing}
use Rattle.dae_types_kinds.specs.declared.values.Category.{Category}
use Rattle.dae_types_kinds.specs.declared.values.Category.TheVariants as category
use Rattle.dae_types_kinds.specs.declared.values.Known.{Known}
use Rattle.dae_types_kinds.specs.declared.values.Known.TheVariants as known
use Rattle.dae_types_kinds.specs.declared.tables.Component.{Component}
use Rattle.dae_types_kinds.specs.declared.tables.Entity.{Entity}
use Rattle.dae_types_kinds.specs.declared.tables.Entity.TheVariants as entity
use Rattle.dae_types_kinds.specs.declared.tables.LibraryFunction.{LibraryFunction}
use Rattle.dae_types_kinds.specs.declared.tables.LibraryFunction.TheVariants as library
use Rattle.dae_types_kinds.specs.declared.tables.Storage.{Storage}
use Rattle.dae_types_kinds.specs.declared.tables.Storage.TheVariants as storage
use Rattle.dae_types_kinds.specs.Tables.{Tables, with_shape, with_use}
use Rattle.dae_types_kinds.specs.Types.{shape_of, is_void, is_integer, layout_at, int_id, word_for}
use Rattle.dae_types_kinds.specs.Values.{Typed, plain, number, valued_by, local_type, stored_in, named, load_kind, read_by, valued, changes, changed, known_as, converted_by, converted, further, scaled, sum_of, difference_of, WordOperation, Operates, Compares, deed, Combination, Words, PointerFirst, PointerSecond, Distance, Pointers, combination, known_by, tree_by, address_tree, is_unsigned_for, type_for, operated, indexed, indexed_behind, indexed_back, distance, combined_as, subscripted, starred, negated, complemented, inverted, known_not, member_value, member_in, member_by, known_further, target_of, assigned, updated_by, updated, stepped, conditional_by, conditional_as, either_category, known_if, known_branch, listed, first_of_list, call_tree, called, is_difference, library_of}
use Rattle.dae_sizes.specs.Written.{ticks, ticks_of_target, ticks_of_all}
use Rattle.dae_sizes.proofs.Within.{Got, same, stays}
use Rattle.dae_sizes.proofs.Weighing.{Joins}

-- what an expression may still need to be a value: a read, and one more
abbrev pub room : Category → ℕ
room category.Plain = 1
room (category.At a) = 2
room (category.InVariable n) = 2
room (category.Aggregate a) = 1

pub room_most : (k : Category) → room k ≤ 2
room_most category.Plain = omega arith
room_most (category.At a) = omega arith
room_most (category.InVariable n) = omega arith
room_most (category.Aggregate a) = omega arith

pub room_least : (k : Category) → 1 ≤ room k
room_least category.Plain = omega arith
room_least (category.At a) = omega arith
room_least (category.InVariable n) = omega arith
room_least (category.Aggregate a) = omega arith

abbrev pub value_ticks : Typed → ℕ
value_ticks x = 1 + ticks x.tree

abbrev pub place_ticks : Typed → ℕ
place_ticks x = room x.category + ticks x.tree

pub placed : (n : ℕ) (x : Typed) → 2 + ticks x.tree ≤ n → place_ticks x ≤ n
placed n x l = let h = room_most x.category in omega (arith, h, l)

abbrev pub list_ticks : List Expression → ℕ
list_ticks [] = 0
list_ticks (e ∷ es) = ticks e + list_ticks es

pub ticks-append : (xs ys : List Expression) → list_ticks (xs ++ ys) ≡ list_ticks xs + list_ticks ys
ticks-append [] ys = omega arith
ticks-append (x ∷ xs) ys = let h = ticks-append xs ys in omega (arith, h)

listed_ticks : (es : List Expression) → ticks_of_all (listed es) ≡ list_ticks es
listed_ticks [] = refl
listed_ticks (e ∷ es) = let h = listed_ticks es in omega (arith, h)

if_tree : (b : Bool) (n : ℕ) (e f : Expression) → ticks e ≤ n → ticks f ≤ n → ticks (if b then e else f) ≤ n
if_tree true n e f h k = h
if_tree false n e f h k = k

if_typed : (b : Bool) (n : ℕ) (x y : Typed) → ticks x.tree ≤ n → ticks y.tree ≤ n → ticks (if b then x else y).tree ≤ n
if_typed true n x y h k = h
if_typed false n x y h k = k

least : (e : Expression) → 1 ≤ ticks e
least (program.Number k) = omega arith
least e = omega arith

pub valued_ticks : (e : Expression) (t : ℕ) (k : Known) → ticks (valued_by e t k).tree ≤ ticks e
valued_ticks e t (known.Number w) = least e
valued_ticks e t k = omega arith

further_ticks : (p : Place) (e : Expression) (k : ℕ) → ticks (further p e k) ≤ 2 + ticks e
further_ticks p (program.Number w) k = omega arith
further_ticks p (program.Address o w) k = omega arith
further_ticks p (program.Frame q w) k = omega arith
further_ticks p e k = omega arith

scaled_ticks : (p : Place) (e : Expression) (size : ℕ) → ticks (scaled p e size) ≤ 2 + ticks e
scaled_ticks p (program.Number w) size = omega arith
scaled_ticks p e size = if_tree (nat_eq size 1) (2 + ticks e) e (program.Binary p operator.Multiply e (program.Number size)) (omega arith) (omega arith)

sum_ticks : (p : Place) (e f : Expression) → ticks (sum_of p e f) ≤ 1 + (ticks e + ticks f)
sum_ticks p e (program.Number w) = let h = further_ticks p e w in omega (arith, h)
sum_ticks p (program.Number w) e = let h = further_ticks p e w in omega (arith, h)
sum_ticks p e f = omega arith

difference_ticks : (p : Place) (e f : Expression) → ticks (difference_of p e f) ≤ 1 + (ticks e + ticks f)
difference_ticks p e (program.Number w) = let h = further_ticks p e (minus 0 w) in omega (arith, h)
difference_ticks p e f = omega arith

tree_ticks : (p : Place) (d : WordOperation) (e f : Expression) → ticks (tree_by p d e f) ≤ 1 + (ticks e + ticks f)
tree_ticks p (Operates o) e f = omega arith
tree_ticks p (Compares o turned) e f = omega arith

address_ticks : (e : Expression) (k : Known) → ticks (address_tree e k) ≤ ticks e
address_ticks e (known.Address (Some o) k) = least e
address_ticks e k = omega arith

operated_ticks : (p : Place) (d : WordOperation) (t : ℕ) (x y : Typed) → ticks (operated p d t x y).tree ≤ 1 + (ticks x.tree + ticks y.tree)
operated_ticks p d t x y =
    let k = known_by d x.known y.known in
    let f = tree_ticks p d x.tree y.tree in
    let g = address_ticks (tree_by p d x.tree y.tree) k in
    let h = valued_ticks (address_tree (tree_by p d x.tree y.tree) k) t k in omega (arith, f, g, h)

-- ---- values

changed_ticks : (p : Place) (k l : LoadKind) (e : Expression) → ticks (changed p k l e) ≤ 1 + ticks e
changed_ticks p k l e = if_tree (changes k l) (1 + ticks e) (program.Convert p l e) e (omega arith) (omega arith)

pub converted_ticks : (p : Place) (s : Tables) (x : Typed) (t : ℕ) → ticks (converted p s x t).tree ≤ 1 + ticks x.tree
unfolding converted
converted_ticks p s x t =
    let k = load_kind (shape_of s x.type_id) in
    let l = load_kind (shape_of s t) in
    let g = changed_ticks p k l x.tree in
    let h = valued_ticks (changed p k l x.tree) t (known_as (shape_of s x.type_id) (shape_of s t) x.known) in
    if_typed (is_void (shape_of s t)) (1 + ticks x.tree) (plain x.tree t) (converted_by p x (shape_of s x.type_id) (shape_of s t) t) (omega arith) (omega (arith, g, h))

read_got : (p : Place) (s : Tables) (x : Typed) (a : Addressing) (t : Shape) → Got value_ticks 0 (2 + ticks x.tree) s (read_by p s x a t)
read_got p s x a shape.Void = record { grown = stays 0; small = omega arith }
read_got p s x a (shape.Struct n) = record { grown = stays 0; small = omega arith }
read_got p s x a (shape.Array n count) = record { grown = same 0 s (with_shape (shape.Pointer n) s) refl refl refl; small = omega arith }
read_got p s x a t = record { grown = stays 0; small = omega arith }

pub valued_got : (p : Place) (s : Tables) (x : Typed) (k : Category) → Got value_ticks 0 (room k + ticks x.tree) s (valued p s x k)
valued_got p s x (category.At a) = read_got p s x a (shape_of s x.type_id)
valued_got p s x (category.InVariable n) = record { grown = stays 0; small = omega arith }
valued_got p s x k = record { grown = stays 0; small = omega arith }

stored_ticks : (p : Place) (t : ℕ) (x : Option Storage) → place_ticks (stored_in p t x) ≤ 3
stored_ticks p t None = omega arith
stored_ticks p t (Some (storage.Variable n)) = omega arith
stored_ticks p t (Some (storage.Frame offset)) = omega arith

pub named_got : (p : Place) (e : Option Entity) (s : Tables) → Got place_ticks 0 3 s (named p e s)
named_got p (Some (entity.Object n)) s = record { grown = same 0 s (with_use (entity.Object n) p s) refl refl refl; small = omega arith }
named_got p (Some (entity.Local n)) s = record { grown = stays 0; small = stored_ticks p (local_type (slice_get s.locals n)) (slice_get s.storages n) }
named_got p (Some (entity.Enumerator w)) s = record { grown = stays 0; small = omega arith }
named_got p e s = record { grown = stays 0; small = omega arith }

-- ---- operators

indexed_ticks : (p : Place) (s : Tables) (n : ℕ) (x y : Typed) → ticks (indexed p s n x y).tree ≤ 3 + (ticks x.tree + ticks y.tree)
indexed_ticks p s n x y =
    let z = scaled p y.tree (layout_at s n).size in
    let h = scaled_ticks p y.tree (layout_at s n).size in
    let g = sum_ticks p x.tree z in omega (arith, h, g)

behind_ticks : (p : Place) (s : Tables) (n : ℕ) (x y : Typed) → ticks (indexed_behind p s n x y).tree ≤ 3 + (ticks x.tree + ticks y.tree)
behind_ticks p s n x y =
    let z = scaled p x.tree (layout_at s n).size in
    let h = scaled_ticks p x.tree (layout_at s n).size in
    let g = sum_ticks p z y.tree in omega (arith, h, g)

back_ticks : (p : Place) (s : Tables) (n : ℕ) (x y : Typed) → ticks (indexed_back p s n x y).tree ≤ 3 + (ticks x.tree + ticks y.tree)
back_ticks p s n x y =
    let z = scaled p y.tree (layout_at s n).size in
    let h = scaled_ticks p y.tree (layout_at s n).size in
    let g = difference_ticks p x.tree z in omega (arith, h, g)

distance_ticks : (p : Place) (size : ℕ) (x y : Typed) → ticks (distance p size x y).tree ≤ 3 + (ticks x.tree + ticks y.tree)
distance_ticks p size x y =
    let e = program.Binary p operator.Subtract x.tree y.tree in
    if_tree (nat_eq size 1) (3 + (ticks x.tree + ticks y.tree)) e (program.Binary p operator.DivideSigned e (program.Number size)) (omega arith) (omega arith)

pub combined_ticks : (p : Place) (s : Tables) (o : BinaryOperator) (x y : Typed) (k : Option Combination) → ticks (combined_as p s o x y k).tree ≤ 3 + (ticks x.tree + ticks y.tree)
combined_ticks p s o x y (Some Words) =
    let u = is_unsigned_for o (shape_of s x.type_id) (shape_of s y.type_id) in
    let h = operated_ticks p (deed u o) (type_for o u) x y in omega (arith, h)
combined_ticks p s o x y (Some (PointerFirst n)) =
    if_typed (is_difference o) (3 + (ticks x.tree + ticks y.tree)) (indexed_back p s n x y) (indexed p s n x y) (back_ticks p s n x y) (indexed_ticks p s n x y)
combined_ticks p s o x y (Some (PointerSecond n)) = behind_ticks p s n x y
combined_ticks p s o x y (Some (Distance n)) = distance_ticks p (layout_at s n).size x y
combined_ticks p s o x y (Some Pointers) = let h = tree_ticks p (deed true o) x.tree y.tree in omega (arith, h)
combined_ticks p s o x y None = omega arith

pub subscripted_ticks : (p : Place) (s : Tables) (x y : Typed) (k : Option Combination) → ticks (subscripted p s x y k).tree ≤ 3 + (ticks x.tree + ticks y.tree)
subscripted_ticks p s x y (Some (PointerFirst n)) = indexed_ticks p s n x y
subscripted_ticks p s x y (Some (PointerSecond n)) = behind_ticks p s n x y
subscripted_ticks p s x y k = omega arith

pub starred_ticks : (x : Typed) (t : Option ℕ) → ticks (starred x t).tree ≤ ticks x.tree
starred_ticks x None = omega arith
starred_ticks x (Some n) = omega arith

pub negated_ticks : (p : Place) (x : Typed) (t : ℕ) → ticks (negated p x t).tree ≤ 2 + ticks x.tree
negated_ticks p x t = let h = operated_ticks p (Operates operator.Subtract) t (number 0 int_id) x in omega (arith, h)

pub complemented_ticks : (p : Place) (x : Typed) (t : ℕ) → ticks (complemented p x t).tree ≤ 2 + ticks x.tree
complemented_ticks p x t = let h = operated_ticks p (Operates operator.Xor) t x (number (2 ^ 32 - 1) int_id) in omega (arith, h)

pub inverted_ticks : (p : Place) (x : Typed) → ticks (inverted p x).tree ≤ 1 + ticks x.tree
inverted_ticks p x = valued_ticks (program.Not p x.tree) int_id (known_not x.known)

-- ---- members, assignments, calls

member_value_ticks : (p : Place) (s : Tables) (e : Expression) (t : ℕ) (a : Addressing) (u : Shape) → place_ticks (member_value p s e t a u) ≤ 2 + ticks e
member_value_ticks p s e t a (shape.Struct n) = omega arith
member_value_ticks p s e t a (shape.Array n count) = omega arith
member_value_ticks p s e t a u = omega arith

member_dot : (p : Place) (s : Tables) (e : Expression) (t : ℕ) (k : Category) (z : Known) → place_ticks (member_in p s signs.Dot e t k z) ≤ 1 + (room k + ticks e)
member_dot p s e t (category.Aggregate a) z = let h = member_value_ticks p s e t a (shape_of s t) in omega (arith, h)
member_dot p s e t k z = omega arith

-- a member of what is at a place, and of what is pointed to
pub dot_ticks : (p : Place) (s : Tables) (x : Typed) (f : Option Component) → place_ticks (member_by p s signs.Dot x f) ≤ 3 + place_ticks x
dot_ticks p s x None = omega arith
dot_ticks p s x (Some f) =
    let h = further_ticks p x.tree f.offset in
    let g = member_dot p s (further p x.tree f.offset) f.type_id x.category (known_further x.known f.offset) in omega (arith, h, g)

pub arrow_ticks : (p : Place) (s : Tables) (x : Typed) (f : Option Component) → ticks (member_by p s signs.Arrow x f).tree ≤ 2 + ticks x.tree
arrow_ticks p s x None = omega arith
arrow_ticks p s x (Some f) = further_ticks p x.tree f.offset

target_ticks : (x : Typed) (k : Category) → ticks_of_target (target_of x k) ≤ ticks x.tree
target_ticks x (category.InVariable n) = omega arith
target_ticks x (category.At a) = omega arith
target_ticks x k = omega arith

pub assigned_ticks : (p : Place) (s : Tables) (x y : Typed) → ticks (assigned p s x y).tree ≤ 2 + (ticks x.tree + ticks y.tree)
assigned_ticks p s x y =
    let h = target_ticks x x.category in
    let g = converted_ticks p s y x.type_id in omega (arith, h, g)

updated_by_ticks : (p : Place) (s : Tables) (o : BinaryOperator) (x y : Typed) (k : Option Combination) → ticks (updated_by p s o x y k) ≤ 2 + ticks y.tree
updated_by_ticks p s o x y (Some (PointerFirst n)) = scaled_ticks p y.tree (layout_at s n).size
updated_by_ticks p s o x y k = omega arith

pub updated_ticks : (p : Place) (s : Tables) (o : BinaryOperator) (x y : Typed) → ticks (updated p s o x y).tree ≤ 3 + (ticks x.tree + ticks y.tree)
updated_ticks p s o x y =
    let h = target_ticks x x.category in
    let g = updated_by_ticks p s o x y (combination s o x y) in omega (arith, h, g)

pub stepped_ticks : (p : Place) (s : Tables) (down new : Bool) (x : Typed) → ticks (stepped p s down new x).tree ≤ 1 + ticks x.tree
stepped_ticks p s down new x = let h = target_ticks x x.category in omega (arith, h)

conditional_by_ticks : (e : Expression) (t : ℕ) (k : Category) (z : Known) → ticks (conditional_by e t k z).tree ≤ ticks e
conditional_by_ticks e t (category.Aggregate a) z = omega arith
conditional_by_ticks e t k z = valued_ticks e t z

pub conditional_got : (p : Place) (x y z : Typed) (t : Tables × ℕ) (s : Tables) → Joins s (Some t) → Got place_ticks 0 (3 + ticks x.tree) s (conditional_as p x y z (Some t) s)
conditional_got p x y z t s h = record {
  grown = h;
  small =
      let k = either_category y.category z.category in
      let v = known_if (is_integer (shape_of t.0 t.1)) (known_branch x.known y.known z.known) in
      let g = conditional_by_ticks (program.Conditional p x.tree y.tree z.tree) t.1 k v in
      placed (3 + ticks x.tree) (conditional_by (program.Conditional p x.tree y.tree z.tree) t.1 k v) (omega (arith, g));
}

first_ticks : (es : List Expression) → ticks (first_of_list es) ≤ 1 + list_ticks es
first_ticks [] = omega arith
first_ticks (e ∷ es) = omega arith

call_ticks : (p : Place) (n : ℕ) (l : Option LibraryFunction) (es : List Expression) → ticks (call_tree p n l es) ≤ 2 + list_ticks es
call_ticks p n (Some library.Putchar) es = let h = first_ticks es in omega (arith, h)
call_ticks p n (Some library.Exit) es = let h = first_ticks es in omega (arith, h)
call_ticks p n (Some library.Abort) es = omega arith
call_ticks p n l es = let h = listed_ticks es in omega (arith, h)

pub called_ticks : (p : Place) (s : Tables) (n : ℕ) (es : List Expression) → place_ticks (called p s n es) ≤ 3 + list_ticks es
called_ticks p s n es = let h = call_ticks p (word_for n) (library_of (slice_get s.routines n)) es in omega (arith, h)
