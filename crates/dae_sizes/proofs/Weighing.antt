-- How much each operation adds to the weight of its operands, and that the tables keep their literals and locals.
use Rattle.std.proofs.Common.{◌≡◌, ℕ, zero, suc, ◌+◌, ◌-◌, ◌^◌, ◌≤◌, Bool, true, false, List, [], ◌∷◌, ◌++◌, length, Option, Some, None, if◌then◌else◌, refl, arith}
use Rattle.std.specs.Prelude.{slice_get, nat_eq, ◌&&◌}
use Rattle.dae_base.specs.declared.Place.{Place}
use Rattle.dae_base.specs.declared.LoadKind.{LoadKind}
use Rattle.dae_base.specs.Words.{minus}
use Rattle.dae_meaning.specs.declared.Operator.TheVariants as operator
use Rattle.dae_tree.specs.declared.operators.BinaryOperator.{BinaryOperator}
use Rattle.dae_tree.specs.declared.operators.MemberOperator.{MemberOperator}
use Rattle.dae_tree.specs.declared.operators.MemberOperator.TheVariants as signs
use Rattle.dae_program.specs.Trees as program
use Rattle.dae_program.specs.Trees.{Expression}
use Rattle.dae_types_kinds.specs.declared.types.Shape.{Shape}
use Rattle.dae_types_kinds.specs.declared.types.Shape.TheVariants as shape
use Rattle.dae_types_kinds.specs.declared.values.Addressing.{Addressing}
use Rattle.dae_types_kinds.specs.declared.values.Category.{Category}
use Rattle.dae_types_kinds.specs.declared.values.Category.TheVariants as category
use Rattle.dae_types_kinds.specs.declared.values.Known.{Known}
use Rattle.dae_types_kinds.specs.declared.values.Known.TheVariants as known
use Rattle.dae_types_kinds.specs.declared.tables.Component.{Component}
use Rattle.dae_types_kinds.specs.declared.tables.Entity.{Entity}
use Rattle.dae_types_kinds.specs.declared.tables.Entity.TheVariants as entity
use Rattle.dae_types_kinds.specs.declared.tables.LibraryFunction.{LibraryFunction}
use Rattle.dae_types_kinds.specs.declared.tables.LibraryFunction.TheVariants as library
use Rattle.dae_types_kinds.specs.declared.tables.Local.{Local}
use Rattle.dae_types_kinds.specs.declared.tables.Storage.{Storage}
use Rattle.dae_types_kinds.specs.declared.tables.Storage.TheVariants as storage
use Rattle.dae_types_kinds.specs.Tables.{Tables, with_shape, with_use, set_local, written_at}
use Rattle.dae_types_kinds.specs.Types.{same as same_type, shape_of, is_void, is_integer, layout_at, composite, composite_shape, composite_within, int_id, word_for}
use Rattle.dae_types_kinds.specs.Values.{Typed, plain, is_indirect, is_null, common, number, valued_by, local_type, stored_in, named, load_kind, read_by, valued, changes, changed, known_as, converted_by, converted, further, scaled, sum_of, difference_of, WordOperation, Operates, Compares, deed, Combination, Words, PointerFirst, PointerSecond, Distance, Pointers, combination, known_by, tree_by, address_tree, is_unsigned_for, type_for, operated, indexed, indexed_behind, indexed_back, distance, combined_as, subscripted, starred, marked, negated, complemented, inverted, known_not, member_value, member_in, member_by, known_further, target_of, assigned, updated_by, updated, stepped, joined_pointers, joined_shape, joined, conditional_by, conditional_as, either_category, known_if, known_branch, listed, first_of_list, call_tree, called, is_difference, library_of}
use Rattle.dae_void_laws.proofs.Laws.{either_has}
use Rattle.dae_sizes.specs.Weights.{if_checked, weight, weight_of_target, weight_of_all}
use Rattle.dae_sizes.proofs.Within.{Grown, Got, same, stays, grows, grown_more}

-- what stands behind a check counts so many more, since its read does
abbrev pub behind_check : (constant : ℕ) → Category → ℕ
behind_check c (category.At a) = if_checked c (is_indirect a)
behind_check c (category.Aggregate a) = if_checked c (is_indirect a)
behind_check c category.Plain = 0
behind_check c (category.InVariable n) = 0

if_checked_low : (c : ℕ) (b : Bool) → if_checked c b ≤ c
if_checked_low c true = omega arith
if_checked_low c false = omega arith

pub behind_low : (c : ℕ) (k : Category) → behind_check c k ≤ c
behind_low c (category.At a) = if_checked_low c (is_indirect a)
behind_low c (category.Aggregate a) = if_checked_low c (is_indirect a)
behind_low c category.Plain = omega arith
behind_low c (category.InVariable n) = omega arith

-- a typed expression with so much more
abbrev pub cost : (constant more : ℕ) → Typed → ℕ
cost c k x = k + (behind_check c x.category + weight c x.tree)

-- arguments, each with one more
abbrev pub weight_of_list : ℕ → List Expression → ℕ
weight_of_list c [] = 0
weight_of_list c (e ∷ es) = 1 + (weight c e + weight_of_list c es)

pub weight-append : (c : ℕ) (xs ys : List Expression) → weight_of_list c (xs ++ ys) ≡ weight_of_list c xs + weight_of_list c ys
weight-append c [] ys = omega arith
weight-append c (x ∷ xs) ys = let h = weight-append c xs ys in omega (arith, h)

listed_weighs : (c : ℕ) (es : List Expression) → weight_of_all c (listed es) ≡ weight_of_list c es
listed_weighs c [] = refl
listed_weighs c (e ∷ es) = let h = listed_weighs c es in omega (arith, h)

-- ---- tables

length-written : {X : Type 0} (n : ℕ) (x : X) (xs : List X) → length (written_at n x xs) ≡ length xs
length-written n x [] = refl
length-written zero x (y ∷ ys) = refl
length-written (suc n) x (y ∷ ys) = let h = length-written n x ys in omega (arith, h)

pub set_local_grown : (n : ℕ) (x : Local) (s : Tables) → Grown 0 s (set_local n x s)
set_local_grown n x s = record { literals = refl; locals = let h = length-written n x s.locals in omega (arith, h); storages = refl }

pub marked_grown : (n : ℕ) (x : Option Local) (s : Tables) → Grown 0 s (marked n x s)
marked_grown n None s = stays 0
marked_grown n (Some x) s = set_local_grown n (record { type_id = x.type_id; taken = true }) s

behind : {s t u : Tables} → Grown 0 s t → u.literals ≡ t.literals → u.locals ≡ t.locals → u.storages ≡ t.storages → Grown 0 s u
behind {s} {t} {u} g l k r = grown_more (omega arith) (grows g (same 0 t u l k r))

composite_shape_grown : (f : Tables → ℕ → ℕ → Tables × ℕ) → ((s : Tables) (m n : ℕ) → Grown 0 s (f s m n).0) → (s : Tables) (old : ℕ) (t u : Shape) → Grown 0 s (composite_shape f s old t u).0
composite_shape_grown f h s old (shape.Pointer m) (shape.Pointer n) = behind (h s m n) refl refl refl
composite_shape_grown f h s old (shape.Array m c) (shape.Array n d) = behind (h s m n) refl refl refl
composite_shape_grown f h s old (shape.Function r ps) (shape.Function t qs) = behind (grown_more (omega arith) (grows (h s r t) (h (f s r t).0 ps qs))) refl refl refl
composite_shape_grown f h s old (shape.Parameter ps m) (shape.Parameter qs n) = behind (grown_more (omega arith) (grows (h s ps qs) (h (f s ps qs).0 m n))) refl refl refl
composite_shape_grown f h s old t u = stays 0

composite_within_grown : (k : ℕ) (s : Tables) (m n : ℕ) → Grown 0 s (composite_within k s m n).0
composite_within_grown zero s m n = stays 0
composite_within_grown (suc k) s m n = composite_shape_grown (composite_within k) (composite_within_grown k) s m (shape_of s m) (shape_of s n)

pub composite_grown : (s : Tables) (m n : ℕ) → Grown 0 s (composite s m n).0
unfolding composite
composite_grown s m n = composite_within_grown (length s.shapes) s m n

abbrev pub Joins : Tables → Option (Tables × ℕ) → Type 0
Joins s None = Unit {0}
Joins s (Some t) = Grown 0 s t.0

joined_pointers_grown : (s : Tables) (y z m n : ℕ) → Joins s (joined_pointers s y z m n)
joined_pointers_grown s y z m n =
    let second = if is_void (shape_of s n) then Some (s, z) else None in
    let first = if is_void (shape_of s m) then Some (s, y) else second in
    either_has (Joins s) (same_type s y z) (Some (composite s y z)) first (composite_grown s y z)
    (either_has (Joins s) (is_void (shape_of s m)) (Some (s, y)) second (stays 0) (either_has (Joins s) (is_void (shape_of s n)) (Some (s, z)) None (stays 0) tt))

joined_shape_grown : (s : Tables) (y z : Typed) (t u : Shape) → Joins s (joined_shape s y z t u)
joined_shape_grown s y z shape.Void shape.Void = stays 0
joined_shape_grown s y z (shape.Struct m) (shape.Struct n) = either_has (Joins s) (nat_eq m n) (Some (s, y.type_id)) None (stays 0) tt
joined_shape_grown s y z (shape.Pointer m) (shape.Pointer n) =
    let both = joined_pointers s y.type_id z.type_id m n in
    let second = if is_null s y then Some (s, z.type_id) else both in
    either_has (Joins s) (is_null s z) (Some (s, y.type_id)) second (stays 0) (either_has (Joins s) (is_null s y) (Some (s, z.type_id)) both (stays 0) (joined_pointers_grown s y.type_id z.type_id m n))
joined_shape_grown s y z (shape.Pointer m) u = either_has (Joins s) (is_null s z) (Some (s, y.type_id)) None (stays 0) tt
joined_shape_grown s y z t (shape.Pointer n) = either_has (Joins s) (is_null s y) (Some (s, z.type_id)) None (stays 0) tt
joined_shape_grown s y z t u = either_has (Joins s) (is_integer t && is_integer u) (Some (s, common t u)) None (stays 0) tt

pub joined_grown : (s : Tables) (y z : Typed) → Joins s (joined s y z)
unfolding joined
joined_grown s y z = joined_shape_grown s y z (shape_of s y.type_id) (shape_of s z.type_id)

-- ---- trees

if_tree : (b : Bool) (c n : ℕ) (e f : Expression) → weight c e ≤ n → weight c f ≤ n → weight c (if b then e else f) ≤ n
if_tree true c n e f h k = h
if_tree false c n e f h k = k

if_typed : (b : Bool) (c n : ℕ) (x y : Typed) → weight c x.tree ≤ n → weight c y.tree ≤ n → weight c (if b then x else y).tree ≤ n
if_typed true c n x y h k = h
if_typed false c n x y h k = k

module _ (c : ℕ) (low : c ≤ 1) where
  -- every tree weighs at least as much as a constant
  pub least : (e : Expression) → c ≤ weight c e
  least (program.Number k) = omega arith
  least (program.Address object offset) = omega arith
  least e = omega (arith, low)

  pub valued_weighs : (e : Expression) (t : ℕ) (k : Known) → weight c (valued_by e t k).tree ≤ weight c e
  valued_weighs e t (known.Number w) = least e
  valued_weighs e t k = omega arith

  further_weighs : (p : Place) (e : Expression) (k : ℕ) → weight c (further p e k) ≤ 1 + (c + weight c e)
  further_weighs p (program.Number w) k = omega arith
  further_weighs p (program.Address o w) k = omega arith
  further_weighs p (program.Frame q w) k = omega arith
  further_weighs p e k = omega arith

  scaled_weighs : (p : Place) (e : Expression) (size : ℕ) → weight c (scaled p e size) ≤ 1 + (c + weight c e)
  scaled_weighs p (program.Number w) size = omega arith
  scaled_weighs p e size = if_tree (nat_eq size 1) c (1 + (c + weight c e)) e (program.Binary p operator.Multiply e (program.Number size)) (omega arith) (omega arith)

  sum_weighs : (p : Place) (e f : Expression) → weight c (sum_of p e f) ≤ 1 + (weight c e + weight c f)
  sum_weighs p e (program.Number w) = let h = further_weighs p e w in omega (arith, h)
  sum_weighs p (program.Number w) e = let h = further_weighs p e w in omega (arith, h)
  sum_weighs p e f = omega arith

  difference_weighs : (p : Place) (e f : Expression) → weight c (difference_of p e f) ≤ 1 + (weight c e + weight c f)
  difference_weighs p e (program.Number w) = let h = further_weighs p e (minus 0 w) in omega (arith, h)
  difference_weighs p e f = omega arith

  tree_weighs : (p : Place) (d : WordOperation) (e f : Expression) → weight c (tree_by p d e f) ≤ 1 + (weight c e + weight c f)
  tree_weighs p (Operates o) e f = omega arith
  tree_weighs p (Compares o turned) e f = omega arith

  address_weighs : (e : Expression) (k : Known) → weight c (address_tree e k) ≤ weight c e
  address_weighs e (known.Address (Some o) k) = least e
  address_weighs e k = omega arith

  pub operated_weighs : (p : Place) (d : WordOperation) (t : ℕ) (x y : Typed) → weight c (operated p d t x y).tree ≤ 1 + (weight c x.tree + weight c y.tree)
  operated_weighs p d t x y =
      let k = known_by d x.known y.known in
      let f = tree_weighs p d x.tree y.tree in
      let g = address_weighs (tree_by p d x.tree y.tree) k in
      let h = valued_weighs (address_tree (tree_by p d x.tree y.tree) k) t k in omega (arith, f, g, h)

  -- ---- values

  changed_weighs : (p : Place) (k l : LoadKind) (e : Expression) → weight c (changed p k l e) ≤ 1 + weight c e
  changed_weighs p k l e = if_tree (changes k l) c (1 + weight c e) (program.Convert p l e) e (omega arith) (omega arith)

  pub converted_weighs : (p : Place) (s : Tables) (x : Typed) (t : ℕ) → weight c (converted p s x t).tree ≤ 1 + weight c x.tree
  unfolding converted
  converted_weighs p s x t =
      let k = load_kind (shape_of s x.type_id) in
      let l = load_kind (shape_of s t) in
      let g = changed_weighs p k l x.tree in
      let h = valued_weighs (changed p k l x.tree) t (known_as (shape_of s x.type_id) (shape_of s t) x.known) in
      if_typed (is_void (shape_of s t)) c (1 + weight c x.tree) (plain x.tree t) (converted_by p x (shape_of s x.type_id) (shape_of s t) t) (omega arith) (omega (arith, g, h))

  read_got : (p : Place) (s : Tables) (x : Typed) (a : Addressing) (t : Shape) → Got (cost c 0) 0 (1 + (if_checked c (is_indirect a) + weight c x.tree)) s (read_by p s x a t)
  read_got p s x a shape.Void = record { grown = stays 0; small = let b = behind_low c x.category in omega (arith, low, b) }
  read_got p s x a (shape.Struct n) = record { grown = stays 0; small = omega arith }
  read_got p s x a (shape.Array n count) = record { grown = same 0 s (with_shape (shape.Pointer n) s) refl refl refl; small = omega arith }
  read_got p s x a t = record { grown = stays 0; small = omega arith }

  pub valued_got : (p : Place) (s : Tables) (x : Typed) (k : Category) → Got (cost c 0) 0 (1 + (behind_check c k + weight c x.tree)) s (valued p s x k)
  valued_got p s x (category.At a) = read_got p s x a (shape_of s x.type_id)
  valued_got p s x (category.InVariable n) = record { grown = stays 0; small = omega arith }
  valued_got p s x (category.Aggregate a) = record { grown = stays 0; small = let b = behind_low c x.category in omega (arith, low, b) }
  valued_got p s x category.Plain = record { grown = stays 0; small = let b = behind_low c x.category in omega (arith, low, b) }

  stored_weighs : (p : Place) (t : ℕ) (x : Option Storage) → cost c 0 (stored_in p t x) ≤ 1
  stored_weighs p t None = omega arith
  stored_weighs p t (Some (storage.Variable n)) = omega arith
  stored_weighs p t (Some (storage.Frame offset)) = omega arith

  pub named_got : (p : Place) (e : Option Entity) (s : Tables) → Got (cost c 0) 0 1 s (named p e s)
  named_got p (Some (entity.Object n)) s = record { grown = same 0 s (with_use (entity.Object n) p s) refl refl refl; small = omega (arith, low) }
  named_got p (Some (entity.Local n)) s = record { grown = stays 0; small = let h = stored_weighs p (local_type (slice_get s.locals n)) (slice_get s.storages n) in omega (arith, h) }
  named_got p (Some (entity.Enumerator w)) s = record { grown = stays 0; small = omega (arith, low) }
  named_got p e s = record { grown = stays 0; small = omega (arith, low) }

  -- ---- operators

  indexed_weighs : (p : Place) (s : Tables) (n : ℕ) (x y : Typed) → weight c (indexed p s n x y).tree ≤ 3 + (weight c x.tree + weight c y.tree)
  indexed_weighs p s n x y =
      let z = scaled p y.tree (layout_at s n).size in
      let h = scaled_weighs p y.tree (layout_at s n).size in
      let g = sum_weighs p x.tree z in omega (arith, low, h, g)

  behind_weighs : (p : Place) (s : Tables) (n : ℕ) (x y : Typed) → weight c (indexed_behind p s n x y).tree ≤ 3 + (weight c x.tree + weight c y.tree)
  behind_weighs p s n x y =
      let z = scaled p x.tree (layout_at s n).size in
      let h = scaled_weighs p x.tree (layout_at s n).size in
      let g = sum_weighs p z y.tree in omega (arith, low, h, g)

  back_weighs : (p : Place) (s : Tables) (n : ℕ) (x y : Typed) → weight c (indexed_back p s n x y).tree ≤ 3 + (weight c x.tree + weight c y.tree)
  back_weighs p s n x y =
      let z = scaled p y.tree (layout_at s n).size in
      let h = scaled_weighs p y.tree (layout_at s n).size in
      let g = difference_weighs p x.tree z in omega (arith, low, h, g)

  distance_weighs : (p : Place) (size : ℕ) (x y : Typed) → weight c (distance p size x y).tree ≤ 3 + (weight c x.tree + weight c y.tree)
  distance_weighs p size x y =
      let e = program.Binary p operator.Subtract x.tree y.tree in
      if_tree (nat_eq size 1) c (3 + (weight c x.tree + weight c y.tree)) e (program.Binary p operator.DivideSigned e (program.Number size)) (omega arith) (omega (arith, low))

  pub combined_weighs : (p : Place) (s : Tables) (o : BinaryOperator) (x y : Typed) (k : Option Combination) → weight c (combined_as p s o x y k).tree ≤ 3 + (weight c x.tree + weight c y.tree)
  combined_weighs p s o x y (Some Words) =
      let u = is_unsigned_for o (shape_of s x.type_id) (shape_of s y.type_id) in
      let h = operated_weighs p (deed u o) (type_for o u) x y in omega (arith, h)
  combined_weighs p s o x y (Some (PointerFirst n)) =
      if_typed (is_difference o) c (3 + (weight c x.tree + weight c y.tree)) (indexed_back p s n x y) (indexed p s n x y) (back_weighs p s n x y) (indexed_weighs p s n x y)
  combined_weighs p s o x y (Some (PointerSecond n)) = behind_weighs p s n x y
  combined_weighs p s o x y (Some (Distance n)) = distance_weighs p (layout_at s n).size x y
  combined_weighs p s o x y (Some Pointers) = let h = tree_weighs p (deed true o) x.tree y.tree in omega (arith, h)
  combined_weighs p s o x y None = omega arith

  pub subscripted_weighs : (p : Place) (s : Tables) (x y : Typed) (k : Option Combination) → weight c (subscripted p s x y k).tree ≤ 3 + (weight c x.tree + weight c y.tree)
  subscripted_weighs p s x y (Some (PointerFirst n)) = indexed_weighs p s n x y
  subscripted_weighs p s x y (Some (PointerSecond n)) = behind_weighs p s n x y
  subscripted_weighs p s x y k = omega arith

  pub starred_weighs : (x : Typed) (t : Option ℕ) → weight c (starred x t).tree ≤ weight c x.tree
  starred_weighs x None = omega arith
  starred_weighs x (Some n) = omega arith

  pub negated_weighs : (p : Place) (x : Typed) (t : ℕ) → weight c (negated p x t).tree ≤ 2 + weight c x.tree
  negated_weighs p x t = let h = operated_weighs p (Operates operator.Subtract) t (number 0 int_id) x in omega (arith, low, h)

  pub complemented_weighs : (p : Place) (x : Typed) (t : ℕ) → weight c (complemented p x t).tree ≤ 2 + weight c x.tree
  complemented_weighs p x t = let h = operated_weighs p (Operates operator.Xor) t x (number (2 ^ 32 - 1) int_id) in omega (arith, low, h)

  pub inverted_weighs : (p : Place) (x : Typed) → weight c (inverted p x).tree ≤ 1 + weight c x.tree
  inverted_weighs p x = valued_weighs (program.Not p x.tree) int_id (known_not x.known)

  -- ---- members, assignments, calls

  member_value_weighs : (p : Place) (s : Tables) (e : Expression) (t : ℕ) (a : Addressing) (u : Shape) → weight c (member_value p s e t a u).tree ≤ 2 + weight c e
  member_value_weighs p s e t a (shape.Struct n) = omega arith
  member_value_weighs p s e t a (shape.Array n count) = omega arith
  member_value_weighs p s e t a u = let b = if_checked_low c (is_indirect a) in omega (arith, low, b)

  member_in_weighs : (p : Place) (s : Tables) (o : MemberOperator) (e : Expression) (t : ℕ) (k : Category) (z : Known) → weight c (member_in p s o e t k z).tree ≤ 2 + weight c e
  member_in_weighs p s signs.Arrow e t k z = omega arith
  member_in_weighs p s signs.Dot e t (category.Aggregate a) z = member_value_weighs p s e t a (shape_of s t)
  member_in_weighs p s signs.Dot e t k z = omega arith

  pub member_weighs : (p : Place) (s : Tables) (o : MemberOperator) (x : Typed) (f : Option Component) → weight c (member_by p s o x f).tree ≤ 4 + weight c x.tree
  member_weighs p s o x None = omega arith
  member_weighs p s o x (Some f) =
      let h = further_weighs p x.tree f.offset in
      let g = member_in_weighs p s o (further p x.tree f.offset) f.type_id x.category (known_further x.known f.offset) in omega (arith, low, h, g)

  target_weighs : (x : Typed) (k : Category) → weight_of_target c (target_of x k) ≤ weight c x.tree
  target_weighs x (category.InVariable n) = omega arith
  target_weighs x (category.At a) = omega arith
  target_weighs x k = omega arith

  pub assigned_weighs : (p : Place) (s : Tables) (x y : Typed) → weight c (assigned p s x y).tree ≤ 2 + (weight c x.tree + weight c y.tree)
  assigned_weighs p s x y =
      let h = target_weighs x x.category in
      let g = converted_weighs p s y x.type_id in omega (arith, h, g)

  updated_by_weighs : (p : Place) (s : Tables) (o : BinaryOperator) (x y : Typed) (k : Option Combination) → weight c (updated_by p s o x y k) ≤ 1 + (c + weight c y.tree)
  updated_by_weighs p s o x y (Some (PointerFirst n)) = scaled_weighs p y.tree (layout_at s n).size
  updated_by_weighs p s o x y k = omega arith

  pub updated_weighs : (p : Place) (s : Tables) (o : BinaryOperator) (x y : Typed) → weight c (updated p s o x y).tree ≤ 6 + (weight c x.tree + weight c y.tree)
  updated_weighs p s o x y =
      let h = target_weighs x x.category in
      let g = updated_by_weighs p s o x y (combination s o x y) in omega (arith, low, h, g)

  pub stepped_weighs : (p : Place) (s : Tables) (down new : Bool) (x : Typed) → weight c (stepped p s down new x).tree ≤ 3 + (c + weight c x.tree)
  stepped_weighs p s down new x = let h = target_weighs x x.category in omega (arith, h)

  conditional_by_weighs : (e : Expression) (t : ℕ) (k : Category) (z : Known) → weight c (conditional_by e t k z).tree ≤ weight c e
  conditional_by_weighs e t (category.Aggregate a) z = omega arith
  conditional_by_weighs e t k z = valued_weighs e t z

  pub conditional_got : (p : Place) (x y z : Typed) (t : Option (Tables × ℕ)) (s : Tables) → Joins s t → Got (cost c 0) 0 (3 + (weight c x.tree + (weight c y.tree + weight c z.tree))) s (conditional_as p x y z t s)
  conditional_got p x y z None s h = record { grown = stays 0; small = let b = behind_low c (conditional_as p x y z None s).1.category in omega (arith, low, b) }
  conditional_got p x y z (Some t) s h = record {
    grown = h;
    small =
        let g = conditional_by_weighs (program.Conditional p x.tree y.tree z.tree) t.1 (either_category y.category z.category) (known_if (is_integer (shape_of t.0 t.1)) (known_branch x.known y.known z.known)) in
        let b = behind_low c (conditional_as p x y z (Some t) s).1.category in omega (arith, g, low, b);
  }

  first_weighs : (es : List Expression) → weight c (first_of_list es) ≤ 1 + weight_of_list c es
  first_weighs [] = omega (arith, low)
  first_weighs (e ∷ es) = omega arith

  call_weighs : (p : Place) (n : ℕ) (l : Option LibraryFunction) (es : List Expression) → weight c (call_tree p n l es) ≤ 3 + weight_of_list c es
  call_weighs p n (Some library.Putchar) es = let h = first_weighs es in omega (arith, h)
  call_weighs p n (Some library.Exit) es = let h = first_weighs es in omega (arith, h)
  call_weighs p n (Some library.Abort) es = omega arith
  call_weighs p n l es = let h = listed_weighs c es in omega (arith, h)

  pub called_weighs : (p : Place) (s : Tables) (n : ℕ) (es : List Expression) → weight c (called p s n es).tree ≤ 3 + weight_of_list c es
  called_weighs p s n es = call_weighs p (word_for n) (library_of (slice_get s.routines n)) es
