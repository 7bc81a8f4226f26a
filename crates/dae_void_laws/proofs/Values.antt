-- A value whose tree is a call of exit or abort, or would test one, has the type void and nothing is known of it: step by step of what is
-- written for each operation.
use Rattle.std.proofs.Common.{◌≡◌, ◌⊎◌, inl, inr, ℕ, ◌+◌, ◌-◌, ◌^◌, ◌≤◌, ◌<◌, Bool, true, false, List, [], ◌∷◌, ◌++◌, length, Option, Some, None, if◌then◌else◌, refl, sym, ap, ◌∙◌, subst, arith}
use Rattle.std.specs.Prelude.{slice_get, ◌&&◌, ◌||◌, not, nat_eq}
use Rattle.dae_base.specs.declared.LoadKind.{LoadKind}
use Rattle.dae_base.specs.declared.Place.{Place}
use Rattle.dae_base.specs.Words.{minus}
use Rattle.dae_meaning.specs.declared.Operator.TheVariants as operator
use Rattle.dae_tree.specs.declared.operators.BinaryOperator.{BinaryOperator}
use Rattle.dae_tree.specs.declared.operators.BinaryOperator.TheVariants as binary
use Rattle.dae_tree.specs.declared.operators.MemberOperator.{MemberOperator}
use Rattle.dae_tree.specs.declared.operators.MemberOperator.TheVariants as signs
use Rattle.dae_program.specs.Expressions.{bit}
use Rattle.dae_program.specs.Trees as program
use Rattle.dae_program.specs.Trees.{Expression}
use Rattle.dae_types_kinds.specs.declared.tables.Component.{Component}
use Rattle.dae_types_kinds.specs.declared.tables.LibraryFunction.{LibraryFunction}
use Rattle.dae_types_kinds.specs.declared.tables.LibraryFunction.TheVariants as library
use Rattle.dae_types_kinds.specs.declared.tables.Routine.{Routine}
use Rattle.dae_types_kinds.specs.declared.tables.Storage.{Storage}
use Rattle.dae_types_kinds.specs.declared.tables.Storage.TheVariants as storage
use Rattle.dae_types_kinds.specs.declared.types.Shape.{Shape}
use Rattle.dae_types_kinds.specs.declared.types.Shape.TheVariants as shape
use Rattle.dae_types_kinds.specs.declared.values.Addressing.{Addressing}
use Rattle.dae_types_kinds.specs.declared.values.Category.{Category}
use Rattle.dae_types_kinds.specs.declared.values.Category.TheVariants as category
use Rattle.dae_types_kinds.specs.declared.values.Known.{Known}
use Rattle.dae_types_kinds.specs.declared.values.Known.TheVariants as known
use Rattle.dae_types_kinds.specs.Tables.{Tables}
use Rattle.dae_types_kinds.specs.Types.{shape_of, is_integer, is_pointer, is_scalar, is_void, is_structure, pointee, points_to_void, same, int_id, layout_at, word_for}
use Rattle.dae_types_kinds.specs.Values.{Typed, is_constant_zero, is_zero, is_null_pointer, is_null, WordOperation, Operates, Compares, Combination, Words, PointerFirst, PointerSecond, Distance, Pointers, plain, number, valued_by, is_object, stored_in, changes, changed, load_kind, known_as, converted_by, converted, cast_to, null_pointer, further, scaled, sum_of, difference_of, deed, is_difference, is_equality, is_comparison, is_sum, are_comparable, compared_as, summed_as, combination, tree_by, address_tree, known_by, operated, is_unsigned_for, type_for, indexed, indexed_behind, indexed_back, distance, combined_as, subscripted, starred, negated, complemented, inverted, known_not, member_value, member_in, member_by, known_further, target_of, assigned, updated_by, updated, stepped, conditional_by, conditional_as, either_category, known_if, known_branch, comma, library_of, routine_type, result_of, listed, first_of_list, call_tree, called}
use Rattle.dae_types_rules.specs.Sites.{AtScalar, AtInteger, AtCast, AtAddress}
use Rattle.dae_lower_bounds.specs.Voids.{is_void as is_void_tree, is_void_test, void_in, void_in_target, void_in_all}
use Rattle.dae_void_laws.proofs.Kept.{IfThere, all_at, shape_in, shape_is, Extends, Returns, IsRoutineIn, Kept, AreUnbroken}

-- ---- trees

-- no test of a call of exit or abort is in a tree, and it is none itself
pub record Clean (e : Expression) : Type 0 where
  pub inside : void_in e ≤ 0
  pub itself : is_void_test e ≡ false

-- what is no test of such a call is no such call
not_void : (e : Expression) → is_void_test e ≡ false → is_void_tree e ≡ false
not_void (program.Convert p k e) h = h
not_void (program.Exit p e) h = h
not_void (program.Abort p) h = h
not_void e h = refl

neither : (a b : Bool) → a ≡ false → b ≡ false → (a || b) ≡ false
neither false b h k = k
neither true b h k = h

clean_if : (b : Bool) (e f : Expression) → Clean e → Clean f → Clean (if b then e else f)
clean_if true e f h k = h
clean_if false e f h k = k

in_if : (b : Bool) (e f : Expression) → void_in e ≤ 0 → void_in f ≤ 0 → void_in (if b then e else f) ≤ 0
in_if true e f h k = h
in_if false e f h k = k

pub valued_clean : (e : Expression) (t : ℕ) (k : Known) → Clean e → Clean (valued_by e t k).tree
valued_clean e t (known.Number w) h = record { inside = omega arith; itself = refl }
valued_clean e t k h = h

valued_in : (e : Expression) (t : ℕ) (k : Known) → void_in e ≤ 0 → void_in (valued_by e t k).tree ≤ 0
valued_in e t (known.Number w) h = omega arith
valued_in e t k h = h

further_clean : (p : Place) (e : Expression) (k : ℕ) → void_in e ≤ 0 → Clean (further p e k)
further_clean p (program.Number w) k h = record { inside = omega arith; itself = refl }
further_clean p (program.Address o w) k h = record { inside = omega arith; itself = refl }
further_clean p (program.Frame q w) k h = record { inside = omega arith; itself = refl }
further_clean p e k h = record { inside = omega (arith, h); itself = refl }

scaled_in : (p : Place) (e : Expression) (size : ℕ) → void_in e ≤ 0 → void_in (scaled p e size) ≤ 0
scaled_in p (program.Number w) size h = omega arith
scaled_in p e size h = in_if (nat_eq size 1) e (program.Binary p operator.Multiply e (program.Number size)) h (omega (arith, h))

sum_clean : (p : Place) (e f : Expression) → void_in e ≤ 0 → void_in f ≤ 0 → Clean (sum_of p e f)
sum_clean p e (program.Number w) h k = further_clean p e w h
sum_clean p (program.Number w) e h k = further_clean p e w k
sum_clean p e f h k = record { inside = omega (arith, h, k); itself = refl }

difference_clean : (p : Place) (e f : Expression) → void_in e ≤ 0 → void_in f ≤ 0 → Clean (difference_of p e f)
difference_clean p e (program.Number w) h k = further_clean p e (minus 0 w) h
difference_clean p e f h k = record { inside = omega (arith, h, k); itself = refl }

tree_clean : (p : Place) (d : WordOperation) (e f : Expression) → Clean e → Clean f → Clean (tree_by p d e f)
tree_clean p (Operates o) e f h k = record { inside = let a = h.inside in let b = k.inside in omega (arith, a, b); itself = refl }
tree_clean p (Compares c turned) e f h k = record {
  inside = let a = h.inside in let b = k.inside in omega (arith, a, b);
  itself = neither (is_void_tree e) (is_void_tree f) (not_void e h.itself) (not_void f k.itself);
}

address_clean : (e : Expression) (k : Known) → Clean e → Clean (address_tree e k)
address_clean e (known.Address (Some o) k) h = record { inside = omega arith; itself = refl }
address_clean e k h = h

operated_clean : (p : Place) (d : WordOperation) (t : ℕ) (x y : Typed) → Clean x.tree → Clean y.tree → Clean (operated p d t x y).tree
operated_clean p d t x y h k =
    let z = known_by d x.known y.known in
    valued_clean (address_tree (tree_by p d x.tree y.tree) z) t z (address_clean (tree_by p d x.tree y.tree) z (tree_clean p d x.tree y.tree h k))

number_clean : (w : ℕ) → Clean (program.Number w)
number_clean w = record { inside = omega arith; itself = refl }

-- ---- values

-- a value of the type void, of which nothing is known
pub record IsNothing (xs : List Shape) (x : Typed) : Type 0 where
  pub shape : shape_in xs x.type_id ≡ shape.Void
  pub there : x.type_id < length xs
  pub category : x.category ≡ category.Plain
  pub known : x.known ≡ known.Nothing

pub record Honest (xs : List Shape) (x : Typed) : Type 0 where
  pub inside : void_in x.tree ≤ 0
  pub itself : (is_void_test x.tree ≡ false) ⊎ IsNothing xs x

-- a value that may be tested
abbrev pub Tested : List Shape → Typed → Type 0
Tested xs x = Clean x.tree

pub honest : {xs : List Shape} {x : Typed} → Clean x.tree → Honest xs x
honest h = record { inside = h.inside; itself = inl h.itself }

pub honest_lasts : (xs ys : List Shape) (x : Typed) → Extends xs ys → Honest xs x → Honest ys x
honest_lasts xs ys x g h = record { inside = h.inside; itself = by h.itself } where
  by : (is_void_test x.tree ≡ false) ⊎ IsNothing xs x → (is_void_test x.tree ≡ false) ⊎ IsNothing ys x
  by (inl e) = inl e
  by (inr n) = inr (record { shape = g.same x.type_id n.there ∙ n.shape; there = let a = g.more in let b = n.there in omega (arith, a, b); category = n.category; known = n.known })

-- a value with a property that void hasn't
clean_by : {xs : List Shape} (x : Typed) → Honest xs x → (IsNothing xs x → ⊥) → Clean x.tree
clean_by {xs} x h denied = by h.itself where
  by : (is_void_test x.tree ≡ false) ⊎ IsNothing xs x → Clean x.tree
  by (inl e) = record { inside = h.inside; itself = e }
  by (inr n) = absurd (denied n)

void_shape : (s : Tables) (x : Typed) → IsNothing s.shapes x → shape_of s x.type_id ≡ shape.Void
void_shape s x n = shape_is s x.type_id ∙ n.shape

never : true ≡ false → ⊥
never h = cc

pub scalar_clean : (p : Place) (s : Tables) (x : Typed) → Honest s.shapes x → AreUnbroken (AtScalar p (shape_of s x.type_id) ∷ []) → Clean x.tree
scalar_clean p s x h u = clean_by x h (λ n. never (subst (λ t. not (is_scalar t) ≡ false) (void_shape s x n) u.0.0))

pub integer_clean : (p : Place) (s : Tables) (x : Typed) → Honest s.shapes x → AreUnbroken (AtInteger p (shape_of s x.type_id) ∷ []) → Clean x.tree
integer_clean p s x h u = clean_by x h (λ n. never (subst (λ t. not (is_integer t) ≡ false) (void_shape s x n) u.0.0))

-- ---- what is read and converted

changed_in : (p : Place) (k l : LoadKind) (e : Expression) → void_in e ≤ 0 → void_in (changed p k l e) ≤ 0
changed_in p k l e h = in_if (changes k l) (program.Convert p l e) e h h

changed_clean : (p : Place) (k l : LoadKind) (e : Expression) → Clean e → Clean (changed p k l e)
changed_clean p k l e h = clean_if (changes k l) (program.Convert p l e) e (record { inside = h.inside; itself = not_void e h.itself }) h

typed_in_if : (b : Bool) (x y : Typed) → void_in x.tree ≤ 0 → void_in y.tree ≤ 0 → void_in (if b then x else y).tree ≤ 0
typed_in_if true x y h k = h
typed_in_if false x y h k = k

typed_clean_if : (b : Bool) (x y : Typed) → Clean x.tree → Clean y.tree → Clean (if b then x else y).tree
typed_clean_if true x y h k = h
typed_clean_if false x y h k = k

pub converted_in : (p : Place) (s : Tables) (x : Typed) (t : ℕ) → void_in x.tree ≤ 0 → void_in (converted p s x t).tree ≤ 0
unfolding converted
converted_in p s x t h =
    let u = shape_of s x.type_id in
    let v = shape_of s t in
    typed_in_if (is_void v) (plain x.tree t) (converted_by p x u v t) h
    (valued_in (changed p (load_kind u) (load_kind v) x.tree) t (known_as u v x.known) (changed_in p (load_kind u) (load_kind v) x.tree h))

converted_clean : (p : Place) (s : Tables) (x : Typed) (t : ℕ) → Clean x.tree → Clean (converted p s x t).tree
unfolding converted
converted_clean p s x t h =
    let u = shape_of s x.type_id in
    let v = shape_of s t in
    typed_clean_if (is_void v) (plain x.tree t) (converted_by p x u v t) h
    (valued_clean (changed p (load_kind u) (load_kind v) x.tree) t (known_as u v x.known) (changed_clean p (load_kind u) (load_kind v) x.tree h))

-- a value that becomes void
converted_void : (p : Place) (s : Tables) (x : Typed) (t : ℕ) → shape_of s t ≡ shape.Void → converted p s x t ≡ plain x.tree t
unfolding converted
converted_void p s x t e = subst (λ u. (if is_void u then plain x.tree t else converted_by p x (shape_of s x.type_id) u t) ≡ plain x.tree t) (sym e) refl

null_void : (s : Tables) (x : Typed) (t : ℕ) → shape_of s t ≡ shape.Void → null_pointer s x t ≡ false
null_void s x t e = subst (λ u. (points_to_void s u && is_constant_zero s x) ≡ false) (sym e) refl

-- void is cast to void alone
void_alone : (u : Shape) → not (if is_void u then not (is_structure shape.Void) else is_scalar shape.Void && is_scalar u) ≡ false → u ≡ shape.Void
void_alone shape.Void h = refl
void_alone u h = absurd (never h)

pub cast_honest : (p : Place) (s : Tables) (x : Typed) (t : ℕ) → t < length s.shapes → Honest s.shapes x → AreUnbroken (AtCast p (shape_of s x.type_id) (shape_of s t) ∷ []) → Honest s.shapes (cast_to p s x t)
cast_honest p s x t l h u = by h.itself where
  nothing : shape_of s t ≡ shape.Void → Honest s.shapes (cast_to p s x t)
  nothing e =
      let y = converted_void p s x t e in
      let n = null_void s x t e in
      record {
        inside = converted_in p s x t h.inside;
        itself = inr (record {
          shape = subst (λ (z : Typed). shape_in s.shapes z.type_id ≡ shape.Void) (sym y) (sym (shape_is s t) ∙ e);
          there = subst (λ (z : Typed). z.type_id < length s.shapes) (sym y) l;
          category = ap (λ (z : Typed). z.category) y;
          known = ap (λ b. if b then known.NullPointer else (converted p s x t).known) n ∙ ap (λ (z : Typed). z.known) y;
        });
      }

  by : (is_void_test x.tree ≡ false) ⊎ IsNothing s.shapes x → Honest s.shapes (cast_to p s x t)
  by (inl e) = honest (converted_clean p s x t (record { inside = h.inside; itself = e }))
  by (inr n) = nothing (void_alone (shape_of s t) (subst (λ v. not (if is_void (shape_of s t) then not (is_structure v) else is_scalar v && is_scalar (shape_of s t)) ≡ false) (void_shape s x n) u.0.0))

-- ---- names and operators

pub stored_clean : (p : Place) (t : ℕ) (x : Option Storage) → Clean (stored_in p t x).tree
stored_clean p t None = record { inside = omega arith; itself = refl }
stored_clean p t (Some (storage.Variable n)) = record { inside = omega arith; itself = refl }
stored_clean p t (Some (storage.Frame offset)) = record { inside = omega arith; itself = refl }

pub starred_honest : (s : Tables) (x : Typed) → Honest s.shapes x → Honest s.shapes (starred x (pointee (shape_of s x.type_id)))
starred_honest s x h = by h.itself where
  clean : (o : Option ℕ) → Clean x.tree → Honest s.shapes (starred x o)
  clean None c = h
  clean (Some n) c = honest c

  by : (is_void_test x.tree ≡ false) ⊎ IsNothing s.shapes x → Honest s.shapes (starred x (pointee (shape_of s x.type_id)))
  by (inl e) = clean (pointee (shape_of s x.type_id)) (record { inside = h.inside; itself = e })
  by (inr n) = subst (λ t. Honest s.shapes (starred x (pointee t))) (sym (void_shape s x n)) h

-- the address of what is an object
pub address_of_clean : {xs : List Shape} (p : Place) (x : Typed) → Honest xs x → AreUnbroken (AtAddress p x.category ∷ []) → Clean x.tree
address_of_clean p x h u = clean_by x h (λ n. never (subst (λ k. not (is_object k) ≡ false) n.category u.0.0))

pub negated_clean : (p : Place) (x : Typed) (t : ℕ) → Clean x.tree → Clean (negated p x t).tree
negated_clean p x t h = operated_clean p (Operates operator.Subtract) t (number 0 int_id) x (number_clean 0) h

pub complemented_clean : (p : Place) (x : Typed) (t : ℕ) → Clean x.tree → Clean (complemented p x t).tree
complemented_clean p x t h = operated_clean p (Operates operator.Xor) t x (number (2 ^ 32 - 1) int_id) h (number_clean (2 ^ 32 - 1))

pub inverted_clean : (p : Place) (x : Typed) → Clean x.tree → Clean (inverted p x).tree
inverted_clean p x h = valued_clean (program.Not p x.tree) int_id (known_not x.known) (record { inside = h.inside; itself = h.itself })

-- ---- two operands: none of them is void where they go together

none_if : (b : Bool) (x y : Option Combination) → y ≡ None → (if b && false then x else y) ≡ None
none_if true x y h = h
none_if false x y h = h

abbrev PointersIf : Bool → Option Combination
PointersIf b = if b then Some Pointers else None

none_compared : (b c : Bool) → c ≡ false → PointersIf (b && c) ≡ None
none_compared true true h = absurd (never h)
none_compared true false h = refl
none_compared false c h = refl

first_of_two : (q u z : Bool) → z ≡ false → (q && (false || (u && z))) ≡ false
first_of_two true true z h = h
first_of_two true false z h = refl
first_of_two false u z h = refl

second_of_two : (q u z : Bool) → z ≡ false → (q && ((u && z) || false)) ≡ false
second_of_two true true false h = refl
second_of_two true true true h = h
second_of_two true false z h = refl
second_of_two false u z h = refl

neither_pointer : (b a c : Bool) → c ≡ false → (if b && false then a else c) ≡ false
neither_pointer true a c h = h
neither_pointer false a c h = h

-- void is no null pointer constant
no_null : (s : Tables) (x : Typed) → IsNothing s.shapes x → is_null s x ≡ false
no_null s x n = subst (λ t. ((is_integer t && is_zero x.known) || is_null_pointer x.known) ≡ false) (sym (void_shape s x n)) (ap is_null_pointer n.known)

first_compared : (s : Tables) (o : BinaryOperator) (x y : Typed) → IsNothing s.shapes x → compared_as s o x y ≡ None
first_compared s o x y n =
    let u = shape_of s y.type_id in
    none_compared (is_comparison o) (are_comparable s o x y)
    (subst (λ t. (if is_pointer t && is_pointer u then same s x.type_id y.type_id || (is_equality o && (points_to_void s t || points_to_void s u)) else is_equality o && ((is_pointer t && is_null s y) || (is_pointer u && is_null s x))) ≡ false) (sym (void_shape s x n))
    (first_of_two (is_equality o) (is_pointer u) (is_null s x) (no_null s x n)))

second_compared : (s : Tables) (o : BinaryOperator) (x y : Typed) → IsNothing s.shapes y → compared_as s o x y ≡ None
second_compared s o x y n =
    let t = shape_of s x.type_id in
    none_compared (is_comparison o) (are_comparable s o x y)
    (subst (λ u. (if is_pointer t && is_pointer u then same s x.type_id y.type_id || (is_equality o && (points_to_void s t || points_to_void s u)) else is_equality o && ((is_pointer t && is_null s y) || (is_pointer u && is_null s x))) ≡ false) (sym (void_shape s y n))
    (neither_pointer (is_pointer t) _ _ (second_of_two (is_equality o) (is_pointer t) (is_null s y) (no_null s y n))))

none_first : (s : Tables) (o : BinaryOperator) (x y : Typed) (u : Shape) → compared_as s o x y ≡ None → summed_as s o x y shape.Void u ≡ None
none_first s o x y (shape.Pointer m) h = none_if (is_sum o) (Some (PointerSecond m)) (compared_as s o x y) h
none_first s o x y u h = refl

none_second : (s : Tables) (o : BinaryOperator) (x y : Typed) (t : Shape) → compared_as s o x y ≡ None → summed_as s o x y t shape.Void ≡ None
none_second s o x y (shape.Pointer n) h = none_if (is_sum o || is_difference o) (Some (PointerFirst n)) (compared_as s o x y) h
none_second s o x y t h = refl

first_none : (s : Tables) (o : BinaryOperator) (x y : Typed) → IsNothing s.shapes x → combination s o x y ≡ None
unfolding combination
first_none s o x y n =
    subst (λ t. summed_as s o x y t (shape_of s y.type_id) ≡ None) (sym (void_shape s x n)) (none_first s o x y (shape_of s y.type_id) (first_compared s o x y n))

second_none : (s : Tables) (o : BinaryOperator) (x y : Typed) → IsNothing s.shapes y → combination s o x y ≡ None
unfolding combination
second_none s o x y n =
    subst (λ u. summed_as s o x y (shape_of s x.type_id) u ≡ None) (sym (void_shape s y n)) (none_second s o x y (shape_of s x.type_id) (second_compared s o x y n))

both_clean : (s : Tables) (o : BinaryOperator) (x y : Typed) (k : Combination) → Honest s.shapes x → Honest s.shapes y → combination s o x y ≡ Some k → Clean x.tree × Clean y.tree
both_clean s o x y k h j e = (clean_by x h (λ n. other (sym e ∙ first_none s o x y n)), clean_by y j (λ n. other (sym e ∙ second_none s o x y n))) where
  other : Some k ≡ None → ⊥
  other h = cc

indexed_clean : (p : Place) (s : Tables) (n : ℕ) (x y : Typed) → void_in x.tree ≤ 0 → void_in y.tree ≤ 0 → Clean (indexed p s n x y).tree
indexed_clean p s n x y h k = let size = (layout_at s n).size in sum_clean p x.tree (scaled p y.tree size) h (scaled_in p y.tree size k)

behind_clean : (p : Place) (s : Tables) (n : ℕ) (x y : Typed) → void_in x.tree ≤ 0 → void_in y.tree ≤ 0 → Clean (indexed_behind p s n x y).tree
behind_clean p s n x y h k = let size = (layout_at s n).size in sum_clean p (scaled p x.tree size) y.tree (scaled_in p x.tree size h) k

back_clean : (p : Place) (s : Tables) (n : ℕ) (x y : Typed) → void_in x.tree ≤ 0 → void_in y.tree ≤ 0 → Clean (indexed_back p s n x y).tree
back_clean p s n x y h k = let size = (layout_at s n).size in difference_clean p x.tree (scaled p y.tree size) h (scaled_in p y.tree size k)

distance_clean : (p : Place) (size : ℕ) (x y : Typed) → void_in x.tree ≤ 0 → void_in y.tree ≤ 0 → Clean (distance p size x y).tree
distance_clean p size x y h k =
    let e = program.Binary p operator.Subtract x.tree y.tree in
    clean_if (nat_eq size 1) e (program.Binary p operator.DivideSigned e (program.Number size)) (record { inside = omega (arith, h, k); itself = refl }) (record { inside = omega (arith, h, k); itself = refl })

combined_clean : (p : Place) (s : Tables) (o : BinaryOperator) (x y : Typed) (k : Combination) → Clean x.tree → Clean y.tree → Clean (combined_as p s o x y (Some k)).tree
combined_clean p s o x y Words h j = let u = is_unsigned_for o (shape_of s x.type_id) (shape_of s y.type_id) in operated_clean p (deed u o) (type_for o u) x y h j
combined_clean p s o x y (PointerFirst n) h j = typed_clean_if (is_difference o) (indexed_back p s n x y) (indexed p s n x y) (back_clean p s n x y h.inside j.inside) (indexed_clean p s n x y h.inside j.inside)
combined_clean p s o x y (PointerSecond n) h j = behind_clean p s n x y h.inside j.inside
combined_clean p s o x y (Distance n) h j = distance_clean p (layout_at s n).size x y h.inside j.inside
combined_clean p s o x y Pointers h j = tree_clean p (deed true o) x.tree y.tree h j

pub combined_honest : (p : Place) (s : Tables) (o : BinaryOperator) (x y : Typed) → Honest s.shapes x → Honest s.shapes y → Honest s.shapes (combined_as p s o x y (combination s o x y))
combined_honest p s o x y h j = by (combination s o x y) refl where
  by : (k : Option Combination) → combination s o x y ≡ k → Honest s.shapes (combined_as p s o x y k)
  by None e = h
  by (Some k) e = let c = both_clean s o x y k h j e in honest (combined_clean p s o x y k c.0 c.1)

subscripted_clean : (p : Place) (s : Tables) (x y : Typed) (k : Combination) → Clean x.tree → Clean y.tree → Clean (subscripted p s x y (Some k)).tree
subscripted_clean p s x y Words h j = h
subscripted_clean p s x y (PointerFirst n) h j = indexed_clean p s n x y h.inside j.inside
subscripted_clean p s x y (PointerSecond n) h j = behind_clean p s n x y h.inside j.inside
subscripted_clean p s x y (Distance n) h j = h
subscripted_clean p s x y Pointers h j = h

pub subscripted_honest : (p : Place) (s : Tables) (x y : Typed) → Honest s.shapes x → Honest s.shapes y → Honest s.shapes (subscripted p s x y (combination s binary.Add x y))
subscripted_honest p s x y h j = by (combination s binary.Add x y) refl where
  by : (k : Option Combination) → combination s binary.Add x y ≡ k → Honest s.shapes (subscripted p s x y k)
  by None e = h
  by (Some k) e = let c = both_clean s binary.Add x y k h j e in honest (subscripted_clean p s x y k c.0 c.1)

-- ---- members, assignments, calls

member_value_clean : (p : Place) (s : Tables) (e : Expression) (t : ℕ) (a : Addressing) (u : Shape) → Clean e → Clean (member_value p s e t a u).tree
member_value_clean p s e t a (shape.Struct n) h = h
member_value_clean p s e t a (shape.Array n count) h = h
member_value_clean p s e t a u h = record { inside = h.inside; itself = refl }

member_in_clean : (p : Place) (s : Tables) (o : MemberOperator) (e : Expression) (t : ℕ) (c : Category) (k : Known) → Clean e → Clean (member_in p s o e t c k).tree
member_in_clean p s signs.Arrow e t c k h = h
member_in_clean p s signs.Dot e t (category.Aggregate a) k h = member_value_clean p s e t a (shape_of s t) h
member_in_clean p s signs.Dot e t c k h = h

pub member_honest : (p : Place) (s : Tables) (o : MemberOperator) (x : Typed) (f : Option Component) → Honest s.shapes x → Honest s.shapes (member_by p s o x f)
member_honest p s o x None h = h
member_honest p s o x (Some f) h = honest (member_in_clean p s o (further p x.tree f.offset) f.type_id x.category (known_further x.known f.offset) (further_clean p x.tree f.offset h.inside))

target_in : (x : Typed) (k : Category) → void_in x.tree ≤ 0 → void_in_target (target_of x k) ≤ 0
target_in x (category.InVariable n) h = omega arith
target_in x (category.At a) h = h
target_in x k h = h

pub assigned_clean : (p : Place) (s : Tables) (x y : Typed) → void_in x.tree ≤ 0 → void_in y.tree ≤ 0 → Clean (assigned p s x y).tree
assigned_clean p s x y h k = record { inside = let a = target_in x x.category h in let b = converted_in p s y x.type_id k in omega (arith, a, b); itself = refl }

updated_by_in : (p : Place) (s : Tables) (o : BinaryOperator) (x y : Typed) (k : Option Combination) → void_in y.tree ≤ 0 → void_in (updated_by p s o x y k) ≤ 0
updated_by_in p s o x y (Some (PointerFirst n)) h = scaled_in p y.tree (layout_at s n).size h
updated_by_in p s o x y k h = h

pub updated_clean : (p : Place) (s : Tables) (o : BinaryOperator) (x y : Typed) → void_in x.tree ≤ 0 → void_in y.tree ≤ 0 → Clean (updated p s o x y).tree
updated_clean p s o x y h k = record { inside = let a = target_in x x.category h in let b = updated_by_in p s o x y (combination s o x y) k in omega (arith, a, b); itself = refl }

pub stepped_clean : (p : Place) (s : Tables) (down new : Bool) (x : Typed) → void_in x.tree ≤ 0 → Clean (stepped p s down new x).tree
stepped_clean p s down new x h = record { inside = target_in x x.category h; itself = refl }

conditional_by_clean : (e : Expression) (t : ℕ) (k : Category) (z : Known) → Clean e → Clean (conditional_by e t k z).tree
conditional_by_clean e t (category.Aggregate a) z h = h
conditional_by_clean e t k z h = valued_clean e t z h

-- the condition is tested
pub conditional_clean : (p : Place) (x y z : Typed) (t : Tables × ℕ) (s : Tables) → Clean x.tree → void_in y.tree ≤ 0 → void_in z.tree ≤ 0 → Clean (conditional_as p x y z (Some t) s).1.tree
conditional_clean p x y z t s h j k =
    let c = either_category y.category z.category in
    let v = known_if (is_integer (shape_of t.0 t.1)) (known_branch x.known y.known z.known) in
    conditional_by_clean (program.Conditional p x.tree y.tree z.tree) t.1 c v (record { inside = let a = h.inside in let b = ap bit h.itself in omega (arith, a, b, j, k); itself = refl })

pub and_clean : (p : Place) (e f : Expression) → Clean e → Clean f → Clean (program.And p e f)
and_clean p e f h k = record { inside = let a = h.inside in let b = ap bit h.itself in let c = k.inside in let d = ap bit k.itself in omega (arith, a, b, c, d); itself = refl }

pub or_clean : (p : Place) (e f : Expression) → Clean e → Clean f → Clean (program.Or p e f)
or_clean p e f h k = record { inside = let a = h.inside in let b = ap bit h.itself in let c = k.inside in let d = ap bit k.itself in omega (arith, a, b, c, d); itself = refl }

pub comma_clean : (x y : Typed) → void_in x.tree ≤ 0 → void_in y.tree ≤ 0 → Clean (comma x y).tree
comma_clean x y h k = record { inside = omega (arith, h, k); itself = refl }

-- the arguments of a call
abbrev pub void_in_list : List Expression → ℕ
void_in_list [] = 0
void_in_list (e ∷ es) = void_in e + void_in_list es

pub void-append : (xs ys : List Expression) → void_in_list (xs ++ ys) ≡ void_in_list xs + void_in_list ys
void-append [] ys = omega arith
void-append (x ∷ xs) ys = let h = void-append xs ys in omega (arith, h)

pub listed_in : (es : List Expression) → void_in_all (listed es) ≡ void_in_list es
listed_in [] = refl
listed_in (e ∷ es) = let h = listed_in es in omega (arith, h)

first_in : (es : List Expression) → void_in_list es ≤ 0 → void_in (first_of_list es) ≤ 0
first_in [] h = omega arith
first_in (e ∷ es) h = omega (arith, h)

-- a call of exit or abort has the type void
call_honest : (p : Place) (s : Tables) (n : ℕ) (l : Option LibraryFunction) (t : ℕ) (es : List Expression) → Kept s → Returns s.shapes l t → void_in_list es ≤ 0 → Honest s.shapes (plain (call_tree p n l es) (result_of (shape_in s.shapes t)))
call_honest p s n None t es k r h = honest (record { inside = let a = listed_in es in omega (arith, a, h); itself = refl })
call_honest p s n (Some library.Printf) t es k r h = honest (record { inside = let a = listed_in es in omega (arith, a, h); itself = refl })
call_honest p s n (Some library.Putchar) t es k r h = honest (record { inside = first_in es h; itself = refl })
call_honest p s n (Some library.Exit) t es k r h = record { inside = first_in es h; itself = inr (record { shape = ap (shape_in s.shapes) r ∙ k.void; there = let a = k.many in omega (arith, a, r); category = refl; known = refl }) }
call_honest p s n (Some library.Abort) t es k r h = record { inside = omega arith; itself = inr (record { shape = ap (shape_in s.shapes) r ∙ k.void; there = let a = k.many in omega (arith, a, r); category = refl; known = refl }) }

returns_at : (xs : List Shape) (o : Option Routine) → IfThere (IsRoutineIn xs) o → Returns xs (library_of o) (routine_type o)
returns_at xs None h = tt
returns_at xs (Some r) h = h

pub called_honest : (p : Place) (s : Tables) (n : ℕ) (es : List Expression) → Kept s → void_in_list es ≤ 0 → Honest s.shapes (called p s n es)
called_honest p s n es k h =
    let o = slice_get s.routines n in
    subst (λ u. Honest s.shapes (plain (call_tree p (word_for n) (library_of o) es) (result_of u))) (sym (shape_is s (routine_type o)))
    (call_honest p s (word_for n) (library_of o) (routine_type o) es k (returns_at s.shapes o (all_at (IsRoutineIn s.shapes) s.routines n k.routines)) h)
