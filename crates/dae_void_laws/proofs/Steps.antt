-- One lemma for each step of types and expressions: tables are kept, and values are honest.
use Rattle.std.proofs.Common.{◌≡◌, ◌⊎◌, inl, inr, ℕ, zero, suc, ◌≤◌, ◌<◌, Bool, true, false, List, [], ◌∷◌, length, Option, Some, None, if◌then◌else◌, reverse, refl, sym, ap, ◌∙◌, subst, arith}
use Rattle.std.specs.List.{find}
use Rattle.std.specs.Prelude.{slice_get, ◌&&◌, nat_eq}
use Rattle.dae_base.specs.declared.Place.{Place}
use Rattle.dae_tree.specs.declared.words.Keyword.{Keyword}
use Rattle.dae_tree.specs.declared.expressions.Name.{Name}
use Rattle.dae_tree.specs.declared.operators.BinaryOperator.{BinaryOperator}
use Rattle.dae_tree.specs.declared.operators.BinaryOperator.TheVariants as binary
use Rattle.dae_tree.specs.declared.operators.AssignmentOperator.{AssignmentOperator}
use Rattle.dae_tree.specs.declared.operators.AssignmentOperator.TheVariants as assignment
use Rattle.dae_tree.specs.declared.operators.PrefixOperator.{PrefixOperator}
use Rattle.dae_tree.specs.declared.operators.PrefixOperator.TheVariants as prefix
use Rattle.dae_tree.specs.declared.operators.PostfixOperator.{PostfixOperator}
use Rattle.dae_tree.specs.declared.operators.PostfixOperator.TheVariants as postfix
use Rattle.dae_tree.specs.declared.operators.MemberOperator.{MemberOperator}
use Rattle.dae_tree.specs.declared.operators.MemberOperator.TheVariants as signs
use Rattle.dae_tree.specs.declared.seen.Arithmetic.{Arithmetic}
use Rattle.dae_tree.specs.declared.seen.Arithmetic.TheVariants as arithmetic
use Rattle.dae_tree.specs.Trees as tree
use Rattle.dae_tree.specs.Words.{nothing_seen, seen_behind, arithmetic_type}
use Rattle.dae_program.specs.Trees as program
use Rattle.dae_types_kinds.specs.declared.tables.Context.{Context}
use Rattle.dae_types_kinds.specs.declared.tables.Designation.{Designation}
use Rattle.dae_types_kinds.specs.declared.tables.Entity.{Entity}
use Rattle.dae_types_kinds.specs.declared.tables.Entity.TheVariants as entity
use Rattle.dae_types_kinds.specs.declared.tables.LibraryFunction.{LibraryFunction}
use Rattle.dae_types_kinds.specs.declared.tables.Local.{Local}
use Rattle.dae_types_kinds.specs.declared.tables.NamedType.{NamedType}
use Rattle.dae_types_kinds.specs.declared.tables.Tagged.{Tagged}
use Rattle.dae_types_kinds.specs.declared.tables.Tagged.TheVariants as tagged
use Rattle.dae_types_kinds.specs.declared.types.Layout.{Layout}
use Rattle.dae_types_kinds.specs.declared.types.Shape.{Shape}
use Rattle.dae_types_kinds.specs.declared.types.Shape.TheVariants as shape
use Rattle.dae_types_kinds.specs.declared.values.Addressing.{Addressing}
use Rattle.dae_types_kinds.specs.declared.values.Category.{Category}
use Rattle.dae_types_kinds.specs.declared.values.Category.TheVariants as category
use Rattle.dae_types_kinds.specs.Tables.{Tables, with_shape, found_name, own_tag, is_named, entity_of}
use Rattle.dae_types_kinds.specs.Types.{same as same_type, shape_of, is_void, is_integer, layout, int_id, composite, composite_shape, composite_within}
use Rattle.dae_types_kinds.specs.Values.{Typed, named, read_by, valued, known_and, known_or, component_in, owner, library_of, joined, joined_shape, joined_pointers, common, is_null, conditional_as, operator_of, marked, result_of}
use Rattle.dae_types_rules.specs.Plan.{CheckPlan, OfName, OfTag, OfMember}
use Rattle.dae_types_plans.specs.Steps.{arithmetic_id, base_of, base_at, word_at, type_named, type_name_at, tag_in, tag_at, mentioned, new_structure, begins, begins_at, with_member, settles_member, member_at, ends_at, structure_body, enumeration_tag, enumeration_at, enumerator_at, enumeration_body, constant_at, pointer, unsized, count_at, sized, function, with_named_local, with_parameter, adjusted, parameter_at, type_of, value_at, name_at, scalar_at, integer_at, condition_at, marked_entity, marked_name, address_at, star_at, step_at, promoted_of, prefix_at, postfix_at, operands_at, scalars_at, and_at, or_at, binary_at, index_at, member_of, access_at, sizeof_at, cast_at, assignment_at, conditional_at, comma_at, passed, parameter_type, argument_at, with_call, call_at, call_by, routine_in, call_of}
use Rattle.dae_lower_bounds.specs.Voids.{is_void_test, void_in}
use Rattle.dae_void_laws.proofs.Kept.{IfThere, either_has, all_latest, shape_is, shape_last, last_there, Extends, Names, IsNameIn, Kept, Come, Leads, Any, Anything, leads_pure, leads_maps, leads_node, leads_chain, leads_both, leads_if, leads_settles, leads_unless, leads_pardons, leads_named, come_same, leads_reads, leads_sites, leads_nothing, leads_looks, Wider, wide, wider, come_wider, shape_wider, kept_name}
use Rattle.dae_void_laws.proofs.Values.{Clean, IsNothing, Honest, Tested, honest, honest_lasts, scalar_clean, integer_clean, converted_in, cast_honest, stored_clean, starred_honest, address_of_clean, negated_clean, complemented_clean, inverted_clean, valued_clean, combined_honest, subscripted_honest, member_honest, assigned_clean, updated_clean, stepped_clean, conditional_clean, and_clean, or_clean, comma_clean, void_in_list, void-append, called_honest}

-- ---- numbers of types that are there

abbrev pub There : List Shape → ℕ → Type 0
There xs t = t < length xs

abbrev pub MaybeThere : List Shape → Option ℕ → Type 0
MaybeThere xs None = Unit {0}
MaybeThere xs (Some t) = t < length xs

abbrev pub NamedThere : List Shape → NamedType → Type 0
NamedThere xs x = x.type_id < length xs

pub there_lasts : (xs ys : List Shape) (t : ℕ) → Extends xs ys → There xs t → There ys t
there_lasts xs ys t g h = let a = g.more in omega (arith, a, h)

pub anything_lasts : {A : Type 0} (xs ys : List Shape) (x : A) → Extends xs ys → Anything xs x → Anything ys x
anything_lasts xs ys x g h = h

-- a type of this shape is made
pub made_come : {s : Tables} (x : Shape) → Kept s → Come There s (with_shape x s, length s.shapes)
made_come {s} x k = come_wider (shape_wider x s) k (last_there s.shapes x)

-- ---- composites, and the types of conditionals

behind_shape : {s t : Tables} (x : Shape) → Wider s t → Wider s (with_shape x t)
behind_shape {s} {t} x w = wider w (shape_wider x t)

composite_shape_wider : (f : Tables → ℕ → ℕ → Tables × ℕ) → ((s : Tables) (m n : ℕ) → Wider s (f s m n).0) → (s : Tables) (old : ℕ) (t u : Shape) → Wider s (composite_shape f s old t u).0
composite_shape_wider f h s old (shape.Pointer m) (shape.Pointer n) = behind_shape _ (h s m n)
composite_shape_wider f h s old (shape.Array m c) (shape.Array n d) = behind_shape _ (h s m n)
composite_shape_wider f h s old (shape.Function r ps) (shape.Function t qs) = behind_shape _ (wider (h s r t) (h (f s r t).0 ps qs))
composite_shape_wider f h s old (shape.Parameter ps m) (shape.Parameter qs n) = behind_shape _ (wider (h s ps qs) (h (f s ps qs).0 m n))
composite_shape_wider f h s old t u = wide s

composite_within_wider : (k : ℕ) (s : Tables) (m n : ℕ) → Wider s (composite_within k s m n).0
composite_within_wider zero s m n = wide s
composite_within_wider (suc k) s m n = composite_shape_wider (composite_within k) (composite_within_wider k) s m (shape_of s m) (shape_of s n)

pub composite_wider : (s : Tables) (m n : ℕ) → Wider s (composite s m n).0
unfolding composite
composite_wider s m n = composite_within_wider (length s.shapes) s m n

-- the composite of two functions of which the first returns void returns void
composite_void : (k : ℕ) (s : Tables) (n : ℕ) → shape_of s 0 ≡ shape.Void → (composite_within k s 0 n).1 ≡ 0
composite_void zero s n e = refl
composite_void (suc k) s n e = subst (λ t. (composite_shape (composite_within k) s 0 t (shape_of s n)).1 ≡ 0) (sym e) (by (shape_of s n)) where
  by : (u : Shape) → (composite_shape (composite_within k) s 0 shape.Void u).1 ≡ 0
  by u = refl

abbrev Yields : Tables × ℕ → Type 0
Yields x = result_of (shape_of x.0 x.1) ≡ 0

made_yields : (r ps : ℕ) (s : Tables) → r ≡ 0 → Yields (with_shape (shape.Function r ps) s, length s.shapes)
made_yields r ps s e = ap result_of (shape_is (with_shape (shape.Function r ps) s) (length s.shapes) ∙ shape_last s.shapes (shape.Function r ps)) ∙ e

composite_yields : (k : ℕ) (s : Tables) (m : ℕ) (t u : Shape) → shape_of s 0 ≡ shape.Void → Yields (s, m) → result_of t ≡ 0 → Yields (composite_shape (composite_within k) s m t u)
composite_yields k s m (shape.Function r ps) (shape.Function q qs) e h z =
    let x = composite_within k s r q in
    let y = composite_within k x.0 ps qs in
    made_yields x.1 y.1 y.0 (subst (λ (a : ℕ). (composite_within k s a q).1 ≡ 0) (sym z) (composite_void k s q e))
composite_yields k s m (shape.Pointer a) u e h z = absurd (omega (arith, z))
composite_yields k s m (shape.Array a c) u e h z = absurd (omega (arith, z))
composite_yields k s m (shape.Parameter a c) u e h z = absurd (omega (arith, z))
composite_yields k s m t u e h z = h

within_yields : (k : ℕ) (s : Tables) (m n : ℕ) → shape_of s 0 ≡ shape.Void → Yields (s, m) → Yields (composite_within k s m n)
within_yields zero s m n e h = h
within_yields (suc k) s m n e h = composite_yields k s m (shape_of s m) (shape_of s n) e h h

pub composite_returns : (s : Tables) (m n : ℕ) → shape_of s 0 ≡ shape.Void → result_of (shape_of s m) ≡ 0 → Yields (composite s m n)
unfolding composite
composite_returns s m n e h = within_yields (length s.shapes) s m n e h

abbrev Joins : Tables → Option (Tables × ℕ) → Type 0
Joins s None = Unit {0}
Joins s (Some t) = Wider s t.0

joined_pointers_wider : (s : Tables) (y z m n : ℕ) → Joins s (joined_pointers s y z m n)
joined_pointers_wider s y z m n =
    let second = if is_void (shape_of s n) then Some (s, z) else None in
    let first = if is_void (shape_of s m) then Some (s, y) else second in
    either_has (Joins s) (same_type s y z) (Some (composite s y z)) first (composite_wider s y z)
    (either_has (Joins s) (is_void (shape_of s m)) (Some (s, y)) second (wide s) (either_has (Joins s) (is_void (shape_of s n)) (Some (s, z)) None (wide s) tt))

joined_shape_wider : (s : Tables) (y z : Typed) (t u : Shape) → Joins s (joined_shape s y z t u)
joined_shape_wider s y z shape.Void shape.Void = wide s
joined_shape_wider s y z (shape.Struct m) (shape.Struct n) = either_has (Joins s) (nat_eq m n) (Some (s, y.type_id)) None (wide s) tt
joined_shape_wider s y z (shape.Pointer m) (shape.Pointer n) =
    let both = joined_pointers s y.type_id z.type_id m n in
    let second = if is_null s y then Some (s, z.type_id) else both in
    either_has (Joins s) (is_null s z) (Some (s, y.type_id)) second (wide s) (either_has (Joins s) (is_null s y) (Some (s, z.type_id)) both (wide s) (joined_pointers_wider s y.type_id z.type_id m n))
joined_shape_wider s y z (shape.Pointer m) u = either_has (Joins s) (is_null s z) (Some (s, y.type_id)) None (wide s) tt
joined_shape_wider s y z t (shape.Pointer n) = either_has (Joins s) (is_null s y) (Some (s, z.type_id)) None (wide s) tt
joined_shape_wider s y z t u = either_has (Joins s) (is_integer t && is_integer u) (Some (s, common t u)) None (wide s) tt

joined_wider : (s : Tables) (y z : Typed) → Joins s (joined s y z)
unfolding joined
joined_wider s y z = joined_shape_wider s y z (shape_of s y.type_id) (shape_of s z.type_id)

-- ---- specifiers

arithmetic_there : (a : Arithmetic) (n : ℕ) → 9 ≤ n → arithmetic_id a < n
arithmetic_there arithmetic.Char n l = omega (arith, l)
arithmetic_there arithmetic.SignedChar n l = omega (arith, l)
arithmetic_there arithmetic.UnsignedChar n l = omega (arith, l)
arithmetic_there arithmetic.Short n l = omega (arith, l)
arithmetic_there arithmetic.UnsignedShort n l = omega (arith, l)
arithmetic_there arithmetic.Int n l = omega (arith, l)
arithmetic_there arithmetic.Unsigned n l = omega (arith, l)
arithmetic_there arithmetic.Long n l = omega (arith, l)
arithmetic_there arithmetic.UnsignedLong n l = omega (arith, l)

there_if : (b : Bool) (t u : ℕ) (n : ℕ) → t < n → u < n → (if b then t else u) < n
there_if true t u n h k = h
there_if false t u n h k = k

pub base_leads : {Before : List Shape → Type 0} {m : CheckPlan (Option ℕ)} (ws : tree.Specifiers) → Leads Before MaybeThere m → Leads Before There (base_at ws m)
base_leads ws h = leads_reads h (λ s b k l. by s b k l) where
  by : (s : Tables) (b : Option ℕ) → Kept s → MaybeThere s.shapes b → base_of (seen_behind nothing_seen ws) b < length s.shapes
  by s (Some t) k l = l
  by s None k l =
      let seen = seen_behind nothing_seen ws in
      let n = k.many in
      there_if seen.whole 0 (arithmetic_id (arithmetic_type seen)) (length s.shapes) (omega (arith, n)) (arithmetic_there (arithmetic_type seen) (length s.shapes) n)

pub word_leads : (p : Place) (c : Context) (b : Option ℕ) (w : Keyword) → Leads (λ xs. MaybeThere xs b) MaybeThere (word_at p c b w)
word_leads p c b w = leads_sites {Between = λ xs x. MaybeThere xs b} leads_nothing (λ s x k l u. l)

type_there : (xs : List Shape) (d : Option Designation) → IfThere (IsNameIn xs) d → MaybeThere xs (type_named (entity_of d))
type_there xs None h = tt
type_there xs (Some d) h = by d.entity h where
  by : (e : Entity) → Names xs e → MaybeThere xs (type_named (Some e))
  by (entity.Type t) h = h
  by (entity.Object n) h = tt
  by (entity.Function n) h = tt
  by (entity.Local n) h = tt
  by (entity.Enumerator w) h = tt

found_there : (s : Tables) (name : ℕ) → Kept s → MaybeThere s.shapes (type_named (found_name s name))
unfolding found_name
found_there s name k = type_there s.shapes (find (is_named name) (reverse s.names)) (all_latest (IsNameIn s.shapes) (is_named name) s.names k.names)

pub type_name_leads : {Before : List Shape → Type 0} (n : Name) → Leads Before MaybeThere (type_name_at n)
type_name_leads {Before} n = leads_unless (OfName n.number) (leads_sites {Between = λ xs x. Before xs} leads_nothing (λ s x k l u. found_there s n.number k))

-- the type of a structure is made
structure_come : {s t : Tables} (n : ℕ) → Wider s t → Kept s → Come MaybeThere s (with_shape (shape.Struct n) t, Some (length t.shapes))
structure_come {s} {t} n w k = come_wider (behind_shape (shape.Struct n) w) k (last_there t.shapes (shape.Struct n))

new_structure_wider : (tag : Option ℕ) (begun : Bool) (s : Tables) → Wider s (new_structure tag begun s).0
new_structure_wider None begun s = let w = wide s in record { on = w.on; kept = λ k. k }
new_structure_wider (Some name) begun s = let w = wide s in record { on = w.on; kept = λ k. k }

mentioned_come : (name : ℕ) (t : Option Tagged) (s : Tables) → Kept s → Come MaybeThere s (mentioned name t s)
mentioned_come name (Some (tagged.Structure n)) s k = structure_come n (wide s) k
mentioned_come name t s k = structure_come _ (new_structure_wider (Some name) false s) k

pub tag_leads : {Before : List Shape → Type 0} (alone : Bool) (n : Name) → Leads Before MaybeThere (tag_at alone n)
tag_leads {Before} alone n = leads_unless (OfTag n.number) (leads_node {Between = λ xs x. Before xs} leads_nothing (λ s x k l u. mentioned_come n.number (tag_in alone s n.number) s k))

begins_come : (name : ℕ) (t : Option Tagged) (s : Tables) → Kept s → Come Anything s (begins name t s)
begins_come name (Some (tagged.Structure n)) s k = let w = wide s in record { kept = k; on = w.on; so = tt }
begins_come name t s k = come_wider (new_structure_wider (Some name) true s) k tt

begins_leads : {Before : List Shape → Type 0} (n : Option Name) → Leads Before Anything (begins_at n)
begins_leads {Before} None = leads_maps {Between = λ xs x. Before xs} leads_nothing (λ s x k l. come_wider (new_structure_wider None true s) k tt)
begins_leads {Before} (Some n) = leads_settles (OfTag n.number) (leads_node {Between = λ xs x. Before xs} leads_nothing (λ s x k l u. begins_come n.number (own_tag s n.number) s k))

member_settled : {Before : List Shape → Type 0} {After : List Shape → Layout → Type 0} {m : CheckPlan Layout} (n : Option Name) → Leads Before After m → Leads Before After (settles_member n m)
member_settled None h = h
member_settled (Some n) h = leads_settles (OfMember n.number) h

member_come : (n : ℕ) (l : Layout) (name : Option Name) (t : ℕ) (s : Tables) → Kept s → Come Anything s (with_member n l name t s)
member_come n l None t s k = come_same k tt
member_come n l (Some name) t s k = let w = wide s in record { kept = k; on = w.on; so = tt }

pub member_at_leads : {Before : List Shape → Type 0} {After : List Shape → NamedType → Type 0} {m : CheckPlan NamedType} (p : Place) (k : ℕ) (l : Layout) (name : Option Name) → Leads Before After m → Leads Before Anything (member_at p k l name m)
member_at_leads p k l name h = member_settled name (leads_node h (λ s x j b u. member_come k l x.name x.type_id s j))

ends_at_leads : {Before : List Shape → Type 0} (p : Place) (n : Option Name) (k : ℕ) (l : Layout) → Leads Before MaybeThere (ends_at p n k l)
ends_at_leads {Before} p n k l = leads_node {Between = λ xs x. Before xs} leads_nothing (λ s x j b u. structure_come k (let w = wide s in record { on = w.on; kept = λ k. k }) j)

pub structure_leads : {Before : List Shape → Type 0} (p : Place) (name : Option Name) (members : ℕ → CheckPlan Layout) → ((k : ℕ) → Leads Any Anything (members k)) → Leads Before MaybeThere (structure_body p name members)
structure_leads p name members h =
    leads_chain {Between = Anything} (begins_leads name) (λ k. leads_chain {Between = Anything} (leads_pardons (layout 0 1) (h k)) (λ y. ends_at_leads p name k y))

pub enumeration_tag_leads : {Before : List Shape → Type 0} (n : Name) → Leads Before MaybeThere (enumeration_tag n)
enumeration_tag_leads {Before} n = leads_unless (OfTag n.number) (leads_sites {Between = λ xs x. Before xs} leads_nothing (λ s x k l u. let a = k.many in omega (arith, a)))

enumeration_at_leads : {Before : List Shape → Type 0} (n : Option Name) → Leads Before Anything (enumeration_at n)
enumeration_at_leads None = leads_pure (tt {0}) (λ xs l b. tt)
enumeration_at_leads {Before} (Some n) = leads_settles (OfTag n.number) (leads_node {Between = λ xs x. Before xs} leads_nothing (λ s x k l u. let w = wide s in record { kept = k; on = w.on; so = tt }))

pub enumerator_leads : {Before : List Shape → Type 0} (n : Name) (w : ℕ) → Leads Before Anything (enumerator_at n w)
enumerator_leads {Before} n w = leads_settles (OfName n.number) (leads_node {Between = λ xs x. Before xs} leads_nothing (λ s x k l u. let z = wide s in record { kept = kept_name n.number (entity.Enumerator w) s tt k; on = z.on; so = tt }))

pub enumeration_leads : {Before : List Shape → Type 0} {m : CheckPlan ℕ} (name : Option Name) → Leads Any Anything m → Leads Before MaybeThere (enumeration_body name m)
enumeration_leads name h = leads_chain {Between = Anything} (enumeration_at_leads name) (λ x. leads_reads {Between = Anything} h (λ s y k l. let a = k.many in omega (arith, a)))

pub constant_leads : {Before : List Shape → Type 0} {After : List Shape → Typed → Type 0} {m : CheckPlan Typed} (p : Place) → Leads Before After m → Leads Before Anything (constant_at p m)
constant_leads p h = leads_sites h (λ s x k l u. tt)

-- ---- declarators

pub pointer_leads : {Before : List Shape → Type 0} (p : Place) (t : ℕ) → Leads Before There (pointer p t)
pointer_leads {Before} p t = leads_node {Between = λ xs x. Before xs} leads_nothing (λ s x k l u. made_come (shape.Pointer t) k)

pub unsized_leads : {Before : List Shape → Type 0} (p : Place) (t : ℕ) → Leads Before There (unsized p t)
unsized_leads {Before} p t = leads_node {Between = λ xs x. Before xs} leads_nothing (λ s x k l u. made_come (shape.Array t None) k)

pub count_leads : {Before : List Shape → Type 0} {After : List Shape → Typed → Type 0} {m : CheckPlan Typed} (p : Place) → Leads Before After m → Leads Before Anything (count_at p m)
count_leads p h = leads_sites h (λ s x k l u. tt)

pub sized_leads : {Before : List Shape → Type 0} {m : CheckPlan ℕ} (p : Place) (free : Bool) (t : ℕ) → Leads Before Anything m → Leads Before There (sized p free t m)
sized_leads p free t h = leads_node h (λ s n k l u. made_come (shape.Array t (Some n)) k)

pub function_leads : {Before : List Shape → Type 0} {m : CheckPlan ℕ} (p : Place) (t : ℕ) → Leads Before Anything m → Leads Before There (function p t m)
function_leads p t h = leads_node h (λ s ps k l u. made_come (shape.Function t ps) k)

pub local_wider : (n : Option Name) (t : ℕ) (s : Tables) → Wider s (with_named_local n t s)
local_wider None t s = wide s
local_wider (Some n) t s = let w = wide s in record { on = w.on; kept = λ k. kept_name n.number (entity.Local (length s.locals)) s tt k }

with_parameter_come : (list : ℕ) (x : NamedType) (s : Tables) → Kept s → Come Anything s (with_parameter list x s)
with_parameter_come list x s k =
    let t = with_shape (adjusted s x.type_id) s in
    come_wider (behind_shape (shape.Parameter list (length s.shapes)) (wider (shape_wider (adjusted s x.type_id) s) (local_wider x.name (length s.shapes) t))) k tt

pub parameter_leads : {Before : List Shape → Type 0} {After : List Shape → NamedType → Type 0} {m : CheckPlan NamedType} (p : Place) (list : ℕ) (name : Option Name) → Leads Before After m → Leads Before Anything (parameter_at p list name m)
parameter_leads p list name h = leads_named name (leads_node h (λ s x k l u. with_parameter_come list x s k))

pub type_leads : {Before : List Shape → Type 0} {m : CheckPlan NamedType} → Leads Before NamedThere m → Leads Before There (type_of m)
type_leads h = leads_reads h (λ s x k l. l)

-- ---- expressions

read_come : (p : Place) (s : Tables) (x : Typed) (a : Addressing) (t : Shape) → Kept s → Clean x.tree → Come Honest s (read_by p s x a t)
read_come p s x a shape.Void k h = come_same k (honest h)
read_come p s x a (shape.Struct n) k h = come_same k (honest h)
read_come p s x a (shape.Array n count) k h = come_wider (shape_wider (shape.Pointer n) s) k (honest h)
read_come p s x a t k h = come_same k (honest (record { inside = h.inside; itself = refl }))

clean_come : (p : Place) (s : Tables) (x : Typed) (c : Category) → Kept s → Clean x.tree → Come Honest s (valued p s x c)
clean_come p s x (category.At a) k h = read_come p s x a (shape_of s x.type_id) k h
clean_come p s x (category.InVariable n) k h = come_same k (honest h)
clean_come p s x c k h = come_same k (honest h)

valued_come : (p : Place) (s : Tables) (x : Typed) → Kept s → Honest s.shapes x → Come Honest s (valued p s x x.category)
valued_come p s x k h = by h.itself where
  by : (is_void_test x.tree ≡ false) ⊎ IsNothing s.shapes x → Come Honest s (valued p s x x.category)
  by (inl e) = clean_come p s x x.category k (record { inside = h.inside; itself = e })
  by (inr n) = subst (λ c. Come Honest s (valued p s x c)) (sym n.category) (come_same k h)

marked_wider : (n : ℕ) (x : Option Local) (s : Tables) → Wider s (marked n x s)
marked_wider n None s = wide s
marked_wider n (Some x) s = let w = wide s in record { on = w.on; kept = λ k. k }

marked_entity_wider : (e : Option Entity) (s : Tables) → Wider s (marked_entity e s)
marked_entity_wider (Some (entity.Local n)) s = marked_wider n (slice_get s.locals n) s
marked_entity_wider e s = wide s

marked_name_wider : (n : Option Name) (s : Tables) → Wider s (marked_name n s)
marked_name_wider None s = wide s
marked_name_wider (Some n) s = marked_entity_wider (found_name s n.number) s

named_come : (p : Place) (e : Option Entity) (s : Tables) → Kept s → Come Honest s (named p e s)
named_come p (Some (entity.Object n)) s k = let w = wide s in record { kept = k; on = w.on; so = honest (record { inside = omega arith; itself = refl }) }
named_come p (Some (entity.Local n)) s k = come_same k (honest (stored_clean p _ (slice_get s.storages n)))
named_come p (Some (entity.Enumerator w)) s k = come_same k (honest (record { inside = omega arith; itself = refl }))
named_come p e s k = come_same k (honest (record { inside = omega arith; itself = refl }))

with_call_wider : (f : ℕ) (p : Place) (l : Option LibraryFunction) (s : Tables) → Wider s (with_call f p l s)
with_call_wider f p None s = let w = wide s in record { on = w.on; kept = λ k. k }
with_call_wider f p (Some l) s = wide s

passed_in : (p : Place) (s : Tables) (x : Typed) (t : Option ℕ) → void_in x.tree ≤ 0 → void_in (passed p s x t) ≤ 0
passed_in p s x None h = h
passed_in p s x (Some t) h = converted_in p s x t h

-- two values
abbrev pub Pair : List Shape → Typed × Typed → Type 0
Pair xs x = Honest xs x.0 × Honest xs x.1

abbrev TestedPair : List Shape → Typed × Typed → Type 0
TestedPair xs x = Clean x.0.tree × Clean x.1.tree

abbrev HalfTested : List Shape → Typed × Typed → Type 0
HalfTested xs x = Clean x.0.tree × Honest xs x.1

-- a type and a value
abbrev pub TypeAndValue : List Shape → ℕ × Typed → Type 0
TypeAndValue xs x = There xs x.0 × Honest xs x.1

-- a condition and two values
abbrev pub TestAndPair : List Shape → Typed × (Typed × Typed) → Type 0
TestAndPair xs x = Tested xs x.0 × Pair xs x.1

branches_come : (p : Place) (s : Tables) (x y z : Typed) (t : Option (Tables × ℕ)) → Kept s → Joins s t → Clean x.tree → Honest s.shapes y → Honest s.shapes z → Come Honest s (conditional_as p x y z t s)
branches_come p s x y z None k j h g l = come_same k g
branches_come p s x y z (Some t) k j h g l = come_wider j k (honest (conditional_clean p x y z t s h g.inside l.inside))

module _ {Before : List Shape → Type 0} where
  pub value_leads : {m : CheckPlan Typed} (p : Place) → Leads Before Honest m → Leads Before Honest (value_at p m)
  value_leads p h = leads_node h (λ s x k l u. valued_come p s x k l)

  pub name_leads : (n : Name) → Leads Before Honest (name_at n)
  name_leads n = leads_unless (OfName n.number) (leads_node {Between = λ xs x. Before xs} leads_nothing (λ s x k l u. named_come n.place (found_name s n.number) s k))

  pub scalar_leads : {m : CheckPlan Typed} (p : Place) → Leads Before Honest m → Leads Before Tested (scalar_at p m)
  scalar_leads p h = leads_sites h (λ s x k l u. scalar_clean p s x l u)

  pub integer_leads : {m : CheckPlan Typed} (p : Place) → Leads Before Honest m → Leads Before Tested (integer_at p m)
  integer_leads p h = leads_sites h (λ s x k l u. integer_clean p s x l u)

  pub condition_leads : {m : CheckPlan Typed} (p : Place) → Leads Before Honest m → Leads Before Tested (condition_at p m)
  condition_leads p h = scalar_leads p (value_leads p h)

  -- an operand that is an integer too
  number_leads : {m : CheckPlan Typed} (p q : Place) → Leads Before Honest m → Leads Before Tested (integer_at p (scalar_at p (value_at q m)))
  number_leads p q h = leads_sites {Between = Tested} (scalar_leads p (value_leads q h)) (λ s x k l u. l)

  address_leads : {m : CheckPlan Typed} (p : Place) (name : Option Name) → Leads Before Honest m → Leads Before Honest (address_at p name m)
  address_leads p name h = leads_node h (λ s x k l u. come_wider (wider (marked_name_wider name s) (shape_wider (shape.Pointer x.type_id) (marked_name name s))) k (honest (address_of_clean p x l u)))

  star_leads : {m : CheckPlan Typed} (p : Place) → Leads Before Honest m → Leads Before Honest (star_at p m)
  star_leads p h = leads_sites h (λ s x k l u. starred_honest s x l)

  step_leads : {m : CheckPlan Typed} (p : Place) (down new : Bool) → Leads Before Honest m → Leads Before Honest (step_at p down new m)
  step_leads p down new h =
      leads_sites {Between = Tested} (scalar_leads p (leads_sites {Between = Honest} h (λ s x k l u. l))) (λ s x k l u. honest (stepped_clean p s down new x l.inside))

  pub prefix_leads : {m : CheckPlan Typed} (p q : Place) (o : PrefixOperator) (name : Option Name) → Leads Before Honest m → Leads Before Honest (prefix_at p q o name m)
  prefix_leads p q prefix.Increment name h = step_leads p false true h
  prefix_leads p q prefix.Decrement name h = step_leads p true true h
  prefix_leads p q prefix.Address name h = address_leads p name h
  prefix_leads p q prefix.Indirection name h = star_leads p (value_leads q h)
  prefix_leads p q prefix.Plus name h = leads_reads (number_leads p q h) (λ s x k l. honest (valued_clean x.tree (promoted_of s x) x.known l))
  prefix_leads p q prefix.Minus name h = leads_reads (number_leads p q h) (λ s x k l. honest (negated_clean p x (promoted_of s x) l))
  prefix_leads p q prefix.Complement name h = leads_reads (number_leads p q h) (λ s x k l. honest (complemented_clean p x (promoted_of s x) l))
  prefix_leads p q prefix.Not name h = leads_reads (scalar_leads p (value_leads q h)) (λ s x k l. honest (inverted_clean p x l))

  pub postfix_leads : {m : CheckPlan Typed} (p : Place) (o : PostfixOperator) → Leads Before Honest m → Leads Before Honest (postfix_at p o m)
  postfix_leads p postfix.Increment h = step_leads p false false h
  postfix_leads p postfix.Decrement h = step_leads p true false h

  operands_leads : {m : CheckPlan (Typed × Typed)} (p : Place) (o : BinaryOperator) → Leads Before Pair m → Leads Before Honest (operands_at p o m)
  operands_leads p o h = leads_sites (leads_sites {Between = Pair} {After = Pair} h (λ s x k l u. l)) (λ s x k l u. combined_honest p s o x.0 x.1 l.0 l.1)

  scalars_leads : {m : CheckPlan (Typed × Typed)} (p q : Place) → Leads Before Pair m → Leads Before TestedPair (scalars_at p q m)
  scalars_leads p q h =
      leads_sites {Between = HalfTested} (leads_sites {Between = Pair} h (λ s x k l u. (scalar_clean p s x.0 l.0 u, l.1))) (λ s x k l u. (l.0, scalar_clean q s x.1 l.1 u))

  and_leads : {m : CheckPlan (Typed × Typed)} (p q : Place) → Leads Before Pair m → Leads Before Honest (and_at p q m)
  and_leads p q h = leads_reads (scalars_leads p q h) (λ s x k l. honest (valued_clean (program.And p x.0.tree x.1.tree) int_id (known_and x.0.known x.1.known) (and_clean p x.0.tree x.1.tree l.0 l.1)))

  or_leads : {m : CheckPlan (Typed × Typed)} (p q : Place) → Leads Before Pair m → Leads Before Honest (or_at p q m)
  or_leads p q h = leads_reads (scalars_leads p q h) (λ s x k l. honest (valued_clean (program.Or p x.0.tree x.1.tree) int_id (known_or x.0.known x.1.known) (or_clean p x.0.tree x.1.tree l.0 l.1)))

  pub binary_leads : {m : CheckPlan (Typed × Typed)} (p q : Place) (o : BinaryOperator) → Leads Before Pair m → Leads Before Honest (binary_at p q o m)
  binary_leads p q binary.AndAnd h = and_leads p q h
  binary_leads p q binary.OrOr h = or_leads p q h
  binary_leads p q o h = operands_leads p o h

  pub index_leads : {m : CheckPlan (Typed × Typed)} (p q : Place) → Leads Before Pair m → Leads Before Honest (index_at p q m)
  index_leads p q h =
      leads_sites (leads_sites {Between = Pair} {After = Pair} (leads_sites {Between = Pair} {After = Pair} h (λ s x k l u. l)) (λ s x k l u. l)) (λ s x k l u. subscripted_honest p s x.0 x.1 l.0 l.1)

  member_leads : {m : CheckPlan Typed} (p : Place) (o : MemberOperator) (name : Name) → Leads Before Honest m → Leads Before Honest (member_of p o name m)
  member_leads p o name h = leads_unless (OfMember name.number) (leads_sites h (λ s x k l u. member_honest p s o x (component_in s (owner o s x) name.number) l))

  pub access_leads : {m : CheckPlan Typed} (p : Place) (o : MemberOperator) (name : Name) → Leads Before Honest m → Leads Before Honest (access_at p o name m)
  access_leads p signs.Dot name h = member_leads p signs.Dot name h
  access_leads p signs.Arrow name h = member_leads p signs.Arrow name (value_leads p h)

  pub sizeof_leads : {After : List Shape → ℕ → Type 0} {m : CheckPlan ℕ} (p : Place) → Leads Before After m → Leads Before Honest (sizeof_at p m)
  sizeof_leads p h = leads_sites h (λ s t k l u. honest (record { inside = omega arith; itself = refl }))

  pub cast_leads : {m : CheckPlan (ℕ × Typed)} (p : Place) → Leads Before TypeAndValue m → Leads Before Honest (cast_at p m)
  cast_leads p h = leads_sites h (λ s x k l u. cast_honest p s x.1 x.0 l.0 l.1 u)

  pub assignment_leads : {m : CheckPlan (Typed × Typed)} (p : Place) (o : AssignmentOperator) → Leads Before Pair m → Leads Before Honest (assignment_at p o m)
  assignment_leads p assignment.Assign h =
      leads_sites (leads_sites {Between = Pair} {After = Pair} h (λ s x k l u. l)) (λ s x k l u. honest (assigned_clean p s x.0 x.1 (let a = l.0 in a.inside) (let b = l.1 in b.inside)))
  assignment_leads p o h =
      leads_sites (leads_sites {Between = Pair} {After = Pair} (leads_sites {Between = Pair} {After = Pair} h (λ s x k l u. l)) (λ s x k l u. l))
      (λ s x k l u. honest (updated_clean p s (operator_of o) x.0 x.1 (let a = l.0 in a.inside) (let b = l.1 in b.inside)))

  pub conditional_leads : {m : CheckPlan (Typed × (Typed × Typed))} (p : Place) → Leads Before TestAndPair m → Leads Before Honest (conditional_at p m)
  conditional_leads p h = leads_node h (λ s x k l u. branches_come p s x.0 x.1.0 x.1.1 (joined s x.1.0 x.1.1) k (joined_wider s x.1.0 x.1.1) l.0 l.1.0 l.1.1)

  pub comma_leads : {m : CheckPlan (Typed × Typed)} → Leads Before Pair m → Leads Before Honest (comma_at m)
  comma_leads h = leads_reads h (λ s x k l. honest (comma_clean x.0 x.1 (let a = l.0 in a.inside) (let b = l.1 in b.inside)))

-- ---- calls

-- the list of what is passed, or printed
abbrev pub Passed : List Shape → List program.Expression → Type 0
Passed xs es = void_in_list es ≤ 0

pub argument_leads : {m : CheckPlan Typed} (p : Place) (f : Option ℕ) (i : ℕ) (done : List program.Expression) → Leads Any Honest m → Leads (λ xs. Passed xs done) Passed (argument_at p f i done m)
argument_leads p f i done h = leads_if (λ d. leads_sites h (λ s x k l u.
    let a = l.inside in
    let g = passed_in p s x (parameter_type s f i) a in
    let e = void-append done (passed p s x (parameter_type s f i) ∷ []) in omega (arith, d, g, e)))

call_at_leads : (p : Place) (n : Name) (f given : ℕ) → Leads Any Anything (call_at p n f given)
call_at_leads p n f given = leads_node {Between = Anything} leads_nothing (λ s x k l u. come_wider (with_call_wider f n.place (library_of (slice_get s.routines f)) s) k tt)

call_by_leads : {m : CheckPlan Typed} {args : CheckPlan (List program.Expression)} (p q : Place) (name : Name) (given : ℕ) (f : Option ℕ) → Leads Any Honest m → Leads Any Passed args → Leads Any Honest (call_by p q name given f m args)
call_by_leads p q name given (Some f) h g =
    leads_chain {Between = Anything} (call_at_leads p name f given) (λ x. leads_reads g (λ s es k l. called_honest p s f es k l))
call_by_leads p q name given None h g = leads_sites (leads_both honest_lasts (value_leads q h) g) (λ s x k l u. honest (record { inside = omega arith; itself = refl }))

pub call_leads : {m : CheckPlan Typed} {args : Option ℕ → CheckPlan (List program.Expression)} (p q : Place) (name : Option Name) (given : ℕ) → Leads Any Honest m → ((f : Option ℕ) → Leads Any Passed (args f)) → Leads Any Honest (call_of p q name given m args)
call_leads p q None given h g = leads_sites (leads_both honest_lasts (value_leads q h) (g None)) (λ s x k l u. honest (record { inside = omega arith; itself = refl }))
call_leads p q (Some name) given h g = leads_chain {Between = Anything} (leads_looks (λ s. routine_in (found_name s name.number)) (λ s k b. tt)) (λ f. call_by_leads p q name given f h (g f))
