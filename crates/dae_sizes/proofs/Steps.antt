-- One lemma for each step of types and expressions: what it adds to the measure of its parts.
use Rattle.std.proofs.Common.{ℕ, ◌+◌, ◌≤◌, Bool, true, false, List, [], ◌∷◌, length, Option, Some, None, refl, arith, length-append}
use Rattle.std.specs.Prelude.{slice_get}
use Rattle.dae_base.specs.declared.Place.{Place}
use Rattle.dae_tree.specs.declared.words.Keyword.{Keyword}
use Rattle.dae_tree.specs.declared.expressions.Name.{Name}
use Rattle.dae_tree.specs.declared.operators.BinaryOperator.{BinaryOperator}
use Rattle.dae_tree.specs.declared.operators.BinaryOperator.TheVariants as binary
use Rattle.dae_tree.specs.declared.operators.AssignmentOperator.{AssignmentOperator}
use Rattle.dae_tree.specs.declared.operators.AssignmentOperator.TheVariants as assignment
use Rattle.dae_tree.specs.declared.operators.PrefixOperator.{PrefixOperator}
use Rattle.dae_tree.specs.declared.operators.PrefixOperator.TheVariants as prefix
use Rattle.dae_tree.specs.declared.operators.PostfixOperator.{PostfixOperator}
use Rattle.dae_tree.specs.declared.operators.PostfixOperator.TheVariants as postfix
use Rattle.dae_tree.specs.declared.operators.MemberOperator.{MemberOperator}
use Rattle.dae_tree.specs.declared.operators.MemberOperator.TheVariants as signs
use Rattle.dae_tree.specs.Trees as tree
use Rattle.dae_program.specs.Trees as program
use Rattle.dae_types_kinds.specs.declared.types.Layout.{Layout}
use Rattle.dae_types_kinds.specs.declared.types.Shape.TheVariants as shape
use Rattle.dae_types_kinds.specs.declared.tables.Context.{Context}
use Rattle.dae_types_kinds.specs.declared.tables.Entity.{Entity}
use Rattle.dae_types_kinds.specs.declared.tables.Entity.TheVariants as entity
use Rattle.dae_types_kinds.specs.declared.tables.LibraryFunction.{LibraryFunction}
use Rattle.dae_types_kinds.specs.declared.tables.NamedType.{NamedType}
use Rattle.dae_types_kinds.specs.declared.tables.Tagged.{Tagged}
use Rattle.dae_types_kinds.specs.declared.tables.Tagged.TheVariants as tagged
use Rattle.dae_types_kinds.specs.Tables.{Tables, with_shape, with_name, found_name, own_tag}
use Rattle.dae_types_kinds.specs.Types.{int_id, shape_of, pointee, layout}
use Rattle.dae_types_kinds.specs.Values.{Typed, addressed, assigned, called, comma, combined_as, complemented, converted, inverted, known_and, known_or, component_in, member_by, negated, owner, library_of, joined, operator_of, starred, subscripted, valued_by}
use Rattle.dae_types_rules.specs.Sites.{Site}
use Rattle.dae_types_rules.specs.Plan.{CheckPlan, BrokenName, OfName, OfTag, OfMember, node, maps, pardons, settles, unless_spoiled}
use Rattle.dae_types_plans.specs.Steps.{base_at, word_at, type_name_at, tag_in, tag_at, mentioned, new_structure, begins, begins_at, with_member, settles_member, member_at, number_of, completes, ends_at, structure_body, enumeration_tag, enumeration_at, enumerator_at, enumeration_body, constant_at, pointer, unsized, count_at, sized, function, with_named_local, with_parameter, adjusted, parameter_at, type_of, value_at, name_at, condition_at, marked_entity, marked_name, address_at, star_at, step_at, promoted_of, prefix_at, postfix_at, operands_at, combination_of, and_at, or_at, binary_at, index_at, member_of, access_at, sizeof_at, cast_at, assignment_at, conditional_at, comma_at, passed, parameter_type, argument_at, with_call, call_at, call_by, routine_in, call_of}
use Rattle.dae_sizes.specs.Weights.{weight}
use Rattle.dae_sizes.proofs.Within.{Grown, Got, Within, none, added, same, stays, grows, grown_more, fewer, measured, unmeasured, node_within, node_stays, maps_stays, node_reads, maps_reads, asks_within, both_within, chain_within, nothing_within, looks_within, settles_within}
use Rattle.dae_sizes.proofs.Weighing.{behind_low, cost, weight_of_list, weight-append, marked_grown, joined_grown, valued_weighs, converted_weighs, valued_got, named_got, combined_weighs, subscripted_weighs, starred_weighs, negated_weighs, complemented_weighs, inverted_weighs, member_weighs, assigned_weighs, updated_weighs, stepped_weighs, conditional_got, called_weighs}

-- ---- notes, which change nothing where no rule is broken

pub noted_within : {A : Type 0} {ls : List (List ℕ)} {μ : A → ℕ} {n w : ℕ} {m : CheckPlan A} (k : BrokenName) → Within ls μ n w m → Within ls μ n w (settles k m)
noted_within k h = record { comes = h.comes }

pub unless_within : {A : Type 0} {ls : List (List ℕ)} {μ : A → ℕ} {n w : ℕ} {m : CheckPlan A} (k : BrokenName) → Within ls μ n w m → Within ls μ n w (unless_spoiled k m)
unless_within k h = record { comes = h.comes }

pub pardons_within : {A : Type 0} {ls : List (List ℕ)} {μ : A → ℕ} {n w : ℕ} {m : CheckPlan A} (d : A) → Within ls μ n w m → Within ls μ n w (pardons d m)
pardons_within d h = record { comes = h.comes }

-- ---- where tables alone change, and nothing is measured

-- a step that keeps the tables' literals and locals
pub node_keeps : {A B : Type 0} {ls : List (List ℕ)} {n : ℕ} {f : Tables → A → List Site} {g : Tables → A → Tables × B} {m : CheckPlan A} → Within ls none n 0 m → ((s : Tables) (x : A) → Grown 0 s (g s x).0) → Within ls none n 0 (node f g m)
node_keeps h k = node_stays h (λ s x e l. record { grown = k s x; small = omega arith })

pub maps_keeps : {A B : Type 0} {ls : List (List ℕ)} {n : ℕ} {g : Tables → A → Tables × B} {m : CheckPlan A} → Within ls none n 0 m → ((s : Tables) (x : A) → Grown 0 s (g s x).0) → Within ls none n 0 (maps g m)
maps_keeps h k = maps_stays h (λ s x e l. record { grown = k s x; small = omega arith })

-- ---- specifiers

new_structure_grown : (tag : Option ℕ) (begun : Bool) (s : Tables) → Grown 0 s (new_structure tag begun s).0
new_structure_grown None begun s = same 0 s (new_structure None begun s).0 refl refl refl
new_structure_grown (Some name) begun s = same 0 s (new_structure (Some name) begun s).0 refl refl refl

mentioned_grown : (name : ℕ) (t : Option Tagged) (s : Tables) → Grown 0 s (mentioned name t s).0
mentioned_grown name (Some (tagged.Structure n)) s = same 0 s (mentioned name (Some (tagged.Structure n)) s).0 refl refl refl
mentioned_grown name t s = same 0 s (mentioned name t s).0 refl refl refl

begins_grown : (name : ℕ) (t : Option Tagged) (s : Tables) → Grown 0 s (begins name t s).0
begins_grown name (Some (tagged.Structure n)) s = same 0 s (begins name (Some (tagged.Structure n)) s).0 refl refl refl
begins_grown name t s = same 0 s (begins name t s).0 refl refl refl

member_grown : (n : ℕ) (l : Layout) (name : Option Name) (t : ℕ) (s : Tables) → Grown 0 s (with_member n l name t s).0
member_grown n l None t s = stays 0
member_grown n l (Some name) t s = same 0 s (with_member n l (Some name) t s).0 refl refl refl

module _ {ls : List (List ℕ)} where
  pub base_within : {n : ℕ} {m : CheckPlan (Option ℕ)} (ws : tree.Specifiers) → Within ls none n 0 m → Within ls none n 0 (base_at ws m)
  base_within ws h = maps_keeps h (λ s x. stays 0)

  pub word_within : (p : Place) (k : Context) (b : Option ℕ) (w : Keyword) → Within ls none 0 0 (word_at p k b w)
  word_within p k b w = node_keeps nothing_within (λ s x. stays 0)

  pub type_name_within : (n : Name) → Within ls none 0 0 (type_name_at n)
  type_name_within n = unless_within (OfName n.number) (node_keeps nothing_within (λ s x. stays 0))

  pub tag_within : (alone : Bool) (n : Name) → Within ls none 0 0 (tag_at alone n)
  tag_within alone n = unless_within (OfTag n.number) (node_keeps nothing_within (λ s x. mentioned_grown n.number (tag_in alone s n.number) s))

  begins_within : (n : Option Name) → Within ls none 0 0 (begins_at n)
  begins_within None = maps_keeps nothing_within (λ s x. new_structure_grown None true s)
  begins_within (Some n) = noted_within (OfTag n.number) (node_keeps nothing_within (λ s x. begins_grown n.number (own_tag s n.number) s))

  member_settles_within : {n : ℕ} {m : CheckPlan Layout} (name : Option Name) → Within ls none n 0 m → Within ls none n 0 (settles_member name m)
  member_settles_within None h = h
  member_settles_within (Some name) h = noted_within (OfMember name.number) h

  pub member_at_within : {n : ℕ} {m : CheckPlan NamedType} (p : Place) (k : ℕ) (l : Layout) (name : Option Name) → Within ls none n 0 m → Within ls none n 0 (member_at p k l name m)
  member_at_within p k l name h = member_settles_within name (node_keeps h (λ s x. member_grown k l x.name x.type_id s))

  ends_at_within : (p : Place) (n : Option Name) (k : ℕ) (l : Layout) → Within ls none 0 0 (ends_at p n k l)
  ends_at_within p n k l = node_keeps nothing_within (λ s x. same 0 s (completes (number_of n) k l s).0 refl refl refl)

  pub structure_within : {n : ℕ} (p : Place) (name : Option Name) (members : ℕ → CheckPlan Layout) → ((k : ℕ) → Within ls none n 0 (members k)) → Within ls none n 0 (structure_body p name members)
  structure_within p name members h =
      fewer (omega arith) (chain_within (begins_within name) (λ k l. chain_within (pardons_within (layout 0 1) (h k)) (λ y q. ends_at_within p name k y)))

  pub enumeration_tag_within : (n : Name) → Within ls none 0 0 (enumeration_tag n)
  enumeration_tag_within n = unless_within (OfTag n.number) (node_keeps nothing_within (λ s x. stays 0))

  enumeration_at_within : (n : Option Name) → Within ls none 0 0 (enumeration_at n)
  enumeration_at_within None = nothing_within
  enumeration_at_within (Some n) = noted_within (OfTag n.number) (node_keeps nothing_within (λ s x. same 0 s _ refl refl refl))

  pub enumerator_within : (n : Name) (w : ℕ) → Within ls none 0 0 (enumerator_at n w)
  enumerator_within n w = noted_within (OfName n.number) (node_keeps nothing_within (λ s x. same 0 s (with_name n.number (entity.Enumerator w) s) refl refl refl))

  pub enumeration_within : {n : ℕ} {m : CheckPlan ℕ} (name : Option Name) → Within ls none n 0 m → Within ls none n 0 (enumeration_body name m)
  enumeration_within name h = fewer (omega arith) (chain_within (enumeration_at_within name) (λ x l. maps_keeps h (λ s y. stays 0)))

  pub constant_within : {n w : ℕ} {μ : Typed → ℕ} {m : CheckPlan Typed} (p : Place) → Within ls μ n w m → Within ls none n 0 (constant_at p m)
  constant_within p h = node_keeps (unmeasured h) (λ s x. stays 0)

  -- ---- declarators

  pub pointer_within : (p : Place) (t : ℕ) → Within ls none 0 0 (pointer p t)
  pointer_within p t = node_keeps nothing_within (λ s x. same 0 s (with_shape (shape.Pointer t) s) refl refl refl)

  pub unsized_within : (p : Place) (t : ℕ) → Within ls none 0 0 (unsized p t)
  unsized_within p t = node_keeps nothing_within (λ s x. same 0 s (with_shape (shape.Array t None) s) refl refl refl)

  pub count_within : {n w : ℕ} {μ : Typed → ℕ} {m : CheckPlan Typed} (p : Place) → Within ls μ n w m → Within ls none n 0 (count_at p m)
  count_within p h = node_keeps (unmeasured h) (λ s x. stays 0)

  pub sized_within : {n : ℕ} {m : CheckPlan ℕ} (p : Place) (free : Bool) (t : ℕ) → Within ls none n 0 m → Within ls none n 0 (sized p free t m)
  sized_within p free t h = node_keeps h (λ s x. same 0 s (with_shape (shape.Array t (Some x)) s) refl refl refl)

  pub function_within : {n : ℕ} {m : CheckPlan ℕ} (p : Place) (t : ℕ) → Within ls none n 0 m → Within ls none n 0 (function p t m)
  function_within p t h = node_keeps h (λ s ps. same 0 s (with_shape (shape.Function t ps) s) refl refl refl)

-- a name that is declared, or none
abbrev pub count_name : Option Name → ℕ
count_name None = 0
count_name (Some n) = 1

abbrev pub named : NamedType → ℕ
named x = count_name x.name

pub local_grown : (n : Option Name) (t : ℕ) (s : Tables) → Grown (count_name n) s (with_named_local n t s)
local_grown None t s = stays 0
local_grown (Some n) t s = record { literals = refl; locals = let h = length-append s.locals (record { type_id = t; taken = false } ∷ []) in omega (arith, h); storages = refl }

with_parameter_grown : (list : ℕ) (x : NamedType) (s : Tables) → Grown (named x) s (with_parameter list x s).0
with_parameter_grown list x s =
    let t = with_shape (adjusted s x.type_id) s in
    let u = with_named_local x.name (length s.shapes) t in
    grown_more (omega arith) (grows (grows (same 0 s t refl refl refl) (local_grown x.name (length s.shapes) t)) (same 0 u (with_parameter list x s).0 refl refl refl))

module _ {ls : List (List ℕ)} where
  pub parameter_within : {n k : ℕ} {m : CheckPlan NamedType} (p : Place) (list : ℕ) (name : Option Name) → Within ls named n k m → Within ls none (n + k) 0 (parameter_at p list name m)
  parameter_within p list name h = settles_within name (node_within h (λ s x e l. record { grown = grown_more l (with_parameter_grown list x s); small = omega arith }))

  pub type_within : {n k : ℕ} {m : CheckPlan NamedType} → Within ls named n k m → Within ls none n 0 (type_of m)
  type_within h = maps_keeps (unmeasured h) (λ s x. stays 0)

-- ---- expressions

marked_entity_grown : (e : Option Entity) (s : Tables) → Grown 0 s (marked_entity e s)
marked_entity_grown (Some (entity.Local n)) s = marked_grown n (slice_get s.locals n) s
marked_entity_grown e s = stays 0

pub marked_name_grown : (n : Option Name) (s : Tables) → Grown 0 s (marked_name n s)
marked_name_grown None s = stays 0
marked_name_grown (Some n) s = marked_entity_grown (found_name s n.number) s

pub with_call_grown : (f : ℕ) (p : Place) (l : Option LibraryFunction) (s : Tables) → Grown 0 s (with_call f p l s)
with_call_grown f p None s = same 0 s (with_call f p None s) refl refl refl
with_call_grown f p (Some l) s = stays 0

costs : (c : ℕ) {s : Tables} {y : Tables × Typed} {u v : ℕ} (k : ℕ) → k + u ≤ v → Got (cost c 0) 0 u s y → Got (cost c k) 0 v s y
costs c k l g = record { grown = g.grown; small = omega (arith, l, g.small) }

passed_weighs : (c : ℕ) (low : c ≤ 1) (p : Place) (s : Tables) (x : Typed) (t : Option ℕ) → weight c (passed p s x t) ≤ 1 + weight c x.tree
passed_weighs c low p s x None = omega arith
passed_weighs c low p s x (Some t) = converted_weighs c low p s x t

module _ (c : ℕ) (low : c ≤ 1) {ls : List (List ℕ)} where
  pub cheaper : {n w : ℕ} {m : CheckPlan Typed} → Within ls (cost c 3) n w m → Within ls (cost c 2) n w m
  cheaper h = measured (λ x l. omega (arith, l)) h

  pub value_within : {n w : ℕ} {m : CheckPlan Typed} (p : Place) → Within ls (cost c 3) n w m → Within ls (cost c 2) n w (value_at p m)
  value_within p h = node_stays h (λ s x e l. costs c 2 (omega (arith, l)) (valued_got c low p s x x.category))

  pub name_within : (n : Name) → Within ls (cost c 3) 0 4 (name_at n)
  name_within n = unless_within (OfName n.number) (node_stays nothing_within (λ s x e l. costs c 3 (omega arith) (named_got c low n.place (found_name s n.number) s)))

  pub condition_within : {n w : ℕ} {m : CheckPlan Typed} (p : Place) → Within ls (cost c 3) n w m → Within ls (cost c 2) n w (condition_at p m)
  condition_within p h = asks_within (value_within p h)

  address_within : {n w : ℕ} {m : CheckPlan Typed} (p : Place) (name : Option Name) → Within ls (cost c 3) n w m → Within ls (cost c 3) n (4 + w) (address_at p name m)
  address_within p name h = node_stays h (λ s x e l. record {
    grown = grown_more (omega arith) (grows (marked_name_grown name s) (same 0 (marked_name name s) (addressed x (marked_name name s)).0 refl refl refl));
    small = omega (arith, l);
  })

  star_within : {n w : ℕ} {m : CheckPlan Typed} (p : Place) → Within ls (cost c 2) n w m → Within ls (cost c 3) n (4 + w) (star_at p m)
  star_within p h = node_reads h (λ s x e l. let g = starred_weighs c low x (pointee (shape_of s x.type_id)) in let b = behind_low c (starred x (pointee (shape_of s x.type_id))).category in omega (arith, l, g, low, b))

  step_within : {n w : ℕ} {m : CheckPlan Typed} (p : Place) (down new : Bool) → Within ls (cost c 3) n w m → Within ls (cost c 3) n (4 + w) (step_at p down new m)
  step_within p down new h = node_reads (asks_within (asks_within h)) (λ s x e l. let g = stepped_weighs c low p s down new x in omega (arith, l, g, low))

  pub prefix_within : {n w : ℕ} {m : CheckPlan Typed} (p q : Place) (o : PrefixOperator) (name : Option Name) → Within ls (cost c 3) n w m → Within ls (cost c 3) n (4 + w) (prefix_at p q o name m)
  prefix_within p q prefix.Increment name h = step_within p false true h
  prefix_within p q prefix.Decrement name h = step_within p true true h
  prefix_within p q prefix.Address name h = address_within p name h
  prefix_within p q prefix.Indirection name h = star_within p (value_within q h)
  prefix_within p q prefix.Plus name h = maps_reads (asks_within (asks_within (value_within q h))) (λ s x e l. let g = valued_weighs c low x.tree (promoted_of s x) x.known in let b = behind_low c (valued_by x.tree (promoted_of s x) x.known).category in omega (arith, l, g, low, b))
  prefix_within p q prefix.Minus name h = maps_reads (asks_within (asks_within (value_within q h))) (λ s x e l. let g = negated_weighs c low p x (promoted_of s x) in let b = behind_low c (negated p x (promoted_of s x)).category in omega (arith, l, g, low, b))
  prefix_within p q prefix.Complement name h = maps_reads (asks_within (asks_within (value_within q h))) (λ s x e l. let g = complemented_weighs c low p x (promoted_of s x) in let b = behind_low c (complemented p x (promoted_of s x)).category in omega (arith, l, g, low, b))
  prefix_within p q prefix.Not name h = maps_reads (asks_within (value_within q h)) (λ s x e l. let g = inverted_weighs c low p x in let b = behind_low c (inverted p x).category in omega (arith, l, g, low, b))

  pub postfix_within : {n w : ℕ} {m : CheckPlan Typed} (p : Place) (o : PostfixOperator) → Within ls (cost c 3) n w m → Within ls (cost c 3) n (4 + w) (postfix_at p o m)
  postfix_within p postfix.Increment h = step_within p false false h
  postfix_within p postfix.Decrement h = step_within p true false h

  operands_within : {n w : ℕ} {m : CheckPlan (Typed × Typed)} (p : Place) (o : BinaryOperator) → Within ls (added (cost c 2) (cost c 2)) n w m → Within ls (cost c 3) n (4 + w) (operands_at p o m)
  operands_within p o h = node_reads (asks_within h) (λ s x e l. let g = combined_weighs c low p s o x.0 x.1 (combination_of s o x) in let b = behind_low c (combined_as p s o x.0 x.1 (combination_of s o x)).category in omega (arith, l, g, low, b))

  and_within : {n w : ℕ} {m : CheckPlan (Typed × Typed)} (p q : Place) → Within ls (added (cost c 2) (cost c 2)) n w m → Within ls (cost c 3) n (4 + w) (and_at p q m)
  and_within p q h = maps_reads (asks_within (asks_within h)) (λ s x e l. let g = valued_weighs c low (program.And p x.0.tree x.1.tree) int_id (known_and x.0.known x.1.known) in let b = behind_low c (valued_by (program.And p x.0.tree x.1.tree) int_id (known_and x.0.known x.1.known)).category in omega (arith, l, g, low, b))

  or_within : {n w : ℕ} {m : CheckPlan (Typed × Typed)} (p q : Place) → Within ls (added (cost c 2) (cost c 2)) n w m → Within ls (cost c 3) n (4 + w) (or_at p q m)
  or_within p q h = maps_reads (asks_within (asks_within h)) (λ s x e l. let g = valued_weighs c low (program.Or p x.0.tree x.1.tree) int_id (known_or x.0.known x.1.known) in let b = behind_low c (valued_by (program.Or p x.0.tree x.1.tree) int_id (known_or x.0.known x.1.known)).category in omega (arith, l, g, low, b))

  pub binary_within : {n w : ℕ} {m : CheckPlan (Typed × Typed)} (p q : Place) (o : BinaryOperator) → Within ls (added (cost c 2) (cost c 2)) n w m → Within ls (cost c 3) n (4 + w) (binary_at p q o m)
  binary_within p q binary.AndAnd h = and_within p q h
  binary_within p q binary.OrOr h = or_within p q h
  binary_within p q o h = operands_within p o h

  pub index_within : {n w : ℕ} {m : CheckPlan (Typed × Typed)} (p q : Place) → Within ls (added (cost c 2) (cost c 2)) n w m → Within ls (cost c 3) n (8 + w) (index_at p q m)
  index_within p q h = node_reads (asks_within (asks_within h)) (λ s x e l. let g = subscripted_weighs c low p s x.0 x.1 (combination_of s binary.Add x) in let b = behind_low c (subscripted p s x.0 x.1 (combination_of s binary.Add x)).category in omega (arith, l, g, low, b))

  member_within : {n w : ℕ} {m : CheckPlan Typed} (p : Place) (o : MemberOperator) (name : Name) → Within ls (cost c 2) n w m → Within ls (cost c 3) n (8 + w) (member_of p o name m)
  member_within p o name h = unless_within (OfMember name.number) (node_reads h (λ s x e l. let g = member_weighs c low p s o x (component_in s (owner o s x) name.number) in let b = behind_low c (member_by p s o x (component_in s (owner o s x) name.number)).category in omega (arith, l, g, low, b)))

  pub access_within : {n w : ℕ} {m : CheckPlan Typed} (p : Place) (o : MemberOperator) (name : Name) → Within ls (cost c 3) n w m → Within ls (cost c 3) n (8 + w) (access_at p o name m)
  access_within p signs.Dot name h = member_within p signs.Dot name (cheaper h)
  access_within p signs.Arrow name h = member_within p signs.Arrow name (value_within p h)

  pub sizeof_within : {n : ℕ} {m : CheckPlan ℕ} (p : Place) → Within ls none n 0 m → Within ls (cost c 3) n 4 (sizeof_at p m)
  sizeof_within p h = node_reads h (λ s x e l. omega (arith, low))

  pub cast_within : {n w : ℕ} {m : CheckPlan (ℕ × Typed)} (p : Place) → Within ls (added none (cost c 2)) n w m → Within ls (cost c 3) n (8 + w) (cast_at p m)
  cast_within p h = node_reads h (λ s x e l. let g = converted_weighs c low p s x.1 x.0 in let b = behind_low c (converted p s x.1 x.0).category in omega (arith, l, g, low, b))

  pub assignment_within : {n w : ℕ} {m : CheckPlan (Typed × Typed)} (p : Place) (o : AssignmentOperator) → Within ls (added (cost c 3) (cost c 2)) n w m → Within ls (cost c 3) n (4 + w) (assignment_at p o m)
  assignment_within p assignment.Assign h = node_reads (asks_within h) (λ s x e l. let g = assigned_weighs c low p s x.0 x.1 in let b = behind_low c (assigned p s x.0 x.1).category in omega (arith, l, g, low, b))
  assignment_within p o h = node_reads (asks_within (asks_within h)) (λ s x e l. let g = updated_weighs c low p s (operator_of o) x.0 x.1 in omega (arith, l, g))

  pub conditional_within : {n w : ℕ} {m : CheckPlan (Typed × (Typed × Typed))} (p : Place) → Within ls (added (cost c 2) (added (cost c 2) (cost c 2))) n w m → Within ls (cost c 3) n (8 + w) (conditional_at p m)
  conditional_within p h = node_stays h (λ s x e l. costs c 3 (omega (arith, l)) (conditional_got c low p x.0 x.1.0 x.1.1 (joined s x.1.0 x.1.1) s (joined_grown s x.1.0 x.1.1)))

  pub comma_within : {n w : ℕ} {m : CheckPlan (Typed × Typed)} → Within ls (added (cost c 2) (cost c 2)) n w m → Within ls (cost c 3) n (4 + w) (comma_at m)
  comma_within h = maps_reads h (λ s x e l. let b = behind_low c (comma x.0 x.1).category in omega (arith, l, low, b))

  -- ---- calls

  pub argument_within : {n w : ℕ} {m : CheckPlan Typed} (p : Place) (f : Option ℕ) (i : ℕ) (done : List program.Expression) → Within ls (cost c 2) n w m → Within ls (weight_of_list c) n (weight_of_list c done + w) (argument_at p f i done m)
  argument_within p f i done h = node_reads h (λ s x e l.
      let g = passed_weighs c low p s x (parameter_type s f i) in
      let k = weight-append c done (passed p s x (parameter_type s f i) ∷ []) in omega (arith, l, g, k))

  call_at_within : (p : Place) (n : Name) (f given : ℕ) → Within ls none 0 0 (call_at p n f given)
  call_at_within p n f given = node_keeps nothing_within (λ s x. with_call_grown f n.place (library_of (slice_get s.routines f)) s)

  call_by_within : {n k w v : ℕ} {m : CheckPlan Typed} {args : CheckPlan (List program.Expression)} (p q : Place) (name : Name) (given : ℕ) (f : Option ℕ) → Within ls (cost c 3) n w m → Within ls (weight_of_list c) k v args → Within ls (cost c 3) (n + k) (8 + (w + v)) (call_by p q name given f m args)
  call_by_within {n} p q name given (Some f) h g =
      fewer (omega arith) (chain_within (call_at_within p name f given) (λ x l. maps_reads g (λ s es e l. let j = called_weighs c low p s f es in let b = behind_low c (called p s f es).category in omega (arith, l, j, low, b))))
  call_by_within p q name given None h g = node_reads (both_within (value_within q h) g) (λ s x e l. omega (arith, low, l))

  pub call_within : {n k w v : ℕ} {m : CheckPlan Typed} {args : Option ℕ → CheckPlan (List program.Expression)} (p q : Place) (name : Option Name) (given : ℕ) → Within ls (cost c 3) n w m → ((f : Option ℕ) → Within ls (weight_of_list c) k v (args f)) → Within ls (cost c 3) (n + k) (8 + (w + v)) (call_of p q name given m args)
  call_within p q None given h g = node_reads (both_within (value_within q h) (g None)) (λ s x e l. omega (arith, low, l))
  call_within p q (Some name) given h g = fewer (omega arith) (chain_within (looks_within {μ = none} {w = 0} (λ s. routine_in (found_name s name.number)) (λ s e. omega arith)) (λ f l. call_by_within p q name given f h (g f)))
