-- How many nodes each step of a plan of expressions gives: three for the node that is written, and those of its operands.
use Rattle.std.proofs.Common.{ℕ, ◌+◌, ◌≤◌, Bool, true, false, List, [], ◌∷◌, Option, Some, None, refl, arith, ◌*◌, Result, Ok, Err}
use Rattle.std.specs.Prelude.{slice_get}
use Rattle.dae_base.specs.declared.Place.{Place}
use Rattle.dae_tree.specs.declared.expressions.Name.{Name}
use Rattle.dae_tree.specs.declared.operators.BinaryOperator.{BinaryOperator}
use Rattle.dae_tree.specs.declared.operators.BinaryOperator.TheVariants as binary
use Rattle.dae_tree.specs.declared.operators.AssignmentOperator.{AssignmentOperator}
use Rattle.dae_tree.specs.declared.operators.AssignmentOperator.TheVariants as assignment
use Rattle.dae_tree.specs.declared.operators.PrefixOperator.{PrefixOperator}
use Rattle.dae_tree.specs.declared.operators.PrefixOperator.TheVariants as prefix
use Rattle.dae_tree.specs.declared.operators.PostfixOperator.{PostfixOperator}
use Rattle.dae_tree.specs.declared.operators.PostfixOperator.TheVariants as postfix
use Rattle.dae_tree.specs.declared.operators.MemberOperator.{MemberOperator}
use Rattle.dae_tree.specs.declared.operators.MemberOperator.TheVariants as signs
use Rattle.dae_program.specs.Trees as program
use Rattle.dae_types_kinds.specs.Tables.{Tables, found_name}
use Rattle.dae_types_kinds.specs.Types.{int_id, shape_of, pointee}
use Rattle.dae_types_kinds.specs.Values.{Typed, addressed, known_and, known_or, component_in, owner, library_of, joined, operator_of}
use Rattle.dae_types_rules.specs.Plan.{CheckPlan, OfName, OfMember}
use Rattle.dae_types_plans.specs.Steps.{value_at, name_at, condition_at, marked_name, address_at, star_at, step_at, promoted_of, prefix_at, postfix_at, operands_at, combination_of, and_at, or_at, binary_at, index_at, access_at, sizeof_at, cast_at, assignment_at, conditional_at, comma_at, passed, parameter_type, argument_at, call_at, call_by, routine_in, call_of}
use Rattle.std.specs.Prelude.{IfOk}
use Rattle.dae_types_kinds.specs.declared.rules.Breach.{Breach}
use Rattle.dae_types_rules.specs.Sites.{AtBranches}
use Rattle.dae_types_rules.specs.Plan.{ask_all, check_of, both}
use Rattle.dae_types_kinds.specs.Values.{conditional_as, starred, valued_by, negated, complemented, inverted, combined_as, subscripted, member_by, converted, comma}
use Rattle.dae_sizes.specs.Written.{evaluated_of, ticks}
use Rattle.dae_void_laws.proofs.Laws.{bind}
use Rattle.dae_sizes.proofs.Within.{Grown, Got, Within, none, added, same, grows, grown_more, fewer, weaker, unmeasured, node_stays, node_reads, maps_reads, asks_within, both_within, chain_within, nothing_within, looks_within}
use Rattle.dae_sizes.proofs.Weighing.{Joins, joined_grown}
use Rattle.dae_sizes.proofs.Steps.{unless_within, node_keeps, marked_name_grown, with_call_grown}
use Rattle.dae_sizes.proofs.Ticks.{room_least, value_ticks, place_ticks, placed, list_ticks, ticks-append, valued_ticks, converted_ticks, valued_got, named_got, combined_ticks, subscripted_ticks, starred_ticks, negated_ticks, complemented_ticks, inverted_ticks, dot_ticks, arrow_ticks, assigned_ticks, updated_ticks, stepped_ticks, conditional_got, called_ticks}

passed_ticks : (p : Place) (s : Tables) (x : Typed) (t : Option ℕ) → ticks (passed p s x t) ≤ 1 + ticks x.tree
passed_ticks p s x None = omega arith
passed_ticks p s x (Some t) = converted_ticks p s x t

-- an expression, and a value, of at most so many nodes
abbrev pub Placed : List (List ℕ) → ℕ → ℕ → CheckPlan Typed → Type 0
Placed ls n w m = Within ls place_ticks n w m

abbrev pub Valued : List (List ℕ) → ℕ → ℕ → CheckPlan Typed → Type 0
Valued ls n w m = Within ls value_ticks n w m

-- the branches have one type, or a rule is broken
branches_asked : (p : Place) (w : ℕ) (s : Tables) (x : Typed × (Typed × Typed)) (t : Option (Tables × ℕ)) → Joins s t → 1 + ticks x.0.tree ≤ w →
    IfOk {E = Breach} (ask_all (AtBranches p t ∷ []) (Ok (conditional_as p x.0 x.1.0 x.1.1 t s))) (Got place_ticks 0 (3 + w) s)
unfolding ask_all
branches_asked p w s x None h l = tt
branches_asked p w s x (Some t) h l = let g = conditional_got p x.0 x.1.0 x.1.1 t s h in record { grown = g.grown; small = let k = g.small in omega (arith, l, k) }

module _ {ls : List (List ℕ)} where
  pub value_few : {n w : ℕ} {m : CheckPlan Typed} (p : Place) → Placed ls n w m → Valued ls n w (value_at p m)
  value_few p h = node_stays h (λ s x e l. let g = valued_got p s x x.category in record { grown = g.grown; small = let k = g.small in omega (arith, l, k) })

  pub name_few : (n : Name) → Placed ls 0 3 (name_at n)
  name_few n = unless_within (OfName n.number) (node_stays nothing_within (λ s x e l. named_got n.place (found_name s n.number) s))

  pub condition_few : {n w : ℕ} {m : CheckPlan Typed} (p : Place) → Placed ls n w m → Valued ls n w (condition_at p m)
  condition_few p h = asks_within (value_few p h)

  address_few : {n w : ℕ} {m : CheckPlan Typed} (p : Place) (name : Option Name) → Placed ls n w m → Placed ls n (3 + w) (address_at p name m)
  address_few p name h = node_stays h (λ s x e l. record {
    grown = grown_more (omega arith) (grows (marked_name_grown name s) (same 0 (marked_name name s) (addressed x (marked_name name s)).0 refl refl refl));
    small = let r = room_least x.category in omega (arith, l, r);
  })

  star_few : {n w : ℕ} {m : CheckPlan Typed} (p : Place) → Valued ls n w m → Placed ls n (3 + w) (star_at p m)
  star_few {n} {w} p h = node_reads h (λ s x e l. let g = starred_ticks x (pointee (shape_of s x.type_id)) in placed (3 + w) (starred x (pointee (shape_of s x.type_id))) (omega (arith, l, g)))

  step_few : {n w : ℕ} {m : CheckPlan Typed} (p : Place) (down new : Bool) → Placed ls n w m → Placed ls n (3 + w) (step_at p down new m)
  step_few p down new h = node_reads (asks_within (asks_within h)) (λ s x e l. let g = stepped_ticks p s down new x in let r = room_least x.category in omega (arith, l, g, r))

  pub prefix_few : {n w : ℕ} {m : CheckPlan Typed} (p q : Place) (o : PrefixOperator) (name : Option Name) → Placed ls n w m → Placed ls n (3 + w) (prefix_at p q o name m)
  prefix_few p q prefix.Increment name h = step_few p false true h
  prefix_few p q prefix.Decrement name h = step_few p true true h
  prefix_few p q prefix.Address name h = address_few p name h
  prefix_few p q prefix.Indirection name h = star_few p (value_few q h)
  prefix_few {n} {w} p q prefix.Plus name h = maps_reads (asks_within (asks_within (value_few q h))) (λ s x e l. let g = valued_ticks x.tree (promoted_of s x) x.known in placed (3 + w) (valued_by x.tree (promoted_of s x) x.known) (omega (arith, l, g)))
  prefix_few {n} {w} p q prefix.Minus name h = maps_reads (asks_within (asks_within (value_few q h))) (λ s x e l. let g = negated_ticks p x (promoted_of s x) in placed (3 + w) (negated p x (promoted_of s x)) (omega (arith, l, g)))
  prefix_few {n} {w} p q prefix.Complement name h = maps_reads (asks_within (asks_within (value_few q h))) (λ s x e l. let g = complemented_ticks p x (promoted_of s x) in placed (3 + w) (complemented p x (promoted_of s x)) (omega (arith, l, g)))
  prefix_few {n} {w} p q prefix.Not name h = maps_reads (asks_within (value_few q h)) (λ s x e l. let g = inverted_ticks p x in placed (3 + w) (inverted p x) (omega (arith, l, g)))

  pub postfix_few : {n w : ℕ} {m : CheckPlan Typed} (p : Place) (o : PostfixOperator) → Placed ls n w m → Placed ls n (3 + w) (postfix_at p o m)
  postfix_few p postfix.Increment h = step_few p false false h
  postfix_few p postfix.Decrement h = step_few p true false h

  operands_few : {n w : ℕ} {m : CheckPlan (Typed × Typed)} (p : Place) (o : BinaryOperator) → Within ls (added value_ticks value_ticks) n w m → Placed ls n (3 + w) (operands_at p o m)
  operands_few {n} {w} p o h = node_reads (asks_within h) (λ s x e l. let g = combined_ticks p s o x.0 x.1 (combination_of s o x) in placed (3 + w) (combined_as p s o x.0 x.1 (combination_of s o x)) (omega (arith, l, g)))

  and_few : {n w : ℕ} {m : CheckPlan (Typed × Typed)} (p q : Place) → Within ls (added value_ticks none) n w m → Placed ls n (3 + w) (and_at p q m)
  and_few {n} {w} p q h = maps_reads (asks_within (asks_within h)) (λ s x e l. let g = valued_ticks (program.And p x.0.tree x.1.tree) int_id (known_and x.0.known x.1.known) in placed (3 + w) (valued_by (program.And p x.0.tree x.1.tree) int_id (known_and x.0.known x.1.known)) (omega (arith, l, g)))

  or_few : {n w : ℕ} {m : CheckPlan (Typed × Typed)} (p q : Place) → Within ls (added value_ticks none) n w m → Placed ls n (3 + w) (or_at p q m)
  or_few {n} {w} p q h = maps_reads (asks_within (asks_within h)) (λ s x e l. let g = valued_ticks (program.Or p x.0.tree x.1.tree) int_id (known_or x.0.known x.1.known) in placed (3 + w) (valued_by (program.Or p x.0.tree x.1.tree) int_id (known_or x.0.known x.1.known)) (omega (arith, l, g)))

  pub binary_few : {n k : ℕ} {m l : CheckPlan Typed} (a b : ℕ) (p q : Place) (o : BinaryOperator) → Valued ls n (3 * a) m → Valued ls k (3 * b) l → Placed ls (n + k) (3 * (1 + evaluated_of o a b)) (binary_at p q o (both m l))
  binary_few a b p q binary.AndAnd h g = weaker (omega arith) (omega arith) (and_few p q (both_within h (unmeasured g)))
  binary_few a b p q binary.OrOr h g = weaker (omega arith) (omega arith) (or_few p q (both_within h (unmeasured g)))
  binary_few a b p q o h g = weaker (omega arith) (omega arith) (operands_few p o (both_within h g))

  pub index_few : {n w : ℕ} {m : CheckPlan (Typed × Typed)} (p q : Place) → Within ls (added value_ticks value_ticks) n w m → Placed ls n (3 + w) (index_at p q m)
  index_few {n} {w} p q h = node_reads (asks_within (asks_within h)) (λ s x e l. let g = subscripted_ticks p s x.0 x.1 (combination_of s binary.Add x) in placed (3 + w) (subscripted p s x.0 x.1 (combination_of s binary.Add x)) (omega (arith, l, g)))

  pub access_few : {n w : ℕ} {m : CheckPlan Typed} (p : Place) (o : MemberOperator) (name : Name) → Placed ls n w m → Placed ls n (3 + w) (access_at p o name m)
  access_few p signs.Dot name h = unless_within (OfMember name.number) (node_reads h (λ s x e l. let g = dot_ticks p s x (component_in s (owner signs.Dot s x) name.number) in omega (arith, l, g)))
  access_few {n} {w} p signs.Arrow name h = unless_within (OfMember name.number) (node_reads (value_few p h) (λ s x e l. let g = arrow_ticks p s x (component_in s (owner signs.Arrow s x) name.number) in placed (3 + w) (member_by p s signs.Arrow x (component_in s (owner signs.Arrow s x) name.number)) (omega (arith, l, g))))

  pub sizeof_few : {n : ℕ} {m : CheckPlan ℕ} (p : Place) → Within ls none n 0 m → Placed ls n 3 (sizeof_at p m)
  sizeof_few p h = node_reads h (λ s x e l. omega arith)

  pub cast_few : {n w : ℕ} {m : CheckPlan (ℕ × Typed)} (p : Place) → Within ls (added none value_ticks) n w m → Placed ls n (3 + w) (cast_at p m)
  cast_few {n} {w} p h = node_reads h (λ s x e l. let g = converted_ticks p s x.1 x.0 in placed (3 + w) (converted p s x.1 x.0) (omega (arith, l, g)))

  pub assignment_few : {n w : ℕ} {m : CheckPlan (Typed × Typed)} (p : Place) (o : AssignmentOperator) → Within ls (added place_ticks value_ticks) n w m → Placed ls n (3 + w) (assignment_at p o m)
  assignment_few p assignment.Assign h = node_reads (asks_within h) (λ s x e l. let g = assigned_ticks p s x.0 x.1 in let r = room_least x.0.category in omega (arith, l, g, r))
  assignment_few p o h = node_reads (asks_within (asks_within h)) (λ s x e l. let g = updated_ticks p s (operator_of o) x.0 x.1 in let r = room_least x.0.category in omega (arith, l, g, r))

  pub conditional_few : {n w : ℕ} {m : CheckPlan (Typed × (Typed × Typed))} (p : Place) → Within ls (added value_ticks none) n w m → Placed ls n (3 + w) (conditional_at p m)
  conditional_few {n} {w} {m} p h = record {
    comes = λ s e.
        bind (check_of m s) (λ x. ask_all (AtBranches p (joined x.0 x.1.1.0 x.1.1.1) ∷ []) (Ok (conditional_as p x.1.0 x.1.1.0 x.1.1.1 (joined x.0 x.1.1.0 x.1.1.1) x.0))) (Got (added value_ticks none) n w s) (Got place_ticks n (3 + w) s) (h.comes s e)
        (λ x q. by s (ask_all (AtBranches p (joined x.0 x.1.1.0 x.1.1.1) ∷ []) (Ok (conditional_as p x.1.0 x.1.1.0 x.1.1.1 (joined x.0 x.1.1.0 x.1.1.1) x.0))) x.0 q.grown
        (branches_asked p w x.0 x.1 (joined x.0 x.1.1.0 x.1.1.1) (joined_grown x.0 x.1.1.0 x.1.1.1) (let l = q.small in omega (arith, l))));
  } where
    by : (s : Tables) (r : Result (Tables × Typed) Breach) (t : Tables) → Grown n s t → IfOk r (Got place_ticks 0 (3 + w) t) → IfOk r (Got place_ticks n (3 + w) s)
    by s (Ok y) t g q = record { grown = grown_more (omega arith) (grows g q.grown); small = q.small }
    by s (Err f) t g q = tt

  pub comma_few : {n w : ℕ} {m : CheckPlan (Typed × Typed)} → Within ls (added value_ticks value_ticks) n w m → Placed ls n (3 + w) (comma_at m)
  comma_few {n} {w} h = maps_reads h (λ s x e l. placed (3 + w) (comma x.0 x.1) (omega (arith, l)))

  -- ---- calls

  pub argument_few : {n w : ℕ} {m : CheckPlan Typed} (p : Place) (f : Option ℕ) (i : ℕ) (done : List program.Expression) → Valued ls n w m → Within ls list_ticks n (list_ticks done + w) (argument_at p f i done m)
  argument_few p f i done h = node_reads h (λ s x e l.
      let g = passed_ticks p s x (parameter_type s f i) in
      let k = ticks-append done (passed p s x (parameter_type s f i) ∷ []) in omega (arith, l, g, k))

  call_at_few : (p : Place) (n : Name) (f given : ℕ) → Within ls none 0 0 (call_at p n f given)
  call_at_few p n f given = node_keeps nothing_within (λ s x. with_call_grown f n.place (library_of (slice_get s.routines f)) s)

  call_by_few : {n k w v : ℕ} {m : CheckPlan Typed} {args : CheckPlan (List program.Expression)} (p q : Place) (name : Name) (given : ℕ) (f : Option ℕ) → Placed ls n w m → Within ls list_ticks k v args → Placed ls (n + k) (3 + v) (call_by p q name given f m args)
  call_by_few {n} p q name given (Some f) h g =
      fewer (omega arith) (chain_within (call_at_few p name f given) (λ x l. maps_reads g (λ s es e l. let j = called_ticks p s f es in omega (arith, l, j))))
  call_by_few p q name given None h g = node_reads (both_within (value_few q h) g) (λ s x e l. omega arith)

  pub call_few : {n k w v : ℕ} {m : CheckPlan Typed} {args : Option ℕ → CheckPlan (List program.Expression)} (p q : Place) (name : Option Name) (given : ℕ) → Placed ls n w m → ((f : Option ℕ) → Within ls list_ticks k v (args f)) → Placed ls (n + k) (3 + v) (call_of p q name given m args)
  call_few p q None given h g = node_reads (both_within (value_few q h) (g None)) (λ s x e l. omega arith)
  call_few p q (Some name) given h g = fewer (omega arith) (chain_within (looks_within {μ = none} {w = 0} (λ s. routine_in (found_name s name.number)) (λ s e. omega arith)) (λ f l. call_by_few p q name given f h (g f)))
