-- Steps that depend on an operator: a part is gone through first, and then the step on what it gives.
use Rattle.std.proofs.Common.{◌≡◌, ◌∙◌, Option, Result, Ok, Err, refl, subst, sym}
use Rattle.dae_base.specs.declared.Place.{Place}
use Rattle.dae_tree.specs.declared.expressions.Name.{Name}
use Rattle.dae_tree.specs.declared.operators.BinaryOperator.{BinaryOperator}
use Rattle.dae_tree.specs.declared.operators.BinaryOperator.TheVariants as binary
use Rattle.dae_tree.specs.declared.operators.AssignmentOperator.{AssignmentOperator}
use Rattle.dae_tree.specs.declared.operators.AssignmentOperator.TheVariants as assignment
use Rattle.dae_tree.specs.declared.operators.PrefixOperator.{PrefixOperator}
use Rattle.dae_tree.specs.declared.operators.PrefixOperator.TheVariants as prefix
use Rattle.dae_types_kinds.specs.declared.rules.Breach.{Breach}
use Rattle.dae_types_kinds.specs.declared.rules.CheckError.{CheckError}
use Rattle.dae_types_kinds.specs.declared.rules.CheckError.TheVariants as errors
use Rattle.dae_types_kinds.specs.Tables.{Tables}
use Rattle.dae_types_kinds.specs.Values.{Typed}
use Rattle.dae_types_rules.specs.Plan.{CheckPlan, pure, both, Gives, Fails, check_of}
use Rattle.dae_types_plans.specs.Steps.{assignment_at, binary_at, prefix_at}

-- what a step does on a part that gives this
abbrev Onward : {A : Type 0} → (CheckPlan A → CheckPlan Typed) → Result (Tables × A) Breach → Result (Tables × Typed) Breach
Onward k (Ok x) = check_of (k (pure x.1)) x.0
Onward k (Err f) = Err f

-- a step goes through its part first
abbrev GoesOn : {A : Type 0} → (CheckPlan A → CheckPlan Typed) → Type 1
GoesOn {A} k = (m : CheckPlan A) (s : Tables) (r : Result (Tables × A) Breach) → check_of m s ≡ r → check_of (k m) s ≡ Onward k r

given : {A X : Type 0} (k : CheckPlan A → CheckPlan Typed) → GoesOn k → (see : X → Tables × Typed) (r : Result X CheckError) (m : CheckPlan A) (s : Tables) (x : Tables × A) → check_of m s ≡ Ok x → Gives see r (check_of (k (pure x.1)) x.0) → Gives see r (check_of (k m) s)
given k on see r m s x h g = rw (on m s (Ok x) h) g

failed : {A : Type 0} (k : CheckPlan A → CheckPlan Typed) → GoesOn k → (e : CheckError) (m : CheckPlan A) (s : Tables) → Fails e (check_of m s) → Fails e (check_of (k m) s)
failed k on errors.Memory m s h = h
failed k on errors.Unsound m s h = h
failed k on (errors.Rule f) m s h = on m s (Err f) h

prefix_goes_on : (p q : Place) (o : PrefixOperator) (n : Option Name) → GoesOn (prefix_at p q o n)
prefix_goes_on p q prefix.Increment n m s (Ok x) h = rw h refl
prefix_goes_on p q prefix.Decrement n m s (Ok x) h = rw h refl
prefix_goes_on p q prefix.Address n m s (Ok x) h = rw h refl
prefix_goes_on p q prefix.Indirection n m s (Ok x) h = rw h refl
prefix_goes_on p q prefix.Plus n m s (Ok x) h = rw h refl
prefix_goes_on p q prefix.Minus n m s (Ok x) h = rw h refl
prefix_goes_on p q prefix.Complement n m s (Ok x) h = rw h refl
prefix_goes_on p q prefix.Not n m s (Ok x) h = rw h refl
prefix_goes_on p q prefix.Increment n m s (Err f) h = rw h refl
prefix_goes_on p q prefix.Decrement n m s (Err f) h = rw h refl
prefix_goes_on p q prefix.Address n m s (Err f) h = rw h refl
prefix_goes_on p q prefix.Indirection n m s (Err f) h = rw h refl
prefix_goes_on p q prefix.Plus n m s (Err f) h = rw h refl
prefix_goes_on p q prefix.Minus n m s (Err f) h = rw h refl
prefix_goes_on p q prefix.Complement n m s (Err f) h = rw h refl
prefix_goes_on p q prefix.Not n m s (Err f) h = rw h refl

-- `&&` and `||` stand apart, and the other operators are alike
binary_goes_on : (p q : Place) (o : BinaryOperator) → GoesOn (binary_at p q o)
binary_goes_on p q binary.Multiply m s (Ok x) h = rw h refl
binary_goes_on p q binary.Divide m s (Ok x) h = rw h refl
binary_goes_on p q binary.Remainder m s (Ok x) h = rw h refl
binary_goes_on p q binary.Add m s (Ok x) h = rw h refl
binary_goes_on p q binary.Subtract m s (Ok x) h = rw h refl
binary_goes_on p q binary.ShiftLeft m s (Ok x) h = rw h refl
binary_goes_on p q binary.ShiftRight m s (Ok x) h = rw h refl
binary_goes_on p q binary.Less m s (Ok x) h = rw h refl
binary_goes_on p q binary.Greater m s (Ok x) h = rw h refl
binary_goes_on p q binary.AtMost m s (Ok x) h = rw h refl
binary_goes_on p q binary.AtLeast m s (Ok x) h = rw h refl
binary_goes_on p q binary.Equal m s (Ok x) h = rw h refl
binary_goes_on p q binary.NotEqual m s (Ok x) h = rw h refl
binary_goes_on p q binary.And m s (Ok x) h = rw h refl
binary_goes_on p q binary.Xor m s (Ok x) h = rw h refl
binary_goes_on p q binary.Or m s (Ok x) h = rw h refl
binary_goes_on p q binary.AndAnd m s (Ok x) h = rw h refl
binary_goes_on p q binary.OrOr m s (Ok x) h = rw h refl
binary_goes_on p q binary.Multiply m s (Err f) h = rw h refl
binary_goes_on p q binary.Divide m s (Err f) h = rw h refl
binary_goes_on p q binary.Remainder m s (Err f) h = rw h refl
binary_goes_on p q binary.Add m s (Err f) h = rw h refl
binary_goes_on p q binary.Subtract m s (Err f) h = rw h refl
binary_goes_on p q binary.ShiftLeft m s (Err f) h = rw h refl
binary_goes_on p q binary.ShiftRight m s (Err f) h = rw h refl
binary_goes_on p q binary.Less m s (Err f) h = rw h refl
binary_goes_on p q binary.Greater m s (Err f) h = rw h refl
binary_goes_on p q binary.AtMost m s (Err f) h = rw h refl
binary_goes_on p q binary.AtLeast m s (Err f) h = rw h refl
binary_goes_on p q binary.Equal m s (Err f) h = rw h refl
binary_goes_on p q binary.NotEqual m s (Err f) h = rw h refl
binary_goes_on p q binary.And m s (Err f) h = rw h refl
binary_goes_on p q binary.Xor m s (Err f) h = rw h refl
binary_goes_on p q binary.Or m s (Err f) h = rw h refl
binary_goes_on p q binary.AndAnd m s (Err f) h = rw h refl
binary_goes_on p q binary.OrOr m s (Err f) h = rw h refl

assignment_goes_on : (p : Place) (o : AssignmentOperator) → GoesOn (assignment_at p o)
assignment_goes_on p assignment.Assign m s (Ok x) h = rw h refl
assignment_goes_on p assignment.Multiply m s (Ok x) h = rw h refl
assignment_goes_on p assignment.Divide m s (Ok x) h = rw h refl
assignment_goes_on p assignment.Remainder m s (Ok x) h = rw h refl
assignment_goes_on p assignment.Add m s (Ok x) h = rw h refl
assignment_goes_on p assignment.Subtract m s (Ok x) h = rw h refl
assignment_goes_on p assignment.ShiftLeft m s (Ok x) h = rw h refl
assignment_goes_on p assignment.ShiftRight m s (Ok x) h = rw h refl
assignment_goes_on p assignment.And m s (Ok x) h = rw h refl
assignment_goes_on p assignment.Xor m s (Ok x) h = rw h refl
assignment_goes_on p assignment.Or m s (Ok x) h = rw h refl
assignment_goes_on p assignment.Assign m s (Err f) h = rw h refl
assignment_goes_on p assignment.Multiply m s (Err f) h = rw h refl
assignment_goes_on p assignment.Divide m s (Err f) h = rw h refl
assignment_goes_on p assignment.Remainder m s (Err f) h = rw h refl
assignment_goes_on p assignment.Add m s (Err f) h = rw h refl
assignment_goes_on p assignment.Subtract m s (Err f) h = rw h refl
assignment_goes_on p assignment.ShiftLeft m s (Err f) h = rw h refl
assignment_goes_on p assignment.ShiftRight m s (Err f) h = rw h refl
assignment_goes_on p assignment.And m s (Err f) h = rw h refl
assignment_goes_on p assignment.Xor m s (Err f) h = rw h refl
assignment_goes_on p assignment.Or m s (Err f) h = rw h refl

-- a step on parts that give the same
follows : {A X : Type 0} (k : CheckPlan A → CheckPlan Typed) → GoesOn k → (see : X → Tables × Typed) (r : Result X CheckError) (m n : CheckPlan A) (s t : Tables) → check_of m s ≡ check_of n t → Gives see r (check_of (k n) t) → Gives see r (check_of (k m) s)
follows k on see r m n s t h g = subst (λ y. Gives see r y) (on n t (check_of n t) refl ∙ sym (on m s (check_of n t) h)) g

-- ---- two parts, of which the first gives this, or fails

first_given : {A B : Type 0} (m : CheckPlan A) (n : CheckPlan B) (s : Tables) (x : Tables × A) → check_of m s ≡ Ok x → check_of (both m n) s ≡ check_of (both (pure x.1) n) x.0
first_given m n s x h = rw h refl

second_given : {A B : Type 0} (x : A) (n : CheckPlan B) (s : Tables) (y : Tables × B) → check_of n s ≡ Ok y → check_of (both (pure x) n) s ≡ Ok (y.0, (x, y.1))
second_given x n s y h = rw h refl

first_failed : {A B : Type 0} (e : CheckError) (m : CheckPlan A) (n : CheckPlan B) (s : Tables) → Fails e (check_of m s) → Fails e (check_of (both m n) s)
first_failed errors.Memory m n s h = h
first_failed errors.Unsound m n s h = h
first_failed (errors.Rule f) m n s h = rw h refl

second_failed : {A B : Type 0} (e : CheckError) (x : A) (n : CheckPlan B) (s : Tables) → Fails e (check_of n s) → Fails e (check_of (both (pure x) n) s)
second_failed errors.Memory x n s h = h
second_failed errors.Unsound x n s h = h
second_failed (errors.Rule f) x n s h = rw h refl

-- ---- for the operators at hand, where places and names are found by functions

pub prefix_given : {X : Type 0} (p q at : Place) (o : PrefixOperator) (n found : Option Name) (see : X → Tables × Typed) (r : Result X CheckError) (m : CheckPlan Typed) (s : Tables) (x : Tables × Typed) → at ≡ q → found ≡ n → check_of m s ≡ Ok x → Gives see r (check_of (prefix_at p at o found (pure x.1)) x.0) → Gives see r (check_of (prefix_at p q o n m) s)
prefix_given p q at o n found see r m s x e d h g =
    subst (λ (k : Place). Gives see r (check_of (prefix_at p k o n m) s)) e (subst (λ (j : Option Name). Gives see r (check_of (prefix_at p at o j m) s)) d (given (prefix_at p at o found) (prefix_goes_on p at o found) see r m s x h g))

pub prefix_failed : (p q : Place) (o : PrefixOperator) (n : Option Name) (e : CheckError) (m : CheckPlan Typed) (s : Tables) → Fails e (check_of m s) → Fails e (check_of (prefix_at p q o n m) s)
prefix_failed p q o n e m s h = failed (prefix_at p q o n) (prefix_goes_on p q o n) e m s h

-- an operator behind its first operand
pub binary_follows : {X : Type 0} (p q at : Place) (o : BinaryOperator) (see : X → Tables × Typed) (r : Result X CheckError) (m n : CheckPlan Typed) (s : Tables) (x : Tables × Typed) → at ≡ p → check_of m s ≡ Ok x → Gives see r (check_of (binary_at at q o (both (pure x.1) n)) x.0) → Gives see r (check_of (binary_at p q o (both m n)) s)
binary_follows p q at o see r m n s x e h g =
    subst (λ (k : Place). Gives see r (check_of (binary_at k q o (both m n)) s)) e (follows (binary_at at q o) (binary_goes_on at q o) see r (both m n) (both (pure x.1) n) s x.0 (first_given m n s x h) g)

pub binary_stops : (p q : Place) (o : BinaryOperator) (e : CheckError) (m n : CheckPlan Typed) (s : Tables) → Fails e (check_of m s) → Fails e (check_of (binary_at p q o (both m n)) s)
binary_stops p q o e m n s h = failed (binary_at p q o) (binary_goes_on p q o) e (both m n) s (first_failed e m n s h)

pub binary_given : {X : Type 0} (p q by : Place) (o : BinaryOperator) (see : X → Tables × Typed) (r : Result X CheckError) (x : Typed) (n : CheckPlan Typed) (s : Tables) (y : Tables × Typed) → by ≡ q → check_of n s ≡ Ok y → Gives see r (check_of (binary_at p by o (pure (x, y.1))) y.0) → Gives see r (check_of (binary_at p q o (both (pure x) n)) s)
binary_given p q by o see r x n s y e h g =
    subst (λ (k : Place). Gives see r (check_of (binary_at p k o (both (pure x) n)) s)) e (given (binary_at p by o) (binary_goes_on p by o) see r (both (pure x) n) s (y.0, (x, y.1)) (second_given x n s y h) g)

pub binary_failed : (p q : Place) (o : BinaryOperator) (e : CheckError) (x : Typed) (n : CheckPlan Typed) (s : Tables) → Fails e (check_of n s) → Fails e (check_of (binary_at p q o (both (pure x) n)) s)
binary_failed p q o e x n s h = failed (binary_at p q o) (binary_goes_on p q o) e (both (pure x) n) s (second_failed e x n s h)

-- an assignment behind its first operand
pub assignment_follows : {X : Type 0} (p at : Place) (o : AssignmentOperator) (see : X → Tables × Typed) (r : Result X CheckError) (m n : CheckPlan Typed) (s : Tables) (x : Tables × Typed) → at ≡ p → check_of m s ≡ Ok x → Gives see r (check_of (assignment_at at o (both (pure x.1) n)) x.0) → Gives see r (check_of (assignment_at p o (both m n)) s)
assignment_follows p at o see r m n s x e h g =
    subst (λ (k : Place). Gives see r (check_of (assignment_at k o (both m n)) s)) e (follows (assignment_at at o) (assignment_goes_on at o) see r (both m n) (both (pure x.1) n) s x.0 (first_given m n s x h) g)

pub assignment_stops : (p : Place) (o : AssignmentOperator) (e : CheckError) (m n : CheckPlan Typed) (s : Tables) → Fails e (check_of m s) → Fails e (check_of (assignment_at p o (both m n)) s)
assignment_stops p o e m n s h = failed (assignment_at p o) (assignment_goes_on p o) e (both m n) s (first_failed e m n s h)

pub assignment_given : {X : Type 0} (p : Place) (o : AssignmentOperator) (see : X → Tables × Typed) (r : Result X CheckError) (x : Typed) (n : CheckPlan Typed) (s : Tables) (y : Tables × Typed) → check_of n s ≡ Ok y → Gives see r (check_of (assignment_at p o (pure (x, y.1))) y.0) → Gives see r (check_of (assignment_at p o (both (pure x) n)) s)
assignment_given p o see r x n s y h g = given (assignment_at p o) (assignment_goes_on p o) see r (both (pure x) n) s (y.0, (x, y.1)) (second_given x n s y h) g

pub assignment_failed : (p : Place) (o : AssignmentOperator) (e : CheckError) (x : Typed) (n : CheckPlan Typed) (s : Tables) → Fails e (check_of n s) → Fails e (check_of (assignment_at p o (both (pure x) n)) s)
assignment_failed p o e x n s h = failed (assignment_at p o) (assignment_goes_on p o) e (both (pure x) n) s (second_failed e x n s h)
