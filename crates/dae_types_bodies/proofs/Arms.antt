-- Arms and statements behind others.
use Rattle.std.proofs.Common.{◌≡◌, ℕ, List, [], ◌∷◌, ◌++◌, Option, Bool, true, false, arith, length, nat_eq, refl, ap, sym, ◌∙◌}
use Rattle.std.proofs.lemmas.Bool.Decides.{nat_tests}
use Rattle.dae_program.specs.Trees as program
use Rattle.dae_program.specs.Views.{statement_then, view_statements}
use Rattle.dae_program.specs.declared.statements.Arm.{Arm}
use Rattle.dae_program.specs.declared.statements.Statement.{Statement}
use Rattle.dae_program.specs.declared.statements.Statement.TheVariants as statement
use Rattle.dae_types_file_plans.specs.Statements.{Armed, behind_all, is_done, with_label, with_statement}
use Rattle.dae_types_bodies.specs.Arms.{arm_of, armed, view_armed}

pub arms_push : (xs : List Arm) (a : Arm) → armed (xs ++ a ∷ []) ≡ armed xs ++ view_armed a ∷ []
arms_push [] a = refl
arms_push (x ∷ xs) a = ap (λ ys. view_armed x ∷ ys) (arms_push xs a)

pub label_at_the_end : (l : Option ℕ) (xs : List Armed) (a : Armed) → with_label l (xs ++ a ∷ []) ≡ xs ++ with_label l (a ∷ [])
label_at_the_end l [] a = refl
label_at_the_end l (x ∷ []) a = refl
label_at_the_end l (x ∷ y ∷ xs) a = ap (λ ys. x ∷ ys) (label_at_the_end l (y ∷ xs) a)

pub statement_at_the_end : (s : program.Statements) (xs : List Armed) (a : Armed) → with_statement s (xs ++ a ∷ []) ≡ xs ++ with_statement s (a ∷ [])
statement_at_the_end s [] a = refl
statement_at_the_end s (x ∷ []) a = refl
statement_at_the_end s (x ∷ y ∷ xs) a = ap (λ ys. x ∷ ys) (statement_at_the_end s (y ∷ xs) a)

-- one statement, and others behind it
behind_one : (s : Statement) (k x : program.Statements) → behind_all (statement_then s k) x ≡ statement_then s (behind_all k x)
behind_one (statement.Evaluate p e) k x = refl
behind_one (statement.Initialise p offset size items) k x = refl
behind_one (statement.Print p xs pieces) k x = refl
behind_one (statement.If' p e b s c t) k x = refl
behind_one (statement.Loop' p test b body step) k x = refl
behind_one (statement.Do' p b body test) k x = refl
behind_one (statement.Switch' p e b arms) k x = refl
behind_one (statement.Break p) k x = refl
behind_one (statement.Continue p) k x = refl
behind_one (statement.Return p e) k x = refl

pub statements_append : (xs ys : List Statement) → view_statements (xs ++ ys) ≡ behind_all (view_statements xs) (view_statements ys)
statements_append [] ys = refl
statements_append (s ∷ xs) ys = ap (statement_then s) (statements_append xs ys) ∙ sym (behind_one s (view_statements xs) (view_statements ys))

-- a list of statements is done where it is empty
pub done_where_empty : (xs : List Statement) → is_done (view_statements xs) ≡ nat_eq (length xs) 0
done_where_empty [] = refl
done_where_empty (statement.Evaluate p e ∷ xs) = grind (arith, nat_tests)
done_where_empty (statement.Initialise p offset size items ∷ xs) = grind (arith, nat_tests)
done_where_empty (statement.Print p es pieces ∷ xs) = grind (arith, nat_tests)
done_where_empty (statement.If' p e b s c t ∷ xs) = grind (arith, nat_tests)
done_where_empty (statement.Loop' p test b body step ∷ xs) = grind (arith, nat_tests)
done_where_empty (statement.Do' p b body test ∷ xs) = grind (arith, nat_tests)
done_where_empty (statement.Switch' p e b arms ∷ xs) = grind (arith, nat_tests)
done_where_empty (statement.Break p ∷ xs) = grind (arith, nat_tests)
done_where_empty (statement.Continue p ∷ xs) = grind (arith, nat_tests)
done_where_empty (statement.Return p e ∷ xs) = grind (arith, nat_tests)

arms_behind : (xs : List Arm) (a : Arm) (l : Option ℕ) → armed (xs ++ a ∷ []) ++ arm_of l ∷ [] ≡ armed xs ++ view_armed a ∷ arm_of l ∷ []
arms_behind [] a l = refl
arms_behind (x ∷ xs) a l = ap (λ ys. view_armed x ∷ ys) (arms_behind xs a l)

-- an arm, and one with one label behind it
pub both_behind : (xs ys : List Arm) (a : Arm) (l : Option ℕ) → ys ≡ xs ++ a ∷ [] → armed ys ++ arm_of l ∷ [] ≡ armed xs ++ view_armed a ∷ arm_of l ∷ []
both_behind xs ys a l is = ap (λ zs. armed zs ++ arm_of l ∷ []) is ∙ arms_behind xs a l
