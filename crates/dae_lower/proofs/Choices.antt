-- The forms of `&&`, `||` and `?:` follow their evaluation.
use Rattle.std.proofs.Common.{◌≡◌, ℕ, ◌+◌, ◌<◌, ◌≤◌, inl, refl, arith}
use Rattle.std.proofs.lemmas.Bool.{or_parts}
use Rattle.dae_base.specs.declared.Place.{Place}
use Rattle.dae_meaning.specs.Worlds.{World}
use Rattle.dae_meaning.specs.Variables.{Env}
use Rattle.dae_ir.specs.Form.{Calls, Program}
use Rattle.dae_ir.specs.Classes.{VariableSet}
use Rattle.dae_ir.specs.declared.form.Operand.{Operand}
use Rattle.dae_ir.specs.declared.form.Operand.TheVariants.{Variable, Number}
use Rattle.dae_program.specs.Trees as tree
use Rattle.dae_program.specs.Trees.{Expression, Target, Expressions}
use Rattle.dae_program.specs.Outcomes.{Outcome, Gives, ◌⟫◌}
use Rattle.dae_program.specs.Expressions.{ProgramSetup, evaluate as value, decide as decided}
use Rattle.dae_lower.specs.Lowering.{Made, nothing, ◌≫◌, or, nowhere, assigned, Condition, branches, gives, Links, ways}
use Rattle.dae_lower.proofs.Relation.{Kept, Lasts}
use Rattle.dae_lower.proofs.Chains.{Follows, paid, sooner, spared, weaker, knowing, chain, recast, given_on}
use Rattle.dae_lower.proofs.Leaves.{Holding, nothing_follows}
use Rattle.dae_lower.proofs.Branches.{Deciding, Always, gives_follows, branches_follow}
use Rattle.dae_lower.proofs.Valued.{AsValue, AsEffect, Faithful, or_nowhere, Start, Anything}
use Rattle.dae_lower.proofs.Operators.{lower_base}

module _ (m n : ℕ) (s : ProgramSetup) (l : Links) (p : Program) (calls : Calls) where
  module _ (places : (k : ℕ) → s.address k ≡ l.address k) where
    pub number_given : {X : Type 0} {Was : X → Env → Type 0} (q k v : ℕ) (place : Place) (x : ℕ) (d : VariableSet) → m ≤ v → k ≤ v → Follows m n p calls 1 0 q k d Always Was (λ (z : Unit {0}). Holding (Variable v)) (gives place v (Number x) q) (λ y. Gives x)
    number_given q k v place x d low j = weaker m n p calls 1 0 q 1 0 k d (omega arith) (omega arith) (omega arith) (λ v z. refl) (gives_follows m n p calls q k v place (Number x) (λ y. x) low j (λ y o u. refl))

    -- 1 or 0 in variable v, as a condition holds
    pub decided_in : {X : Type 0} {Was : X → Env → Type 0} (place : Place) (c : VariableSet) (f : ℕ → Made Condition) (g : Env → World → Outcome ℕ) (q v : ℕ) → m ≤ v → v < q → Follows m n p calls 0 2 q q c Always (Anything {X = (Start m n s l p calls)}) Deciding (f q) (λ x. g) → ((x : X) (e o : Env) → Was x e → Kept m q c e o → Was x o) → Follows m n p calls 0 0 q v c Always Was (λ (z : Unit {0}). Holding (Variable v)) (branches place (f q) (gives place v (Number 1)) (gives place v (Number 0))) (λ x env w. g env w ⟫ decided)
    decided_in place c f g q v low j h stays =
        weaker m n p calls 0 0 q 0 0 v c (omega arith) (omega arith) (omega arith) (λ u z. or_nowhere (c u) z)
        (branches_follow m n p calls place (gives place v (Number 1)) (gives place v (Number 0)) (λ x. Gives 1) (λ x. Gives 0) 0 1 0 q q v c nowhere (omega (arith, j))
        (knowing m n p calls 0 2 q (λ x. tt) (λ x o u. tt) h) stays
        (λ o i. number_given o v v place 1 nowhere low (omega arith))
        (λ o i. number_given o v v place 0 nowhere low (omega arith)))

    -- the variable, once it is set
    pub in_variable : (c : VariableSet) (f : Made (Unit {0})) (g : Env → World → Outcome ℕ) (later : VariableSet) (k : ℕ) → m ≤ k → Follows m n p calls 0 2 (k + 1) k c Always (Anything {X = (Start m n s l p calls)}) (λ (z : Unit {0}). Holding (Variable k)) f (λ x. g) → Follows m n p calls 0 2 k k c (Lasts m later k) (Anything {X = (Start m n s l p calls)}) Holding (f ≫ λ x. nothing (Variable k)) (λ x. g)
    in_variable c f g later k low h =
        recast m n p calls (λ x env w. g env w ⟫ Gives) (λ x. g) 0 2 k (λ x env w. given_on (g env w))
        (weaker m n p calls 0 2 k 0 2 k c (omega arith) (omega arith) (omega arith) (λ v z. or_nowhere (c v) z)
        (sooner m n p calls 0 2 (k + 1) k (omega arith)
        (chain m n p calls (λ x. nothing (Variable k)) (λ x. Gives x.1) 0 2 2 (k + 1) k k c nowhere (omega arith) h (λ x e o u t. tt)
        (λ o i z. spared m n p calls 2 0 0 o (nothing_follows m n p calls later o k nowhere (Variable k) (λ x env. x.1) (inl (omega arith, omega (arith, i))) (λ x env o a u. u.1))))))

    pub and_value : (place : Place) (a b : Expression) → (Faithful m n s l p calls) (assigned a) (ways l a) (value s a) → (Faithful m n s l p calls) (assigned b) (ways l b) (value s b) → (AsValue m n s l p calls) (or (assigned a) (assigned b)) (ways l (tree.And place a b)).value (value s (tree.And place a b))
    and_value place a b h i later k r =
        in_variable (or (assigned a) (assigned b)) _ (value s (tree.And place a b)) later k r
        (weaker m n p calls 0 3 (k + 1) 0 2 k (or (assigned a) (assigned b)) (omega arith) (omega arith) (omega arith) (λ v z. z)
        (branches_follow m n p calls place _ _ (λ x env w. value s b env w ⟫ decided) (λ x. Gives 0) 0 10 3 (k + 1) (k + 1) k (assigned a) (assigned b) (omega arith)
        (paid m n p calls 0 2 (k + 1) (h.condition (or later (assigned b)) (k + 1) (omega (arith, r)))) (λ x e o u t. tt)
        (λ o j. weaker m n p calls 10 10 o 10 3 k (assigned b) (omega arith) (omega arith) (omega arith) (λ v z. z) (spared m n p calls 10 0 0 o
        (decided_in place (assigned b) ((ways l b).condition later) (value s b) o k r (omega (arith, j)) (i.condition later o (omega (arith, r, j))) (λ x e o u t. tt))))
        (λ o j. weaker m n p calls 4 3 o 10 3 k (assigned b) (omega arith) (omega arith) (omega arith) (λ v z. z) (spared m n p calls 3 1 0 o (number_given o k k place 0 (assigned b) r (omega arith))))))

    pub or_value : (place : Place) (a b : Expression) → (Faithful m n s l p calls) (assigned a) (ways l a) (value s a) → (Faithful m n s l p calls) (assigned b) (ways l b) (value s b) → (AsValue m n s l p calls) (or (assigned a) (assigned b)) (ways l (tree.Or place a b)).value (value s (tree.Or place a b))
    or_value place a b h i later k r =
        in_variable (or (assigned a) (assigned b)) _ (value s (tree.Or place a b)) later k r
        (weaker m n p calls 0 3 (k + 1) 0 2 k (or (assigned a) (assigned b)) (omega arith) (omega arith) (omega arith) (λ v z. z)
        (branches_follow m n p calls place _ _ (λ x. Gives 1) (λ x env w. value s b env w ⟫ decided) 0 10 3 (k + 1) (k + 1) k (assigned a) (assigned b) (omega arith)
        (paid m n p calls 0 2 (k + 1) (h.condition (or later (assigned b)) (k + 1) (omega (arith, r)))) (λ x e o u t. tt)
        (λ o j. weaker m n p calls 4 3 o 10 3 k (assigned b) (omega arith) (omega arith) (omega arith) (λ v z. z) (spared m n p calls 3 1 0 o (number_given o k k place 1 (assigned b) r (omega arith))))
        (λ o j. weaker m n p calls 10 10 o 10 3 k (assigned b) (omega arith) (omega arith) (omega arith) (λ v z. z) (spared m n p calls 10 0 0 o
        (decided_in place (assigned b) ((ways l b).condition later) (value s b) o k r (omega (arith, j)) (i.condition later o (omega (arith, r, j))) (λ x e o u t. tt))))))

    -- a value in variable v
    pub value_in : {X : Type 0} {Was : X → Env → Type 0} (place : Place) (c : VariableSet) (f : VariableSet → ℕ → Made Operand) (g : Env → World → Outcome ℕ) (later : VariableSet) (q v : ℕ) → m ≤ v → v < q → (AsValue m n s l p calls) c f g → ((x : X) (e o : Env) → Was x e → Kept m q c e o → Was x o) → Follows m n p calls 0 1 q v c Always Was (λ (z : Unit {0}). Holding (Variable v)) (f later q ≫ gives place v) (λ x. g)
    value_in place c f g later q v low j h stays =
        recast m n p calls (λ x env w. g env w ⟫ Gives) (λ x. g) 0 1 q (λ x env w. given_on (g env w))
        (weaker m n p calls 0 1 q 0 1 v c (omega arith) (omega arith) (omega arith) (λ u z. or_nowhere (c u) z)
        (chain m n p calls (gives place v) (λ x. Gives x.1) 0 2 1 q q v c nowhere (omega (arith, j))
        (knowing m n p calls 0 2 q (λ x. tt) (λ x o u. tt) (h later q (omega (arith, low, j)))) stays
        (λ o i z. spared m n p calls 1 1 0 o (gives_follows m n p calls o v v place _ (λ x. x.1) low (omega arith) (λ x o u. u.1)))))

    pub conditional_value : (place : Place) (a b c : Expression) → (Faithful m n s l p calls) (assigned a) (ways l a) (value s a) → (Faithful m n s l p calls) (assigned b) (ways l b) (value s b) → (Faithful m n s l p calls) (assigned c) (ways l c) (value s c) → (AsValue m n s l p calls) (or (assigned a) (or (assigned b) (assigned c))) (ways l (tree.Conditional place a b c)).value (value s (tree.Conditional place a b c))
    conditional_value place a b c h i j later k low =
        in_variable (or (assigned a) (or (assigned b) (assigned c))) _ (value s (tree.Conditional place a b c)) later k low
        (weaker m n p calls 0 11 (k + 1) 0 2 k (or (assigned a) (or (assigned b) (assigned c))) (omega arith) (omega arith) (omega arith) (λ v z. z)
        (branches_follow m n p calls place _ _ (λ x. value s b) (λ x. value s c) 0 10 11 (k + 1) (k + 1) k (assigned a) (or (assigned b) (assigned c)) (omega arith)
        (paid m n p calls 0 2 (k + 1) (h.condition (or later (or (assigned b) (assigned c))) (k + 1) (omega (arith, low)))) (λ x e o u t. tt)
        (λ o r. weaker m n p calls 10 11 o 10 11 k (or (assigned b) (assigned c)) (omega arith) (omega arith) (omega arith) (λ v z. (or_parts (assigned b v) (assigned c v) z).0) (spared m n p calls 10 0 1 o
        (value_in place (assigned b) _ (value s b) later o k low (omega (arith, r)) i.value (λ x e o u t. tt))))
        (λ o r. weaker m n p calls 10 11 o 10 11 k (or (assigned b) (assigned c)) (omega arith) (omega arith) (omega arith) (λ v z. (or_parts (assigned b v) (assigned c v) z).1) (spared m n p calls 10 0 1 o
        (value_in place (assigned c) _ (value s c) later o k low (omega (arith, r)) j.value (λ x e o u t. tt))))))

    pub conditional_effect : (place : Place) (a b c : Expression) → (Faithful m n s l p calls) (assigned a) (ways l a) (value s a) → (Faithful m n s l p calls) (assigned b) (ways l b) (value s b) → (Faithful m n s l p calls) (assigned c) (ways l c) (value s c) → (AsEffect m n s l p calls) (or (assigned a) (or (assigned b) (assigned c))) (ways l (tree.Conditional place a b c)).effect (value s (tree.Conditional place a b c))
    conditional_effect place a b c h i j later k low =
        weaker m n p calls 0 12 k 0 2 k (or (assigned a) (or (assigned b) (assigned c))) (omega arith) (omega arith) (omega arith) (λ v z. z)
        (branches_follow m n p calls place _ _ (λ x. value s b) (λ x. value s c) 0 10 12 k k k (assigned a) (or (assigned b) (assigned c)) (omega arith)
        (paid m n p calls 0 2 k (h.condition (or later (or (assigned b) (assigned c))) k low)) (λ x e o u t. tt)
        (λ o r. weaker m n p calls 10 12 o 10 12 k (or (assigned b) (assigned c)) (omega arith) (omega arith) (omega arith) (λ v z. (or_parts (assigned b v) (assigned c v) z).0) (spared m n p calls 10 0 2 o
        ((lower_base m n s l p calls places) k o r (i.effect later o (omega (arith, low, r))))))
        (λ o r. weaker m n p calls 10 12 o 10 12 k (or (assigned b) (assigned c)) (omega arith) (omega arith) (omega arith) (λ v z. (or_parts (assigned b v) (assigned c v) z).1) (spared m n p calls 10 0 2 o
        ((lower_base m n s l p calls places) k o r (j.effect later o (omega (arith, low, r)))))))
