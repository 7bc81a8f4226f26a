-- The forms of calls and of the functions of the headers follow their evaluation.
use Rattle.std.proofs.Common.{◌≡◌, ℕ, suc, length, ◌+◌, ◌*◌, ◌≤◌, inl, true, List, [], ◌∷◌, refl, ap, ◌∙◌, subst, arith}
use Rattle.dae_base.specs.Words.{extended}
use Rattle.dae_base.specs.declared.Place.{Place}
use Rattle.dae_base.specs.declared.LoadKind.TheVariants.{U8}
use Rattle.dae_meaning.specs.Results.{Over, Halted, Trapped}
use Rattle.dae_meaning.specs.Worlds.{World, ticked}
use Rattle.dae_ir.specs.Code.{Do}
use Rattle.dae_meaning.specs.Operations.{spelled}
use Rattle.dae_meaning.specs.Variables.{Env, put}
use Rattle.dae_ir.specs.Form.{value as held, values as all_held, Calls, Program}
use Rattle.dae_ir.specs.Classes.{VariableSet}
use Rattle.dae_meaning.specs.declared.Spelling.TheVariants.{Byte}
use Rattle.dae_ir.specs.declared.form.Value.TheVariants.{Extended}
use Rattle.dae_ir.specs.declared.form.Check.TheVariants.{Room}
use Rattle.dae_ir.specs.declared.form.Item.TheVariants.{Print, Expect, Call, Halt}
use Rattle.dae_ir.specs.declared.form.Operand.{Operand}
use Rattle.dae_ir.specs.declared.form.Operand.TheVariants.{Variable, Number}
use Rattle.dae_program.specs.Trees as tree
use Rattle.dae_program.specs.Trees.{Expression, Target, Expressions}
use Rattle.dae_program.specs.Outcomes.{Gives, Ends, ◌⟫◌}
use Rattle.dae_program.specs.Expressions.{ProgramSetup, evaluate as value, arguments as values, return_to as returned, with_printed}
use Rattle.dae_lower.specs.Lowering.{nothing, only, emit, set, one, ◌≫◌, or, nowhere, assigned, assigned_all, Links, ways, operands}
use Rattle.dae_lower.proofs.Relation.{at, Agree, Lasts, still, lasts_on, lasts_wider, kept_all, Alike, Both, Stop, put_same}
use Rattle.dae_lower.proofs.Chains.{run, Follows, paid, spared, weaker, knowing, chain}
use Rattle.dae_lower.proofs.Leaves.{Holding, agree_put, kept_put, nothing_follows}
use Rattle.dae_lower.proofs.Valued.{AsValue, AsEffect, Faithful, or_nowhere, unary, Start, Anything}

module _ (m n : ℕ) (s : ProgramSetup) (l : Links) (p : Program) (calls : Calls) where
  module _ (places : (k : ℕ) → s.address k ≡ l.address k) where
    pub putchar_value : (place : Place) (a : Expression) → (Faithful m n s l p calls) (assigned a) (ways l a) (value s a) → (AsValue m n s l p calls) (assigned a) (ways l (tree.Putchar place a)).value (value s (tree.Putchar place a))
    unfolding spelled
    putchar_value place a h later k j =
        (unary m n s l p calls) (assigned a) _ (value s a) (λ x n. only (one place (Print Byte x)) x n ≫ λ x. set place (Extended U8 x)) (λ x env w. Gives (extended U8 x) env (with_printed (spelled Byte x) w)) later k j h.value
        (λ o y i z. record {
          grows = omega arith;
          lasts = inl (i, omega arith);
          runs = λ x env other w c d g u r.
              subst (λ t. Alike m k nowhere (Holding (Variable o)) (d + 0) other (Gives (extended U8 t) env (with_printed (spelled Byte t) w)) (run m n p calls (only (one place (Print Byte y)) y o ≫ λ x. set place (Extended U8 x)).code other (at c w))) u.1
              (Both (extended U8 (held y other)) env (put true o (extended U8 (held y other)) other) (with_printed (spelled Byte (held y other)) w) (c + 1 + 1) (agree_put m n p calls later o _ env other (omega (arith, j, i)) g) (kept_put m n p calls later o k _ other i) (put_same o _ other) (omega (arith, r)));
        })

    pub putchar_effect : (place : Place) (a : Expression) → (Faithful m n s l p calls) (assigned a) (ways l a) (value s a) → (AsEffect m n s l p calls) (assigned a) (ways l (tree.Putchar place a)).effect (value s (tree.Putchar place a))
    putchar_effect place a h later k j =
        (unary m n s l p calls) (assigned a) _ (value s a) (λ x. emit (one place (Print Byte x))) (λ x env w. Gives (extended U8 x) env (with_printed (spelled Byte x) w)) later k j h.value
        (λ o y i z. record {
          grows = omega arith;
          lasts = tt;
          runs = λ x env other w c d g u r.
              subst (λ t. Alike m k nowhere (λ (v : ℕ) (o : Env). Unit {0}) (d + 0) other (Gives (extended U8 t) env (with_printed (spelled Byte t) w)) (run m n p calls (one place (Print Byte y)) other (at c w))) u.1
              (Both (extended U8 (held y other)) env other (with_printed (spelled Byte (held y other)) w) (c + 1) g (kept_all m k nowhere other) tt (omega (arith, r)));
        })

    pub exit_value : (place : Place) (a : Expression) → (Faithful m n s l p calls) (assigned a) (ways l a) (value s a) → (AsValue m n s l p calls) (assigned a) (ways l (tree.Exit place a)).value (value s (tree.Exit place a))
    exit_value place a h later k j =
        (unary m n s l p calls) (assigned a) _ (value s a) (λ x. only (one place (Halt x)) (Number 0)) (λ x env w. Ends (Halted x) w) later k j h.value
        (λ o y i z. record {
          grows = omega arith;
          lasts = tt;
          runs = λ x env other w c d g u r. subst (λ t. Alike m k nowhere (Holding (Number 0)) (d + 0) other (Ends (Halted t) w) (Over (Halted (held y other)) (at (c + 1) w))) u.1 (Stop (Halted (held y other)) w (c + 1) (omega (arith, r)));
        })

    pub abort_value : (place : Place) → (AsValue m n s l p calls) nowhere (ways l (tree.Abort place)).value (value s (tree.Abort place))
    abort_value place later k j = record {
      grows = omega arith;
      lasts = tt;
      runs = λ x env other w i d g u r. Stop (Trapped 5) (ticked w) (i + 1) (omega (arith, r));
    }

    -- ---- calls

    abbrev pub AllLast : VariableSet → ℕ → ℕ → List Operand → Type 0
    AllLast later k o [] = Unit {0}
    AllLast later k o (y ∷ ys) = Lasts m later k o y × AllLast later k o ys

    pub all_wider : (later : VariableSet) (k o j q : ℕ) (ys : List Operand) → j ≤ k → o ≤ q → AllLast later k o ys → AllLast later j q ys
    all_wider later k o j q [] i r h = tt
    all_wider later k o j q (y ∷ ys) i r h = (lasts_wider m later k o j q y i r h.0, all_wider later k o j q ys i r h.1)

    abbrev pub AllHolding : List Operand → List ℕ → Env → Type 0
    AllHolding ys xs o = all_held ys o ≡ xs

    pub both_same : (x y : ℕ) (xs ys : List ℕ) → x ≡ y → xs ≡ ys → x ∷ xs ≡ y ∷ ys
    both_same x y xs ys h i = ap (λ t. t ∷ xs) h ∙ ap (λ t. y ∷ t) i

    -- how many
    abbrev pub amount : Expressions → ℕ
    amount tree.no_expressions = 0
    amount (tree.expression_then a xs) = suc (amount xs)

    pub amount_of : (xs : Expressions) (later : VariableSet) (k : ℕ) → length (operands l xs later k).given ≡ amount xs
    amount_of tree.no_expressions later k = refl
    amount_of (tree.expression_then a xs) later k = ap suc (amount_of xs later _)

    -- what is left of their work pays for one item each
    abbrev pub AllFaithful : Expressions → Type 0
    AllFaithful xs = (later : VariableSet) (k : ℕ) → m ≤ k → Follows m n p calls 0 (amount xs) k k (assigned_all xs) (AllLast later k) (Anything {X = (Start m n s l p calls)}) AllHolding (operands l xs later k) (λ x. values s xs)

    pub no_operands : AllFaithful tree.no_expressions
    no_operands later k j = nothing_follows m n p calls later k k nowhere [] (λ x env. []) tt (λ x env o d u. refl)

    pub more_operands : (a : Expression) (xs : Expressions) → (Faithful m n s l p calls) (assigned a) (ways l a) (value s a) → AllFaithful xs → AllFaithful (tree.expression_then a xs)
    more_operands a xs h i later k j =
        chain m n p calls (λ y n. operands l xs later n ≫ λ ys. nothing (y ∷ ys)) (λ x env w. values s xs env w ⟫ λ words. Gives (x.1 ∷ words)) 0 11 (suc (amount xs)) k k k (assigned a) (assigned_all xs) (omega arith)
        (paid m n p calls 0 2 k (h.value (or later (assigned_all xs)) k j)) (λ x e o u t. tt)
        (λ o r z.
        weaker m n p calls 11 (amount xs + 11) o 11 (suc (amount xs)) k (assigned_all xs) (omega arith) (omega arith) (omega arith) (λ v z. or_nowhere (assigned_all xs v) z)
        (chain m n p calls (λ ys. nothing (((ways l a).value (or later (assigned_all xs)) k).given ∷ ys)) (λ x. Gives (x.0.1 ∷ x.1)) 11 (amount xs + 11) (amount xs + 11) o o k (assigned_all xs) nowhere r
        (knowing m n p calls 11 (amount xs + 11) o (λ x. tt) (λ x o u. tt) (spared m n p calls 11 0 (amount xs) o (i later o (omega (arith, j, r)))))
        (λ x e o' u t. (tt, still m k o later (assigned_all xs) _ e o' j r z t ∙ u.1))
        (λ q y v. weaker m n p calls (0 + (amount xs + 11)) (0 + (amount xs + 11)) q (amount xs + 11) (amount xs + 11) k nowhere (omega arith) (omega arith) (omega arith) (λ v z. z) (spared m n p calls (amount xs + 11) 0 0 q (nothing_follows m n p calls later q k nowhere _ (λ x env. x.0.1 ∷ x.1) (lasts_on m later (assigned_all xs) k o k q _ (omega arith) y z, all_wider later o q k q _ r (omega arith) v) (λ x env o d u. both_same _ _ _ _ u.0.1 u.1))))))

    -- a call behind its test for room does what the program's call does, in variable v
    abbrev pub Called : Type 0
    Called = (place : Place) (f : ℕ) (ys : List Operand) (env other : Env) (w : World) (i t v k : ℕ) → m ≤ v → k ≤ v → Agree m env other → i + (t + (length ys + 4)) + w.loads ≤ 9 * w.items →
        Alike m k nowhere (Holding (Variable v)) t other (returned env (s.calls f (all_held ys other) w))
        (run m n p calls (Do place (Expect (Room (l.callee f))) (one place (Call v (l.callee f) ys))) other (at i w))

    module _ (called : Called) where
      pub call_value : (place : Place) (f : ℕ) (xs : Expressions) → AllFaithful xs → (AsValue m n s l p calls) (assigned_all xs) (ways l (tree.Call place f xs)).value (value s (tree.Call place f xs))
      call_value place f xs h later k j =
          weaker m n p calls 0 2 k 0 2 k (assigned_all xs) (omega arith) (omega arith) (omega arith) (λ v z. or_nowhere (assigned_all xs v) z)
          (chain m n p calls (λ ys n. only (Do place (Expect (Room (l.callee f))) (one place (Call n (l.callee f) ys))) (Variable n) (n + 1)) (λ x env w. returned env (s.calls f x.1 w)) 0 (amount xs + 9) 2 k k k (assigned_all xs) nowhere (omega arith)
          (paid m n p calls 0 (amount xs) k (h later k j)) (λ x e o u t. tt)
          (λ o r z. record {
            grows = omega arith;
            lasts = inl (r, omega arith);
            runs = λ x env other w i t g u v. subst (λ y. Alike m k nowhere (Holding (Variable o)) (t + 2) other (returned env (s.calls f y w)) (run m n p calls (Do place (Expect (Room (l.callee f))) (one place (Call o (l.callee f) (operands l xs later k).given))) other (at i w))) u.1 (called place f (operands l xs later k).given env other w i (t + 2) o k (omega (arith, j, r)) r g (omega (arith, v, amount_of xs later k)));
          }))
